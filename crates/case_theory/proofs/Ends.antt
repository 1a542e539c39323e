-- The list of branches of a block at its end: cases of the formula, or a formula that the block has become.
use Rattle.std.proofs.Common.{◌≡◌, ℕ, Bool, true, false, List, [], ◌∷◌, ◌++◌, ap, sym, subst, refl, inl, inr, ◌↔◌, nat_eq}
use Rattle.logic_meaning.specs.Context.{Context}
use Rattle.logic_meaning.specs.Point.{Point, Of, move}
use Rattle.logic_meaning.specs.Truth.{SomeTrue}
use Rattle.logic_meaning.specs.Formula.{Or, also}
use Rattle.logic_meaning.specs.Every.{Every, FreeInSome}
use Rattle.logic_meaning.specs.declared.junction.Junction.TheVariants.{Disjunction}
use Rattle.logic_meaning.specs.Some.{SomeOf, Among, EachOf}
use Rattle.formula_laws.specs.StandsOnce.{StandsOnce}
use Rattle.logic_meaning.specs.Atom.{Atom, Says, Mentions}
use Rattle.logic_meaning.specs.Answer.{Answer}
use Rattle.logic_meaning.specs.Tree.{Tree, Trees, TrueAt, IsFree}
use Rattle.formula_laws.proofs.Iff.{both_ways, either_iff}
use Rattle.formula_laws.proofs.Equivalence.{equivalent_self}
use Rattle.formula_laws.proofs.TreeReplacing.{moved_of}
use Rattle.formula_laws.proofs.Fold.{free_of_members, fold_list_has, fold_list_true}
use Rattle.logic_meaning.specs.BothTheories.{IsPlaceIn}
use Rattle.logic_meaning.specs.Answers.{Step, answers_of}
use Rattle.elimination_theory.proofs.BothSubstitutions.{place_in}
use Rattle.logic_meaning.specs.NormalForm.{IsNormal}
use Rattle.shape_theory.specs.Simplifiable.{EquivalentUnder}
use Rattle.logic_meaning.specs.Reference.{normal_tree}
use Rattle.logic_meaning.specs.Cases.{case_sign, case_formula, case_matrix, case_names}
use Rattle.elimination_theory.specs.Theorems.{IsTidy, Says as SaysAll}
use Rattle.logic_meaning.specs.AnswerParts.{guards_of}
use Rattle.elimination_theory.proofs.Tidy.{AreTidy, tidy_fold_list}
use Rattle.elimination_theory.proofs.CasesExact.{says}
use Rattle.case_theory.specs.CaseTree.{without_all, NameBlock, IsCaseUnder, SaysUnder}
use Rattle.case_theory.specs.Under.{Lack, LeadUnder}
use Rattle.case_theory.specs.Block.{ex_all, Somewhere}
use Rattle.case_theory.specs.Pending.{Pending, eliminated, ShareBlock, StaysFree, IsPending, AreTogether, AreEnded, case_of_pending, cases_of_pending, PendingEnds, pending_trees, BlockIsWorked}
use Rattle.case_theory.specs.Inside.{IsPendingInside, InsideIsWorked}
use Rattle.case_theory.proofs.Moved.{lacking_stays}
use Rattle.case_theory.proofs.Without.{without_all_each}
use Rattle.case_theory.proofs.Block.{somewhere_nowhere}
use Rattle.case_theory.proofs.Under.{answers_under, under_then}
use Rattle.case_theory.proofs.Fit.{answers_fit}
use Rattle.case_theory.proofs.Leading.{block_is, free_in_all, matrix_names}
use Rattle.case_theory.proofs.Pending.{over_more}
use Rattle.case_theory.proofs.Inside.{pending_inside}

-- ---- a block under atoms without its names

pub block_under : (c : Context) (ks : List Atom) (block : List ℕ) (f g : Tree) → EachOf (Lack ks) block → EquivalentUnder c ks f g → EquivalentUnder c ks (ex_all block f) (ex_all block g)
block_under c ks [] f g n e p o t = e p o t
block_under c ks (x ∷ xs) f g n e p o t = (
  λ u. (u.0, u.1, u.2, (block_under c ks xs f g n.1 e (move nat_eq p x u.0 u.1) (moved_of c p x u.0 u.1 o u.2) (lacking_stays c ks p x u.0 u.1 n.0 u.2 t)).0 u.3),
  λ u. (u.0, u.1, u.2, (block_under c ks xs f g n.1 e (move nat_eq p x u.0 u.1) (moved_of c p x u.0 u.1 o u.2) (lacking_stays c ks p x u.0 u.1 n.0 u.2 t)).1 u.3),
)

-- what is equivalent to a formula that a formula says, it says
pub says_under : (c : Context) (ks : List Atom) (sign : Bool) (f g h : Tree) → SaysAll c sign f g → EquivalentUnder c ks g h → SaysUnder c ks sign f h
says_under c ks true f g h e d = λ p o t. both_ways (e p o) (d p o t)
says_under c ks false f g h e d = λ p o t. both_ways (e p o) (d p o t)

-- the formula, or its negation, says the block over the matrix
pub says_block : (c : Context) (f : Tree) → Every (IsNormal c) f → SaysAll c (case_sign (normal_tree f)) f (ex_all (case_names f) (case_matrix f))
says_block c f n = subst (λ (g : Tree). SaysAll c (case_sign (normal_tree f)) f g) (sym (block_is (case_formula f) [])) (says c f (case_sign (normal_tree f)) (case_formula f) n (equivalent_self c (case_formula f)))

-- ---- branches in which no name is left

trees_are : (bs : List Pending) → guards_of (cases_of_pending bs) ≡ pending_trees bs
trees_are [] = refl
trees_are (b ∷ bs) = ap (also b.tree) (trees_are bs)

module _ (c : Context) where
  ended_one : (b : Pending) (p : Point ℕ) → b.left ≡ [] → Of c p → Somewhere c (Among b.left) b.tree p ↔ TrueAt c b.tree p
  ended_one b p e o = subst (λ (left : List ℕ). Somewhere c (Among left) b.tree p ↔ TrueAt c b.tree p) (sym e) (somewhere_nowhere c b.tree p o)

  ended_true : (bs : List Pending) (p : Point ℕ) → AreEnded bs → Of c p → SomeOf (λ (b : Pending). Somewhere c (Among b.left) b.tree p) bs ↔ SomeTrue Says (move nat_eq) c (pending_trees bs) p
  ended_true [] p e o = (λ u. u, λ u. u)
  ended_true (b ∷ bs) p e o = either_iff (ended_one b p e.0 o) (ended_true bs p e.1 o)

  -- together they are the block
  ended_block : (ks : List Atom) (matrix : Tree) (block : List ℕ) (bs : List Pending) → AreTogether c ks matrix block bs → AreEnded bs → EquivalentUnder c ks (ex_all block matrix) (Or (pending_trees bs))
  ended_block ks matrix block bs a e p o t = both_ways (a p o t) (ended_true bs p e o)

  -- all names of the block are eliminated
  ended_share : (ks : List Atom) (matrix : Tree) (block : List ℕ) (b : Pending) → IsPending c ks matrix block b → b.left ≡ [] → ShareBlock block (eliminated b) []
  ended_share ks matrix block b i e = subst (λ (left : List ℕ). ShareBlock block (eliminated b) left) e i.share

-- nothing at the end
nothing_more : {X : Type 0} (xs : List X) → xs ++ [] ≡ xs
nothing_more [] = refl
nothing_more (x ∷ xs) = ap (λ ys. x ∷ ys) (nothing_more xs)

all_named : (block done : List ℕ) → ShareBlock block done [] → NameBlock block done
all_named block done s = record {
  once = subst (λ (xs : List ℕ). StandsOnce xs) (nothing_more done) s.once;
  same = λ y. subst (λ (xs : List ℕ). Among xs y ↔ Among block y) (nothing_more done) (s.same y);
}

-- ---- cases

pub lead_places : (c : Context) (ks : List Atom) (steps : List Step) (f g : Tree) → LeadUnder c ks steps f g → EachOf (λ (a : Answer). IsPlaceIn c a.place) (answers_of steps)
lead_places c ks [] f g l = tt
lead_places c ks (s ∷ rest) f g l = (place_in c s.name s.place s.branch l.1.suits, lead_places c ks rest f s.branch l.0)

module _ (c : Context) (ks : List Atom) (f matrix : Tree) (tidy : IsTidy c matrix) (names : (y : ℕ) → IsFree matrix y → ¬ (Among (case_names f) y) → IsFree f y) where
  ended_case : (b : Pending) → IsPending c ks matrix (case_names f) b → b.left ≡ [] → IsCaseUnder c ks f matrix (case_names f) (case_of_pending b)
  ended_case b i e =
      let named = all_named (case_names f) (eliminated b) (ended_share c ks matrix (case_names f) b i e) in
      let kept : (y : ℕ) → StaysFree matrix b y → IsFree f y = λ y k. names y k.0 (λ m. k.1 ((named.same y).1 m)) in
      record {
        exact = λ p o t. answers_under c ks b.steps matrix b.tree p i.lead o t;
        answered = named;
        places = lead_places c ks b.steps matrix b.tree i.lead;
        over = over_more (StaysFree matrix b) (IsFree f) kept (answers_of b.steps) i.over;
        fit = answers_fit c ks b.steps matrix b.tree tidy i.lead;
        tidy = i.tidy;
        names = λ y u. kept y (i.names y u);
      }

  ended_cases : (bs : List Pending) → EachOf (IsPending c ks matrix (case_names f)) bs → AreEnded bs → EachOf (IsCaseUnder c ks f matrix (case_names f)) (cases_of_pending bs)
  ended_cases [] h e = tt
  ended_cases (b ∷ bs) h e = (ended_case b h.0 e.0, ended_cases bs h.1 e.1)

pub pending_ends : (c : Context) → PendingEnds c
pending_ends c theory f matrix bs n w a e =
    let ks = without_all (case_names f) theory in
    record {
      means = w.equivalent;
      tidy = w.tidy;
      each = ended_cases c ks f matrix w.tidy (λ y u. matrix_names c f y (w.names y u)) bs a.each e;
      together = says_under c ks (case_sign (normal_tree f)) f (ex_all (case_names f) (case_matrix f)) (Or (guards_of (cases_of_pending bs))) (says_block c f n)
          (under_then c ks (ex_all (case_names f) (case_matrix f)) (ex_all (case_names f) matrix) (Or (guards_of (cases_of_pending bs)))
          (block_under c ks (case_names f) (case_matrix f) matrix a.lack w.equivalent)
          (subst (λ (ts : Trees). EquivalentUnder c ks (ex_all (case_names f) matrix) (Or ts)) (sym (trees_are bs)) (ended_block c ks matrix (case_names f) bs a.together e)));
    }

-- ---- a block inside a formula

module _ (c : Context) (matrix : Tree) (block : List ℕ) where
  ended_tidy : (bs : List Pending) → EachOf (IsPendingInside c matrix block) bs → AreTidy c (pending_trees bs)
  ended_tidy [] h = tt
  ended_tidy (b ∷ bs) h = (h.0.tidy, ended_tidy bs h.1)

  ended_free : (bs : List Pending) (y : ℕ) → EachOf (IsPendingInside c matrix block) bs → AreEnded bs → FreeInSome Mentions (pending_trees bs) y → IsFree matrix y × ¬ (Among block y)
  ended_free [] y h e u = absurd u
  ended_free (b ∷ bs) y h e (inl u) = let k = h.0.names y u in (k.0, λ m. subst (λ (left : List ℕ). Among left y → ⊥) (sym e.0) (λ n. n) (k.1 m))
  ended_free (b ∷ bs) y h e (inr u) = ended_free bs y h.1 e.1 u

pub inside_worked : (c : Context) → InsideIsWorked c
inside_worked c ks block f g bs w a e =
    let ls = without_all block ks in
    record {
      equivalent = λ p o t.
          both_ways (block_under c ls block f g a.lack w.equivalent p o (without_all_each (λ k. Says k p) block ks t))
          (both_ways (ended_block c ls g block bs a.together e p o (without_all_each (λ k. Says k p) block ks t)) (fold_list_true Says (move nat_eq) c Disjunction (pending_trees bs) p));
      tidy = tidy_fold_list c Disjunction (pending_trees bs) (ended_tidy c g block bs a.each);
      names = λ y.
          fold_list_has (λ h. IsFree h y → IsFree (ex_all block f) y) (λ hs. FreeInSome Mentions hs y → IsFree (ex_all block f) y) (free_of_members Mentions y (IsFree (ex_all block f) y)) Disjunction (pending_trees bs)
          (λ u. let k = ended_free c g block bs y a.each e u in free_in_all block f y (w.names y k.0) k.1);
    }

pub block_worked : (c : Context) → BlockIsWorked c
block_worked c ks block f g bs w a e = inside_worked c ks block f g bs w (pending_inside c (without_all block ks) g block bs a) e
