-- Marks that go one after another, while those that are left cover all.
use Rattle.std.proofs.Common.{◌≡◌, ◌≢◌, ℕ, zero, suc, ◌+◌, ◌<◌, Bool, true, false, List, [], ◌∷◌, ◌++◌, take, Option, Some, None, length, map, get_or, inl, inr, ⊎_elim, refl, sym, ap, subst, ◌∙◌, arith}
use Rattle.std.proofs.lemmas.List.{take_more, get_or-set_other, get_or-replicate}
use lib.ListN.{replicate, set}
use Rattle.std.specs.Prelude.{IfSome, IsSomeAnd}
use Rattle.logic_meaning.specs.Context.{Context}
use Rattle.logic_meaning.specs.Point.{Point, Of}
use Rattle.logic_meaning.specs.Some.{SomeOf}
use Rattle.logic_meaning.specs.Atom.{Atom}
use Rattle.logic_meaning.specs.Formula.{Yes}
use Rattle.logic_meaning.specs.Tree.{Tree, TrueAt}
use Rattle.formula_tree.specs.declared.shape.Shape.{Shape}
use Rattle.formula_store.specs.declared.id.FormulaId.{FormulaId}
use Rattle.formula_store.specs.Nodes.{tree}
use Rattle.formula_store.proofs.Marked.{equal_or_not}
use Rattle.atom_pruning.specs.declared.rows.AtomRows.{AtomRows}
use Rattle.atom_pruning.specs.Rows.{AreRows}
use Rattle.atom_pruning.specs.Kept.{AllSay, marked}
use Rattle.branch_pruning.specs.declared.conjunction.Conjunction.{Conjunction}
use Rattle.branch_pruning.specs.Pruned.{AreCovering}
use Rattle.branch_pruning.specs.Compared.{IsConjunctionOf, AreConjunctionsOf, Implies, IsCovered}

module _ (c : Context) (ks : List Atom) (fs : List Tree) where
  -- where a formula is true, one is that has a mark
  pub record Cover (bs : List Bool) : Type 0 where
    pub some : (p : Point ℕ) → Of c p → AllSay ks p → (k : ℕ) → k < length fs → TrueAt c (get_or fs k Yes) p → (m : ℕ) × (m < length fs) × (get_or bs m false ≡ true) × TrueAt c (get_or fs m Yes) p

some_at : {X : Type 0} (P : X → Type 0) (xs : List X) (d : X) → SomeOf P xs → (k : ℕ) × (k < length xs) × P (get_or xs k d)
some_at P [] d h = absurd h
some_at P (x ∷ xs) d (inl h) = (0, omega arith, h)
some_at P (x ∷ xs) d (inr h) = let r = some_at P xs d h in (suc r.0, (let l = r.1 in omega arith), r.2)

at_marked : {X : Type 0} (P : X → Type 0) (bs : List Bool) (xs : List X) (m : ℕ) (d : X) → m < length xs → get_or bs m false ≡ true → P (get_or xs m d) → SomeOf P (marked bs xs)
at_marked P [] xs m d l e h = cc
at_marked P (b ∷ bs) [] m d l e h = absurd (omega arith)
at_marked P (true ∷ bs) (x ∷ xs) zero d l e h = inl h
at_marked P (false ∷ bs) (x ∷ xs) zero d l e h = cc
at_marked P (true ∷ bs) (x ∷ xs) (suc m) d l e h = inr (at_marked P bs xs m d (omega arith) e h)
at_marked P (false ∷ bs) (x ∷ xs) (suc m) d l e h = at_marked P bs xs m d (omega arith) e h

-- ---- conjunctions at their places

conjunction_at : (c : Context) (nodes : List (Shape FormulaId)) (ids : List FormulaId) (all : List (Option Conjunction)) → AreConjunctionsOf c nodes ids all → (i : ℕ) (d : FormulaId) (k : Conjunction) → i < length all → get_or all i None ≡ Some k →
    IsConjunctionOf c nodes (tree nodes (get_or ids i d)) k
conjunction_at c nodes [] [] a i d k l e = absurd (omega arith)
conjunction_at c nodes [] (o ∷ all) a i d k l e = absurd a
conjunction_at c nodes (id ∷ ids) [] a i d k l e = absurd a
conjunction_at c nodes (id ∷ ids) (o ∷ all) a zero d k l e = subst (λ q. IfSome q (IsConjunctionOf c nodes (tree nodes id))) e a.0
conjunction_at c nodes (id ∷ ids) (o ∷ all) a (suc i) d k l e = conjunction_at c nodes ids all a.1 i d k (omega arith) e

pub conjunctions_length : (c : Context) (nodes : List (Shape FormulaId)) (ids : List FormulaId) (all : List (Option Conjunction)) → AreConjunctionsOf c nodes ids all → length all ≡ length ids
conjunctions_length c nodes [] [] a = refl
conjunctions_length c nodes [] (o ∷ all) a = absurd a
conjunctions_length c nodes (id ∷ ids) [] a = absurd a
conjunctions_length c nodes (id ∷ ids) (o ∷ all) a = ap suc (conjunctions_length c nodes ids all a.1)

-- one conjunction more
pub conjunctions_more : (c : Context) (nodes : List (Shape FormulaId)) (ids : List FormulaId) (all : List (Option Conjunction)) (i : ℕ) (d : FormulaId) (k : Option Conjunction) → i < length ids → AreConjunctionsOf c nodes (take i ids) all →
    IfSome k (IsConjunctionOf c nodes (tree nodes (get_or ids i d))) → AreConjunctionsOf c nodes (take (i + 1) ids) (all ++ k ∷ [])
conjunctions_more c nodes ids all i d k l a h = subst (λ xs. AreConjunctionsOf c nodes xs (all ++ k ∷ [])) (sym (take_more ids i d l)) (joined (take i ids) all a)
  where
    joined : (xs : List FormulaId) (os : List (Option Conjunction)) → AreConjunctionsOf c nodes xs os → AreConjunctionsOf c nodes (xs ++ get_or ids i d ∷ []) (os ++ k ∷ [])
    joined [] [] b = (h, tt)
    joined [] (o ∷ os) b = absurd b
    joined (x ∷ xs) [] b = absurd b
    joined (x ∷ xs) (o ∷ os) b = (b.0, joined xs os b.1)

-- the element at a place of the list whatever stands past it
one_default : {X : Type 0} (xs : List X) (i : ℕ) (d e : X) → i < length xs → get_or xs i d ≡ get_or xs i e
one_default [] i d e l = absurd (omega arith)
one_default (x ∷ xs) zero d e l = refl
one_default (x ∷ xs) (suc i) d e l = one_default xs i d e (omega arith)

get_or-trees : (t : FormulaId → Tree) (ids : List FormulaId) (i : ℕ) (d : FormulaId) → i < length ids → get_or (map t ids) i Yes ≡ t (get_or ids i d)
get_or-trees t [] i d l = absurd (omega arith)
get_or-trees t (id ∷ ids) zero d l = refl
get_or-trees t (id ∷ ids) (suc i) d l = get_or-trees t ids i d (omega arith)

length-trees : (t : FormulaId → Tree) (ids : List FormulaId) → length (map t ids) ≡ length ids
length-trees t [] = refl
length-trees t (id ∷ ids) = ap suc (length-trees t ids)

-- ---- covers

module _ (c : Context) (ks : List Atom) (nodes : List (Shape FormulaId)) (ids : List FormulaId) where
  abbrev trees_of : List Tree
  trees_of = map (tree nodes) ids

  pub all_cover : (bs : List Bool) (n : ℕ) → length ids ≡ n → bs ≡ replicate n true → Cover c ks trees_of bs
  all_cover bs n e h = record {
    some = λ p o s k l t. let same = length-trees (tree nodes) ids in (k, l, subst (λ ms. get_or ms k false ≡ true) (sym h) (get_or-replicate n k true false (omega arith)), t);
  }

  pub are_covering : (bs : List Bool) → length bs ≡ length ids → Cover c ks trees_of bs → AreCovering c ks trees_of bs
  are_covering bs e h = record {
    one_each = e ∙ sym (length-trees (tree nodes) ids);
    cover = λ p o s t.
        let k = some_at (λ f. TrueAt c f p) trees_of Yes t in
        let m = h.some p o s k.0 k.1 k.2 in
        at_marked (λ f. TrueAt c f p) bs trees_of m.0 Yes m.1 m.2 m.3;
  }

  -- a covered formula loses its mark
  pub cover_less : (rows : List AtomRows) (all : List (Option Conjunction)) (bs : List Bool) (i : ℕ) (k : Conjunction) → AreRows c ks rows → AreConjunctionsOf c nodes ids all → i < length all → get_or all i None ≡ Some k →
      IsCovered rows k i all bs → Cover c ks trees_of bs → Cover c ks trees_of (set bs i false)
  cover_less rows all bs i k are a l e v h = record {
    some = λ p o s n in_fs t.
        let m = h.some p o s n in_fs t in
        ⊎_elim
        (λ (q : m.0 ≡ i).
        let many = conjunctions_length c nodes ids all a in
        let same = length-trees (tree nodes) ids in
        let there = v.there in
        let d : FormulaId = record { number = 0 } in
        let one = conjunction_at c nodes ids all a i d k l e in
        let two = conjunction_at c nodes ids all a v.other d v.conjunction v.there v.is in
        let here : TrueAt c (tree nodes (get_or ids i d)) p = subst (λ f. TrueAt c f p) (ap (λ x. get_or trees_of x Yes) q ∙ get_or-trees (tree nodes) ids i d (omega arith)) m.3 in
        let other = (two.says c p).1 (v.implied c ks (tree nodes) are one.rows two.rows p o s ((one.says c p).0 here)) in
        let ne : v.other ≢ i = v.differs in (
          v.other,
          omega arith,
          get_or-set_other bs i v.other false false ne ∙ v.marked,
          subst (λ f. TrueAt c f p) (sym (get_or-trees (tree nodes) ids v.other d (omega arith))) other,
        ))
        (λ (q : m.0 ≢ i). (m.0, m.1, get_or-set_other bs i m.0 false false q ∙ m.2, m.3))
        (equal_or_not m.0 i);
  }

-- the conjunction at a place that another one is implied by
pub covered_by : (rows : List AtomRows) (k : Conjunction) (place : ℕ) (all : List (Option Conjunction)) (marks : List Bool) (i : ℕ) (o : Option Conjunction) → i < length all → o ≡ get_or all i o → ¬ (i ≡ place) → get_or marks i false ≡ true →
    IsSomeAnd o (Implies rows k) → IsCovered rows k place all marks
covered_by rows k place all marks i None l e d m h = absurd h
covered_by rows k place all marks i (Some other) l e d m h = record {
  other = i;
  conjunction = other;
  there = l;
  is = one_default all i None (Some other) l ∙ sym e;
  differs = d;
  marked = m;
  implied = h;
}

-- the formula at a place, if another one covers it, loses its mark
pub cover_step : (c : Context) (ks : List Atom) (nodes : List (Shape FormulaId)) (ids : List FormulaId) (rows : List AtomRows) (all : List (Option Conjunction)) (bs : List Bool) (i : ℕ) (o : Option Conjunction) → AreRows c ks rows →
    AreConjunctionsOf c nodes ids all → i < length all → o ≡ get_or all i o → IsSomeAnd o (λ k. IsCovered rows k i all bs) → Cover c ks (map (tree nodes) ids) bs → Cover c ks (map (tree nodes) ids) (set bs i false)
cover_step c ks nodes ids rows all bs i None are a l e v h = absurd v
cover_step c ks nodes ids rows all bs i (Some k) are a l e v h = cover_less c ks nodes ids rows all bs i k are a l (one_default all i None (Some k) l ∙ sym e) v h
