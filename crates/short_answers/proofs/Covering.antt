-- Formulas that are marked unless those marked before them cover them.
use Rattle.std.proofs.Common.{◌≡◌, ℕ, ◌+◌, ◌<◌, ◌⊎◌, Bool, true, false, not, IsTrue, List, [], ◌∷◌, ◌++◌, get_or, map, length, take, inl, inr, ⊎_elim, refl, sym, ap, subst, ◌∙◌, arith, length-append, length-take}
use Rattle.std.proofs.lemmas.List.{append-nil, take_more, map-append}
use Rattle.logic_meaning.specs.Context.{Context}
use Rattle.logic_meaning.specs.Point.{Point, Of}
use Rattle.logic_meaning.specs.Atom.{Atom}
use Rattle.logic_meaning.specs.Fold.{fold_list}
use Rattle.logic_meaning.specs.declared.junction.Junction.TheVariants.{Disjunction}
use Rattle.logic_meaning.specs.Some.{EachOf, SomeOf}
use Rattle.logic_meaning.specs.Tree.{Tree, TrueAt}
use Rattle.elimination_theory.specs.Theorems.{IsTidy}
use Rattle.elimination_theory.proofs.BothTheories.{decided}
use Rattle.elimination_theory.proofs.Tidy.{tidy_in, tidy_fold_list}
use Rattle.normal_atoms.specs.Atoms.{context_of, atom_of}
use Rattle.formula_tree.specs.declared.shape.Shape.{Shape}
use Rattle.formula_tree.specs.Makers.{IsMade}
use Rattle.formula_tree.specs.Trees.{members}
use Rattle.formula_store.specs.declared.id.FormulaId.{FormulaId}
use Rattle.formula_store.specs.Nodes.{tree, IsId}
use Rattle.case_theory.specs.PutThrough.{AreTrue}
use Rattle.branch_pruning.specs.FromAtomPruning.{marked}
use Rattle.branch_pruning.specs.Pruned.{SomeTrue, AreCovering}
use Rattle.branch_rounds.specs.declared.work.Work.{Work}
use Rattle.short_answers.specs.Asking.{IsTidyId, AreTidyIds, NeverTogether}
use Rattle.short_answers.specs.Cases.{AreMembersOf}
use Rattle.short_answers.specs.Opposites.{EachTrue, StayTrueWithout}
use Rattle.short_answers.specs.Shorter.{IsSame}
use Rattle.logic_meaning.specs.NegationNormal.{normal_form_of_not}
use Rattle.logic_meaning.specs.NormalForm.{negated_normal}
use Rattle.formula_store.proofs.Makes.{keeps_then}
use Rattle.short_answers.proofs.Adding.{each_at, each_then}
use Rattle.short_answers.proofs.Distributed.{each_of_front, some_folded, folded_some}
use Rattle.short_answers.proofs.Licensed.{negation_true}
use Rattle.short_answers.proofs.Keeping.{KeepsAll, all_kept, tidy_of, trees_kept}

module _ {X : Type 0} (P : X → Type 0) where
  some_front : (xs ys : List X) → SomeOf P xs → SomeOf P (xs ++ ys)
  some_front [] ys h = absurd h
  some_front (x ∷ xs) ys (inl h) = inl h
  some_front (x ∷ xs) ys (inr h) = inr (some_front xs ys h)

  some_back : (xs ys : List X) → SomeOf P ys → SomeOf P (xs ++ ys)
  some_back [] ys h = h
  some_back (x ∷ xs) ys h = inr (some_back xs ys h)

  some_either : (xs ys : List X) → SomeOf P (xs ++ ys) → SomeOf P xs ⊎ SomeOf P ys
  some_either [] ys h = inr h
  some_either (x ∷ xs) ys (inl h) = inl (inl h)
  some_either (x ∷ xs) ys (inr h) = ⊎_elim (λ k. inl (inr k)) (λ k. inr k) (some_either xs ys h)

  some_unmarked : (bs : List Bool) (xs : List X) → SomeOf P (marked bs xs) → SomeOf P xs
  some_unmarked [] xs h = absurd h
  some_unmarked (b ∷ bs) [] h = h
  some_unmarked (true ∷ bs) (x ∷ xs) (inl h) = inl h
  some_unmarked (true ∷ bs) (x ∷ xs) (inr h) = inr (some_unmarked bs xs h)
  some_unmarked (false ∷ bs) (x ∷ xs) h = inr (some_unmarked bs xs h)

  pub each_marked : (bs : List Bool) (xs : List X) → EachOf P xs → EachOf P (marked bs xs)
  each_marked [] xs h = tt
  each_marked (b ∷ bs) [] h = tt
  each_marked (true ∷ bs) (x ∷ xs) h = (h.0, each_marked bs xs h.1)
  each_marked (false ∷ bs) (x ∷ xs) h = each_marked bs xs h.1

marked_more : {X : Type 0} (bs : List Bool) (xs : List X) (b : Bool) (x : X) → length bs ≡ length xs → marked (bs ++ b ∷ []) (xs ++ x ∷ []) ≡ marked bs xs ++ marked (b ∷ []) (x ∷ [])
marked_more [] [] b x e = refl
marked_more [] (y ∷ xs) b x e = absurd (omega arith)
marked_more (a ∷ bs) [] b x e = absurd (omega arith)
marked_more (true ∷ bs) (y ∷ xs) b x e = ap (λ zs. y ∷ zs) (marked_more bs xs b x (omega arith))
marked_more (false ∷ bs) (y ∷ xs) b x e = marked_more bs xs b x (omega arith)

-- one place more
marked_at : {X : Type 0} (bs : List Bool) (xs : List X) (i : ℕ) (d : X) → length bs ≡ length xs → i < length xs → marked (take (i + 1) bs) (take (i + 1) xs) ≡ marked (take i bs) (take i xs) ++ marked (get_or bs i false ∷ []) (get_or xs i d ∷ [])
marked_at bs xs i d e within =
    let first : length (take i bs) ≡ length (take i xs) = omega (arith, length-take i bs, length-take i xs) in
    (λ j. marked (take_more bs i false (omega arith) j) (take_more xs i d within j)) ∙ marked_more (take i bs) (take i xs) (get_or bs i false) (get_or xs i d) first

pub marked_here : {X : Type 0} (bs : List Bool) (xs : List X) (i : ℕ) (d : X) → length bs ≡ length xs → i < length xs → get_or bs i false ≡ true → marked (take (i + 1) bs) (take (i + 1) xs) ≡ marked (take i bs) (take i xs) ++ get_or xs i d ∷ []
marked_here bs xs i d e within m = marked_at bs xs i d e within ∙ ap (λ b. marked (take i bs) (take i xs) ++ marked (b ∷ []) (get_or xs i d ∷ [])) m

pub marked_gone : {X : Type 0} (bs : List Bool) (xs : List X) (i : ℕ) (d : X) → length bs ≡ length xs → i < length xs → get_or bs i false ≡ false → marked (take (i + 1) bs) (take (i + 1) xs) ≡ marked (take i bs) (take i xs)
marked_gone bs xs i d e within m = marked_at bs xs i d e within ∙ ap (λ b. marked (take i bs) (take i xs) ++ marked (b ∷ []) (get_or xs i d ∷ [])) m ∙ append-nil (marked (take i bs) (take i xs))

marked_mapped : (t : FormulaId → Tree) (bs : List Bool) (ids : List FormulaId) → map t (marked bs ids) ≡ marked bs (map t ids)
marked_mapped t [] ids = refl
marked_mapped t (b ∷ bs) [] = refl
marked_mapped t (true ∷ bs) (id ∷ ids) = ap (λ (fs : List Tree). t id ∷ fs) (marked_mapped t bs ids)
marked_mapped t (false ∷ bs) (id ∷ ids) = marked_mapped t bs ids

trees_tidy : (c : Context) (nodes : List (Shape FormulaId)) (ids : List FormulaId) → AreTidyIds c nodes ids → EachOf (IsTidy c) (map (tree nodes) ids)
trees_tidy c nodes [] h = tt
trees_tidy c nodes (id ∷ ids) h = (h.0.tidy, trees_tidy c nodes ids h.1)

module _ (c : Context) (ks : List Atom) where
  some_decided : (p : Point ℕ) → Of c p → (fs : List Tree) → EachOf (IsTidy c) fs → SomeTrue c fs p ⊎ ¬ (SomeTrue c fs p)
  some_decided p o [] h = inr (λ k. k)
  some_decided p o (f ∷ fs) h =
      ⊎_elim (λ t. inl (inl t)) (λ n. ⊎_elim (λ t. inl (inr t)) (λ m. inr (λ s. ⊎_elim n m s)) (some_decided p o fs h.1)) (decided c f p (tidy_in c f h.0) o)

  -- where some of the formulas is true, some is that is marked; where none of these is, the opposites are
  pub record SoFar (fs : List Tree) (bs : List Bool) (gs : List Tree) : Type 0 where
    pub one_each : length bs ≡ length fs
    pub cover : (p : Point ℕ) → Of c p → AreTrue ks p → SomeTrue c fs p → SomeTrue c (marked bs fs) p
    pub opposed : (p : Point ℕ) → Of c p → AreTrue ks p → ¬ (SomeTrue c (marked bs fs) p) → EachTrue c gs p

  pub none_yet : SoFar [] [] []
  none_yet = record { one_each = refl; cover = λ p o k h. h; opposed = λ p o k n. tt }

  pub all_covered : (fs : List Tree) (bs : List Bool) (gs : List Tree) → SoFar fs bs gs → AreCovering c ks fs bs
  all_covered fs bs gs s = record { one_each = s.one_each; cover = s.cover }

  module _ (fs : List Tree) (bs : List Bool) (f : Tree) (gs hs : List Tree) (tidy : EachOf (IsTidy c) fs) (s : SoFar fs bs gs) (stay : StayTrueWithout c f gs hs) where
    lengths : (b : Bool) → length (bs ++ b ∷ []) ≡ length (fs ++ f ∷ [])
    lengths b = length-append bs (b ∷ []) ∙ ap (λ n. n + 1) s.one_each ∙ sym (length-append fs (f ∷ []))

    -- one that is covered has no mark
    covered_more : NeverTogether c ks (f ∷ gs) → SoFar (fs ++ f ∷ []) (bs ++ false ∷ []) hs
    covered_more never = record {
      one_each = lengths false;
      cover = λ p o k h.
          let P = λ (g : Tree). TrueAt c g p in
          subst (λ xs. SomeTrue c xs p) (sym (marked_more bs fs false f s.one_each))
          (some_front P (marked bs fs) []
          (⊎_elim (λ old. s.cover p o k old)
          (λ new. ⊎_elim (λ t. ⊎_elim (λ m. m) (λ n. absurd (never p o k (t, s.opposed p o k n))) (some_decided p o (marked bs fs) (each_marked (IsTidy c) bs fs tidy))) (λ m. absurd m) new)
          (some_either P fs (f ∷ []) h)));
      opposed = λ p o k n.
          let P = λ (g : Tree). TrueAt c g p in
          let before = s.opposed p o k (λ m. n (subst (λ xs. SomeTrue c xs p) (sym (marked_more bs fs false f s.one_each)) (some_front P (marked bs fs) [] m))) in
          stay p o before (λ t. never p o k (t, before));
    }

    -- another one has
    uncovered_more : SoFar (fs ++ f ∷ []) (bs ++ true ∷ []) hs
    uncovered_more = record {
      one_each = lengths true;
      cover = λ p o k h.
          let P = λ (g : Tree). TrueAt c g p in
          subst (λ xs. SomeTrue c xs p) (sym (marked_more bs fs true f s.one_each))
          (⊎_elim (λ old. some_front P (marked bs fs) (f ∷ []) (s.cover p o k old)) (λ new. some_back P (marked bs fs) (f ∷ []) new) (some_either P fs (f ∷ []) h));
      opposed = λ p o k n.
          let P = λ (g : Tree). TrueAt c g p in
          let none = λ (m : SomeTrue c (marked bs fs ++ f ∷ []) p). n (subst (λ xs. SomeTrue c xs p) (sym (marked_more bs fs true f s.one_each)) m) in
          stay p o (s.opposed p o k (λ m. none (some_front P (marked bs fs) (f ∷ []) m))) (λ t. none (some_back P (marked bs fs) (f ∷ []) (inl t)));
    }

    pub one_more : (covered : Bool) → (IsTrue covered → NeverTogether c ks (f ∷ gs)) → SoFar (fs ++ f ∷ []) (bs ++ not covered ∷ []) hs
    one_more true never = covered_more (never refl)
    one_more false never = uncovered_more

-- ---- the opposites

pub stay_kept : (c : Context) (a b : List (Shape FormulaId)) → KeepsAll a b → (f : Tree) (ids : List FormulaId) → AreTidyIds c a ids → StayTrueWithout c f (map (tree a) ids) (map (tree b) ids)
stay_kept c a b k f ids t p o h n = subst (λ (fs : List Tree). EachTrue c fs p) (sym (trees_kept c a b k ids t)) h

pub stay_pushed : (c : Context) (a now b : List (Shape FormulaId)) (id opposite : FormulaId) (ids : List FormulaId) → KeepsAll a now → KeepsAll now b → IsTidyId c a id → AreTidyIds c a ids →
    IsMade (IsId b) (tree b) opposite (normal_form_of_not negated_normal (tree now id)) → StayTrueWithout c (tree a id) (map (tree a) ids) (map (tree b) (ids ++ opposite ∷ []))
stay_pushed c a now b id opposite ids before after t ts made p o h n =
    let true_not = negation_true c (tree a id) p t.tidy o n in
    let same : tree b opposite ≡ normal_form_of_not negated_normal (tree a id) = made.same ∙ ap (normal_form_of_not negated_normal) (before.same id t.is) in
    subst (λ (fs : List Tree). EachTrue c fs p) (sym (map-append (tree b) ids (opposite ∷ [])))
    (each_then (λ (f : Tree). TrueAt c f p) (map (tree b) ids) (tree b opposite) (stay_kept c a b (keeps_then a now b before after) (tree a id) ids ts p o h n) (subst (λ (f : Tree). TrueAt c f p) (sym same) true_not))

-- ---- one formula more of a list

pub so_far_more : (c : Context) (ks : List Atom) (old now new : List (Shape FormulaId)) (formulas opposites more : List FormulaId) (i : ℕ) (marks : List Bool) (covered : Bool) → KeepsAll old now → AreTidyIds c old formulas → i < length formulas →
    SoFar c ks (map (tree old) (take i formulas)) marks (map (tree now) opposites) →
    (IsTrue covered → NeverTogether c ks (tree now (get_or formulas i (record { number = 0 })) ∷ map (tree now) opposites)) → StayTrueWithout c (tree now (get_or formulas i (record { number = 0 }))) (map (tree now) opposites) (map (tree new) more) →
    SoFar c ks (map (tree old) (take (i + 1) formulas)) (marks ++ not covered ∷ []) (map (tree new) more)
so_far_more c ks old now new formulas opposites more i marks covered kept tidy within s never stay =
    let d : FormulaId = record { number = 0 } in
    let x = get_or formulas i d in
    let gs = map (tree now) opposites in
    let same : tree now x ≡ tree old x = kept.same x (each_at (IsTidyId c old) formulas i d within tidy).is in
    let longer : map (tree old) (take (i + 1) formulas) ≡ map (tree old) (take i formulas) ++ tree old x ∷ [] = ap (map (tree old)) (take_more formulas i d within) ∙ map-append (tree old) (take i formulas) (x ∷ []) in
    subst (λ (fs : List Tree). SoFar c ks fs (marks ++ not covered ∷ []) (map (tree new) more)) (sym longer)
    (one_more c ks (map (tree old) (take i formulas)) marks (tree old x) gs (map (tree new) more) (trees_tidy c old (take i formulas) (each_of_front (IsTidyId c old) i formulas tidy)) s
    (subst (λ (f : Tree). StayTrueWithout c f gs (map (tree new) more)) same stay) covered (λ yes_covered. subst (λ (f : Tree). NeverTogether c ks (f ∷ gs)) same (never yes_covered)))

-- the marked members, in a disjunction
pub marked_same : (w : Work) (f : Tree) (a b nodes : List (Shape FormulaId)) (ms left : List FormulaId) (bs : List Bool) (id : FormulaId) → KeepsAll a b → IsTidy (context_of w.context) f → AreMembersOf f a ms →
    AreCovering (context_of w.context) (map atom_of w.assumed.now) (map (tree a) ms) bs → left ≡ marked bs ms → IsMade (IsId nodes) (tree nodes) id (fold_list Disjunction (members (map (tree b) left))) → IsSame w f nodes id
marked_same w f a b nodes ms left bs id kept t mem cov is made =
    let c = context_of w.context in
    let tidy : AreTidyIds c a left = subst (AreTidyIds c a) (sym is) (each_marked (IsTidyId c a) bs ms (mem.tidy c t)) in
    let trees : map (tree b) left ≡ marked bs (map (tree a) ms) = trees_kept c a b kept left tidy ∙ ap (map (tree a)) is ∙ marked_mapped (tree a) bs ms in
    let whole : tree nodes id ≡ fold_list Disjunction (members (marked bs (map (tree a) ms))) = made.same ∙ ap (λ (fs : List Tree). fold_list Disjunction (members fs)) trees in
    record {
      tidy = record { is = made.is; tidy = subst (IsTidy c) (sym made.same) (tidy_fold_list c Disjunction (members (map (tree b) left)) (tidy_of c b left (all_kept c a b kept left tidy))) };
      same = λ p o k. (
        λ h. subst (λ (g : Tree). TrueAt c g p) (sym whole) (some_folded c p (marked bs (map (tree a) ms)) (cov.cover p o k ((mem.some c p).0 h))),
        λ h. (mem.some c p).1 (some_unmarked (λ (g : Tree). TrueAt c g p) bs (map (tree a) ms) (folded_some c p (marked bs (map (tree a) ms)) (subst (λ (g : Tree). TrueAt c g p) whole h))),
      );
    }
