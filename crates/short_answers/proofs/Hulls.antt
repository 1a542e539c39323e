-- Formulas that follow from another one.
use Rattle.std.proofs.Common.{◌≡◌, ℕ, ◌+◌, ◌<◌, List, [], ◌∷◌, get_or, length, map, take, inl, inr, sym, subst}
use Rattle.std.proofs.lemmas.List.{take_more}
use Rattle.logic_meaning.specs.Context.{Context}
use Rattle.logic_meaning.specs.Point.{Point, Of}
use Rattle.logic_meaning.specs.Atom.{Atom}
use Rattle.logic_meaning.specs.Formula.{No}
use Rattle.logic_meaning.specs.Fold.{fold_list}
use Rattle.logic_meaning.specs.declared.junction.Junction.TheVariants.{Conjunction}
use Rattle.logic_meaning.specs.Some.{EachOf}
use Rattle.logic_meaning.specs.Tree.{Tree, TrueAt}
use Rattle.elimination_theory.specs.Theorems.{IsTidy}
use Rattle.elimination_theory.proofs.Tidy.{tidy_fold_list}
use Rattle.normal_atoms.specs.Atoms.{context_of, atom_of}
use Rattle.formula_tree.specs.declared.shape.Shape.{Shape}
use Rattle.formula_tree.specs.Makers.{IsMade}
use Rattle.formula_tree.specs.Trees.{members}
use Rattle.formula_store.specs.declared.id.FormulaId.{FormulaId}
use Rattle.formula_store.specs.Nodes.{tree, IsId}
use Rattle.case_theory.specs.PutThrough.{AreTrue}
use Rattle.branch_pruning.specs.Pruned.{SomeTrue}
use Rattle.branch_rounds.specs.declared.work.Work.{Work}
use Rattle.short_answers.specs.Asking.{AreFollowing, AreTidyIds, FollowsUnder, IsFollowing, IsTidyId, NeverTogether}
use Rattle.short_answers.specs.Cases.{AreCasesOf}
use Rattle.short_answers.specs.Opposites.{EachTrue}
use Rattle.logic_meaning.specs.NegationNormal.{normal_form_of_not}
use Rattle.logic_meaning.specs.NormalForm.{negated_normal}
use Rattle.short_answers.proofs.Adding.{each_at, each_then}
use Rattle.short_answers.proofs.Distributed.{each_folded}
use Rattle.short_answers.proofs.Keeping.{KeepsAll, all_kept, tidy_kept, tidy_of, trees_kept}
use Rattle.short_answers.proofs.Licensed.{follows}

module _ (c : Context) (ks : List Atom) (p : Point ℕ) (o : Of c p) (k : AreTrue ks p) (n : List (Shape FormulaId)) where
  some_follows : (g : Tree) (ids : List FormulaId) → EachOf (λ id. FollowsUnder c ks (tree n id) g) ids → SomeTrue c (map (tree n) ids) p → TrueAt c g p
  some_follows g [] e h = absurd h
  some_follows g (id ∷ ids) e (inl h) = e.0 p o k h
  some_follows g (id ∷ ids) e (inr h) = some_follows g ids e.1 h

  none_true : (ids : List FormulaId) → EachOf (λ id. NeverTogether c ks (tree n id ∷ [])) ids → ¬ (SomeTrue c (map (tree n) ids) p)
  none_true [] e h = h
  none_true (id ∷ ids) e (inl h) = e.0 p o k (h, tt)
  none_true (id ∷ ids) e (inr h) = none_true ids e.1 h

pub cases_kept : (c : Context) (f : Tree) (a b : List (Shape FormulaId)) (ids : List FormulaId) → KeepsAll a b → IsTidy c f → AreCasesOf f a ids → AreCasesOf f b ids
cases_kept c f a b ids k t h = record {
  tidy = λ d td. all_kept d a b k ids (h.tidy d td);
  some = λ d p s. subst (λ (fs : List Tree). SomeTrue d fs p) (sym (trees_kept c a b k ids (h.tidy c t))) (h.some d p s);
}

module _ (w : Work) (f : Tree) where
  -- what follows from each of the cases
  pub follows_cases : (old now new : List (Shape FormulaId)) (cases : List FormulaId) (id : FormulaId) → KeepsAll old now → KeepsAll now new → AreTidyIds (context_of w.context) old cases → IsTidyId (context_of w.context) now id → AreCasesOf f old cases →
      EachOf (λ (one : FormulaId). FollowsUnder (context_of w.context) (map atom_of w.assumed.now) (tree now one) (tree now id)) cases → IsFollowing w f new id
  follows_cases old now new cases id before after tidy is are each =
      let c = context_of w.context in
      record {
        tidy = tidy_kept c now new after id is;
        follows = λ p o k h.
            subst (λ (g : Tree). TrueAt c g p) (sym (after.same id is.is))
            (some_follows c (map atom_of w.assumed.now) p o k now (tree now id) cases each (subst (λ (gs : List Tree). SomeTrue c gs p) (sym (trees_kept c old now before cases tidy)) (are.some c p h)));
      }

  -- nothing is true where no case is
  pub never_case : (n new : List (Shape FormulaId)) (cases : List FormulaId) (id : FormulaId) → AreCasesOf f n cases → EachOf (λ (one : FormulaId). NeverTogether (context_of w.context) (map atom_of w.assumed.now) (tree n one ∷ [])) cases →
      IsMade (IsId new) (tree new) id No → IsFollowing w f new id
  never_case n new cases id are each made =
      let c = context_of w.context in
      record {
        tidy = record { is = made.is; tidy = subst (IsTidy c) (sym made.same) (record { is_plain = tt; normal = tt; two_members = tt }) };
        follows = λ p o k h. absurd (none_true c (map atom_of w.assumed.now) p o k n cases each (are.some c p h));
      }

  pub one_following_kept : (a b : List (Shape FormulaId)) (id : FormulaId) → KeepsAll a b → IsFollowing w f a id → IsFollowing w f b id
  one_following_kept a b id k h = record {
    tidy = tidy_kept (context_of w.context) a b k id h.tidy;
    follows = subst (λ (g : Tree). FollowsUnder (context_of w.context) (map atom_of w.assumed.now) f g) (sym (k.same id h.tidy.is)) h.follows;
  }

  pub following_kept : (a b : List (Shape FormulaId)) (ids : List FormulaId) → KeepsAll a b → AreFollowing w f a ids → AreFollowing w f b ids
  following_kept a b [] k h = tt
  following_kept a b (id ∷ ids) k h = (one_following_kept a b id k h.0, following_kept a b ids k h.1)

  pub following_tidy : (n : List (Shape FormulaId)) (ids : List FormulaId) → AreFollowing w f n ids → AreTidyIds (context_of w.context) n ids
  following_tidy n [] h = tt
  following_tidy n (id ∷ ids) h = (h.0.tidy, following_tidy n ids h.1)

  each_following : (n : List (Shape FormulaId)) (ids : List FormulaId) → AreFollowing w f n ids → (p : Point ℕ) → Of (context_of w.context) p → AreTrue (map atom_of w.assumed.now) p → TrueAt (context_of w.context) f p → EachTrue (context_of w.context) (map (tree n) ids) p
  each_following n [] h p o k t = tt
  each_following n (id ∷ ids) h p o k t = (h.0.follows p o k t, each_following n ids h.1 p o k t)

  -- the conjunction of what follows
  pub hull_follows : (n new : List (Shape FormulaId)) (ids : List FormulaId) (id : FormulaId) → AreFollowing w f n ids → IsMade (IsId new) (tree new) id (fold_list Conjunction (members (map (tree n) ids))) → IsFollowing w f new id
  hull_follows n new ids id h made =
      let c = context_of w.context in
      record {
        tidy = record { is = made.is; tidy = subst (IsTidy c) (sym made.same) (tidy_fold_list c Conjunction (members (map (tree n) ids)) (tidy_of c n ids (following_tidy n ids h))) };
        follows = λ p o k t. subst (λ (g : Tree). TrueAt c g p) (sym made.same) (each_folded c p (map (tree n) ids) (each_following n ids h p o k t));
      }

-- ---- one case more

module _ (c : Context) (ks : List Atom) (old now : List (Shape FormulaId)) (kept : KeepsAll old now) (cases : List FormulaId) (i : ℕ) (within : i < length cases) (tidy : AreTidyIds c old cases) where
  abbrev case_there : FormulaId
  case_there = get_or cases i (record { number = 0 })

  same_there : tree now case_there ≡ tree old case_there
  same_there = kept.same case_there (each_at (IsTidyId c old) cases i (record { number = 0 }) within tidy).is

  pub case_tidy : IsTidyId c now case_there
  case_tidy = tidy_kept c old now kept case_there (each_at (IsTidyId c old) cases i (record { number = 0 }) within tidy)

  more_cases : (P : FormulaId → Type 0) → EachOf P (take i cases) → P case_there → EachOf P (take (i + 1) cases)
  more_cases P h k = subst (EachOf P) (sym (take_more cases i (record { number = 0 }) within)) (each_then P (take i cases) case_there h k)

  pub never_more : EachOf (λ (id : FormulaId). NeverTogether c ks (tree old id ∷ [])) (take i cases) → NeverTogether c ks (tree now case_there ∷ []) → EachOf (λ (id : FormulaId). NeverTogether c ks (tree old id ∷ [])) (take (i + 1) cases)
  never_more h k = more_cases (λ (id : FormulaId). NeverTogether c ks (tree old id ∷ [])) h (subst (λ (f : Tree). NeverTogether c ks (f ∷ [])) same_there k)

  pub follows_more : (g : Tree) → EachOf (λ (id : FormulaId). FollowsUnder c ks (tree old id) g) (take i cases) → FollowsUnder c ks (tree now case_there) g → EachOf (λ (id : FormulaId). FollowsUnder c ks (tree old id) g) (take (i + 1) cases)
  follows_more g h k = more_cases (λ (id : FormulaId). FollowsUnder c ks (tree old id) g) h (subst (λ (f : Tree). FollowsUnder c ks f g) same_there k)

  -- a case that is never true together with the negation of a formula
  pub denied_more : (g : Tree) (opposite : FormulaId) → IsTidy c g → IsMade (IsId now) (tree now) opposite (normal_form_of_not negated_normal g) → EachOf (λ (id : FormulaId). FollowsUnder c ks (tree old id) g) (take i cases) →
      NeverTogether c ks (tree now case_there ∷ tree now opposite ∷ []) → EachOf (λ (id : FormulaId). FollowsUnder c ks (tree old id) g) (take (i + 1) cases)
  denied_more g opposite t made h never = follows_more g h (follows c ks (tree now case_there) g t (subst (λ (f : Tree). NeverTogether c ks (tree now case_there ∷ f ∷ [])) made.same never))
