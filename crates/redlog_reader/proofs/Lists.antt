-- Lists of several members.
use Rattle.std.proofs.Common.{◌≡◌, List, [], ◌∷◌, map, length, refl}
use Rattle.logic_meaning.specs.Formula.{And, Or}
use Rattle.language_meaning.specs.Trees.{TermTree, Sum, Product, terms_of}
use Rattle.language_meaning.specs.Holes.{over, all_of}
use Rattle.language_meaning.specs.Grammar.{Written, sum_of, product_of, conjunction_of, disjunction_of}

pub many_members : {A : Type 0} (f : A → TermTree) (xs : List A) → (length xs ≡ 1 → ⊥) → sum_of (map f xs) ≡ Sum (terms_of (map f xs))
many_members f [] h = refl
many_members f (t ∷ []) h = absurd (h refl)
many_members f (t ∷ u ∷ ts) h = refl

pub many_factors : {A : Type 0} (f : A → TermTree) (xs : List A) → (length xs ≡ 1 → ⊥) → product_of (map f xs) ≡ Product (terms_of (map f xs))
many_factors f [] h = refl
many_factors f (t ∷ []) h = absurd (h refl)
many_factors f (t ∷ u ∷ ts) h = refl

pub many_conjuncts : {A : Type 0} (f : A → Written) (xs : List A) → (length xs ≡ 1 → ⊥) → conjunction_of (map f xs) ≡ over And (all_of (map f xs))
many_conjuncts f [] h = refl
many_conjuncts f (t ∷ []) h = absurd (h refl)
many_conjuncts f (t ∷ u ∷ ts) h = refl

pub many_disjuncts : {A : Type 0} (f : A → Written) (xs : List A) → (length xs ≡ 1 → ⊥) → disjunction_of (map f xs) ≡ over Or (all_of (map f xs))
many_disjuncts f [] h = refl
many_disjuncts f (t ∷ []) h = absurd (h refl)
many_disjuncts f (t ∷ u ∷ ts) h = refl
