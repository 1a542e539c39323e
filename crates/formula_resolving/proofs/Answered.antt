-- What names stand for, where commands inside the formula have answers.
use Rattle.std.proofs.Common.{◌≡◌, ℕ, zero, suc, ◌<◌, ◌≤◌, ◌||◌, List, [], ◌∷◌, length, map, get_or, Option, Some, None, ap, ap₂, sym, ◌∙◌, refl, arith}
use Rattle.std.specs.Prelude.{is_some, option_map, slice_get}
use Rattle.std.specs.List.{AllByRecursion}
use Rattle.logic_meaning.specs.Tree.{Tree}
use Rattle.language_meaning.specs.Holes.{inner_name}
use Rattle.logic_meaning.specs.Bindings.{bound_to}
use Rattle.formula_tree.specs.Makers.{Keeps}
use Rattle.language_meaning.specs.Answers.{with_inner}
use Rattle.written_atoms.proofs.FromResolvedFormulas.{beside_answers, answer_at}
use Rattle.formula_resolving.specs.BoundIds.{AreIds, trees_bound, answered_trees}
use Rattle.formula_resolving.specs.Numbering.{AreShort, some_bound}
use Rattle.formula_resolving.proofs.AtomLaws.{bound_tree}
use Rattle.formula_resolving.proofs.PartLaws.{trees_stay, bound_stays}

module _ {Id : Type 0} (tree : Id → Tree) where
  -- a short name stands for what is bound to it
  pub beside : (answers : List Tree) (bound : List (List ℕ × Id)) (x : List ℕ) → length x ≤ 64 → bound_to (with_inner answers (trees_bound tree bound)) x ≡ option_map tree (bound_to bound x)
  beside answers bound x l = beside_answers x 0 answers (trees_bound tree bound) l ∙ bound_tree tree bound x

  some_mapped : (o : Option Id) → is_some (option_map tree o) ≡ is_some o
  some_mapped None = refl
  some_mapped (Some i) = refl

  -- so it is bound where it was
  pub same_bound : (inner : List Id) (bound : List (List ℕ × Id)) (xs : List (List ℕ)) → AreShort xs → some_bound bound xs ≡ some_bound (answered_trees tree inner bound) xs
  same_bound inner bound [] h = refl
  same_bound inner bound (x ∷ xs) h =
      ap₂ (λ a b. a || b) (sym (ap (λ o. is_some o) (beside (map tree inner) bound x h.0) ∙ some_mapped (bound_to bound x))) (same_bound inner bound xs h.1)

  get_mapped : (ids : List Id) (i : ℕ) (d : Id) → i < length ids → slice_get (map tree ids) i ≡ Some (tree (get_or ids i d))
  get_mapped [] i d l = absurd (omega (arith, l))
  get_mapped (id ∷ ids) zero d l = refl
  get_mapped (id ∷ ids) (suc i) d l = get_mapped ids i d (omega (arith, l))

  length_mapped : (ids : List Id) → length (map tree ids) ≡ length ids
  length_mapped [] = refl
  length_mapped (i ∷ ids) = omega (arith, length_mapped ids)

  -- the name of an answer stands for the answer
  pub answer_there : (inner : List Id) (bound : List (List ℕ × Id)) (i : ℕ) (d : Id) → i < length inner → bound_to (answered_trees tree inner bound) (inner_name i) ≡ Some (tree (get_or inner i d))
  answer_there inner bound i d l = answer_at 0 i i (map tree inner) (trees_bound tree bound) (omega arith) (omega (arith, length_mapped inner)) ∙ get_mapped inner i d l

-- what was made stays, and names stand for the same
module _ {Id : Type 0} (P : Id → Type 0) (t : Id → Tree) (Q : Id → Type 0) (u : Id → Tree) (k : Keeps P t Q u) where
  pub answered_stays : (inner : List Id) (bound : List (List ℕ × Id)) → AllByRecursion P inner → AreIds P bound → answered_trees u inner bound ≡ answered_trees t inner bound
  answered_stays inner bound h b = ap₂ (λ ts bs. with_inner ts bs) (trees_stay P t Q u k inner h) (bound_stays P t Q u k bound b)

-- each answer is an id
pub id_at : {Id : Type 0} (P : Id → Type 0) (ids : List Id) (i : ℕ) (d : Id) → AllByRecursion P ids → i < length ids → P (get_or ids i d)
id_at P [] i d h l = absurd (omega (arith, l))
id_at P (id ∷ ids) zero d h l = h.0
id_at P (id ∷ ids) (suc i) d h l = id_at P ids i d h.1 (omega (arith, l))
