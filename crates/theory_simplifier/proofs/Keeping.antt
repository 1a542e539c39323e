-- What is made stays as more is made, and members as a store has them.
use Rattle.std.proofs.Common.{◌≡◌, ℕ, ◌+◌, ◌<◌, refl, sym, ap, ◌∙◌, List, [], ◌∷◌, ◌++◌, length, take, map, get_or, Some, arith, nat_eq, eqb-true, true, true≢false}
use Rattle.std.specs.Cmp.{first_so, second_so}
use Rattle.std.specs.Cmp.Lexicographic.{pointwise}
use Rattle.std.proofs.lemmas.List.{take_more}
use Rattle.std.specs.Prelude.{IfOk}
use Rattle.std.specs.declared.result.Result.{Result}
use Rattle.std.specs.declared.result.Result.TheVariants.{Ok, Err}
use Rattle.std.specs.List.{AllByRecursion}
use Rattle.logic_meaning.specs.Formula.{One, also}
use Rattle.logic_meaning.specs.Fold.{from_pieces}
use Rattle.logic_meaning.specs.declared.junction.Junction.{Junction}
use Rattle.logic_meaning.specs.declared.junction.Junction.TheVariants.{Conjunction, Disjunction}
use Rattle.logic_meaning.specs.Atom.{Atom}
use Rattle.logic_meaning.specs.Tree.{Tree}
use Rattle.logic_meaning.specs.AtomsFirst.{ones}
use Rattle.formula_tree.specs.declared.shape.Shape.{Shape}
use Rattle.formula_tree.specs.Makers.{Keeps}
use Rattle.formula_tree.specs.Shapes.{tree_over}
use Rattle.formula_tree.specs.Trees.{members}
use Rattle.formula_store.specs.declared.id.FormulaId.{FormulaId}
use Rattle.formula_store.specs.Nodes.{tree, IsId}
use Rattle.theory_simplifier.specs.declared.joined.Entry.{Entry}
use Rattle.theory_simplifier.specs.Listed.{entry_atom}
use Rattle.theory_simplifier.specs.Parts.{one_tree, joined_shape}
use Rattle.theory_simplifier.proofs.Entries.{map_append}

pub if_ok_map : {X E : Type 0} (r : Result X E) (P Q : X → Type 0) → ((x : X) → P x → Q x) → IfOk r P → IfOk r Q
if_ok_map (Ok x) P Q k h = k x h
if_ok_map (Err e) P Q k h = tt

module _ (a b c : List (Shape FormulaId)) where
  pub keeps_then : Keeps (IsId a) (tree a) (IsId b) (tree b) → Keeps (IsId b) (tree b) (IsId c) (tree c) → Keeps (IsId a) (tree a) (IsId c) (tree c)
  keeps_then h k = record {
    is = λ id i. k.is id (h.is id i);
    same = λ id i. k.same id (h.is id i) ∙ h.same id i;
  }

-- a has become b
module _ (a b : List (Shape FormulaId)) (k : Keeps (IsId a) (tree a) (IsId b) (tree b)) where
  pub still_ids : (ids : List FormulaId) → AllByRecursion (IsId a) ids → AllByRecursion (IsId b) ids
  still_ids [] h = tt
  still_ids (id ∷ ids) h = (k.is id h.0, still_ids ids h.1)

  pub still_trees : (ids : List FormulaId) → AllByRecursion (IsId a) ids → map (tree b) ids ≡ map (tree a) ids
  still_trees [] h = refl
  still_trees (id ∷ ids) h = λ i. k.same id h.0 i ∷ still_trees ids h.1 i

  -- a formula is made for one atom more
  pub one_more : (ids : List FormulaId) (id : FormulaId) (items : List Entry) (i : ℕ) (e : Entry) → AllByRecursion (IsId a) ids → map (tree a) ids ≡ map one_tree (map entry_atom (take i items)) → tree b id ≡ One (entry_atom e) → i < length items → e ≡ get_or items i e
      → map (tree b) (ids ++ id ∷ []) ≡ map one_tree (map entry_atom (take (i + 1) items))
  one_more ids id items i e all so t h is =
      map_append (tree b) ids (id ∷ []) ∙ (λ x. (still_trees ids all ∙ so) x ++ t x ∷ [])
      ∙ sym (ap (λ es. map one_tree (map entry_atom es)) (take_more items i e h ∙ ap (λ x. take i items ++ x ∷ []) (sym is))
      ∙ ap (map one_tree) (map_append entry_atom (take i items) (e ∷ [])) ∙ map_append one_tree (map entry_atom (take i items)) (entry_atom e ∷ []))

pub all_joined : (P : FormulaId → Type 0) (xs ys : List FormulaId) → AllByRecursion P xs → AllByRecursion P ys → AllByRecursion P (xs ++ ys)
all_joined P [] ys h k = k
all_joined P (x ∷ xs) ys h k = (h.0, all_joined P xs ys h.1 k)

-- ---- a list closed

ones_first : (us : List Atom) (fs : List Tree) → members (map one_tree us ++ fs) ≡ ones us (members fs)
ones_first [] fs = refl
ones_first (u ∷ us) fs = ap (also (One u)) (ones_first us fs)

pub ones_members : (t : FormulaId → Tree) (ids os : List FormulaId) (us : List Atom) → map t ids ≡ map one_tree us → members (map t (ids ++ os)) ≡ ones us (members (map t os))
ones_members t ids os us e = ap members (map_append t ids os ∙ ap (λ fs. fs ++ map t os) e) ∙ ones_first us (map t os)

pub whole_joined : (t : FormulaId → Tree) (j : Junction) (ids : List FormulaId) → 1 < length ids → tree_over t (joined_shape j ids) ≡ from_pieces j (Some (members (map t ids)))
whole_joined t j [] h = absurd (omega arith)
whole_joined t j (x ∷ []) h = absurd (omega arith)
whole_joined t Conjunction (x ∷ y ∷ ids) h = refl
whole_joined t Disjunction (x ∷ y ∷ ids) h = refl

-- ---- lists that are the same

pub ids_same : (xs ys : List FormulaId) → pointwise (λ (a b : FormulaId). nat_eq a.number b.number) xs ys ≡ true → xs ≡ ys
ids_same [] [] h = refl
ids_same (x ∷ xs) (y ∷ ys) h =
    let n : x.number ≡ y.number = eqb-true x.number y.number (first_so (nat_eq x.number y.number) (pointwise (λ (a b : FormulaId). nat_eq a.number b.number) xs ys) h) in
    let rest = ids_same xs ys (second_so (nat_eq x.number y.number) (pointwise (λ (a b : FormulaId). nat_eq a.number b.number) xs ys) h) in
    λ i. record { number = n i } ∷ rest i
ids_same xs ys h = absurd (true≢false (sym h))
