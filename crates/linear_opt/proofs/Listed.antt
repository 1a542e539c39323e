-- The least true critical value, from one distinct subformula after the other.
use Rattle.std.proofs.Common.{◌≡◌, ℕ, ◌+◌, ◌<◌, ◌≤◌, Bool, true, false, cond, if◌then◌else◌, List, [], ◌∷◌, ◌++◌, map, filter, length, get_or, drop, Option, Some, None, refl, sym, ap, ◌∙◌, subst, ◌↔◌}
use Rattle.std.proofs.Math.ListN.{drop_of_length-le}
use Rattle.exact_numbers.specs.Frac.{Frac, IsProper}
use Rattle.logic_meaning.specs.Some.{Among}
use Rattle.logic_meaning.specs.Atom.{Atom}
use Rattle.logic_meaning.specs.Tree.{Tree}
use Rattle.formula_laws.specs.Equivalence.{InContext}
use Rattle.logic_meaning.specs.Context.{Fields}
use Rattle.logic_meaning.specs.Shape.{IsQuantifierFree}
use Rattle.formula_laws.proofs.Listed.{some_among, among_some}
use Rattle.formula_laws.proofs.Iff.{both_ways, turn_round}
use Rattle.logic_meaning.specs.Atoms.{atoms_in}
use Rattle.normal_atoms.specs.Atoms.{atom_of}
use Rattle.formula_tree.specs.declared.shape.Shape.{Shape}
use Rattle.formula_tree.specs.Shapes.{tree_over}
use Rattle.formula_store.specs.declared.id.FormulaId.{FormulaId}
use Rattle.formula_store.specs.Nodes.{tree, IsId}
use Rattle.formula_store.specs.Order.{IsOrder}
use Rattle.branch_points.specs.Chosen.{shape_atoms}
use Rattle.branch_points.proofs.ListedAtoms.{atoms_at}
use Rattle.engine_answers.proofs.Searching.{node_atoms, same_atoms}
use Rattle.logic_meaning.specs.Values.{origin}
use Rattle.logic_meaning.specs.Calculated.{atom_root, with_root, critical_values, least_with, lesser}
use Rattle.sample_reference.proofs.Critical.{roots_proper, from_atom, to_atom}
use Rattle.sample_reference.proofs.CriticalSets.{same_least, once_same}
use Rattle.linear_theory.specs.Answer.{truth_by, is_true_at, is_true_far, true_values, found, least_of, Found, Unbounded, IsAnswer}
use Rattle.linear_theory.specs.WeakTargets.{HasLeast}
use Rattle.linear_theory.proofs.LeastTheoryFound.{among_filter, filter_among, filter_each, critical_lowest, least_found}
use Rattle.linear_opt.specs.Least.{least_from}

-- ---- atoms after atoms

with_append : (o : Option Frac) (xs ys : List Frac) → least_with o (xs ++ ys) ≡ least_with (least_with o xs) ys
with_append o [] ys = refl
with_append o (x ∷ xs) ys = with_append (Some (lesser x o)) xs ys

filter_append : (test : Frac → Bool) (xs ys : List Frac) → filter test (xs ++ ys) ≡ filter test xs ++ filter test ys
filter_append test [] ys = refl
filter_append test (x ∷ xs) ys = go (test x) (filter_append test xs ys)
  where
    go : (b : Bool) → filter test (xs ++ ys) ≡ filter test xs ++ filter test ys → cond b (x ∷ filter test (xs ++ ys)) (filter test (xs ++ ys)) ≡ cond b (x ∷ filter test xs) (filter test xs) ++ filter test ys
    go true e = ap (λ l. x ∷ l) e
    go false e = e

critical_append : (z : ℕ) (xs ys : List Atom) → critical_values z (xs ++ ys) ≡ critical_values z xs ++ critical_values z ys
critical_append z [] ys = refl
critical_append z (x ∷ xs) ys = go (atom_root z x) (critical_append z xs ys)
  where
    go : (o : Option Frac) → critical_values z (xs ++ ys) ≡ critical_values z xs ++ critical_values z ys → with_root o (critical_values z (xs ++ ys)) ≡ with_root o (critical_values z xs) ++ critical_values z ys
    go (Some v) e = ap (λ l. v ∷ l) e
    go None e = e

module _ (z : ℕ) (f : Tree) where
  -- the test of a critical value
  abbrev pub test : Frac → Bool
  test v = truth_by (is_true_at z v) f

  from_append : (o : Option Frac) (xs ys : List Atom) → least_from z f o (xs ++ ys) ≡ least_from z f (least_from z f o xs) ys
  from_append o xs ys =
      ap (λ l. least_with o (filter test l)) (critical_append z xs ys) ∙ ap (λ l. least_with o l) (filter_append test (critical_values z xs) (critical_values z ys))
      ∙ with_append o (filter test (critical_values z xs)) (filter test (critical_values z ys))

  -- ---- the order of the atoms, and repeats, change nothing

  module _ (xs ys : List Atom) (same : (a : Atom) → Among xs a ↔ Among ys a) where
    values_forth : (w : Frac) → Among (critical_values z xs) w → Among (critical_values z ys) w
    values_forth w m = let r = some_among (λ a. atom_root z a ≡ Some w) xs (from_atom z origin xs w m) in to_atom z origin ys w (among_some (λ a. atom_root z a ≡ Some w) ys r.0 ((same r.0).0 r.1) r.2)

    true_forth : (w : Frac) → Among (filter test (critical_values z xs)) w → Among (filter test (critical_values z ys)) w
    true_forth w m = let r = filter_among test (critical_values z xs) w m in among_filter test (critical_values z ys) w (values_forth w r.0) r.1

  same_values : (xs ys : List Atom) → ((a : Atom) → Among xs a ↔ Among ys a) → least_from z f None xs ≡ least_from z f None ys
  same_values xs ys same =
      same_least None (filter test (critical_values z xs)) (filter test (critical_values z ys)) (record {
        first_proper = filter_each IsProper test (critical_values z xs) (roots_proper z origin xs);
        second_proper = filter_each IsProper test (critical_values z ys) (roots_proper z origin ys);
        lowest_terms = λ w m. critical_lowest z xs w (filter_among test (critical_values z xs) w m).0;
        same = λ w. (true_forth xs ys same w, true_forth ys xs (λ a. turn_round (same a)) w);
      })

-- ---- the distinct subformulas

-- what is found so far, and the subformulas left, give what all give
abbrev pub IsFoundAfter : List (Shape FormulaId) → FormulaId → List FormulaId → ℕ → ℕ → Option Frac → Type 0
IsFoundAfter nodes root ids z i least = least_from z (tree nodes root) least (atoms_at nodes (drop i ids)) ≡ least_from z (tree nodes root) None (atoms_at nodes ids)

module _ (nodes : List (Shape FormulaId)) (root : FormulaId) (ids : List FormulaId) (h : IsId nodes root) (o : IsOrder nodes (root ∷ []) ids) (z : ℕ) where
  pub found_more : (i : ℕ) (d : FormulaId) (s : Shape FormulaId) (least next : Option Frac) → i < length ids → tree nodes (get_or ids i d) ≡ tree_over (tree nodes) s →
      next ≡ least_from z (tree nodes root) least (map atom_of (shape_atoms s)) → IsFoundAfter nodes root ids z i least → IsFoundAfter nodes root ids z (i + 1) next
  found_more i d s least next l t e found =
      let f = tree nodes root in
      let rest = atoms_at nodes (drop (i + 1) ids) in
      let own = map atom_of (shape_atoms s) in
      ap (λ w. least_from z f w rest) e ∙ sym (from_append z f least own rest) ∙ ap (λ l. least_from z f least l) (node_atoms nodes root ids h o i d s l t) ∙ found

  pub found_last : (i : ℕ) (least : Option Frac) → length ids ≤ i → IsFoundAfter nodes root ids z i least → least ≡ least_with None (true_values z (tree nodes root))
  found_last i least past found =
      let f = tree nodes root in
      let over : drop i ids ≡ [] = drop_of_length-le ids past in
      ap (λ (l : List FormulaId). least_from z f least (atoms_at nodes l)) (sym over) ∙ found
      ∙ same_values z f (atoms_at nodes ids) (atoms_in f) (λ a. both_ways (same_atoms nodes root ids h o a) (turn_round (once_same f a)))

-- ---- the answer

pub found_far : (z : ℕ) (f : Tree) → truth_by (is_true_far z) f ≡ true → Unbounded ≡ least_of z f
found_far z f e = ap (λ (b : Bool). if b then Unbounded else found (least_with None (true_values z f))) (sym e)

pub found_near : (z : ℕ) (f : Tree) (least : Option Frac) → truth_by (is_true_far z) f ≡ false → least ≡ least_with None (true_values z f) → found least ≡ least_of z f
found_near z f least e l = ap found l ∙ ap (λ (b : Bool). if b then Unbounded else found (least_with None (true_values z f))) (sym e)

pub answered : (z : ℕ) (f : Tree) (r : Found) → r ≡ least_of z f → IsQuantifierFree f → InContext Fields f → HasLeast z f origin → IsAnswer z f r
answered z f r e s i h = subst (IsAnswer z f) (sym e) (least_found z f s i h)
