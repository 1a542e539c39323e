-- The whole list of test points over the integers.
use Rattle.std.proofs.Common.{◌≡◌, ℕ, ◌<◌, ◌≤◌, ◌+◌, ◌/◌, ◌^◌, true, false, List, ◌++◌, map, flat_map, length, All, sym, ap, ap₂, ◌∙◌, subst, arith, length-append, Result, Err, inl, inr, unsigned_abs, int_div, to_z, of_z}
use Rattle.std.proofs.Math.IntN.{ℤ, pos, neg_ℤ}
use Rattle.std.specs.Prelude.{◌<ℤ◌, ◌≤ℤ◌}
use Rattle.std.specs.Int.{w64, w128, FitsUnsigned}
use Rattle.std.proofs.lemmas.Int.{ints}
use Rattle.std.proofs.lemmas.Bool.{cases_lt}
use Rattle.exact_numbers.specs.Limit.{InLimit}
use Rattle.exact_numbers.specs.Divides.{Divides}
use Rattle.exact_numbers.proofs.Casts.{read_back}
use Rattle.exact_numbers.proofs.Divisibility.{divides_same}
use Rattle.logic_meaning.specs.Some.{EachOf}
use Rattle.logic_meaning.specs.Form.{coefficient}
use Rattle.logic_meaning.specs.Atom as meant
use Rattle.logic_meaning.specs.Answer.{Place, Periodic, same_place}
use Rattle.logic_meaning.specs.Distinct.{distinct}
use Rattle.formula_laws.proofs.Same.{place_same}
use Rattle.logic_meaning.specs.declared.side.Side.{Side}
use Rattle.logic_meaning.specs.Overflow.{PlaceWithin}
use Rattle.logic_meaning.specs.IntegersPoints.{signed, class_points, next_points, atom_starts, scale_of, own_span, integer_points_of, integer_count_of}
use Rattle.elimination_theory.proofs.IntegerCount.{points_are_counted}
use Rattle.elimination_theory.proofs.IntegerScale.{scale_reaches, scale_positive, span_scale}
use Rattle.elimination_theory.proofs.SomeListed.{each_map, each_right, each_append, each_distinct, each_of_distinct}
use Rattle.logic_meaning.specs.Limits.{each, place_within}
use Rattle.normal_atoms.specs.declared.atoms.Atom.{Atom}
use Rattle.normal_atoms.specs.Atoms.{atom_of, IsWellFormed}
use Rattle.elimination_theory.proofs.WithinTests.{each_tests, place_tests, refuted}
use Rattle.test_points.specs.Periods.{IsReached}
use Rattle.test_points.specs.Starts.{beside_atom}
use Rattle.test_points.proofs.Multiples.{IsSpanned}
use Rattle.test_points.proofs.Steps.{begins_spanned, all_in_integers}
use Rattle.test_points.proofs.Beside.{each_counted, signed_in}
use Rattle.test_points.proofs.Collected.{joined_twice}
use Rattle.test_points.proofs.Apart.{classes_first}

pub each_reached : (x : ℕ) (atoms : List Atom) (s : ℤ) → All IsWellFormed atoms → s ≡ pos (scale_of x (map atom_of atoms)) → EachOf (λ (a : meant.Atom). IsReached (unsigned_abs s) (coefficient x (meant.form_of a))) (map atom_of atoms)
each_reached x atoms s w e =
    each_map (IsSpanned (unsigned_abs s) x) (λ (a : meant.Atom). IsReached (unsigned_abs s) (coefficient x (meant.form_of a))) (λ a h. h.1) (map atom_of atoms) (begins_spanned x atoms s w e)

pub scale_divides : (x : ℕ) (atoms : List Atom) (s d : ℤ) → All IsWellFormed atoms → s ≡ pos (scale_of x (map atom_of atoms)) → d ≡ pos (own_span x (map atom_of atoms)) → Divides s d
scale_divides x atoms s d w e f =
    let l = scale_of x (map atom_of atoms) in
    let n = own_span x (map atom_of atoms) in
    let h = span_scale l x n (map atom_of atoms) (scale_positive x (map atom_of atoms)) (all_in_integers atoms w) (scale_reaches x l (map atom_of atoms) (divides_same (pos l))) (divides_same (pos n)) in
    subst (λ (z : ℤ). Divides z d) (sym e) (subst (λ (z : ℤ). Divides (pos l) z) (sym f) h)

-- the number of residue classes, as the program computes it
pub passed_classes : (q s d : ℤ) (l n : ℕ) → InLimit q → InLimit s → InLimit d → q ≡ int_div (to_z w128 (of_z w128 d)) (to_z w128 (of_z w128 s)) → s ≡ pos l → d ≡ pos n → to_z w128 (of_z w128 q) ≡ pos (n / l)
passed_classes q s d l n wq ws wd e f g = read_back q wq ∙ e ∙ ap₂ int_div (read_back d wd ∙ g) (read_back s ws ∙ f)

pub too_many : (z : ℤ) (n : ℕ) → z ≡ pos n → (FitsUnsigned w64 z → ⊥) → 2 ^ 64 ≤ n
too_many z n e f = elim (cases_lt n (2 ^ 64)) [
  | inl lt ↦ let low : pos 0 ≤ℤ z = omega (arith, ints) in let high : z <ℤ pos (2 ^ 64) = omega (arith, ints) in absurd (f (low, high))
  | inr ge ↦ ge
]

neg_in : (n : ℕ) → InLimit (pos n) → InLimit (neg_ℤ (pos n))
neg_in n h = omega (arith, ints)

pub classes_within : (side : Side) (n : ℕ) → InLimit (pos n) → each place_within (class_points side n) ≡ true
classes_within side n h =
    (each_tests place_within PlaceWithin place_tests (class_points side n)).1
    (each_counted PlaceWithin (λ j. Periodic (signed side (pos j)) (signed side (neg_ℤ (pos n)))) 1 n (λ k lt. (signed_in side (pos (1 + k)) (omega arith), signed_in side (neg_ℤ (pos n)) (neg_in n h))))

module _ (side : Side) (x : ℕ) (atoms : List Atom) where
  -- the numbers beside the ends, in the theory's words
  ends_same : (s p : ℤ) → s ≡ pos (scale_of x (map atom_of atoms)) → p ≡ pos (own_span x (map atom_of atoms)) →
      flat_map (beside_atom side (unsigned_abs s) (unsigned_abs p) x) (map atom_of atoms)
      ≡ flat_map (next_points side (scale_of x (map atom_of atoms)) (own_span x (map atom_of atoms))) (flat_map (atom_starts side (scale_of x (map atom_of atoms)) x) (map atom_of atoms))
  ends_same s p e f =
      ap₂ (λ (a b : ℤ). flat_map (beside_atom side (unsigned_abs a) (unsigned_abs b) x) (map atom_of atoms)) e f
      ∙ sym (joined_twice (next_points side (scale_of x (map atom_of atoms)) (own_span x (map atom_of atoms))) (atom_starts side (scale_of x (map atom_of atoms)) x) (map atom_of atoms))

  -- the classes, and behind them the numbers beside the ends, each once
  pub whole : (points classes ends : List Place) (n : ℕ) (s p : ℤ) → s ≡ pos (scale_of x (map atom_of atoms)) → p ≡ pos (own_span x (map atom_of atoms)) → n ≡ own_span x (map atom_of atoms) / scale_of x (map atom_of atoms) →
      classes ≡ class_points side n → ends ≡ flat_map (beside_atom side (unsigned_abs s) (unsigned_abs p) x) (map atom_of atoms) → points ≡ classes ++ distinct same_place ends →
      points ≡ integer_points_of side x (map atom_of atoms)
  whole points classes ends n s p e f g h k i =
      i
      ∙ ap₂ (λ (c t : List Place). c ++ distinct same_place t) (h ∙ ap (class_points side) g) (k ∙ ends_same s p e f)
      ∙ sym (classes_first side (own_span x (map atom_of atoms) / scale_of x (map atom_of atoms)) (scale_of x (map atom_of atoms)) (own_span x (map atom_of atoms)) (flat_map (atom_starts side (scale_of x (map atom_of atoms)) x) (map atom_of atoms)))

  pub all_within : (s p : ℤ) → s ≡ pos (scale_of x (map atom_of atoms)) → p ≡ pos (own_span x (map atom_of atoms)) → InLimit (pos (own_span x (map atom_of atoms) / scale_of x (map atom_of atoms))) →
      each place_within (flat_map (beside_atom side (unsigned_abs s) (unsigned_abs p) x) (map atom_of atoms)) ≡ true → each place_within (integer_points_of side x (map atom_of atoms)) ≡ true
  all_within s p e f w h =
      let classes = class_points side (own_span x (map atom_of atoms) / scale_of x (map atom_of atoms)) in
      let ends = flat_map (next_points side (scale_of x (map atom_of atoms)) (own_span x (map atom_of atoms))) (flat_map (atom_starts side (scale_of x (map atom_of atoms)) x) (map atom_of atoms)) in
      let a = (each_tests place_within PlaceWithin place_tests classes).0 (classes_within side (own_span x (map atom_of atoms) / scale_of x (map atom_of atoms)) w) in
      let b = (each_tests place_within PlaceWithin place_tests ends).0 (ap (each place_within) (sym (ends_same s p e f)) ∙ h) in
      (each_tests place_within PlaceWithin place_tests (integer_points_of side x (map atom_of atoms))).1 (each_distinct same_place PlaceWithin (classes ++ ends) (each_append PlaceWithin classes ends a b))

  pub some_fails : (s p : ℤ) → s ≡ pos (scale_of x (map atom_of atoms)) → p ≡ pos (own_span x (map atom_of atoms)) →
      each place_within (flat_map (beside_atom side (unsigned_abs s) (unsigned_abs p) x) (map atom_of atoms)) ≡ false → each place_within (integer_points_of side x (map atom_of atoms)) ≡ false
  some_fails s p e f h =
      let classes = class_points side (own_span x (map atom_of atoms) / scale_of x (map atom_of atoms)) in
      let ends = flat_map (next_points side (scale_of x (map atom_of atoms)) (own_span x (map atom_of atoms))) (flat_map (atom_starts side (scale_of x (map atom_of atoms)) x) (map atom_of atoms)) in
      refuted (each place_within (integer_points_of side x (map atom_of atoms))) (each_tests place_within PlaceWithin place_tests (integer_points_of side x (map atom_of atoms)))
      (λ q.
      let r = each_right PlaceWithin classes ends (each_of_distinct same_place place_same PlaceWithin (classes ++ ends) q) in
      let t : each place_within ends ≡ true = (each_tests place_within PlaceWithin place_tests ends).1 r in
      let z : true ≡ false = sym t ∙ ap (each place_within) (sym (ends_same s p e f)) ∙ h in
      absurd (cc))

  pub many_ends : (s p : ℤ) (limit : ℕ) → s ≡ pos (scale_of x (map atom_of atoms)) → p ≡ pos (own_span x (map atom_of atoms)) → limit < 2 ^ 64 →
      2 ^ 64 ≤ length (flat_map (beside_atom side (unsigned_abs s) (unsigned_abs p) x) (map atom_of atoms)) → limit < integer_count_of side x (map atom_of atoms)
  many_ends s p limit e f w h =
      let classes = class_points side (own_span x (map atom_of atoms) / scale_of x (map atom_of atoms)) in
      let ends = flat_map (next_points side (scale_of x (map atom_of atoms)) (own_span x (map atom_of atoms))) (flat_map (atom_starts side (scale_of x (map atom_of atoms)) x) (map atom_of atoms)) in
      let a = length-append classes ends in
      let b = ap length (ends_same s p e f) in
      omega arith

  pub many_classes : (limit : ℕ) → limit < 2 ^ 64 → 2 ^ 64 ≤ own_span x (map atom_of atoms) / scale_of x (map atom_of atoms) → limit < integer_count_of side x (map atom_of atoms)
  many_classes limit w h = let a = points_are_counted side x (map atom_of atoms) in omega arith

-- an error is the same in every result
pub same_error : {X Y E : Type 0} (a b : E) → ◌≡◌ {A = Result X E} (Err a) (Err b) → ◌≡◌ {A = Result Y E} (Err a) (Err b)
same_error a b h = let e : a ≡ b = cc in ap Err e
