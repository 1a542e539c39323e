-- Lists with the same atoms give the same test points.
use Rattle.std.proofs.Common.{◌≡◌, ℕ, ◌<◌, ◌/◌, ℤ, pos, List, [], ◌∷◌, ◌++◌, flat_map, ap, sym, subst, arith, inl, inr, ⊎_elim, ◌↔◌}
use Rattle.std.specs.Prelude.{◌≤ℤ◌}
use Rattle.std.proofs.lemmas.Int.{ints}
use Rattle.exact_numbers.specs.Divides.{Divides}
use Rattle.exact_numbers.proofs.Divisibility.{divides_same, divides_both}
use Rattle.logic_meaning.specs.Context.{Context, Fields, Integers}
use Rattle.logic_meaning.specs.Some.{SomeOf, Among, EachOf}
use Rattle.logic_meaning.specs.Distinct.{distinct}
use Rattle.logic_meaning.specs.Form.{coefficient}
use Rattle.logic_meaning.specs.Atom.{Atom, form_of}
use Rattle.formula_laws.specs.TheoryAtoms.{AtomIn}
use Rattle.logic_meaning.specs.Answer.{Place, same_place}
use Rattle.logic_meaning.specs.Tree.{Tree}
use Rattle.formula_laws.specs.Equivalence.{InContext}
use Rattle.formula_laws.proofs.Listed.{some_among, among_some, among_left, among_right, among_append, among_flat_map, flat_map_among, among_distinct, distinct_among}
use Rattle.formula_laws.proofs.Same.{place_same}
use Rattle.logic_meaning.specs.declared.side.Side.{Side}
use Rattle.logic_meaning.specs.Atoms.{atoms_of}
use Rattle.logic_meaning.specs.BothTheories.{test_points}
use Rattle.logic_meaning.specs.FieldsPoints.{infinity_of, atom_points, field_points_of}
use Rattle.logic_meaning.specs.IntegersPoints.{scale_of, own_span, atom_starts, class_points, next_points, points_with, integer_points_of}
use Rattle.elimination_theory.specs.IntegersTheorems.{IsMultipleOf, SpansAtom}
use Rattle.elimination_theory.proofs.IntegerLeast.{scale_is_least, span_is_least}
use Rattle.elimination_theory.proofs.SomeListed.{each_among, atoms_of_every}
use Rattle.case_theory.proofs.Lists.{each_from}

-- each element of the first list is one of the second
abbrev Covers : {X : Type 0} → List X → List X → Type 0
Covers {X} xs ys = (x : X) → Among xs x → Among ys x

module _ {X : Type 0} where
  pub each_covered : (P : X → Type 0) (xs ys : List X) → ((x : X) → Among xs x → Among ys x) → EachOf P ys → EachOf P xs
  each_covered P xs ys h e = each_from P xs (λ x m. each_among P ys x e (h x m))

  pub some_covered : (P : X → Type 0) (xs ys : List X) → ((x : X) → Among xs x → Among ys x) → SomeOf P xs → SomeOf P ys
  some_covered P xs ys h s = let r = some_among P xs s in among_some P ys r.0 (h r.0 r.1) r.2

  flat_map_covered : {Y : Type 0} (g : X → List Y) (xs ys : List X) → Covers xs ys → Covers (flat_map g xs) (flat_map g ys)
  flat_map_covered g xs ys h y m = let r = flat_map_among g xs y m in among_flat_map g ys r.0 y (h r.0 r.1) r.2

  append_covered : (front xs ys : List X) → Covers xs ys → Covers (front ++ xs) (front ++ ys)
  append_covered front xs ys h x m = ⊎_elim (λ k. among_left front ys x k) (λ k. among_right front ys x (h x k)) (among_append front xs x m)

places_covered : (xs ys : List Place) → Covers xs ys → Covers (distinct same_place xs) (distinct same_place ys)
places_covered xs ys h s m = among_distinct same_place place_same ys s (h s (distinct_among same_place xs s m))

-- ---- the fields

field_covered : (side : Side) (x : ℕ) (xs ys : List Atom) → Covers xs ys → Covers (field_points_of side x xs) (field_points_of side x ys)
field_covered side x xs ys h =
    places_covered (infinity_of side ∷ flat_map (atom_points side x) xs) (infinity_of side ∷ flat_map (atom_points side x) ys)
    (append_covered (infinity_of side ∷ []) (flat_map (atom_points side x) xs) (flat_map (atom_points side x) ys) (flat_map_covered (atom_points side x) xs ys h))

-- ---- the integers

same_number : (m n : ℕ) → Divides (pos m) (pos n) → Divides (pos n) (pos m) → m ≡ n
same_number m n d e =
    let p : pos 0 ≤ℤ pos m = omega (arith, ints) in
    let q : pos 0 ≤ℤ pos n = omega (arith, ints) in
    let k : pos m ≡ pos n = divides_both p q d e in
    omega (arith, ints)

module _ (x : ℕ) where
  scale_divides : (xs ys : List Atom) → Covers xs ys → Divides (pos (scale_of x xs)) (pos (scale_of x ys))
  scale_divides xs ys h =
      let n = scale_of x ys in
      let P : Atom → Type 0 = λ a. IsMultipleOf (coefficient x (form_of a)) n in
      ((scale_is_least x xs).1 n).0 (each_covered P xs ys h (((scale_is_least x ys).1 n).1 (divides_same (pos n))))

  same_scale : (xs ys : List Atom) → Covers xs ys → Covers ys xs → scale_of x xs ≡ scale_of x ys
  same_scale xs ys h k = same_number (scale_of x xs) (scale_of x ys) (scale_divides xs ys h) (scale_divides ys xs k)

  span_divides : (xs ys : List Atom) → EachOf (AtomIn Integers) xs → EachOf (AtomIn Integers) ys → scale_of x xs ≡ scale_of x ys → Covers xs ys → Divides (pos (own_span x xs)) (pos (own_span x ys))
  span_divides xs ys inside others e h =
      let n = own_span x ys in
      let own = ((span_is_least x ys others).1 n).1 (divides_same (pos n)) in
      let P : ℕ → Type 0 = λ l. Divides (pos l) (pos n) × EachOf (SpansAtom x l n) ys in
      let moved = subst P (sym e) own in
      ((span_is_least x xs inside).1 n).0 (moved.0, each_covered (SpansAtom x (scale_of x xs) n) xs ys h moved.1)

  module _ (side : Side) (xs ys : List Atom) (inside : EachOf (AtomIn Integers) xs) (others : EachOf (AtomIn Integers) ys) (h : Covers xs ys) (k : Covers ys xs) where
    with_covered : (l d : ℕ) → Covers (points_with side l d x xs) (points_with side l d x ys)
    with_covered l d =
        append_covered (class_points side (d / l)) (flat_map (next_points side l d) (flat_map (atom_starts side l x) xs)) (flat_map (next_points side l d) (flat_map (atom_starts side l x) ys))
        (flat_map_covered (next_points side l d) (flat_map (atom_starts side l x) xs) (flat_map (atom_starts side l x) ys) (flat_map_covered (atom_starts side l x) xs ys h))

    integer_covered : Covers (integer_points_of side x xs) (integer_points_of side x ys)
    integer_covered =
        let scale = same_scale xs ys h k in
        let span = same_number (own_span x xs) (own_span x ys) (span_divides xs ys inside others scale h) (span_divides ys xs others inside (sym scale) k) in
        let P : ℕ → ℕ → Type 0 = λ l d. Covers (integer_points_of side x xs) (distinct same_place (points_with side l d x ys)) in
        let own : P (scale_of x xs) (own_span x xs) =
        places_covered (points_with side (scale_of x xs) (own_span x xs) x xs) (points_with side (scale_of x xs) (own_span x xs) x ys) (with_covered (scale_of x xs) (own_span x xs)) in
        subst (λ l. P l (own_span x ys)) scale (subst (λ d. P (scale_of x xs) d) span own)

-- ---- both

pub same_test_points : (c : Context) (side : Side) (x : ℕ) (f : Tree) (atoms : List Atom) → InContext c f → ((a : Atom) → Among atoms a ↔ Among (atoms_of f) a) →
    (s : Place) → Among (test_points c side x atoms) s ↔ Among (test_points c side x (atoms_of f)) s
same_test_points Fields side x f atoms inside same s =
    (field_covered side x atoms (atoms_of f) (λ a. (same a).0) s, field_covered side x (atoms_of f) atoms (λ a. (same a).1) s)
same_test_points Integers side x f atoms inside same s =
    let own = atoms_of_every (AtomIn Integers) f inside in
    let listed = each_covered (AtomIn Integers) atoms (atoms_of f) (λ a. (same a).0) own in
    (integer_covered x side atoms (atoms_of f) listed own (λ a. (same a).0) (λ a. (same a).1) s, integer_covered x side (atoms_of f) atoms own listed (λ a. (same a).1) (λ a. (same a).0) s)
