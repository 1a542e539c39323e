-- A side has no more points than are counted.
use Rattle.std.proofs.Common.{◌≡◌, ℕ, zero, suc, ◌+◌, ◌≤◌, ◌/◌, List, [], ◌∷◌, flat_map, length, sym, ap₂, ◌∙◌, refl, arith, length-append, if◌then◌else◌, count_by, cond}
use Rattle.std.proofs.Math.IntN.{ℤ, pos, negsuc, neg_ℤ}
use Rattle.std.specs.Prelude.{nat_lt}
use Rattle.std.proofs.lemmas.List.Sums.{sum_by-cons}
use Rattle.logic_meaning.specs.Context.{Context, Fields, Integers}
use Rattle.logic_meaning.specs.Form.{Form, coefficient, without, scale}
use Rattle.logic_meaning.specs.Atom.{Atom, Relation, Compare, Congruent, Equals, Differs, Below, AtMost, Above, AtLeast, mirrored}
use Rattle.logic_meaning.specs.Answer.{same_place}
use Rattle.formula_laws.proofs.Sizes.{distinct_shorter}
use Rattle.logic_meaning.specs.Side.{turned}
use Rattle.logic_meaning.specs.declared.side.Side.{Side}
use Rattle.logic_meaning.specs.BothTheories.{test_points}
use Rattle.logic_meaning.specs.FieldsPoints.{ends_of, comparison_points, atom_points, infinity_of}
use Rattle.logic_meaning.specs.IntegersPoints.{starts_of, comparison_starts, scale_of, own_span, points_with}
use Rattle.test_points.specs.Starts.{has_end}
use Rattle.branch_points.specs.Counts.{count_of}

-- an end over the fields is one over the integers
end_counted : (side : Side) (q : Relation) (e : Form) (d : ℕ) (v : Form) → length (ends_of side q e d) ≡ (if nat_lt 0 (length (starts_of side q v)) then 1 else 0)
end_counted side Equals e d v = refl
end_counted side Differs e d v = refl
end_counted side Below e d v = refl
end_counted side AtMost e d v = refl
end_counted side Above e d v = refl
end_counted side AtLeast e d v = refl

comparison_counted : (side : Side) (z : ℤ) (r : Relation) (t : Form) → length (comparison_points side z r t) ≡ (if nat_lt 0 (length (comparison_starts side 1 z r t)) then 1 else 0)
comparison_counted side (pos zero) r t = refl
comparison_counted side (pos (suc n)) r t = end_counted side (turned side r) (scale (negsuc 0) t) (suc n) (scale (neg_ℤ (pos (1 / suc n))) t)
comparison_counted side (negsuc n) r t = end_counted side (turned side (mirrored r)) t (suc n) (scale (pos (1 / suc n)) t)

atom_counted : (side : Side) (x : ℕ) (a : Atom) → length (atom_points side x a) ≡ (if has_end side x a then 1 else 0)
atom_counted side x (Compare r f) = comparison_counted side (coefficient x f) r (without x f)
atom_counted side x (Congruent holds m f) = refl

ends_counted : (side : Side) (x : ℕ) (atoms : List Atom) → length (flat_map (atom_points side x) atoms) ≡ count_by (has_end side x) atoms
ends_counted side x [] = refl
ends_counted side x (a ∷ atoms) =
    length-append (atom_points side x a) (flat_map (atom_points side x) atoms)
    ∙ ap₂ (λ m n. m + n) (atom_counted side x a) (ends_counted side x atoms)
    ∙ sym (sum_by-cons (λ b. cond (has_end side x b) 1 0) a atoms)

pub points_counted : (c : Context) (side : Side) (x : ℕ) (atoms : List Atom) → length (test_points c side x atoms) ≤ count_of c side x atoms
points_counted Fields side x atoms =
    let shorter = distinct_shorter same_place (infinity_of side ∷ flat_map (atom_points side x) atoms) in
    let ends = ends_counted side x atoms in
    omega arith
points_counted Integers side x atoms = distinct_shorter same_place (points_with side (scale_of x atoms) (own_span x atoms) x atoms)
