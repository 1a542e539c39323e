-- How many test points there are, counted without forming them.
use Rattle.std.proofs.Common.{◌≡◌, ℕ, zero, suc, ◌+◌, ◌*◌, ◌/◌, List, [], ◌∷◌, map, flat_map, length, sym, ap, ap₂, ◌∙◌, refl, length-append, unsigned_abs, if◌then◌else◌, count_by, cond}
use Rattle.std.proofs.Math.IntN.{ℤ, pos, negsuc, neg_ℤ}
use Rattle.std.specs.Prelude.{nat_lt}
use Rattle.std.proofs.lemmas.List.Sums.{sum_by-cons}
use Rattle.logic_meaning.specs.Form.{Form, coefficient, without, scale}
use Rattle.logic_meaning.specs.Atom as meant
use Rattle.logic_meaning.specs.Side.{turned}
use Rattle.logic_meaning.specs.declared.side.Side.{Side}
use Rattle.logic_meaning.specs.IntegersPoints.{starts_of, comparison_starts, atom_starts, scale_of, own_span, integer_count_of}
use Rattle.elimination_theory.proofs.IntegerCount.{points_are_counted}
use Rattle.normal_atoms.specs.declared.atoms.Atom.{Atom}
use Rattle.normal_atoms.specs.Atoms.{atom_of}
use Rattle.test_points.specs.Starts.{has_end}

one_or_none : (side : Side) (r : meant.Relation) (v : Form) → length (starts_of side r v) ≡ (if nat_lt 0 (length (starts_of side r v)) then 1 else 0)
one_or_none side meant.Equals v = refl
one_or_none side meant.Differs v = refl
one_or_none side meant.Below v = refl
one_or_none side meant.AtMost v = refl
one_or_none side meant.Above v = refl
one_or_none side meant.AtLeast v = refl

same_length : (side : Side) (r : meant.Relation) (v w : Form) → length (starts_of side r v) ≡ length (starts_of side r w)
same_length side meant.Equals v w = refl
same_length side meant.Differs v w = refl
same_length side meant.Below v w = refl
same_length side meant.AtMost v w = refl
same_length side meant.Above v w = refl
same_length side meant.AtLeast v w = refl

-- an atom gives one such end, or none, over every scale
starts_counted : (side : Side) (l : ℕ) (c : ℤ) (r : meant.Relation) (t : Form) → length (comparison_starts side l c r t) ≡ (if nat_lt 0 (length (comparison_starts side 1 c r t)) then 1 else 0)
starts_counted side l (pos zero) r t = refl
starts_counted side l (pos (suc n)) r t =
    let q = turned side r in let v = scale (neg_ℤ (pos (l / suc n))) t in let w = scale (neg_ℤ (pos (1 / suc n))) t in
    same_length side q v w ∙ one_or_none side q w
starts_counted side l (negsuc n) r t =
    let q = turned side (meant.mirrored r) in let v = scale (pos (l / suc n)) t in let w = scale (pos (1 / suc n)) t in
    same_length side q v w ∙ one_or_none side q w

atom_counted : (side : Side) (l x : ℕ) (a : meant.Atom) → length (atom_starts side l x a) ≡ (if has_end side x a then 1 else 0)
atom_counted side l x (meant.Compare r f) = starts_counted side l (coefficient x f) r (without x f)
atom_counted side l x (meant.Congruent b m f) = refl

ends_counted : (side : Side) (l x : ℕ) (atoms : List Atom) → length (flat_map (atom_starts side l x) (map atom_of atoms)) ≡ count_by (λ a. has_end side x (atom_of a)) atoms
ends_counted side l x [] = refl
ends_counted side l x (a ∷ atoms) =
    length-append (atom_starts side l x (atom_of a)) (flat_map (atom_starts side l x) (map atom_of atoms))
    ∙ ap₂ (λ m n. m + n) (atom_counted side l x (atom_of a)) (ends_counted side l x atoms)
    ∙ sym (sum_by-cons (λ b. cond (has_end side x (atom_of b)) 1 0) a atoms)

pub points_counted : (side : Side) (x : ℕ) (atoms : List Atom) (span scale : ℤ) (ends : ℕ) → span ≡ pos (own_span x (map atom_of atoms)) → scale ≡ pos (scale_of x (map atom_of atoms)) →
    ends ≡ count_by (λ a. has_end side x (atom_of a)) atoms → unsigned_abs span / unsigned_abs scale + unsigned_abs span * ends ≡ integer_count_of side x (map atom_of atoms)
points_counted side x atoms span scale ends e f g =
    let l = scale_of x (map atom_of atoms) in
    ap₂ (λ (a b : ℤ). unsigned_abs a / unsigned_abs b + unsigned_abs a * ends) e f
    ∙ ap (λ n. own_span x (map atom_of atoms) / l + own_span x (map atom_of atoms) * n) (g ∙ sym (ends_counted side l x atoms))
    ∙ sym (points_are_counted side x (map atom_of atoms))
