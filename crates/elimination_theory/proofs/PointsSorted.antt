-- The test points of atoms of sorted forms have sorted forms.
use Rattle.std.proofs.Common.{◌≡◌, ℕ, zero, suc, ◌<◌, ◌/◌, List, [], ◌∷◌, flat_map, ap, sym, ◌∙◌, subst, arith, inl, inr, ⊎_elim}
use Rattle.std.proofs.Math.IntN.{ℤ, pos, negsuc, ◌*ℤ◌, neg_ℤ}
use Rattle.std.specs.Prelude.{◌<ℤ◌}
use Rattle.std.proofs.lemmas.Int.{ints}
use Rattle.exact_numbers.specs.Division.{DividesAll}
use Rattle.exact_numbers.proofs.Ring.{mul_zero}
use Rattle.exact_numbers.proofs.Divisibility.{divides_same}
use Rattle.exact_numbers.proofs.LeastMultiple.{exact_div}
use Rattle.logic_meaning.specs.Context.{Context, Fields, Integers}
use Rattle.logic_meaning.specs.Form.{Form, Term, coefficient, without, scale, plus, coefficients}
use Rattle.logic_meaning.specs.Sorted.{IsSorted, AllAbove, IsRising, AllNonzero}
use Rattle.logic_meaning.specs.Atom.{Atom, Compare, Congruent, Relation, Equals, Differs, Below, AtMost, Above, AtLeast, mirrored, form_of}
use Rattle.logic_meaning.specs.Answer.{Place, Exact, Periodic, IsSortedPlace, same_place}
use Rattle.logic_meaning.specs.Some.{Among}
use Rattle.formula_laws.proofs.Listed.{among_append, flat_map_among, distinct_among}
use Rattle.formula_laws.proofs.Sorted.{without_sorted, scale_sorted}
use Rattle.logic_meaning.specs.Side.{turned}
use Rattle.logic_meaning.specs.declared.side.Side.{Side}
use Rattle.logic_meaning.specs.FieldsPoints.{divisor_of, terms_over, form_over}
use Rattle.logic_meaning.specs.IntegersPoints.{scale_of, own_span, counted, signed, starts_of, comparison_starts, atom_starts, class_points, next_points, points_with}
use Rattle.elimination_theory.specs.PointsTheorems.{PointsAreSorted}
use Rattle.elimination_theory.proofs.SomeListed.{each_among}
use Rattle.elimination_theory.proofs.LowestTerms.{all_divided, divisor_not_zero}
use Rattle.elimination_theory.proofs.FieldsEach.{HoldsAt, at_all, far_out, field_points_have}
use Rattle.elimination_theory.proofs.IntegerCompare.{Scales}
use Rattle.elimination_theory.proofs.IntegerScale.{scale_positive, scale_reaches, scales_of}
use Rattle.elimination_theory.proofs.IntegersNames.{map_among}

abbrev HasSortedForm : Atom → Type 0
HasSortedForm a = IsSorted (form_of a)

-- ---- over the fields

above_over : (x g : ℕ) (ts : List Term) → AllAbove x ts → AllAbove x (terms_over g ts)
above_over x g [] h = tt
above_over x g (t ∷ ts) h = (h.0, above_over x g ts h.1)

rising_over : (g : ℕ) (ts : List Term) → IsRising ts → IsRising (terms_over g ts)
rising_over g [] h = tt
rising_over g (t ∷ ts) h = (above_over t.name g ts h.0, rising_over g ts h.1)

nonzero_over : (g : ℕ) (ts : List Term) → ¬ (pos g ≡ pos 0) → DividesAll (pos g) (coefficients ts) → AllNonzero ts → AllNonzero (terms_over g ts)
nonzero_over g [] n d h = tt
nonzero_over g (t ∷ ts) n d h = (λ e. h.0 (sym (exact_div (pos g) t.times n d.0) ∙ ap (λ q. pos g *ℤ q) e ∙ mul_zero (pos g)), nonzero_over g ts n d.1 h.1)

over_sorted : (e : Form) (d : ℕ) → 0 < d → IsSorted e → IsSorted (form_over (divisor_of e d) e)
unfolding form_over
over_sorted e d h s = record {
  rising = rising_over (divisor_of e d) e.terms s.rising;
  nonzero = nonzero_over (divisor_of e d) e.terms (divisor_not_zero e d h) (all_divided e d).1.1 s.nonzero;
}

sorted_at : (e : Form) (n : ℕ) → IsSorted e → HoldsAt IsSortedPlace e (suc n)
sorted_at e n s = let h = over_sorted e (suc n) (omega arith) s in at_all IsSortedPlace e (suc n) h h h

-- ---- over the integers

plus_sorted : (f : Form) (a : ℤ) → IsSorted f → IsSorted (plus f a)
unfolding plus
plus_sorted f a s = record { rising = s.rising; nonzero = s.nonzero }

start_sorted : (side : Side) (r : Relation) (v b : Form) → IsSorted v → Among (starts_of side r v) b → IsSorted b
start_sorted side Equals v b s (inl i) = subst IsSorted i (plus_sorted v (signed side (negsuc 0)) s)
start_sorted side Equals v b s (inr i) = absurd i
start_sorted side Differs v b s (inl i) = subst IsSorted i s
start_sorted side Differs v b s (inr i) = absurd i
start_sorted side Below v b s i = absurd i
start_sorted side AtMost v b s i = absurd i
start_sorted side Above v b s (inl i) = subst IsSorted i s
start_sorted side Above v b s (inr i) = absurd i
start_sorted side AtLeast v b s (inl i) = subst IsSorted i (plus_sorted v (signed side (negsuc 0)) s)
start_sorted side AtLeast v b s (inr i) = absurd i

positive_scales : (m : ℕ) (t : Form) → pos 0 <ℤ pos m → IsSorted t → IsSorted (scale (pos m) t) × IsSorted (scale (neg_ℤ (pos m)) t)
positive_scales m t h s = (
  scale_sorted (pos m) t (λ (e : pos m ≡ pos 0). absurd (omega (arith, ints))) s,
  scale_sorted (neg_ℤ (pos m)) t (λ (e : neg_ℤ (pos m) ≡ pos 0). absurd (omega (arith, ints))) s,
)

comparison_start_sorted : (side : Side) (l : ℕ) (c : ℤ) (r : Relation) (t b : Form) → Scales l c → IsSorted t → Among (comparison_starts side l c r t) b → IsSorted b
comparison_start_sorted side l (pos zero) r t b k s i = absurd i
comparison_start_sorted side l (pos (suc n)) r t b k s i = start_sorted side (turned side r) (scale (neg_ℤ (pos (l / suc n))) t) b (positive_scales (l / suc n) t k.positive s).1 i
comparison_start_sorted side l (negsuc n) r t b k s i = start_sorted side (turned side (mirrored r)) (scale (pos (l / suc n)) t) b (positive_scales (l / suc n) t k.positive s).0 i

atom_start_sorted : (side : Side) (l x : ℕ) (a : Atom) (b : Form) → Scales l (coefficient x (form_of a)) → HasSortedForm a → Among (atom_starts side l x a) b → IsSorted b
atom_start_sorted side l x (Compare r f) b k s i = comparison_start_sorted side l (coefficient x f) r (without x f) b k (without_sorted x f s) i
atom_start_sorted side l x (Congruent holds m f) b k s i = absurd i

class_sorted : (side : Side) (period : ℕ) (s : Place) → Among (class_points side period) s → IsSortedPlace s
class_sorted side period s i =
    let r = map_among (λ (j : ℕ). Periodic (signed side (pos j)) (signed side (neg_ℤ (pos period)))) (counted 1 period) s i in
    subst IsSortedPlace r.2 tt

next_sorted : (side : Side) (l d : ℕ) (b : Form) (s : Place) → IsSorted b → Among (next_points side l d b) s → IsSortedPlace s
next_sorted side l d b s h i =
    let r = map_among (λ (j : ℕ). Exact (plus b (signed side (pos j))) l) (counted 1 d) s i in
    subst IsSortedPlace r.2 (plus_sorted b (signed side (pos r.0)) h)

pub points_sorted : (c : Context) → PointsAreSorted c
points_sorted Fields side x atoms s sorted h =
    field_points_have IsSortedPlace side x atoms (far_out IsSortedPlace tt tt side) (λ a m n.
    let w = without_sorted x (form_of a) (each_among HasSortedForm atoms a sorted m) in
    (sorted_at (scale (negsuc 0) (without x (form_of a))) n (scale_sorted (negsuc 0) (without x (form_of a)) (λ (e : negsuc 0 ≡ pos 0). absurd (omega (arith, ints))) w), sorted_at (without x (form_of a)) n w)) s h
points_sorted Integers side x atoms s sorted h =
    let l = scale_of x atoms in
    let d = own_span x atoms in
    ⊎_elim (class_sorted side (d / l) s) next (among_append (class_points side (d / l)) _ s (distinct_among same_place (points_with side l d x atoms) s h))
  where
    next : Among (flat_map (next_points side (scale_of x atoms) (own_span x atoms)) (flat_map (atom_starts side (scale_of x atoms) x) atoms)) s → IsSortedPlace s
    next i =
        let b = flat_map_among (next_points side (scale_of x atoms) (own_span x atoms)) (flat_map (atom_starts side (scale_of x atoms) x) atoms) s i in
        let a = flat_map_among (atom_starts side (scale_of x atoms) x) atoms b.0 b.1 in
        let reaches = each_among _ atoms a.0 (scale_reaches x (scale_of x atoms) atoms (divides_same (pos (scale_of x atoms)))) a.1 in
        next_sorted side (scale_of x atoms) (own_span x atoms) b.0 s
        (atom_start_sorted side (scale_of x atoms) x a.0 b.0 (scales_of (scale_of x atoms) (coefficient x (form_of a.0)) (scale_positive x atoms) reaches) (each_among HasSortedForm atoms a.0 sorted a.1) a.2) b.2
