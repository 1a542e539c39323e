-- The scale and the span are least common multiples.
use Rattle.std.proofs.Common.{refl, unsigned_abs, ◌≡◌, ℕ, suc, zero, ◌*◌, ◌/◌, ◌<◌, ℤ, pos, negsuc, arith, List, [], ◌∷◌}
use Rattle.std.proofs.lemmas.Int.{ints}
use Rattle.exact_numbers.specs.Divides.{Divides}
use Rattle.exact_numbers.proofs.Divisibility.{divides_same, one_divides, neg_divides}
use Rattle.logic_meaning.specs.Some.{EachOf}
use Rattle.logic_meaning.specs.Context.{Integers}
use Rattle.logic_meaning.specs.Form.{coefficient}
use Rattle.logic_meaning.specs.Atom.{Atom, Compare, Congruent, form_of}
use Rattle.formula_laws.specs.TheoryAtoms.{AtomIn}
use Rattle.logic_meaning.specs.Atoms.{atoms_of}
use Rattle.logic_meaning.specs.IntegersPoints.{with_coefficient, scale_of, with_modulus, span_of}
use Rattle.elimination_theory.specs.IntegersPointTrees.{integer_scale}
use Rattle.elimination_theory.specs.IntegersTheorems.{IsMultipleOf, SpansAtom, ScaleIsLeast, SpanIsLeast, IntegerScaleIsLeast, IntegerSpanIsLeast}
use Rattle.elimination_theory.proofs.SomeListed.{each_map, atoms_of_every, every_of_atoms}
use Rattle.elimination_theory.proofs.IntegerScale.{Reaches, Spans, common_least, scale_positive, scale_reaches, span_positive, span_scale, multiplied_positive, with_modulus_spans, with_modulus_rest}

-- ---- the scale

reaches_multiple : (k : ℕ) (c : ℤ) → Reaches k c → IsMultipleOf c k
reaches_multiple k (pos zero) r other = absurd (other refl)
reaches_multiple k (pos (suc n)) r other = r
reaches_multiple k (negsuc n) r other = neg_divides r

multiple_reaches : (k : ℕ) (c : ℤ) → IsMultipleOf c k → Reaches k c
multiple_reaches k (pos zero) m = tt
multiple_reaches k (pos (suc n)) m = m (λ (e : pos (suc n) ≡ pos 0). omega (arith, ints))
multiple_reaches k (negsuc n) m = neg_divides (m (λ (e : negsuc n ≡ pos 0). omega (arith, ints)))

with_coefficient_least : (c : ℤ) (n k : ℕ) → 0 < n → Reaches k c → Divides (pos n) (pos k) → Divides (pos (with_coefficient c n)) (pos k)
with_coefficient_least (pos zero) n k h r d = d
with_coefficient_least (pos (suc a)) n k h r d = common_least (suc a) n (omega arith) h (pos k) r d
with_coefficient_least (negsuc a) n k h r d = common_least (suc a) n (omega arith) h (pos k) r d

scale_least : (x k : ℕ) (atoms : List Atom) → EachOf (λ a. Reaches k (coefficient x (form_of a))) atoms → Divides (pos (scale_of x atoms)) (pos k)
scale_least x k [] reach = one_divides (pos k)
scale_least x k (a ∷ atoms) reach =
    with_coefficient_least (coefficient x (form_of a)) (scale_of x atoms) k (scale_positive x atoms) reach.0 (scale_least x k atoms reach.1)

pub scale_is_least : ScaleIsLeast
scale_is_least x atoms = (
  scale_positive x atoms,
  λ n. (
    λ multiple. scale_least x n atoms (each_map (λ a. IsMultipleOf (coefficient x (form_of a)) n) _ (λ a m. multiple_reaches n (coefficient x (form_of a)) m) atoms multiple),
    λ divides. each_map (λ a. Reaches n (coefficient x (form_of a))) _ (λ a r. reaches_multiple n (coefficient x (form_of a)) r) atoms (scale_reaches x n atoms divides),
  ),
)

pub formula_scale_is_least : IntegerScaleIsLeast
formula_scale_is_least x f =
    let s = scale_is_least x (atoms_of f) in (
      s.0,
      λ n. (
        λ m. (s.1 n).0 (atoms_of_every (λ a. IsMultipleOf (coefficient x (form_of a)) n) f m),
        λ d. every_of_atoms (λ a. IsMultipleOf (coefficient x (form_of a)) n) f ((s.1 n).1 d),
      ),
    )

-- ---- the span

spans_multiplied : (l k m : ℕ) (c : ℤ) → Spans l k m c → ¬ (c ≡ pos 0) → Divides (pos (m * (l / unsigned_abs c))) (pos k)
spans_multiplied l k m (pos zero) s other = absurd (other refl)
spans_multiplied l k m (pos (suc n)) s other = s
spans_multiplied l k m (negsuc n) s other = s

multiplied_spans : (l k m : ℕ) (c : ℤ) → (¬ (c ≡ pos 0) → Divides (pos (m * (l / unsigned_abs c))) (pos k)) → Spans l k m c
multiplied_spans l k m (pos zero) d = tt
multiplied_spans l k m (pos (suc n)) d = d (λ (e : pos (suc n) ≡ pos 0). omega (arith, ints))
multiplied_spans l k m (negsuc n) d = d (λ (e : negsuc n ≡ pos 0). omega (arith, ints))

with_modulus_least : (l m : ℕ) → 0 < l → 0 < m → (c : ℤ) (n k : ℕ) → Reaches l c → 0 < n → Spans l k m c → Divides (pos n) (pos k) → Divides (pos (with_modulus l m c n)) (pos k)
with_modulus_least l m hl hm (pos zero) n k r h s d = d
with_modulus_least l m hl hm (pos (suc a)) n k r h s d = common_least (m * (l / suc a)) n (multiplied_positive l m a hl hm r) h (pos k) s d
with_modulus_least l m hl hm (negsuc a) n k r h s d = common_least (m * (l / suc a)) n (multiplied_positive l m a hl hm r) h (pos k) s d

module _ (l x k : ℕ) (hl : 0 < l) where
  span_least : (atoms : List Atom) → EachOf (AtomIn Integers) atoms → EachOf (λ a. Reaches l (coefficient x (form_of a))) atoms →
      Divides (pos l) (pos k) → EachOf (SpansAtom x l k) atoms → Divides (pos (span_of l x atoms)) (pos k)
  span_least [] inside reach d spans = d
  span_least (Compare r f ∷ atoms) inside reach d spans = span_least atoms inside.1 reach.1 d spans.1
  span_least (Congruent holds m f ∷ atoms) inside reach d spans =
      with_modulus_least l m hl inside.0 (coefficient x f) (span_of l x atoms) k reach.0 (span_positive l x atoms hl inside.1 reach.1)
      (multiplied_spans l k m (coefficient x f) spans.0) (span_least atoms inside.1 reach.1 d spans.1)

  span_each : (atoms : List Atom) → EachOf (AtomIn Integers) atoms → EachOf (λ a. Reaches l (coefficient x (form_of a))) atoms →
      Divides (pos (span_of l x atoms)) (pos k) → EachOf (SpansAtom x l k) atoms
  span_each [] inside reach d = tt
  span_each (Compare r f ∷ atoms) inside reach d = (tt, span_each atoms inside.1 reach.1 d)
  span_each (Congruent holds m f ∷ atoms) inside reach d =
      let p = span_positive l x atoms hl inside.1 reach.1 in (
        spans_multiplied l k m (coefficient x f) (with_modulus_spans l m hl inside.0 (coefficient x f) (span_of l x atoms) k reach.0 p d),
        span_each atoms inside.1 reach.1 (with_modulus_rest l m hl inside.0 (coefficient x f) (span_of l x atoms) k reach.0 p d),
      )

pub span_is_least : SpanIsLeast
span_is_least x atoms inside =
    let l = scale_of x atoms in
    let positive = scale_positive x atoms in
    let reach = scale_reaches x l atoms (divides_same (pos l)) in (
      span_positive l x atoms positive inside reach,
      λ n. (
        λ both. span_least l x n positive atoms inside reach both.0 both.1,
        λ divides. (span_scale l x n atoms positive inside reach divides, span_each l x n positive atoms inside reach divides),
      ),
    )

pub formula_span_is_least : IntegerSpanIsLeast
formula_span_is_least x f inside =
    let s = span_is_least x (atoms_of f) (atoms_of_every (AtomIn Integers) f inside) in (
      s.0,
      λ n. (
        λ both. (s.1 n).0 (both.0, atoms_of_every (SpansAtom x (integer_scale x f) n) f both.1),
        λ divides. let t = (s.1 n).1 divides in (t.0, every_of_atoms (SpansAtom x (integer_scale x f) n) f t.1),
      ),
    )
