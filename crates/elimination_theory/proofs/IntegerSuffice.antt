-- Over the integers the test points of both sides suffice.
use Rattle.std.proofs.Common.{◌≡◌, ℕ, ◌/◌, ◌<◌, pos, ◌*ℤ◌, ◌<ℤ◌, arith, sym}
use Rattle.std.proofs.lemmas.Int.{ints}
use Rattle.exact_numbers.specs.Divides.{Divides}
use Rattle.exact_numbers.proofs.Divisibility.{divides_same}
use Rattle.exact_numbers.proofs.LeastMultiple.{exact_div}
use Rattle.exact_numbers.proofs.Order.{factor_positive}
use Rattle.logic_meaning.specs.Some.{EachOf}
use Rattle.logic_meaning.specs.Context.{Integers}
use Rattle.logic_meaning.specs.Every.{Every}
use Rattle.logic_meaning.specs.Form.{coefficient}
use Rattle.logic_meaning.specs.Atom.{form_of}
use Rattle.formula_laws.specs.TheoryAtoms.{AtomIn}
use Rattle.logic_meaning.specs.Answer.{Holds, same_place}
use Rattle.logic_meaning.specs.Tree.{Tree}
use Rattle.formula_laws.specs.Equivalence.{InContext}
use Rattle.logic_meaning.specs.Atoms.{atoms_of}
use Rattle.elimination_theory.specs.AtPlace.{at_place}
use Rattle.logic_meaning.specs.IntegersPoints.{points_with}
use Rattle.elimination_theory.specs.IntegersPointTrees.{integer_scale, integer_span}
use Rattle.elimination_theory.specs.IntegersTheorems.{IntegerTestPointsSuffice}
use Rattle.formula_laws.proofs.Same.{place_same}
use Rattle.elimination_theory.proofs.SomeListed.{some_distinct, some_of_distinct, atoms_of_every, every_of_atoms}
use Rattle.elimination_theory.proofs.IntegerSides.{Fits}
use Rattle.elimination_theory.proofs.IntegerScale.{Reaches, scale_positive, scale_reaches, span_positive, span_scale, fits_each}
use Rattle.elimination_theory.proofs.IntegerPoints.{some_holds, holds_true}

-- the span is the scale times the period
pub record Spanned (l d : ℕ) : Type 0 where
  pub scale : 0 < l
  pub span : 0 < d
  pub period : 0 < d / l
  pub is : pos d ≡ pos l *ℤ pos (d / l)

spanned : (l d : ℕ) → 0 < l → 0 < d → Divides (pos l) (pos d) → Spanned l d
spanned l d hl hd h =
    let e : pos l *ℤ pos (d / l) ≡ pos d = exact_div (pos l) (pos d) (λ (z : pos l ≡ pos 0). omega (arith, ints)) h in
    let pl : pos 0 <ℤ pos l = omega (arith, ints) in
    let pd : pos 0 <ℤ (pos l *ℤ pos (d / l)) = omega (arith, ints) in
    let pp : pos 0 <ℤ pos (d / l) = factor_positive {a = pos l} {b = pos (d / l)} pl pd in
    record { scale = hl; span = hd; period = omega (arith, ints); is = sym e }

module _ (x : ℕ) (f : Tree) (inside : InContext Integers f) where
  inside_list : EachOf (AtomIn Integers) (atoms_of f)
  inside_list = atoms_of_every (AtomIn Integers) f inside

  reached : EachOf (λ a. Reaches (integer_scale x f) (coefficient x (form_of a))) (atoms_of f)
  reached = scale_reaches x (integer_scale x f) (atoms_of f) (divides_same (pos (integer_scale x f)))

  -- the scale and the span of a formula
  pub formula_spanned : Spanned (integer_scale x f) (integer_span x f)
  formula_spanned =
      let positive = scale_positive x (atoms_of f) in
      spanned (integer_scale x f) (integer_span x f) positive (span_positive (integer_scale x f) x (atoms_of f) positive inside_list reached)
      (span_scale (integer_scale x f) x (integer_span x f) (atoms_of f) positive inside_list reached (divides_same (pos (integer_span x f))))

  -- they fit each atom
  pub formula_fits : Every (Fits (integer_scale x f) (integer_span x f / integer_scale x f) x) f
  formula_fits =
      every_of_atoms (Fits (integer_scale x f) (integer_span x f / integer_scale x f) x) f
      (fits_each (integer_scale x f) (integer_span x f) (integer_span x f / integer_scale x f) x (atoms_of f) (scale_positive x (atoms_of f)) formula_spanned.is
      inside_list reached (divides_same (pos (integer_span x f))))

pub integer_points_suffice : IntegerTestPointsSuffice
integer_points_suffice side x f p plain inside whole =
    let s = formula_spanned x f inside in (
      λ true. some_distinct same_place place_same (λ s. Holds Integers (at_place x s) f p) (points_with side (integer_scale x f) (integer_span x f) x (atoms_of f))
          (some_holds side x (integer_scale x f) (integer_span x f) p whole s.scale s.span s.period s.is f plain (formula_fits x f inside) true),
      λ some. holds_true side x (integer_scale x f) (integer_span x f) f p
          (some_of_distinct same_place (λ s. Holds Integers (at_place x s) f p) (points_with side (integer_scale x f) (integer_span x f) x (atoms_of f)) some),
    )
