-- The program's scale and span of a name.
use Rattle.std.specs.Prelude.{◌≡◌, ℕ, zero, suc, ℤ, pos, negsuc, ◌<ℤ◌, List}
use Rattle.exact_numbers.specs.Limit.{InLimit}
use Rattle.exact_numbers.specs.Divides.{Divides}
use Rattle.logic_meaning.specs.Form.{coefficient}
use Rattle.logic_meaning.specs.Atom.{Atom, Compare, Congruent}
use Rattle.logic_meaning.specs.IntegersPoints.{with_modulus, scale_of, own_span}
use Rattle.test_points.specs.declared.scales.Period.{Period}

-- the scale and the span of x in the atoms, both within the limit
pub record IsPeriodOf (x : ℕ) (atoms : List Atom) (p : Period) : Type 0 where
  pub scale : p.scale ≡ pos (scale_of x atoms)
  pub span : p.span ≡ pos (own_span x atoms)
  pub scale_within : InLimit p.scale
  pub span_within : InLimit p.span

-- l is a multiple of the coefficient, where that is not 0
abbrev pub IsReached : ℕ → ℤ → Type 0
IsReached l (pos zero) = Unit {0}
IsReached l (pos (suc n)) = Divides (pos (suc n)) (pos l)
IsReached l (negsuc n) = Divides (pos (suc n)) (pos l)

-- the least common multiple of n and of the multiplied modulus of an atom, if it is a congruence
abbrev pub with_span : ℕ → ℕ → Atom → ℕ → ℕ
with_span l x (Compare r f) n = n
with_span l x (Congruent holds m f) n = with_modulus l m (coefficient x f) n

-- a scale and a span: positive, and within the limit
pub record IsUsable (p : Period) : Type 0 where
  pub scale : pos 0 <ℤ p.scale
  pub span : pos 0 <ℤ p.span
  pub scale_within : InLimit p.scale
  pub span_within : InLimit p.span
