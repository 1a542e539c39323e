-- The root of an equation, as a place.
use Rattle.std.specs.Prelude.{◌≡◌, ℕ, suc, zero, ℤ, pos, negsuc}
use Rattle.logic_meaning.specs.Context.{Context, Fields, Integers}
use Rattle.logic_meaning.specs.Form.{Form, coefficient, without, scale}
use Rattle.logic_meaning.specs.Answer.{Place, Exact}
use Rattle.logic_meaning.specs.FieldsPoints.{exact_point}

-- e over d, over the fields in lowest terms
abbrev pub root_over : Context → Form → ℕ → Place
root_over Fields e d = exact_point e d
root_over Integers e d = Exact e d

-- the place is the root of a * x + t = 0
abbrev pub IsRootOf : Context → ℤ → Form → Place → Type 0
IsRootOf c (pos zero) t s = ⊥
IsRootOf c (pos (suc n)) t s = s ≡ root_over c (scale (negsuc 0) t) (suc n)
IsRootOf c (negsuc n) t s = s ≡ root_over c t (suc n)

-- the place is the root of the equation e = 0 in x
abbrev pub IsRoot : Context → ℕ → Form → Place → Type 0
IsRoot c x e s = IsRootOf c (coefficient x e) (without x e) s
