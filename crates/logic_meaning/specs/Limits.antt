-- Whether numbers are within the limit of exact_numbers, as tests that compute.
use Rattle.std.specs.Prelude.{◌^◌, ℤ, pos, ◌+ℤ◌, ◌*ℤ◌, unsigned_abs, nat_lt, Bool, true, ◌&&◌, List, [], ◌∷◌, ◌++◌}
use Rattle.logic_meaning.specs.Form.{Form, Term, coefficient}
use Rattle.logic_meaning.specs.Answer.{Place, Exact, AboveBy, BelowBy, PlusInfinity, MinusInfinity, Periodic}

-- the test is true of each element
abbrev pub each : {X : Type 0} → (X → Bool) → List X → Bool
each test [] = true
each test (x ∷ xs) = test x && each test xs

-- the absolute value is at most 2 ^ 127 - 1
abbrev pub is_within : ℤ → Bool
is_within z = nat_lt (unsigned_abs z) (2 ^ 127)

-- each number of the form
abbrev pub form_within : Form → Bool
form_within f = is_within f.constant && each (λ (t : Term). is_within (coefficient t.name f)) f.terms

-- each number of the place
abbrev pub place_within : Place → Bool
place_within (Exact e d) = form_within e && is_within (pos d)
place_within (AboveBy e d) = form_within e && is_within (pos d)
place_within (BelowBy e d) = form_within e && is_within (pos d)
place_within PlusInfinity = true
place_within MinusInfinity = true
place_within (Periodic j q) = is_within j && is_within q

-- two products and their sum
abbrev pub sum_within : ℤ → ℤ → Bool
sum_within p q = is_within p && (is_within q && is_within (p +ℤ q))

-- the numbers of a * f + b * g, at each name and at the constants
abbrev pub combination_within : ℤ → Form → ℤ → Form → Bool
combination_within a f b g =
    sum_within (a *ℤ f.constant) (b *ℤ g.constant) && each (λ (t : Term). sum_within (a *ℤ coefficient t.name f) (b *ℤ coefficient t.name g)) (f.terms ++ g.terms)
