-- Names of atoms and what they have become.
use Rattle.std.specs.Prelude.{◌≡◌, ℕ, pos, List, slice_get, unwrap_or}
use Rattle.logic_meaning.specs.Form.{Form, coefficient}

-- what the list has at the name's number, or the name itself past its end
abbrev pub now_of : List ℕ → ℕ → ℕ
now_of now x = unwrap_or (slice_get now x) x

-- no two names of the form become one
abbrev pub IsOneToOneForm : (ℕ → ℕ) → Form → Type 0
IsOneToOneForm now f = (y z : ℕ) → ¬ (coefficient y f ≡ pos 0) → ¬ (coefficient z f ≡ pos 0) → now y ≡ now z → y ≡ z
