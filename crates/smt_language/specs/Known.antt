-- Which symbols are known where names are declared and symbols are bound.
use Rattle.std.specs.Prelude.{ℕ, List, is_some, position}
use Rattle.language_meaning.specs.Value.{same_name}
use Rattle.smt_language.specs.Undeclared.{Known}

-- the declared names are known
abbrev pub declared_known : List (List ℕ) → Known
declared_known declared = λ x. is_some (position (same_name x) declared)
