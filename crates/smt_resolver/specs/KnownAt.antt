-- Which symbols are known at a place within an expression.
use Rattle.std.specs.Prelude.{◌≡◌, ℕ, List, ◌||◌, is_some}
use Rattle.smt_language.specs.Undeclared.{Known}
use Rattle.smt_resolver.specs.Frames.{looked_up}
use Rattle.smt_language.specs.Known.{declared_known}

-- a symbol is known where it is bound at a place around, or declared
abbrev pub IsKnownAt : {V : Type 0} → List (List ℕ) → List (List (List ℕ × V)) → Known → Type 0
IsKnownAt declared frames known = (x : List ℕ) → known x ≡ (is_some (looked_up frames x) || declared_known declared x)
