-- The numbers of the commands that bytes spell.
use Rattle.std.specs.Prelude.{ℕ, List}
use Rattle.smt_language.specs.Trees.{CommandTree, Choose, Ignored, Declare, Assert, Check, Values, Exit}
use Rattle.smt_language.specs.Spells.{Spells}
use Rattle.smt_meaning.specs.Proper.{IsProper}

-- the expression of an assertion has such numbers; other commands have none
abbrev pub HasProperNumbers : CommandTree → Type 0
HasProperNumbers (Choose sort) = Unit {0}
HasProperNumbers Ignored = Unit {0}
HasProperNumbers (Declare x) = Unit {0}
HasProperNumbers (Assert e) = IsProper e
HasProperNumbers Check = Unit {0}
HasProperNumbers (Values xs) = Unit {0}
HasProperNumbers Exit = Unit {0}

-- each command that bytes spell has them
abbrev pub SpelledCommandsAreProper : Type 0
SpelledCommandsAreProper = (bytes : List ℕ) (command : CommandTree) → Spells bytes command → HasProperNumbers command
