-- The variables of a command inside whose formulas no other stands, and the state in which they have their numbers.
use Rattle.std.specs.Prelude.{ℕ, ◌++◌, List}
use Rattle.std.specs.List.{fold}
use Rattle.logic_meaning.specs.Names.{with_name}
use Rattle.language_meaning.specs.Resolving.{all_variables}
use Rattle.program_meaning.specs.State.{State, with_names}
use Rattle.program_meaning.specs.Meaning.{Meaning}

-- the variables in the order of the text: names in terms, after quantifiers, in assumptions and in a point
abbrev pub variables : Meaning → List (List ℕ)
variables m = all_variables m.formulas ++ m.further

-- the state with the new variables after its names
abbrev pub numbered : Meaning → State → State
numbered m s = with_names s (fold with_name s.names (variables m))
