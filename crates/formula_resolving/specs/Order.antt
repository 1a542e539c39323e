-- The commands inside a formula as the code lists them.
use Rattle.std.specs.Prelude.{◌≡◌, ◌≤◌, ◌+◌, ◌-◌, ℕ, ◌++◌, List, [], ◌∷◌, map}
use Rattle.std.specs.List.{AllByRecursion}
use Rattle.language_meaning.specs.Holes.{Nest, Nests, nest, command_count}
use Rattle.written_syntax.specs.CodeTrees.{whole_command}
use Rattle.written_syntax.specs.LastTokens.{all_in_order, inside_count}
use Rattle.formula_resolving.specs.declared.order.Step.{Step}

-- the command of a step
abbrev pub nest_of : Step → Nest
nest_of s = whole_command s.command.now

-- it is told how many commands stand in it and in no other inside it
abbrev pub IsCounted : Step → Type 0
IsCounted s = s.inside ≡ inside_count (nest_of s)

-- the commands inside a command
abbrev pub inside_of : Nest → Nests
inside_of (nest c ns) = ns

-- These commands were appended, each after those inside it, and it is told how many stand in no other.
pub record IsGathered (ns : Nests) (old new : List Step) (count : ℕ) : Type 0 where
  pub order : map nest_of new ≡ map nest_of old ++ all_in_order ns
  pub counts : AllByRecursion IsCounted old → AllByRecursion IsCounted new
  pub told : count ≡ command_count ns

-- each command finds the answers of those inside it, where there are so many answers before the first one
abbrev pub AreInOrder : List Nest → ℕ → Type 0
AreInOrder [] k = Unit {0}
AreInOrder (n ∷ ns) k = (inside_count n ≤ k) × AreInOrder ns ((k - inside_count n) + 1)
