-- The ids of options, their ranges, and that words spell one choice of them.
use Rattle.std.specs.Prelude.{◌≡◌, ℕ, ◌≤◌, List, codes, IfSome}
use Rattle.std.specs.declared.alloc.Global.{Global}
use Rattle.std.specs.declared.string.String.{String}
use Rattle.program_meaning.specs.declared.options.Choice.{Choice}
use Rattle.program_meaning.specs.declared.options.Choice.TheVariants.{Nodes, Workers, Generate}
use Rattle.program_meaning.specs.declared.options.Options.{Options}
use Rattle.program_meaning.specs.CommandWords.{greatest_of, given, Spells}

-- the name without its hyphens
abbrev pub id_of : Choice → List ℕ
id_of Nodes = codes "nodes"
id_of Workers = codes "workers"
id_of Generate = codes "generate"

-- the name of the flag without its hyphens
abbrev pub smt_id : List ℕ
smt_id = codes "smt"

-- each value is from 1 to the greatest of its option
abbrev pub AreInRange : Options → Type 0
AreInRange options = (choice : Choice) → IfSome (given choice options) (λ n. (1 ≤ n) × (n ≤ greatest_of choice))

-- words give at most one choice of options
abbrev pub SpellOnce : Type 0
SpellOnce = (words : List (String Global)) (one other : Options) → Spells words one → Spells words other → one ≡ other
