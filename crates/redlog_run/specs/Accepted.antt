-- Scripts of statements that are never refused.
use Rattle.std.specs.Prelude.{ℕ, List, codes}
use Rattle.std.specs.List.{AllByRecursion}
use Rattle.language_meaning.specs.Statements.{StatementTree}
use Rattle.session_commands.specs.Accepted.{IsNeverRefused}
use Rattle.program_meaning.specs.Unrefused.{IsUnrefused}
use Rattle.redlog_run.specs.WithoutFormulas.{SpellsFrom}

-- ---- what is proved

-- a script of such statements, up to the first that ends it
abbrev pub NeverRefusedIsUnrefused : Type 0
NeverRefusedIsUnrefused = (script : List ℕ) (ts : List StatementTree) → SpellsFrom script 0 ts → AllByRecursion IsNeverRefused ts → (limit : ℕ) → IsUnrefused limit script

-- one such script, with a formula and a change of theory
abbrev pub SomeFormulaIsUnrefused : Type 0
SomeFormulaIsUnrefused = (limit : ℕ) → IsUnrefused limit (codes "rlset pasf; true;")
