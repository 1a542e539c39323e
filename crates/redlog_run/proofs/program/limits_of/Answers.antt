use Rattle.std.proofs.Common.{◌≤◌, ℕ, subst}
use Rattle.std.specs.Prelude.{Option, IfSome}
use Rattle.program_meaning.specs.declared.options.Choice.TheVariants.{Workers}
use Rattle.program_meaning.specs.CommandWords.{greatest_of}
use Rattle.redlog_run.proofs.program.limits_of.Goals as goal

pub returns-in-Some-workers-clause-some : goal.returns-in-Some-workers-clause-some
returns-in-Some-workers-clause-some c =
    let some = subst (λ (o : Option ℕ). IfSome o (λ n. (1 ≤ n) × (n ≤ greatest_of Workers))) c.in-Some-workers.is (c.requires Workers) in
    some.0
