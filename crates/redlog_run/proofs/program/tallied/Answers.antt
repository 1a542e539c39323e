use Rattle.std.proofs.Common.{rules, ◌≡◌, ℕ, List, subst}
use Rattle.program_meaning.specs.Generated.{generated, tally}
use Rattle.program_meaning.specs.Run.{RunOf}
use Rattle.redlog_run.proofs.program.tallied.Goals as goal

pub returns : goal.returns
returns g c =
    let answers = c.in_ok-answers.answers in
    let script : c.deref.result.now ≡ generated c.args.count = search rules in
    let line : c.in_ok-line.line.items ≡ tally answers.lines.items = search rules in
    (answers.lines.items, subst (λ (s : List ℕ). RunOf c.args.limits.nodes s answers.lines.items answers.refused) script c.in_ok-answers.ensures, line)
