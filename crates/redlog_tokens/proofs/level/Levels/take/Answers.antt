use Rattle.std.proofs.Common.{ap, ◌∙◌, ◌+◌}
use Rattle.std.specs.Prelude.{if◌then◌else◌}
use Rattle.redlog_tokens.specs.Counting.{is_binder, is_of_run}
use Rattle.redlog_tokens.proofs.Counts.{levels_taken}
use Rattle.redlog_tokens.proofs.level.Levels.take.Goals as goal

pub returns-clause-taken : goal.returns-clause-taken
returns-clause-taken c =
    let kept = c.in_ok-regroup.ensures in
    levels_taken c.args.self.now _ c.args.terminal.now kept.stack
    (c.run_after-self.ensures ∙ ap (λ r. if is_of_run c.args.terminal.now then r + 1 else 0) kept.run)
    (c.held_after-self.ensures ∙ ap (λ r. if is_binder c.args.terminal.now then r else 0) kept.run)
