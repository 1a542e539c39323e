use Rattle.session_commands.specs.Seen.{state_in}
use Rattle.redlog_run.proofs.Standing.{adds_long}
use Rattle.redlog_run.proofs.answer.answer_cut.Goals as goal

pub returns-in_ok-add_refusal-in-None-clause-adds : goal.returns-in_ok-add_refusal-in-None-clause-adds
returns-in_ok-add_refusal-in-None-clause-adds g c = λ piece has.
    adds_long (state_in c.args.session.now) c.args.session.now.limits.nodes piece c.args.cut.now.offset c.args.cut.now.bytes c.args.answers.now.lines.items c.add_refusal.new.answers.lines.items c.args.answers.now.refused
    c.add_refusal.new.answers.refused c.in-None.is has c.in_ok-add_refusal-in-None.ensures.lines c.in_ok-add_refusal-in-None.ensures.refused
