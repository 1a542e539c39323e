use Rattle.std.proofs.Common.{refl, ap}
use Rattle.smtlib_front.specs.FromEngineAnswers.{Limits}
use Rattle.redlog_run.proofs.Standing.{stands_first}
use Rattle.redlog_run.proofs.answer.begin.Goals as goal

pub returns-clause-stands : goal.returns-clause-stands
returns-clause-stands c = stands_first c.args.limits.nodes _ c.new-2.ensures.follows c.new.ensures.state refl (ap (λ (l : Limits). l.nodes) c.new.ensures.limits)
