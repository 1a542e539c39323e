use Rattle.smt_tokens.proofs.Begun.{begun_is, nothing_goes}
use Rattle.smt_tokens.proofs.step.Begun.take.Goals as goal

pub returns-in-Nothing-clause-goes : goal.returns-in-Nothing-clause-goes
returns-in-Nothing-clause-goes c = λ total ts cs later. begun_is _ _ _ _ _ c.in-Nothing.is (nothing_goes total _ cs (c.beginning.ensures.goes total ts cs later))
