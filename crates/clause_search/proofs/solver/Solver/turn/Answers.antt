use Rattle.clause_search.proofs.solver.Solver.turn.Goals as goal

pub returns-in-Learned-clause-told : goal.returns-in-Learned-clause-told
returns-in-Learned-clause-told c = λ q _. c.learn.ensures.told q

pub returns-in-Refuted-clause-told : goal.returns-in-Refuted-clause-told
returns-in-Refuted-clause-told c = λ q _. c.refute.ensures.told q

pub returns-in-Split-clause-told : goal.returns-in-Split-clause-told
returns-in-Split-clause-told c = λ q _. c.split.ensures.told q
