use Rattle.session_state.proofs.StateLemmas.{keeps_self}
use Rattle.constraint_queries.proofs.found.look.Goals as goal

pub returns-in-Ok-Some-clause-kept : goal.returns-in-Ok-Some-clause-kept
returns-in-Ok-Some-clause-kept g c = keeps_self c.args.state.now
