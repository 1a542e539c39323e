use Rattle.engine_answers.proofs.Together.{guards_say}
use Rattle.engine_answers.proofs.laws.guards_joined_are_their_disjunction.Goals as goal

pub returns : goal.returns
returns c = guards_say
