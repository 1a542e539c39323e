use Rattle.session_state.specs.Keeping.{state_of}
use Rattle.session_commands.proofs.Retries.{found_again}
use Rattle.session_commands.proofs.formulas.instead.Goals as goal

pub returns : goal.returns
returns c = found_again c.args.wanted (state_of c.args.state.now).bound c.args.target.now c.args.error c.if-not-is_size.ensures c.if-lacks_room.ensures c.by_reference.result c.by_reference.ensures
