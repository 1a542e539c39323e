use Rattle.form_commands.proofs.NewNames.{adds_grows}
use Rattle.form_commands.proofs.forms.prenexed.Goals as goal

pub returns-in-Ok-clause-grown : goal.returns-in-Ok-clause-grown
returns-in-Ok-clause-grown c = adds_grows _ c.args.names.now c.pnf.new.names c.in-Ok.ensures.names
