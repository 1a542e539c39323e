use Rattle.certificates.proofs.FirstRows.{row_starts}
use Rattle.certificates.proofs.rows.Row.of.Goals as goal

pub returns-in-Ok : goal.returns-in-Ok
returns-in-Ok c = row_starts c.args.place c.args.strict c.args.form.now c.in_ok-form.form c.in-Ok.multipliers c.in_ok-form.ensures.linear c.in_ok-form.ensures.same c.in-Ok.ensures.form
