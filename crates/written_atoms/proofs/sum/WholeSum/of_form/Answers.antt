use Rattle.written_atoms.proofs.SharedSums.{form_may_begin, form_begun}
use Rattle.written_atoms.proofs.sum.WholeSum.of_form.Goals as goal

pub add-requires : goal.add-requires
add-requires c = form_may_begin c.of-sum.result c.args.form.now c.of-sum.ensures c.requires

pub returns : goal.returns
returns c = form_begun c.of-sum.result c.add.new.self c.args.form.now c.of-sum.ensures c.requires c.in_ok-add.ensures
