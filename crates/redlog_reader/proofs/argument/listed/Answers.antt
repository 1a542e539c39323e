use Rattle.written_syntax.specs.CodeTrees.{whole_formula}
use Rattle.redlog_reader.specs.Reader.{kind_read}
use Rattle.redlog_reader.proofs.Items.{loop_more, loop_less, kind_less}
use Rattle.redlog_reader.proofs.argument.listed.Goals as goal

pub atoms-smaller : goal.atoms-smaller
atoms-smaller c =
    loop_less (kind_read c.args.kind) (kind_less c.args.kind) (whole_formula c.in_ok-atom.atom) c.atoms.start.now c.in_ok-atom.rest.now c.in-Some.more.now c.in_ok-atom.ensures.read c.in-Some.ensures.value

pub atoms-preserved : goal.atoms-preserved
atoms-preserved c =
    loop_more (kind_read c.args.kind) (kind_less c.args.kind) _ _ _ (whole_formula c.in_ok-atom.atom) c.atoms.start.now c.in_ok-atom.rest.now c.in-Some.more.now
    c.atoms.invariant c.in_ok-atom.ensures.read c.in-Some.ensures.value c.in_ok-put.ensures
