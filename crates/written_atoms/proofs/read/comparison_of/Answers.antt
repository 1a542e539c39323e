use Rattle.std.proofs.Common.{subst}
use Rattle.normal_atoms.specs.Atoms.{context_of}
use Rattle.written_atoms.specs.Atom.{IsCompared}
use Rattle.written_atoms.proofs.AtomsRead.{comparison_read, compared_proper, none_told}
use Rattle.written_atoms.proofs.read.comparison_of.Goals as goal

pub returns-clause-read : goal.returns-clause-read
returns-clause-read c bound number s t h =
    comparison_read (context_of c.args.context) number bound c.args.relation s t c.args.difference c.in_ok-normal.normal c.is_none.result h (none_told _ _ c.is_none.ensures)
    (subst (λ f. IsCompared (context_of c.args.context) c.args.relation f c.in_ok-normal.normal) c.into_form.ensures c.in_ok-normal.ensures)

pub returns-clause-proper : goal.returns-clause-proper
returns-clause-proper c = compared_proper (context_of c.args.context) c.args.relation c.into_form.result c.in_ok-normal.normal c.in_ok-normal.ensures
