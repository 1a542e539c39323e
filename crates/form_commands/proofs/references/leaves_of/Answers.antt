use Rattle.std.proofs.Common.{sym, subst}
use Rattle.normal_atoms.specs.Atoms.{context_of}
use Rattle.formula_tree.specs.Trees.{tree_of}
use Rattle.form_commands.specs.Faults.{CasesFault}
use Rattle.form_commands.proofs.CaseLemmas.{cases_fault}
use Rattle.form_commands.proofs.references.leaves_of.Goals as goal

pub returns-in-Err-clause-fault : goal.returns-in-Err-clause-fault
returns-in-Err-clause-fault c =
    let theory = context_of c.args.context in
    let f = tree_of c.args.form.now in
    subst (CasesFault theory c.args.limit f) (sym c.measured_error.ensures) (cases_fault theory c.args.limit f c.in-Err.error c.in-Err.ensures.stops)
