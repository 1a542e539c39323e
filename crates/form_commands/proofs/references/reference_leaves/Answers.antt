use Rattle.std.proofs.Common.{sym, subst, ◌∙◌}
use Rattle.std.specs.declared.vec.Vec.{Vec}
use Rattle.std.specs.declared.alloc.Global.{Global}
use Rattle.logic_meaning.specs.Every.{Every}
use Rattle.normal_atoms.specs.Atoms.{context_of}
use Rattle.logic_meaning.specs.NormalForm.{IsNormal}
use Rattle.normal_atoms.proofs.Stepped.{ok_map}
use Rattle.elimination_theory.proofs.Sound.{normal_normal_tree}
use Rattle.formula_store.specs.Nodes.{tree}
use Rattle.formula_tree.specs.Trees.{tree_of}
use Rattle.reference_engine.specs.declared.branch.Leaf.{Leaf}
use Rattle.form_commands.specs.Faults.{CasesFault}
use Rattle.form_commands.proofs.CaseLemmas.{cases_along, cases_fault, err_map, fault_along, paid_stops}
use Rattle.form_commands.proofs.references.reference_leaves.Goals as goal

pub leaves_of-requires-clause-normal : goal.leaves_of-requires-clause-normal
leaves_of-requires-clause-normal c =
    let theory = context_of c.args.context in
    let f = tree c.args.store.now c.args.id in
    subst (Every (IsNormal theory)) (sym c.in-Ok.ensures.form) (normal_normal_tree theory c.args.limit f c.requires.normal)

pub returns-in-Ok-clause-cases : goal.returns-in-Ok-clause-cases
returns-in-Ok-clause-cases c =
    let theory = context_of c.args.context in
    let f = tree c.args.store.now c.args.id in
    let along = cases_along theory c.args.limit f (tree_of c.in-Ok.form) c.in-Ok.ensures.form in
    ok_map c.leaves_of.result (λ (v : Vec Leaf Global) t. (t.0, sym along ∙ t.1)) c.leaves_of.ensures.cases

pub returns-in-Ok-clause-fault : goal.returns-in-Ok-clause-fault
returns-in-Ok-clause-fault c =
    let theory = context_of c.args.context in
    let f = tree c.args.store.now c.args.id in
    let g = tree_of c.in-Ok.form in
    let along = cases_along theory c.args.limit f g c.in-Ok.ensures.form in
    err_map c.leaves_of.result (λ e h. fault_along theory c.args.limit f g along e h) c.leaves_of.ensures.fault

pub returns-in-Err-clause-fault : goal.returns-in-Err-clause-fault
returns-in-Err-clause-fault c =
    let theory = context_of c.args.context in
    let f = tree c.args.store.now c.args.id in
    subst (CasesFault theory c.args.limit f) (sym c.measured_error.ensures) (cases_fault theory c.args.limit f c.in-Err.error (paid_stops theory c.args.limit f c.in-Err.error c.in-Err.ensures.stops))
