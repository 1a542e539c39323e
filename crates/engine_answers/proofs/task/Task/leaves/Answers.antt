use Rattle.std.proofs.Common.{sym, subst, ◌∙◌}
use Rattle.std.specs.declared.vec.Vec.{Vec}
use Rattle.std.specs.declared.alloc.Global.{Global}
use Rattle.logic_meaning.specs.Every.{Every}
use Rattle.normal_atoms.specs.Atoms.{context_of}
use Rattle.logic_meaning.specs.NormalForm.{IsNormal}
use Rattle.normal_atoms.proofs.Stepped.{ok_map}
use Rattle.elimination_theory.proofs.Sound.{normal_normal_tree}
use Rattle.formula_store.specs.Nodes.{tree}
use Rattle.formula_tree.specs.Trees.{tree_of}
use Rattle.reference_engine.proofs.Seen.{stops_along}
use Rattle.reference_engine.specs.declared.branch.Leaf.{Leaf}
use Rattle.engine_answers.proofs.Stops.{err_map, cases_along, paid_stops}
use Rattle.engine_answers.proofs.task.Task.leaves.Goals as goal

pub case_leaves-requires-clause-normal : goal.case_leaves-requires-clause-normal
case_leaves-requires-clause-normal c =
    let o = context_of c.args.self.now.context in
    subst (Every (IsNormal o)) (sym c.in-Ok.ensures.form) (normal_normal_tree o c.args.self.now.limits.nodes (tree c.args.store.now c.args.id) c.requires.normal)

pub returns-in-Ok-clause-cases : goal.returns-in-Ok-clause-cases
returns-in-Ok-clause-cases c =
    let along = cases_along (context_of c.args.self.now.context) c.args.self.now.limits.nodes (tree c.args.store.now c.args.id) (tree_of c.in-Ok.form) c.in-Ok.ensures.form in
    ok_map c.case_leaves.result (λ (v : Vec Leaf Global) t. (t.0, sym along ∙ t.1)) c.case_leaves.ensures.cases

pub returns-in-Ok-clause-stops : goal.returns-in-Ok-clause-stops
returns-in-Ok-clause-stops c =
    let along = cases_along (context_of c.args.self.now.context) c.args.self.now.limits.nodes (tree c.args.store.now c.args.id) (tree_of c.in-Ok.form) c.in-Ok.ensures.form in
    err_map c.case_leaves.result (λ e h. stops_along e _ _ along h) c.case_leaves.ensures.stops

pub returns-in-Err-clause-stops : goal.returns-in-Err-clause-stops
returns-in-Err-clause-stops c = paid_stops (context_of c.args.self.now.context) c.args.self.now.limits.nodes (tree c.args.store.now c.args.id) c.in-Err.error c.in-Err.ensures.stops
