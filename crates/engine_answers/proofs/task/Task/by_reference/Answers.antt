use Rattle.std.proofs.Common.{rules, ◌≡◌, map, ap, sym, subst, ◌∙◌}
use Rattle.std.specs.declared.result.Result.TheVariants.{Err}
use Rattle.logic_meaning.specs.Every.{Every}
use Rattle.normal_atoms.specs.Atoms.{context_of, atom_of}
use Rattle.logic_meaning.specs.NormalForm.{IsNormal}
use Rattle.case_theory.proofs.Fallback.{matrix_normal}
use Rattle.logic_meaning.specs.Cases.{case_matrix}
use Rattle.logic_meaning.specs.Reference.{reference}
use Rattle.formula_store.specs.Nodes.{tree}
use Rattle.formula_store.proofs.Makes.{keeps_then}
use Rattle.engine_answers.specs.Blocks.{IsLeadingBlock}
use Rattle.reference_engine.specs.Case.{leaf_case}
use Rattle.reference_engine.proofs.Seen.{stops_along}
use Rattle.engine_answers.specs.CaseTrees.{IsCaseTreeOf}
use Rattle.engine_answers.proofs.Stops.{formula_stops, matrix_stops}
use Rattle.engine_answers.proofs.Trees.{tree_of_leaves}
use Rattle.engine_answers.proofs.task.Task.by_reference.Goals as goal

pub returns-in_err-leaves-clause-stops : goal.returns-in_err-leaves-clause-stops
returns-in_err-leaves-clause-stops c =
    let o = context_of c.args.self.now.context in
    let is : c.from_residual.result ≡ Err c.in_err-leaves.field-0.0 = search rules in
    rw is (formula_stops o c.args.self.now.limits.nodes (tree c.args.store.now c.args.id) c.in_err-leaves.field-0.0 c.in_err-leaves.ensures.stops)

pub returns-in_err-block-clause-kept : goal.returns-in_err-block-clause-kept
returns-in_err-block-clause-kept c = keeps_then c.args.store.now c.leaves.new.store c.leading_block.new.store c.leaves.ensures.kept c.leading_block.ensures.kept

pub eliminate_shared-requires-clause-normal : goal.eliminate_shared-requires-clause-normal
eliminate_shared-requires-clause-normal c =
    let o = context_of c.args.self.now.context in
    let same = c.leaves.ensures.kept.same c.args.id c.requires.id in
    subst (Every (IsNormal o)) (sym c.in_ok-block.ensures.block.matrix.same) (matrix_normal o (tree c.leaves.new.store c.args.id) (subst (Every (IsNormal o)) (sym same) c.requires.normal))

pub returns-in_err-matrix-clause-stops : goal.returns-in_err-matrix-clause-stops
returns-in_err-matrix-clause-stops c =
    let o = context_of c.args.self.now.context in
    let limit = c.args.self.now.limits.nodes in
    let f = tree c.args.store.now c.args.id in
    let e = c.in_err-matrix.field-0.0 in
    let same = c.leaves.ensures.kept.same c.args.id c.requires.id in
    let matrix = c.in_ok-block.ensures.block.matrix.same ∙ ap case_matrix same in
    let told = c.in_ok-leaves.ensures.cases in
    let is : c.from_residual-in_err-matrix.result ≡ Err e = search rules in
    rw is (matrix_stops o limit f c.requires.normal (map leaf_case c.in_ok-leaves.leaves.items, told.0) told.1 e (stops_along e _ _ (ap (reference o limit) matrix) c.in_err-matrix.ensures.stops))

pub returns-in_err-matrix-clause-kept : goal.returns-in_err-matrix-clause-kept
returns-in_err-matrix-clause-kept c =
    keeps_then c.args.store.now c.leading_block.new.store c.eliminate_shared.new.store (keeps_then c.args.store.now c.leaves.new.store c.leading_block.new.store c.leaves.ensures.kept c.leading_block.ensures.kept) c.eliminate_shared.ensures.kept

pub returns-in_err-cases-clause-kept : goal.returns-in_err-cases-clause-kept
returns-in_err-cases-clause-kept c =
    keeps_then c.args.store.now c.leading_block.new.store c.of_leaves.new.store (keeps_then c.args.store.now c.leaves.new.store c.leading_block.new.store c.leaves.ensures.kept c.leading_block.ensures.kept)
    (keeps_then c.leading_block.new.store c.eliminate_shared.new.store c.of_leaves.new.store c.eliminate_shared.ensures.kept c.of_leaves.ensures.kept)

pub returns-clause-cases : goal.returns-clause-cases
returns-clause-cases c =
    let task = c.args.self.now in
    let f = tree c.args.store.now c.args.id in
    let one = c.leading_block.new.store in
    let two = c.eliminate_shared.new.store in
    let nodes = c.of_leaves.new.store in
    let block = c.in_ok-block.block in
    let told = c.in_ok-leaves.ensures.cases in
    let is = subst (λ g. IsLeadingBlock g one block) (c.leaves.ensures.kept.same c.args.id c.requires.id) c.in_ok-block.ensures.block in
    subst (IsCaseTreeOf (context_of task.context) (map atom_of task.theory.now) f nodes) (sym c.case_tree.ensures)
    (tree_of_leaves task f c.requires.normal one two nodes block is c.in_ok-matrix.matrix c.of_leaves.ensures.kept c.in_ok-cases.cases c.in_ok-matrix.ensures.made c.in_ok-matrix.ensures.exact
    task.limits.nodes told.0 (map leaf_case c.in_ok-leaves.leaves.items) told.1 c.in_ok-cases.ensures.shared)

pub returns-clause-kept : goal.returns-clause-kept
returns-clause-kept c =
    keeps_then c.args.store.now c.leading_block.new.store c.of_leaves.new.store (keeps_then c.args.store.now c.leaves.new.store c.leading_block.new.store c.leaves.ensures.kept c.leading_block.ensures.kept)
    (keeps_then c.leading_block.new.store c.eliminate_shared.new.store c.of_leaves.new.store c.eliminate_shared.ensures.kept c.of_leaves.ensures.kept)
