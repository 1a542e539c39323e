use Rattle.std.proofs.Common.{◌≡◌, List, ap, sym, subst, ◌∙◌, arith}
use Rattle.logic_meaning.specs.Every.{Every}
use Rattle.logic_meaning.specs.NormalForm.{IsNormal}
use Rattle.logic_meaning.specs.Plain.{IsNegationNormal}
use Rattle.logic_meaning.specs.declared.form.VarId.{VarId}
use Rattle.normal_atoms.specs.declared.atoms.Atom.{Atom}
use Rattle.normal_atoms.specs.Atoms.{context_of}
use Rattle.formula_store.specs.Nodes.{tree}
use Rattle.formula_store.proofs.Makes.{keeps_then}
use Rattle.case_theory.proofs.Fallback.{matrix_normal}
use Rattle.branch_rounds.specs.declared.work.Work.{Work}
use Rattle.engine_answers.specs.Assumed.{lacking}
use Rattle.engine_answers.specs.declared.branched.Begun.{Begun}
use Rattle.engine_answers.proofs.Beginning.{begun_now, unpaid_now}
use Rattle.engine_answers.proofs.DirectTrees.{block_free, block_few}
use Rattle.engine_answers.proofs.InnerBlocksChains.{case_matrix_form}
use Rattle.engine_answers.proofs.Under.{is_under}
use Rattle.engine_answers.proofs.WorkingFacts.{whole_work, is_whole_work}
use Rattle.engine_answers.proofs.task.Task.begun.Goals as goal

-- the assumptions without the names, as the slice that is worked with
lacking_here : (theory made slice work : List Atom) (names block : List VarId) → names ≡ block → made ≡ lacking names theory → slice ≡ made → work ≡ slice → work ≡ lacking block theory
lacking_here theory made slice work names block n m s w = w ∙ s ∙ m ∙ ap (λ ns. lacking ns theory) n

pub matrix_worked-requires-clause-work : goal.matrix_worked-requires-clause-work
matrix_worked-requires-clause-work g c κs within =
    let t = c.args.self.now in
    let w : Work = c.work-work.result in
    (is_under (whole_work t) w c.in_ok-block.block.names.items (is_whole_work t c.requires.task) c.work-work.ensures.context c.work-work.ensures.workers
    (lacking_here t.theory.now c.in_ok-assumed.assumed.items c.deref-2.result.now w.assumed.now c.deref.result.now c.in_ok-block.block.names.items c.deref.ensures.value c.in_ok-assumed.ensures c.deref-2.ensures.value c.work-work.ensures.assumed)).work

pub matrix_worked-requires-clause-normal : goal.matrix_worked-requires-clause-normal
matrix_worked-requires-clause-normal g c κs within =
    let o = context_of c.args.self.now.context in
    let normal = subst (Every (IsNormal o)) (sym c.in_ok-block.ensures.block.matrix.same) (matrix_normal o (tree c.args.store.now c.args.id) c.requires.normal) in
    subst (λ d. Every (IsNormal (context_of d)) (tree c.leading_block.new.store c.in_ok-block.block.matrix)) (sym c.work-work.ensures.context) normal

pub matrix_worked-requires-clause-form : goal.matrix_worked-requires-clause-form
matrix_worked-requires-clause-form g c κs within = subst IsNegationNormal (sym c.in_ok-block.ensures.block.matrix.same) (case_matrix_form (tree c.args.store.now c.args.id))

pub returns-in-Err-clause-direct : goal.returns-in-Err-clause-direct
returns-in-Err-clause-direct g c x fs s e d =
    let task = c.args.self.now in
    let f = tree c.args.store.now c.args.id in
    let one = c.leading_block.new.store in
    let block = c.in_ok-block.block in
    let is = c.in_ok-block.ensures.block in
    c.in-Err.ensures.plain (block_few task f c.requires.normal x fs s e d one block is) (block_free task f c.requires.normal x fs s e d one block is)

pub returns-in-Err-clause-kept : goal.returns-in-Err-clause-kept
returns-in-Err-clause-kept g c = keeps_then c.args.store.now c.leading_block.new.store c.matrix_worked.new.store c.leading_block.ensures.kept c.matrix_worked.ensures.kept

pub returns-clause-begun : goal.returns-clause-begun
returns-clause-begun g c =
    let t = c.args.self.now in
    let w : Work = c.work-work.result in
    let block = c.in_ok-block.block in
    let b : Begun = record { block = block; assumed = c.in_ok-assumed.assumed; matrix = c.in-Ok.matrix; budget = c.matrix_worked.new.budget } in
    begun_now c.leading_block.new.store c.matrix_worked.new.store c.matrix_worked.ensures.kept t (tree c.args.store.now c.args.id) b w c.requires.normal c.in_ok-block.ensures.block
    (c.in_ok-assumed.ensures ∙ ap (λ ns. lacking ns t.theory.now) c.deref.ensures.value) c.work-work.ensures.context (c.work-work.ensures.assumed ∙ c.deref-2.ensures.value) c.in-Ok.ensures.worked

pub returns-clause-unpaid : goal.returns-clause-unpaid
returns-clause-unpaid g c =
    let t = c.args.self.now in
    let block = c.in_ok-block.block in
    let b : Begun = record { block = block; assumed = c.in_ok-assumed.assumed; matrix = c.in-Ok.matrix; budget = c.matrix_worked.new.budget } in
    unpaid_now c.leading_block.new.store c.matrix_worked.new.store c.matrix_worked.ensures.kept t (tree c.args.store.now c.args.id) b c.in_ok-block.ensures.block c.in-Ok.ensures.plain
    (λ free. let same = ap (λ d. d.nodes) (c.matrix_worked.ensures.unpaid free) in let limit = c.of_limit-budget.ensures in omega (arith, same, limit))

pub returns-clause-kept : goal.returns-clause-kept
returns-clause-kept g c = keeps_then c.args.store.now c.leading_block.new.store c.matrix_worked.new.store c.leading_block.ensures.kept c.matrix_worked.ensures.kept
