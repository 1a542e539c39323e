use Rattle.std.proofs.Common.{◌+◌, ◌*◌, List, map, ap, sym, subst, ◌∙◌}
use Rattle.formula_laws.specs.StandsOnce.{StandsOnce}
use Rattle.logic_meaning.specs.Some.{EachOf}
use Rattle.logic_meaning.specs.declared.form.VarId.{VarId}
use Rattle.normal_atoms.specs.Atoms.{context_of, atom_of}
use Rattle.formula_store.specs.Nodes.{tree}
use Rattle.case_theory.specs.Under.{Lack}
use Rattle.case_theory.proofs.Leading.{names_once}
use Rattle.branch_rounds.specs.declared.work.Work.{Work}
use Rattle.branch_rounds.specs.Branches.{AreBranchesOf, numbers}
use Rattle.branch_rounds.specs.Rounds.{IsDirectAt, IsLeftAlone}
use Rattle.engine_answers.specs.declared.case_tree.CaseTree.{CaseTree}
use Rattle.engine_answers.specs.CaseTrees.{IsCaseTreeOf}
use Rattle.engine_answers.specs.Listed.{told_case}
use Rattle.engine_answers.proofs.Beginning.{begun_under, begun_worked}
use Rattle.engine_answers.proofs.DirectTrees.{direct_with_more, block_name, block_free, block_few, block_direct, block_tree}
use Rattle.engine_answers.proofs.Trees.{tree_of_branches}
use Rattle.engine_answers.proofs.Under.{under_lack}
use Rattle.engine_answers.proofs.WorkingFacts.{whole_work}
use Rattle.engine_answers.proofs.task.Task.cases_of.Goals as goal

pub block_branches-requires-clause-work : goal.block_branches-requires-clause-work
block_branches-requires-clause-work g c κs within =
    let t = c.args.self.now in
    (begun_under t c.requires.task c.requires.begun.0 c.args.store.now c.args.begun c.requires.begun.1 c.work-work.result c.work-work.ensures.context c.work-work.ensures.workers (c.work-work.ensures.assumed ∙ c.deref.ensures.value)).work

pub block_branches-requires-clause-tidy : goal.block_branches-requires-clause-tidy
block_branches-requires-clause-tidy g c κs within =
    (begun_worked c.args.self.now c.requires.task c.requires.begun.0 c.args.store.now c.args.begun c.requires.begun.1 c.work-work.result c.work-work.ensures.context c.work-work.ensures.workers (c.work-work.ensures.assumed ∙ c.deref.ensures.value)).worked.tidy

pub block_branches-requires-clause-lack : goal.block_branches-requires-clause-lack
block_branches-requires-clause-lack g c κs within =
    let t = c.args.self.now in
    let w : Work = c.work-work.result in
    let under = begun_under t c.requires.task c.requires.begun.0 c.args.store.now c.args.begun c.requires.begun.1 w c.work-work.ensures.context c.work-work.ensures.workers (c.work-work.ensures.assumed ∙ c.deref.ensures.value) in
    subst (λ (ns : List VarId). EachOf (Lack (map atom_of w.assumed.now)) (numbers ns)) (sym c.deref-2.ensures.value) (under_lack (whole_work t) w c.args.begun.block.names.items under)

pub block_branches-requires-clause-once : goal.block_branches-requires-clause-once
block_branches-requires-clause-once g c κs within =
    subst StandsOnce (sym (ap numbers c.deref-2.ensures.value ∙ c.requires.begun.1.block.names)) (names_once c.requires.begun.0)

pub returns-clause-cases : goal.returns-clause-cases
returns-clause-cases g c f h =
    let t = c.args.self.now in
    let w : Work = c.work-work.result in
    let b = c.args.begun in
    let old = c.args.store.now in
    let nodes = c.block_branches.new.store in
    let bs = c.in-Ok.branches.items in
    let now = c.work-work.ensures.assumed ∙ c.deref.ensures.value in
    let under = begun_under t c.requires.task f old b h w c.work-work.ensures.context c.work-work.ensures.workers now in
    let worked = begun_worked t c.requires.task f old b h w c.work-work.ensures.context c.work-work.ensures.workers now in
    let are = subst (λ (ns : List VarId). AreBranchesOf w (tree old b.matrix) (numbers ns) nodes bs) c.deref-2.ensures.value c.in-Ok.ensures.branches in
    subst (IsCaseTreeOf (context_of t.context) (map atom_of t.theory.now) f nodes) (sym c.case_tree.ensures)
    (tree_of_branches t f h.normal old old nodes b.block h.block b.matrix c.block_branches.ensures.kept c.in_ok-cases.cases w under worked bs are c.in_ok-cases.ensures)

pub returns-in-Err-clause-direct : goal.returns-in-Err-clause-direct
returns-in-Err-clause-direct g c f x fs s h u e d =
    let t = c.args.self.now in
    let b = c.args.begun in
    let old = c.args.store.now in
    let w : Work = c.work-work.result in
    let free = block_free t f h.normal x fs s e d old b.block h.block in
    let plain = u.plain (block_few t f h.normal x fs s e d old b.block h.block) free in
    let y = block_name t f h.normal x fs s e d old b.block h.block in
    let at = direct_with_more (context_of t.context) (2 * t.limits.nodes + 8) b.budget.nodes (tree old b.matrix) b.block.names.items y s (u.budget free) (block_direct t f h.normal x fs s e d old b.block h.block old b.matrix plain) in
    c.in-Err.ensures.direct y s
    (subst (λ k. IsDirectAt (context_of k) b.budget.nodes (tree old b.matrix) c.deref-2.result.now y s) (sym c.work-work.ensures.context)
    (subst (λ (names : List VarId). IsDirectAt (context_of t.context) b.budget.nodes (tree old b.matrix) names y s) (sym c.deref-2.ensures.value) at))

pub returns-clause-direct : goal.returns-clause-direct
returns-clause-direct g c f x fs s h u e d =
    let t = c.args.self.now in
    let b = c.args.begun in
    let old = c.args.store.now in
    let w : Work = c.work-work.result in
    let nodes = c.block_branches.new.store in
    let bs = c.in-Ok.branches.items in
    let free = block_free t f h.normal x fs s e d old b.block h.block in
    let plain = u.plain (block_few t f h.normal x fs s e d old b.block h.block) free in
    let y = block_name t f h.normal x fs s e d old b.block h.block in
    let at = direct_with_more (context_of t.context) (2 * t.limits.nodes + 8) b.budget.nodes (tree old b.matrix) b.block.names.items y s (u.budget free) (block_direct t f h.normal x fs s e d old b.block h.block old b.matrix plain) in
    let left = c.in-Ok.ensures.direct y s
    (subst (λ k. IsDirectAt (context_of k) b.budget.nodes (tree old b.matrix) c.deref-2.result.now y s) (sym c.work-work.ensures.context)
    (subst (λ (names : List VarId). IsDirectAt (context_of t.context) b.budget.nodes (tree old b.matrix) names y s) (sym c.deref-2.ensures.value) at)) in
    let there = subst (λ k. IsLeftAlone (context_of k) y.number s (tree old b.matrix) nodes bs) c.work-work.ensures.context left in
    block_tree t f h.normal x fs s e d old b.block h.block old b.matrix plain nodes bs c.case_tree.result there (ap (λ (k : CaseTree). map told_case k.cases.items) c.case_tree.ensures ∙ c.in_ok-cases.ensures)
