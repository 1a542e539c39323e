use Rattle.std.proofs.Common.{◌∷◌, [], ◌+◌, List, map, drop, sym, subst, arith}
use Rattle.logic_meaning.specs.Atom.{Atom}
use Rattle.formula_laws.specs.TheoryAtoms.{AtomIn}
use Rattle.logic_meaning.specs.Some.{EachOf}
use Rattle.normal_atoms.specs.Atoms.{atom_of, context_of}
use Rattle.elimination_theory.proofs.SomeListed.{each_left}
use Rattle.formula_store.specs.declared.id.FormulaId.{FormulaId}
use Rattle.formula_store.specs.Order.{IsOrder}
use Rattle.formula_store.proofs.Before.{each_id}
use Rattle.branch_rounds.specs.FromBranchPoints.{shape_atoms}
use Rattle.branch_rounds.proofs.FromBranchPoints.{atoms_at}
use Rattle.engine_answers.proofs.Searching.{IsSearched, node_atoms, atoms_inside, searched_first, searched_more, searched_last, searched_fails, fails_there}
use Rattle.engine_answers.proofs.search.Search.least_in.Goals as goal

pub loop-id-init : goal.loop-id-init
loop-id-init c =
    let o = subst (λ (ids : List FormulaId). IsOrder c.args.store.now (c.args.root ∷ []) ids) (sym c.deref-id-items.ensures.value) c.in-Ok.ensures.order in
    searched_first c.args.self.now (atoms_at c.args.store.now c.deref-id-items.result.now) (atoms_inside c.args.store.now c.args.root c.deref-id-items.result.now c.requires.id o (context_of c.args.self.now.context) c.requires.inside)

pub shape-requires : goal.shape-requires
shape-requires c =
    let o = subst (λ (ids : List FormulaId). IsOrder c.args.store.now (c.args.root ∷ []) ids) (sym c.deref-id-items.ensures.value) c.in-Ok.ensures.order in
    each_id c.args.store.now c.requires.id.are (c.args.root ∷ []) c.deref-id-items.result.now o (c.requires.id, tt) c.loop-id.id-index (record { number = 0 }) c.loop-id-test.true

pub least_with_shape-requires-clause-inside : goal.least_with_shape-requires-clause-inside
least_with_shape-requires-clause-inside c =
    let nodes = c.args.store.now in
    let ids = c.deref-id-items.result.now in
    let i = c.loop-id.id-index in
    let o = subst (λ (ids : List FormulaId). IsOrder nodes (c.args.root ∷ []) ids) (sym c.deref-id-items.ensures.value) c.in-Ok.ensures.order in
    let own = map atom_of (shape_atoms c.shape.result.now) in
    let split = node_atoms nodes c.args.root ids c.requires.id o i (record { number = 0 }) c.shape.result.now c.loop-id-test.true c.shape.ensures.tree in
    each_left (AtomIn (context_of c.args.self.now.context)) own (atoms_at nodes (drop (i + 1) ids)) (subst (EachOf (AtomIn (context_of c.args.self.now.context))) (sym split) c.loop-id.invariant.inside)

pub loop-id-preserved : goal.loop-id-preserved
loop-id-preserved c =
    let nodes = c.args.store.now in
    let ids = c.deref-id-items.result.now in
    let i = c.loop-id.id-index in
    let all = atoms_at nodes ids in
    let o = subst (λ (ids : List FormulaId). IsOrder nodes (c.args.root ∷ []) ids) (sym c.deref-id-items.ensures.value) c.in-Ok.ensures.order in
    let own = map atom_of (shape_atoms c.shape.result.now) in
    let split = node_atoms nodes c.args.root ids c.requires.id o i (record { number = 0 }) c.shape.result.now c.loop-id-test.true c.shape.ensures.tree in
    searched_more c.args.self.now all own (atoms_at nodes (drop (i + 1) ids)) c.loop-id.least c.in-Ok-least_with_shape.lesser
    (subst (λ (rest : List Atom). IsSearched c.args.self.now all rest c.loop-id.least) (sym split) c.loop-id.invariant) c.in-Ok-least_with_shape.ensures

pub returns-in-Err : goal.returns-in-Err
returns-in-Err c =
    let nodes = c.args.store.now in
    let ids = c.deref-id-items.result.now in
    let i = c.loop-id.id-index in
    let all = atoms_at nodes ids in
    let o = subst (λ (ids : List FormulaId). IsOrder nodes (c.args.root ∷ []) ids) (sym c.deref-id-items.ensures.value) c.in-Ok.ensures.order in
    let own = map atom_of (shape_atoms c.shape.result.now) in
    let split = node_atoms nodes c.args.root ids c.requires.id o i (record { number = 0 }) c.shape.result.now c.loop-id-test.true c.shape.ensures.tree in
    searched_fails c.args.self.now nodes c.args.root ids c.requires.id o c.requires.plain c.in-Err.error
    (fails_there c.args.self.now all own (atoms_at nodes (drop (i + 1) ids)) c.loop-id.least c.in-Err.error (subst (λ (rest : List Atom). IsSearched c.args.self.now all rest c.loop-id.least) (sym split) c.loop-id.invariant)
    c.in-Err.ensures)

pub returns : goal.returns
returns c =
    let o = subst (λ (ids : List FormulaId). IsOrder c.args.store.now (c.args.root ∷ []) ids) (sym c.deref-id-items.ensures.value) c.in-Ok.ensures.order in
    searched_last c.args.self.now c.args.store.now c.args.root c.deref-id-items.result.now c.requires.id o c.requires.plain c.loop-id.id-index c.loop-id.least (omega arith) c.loop-id.invariant
