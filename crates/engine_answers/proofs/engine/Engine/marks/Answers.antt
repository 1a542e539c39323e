use Rattle.std.proofs.Common.{◌≡◌, List, map, ap, sym, subst, ◌∙◌}
use Rattle.std.specs.List.{AllByRecursion}
use Rattle.logic_meaning.specs.Some.{EachOf}
use Rattle.logic_meaning.specs.NormalForm.{IsNormal}
use Rattle.logic_meaning.specs.declared.form.VarId.{VarId}
use Rattle.normal_atoms.specs.declared.atoms.Atom.{Atom}
use Rattle.normal_atoms.specs.declared.atoms.Context.{Context}
use Rattle.normal_atoms.specs.Atoms.{context_of, atom_of, IsWellFormed}
use Rattle.normal_atoms.proofs.Stepped.{ok_map}
use Rattle.formula_store.specs.declared.id.FormulaId.{FormulaId}
use Rattle.formula_store.specs.Nodes.{tree}
use Rattle.short_answers.specs.Asking.{IsTidyId, AreTidyIds}
use Rattle.engine_answers.specs.Assumed.{lacking}
use Rattle.engine_answers.specs.declared.case_tree.Case.{Case}
use Rattle.engine_answers.specs.declared.case_tree.CaseTree.{CaseTree}
use Rattle.engine_answers.proofs.Lacking.{lacking_formed}
use Rattle.engine_answers.proofs.ShortCases.{covers_so, lacking_normal, trees_of_guards}
use Rattle.engine_answers.proofs.Trees.{to_mapped}
use Rattle.engine_answers.proofs.engine.Engine.marks.Goals as goal

-- the assumptions, and the guards, as slices
assumed_are : (t : CaseTree) (atoms assumed slice : List Atom) (names : List VarId) → names ≡ t.block.items → assumed ≡ lacking names atoms → slice ≡ assumed → slice ≡ lacking t.block.items atoms
assumed_are t atoms assumed slice names n a s = s ∙ a ∙ ap (λ (xs : List VarId). lacking xs atoms) n

guards_are : (t : CaseTree) (guards slice : List FormulaId) (cases : List Case) → cases ≡ t.cases.items → guards ≡ map (λ (k : Case). k.guard) cases → slice ≡ guards → slice ≡ map (λ (k : Case). k.guard) t.cases.items
guards_are t guards slice cases n a s = s ∙ a ∙ ap (map (λ (k : Case). k.guard)) n

pub work-work-requires-clause-assumed : goal.work-work-requires-clause-assumed
work-work-requires-clause-assumed g c κs within =
    let o = context_of c.args.self.now.context in
    let t = c.args.case_tree.now in
    let is = assumed_are t c.args.atoms.now c.in_ok-assumed.assumed.items c.deref-3.result.now c.deref.result.now c.deref.ensures.value c.in_ok-assumed.ensures c.deref-3.ensures.value in
    subst (λ (ks : List Atom). EachOf (IsNormal o) (map atom_of ks)) (sym is) (lacking_normal o t.block.items c.args.atoms.now c.requires.atoms)

pub work-work-requires-clause-well_formed : goal.work-work-requires-clause-well_formed
work-work-requires-clause-well_formed g c κs within =
    let t = c.args.case_tree.now in
    let is = assumed_are t c.args.atoms.now c.in_ok-assumed.assumed.items c.deref-3.result.now c.deref.result.now c.deref.ensures.value c.in_ok-assumed.ensures c.deref-3.ensures.value in
    subst (AllByRecursion IsWellFormed) (sym is) (lacking_formed t.block.items c.args.atoms.now c.requires.well_formed)

pub uncovered-requires-clause-formulas : goal.uncovered-requires-clause-formulas
uncovered-requires-clause-formulas g c κs within =
    let nodes = c.args.store.now in
    let t = c.args.case_tree.now in
    let o = context_of c.args.self.now.context in
    let is = guards_are t c.in_ok-guards.guards.items c.deref-4.result.now c.deref-2.result.now c.deref-2.ensures.value c.in_ok-guards.ensures c.deref-4.ensures.value in
    subst (λ (d : Context). AreTidyIds (context_of d) nodes c.deref-4.result.now) (sym c.work-work.ensures.context)
    (subst (AreTidyIds o nodes) (sym is) (to_mapped (IsTidyId o nodes) (λ (k : Case). k.guard) t.cases.items c.requires.guards))

pub returns-clause-covering : goal.returns-clause-covering
returns-clause-covering g c =
    let nodes = c.args.store.now in
    let t = c.args.case_tree.now in
    let w = c.work-work.result in
    let assumed = assumed_are t c.args.atoms.now c.in_ok-assumed.assumed.items c.deref-3.result.now c.deref.result.now c.deref.ensures.value c.in_ok-assumed.ensures c.deref-3.ensures.value in
    let guards = guards_are t c.in_ok-guards.guards.items c.deref-4.result.now c.deref-2.result.now c.deref-2.ensures.value c.in_ok-guards.ensures c.deref-4.ensures.value in
    ok_map c.uncovered.result
    (λ v h. covers_so (context_of w.context) (context_of c.args.self.now.context) (map atom_of w.assumed.now) (map atom_of (lacking t.block.items c.args.atoms.now)) (map (tree nodes) c.deref-4.result.now)
    (map (λ (k : Case). tree nodes k.guard) t.cases.items) v.items (ap context_of c.work-work.ensures.context) (ap (map atom_of) (c.work-work.ensures.assumed ∙ assumed)) (ap (map (tree nodes)) guards ∙ trees_of_guards nodes t.cases.items) h)
    c.uncovered.ensures.covering
