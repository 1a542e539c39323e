use Rattle.std.proofs.Common.{◌≡◌, List, Bool, map, sym, subst, ◌∙◌}
use Rattle.std.specs.List.{AllByRecursion}
use Rattle.branch_pruning.specs.FromAtomPruning.{marked}
use Rattle.branch_pruning.specs.Pruned.{AreCovering}
use Rattle.normal_atoms.specs.Atoms.{context_of, atom_of}
use Rattle.normal_atoms.proofs.Stepped.{ok_map}
use Rattle.formula_store.specs.declared.id.FormulaId.{FormulaId}
use Rattle.formula_store.specs.Nodes.{tree, IsId}
use Rattle.formula_store.proofs.Makes.{keeps_then}
use Rattle.short_answers.specs.Asking.{AreTidyIds, IsTidyId}
use Rattle.short_answers.proofs.Covering.{each_marked, marked_same}
use Rattle.short_answers.proofs.Keeping.{all_kept, ids_of}
use Rattle.short_answers.proofs.asking.Asker.thinned.Goals as goal

pub uncovered-requires-clause-formulas : goal.uncovered-requires-clause-formulas
uncovered-requires-clause-formulas g c κs within =
    let o = context_of c.args.self.now.work.now.context in
    subst (AreTidyIds o c.args.store.now) (sym c.deref.ensures.value) (c.in_ok-members.ensures.tidy o c.requires.id.tidy)

pub fold-requires : goal.fold-requires
fold-requires g c =
    let o = context_of c.args.self.now.work.now.context in
    let old = c.args.store.now in
    let new = c.uncovered.new.store in
    let ms : List FormulaId = c.in_ok-members.members.items in
    let marks : List Bool = c.in_ok-marks.marks.items in
    let left : c.deref-4.result.now ≡ marked marks ms = c.deref-4.ensures.value ∙ c.in_ok-left.ensures ∙ (λ i. marked (c.deref-3.ensures.value i) (c.deref-2.ensures.value i)) in
    let tidy = each_marked (IsTidyId o old) marks ms (c.in_ok-members.ensures.tidy o c.requires.id.tidy) in
    subst (AllByRecursion (IsId new)) (sym left) (ids_of o new (marked marks ms) (all_kept o old new c.uncovered.ensures.kept (marked marks ms) tidy))

pub returns-clause-same : goal.returns-clause-same
returns-clause-same g c =
    let w = c.args.self.now.work.now in
    let o = context_of w.context in
    let old = c.args.store.now in
    let ms : List FormulaId = c.in_ok-members.members.items in
    let marks : List Bool = c.in_ok-marks.marks.items in
    let left : c.deref-4.result.now ≡ marked marks ms = c.deref-4.ensures.value ∙ c.in_ok-left.ensures ∙ (λ i. marked (c.deref-3.ensures.value i) (c.deref-2.ensures.value i)) in
    let covering = subst (λ (ids : List FormulaId). AreCovering o (map atom_of w.assumed.now) (map (tree old) ids) marks) c.deref.ensures.value c.in_ok-marks.ensures.covering in
    ok_map c.fold.result
    (λ id made. marked_same w (tree old c.args.id) old c.uncovered.new.store c.fold.new.formulas ms c.deref-4.result.now marks id c.uncovered.ensures.kept c.requires.id.tidy c.in_ok-members.ensures covering left made)
    c.fold.ensures.made

pub returns-clause-kept : goal.returns-clause-kept
returns-clause-kept g c = keeps_then c.args.store.now c.uncovered.new.store c.fold.new.formulas c.uncovered.ensures.kept c.fold.ensures.kept
