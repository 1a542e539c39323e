use Rattle.std.proofs.Common.{List, sym, subst}
use Rattle.std.specs.List.{AllByRecursion}
use Rattle.formula_store.specs.declared.id.FormulaId.{FormulaId}
use Rattle.formula_store.specs.Nodes.{IsId}
use Rattle.formula_store.proofs.Marked.{all_at}
use Rattle.branch_points.proofs.ListedAtoms.{listed_ids}
use Rattle.short_answers.proofs.atoms.add_atoms.Goals as goal

pub shape-requires : goal.shape-requires
shape-requires c =
    let n = c.args.store.now in
    all_at (IsId n) c.deref-id-items.result.now c.loop-id.id-index (record { number = 0 }) c.loop-id-test.true
    (subst (λ (ids : List FormulaId). AllByRecursion (IsId n) ids) (sym c.deref-id-items.ensures.value) (listed_ids n c.args.id c.in-Ok.ids.items c.requires.id c.in-Ok.ensures.order))
