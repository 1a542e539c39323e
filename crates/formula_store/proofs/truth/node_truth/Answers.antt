use Rattle.std.proofs.Common.{◌<◌, Bool, false, not, ◌||◌, List, length, get_or, sym, ap, ◌∙◌, subst, arith}
use Rattle.std.specs.Bool.{beq}
use Rattle.std.specs.List.{AllByRecursion}
use Rattle.formula_tree.specs.declared.shape.Shape.{Shape}
use Rattle.formula_tree.specs.declared.shape.Shape.TheVariants as shape
use Rattle.formula_tree.specs.Shapes.{AllIds, tree_over}
use Rattle.formula_tree.proofs.Shapes.{all_ids_map}
use Rattle.formula_tree.specs.FromLinearForms.{point_of}
use Rattle.formula_store.specs.declared.id.FormulaId.{FormulaId}
use Rattle.formula_store.specs.Nodes.{tree}
use Rattle.formula_store.proofs.Told.{all_tell, some_tell, not_tells, impl_tells, repl_tells}
use Rattle.formula_store.proofs.Evaluated.{arm_told, arm_tells, beq_tells, asked_whole}
use Rattle.formula_store.proofs.truth.node_truth.Goals as goal

pub some_is-requires : goal.some_is-requires
some_is-requires c =
    let within : AllIds (λ (m : FormulaId). m.number < length c.args.table.now.items) c.shape.result.now =
    all_ids_map (λ (m : FormulaId). m.number < c.args.id.number) (λ (m : FormulaId). m.number < length c.args.table.now.items) (λ m k. omega (arith, c.requires.size, c.requires.id)) c.shape.result.now c.shape.ensures.ids in
    subst (λ (ids : List FormulaId). AllByRecursion (λ (m : FormulaId). m.number < length c.args.table.now.items) ids) (sym c.items.ensures)
    (subst (λ s. AllIds (λ (m : FormulaId). m.number < length c.args.table.now.items) s) c.in-And.is within)

pub some_is-requires-in-Or : goal.some_is-requires-in-Or
some_is-requires-in-Or c =
    let within : AllIds (λ (m : FormulaId). m.number < length c.args.table.now.items) c.shape.result.now =
    all_ids_map (λ (m : FormulaId). m.number < c.args.id.number) (λ (m : FormulaId). m.number < length c.args.table.now.items) (λ m k. omega (arith, c.requires.size, c.requires.id)) c.shape.result.now c.shape.ensures.ids in
    subst (λ (ids : List FormulaId). AllByRecursion (λ (m : FormulaId). m.number < length c.args.table.now.items) ids) (sym c.items-in-Or.ensures)
    (subst (λ s. AllIds (λ (m : FormulaId). m.number < length c.args.table.now.items) s) c.in-Or.is within)

pub returns-in-And : goal.returns-in-And
returns-in-And c =
    let marks : FormulaId → Bool = λ m. get_or c.args.table.now.items m.number false in
    let p = point_of c.args.at.now in
    let told = arm_told c.args.store.now p marks c.args.id c.shape.result.now (shape.And c.in-And.ids) c.shape.ensures.node c.shape.ensures.tree c.in-And.is c.requires.members in
    arm_tells c.args.store.now p marks c.args.id c.shape.result.now (shape.And c.in-And.ids) c.shape.ensures.node c.shape.ensures.tree c.in-And.is c.requires.members (not c.some_is.result)
    (all_tell c.some_is.result (tree c.args.store.now) marks p c.in-And.ids told (rw c.items.ensures at c.some_is.ensures))

pub returns-in-Or : goal.returns-in-Or
returns-in-Or c =
    let marks : FormulaId → Bool = λ m. get_or c.args.table.now.items m.number false in
    let p = point_of c.args.at.now in
    let told = arm_told c.args.store.now p marks c.args.id c.shape.result.now (shape.Or c.in-Or.ids) c.shape.ensures.node c.shape.ensures.tree c.in-Or.is c.requires.members in
    arm_tells c.args.store.now p marks c.args.id c.shape.result.now (shape.Or c.in-Or.ids) c.shape.ensures.node c.shape.ensures.tree c.in-Or.is c.requires.members c.some_is-in-Or.result
    (some_tell c.some_is-in-Or.result (tree c.args.store.now) marks p c.in-Or.ids told (rw c.items-in-Or.ensures at c.some_is-in-Or.ensures))

pub returns-in-Not : goal.returns-in-Not
returns-in-Not c =
    let marks : FormulaId → Bool = λ m. get_or c.args.table.now.items m.number false in
    let p = point_of c.args.at.now in
    let s : Shape FormulaId = shape.Not c.in-Not.member in
    let told = arm_told c.args.store.now p marks c.args.id c.shape.result.now s c.shape.ensures.node c.shape.ensures.tree c.in-Not.is c.requires.members in
    arm_tells c.args.store.now p marks c.args.id c.shape.result.now s c.shape.ensures.node c.shape.ensures.tree c.in-Not.is c.requires.members (not c.mark.result)
    (rw c.mark.ensures (not_tells (marks c.in-Not.member) (tree c.args.store.now c.in-Not.member) p told))

pub returns-in-Equiv : goal.returns-in-Equiv
returns-in-Equiv c =
    let marks : FormulaId → Bool = λ m. get_or c.args.table.now.items m.number false in
    let p = point_of c.args.at.now in
    let s : Shape FormulaId = shape.Equiv c.in-Equiv.left c.in-Equiv.right in
    let told = arm_told c.args.store.now p marks c.args.id c.shape.result.now s c.shape.ensures.node c.shape.ensures.tree c.in-Equiv.is c.requires.members in
    arm_tells c.args.store.now p marks c.args.id c.shape.result.now s c.shape.ensures.node c.shape.ensures.tree c.in-Equiv.is c.requires.members (beq c.mark-in-Equiv.result c.mark-in-Equiv-2.result)
    (rw (c.mark-in-Equiv.ensures, c.mark-in-Equiv-2.ensures) (beq_tells (marks c.in-Equiv.left) (marks c.in-Equiv.right) (tree c.args.store.now c.in-Equiv.left) (tree c.args.store.now c.in-Equiv.right) p told.0 told.1))

pub returns-in-Impl : goal.returns-in-Impl
returns-in-Impl c =
    let marks : FormulaId → Bool = λ m. get_or c.args.table.now.items m.number false in
    let p = point_of c.args.at.now in
    let s : Shape FormulaId = shape.Impl c.in-Impl.left c.in-Impl.right in
    let told = arm_told c.args.store.now p marks c.args.id c.shape.result.now s c.shape.ensures.node c.shape.ensures.tree c.in-Impl.is c.requires.members in
    arm_tells c.args.store.now p marks c.args.id c.shape.result.now s c.shape.ensures.node c.shape.ensures.tree c.in-Impl.is c.requires.members (not c.mark-in-Impl.result || c.mark-in-Impl-2.result)
    (rw (c.mark-in-Impl.ensures, c.mark-in-Impl-2.ensures) (impl_tells (marks c.in-Impl.left) (marks c.in-Impl.right) (tree c.args.store.now c.in-Impl.left) (tree c.args.store.now c.in-Impl.right) p told.0 told.1))

pub returns-in-Repl : goal.returns-in-Repl
returns-in-Repl c =
    let marks : FormulaId → Bool = λ m. get_or c.args.table.now.items m.number false in
    let p = point_of c.args.at.now in
    let s : Shape FormulaId = shape.Repl c.in-Repl.left c.in-Repl.right in
    let told = arm_told c.args.store.now p marks c.args.id c.shape.result.now s c.shape.ensures.node c.shape.ensures.tree c.in-Repl.is c.requires.members in
    arm_tells c.args.store.now p marks c.args.id c.shape.result.now s c.shape.ensures.node c.shape.ensures.tree c.in-Repl.is c.requires.members (not c.mark-in-Repl.result || c.mark-in-Repl-2.result)
    (rw (c.mark-in-Repl.ensures, c.mark-in-Repl-2.ensures) (repl_tells (marks c.in-Repl.left) (marks c.in-Repl.right) (tree c.args.store.now c.in-Repl.left) (tree c.args.store.now c.in-Repl.right) p told.0 told.1))

pub truth-requires-clause-whole : goal.truth-requires-clause-whole
truth-requires-clause-whole c = asked_whole c.in-One.atom (tree c.args.store.now c.args.id) c.args.at.now.denominator (c.shape.ensures.tree ∙ ap (tree_over (tree c.args.store.now)) c.in-One.is) c.requires.whole
