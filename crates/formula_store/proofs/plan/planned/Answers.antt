use Rattle.std.proofs.Common.{List, IsSome, sym, subst}
use Rattle.std.specs.List.{AllByRecursion}
use Rattle.std.specs.HashMap.{get}
use Rattle.formula_tree.specs.declared.shape.Shape.TheVariants as shape
use Rattle.formula_tree.proofs.Shapes.{all_map}
use Rattle.formula_store.specs.declared.id.FormulaId.{FormulaId}
use Rattle.formula_store.specs.declared.plan.Plan.TheVariants.{Ready, Make, Cases}
use Rattle.formula_store.specs.Forms.{same_id, Known}
use Rattle.formula_store.proofs.Planned.{arm_known, arm_plans, plans_and, plans_or, plans_not, plans_impl, plans_repl, plans_equiv, plans_ex, plans_all}
use Rattle.formula_store.proofs.plan.planned.Goals as goal

pub all_forms-requires : goal.all_forms-requires
all_forms-requires c =
    let known = arm_known c.args.store.now c.args.table.now c.args.id c.shape.result.now (shape.And c.in-And.ids) c.shape.ensures.node c.shape.ensures.tree c.in-And.is c.requires.members in
    subst (λ (ids : List FormulaId). AllByRecursion (λ (m : FormulaId). IsSome (get same_id c.args.table.now m)) ids) (sym c.items.ensures)
    (all_map (Known c.args.store.now c.args.table.now) (λ (m : FormulaId). IsSome (get same_id c.args.table.now m)) (λ m k. k.there) c.in-And.ids known)

pub returns-in_ok-forms-in-And : goal.returns-in_ok-forms-in-And
returns-in_ok-forms-in-And c =
    let known = arm_known c.args.store.now c.args.table.now c.args.id c.shape.result.now (shape.And c.in-And.ids) c.shape.ensures.node c.shape.ensures.tree c.in-And.is c.requires.members in
    arm_plans c.args.store.now c.args.table.now c.args.id c.shape.result.now (shape.And c.in-And.ids) c.shape.ensures.node c.shape.ensures.tree c.in-And.is c.args.negated (Make c.joined.result)
    (rw (c.joined.ensures, c.turned.ensures, c.in_ok-forms-in-And.ensures, c.items.ensures) (plans_and c.args.store.now c.args.table.now c.args.negated c.in-And.ids known))

pub all_forms-requires-in-Or : goal.all_forms-requires-in-Or
all_forms-requires-in-Or c =
    let known = arm_known c.args.store.now c.args.table.now c.args.id c.shape.result.now (shape.Or c.in-Or.ids) c.shape.ensures.node c.shape.ensures.tree c.in-Or.is c.requires.members in
    subst (λ (ids : List FormulaId). AllByRecursion (λ (m : FormulaId). IsSome (get same_id c.args.table.now m)) ids) (sym c.items-in-Or.ensures)
    (all_map (Known c.args.store.now c.args.table.now) (λ (m : FormulaId). IsSome (get same_id c.args.table.now m)) (λ m k. k.there) c.in-Or.ids known)

pub returns-in_ok-forms-in-Or : goal.returns-in_ok-forms-in-Or
returns-in_ok-forms-in-Or c =
    let known = arm_known c.args.store.now c.args.table.now c.args.id c.shape.result.now (shape.Or c.in-Or.ids) c.shape.ensures.node c.shape.ensures.tree c.in-Or.is c.requires.members in
    arm_plans c.args.store.now c.args.table.now c.args.id c.shape.result.now (shape.Or c.in-Or.ids) c.shape.ensures.node c.shape.ensures.tree c.in-Or.is c.args.negated (Make c.joined-in-Or.result)
    (rw (c.joined-in-Or.ensures, c.turned-in-Or.ensures, c.in_ok-forms-in-Or.ensures, c.items-in-Or.ensures) (plans_or c.args.store.now c.args.table.now c.args.negated c.in-Or.ids known))

pub form-requires : goal.form-requires
form-requires c =
    let known = arm_known c.args.store.now c.args.table.now c.args.id c.shape.result.now (shape.Not c.in-Not.f) c.shape.ensures.node c.shape.ensures.tree c.in-Not.is c.requires.members in
    known.there

pub form-requires-in-Impl : goal.form-requires-in-Impl
form-requires-in-Impl c =
    let known = arm_known c.args.store.now c.args.table.now c.args.id c.shape.result.now (shape.Impl c.in-Impl.f c.in-Impl.g) c.shape.ensures.node c.shape.ensures.tree c.in-Impl.is c.requires.members in
    known.0.there

pub form-requires-in-Impl-2 : goal.form-requires-in-Impl-2
form-requires-in-Impl-2 c =
    let known = arm_known c.args.store.now c.args.table.now c.args.id c.shape.result.now (shape.Impl c.in-Impl.f c.in-Impl.g) c.shape.ensures.node c.shape.ensures.tree c.in-Impl.is c.requires.members in
    known.1.there

pub form-requires-in-Repl : goal.form-requires-in-Repl
form-requires-in-Repl c =
    let known = arm_known c.args.store.now c.args.table.now c.args.id c.shape.result.now (shape.Repl c.in-Repl.f c.in-Repl.g) c.shape.ensures.node c.shape.ensures.tree c.in-Repl.is c.requires.members in
    known.0.there

pub form-requires-in-Repl-2 : goal.form-requires-in-Repl-2
form-requires-in-Repl-2 c =
    let known = arm_known c.args.store.now c.args.table.now c.args.id c.shape.result.now (shape.Repl c.in-Repl.f c.in-Repl.g) c.shape.ensures.node c.shape.ensures.tree c.in-Repl.is c.requires.members in
    known.1.there

pub form-requires-in-Equiv : goal.form-requires-in-Equiv
form-requires-in-Equiv c =
    let known = arm_known c.args.store.now c.args.table.now c.args.id c.shape.result.now (shape.Equiv c.in-Equiv.f c.in-Equiv.g) c.shape.ensures.node c.shape.ensures.tree c.in-Equiv.is c.requires.members in
    known.0.there

pub form-requires-in-Equiv-2 : goal.form-requires-in-Equiv-2
form-requires-in-Equiv-2 c =
    let known = arm_known c.args.store.now c.args.table.now c.args.id c.shape.result.now (shape.Equiv c.in-Equiv.f c.in-Equiv.g) c.shape.ensures.node c.shape.ensures.tree c.in-Equiv.is c.requires.members in
    known.1.there

pub form-requires-in-Equiv-3 : goal.form-requires-in-Equiv-3
form-requires-in-Equiv-3 c =
    let known = arm_known c.args.store.now c.args.table.now c.args.id c.shape.result.now (shape.Equiv c.in-Equiv.f c.in-Equiv.g) c.shape.ensures.node c.shape.ensures.tree c.in-Equiv.is c.requires.members in
    known.0.there

pub form-requires-in-Equiv-4 : goal.form-requires-in-Equiv-4
form-requires-in-Equiv-4 c =
    let known = arm_known c.args.store.now c.args.table.now c.args.id c.shape.result.now (shape.Equiv c.in-Equiv.f c.in-Equiv.g) c.shape.ensures.node c.shape.ensures.tree c.in-Equiv.is c.requires.members in
    known.1.there

pub form-requires-in-Ex : goal.form-requires-in-Ex
form-requires-in-Ex c =
    let known = arm_known c.args.store.now c.args.table.now c.args.id c.shape.result.now (shape.Ex c.in-Ex.x c.in-Ex.f) c.shape.ensures.node c.shape.ensures.tree c.in-Ex.is c.requires.members in
    known.there

pub form-requires-in-All : goal.form-requires-in-All
form-requires-in-All c =
    let known = arm_known c.args.store.now c.args.table.now c.args.id c.shape.result.now (shape.All c.in-All.x c.in-All.f) c.shape.ensures.node c.shape.ensures.tree c.in-All.is c.requires.members in
    known.there

pub returns-in-Not : goal.returns-in-Not
returns-in-Not c =
    let known = arm_known c.args.store.now c.args.table.now c.args.id c.shape.result.now (shape.Not c.in-Not.f) c.shape.ensures.node c.shape.ensures.tree c.in-Not.is c.requires.members in
    arm_plans c.args.store.now c.args.table.now c.args.id c.shape.result.now (shape.Not c.in-Not.f) c.shape.ensures.node c.shape.ensures.tree c.in-Not.is c.args.negated (Ready c.form.result)
    (rw (c.form.ensures) (plans_not c.args.store.now c.args.table.now c.args.negated c.in-Not.f known))

pub returns-in_ok-forms-in-Impl : goal.returns-in_ok-forms-in-Impl
returns-in_ok-forms-in-Impl c =
    let known = arm_known c.args.store.now c.args.table.now c.args.id c.shape.result.now (shape.Impl c.in-Impl.f c.in-Impl.g) c.shape.ensures.node c.shape.ensures.tree c.in-Impl.is c.requires.members in
    arm_plans c.args.store.now c.args.table.now c.args.id c.shape.result.now (shape.Impl c.in-Impl.f c.in-Impl.g) c.shape.ensures.node c.shape.ensures.tree c.in-Impl.is c.args.negated (Make c.joined-in-Impl.result)
    (rw (c.joined-in-Impl.ensures, c.turned-in-Impl.ensures, c.in_ok-forms-in-Impl.ensures, c.form-in-Impl.ensures, c.form-in-Impl-2.ensures) (plans_impl c.args.store.now c.args.table.now c.args.negated c.in-Impl.f c.in-Impl.g known.0 known.1))

pub returns-in_ok-forms-in-Repl : goal.returns-in_ok-forms-in-Repl
returns-in_ok-forms-in-Repl c =
    let known = arm_known c.args.store.now c.args.table.now c.args.id c.shape.result.now (shape.Repl c.in-Repl.f c.in-Repl.g) c.shape.ensures.node c.shape.ensures.tree c.in-Repl.is c.requires.members in
    arm_plans c.args.store.now c.args.table.now c.args.id c.shape.result.now (shape.Repl c.in-Repl.f c.in-Repl.g) c.shape.ensures.node c.shape.ensures.tree c.in-Repl.is c.args.negated (Make c.joined-in-Repl.result)
    (rw (c.joined-in-Repl.ensures, c.turned-in-Repl.ensures, c.in_ok-forms-in-Repl.ensures, c.form-in-Repl.ensures, c.form-in-Repl-2.ensures) (plans_repl c.args.store.now c.args.table.now c.args.negated c.in-Repl.f c.in-Repl.g known.0 known.1))

pub returns-in-Equiv : goal.returns-in-Equiv
returns-in-Equiv c =
    let known = arm_known c.args.store.now c.args.table.now c.args.id c.shape.result.now (shape.Equiv c.in-Equiv.f c.in-Equiv.g) c.shape.ensures.node c.shape.ensures.tree c.in-Equiv.is c.requires.members in
    arm_plans c.args.store.now c.args.table.now c.args.id c.shape.result.now (shape.Equiv c.in-Equiv.f c.in-Equiv.g) c.shape.ensures.node c.shape.ensures.tree c.in-Equiv.is c.args.negated (Cases c.form-in-Equiv.result c.form-in-Equiv-2.result c.form-in-Equiv-3.result c.form-in-Equiv-4.result)
    (rw (c.form-in-Equiv.ensures, c.form-in-Equiv-2.ensures, c.form-in-Equiv-3.ensures, c.form-in-Equiv-4.ensures) (plans_equiv c.args.store.now c.args.table.now c.args.negated c.in-Equiv.f c.in-Equiv.g known.0 known.1))

pub returns-in-Ex : goal.returns-in-Ex
returns-in-Ex c =
    let known = arm_known c.args.store.now c.args.table.now c.args.id c.shape.result.now (shape.Ex c.in-Ex.x c.in-Ex.f) c.shape.ensures.node c.shape.ensures.tree c.in-Ex.is c.requires.members in
    arm_plans c.args.store.now c.args.table.now c.args.id c.shape.result.now (shape.Ex c.in-Ex.x c.in-Ex.f) c.shape.ensures.node c.shape.ensures.tree c.in-Ex.is c.args.negated (Make c.quantified.result)
    (rw (c.quantified.ensures, c.turned-quantifier.ensures, c.form-in-Ex.ensures) (plans_ex c.args.store.now c.args.table.now c.args.negated c.in-Ex.x c.in-Ex.f known))

pub returns-in-All : goal.returns-in-All
returns-in-All c =
    let known = arm_known c.args.store.now c.args.table.now c.args.id c.shape.result.now (shape.All c.in-All.x c.in-All.f) c.shape.ensures.node c.shape.ensures.tree c.in-All.is c.requires.members in
    arm_plans c.args.store.now c.args.table.now c.args.id c.shape.result.now (shape.All c.in-All.x c.in-All.f) c.shape.ensures.node c.shape.ensures.tree c.in-All.is c.args.negated (Make c.quantified-in-All.result)
    (rw (c.quantified-in-All.ensures, c.turned-quantifier-in-All.ensures, c.form-in-All.ensures) (plans_all c.args.store.now c.args.table.now c.args.negated c.in-All.x c.in-All.f known))
