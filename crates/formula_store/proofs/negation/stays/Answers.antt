use Rattle.std.proofs.Common.{◌≡◌, ◌∙◌, rules, false, List, IsSome, map, sym, subst}
use Rattle.std.specs.List.{AllByRecursion}
use Rattle.std.specs.HashMap.{get}
use Rattle.formula_tree.specs.declared.shape.Shape.TheVariants as shape
use Rattle.formula_tree.proofs.Shapes.{all_map}
use Rattle.formula_store.specs.declared.id.FormulaId.{FormulaId}
use Rattle.formula_store.specs.Forms.{same_id, form_at, Known}
use Rattle.formula_store.proofs.Planned.{arm_known, arm_same, and_same, or_same, ex_same, all_same}
use Rattle.formula_store.proofs.negation.stays.Goals as goal

pub are_their_own-requires : goal.are_their_own-requires
are_their_own-requires c =
    let known = arm_known c.args.store.now c.args.table.now c.args.id c.shape.result.now (shape.And c.in-And.ids) c.shape.ensures.node c.shape.ensures.tree c.in-And.is c.requires.members in
    subst (λ (ids : List FormulaId). AllByRecursion (λ (m : FormulaId). IsSome (get same_id c.args.table.now m)) ids) (sym c.items.ensures)
    (all_map (Known c.args.store.now c.args.table.now) (λ (m : FormulaId). IsSome (get same_id c.args.table.now m)) (λ m k. k.there) c.in-And.ids known)

pub returns-in-And : goal.returns-in-And
returns-in-And c h =
    let nodes = c.args.store.now in
    let table = c.args.table.now in
    let known = arm_known nodes table c.args.id c.shape.result.now (shape.And c.in-And.ids) c.shape.ensures.node c.shape.ensures.tree c.in-And.is c.requires.members in
    let own : map (form_at table false) c.in-And.ids ≡ c.in-And.ids = subst (λ (ids : List FormulaId). map (form_at table false) ids ≡ ids) c.items.ensures (c.are_their_own.ensures h) in
    arm_same nodes table c.args.id c.shape.result.now (shape.And c.in-And.ids) c.shape.ensures.node c.shape.ensures.tree c.in-And.is (and_same nodes table c.in-And.ids known own)

pub are_their_own-requires-in-Or : goal.are_their_own-requires-in-Or
are_their_own-requires-in-Or c =
    let known = arm_known c.args.store.now c.args.table.now c.args.id c.shape.result.now (shape.Or c.in-Or.ids) c.shape.ensures.node c.shape.ensures.tree c.in-Or.is c.requires.members in
    subst (λ (ids : List FormulaId). AllByRecursion (λ (m : FormulaId). IsSome (get same_id c.args.table.now m)) ids) (sym c.items-in-Or.ensures)
    (all_map (Known c.args.store.now c.args.table.now) (λ (m : FormulaId). IsSome (get same_id c.args.table.now m)) (λ m k. k.there) c.in-Or.ids known)

pub returns-in-Or : goal.returns-in-Or
returns-in-Or c h =
    let nodes = c.args.store.now in
    let table = c.args.table.now in
    let known = arm_known nodes table c.args.id c.shape.result.now (shape.Or c.in-Or.ids) c.shape.ensures.node c.shape.ensures.tree c.in-Or.is c.requires.members in
    let own : map (form_at table false) c.in-Or.ids ≡ c.in-Or.ids = subst (λ (ids : List FormulaId). map (form_at table false) ids ≡ ids) c.items-in-Or.ensures (c.are_their_own-in-Or.ensures h) in
    arm_same nodes table c.args.id c.shape.result.now (shape.Or c.in-Or.ids) c.shape.ensures.node c.shape.ensures.tree c.in-Or.is (or_same nodes table c.in-Or.ids known own)

pub form-requires : goal.form-requires
form-requires c =
    (arm_known c.args.store.now c.args.table.now c.args.id c.shape.result.now (shape.Ex c.in-Ex.field-0 c.in-Ex.member) c.shape.ensures.node c.shape.ensures.tree c.in-Ex.is c.requires.members).there

pub returns-in-Ex : goal.returns-in-Ex
returns-in-Ex c h =
    let nodes = c.args.store.now in
    let table = c.args.table.now in
    let known = arm_known nodes table c.args.id c.shape.result.now (shape.Ex c.in-Ex.field-0 c.in-Ex.member) c.shape.ensures.node c.shape.ensures.tree c.in-Ex.is c.requires.members in
    let same : c.form.result ≡ c.in-Ex.member = search rules in
    arm_same nodes table c.args.id c.shape.result.now (shape.Ex c.in-Ex.field-0 c.in-Ex.member) c.shape.ensures.node c.shape.ensures.tree c.in-Ex.is (ex_same nodes table c.in-Ex.field-0 c.in-Ex.member known (sym c.form.ensures ∙ same))

pub form-requires-in-All : goal.form-requires-in-All
form-requires-in-All c =
    (arm_known c.args.store.now c.args.table.now c.args.id c.shape.result.now (shape.All c.in-All.field-0 c.in-All.member) c.shape.ensures.node c.shape.ensures.tree c.in-All.is c.requires.members).there

pub returns-in-All : goal.returns-in-All
returns-in-All c h =
    let nodes = c.args.store.now in
    let table = c.args.table.now in
    let known = arm_known nodes table c.args.id c.shape.result.now (shape.All c.in-All.field-0 c.in-All.member) c.shape.ensures.node c.shape.ensures.tree c.in-All.is c.requires.members in
    let same : c.form-in-All.result ≡ c.in-All.member = search rules in
    arm_same nodes table c.args.id c.shape.result.now (shape.All c.in-All.field-0 c.in-All.member) c.shape.ensures.node c.shape.ensures.tree c.in-All.is (all_same nodes table c.in-All.field-0 c.in-All.member known (sym c.form-in-All.ensures ∙ same))
