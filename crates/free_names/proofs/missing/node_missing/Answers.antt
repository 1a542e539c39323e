use Rattle.std.proofs.Common.{◌≡◌, ⊎_elim, ◌↔◌, ℕ, List, sym, subst}
use Rattle.std.specs.List.{AllByRecursion}
use Rattle.std.specs.Ordering.{nat_cmp}
use Rattle.std.specs.BTreeSet.{contains}
use Rattle.logic_meaning.specs.Some.{SomeOf}
use Rattle.formula_tree.specs.declared.shape.Shape.TheVariants as shape
use Rattle.formula_store.specs.declared.id.FormulaId.{FormulaId}
use Rattle.formula_resolving.proofs.PartLaws.{ok_map}
use Rattle.free_names.specs.Scopes.{IsIn}
use Rattle.free_names.specs.Missing.{IsThere, numbers_at}
use Rattle.free_names.proofs.Nodes.{arm_there, arm_missing, missing_one, missing_two, missing_union, missing_below}
use Rattle.free_names.proofs.missing.node_missing.Goals as goal

pub union-requires : goal.union-requires
union-requires c = (arm_there c.args.store.now c.args.id c.shape.result.now (shape.Not c.in-Not.member) c.shape.ensures.node c.shape.ensures.tree c.in-Not.is (IsThere c.args.table.now) c.requires.members, tt)

pub returns-in-Not : goal.returns-in-Not
returns-in-Not c =
    let arm = arm_there c.args.store.now c.args.id c.shape.result.now (shape.Not c.in-Not.member) c.shape.ensures.node c.shape.ensures.tree c.in-Not.is (IsThere c.args.table.now) c.requires.members in
    let has = contains nat_cmp c.args.valued.now in
    ok_map c.union.result
    (λ v u.
    arm_missing c.args.store.now c.args.id c.shape.result.now (shape.Not c.in-Not.member) c.shape.ensures.node c.shape.ensures.tree c.in-Not.is has v.items
    (missing_one c.args.store.now has c.args.table.now c.requires.sound c.in-Not.member v.items arm u))
    c.union.ensures

pub numbers-requires : goal.numbers-requires
numbers-requires c =
    let P : FormulaId → Type 0 = IsThere c.args.table.now in
    ⊎_elim (λ e. arm_there c.args.store.now c.args.id c.shape.result.now (shape.Ex c.in-Ex.x c.in-Ex.member) c.shape.ensures.node c.shape.ensures.tree e P c.requires.members)
    (λ e. arm_there c.args.store.now c.args.id c.shape.result.now (shape.All c.in-Ex.x c.in-Ex.member) c.shape.ensures.node c.shape.ensures.tree e P c.requires.members) c.in-Ex.is

pub returns-in-Ex : goal.returns-in-Ex
returns-in-Ex c =
    let P : FormulaId → Type 0 = IsThere c.args.table.now in
    let there : P c.in-Ex.member =
    ⊎_elim (λ e. arm_there c.args.store.now c.args.id c.shape.result.now (shape.Ex c.in-Ex.x c.in-Ex.member) c.shape.ensures.node c.shape.ensures.tree e P c.requires.members)
    (λ e. arm_there c.args.store.now c.args.id c.shape.result.now (shape.All c.in-Ex.x c.in-Ex.member) c.shape.ensures.node c.shape.ensures.tree e P c.requires.members) c.in-Ex.is in
    let has = contains nat_cmp c.args.valued.now in
    ok_map c.without.result
    (λ v u.
    let m = missing_below c.args.store.now has c.args.table.now c.requires.sound c.in-Ex.x.number c.in-Ex.member v.items there (subst (λ (ns : List ℕ). (n : ℕ) → IsIn n v.items ↔ ((¬ (c.in-Ex.x.number ≡ n)) × IsIn n ns)) c.numbers.ensures u) in
    ⊎_elim (λ e. arm_missing c.args.store.now c.args.id c.shape.result.now (shape.Ex c.in-Ex.x c.in-Ex.member) c.shape.ensures.node c.shape.ensures.tree e has v.items m)
    (λ e. arm_missing c.args.store.now c.args.id c.shape.result.now (shape.All c.in-Ex.x c.in-Ex.member) c.shape.ensures.node c.shape.ensures.tree e has v.items m) c.in-Ex.is)
    c.without.ensures

pub union-requires-in-Impl : goal.union-requires-in-Impl
union-requires-in-Impl c =
    let P : FormulaId → Type 0 = IsThere c.args.table.now in
    let both : P c.in-Impl.left × P c.in-Impl.right =
    ⊎_elim (λ e. arm_there c.args.store.now c.args.id c.shape.result.now (shape.Impl c.in-Impl.left c.in-Impl.right) c.shape.ensures.node c.shape.ensures.tree e P c.requires.members)
    (λ h.
    ⊎_elim (λ e. arm_there c.args.store.now c.args.id c.shape.result.now (shape.Repl c.in-Impl.left c.in-Impl.right) c.shape.ensures.node c.shape.ensures.tree e P c.requires.members)
    (λ e. arm_there c.args.store.now c.args.id c.shape.result.now (shape.Equiv c.in-Impl.left c.in-Impl.right) c.shape.ensures.node c.shape.ensures.tree e P c.requires.members) h) c.in-Impl.is in
    (both.0, (both.1, tt))

pub returns-in-Impl : goal.returns-in-Impl
returns-in-Impl c =
    let P : FormulaId → Type 0 = IsThere c.args.table.now in
    let both : P c.in-Impl.left × P c.in-Impl.right =
    ⊎_elim (λ e. arm_there c.args.store.now c.args.id c.shape.result.now (shape.Impl c.in-Impl.left c.in-Impl.right) c.shape.ensures.node c.shape.ensures.tree e P c.requires.members)
    (λ h.
    ⊎_elim (λ e. arm_there c.args.store.now c.args.id c.shape.result.now (shape.Repl c.in-Impl.left c.in-Impl.right) c.shape.ensures.node c.shape.ensures.tree e P c.requires.members)
    (λ e. arm_there c.args.store.now c.args.id c.shape.result.now (shape.Equiv c.in-Impl.left c.in-Impl.right) c.shape.ensures.node c.shape.ensures.tree e P c.requires.members) h) c.in-Impl.is in
    let has = contains nat_cmp c.args.valued.now in
    ok_map c.union-in-Impl.result
    (λ v u.
    let m = missing_two c.args.store.now has c.args.table.now c.requires.sound c.in-Impl.left c.in-Impl.right v.items both.0 both.1 u in
    ⊎_elim (λ e. arm_missing c.args.store.now c.args.id c.shape.result.now (shape.Impl c.in-Impl.left c.in-Impl.right) c.shape.ensures.node c.shape.ensures.tree e has v.items m)
    (λ h.
    ⊎_elim (λ e. arm_missing c.args.store.now c.args.id c.shape.result.now (shape.Repl c.in-Impl.left c.in-Impl.right) c.shape.ensures.node c.shape.ensures.tree e has v.items m)
    (λ e. arm_missing c.args.store.now c.args.id c.shape.result.now (shape.Equiv c.in-Impl.left c.in-Impl.right) c.shape.ensures.node c.shape.ensures.tree e has v.items m) h) c.in-Impl.is)
    c.union-in-Impl.ensures

pub union-requires-in-And : goal.union-requires-in-And
union-requires-in-And c =
    let P : FormulaId → Type 0 = IsThere c.args.table.now in
    subst (λ (ids : List FormulaId). AllByRecursion P ids) (sym c.items.ensures)
    (⊎_elim (λ e. arm_there c.args.store.now c.args.id c.shape.result.now (shape.And c.in-And.ids) c.shape.ensures.node c.shape.ensures.tree e P c.requires.members)
    (λ e. arm_there c.args.store.now c.args.id c.shape.result.now (shape.Or c.in-And.ids) c.shape.ensures.node c.shape.ensures.tree e P c.requires.members) c.in-And.is)

pub returns-in-And : goal.returns-in-And
returns-in-And c =
    let P : FormulaId → Type 0 = IsThere c.args.table.now in
    let all : AllByRecursion P c.in-And.ids =
    ⊎_elim (λ e. arm_there c.args.store.now c.args.id c.shape.result.now (shape.And c.in-And.ids) c.shape.ensures.node c.shape.ensures.tree e P c.requires.members)
    (λ e. arm_there c.args.store.now c.args.id c.shape.result.now (shape.Or c.in-And.ids) c.shape.ensures.node c.shape.ensures.tree e P c.requires.members) c.in-And.is in
    let has = contains nat_cmp c.args.valued.now in
    ok_map c.union-in-And.result
    (λ v u.
    let m = missing_union c.args.store.now has c.args.table.now c.requires.sound c.in-And.ids v.items all
    (subst (λ (ids : List FormulaId). (n : ℕ) → IsIn n v.items ↔ SomeOf (λ id. IsIn n (numbers_at c.args.table.now id)) ids) c.items.ensures u) in
    ⊎_elim (λ e. arm_missing c.args.store.now c.args.id c.shape.result.now (shape.And c.in-And.ids) c.shape.ensures.node c.shape.ensures.tree e has v.items m)
    (λ e. arm_missing c.args.store.now c.args.id c.shape.result.now (shape.Or c.in-And.ids) c.shape.ensures.node c.shape.ensures.tree e has v.items m) c.in-And.is)
    c.union-in-And.ensures
