use Rattle.std.proofs.Common.{List, not, sym, ap, ◌∙◌, subst}
use Rattle.std.specs.Bool.{beq}
use Rattle.std.specs.List.{AllByRecursion}
use Rattle.formula_tree.specs.declared.shape.Shape.{Shape}
use Rattle.formula_tree.specs.declared.shape.Shape.TheVariants as shape
use Rattle.formula_store.specs.declared.id.FormulaId.{FormulaId}
use Rattle.formula_store.specs.Nodes.{tree}
use Rattle.linear_theory.specs.Answer.{truth_by}
use Rattle.linear_opt.specs.Values.{told}
use Rattle.linear_opt.specs.Truths.{IsThere, truth_in, all_of, some_of}
use Rattle.linear_opt.proofs.Members.{all_same, some_same}
use Rattle.linear_opt.proofs.Told.{or_left, or_right, equal, there, all_there, read, all_read, arm, arm_truth}
use Rattle.linear_opt.proofs.truths.node_truth.Goals as goal

pub all_true-requires : goal.all_true-requires
all_true-requires c =
    let nodes = c.args.store.now in
    let at = told c.args.z.number c.args.value in
    let table = c.args.table.now in
    let s : Shape FormulaId = shape.And c.in-And.ids in
    let has = arm at nodes table c.args.id c.shape.result.now s c.in-And.is c.shape.ensures.node c.requires.members in
    subst (λ (ids : List FormulaId). AllByRecursion (IsThere table) ids) (sym c.items.ensures) (all_there at nodes table c.in-And.ids has)

pub some_true-requires : goal.some_true-requires
some_true-requires c =
    let nodes = c.args.store.now in
    let at = told c.args.z.number c.args.value in
    let table = c.args.table.now in
    let s : Shape FormulaId = shape.Or c.in-Or.ids in
    let has = arm at nodes table c.args.id c.shape.result.now s c.in-Or.is c.shape.ensures.node c.requires.members in
    subst (λ (ids : List FormulaId). AllByRecursion (IsThere table) ids) (sym c.items-in-Or.ensures) (all_there at nodes table c.in-Or.ids has)

pub returns-in-And : goal.returns-in-And
returns-in-And c =
    let nodes = c.args.store.now in
    let at = told c.args.z.number c.args.value in
    let table = c.args.table.now in
    let s : Shape FormulaId = shape.And c.in-And.ids in
    let has = arm at nodes table c.args.id c.shape.result.now s c.in-And.is c.shape.ensures.node c.requires.members in
    arm_truth at nodes table c.args.id c.shape.result.now s c.in-And.is c.shape.ensures.tree (c.all_true.result)
    (c.all_true.ensures ∙ ap (all_of (truth_in table)) c.items.ensures ∙ all_same (truth_in table) (tree nodes) at c.in-And.ids (all_read at nodes table c.in-And.ids has))

pub returns-in-Or : goal.returns-in-Or
returns-in-Or c =
    let nodes = c.args.store.now in
    let at = told c.args.z.number c.args.value in
    let table = c.args.table.now in
    let s : Shape FormulaId = shape.Or c.in-Or.ids in
    let has = arm at nodes table c.args.id c.shape.result.now s c.in-Or.is c.shape.ensures.node c.requires.members in
    arm_truth at nodes table c.args.id c.shape.result.now s c.in-Or.is c.shape.ensures.tree (c.some_true.result)
    (c.some_true.ensures ∙ ap (some_of (truth_in table)) c.items-in-Or.ensures ∙ some_same (truth_in table) (tree nodes) at c.in-Or.ids (all_read at nodes table c.in-Or.ids has))

pub truth_in-requires : goal.truth_in-requires
truth_in-requires c =
    let nodes = c.args.store.now in
    let at = told c.args.z.number c.args.value in
    let table = c.args.table.now in
    let s : Shape FormulaId = shape.Not c.in-Not.f in
    let has = arm at nodes table c.args.id c.shape.result.now s c.in-Not.is c.shape.ensures.node c.requires.members in
    there at nodes table c.in-Not.f has

pub returns-in-Not : goal.returns-in-Not
returns-in-Not c =
    let nodes = c.args.store.now in
    let at = told c.args.z.number c.args.value in
    let table = c.args.table.now in
    let s : Shape FormulaId = shape.Not c.in-Not.f in
    let has = arm at nodes table c.args.id c.shape.result.now s c.in-Not.is c.shape.ensures.node c.requires.members in
    arm_truth at nodes table c.args.id c.shape.result.now s c.in-Not.is c.shape.ensures.tree (not c.truth_in.result)
    (ap not (c.truth_in.ensures ∙ read at nodes table c.in-Not.f has))

pub truth_in-requires-in-Impl : goal.truth_in-requires-in-Impl
truth_in-requires-in-Impl c =
    let nodes = c.args.store.now in
    let at = told c.args.z.number c.args.value in
    let table = c.args.table.now in
    let s : Shape FormulaId = shape.Impl c.in-Impl.f c.in-Impl.g in
    let has = arm at nodes table c.args.id c.shape.result.now s c.in-Impl.is c.shape.ensures.node c.requires.members in
    there at nodes table c.in-Impl.f has.0

pub truth_in-requires-else-not-truth_in : goal.truth_in-requires-else-not-truth_in
truth_in-requires-else-not-truth_in c =
    let nodes = c.args.store.now in
    let at = told c.args.z.number c.args.value in
    let table = c.args.table.now in
    let s : Shape FormulaId = shape.Impl c.in-Impl.f c.in-Impl.g in
    let has = arm at nodes table c.args.id c.shape.result.now s c.in-Impl.is c.shape.ensures.node c.requires.members in
    there at nodes table c.in-Impl.g has.1

pub returns-then-not-truth_in : goal.returns-then-not-truth_in
returns-then-not-truth_in c =
    let nodes = c.args.store.now in
    let at = told c.args.z.number c.args.value in
    let table = c.args.table.now in
    let s : Shape FormulaId = shape.Impl c.in-Impl.f c.in-Impl.g in
    let has = arm at nodes table c.args.id c.shape.result.now s c.in-Impl.is c.shape.ensures.node c.requires.members in
    arm_truth at nodes table c.args.id c.shape.result.now s c.in-Impl.is c.shape.ensures.tree (not c.truth_in-in-Impl.result)
    (or_left (not c.truth_in-in-Impl.result) (not (truth_by at (tree nodes c.in-Impl.f))) (truth_by at (tree nodes c.in-Impl.g)) (ap not (c.truth_in-in-Impl.ensures ∙ read at nodes table c.in-Impl.f has.0)) (ap not c.if-not-truth_in.true))

pub returns-else-not-truth_in : goal.returns-else-not-truth_in
returns-else-not-truth_in c =
    let nodes = c.args.store.now in
    let at = told c.args.z.number c.args.value in
    let table = c.args.table.now in
    let s : Shape FormulaId = shape.Impl c.in-Impl.f c.in-Impl.g in
    let has = arm at nodes table c.args.id c.shape.result.now s c.in-Impl.is c.shape.ensures.node c.requires.members in
    arm_truth at nodes table c.args.id c.shape.result.now s c.in-Impl.is c.shape.ensures.tree (c.truth_in-else-not-truth_in.result)
    (or_right (not c.truth_in-in-Impl.result) (not (truth_by at (tree nodes c.in-Impl.f))) (truth_by at (tree nodes c.in-Impl.g)) (c.truth_in-else-not-truth_in.result) (ap not (c.truth_in-in-Impl.ensures ∙ read at nodes table c.in-Impl.f has.0)) (ap not c.if-not-truth_in.false) (c.truth_in-else-not-truth_in.ensures ∙ read at nodes table c.in-Impl.g has.1))

pub truth_in-requires-in-Repl : goal.truth_in-requires-in-Repl
truth_in-requires-in-Repl c =
    let nodes = c.args.store.now in
    let at = told c.args.z.number c.args.value in
    let table = c.args.table.now in
    let s : Shape FormulaId = shape.Repl c.in-Repl.f c.in-Repl.g in
    let has = arm at nodes table c.args.id c.shape.result.now s c.in-Repl.is c.shape.ensures.node c.requires.members in
    there at nodes table c.in-Repl.f has.0

pub truth_in-requires-else-truth_in : goal.truth_in-requires-else-truth_in
truth_in-requires-else-truth_in c =
    let nodes = c.args.store.now in
    let at = told c.args.z.number c.args.value in
    let table = c.args.table.now in
    let s : Shape FormulaId = shape.Repl c.in-Repl.f c.in-Repl.g in
    let has = arm at nodes table c.args.id c.shape.result.now s c.in-Repl.is c.shape.ensures.node c.requires.members in
    there at nodes table c.in-Repl.g has.1

pub returns-then-truth_in : goal.returns-then-truth_in
returns-then-truth_in c =
    let nodes = c.args.store.now in
    let at = told c.args.z.number c.args.value in
    let table = c.args.table.now in
    let s : Shape FormulaId = shape.Repl c.in-Repl.f c.in-Repl.g in
    let has = arm at nodes table c.args.id c.shape.result.now s c.in-Repl.is c.shape.ensures.node c.requires.members in
    arm_truth at nodes table c.args.id c.shape.result.now s c.in-Repl.is c.shape.ensures.tree (c.truth_in-in-Repl.result)
    (or_left (c.truth_in-in-Repl.result) (truth_by at (tree nodes c.in-Repl.f)) (not (truth_by at (tree nodes c.in-Repl.g))) (c.truth_in-in-Repl.ensures ∙ read at nodes table c.in-Repl.f has.0) c.if-truth_in.true)

pub returns-else-truth_in : goal.returns-else-truth_in
returns-else-truth_in c =
    let nodes = c.args.store.now in
    let at = told c.args.z.number c.args.value in
    let table = c.args.table.now in
    let s : Shape FormulaId = shape.Repl c.in-Repl.f c.in-Repl.g in
    let has = arm at nodes table c.args.id c.shape.result.now s c.in-Repl.is c.shape.ensures.node c.requires.members in
    arm_truth at nodes table c.args.id c.shape.result.now s c.in-Repl.is c.shape.ensures.tree (not c.truth_in-else-truth_in.result)
    (or_right (c.truth_in-in-Repl.result) (truth_by at (tree nodes c.in-Repl.f)) (not (truth_by at (tree nodes c.in-Repl.g))) (not c.truth_in-else-truth_in.result) (c.truth_in-in-Repl.ensures ∙ read at nodes table c.in-Repl.f has.0) c.if-truth_in.false (ap not (c.truth_in-else-truth_in.ensures ∙ read at nodes table c.in-Repl.g has.1)))

pub truth_in-requires-in-Equiv : goal.truth_in-requires-in-Equiv
truth_in-requires-in-Equiv c =
    let nodes = c.args.store.now in
    let at = told c.args.z.number c.args.value in
    let table = c.args.table.now in
    let s : Shape FormulaId = shape.Equiv c.in-Equiv.f c.in-Equiv.g in
    let has = arm at nodes table c.args.id c.shape.result.now s c.in-Equiv.is c.shape.ensures.node c.requires.members in
    there at nodes table c.in-Equiv.f has.0

pub truth_in-requires-in-Equiv-2 : goal.truth_in-requires-in-Equiv-2
truth_in-requires-in-Equiv-2 c =
    let nodes = c.args.store.now in
    let at = told c.args.z.number c.args.value in
    let table = c.args.table.now in
    let s : Shape FormulaId = shape.Equiv c.in-Equiv.f c.in-Equiv.g in
    let has = arm at nodes table c.args.id c.shape.result.now s c.in-Equiv.is c.shape.ensures.node c.requires.members in
    there at nodes table c.in-Equiv.g has.1

pub returns-in-Equiv : goal.returns-in-Equiv
returns-in-Equiv c =
    let nodes = c.args.store.now in
    let at = told c.args.z.number c.args.value in
    let table = c.args.table.now in
    let s : Shape FormulaId = shape.Equiv c.in-Equiv.f c.in-Equiv.g in
    let has = arm at nodes table c.args.id c.shape.result.now s c.in-Equiv.is c.shape.ensures.node c.requires.members in
    arm_truth at nodes table c.args.id c.shape.result.now s c.in-Equiv.is c.shape.ensures.tree (beq c.truth_in-in-Equiv.result c.truth_in-in-Equiv-2.result)
    (equal c.truth_in-in-Equiv.result c.truth_in-in-Equiv-2.result (truth_by at (tree nodes c.in-Equiv.f)) (truth_by at (tree nodes c.in-Equiv.g)) (c.truth_in-in-Equiv.ensures ∙ read at nodes table c.in-Equiv.f has.0) (c.truth_in-in-Equiv-2.ensures ∙ read at nodes table c.in-Equiv.g has.1))
