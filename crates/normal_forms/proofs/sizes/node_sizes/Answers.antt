use Rattle.std.proofs.Common.{◌∙◌, sym, ap, subst, map, List}
use Rattle.std.specs.List.{AllByRecursion}
use Rattle.logic_meaning.specs.declared.junction.Junction.TheVariants.{Conjunction, Disjunction}
use Rattle.formula_tree.specs.declared.shape.Shape.{Shape}
use Rattle.formula_tree.specs.Shapes.{AllIds, tree_over}
use Rattle.formula_store.specs.declared.id.FormulaId.{FormulaId}
use Rattle.formula_store.specs.Nodes.{tree}
use Rattle.logic_meaning.specs.Ways.{is_same}
use Rattle.shape_theory.specs.Counts.{nothing_sizes, sizes}
use Rattle.normal_forms.specs.Sizes.{capped, all_joined, sizes_at, IsThere}
use Rattle.normal_forms.proofs.Tables.{list_told}
use Rattle.normal_forms.proofs.sizes.node_sizes.Goals as goal

pub together-requires : goal.together-requires
together-requires c =
    let known = subst (λ (n : Shape FormulaId). AllIds (IsThere c.args.table.now) n) c.in-And.is (c.requires.members c.shape.result.now c.shape.ensures.node) in
    subst (λ (ids : List FormulaId). AllByRecursion (IsThere c.args.table.now) ids) (sym c.items.ensures) known

pub together-requires-in-Or : goal.together-requires-in-Or
together-requires-in-Or c =
    let known = subst (λ (n : Shape FormulaId). AllIds (IsThere c.args.table.now) n) c.in-Or.is (c.requires.members c.shape.result.now c.shape.ensures.node) in
    subst (λ (ids : List FormulaId). AllByRecursion (IsThere c.args.table.now) ids) (sym c.items-in-Or.ensures) known

pub returns-in-And : goal.returns-in-And
returns-in-And c =
    let b = c.is_inner-in-And.result in
    let known = subst (λ (n : Shape FormulaId). AllIds (IsThere c.args.table.now) n) c.in-And.is (c.requires.members c.shape.result.now c.shape.ensures.node) in
    c.together.ensures ∙ ap (λ (ids : List FormulaId). all_joined b (capped (nothing_sizes b)) (map (sizes_at c.args.table.now) ids)) c.items.ensures
    ∙ list_told c.args.inner c.args.store.now c.args.table.now c.requires.told c.in-And.ids known (is_same c.args.inner Conjunction) b c.is_inner-in-And.ensures
    ∙ ap (λ f. capped (sizes c.args.inner f)) (sym (c.shape.ensures.tree ∙ ap (tree_over (tree c.args.store.now)) c.in-And.is))

pub returns-in-Or : goal.returns-in-Or
returns-in-Or c =
    let b = c.is_inner-in-Or.result in
    let known = subst (λ (n : Shape FormulaId). AllIds (IsThere c.args.table.now) n) c.in-Or.is (c.requires.members c.shape.result.now c.shape.ensures.node) in
    c.together-in-Or.ensures ∙ ap (λ (ids : List FormulaId). all_joined b (capped (nothing_sizes b)) (map (sizes_at c.args.table.now) ids)) c.items-in-Or.ensures
    ∙ list_told c.args.inner c.args.store.now c.args.table.now c.requires.told c.in-Or.ids known (is_same c.args.inner Disjunction) b c.is_inner-in-Or.ensures
    ∙ ap (λ f. capped (sizes c.args.inner f)) (sym (c.shape.ensures.tree ∙ ap (tree_over (tree c.args.store.now)) c.in-Or.is))
