use Rattle.std.proofs.Common.{List, map, sym, ap, ◌∙◌, subst}
use Rattle.std.specs.List.{AllByRecursion}
use Rattle.logic_meaning.specs.declared.junction.Junction.TheVariants.{Conjunction, Disjunction}
use Rattle.logic_meaning.specs.Fold.{joined}
use Rattle.formula_tree.specs.Shapes.{AllIds, tree_over}
use Rattle.formula_tree.specs.Trees.{members}
use Rattle.formula_store.specs.declared.id.FormulaId.{FormulaId}
use Rattle.formula_store.specs.Nodes.{tree}
use Rattle.virtual_subst.specs.Shared.{Held}
use Rattle.virtual_subst.proofs.Made.{all_ids, list_made, list_stays}
use Rattle.virtual_subst.proofs.nodes.node_put.Goals as goal

pub gathered-requires-clause-ids : goal.gathered-requires-clause-ids
gathered-requires-clause-ids g c =
    let nodes = g.M.Formulas.nodes c.args.formulas.now in
    let o = c.args.at.context in
    let t = c.args.at.point.now in
    let P : FormulaId → Type 0 = Held o t nodes nodes c.args.table.now in
    let members_held = subst (AllIds P) c.in-And.is (c.requires.members c.top.result.now c.top.ensures.node) in
    let held = subst (λ (l : List FormulaId). AllByRecursion P l) (sym c.items-ids.ensures) members_held in
    all_ids o t nodes nodes c.args.table.now c.items-ids.result.now held

pub returns-then-are_these-clause-put : goal.returns-then-are_these-clause-put
returns-then-are_these-clause-put g c =
    let nodes = g.M.Formulas.nodes c.args.formulas.now in
    let o = c.args.at.context in
    let t = c.args.at.point.now in
    let P : FormulaId → Type 0 = Held o t nodes nodes c.args.table.now in
    let members_held = subst (AllIds P) c.in-And.is (c.requires.members c.top.result.now c.top.ensures.node) in
    let held = subst (λ (l : List FormulaId). AllByRecursion P l) (sym c.items-ids.ensures) members_held in
    let whole = c.top.ensures.tree ∙ ap (tree_over (tree nodes)) c.in-And.is ∙ ap (λ (l : List FormulaId). joined Conjunction (members (map (tree nodes) l))) (sym c.items-ids.ensures) in
    list_stays o t nodes c.args.table.now Conjunction c.args.id c.items-ids.result.now whole held c.in_ok-pieces-in-And.pieces c.requires.id c.in_ok-pieces-in-And.ensures.pieces (c.are_these.ensures c.if-are_these.true)

pub returns-in_ok-joined-in-And-clause-put : goal.returns-in_ok-joined-in-And-clause-put
returns-in_ok-joined-in-And-clause-put g c =
    let nodes = g.M.Formulas.nodes c.args.formulas.now in
    let o = c.args.at.context in
    let t = c.args.at.point.now in
    let P : FormulaId → Type 0 = Held o t nodes nodes c.args.table.now in
    let members_held = subst (AllIds P) c.in-And.is (c.requires.members c.top.result.now c.top.ensures.node) in
    let held = subst (λ (l : List FormulaId). AllByRecursion P l) (sym c.items-ids.ensures) members_held in
    let whole = c.top.ensures.tree ∙ ap (tree_over (tree nodes)) c.in-And.is ∙ ap (λ (l : List FormulaId). joined Conjunction (members (map (tree nodes) l))) (sym c.items-ids.ensures) in
    list_made o t nodes c.args.table.now Conjunction c.args.id c.items-ids.result.now whole held c.in_ok-pieces-in-And.pieces c.in_ok-joined-in-And.field-0 (g.M.Formulas.nodes c.joined.new.formulas) c.in_ok-pieces-in-And.ensures.pieces c.in_ok-joined-in-And.ensures.made

pub gathered-requires-in-Or-clause-ids : goal.gathered-requires-in-Or-clause-ids
gathered-requires-in-Or-clause-ids g c =
    let nodes = g.M.Formulas.nodes c.args.formulas.now in
    let o = c.args.at.context in
    let t = c.args.at.point.now in
    let P : FormulaId → Type 0 = Held o t nodes nodes c.args.table.now in
    let members_held = subst (AllIds P) c.in-Or.is (c.requires.members c.top.result.now c.top.ensures.node) in
    let held = subst (λ (l : List FormulaId). AllByRecursion P l) (sym c.items-ids-in-Or.ensures) members_held in
    all_ids o t nodes nodes c.args.table.now c.items-ids-in-Or.result.now held

pub returns-then-are_these-2-clause-put : goal.returns-then-are_these-2-clause-put
returns-then-are_these-2-clause-put g c =
    let nodes = g.M.Formulas.nodes c.args.formulas.now in
    let o = c.args.at.context in
    let t = c.args.at.point.now in
    let P : FormulaId → Type 0 = Held o t nodes nodes c.args.table.now in
    let members_held = subst (AllIds P) c.in-Or.is (c.requires.members c.top.result.now c.top.ensures.node) in
    let held = subst (λ (l : List FormulaId). AllByRecursion P l) (sym c.items-ids-in-Or.ensures) members_held in
    let whole = c.top.ensures.tree ∙ ap (tree_over (tree nodes)) c.in-Or.is ∙ ap (λ (l : List FormulaId). joined Disjunction (members (map (tree nodes) l))) (sym c.items-ids-in-Or.ensures) in
    list_stays o t nodes c.args.table.now Disjunction c.args.id c.items-ids-in-Or.result.now whole held c.in_ok-pieces-in-Or.pieces c.requires.id c.in_ok-pieces-in-Or.ensures.pieces (c.are_these-in-Or.ensures c.if-are_these-2.true)

pub returns-in_ok-joined-in-Or-clause-put : goal.returns-in_ok-joined-in-Or-clause-put
returns-in_ok-joined-in-Or-clause-put g c =
    let nodes = g.M.Formulas.nodes c.args.formulas.now in
    let o = c.args.at.context in
    let t = c.args.at.point.now in
    let P : FormulaId → Type 0 = Held o t nodes nodes c.args.table.now in
    let members_held = subst (AllIds P) c.in-Or.is (c.requires.members c.top.result.now c.top.ensures.node) in
    let held = subst (λ (l : List FormulaId). AllByRecursion P l) (sym c.items-ids-in-Or.ensures) members_held in
    let whole = c.top.ensures.tree ∙ ap (tree_over (tree nodes)) c.in-Or.is ∙ ap (λ (l : List FormulaId). joined Disjunction (members (map (tree nodes) l))) (sym c.items-ids-in-Or.ensures) in
    list_made o t nodes c.args.table.now Disjunction c.args.id c.items-ids-in-Or.result.now whole held c.in_ok-pieces-in-Or.pieces c.in_ok-joined-in-Or.field-0 (g.M.Formulas.nodes c.joined-in-Or.new.formulas) c.in_ok-pieces-in-Or.ensures.pieces c.in_ok-joined-in-Or.ensures.made
