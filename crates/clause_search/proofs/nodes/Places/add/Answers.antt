use Rattle.std.proofs.Common.{◌≡◌, [], ◌∷◌, ap, sym, ◌∙◌, subst, get_or, false}
use Rattle.formula_tree.specs.Shapes.{tree_over}
use Rattle.formula_store.specs.Nodes.{tree}
use Rattle.clause_theory.specs.declared.clause.Literal.{Literal}
use Rattle.clause_search.specs.Nodes.{IsNodeLaw, AreNodeLaws}
use Rattle.clause_search.proofs.NodeLaws.{node_stands, false_law, law_push}
use Rattle.clause_search.proofs.nodes.Places.add.Goals as goal

pub returns-in_ok-push-in-False : goal.returns-in_ok-push-in-False
returns-in_ok-push-in-False c =
    let nodes = c.args.self.now.store.now in
    let ids = c.args.self.now.ids.now in
    let at = node_stands nodes ids c.args.place c.requires.place in
    let same = c.shape.ensures.tree ∙ ap (λ n. tree_over (tree nodes) n) c.in-False.is in
    let law = false_law nodes ids c.args.place (tree nodes (get_or ids c.args.place (record { number = 0 }))) at same in
    let literals : c.in_ok-literals-in-False.literals.items ≡ record { variable = c.args.place; holds = false } ∷ [] = c.in_ok-literals-in-False.ensures.items ∙ ap (λ (l : Literal). l ∷ []) c.fails.ensures in
    let law2 = subst (IsNodeLaw nodes ids) (sym literals) law in
    record { laws = subst (AreNodeLaws nodes ids) (sym c.in_ok-push-in-False.ensures.items) (law_push nodes ids c.args.clauses.now.items (record { literals = c.in_ok-literals-in-False.literals }) c.requires.laws law2) }
