use Rattle.std.proofs.Common.{rules, ◌<◌, List, Some, map, length, sym, ap, ◌∙◌}
use Rattle.std.proofs.lemmas.Result.{IfOk-weaker}
use Rattle.logic_meaning.specs.Fold.{joined, from_pieces}
use Rattle.logic_meaning.specs.Formula.{And, Or}
use Rattle.formula_tree.specs.declared.shape.Shape.TheVariants as shape
use Rattle.formula_tree.specs.Makers.{IsMade}
use Rattle.formula_tree.specs.Shapes.{tree_over}
use Rattle.formula_tree.specs.Trees.{members}
use Rattle.formula_store.specs.declared.id.FormulaId.{FormulaId}
use Rattle.formula_store.specs.Nodes.{tree, IsId}
use Rattle.nnf_trees.proofs.Pieces.{two_pieces}
use Rattle.virtual_subst.proofs.folding.whole.Goals as goal

pub returns-in-Conjunction-clause-made : goal.returns-in-Conjunction-clause-made
returns-in-Conjunction-clause-made g c =
    let t = tree (g.M.Formulas.nodes c.args.formulas.now) in
    let new = g.M.Formulas.nodes c.add.new.self in
    let more : 1 < length c.args.pieces.items = search rules in
    IfOk-weaker c.add.result (λ id. IsMade (IsId new) (tree new) id (tree_over t (shape.And c.of.result)))
    (λ id. IsMade (IsId new) (tree new) id (from_pieces c.args.junction (Some (members (map t c.args.pieces.items)))))
    (λ id m. record {
      is = m.is;
      same = m.same ∙ ap (λ (l : List FormulaId). And (members (map t l))) c.of.ensures ∙ ap (λ j. joined j (members (map t c.args.pieces.items))) (sym c.in-Conjunction.is) ∙ two_pieces t c.args.junction c.args.pieces.items more;
    })
    c.add.ensures.made

pub returns-in-Disjunction-clause-made : goal.returns-in-Disjunction-clause-made
returns-in-Disjunction-clause-made g c =
    let t = tree (g.M.Formulas.nodes c.args.formulas.now) in
    let new = g.M.Formulas.nodes c.add-in-Disjunction.new.self in
    let more : 1 < length c.args.pieces.items = search rules in
    IfOk-weaker c.add-in-Disjunction.result (λ id. IsMade (IsId new) (tree new) id (tree_over t (shape.Or c.of-in-Disjunction.result)))
    (λ id. IsMade (IsId new) (tree new) id (from_pieces c.args.junction (Some (members (map t c.args.pieces.items)))))
    (λ id m. record {
      is = m.is;
      same = m.same ∙ ap (λ (l : List FormulaId). Or (members (map t l))) c.of-in-Disjunction.ensures ∙ ap (λ j. joined j (members (map t c.args.pieces.items))) (sym c.in-Disjunction.is) ∙ two_pieces t c.args.junction c.args.pieces.items more;
    })
    c.add-in-Disjunction.ensures.made
