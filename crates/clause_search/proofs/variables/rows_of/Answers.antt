use Rattle.std.proofs.Common.{◌≡◌, ap, sym, ◌∙◌, subst}
use Rattle.std.proofs.lemmas.Result.{IfOk-weaker}
use Rattle.logic_meaning.specs.Formula.{One}
use Rattle.logic_meaning.specs.Tree.{Tree}
use Rattle.normal_atoms.specs.Atoms.{context_of, atom_of}
use Rattle.formula_tree.specs.Shapes.{tree_over}
use Rattle.formula_store.specs.Nodes.{tree}
use Rattle.atom_pruning.specs.Rows.{AreRowsOf}
use Rattle.clause_search.specs.Variables.{HasRows}
use Rattle.clause_search.proofs.RowsHold.{atom_rows}
use Rattle.clause_search.proofs.variables.rows_of.Goals as goal

pub returns-in-One : goal.returns-in-One
returns-in-One c =
    let t = context_of c.args.context in
    let a = atom_of c.in-One.atom in
    let same : tree c.args.store.now c.args.id ≡ One a = c.shape.ensures.tree ∙ ap (λ n. tree_over (tree c.args.store.now) n) c.in-One.is in
    IfOk-weaker c.of.result (AreRowsOf t a) (HasRows t (tree c.args.store.now c.args.id)) (λ r h. subst (λ (f : Tree). HasRows t f r) (sym same) (atom_rows t a r h)) c.of.ensures.rows
