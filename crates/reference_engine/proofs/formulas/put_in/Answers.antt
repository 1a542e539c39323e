use Rattle.std.proofs.Common.{rules, ◌≡◌, false, List, [], sym, ap, ◌∙◌, subst}
use Rattle.std.specs.Prelude.{IfOk}
use Rattle.formula_laws.specs.Equivalence.{InContext}
use Rattle.normal_atoms.specs.Atoms.{context_of}
use Rattle.elimination_theory.specs.Theorems.{IsPutIn}
use Rattle.logic_meaning.specs.PutIn.{put_in, tree_put}
use Rattle.elimination_theory.proofs.PutIn.{putting_in_exact}
use Rattle.elimination_theory.proofs.Turning.{normal_tree_inside}
use Rattle.formula_tree.specs.Trees.{tree_of}
use Rattle.logic_meaning.specs.declared.form.VarId.{VarId}
use Rattle.linear_forms.specs.Values.{point_of}
use Rattle.nnf_trees.specs.Nnfs.{nnf_of}
use Rattle.nnf_trees.specs.Forms.{form}
use Rattle.reference_engine.proofs.Arms.{if_ok_also}
use Rattle.reference_engine.specs.Put.{around}
use Rattle.reference_engine.proofs.formulas.put_in.Goals as goal

pub formula_put-requires-clause-in_context : goal.formula_put-requires-clause-in_context
formula_put-requires-clause-in_context c =
    let made : nnf_of c.in_ok-form.form ≡ form false (tree_of c.args.tree.now) = search rules in
    subst (InContext (context_of c.args.context)) (sym made) (normal_tree_inside (context_of c.args.context) (tree_of c.args.tree.now) c.requires.normal)

pub returns-in-Ok-clause-exact : goal.returns-in-Ok-clause-exact
returns-in-Ok-clause-exact c =
    let o = context_of c.args.context in
    let p = point_of c.args.at.now in
    let f = tree_of c.args.tree.now in
    let made : nnf_of c.in_ok-form.form ≡ form false f = search rules in
    let put : nnf_of c.in-Ok.put ≡ put_in o p f
    = c.in-Ok.ensures.put.formula ∙ ap (λ (xs : List VarId). tree_put o p (around xs) (nnf_of c.in_ok-form.form)) c.new-names.ensures.items ∙ ap (tree_put o p []) made in
    let tree : IfOk c.map_err.result (λ t. tree_of t ≡ nnf_of c.in-Ok.put) = search rules in
    if_ok_also c.map_err.result (λ t. tree_of t ≡ nnf_of c.in-Ok.put) (λ t. IsPutIn o f p (tree_of t)) tree
    (λ t e. subst (IsPutIn o f p) (sym (e ∙ put)) (putting_in_exact o f p c.requires.normal c.requires.point))
