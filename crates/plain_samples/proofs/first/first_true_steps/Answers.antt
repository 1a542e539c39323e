use Rattle.std.proofs.Common.{rules, ◌≡◌, false, sym, subst}
use Rattle.normal_atoms.specs.Atoms.{context_of}
use Rattle.formula_tree.specs.Trees.{tree_of}
use Rattle.nnf_trees.specs.Forms.{form}
use Rattle.nnf_trees.specs.Nnfs.{nnf_of}
use Rattle.reference_engine.specs.Ready.{IsReady}
use Rattle.reference_engine.proofs.Readiness.{form_ready}
use Rattle.plain_samples.proofs.first.first_true_steps.Goals as goal

pub true_steps-requires-clause-ready : goal.true_steps-requires-clause-ready
true_steps-requires-clause-ready c =
    let f = tree_of c.args.tree.now in
    let made : nnf_of c.in_ok-form.form ≡ form false f = search rules in
    subst (IsReady (context_of c.args.context)) (sym made) (form_ready (context_of c.args.context) c.args.limit f c.requires.normal)
