use Rattle.std.proofs.Common.{rules, ◌≡◌, ◌≤◌, false, true, [], List, ◌∙◌, sym, ap, subst}
use Rattle.logic_meaning.specs.Fold.{fold_list}
use Rattle.logic_meaning.specs.declared.junction.Junction.TheVariants.{Disjunction}
use Rattle.logic_meaning.specs.Sizes.{nodes}
use Rattle.normal_atoms.specs.Atoms.{context_of}
use Rattle.logic_meaning.specs.Measured.{done}
use Rattle.elimination_theory.specs.Theorems.{IsAnswerTo}
use Rattle.logic_meaning.specs.Reference.{branches, normal_tree, reference}
use Rattle.formula_tree.specs.Trees.{tree_of}
use Rattle.logic_meaning.specs.declared.form.VarId.{VarId}
use Rattle.nnf_trees.specs.declared.nnf.Nnf.{Nnf}
use Rattle.nnf_trees.specs.Nnfs.{nnf_of}
use Rattle.nnf_trees.specs.Forms.{form}
use Rattle.reference_engine.specs.Told.{seen, numbers, formulas_of}
use Rattle.reference_engine.specs.Ready.{IsReady}
use Rattle.reference_engine.proofs.Readiness.{form_ready}
use Rattle.reference_engine.proofs.Arms.{reference_is, if_ok_also, answer_exact}
use Rattle.reference_engine.proofs.eliminate.eliminate_form.Goals as goal

-- the formula of the reference
is_reference : (c : goal.Joined-form-5) → reference (context_of c.args.context) c.args.limit (tree_of c.args.tree.now) ≡ done (nnf_of c.in_ok-fold.field-0, c.branches.new.cost)
is_reference c =
    let f = tree_of c.args.tree.now in
    let made : nnf_of c.in_ok-form.form ≡ form false f = search rules in
    let told : seen (branches (context_of c.args.context) c.args.limit [] true (normal_tree f) c.pay.new.cost) ≡ done (formulas_of c.in_ok-left.left.items, c.branches.new.cost)
    = ap (λ g. seen (branches (context_of c.args.context) c.args.limit [] true g c.pay.new.cost)) (sym made)
    ∙ ap (λ (xs : List VarId). seen (branches (context_of c.args.context) c.args.limit (numbers xs) true (nnf_of c.in_ok-form.form) c.pay.new.cost)) (sym c.new.ensures.items) ∙ c.in_ok-left.ensures.told in
    reference_is (context_of c.args.context) c.args.limit f (nnf_of c.in_ok-fold.field-0) c.pay.new.cost c.branches.new.cost (formulas_of c.in_ok-left.left.items) (c.in_ok-pay.ensures (nodes (form false f)) c.form_sizes.ensures.plain) told c.in_ok-fold.ensures.folded

pub returns-clause-answer : goal.returns-clause-answer
returns-clause-answer c = (c.branches.new.cost, is_reference c)

pub returns-clause-exact : goal.returns-clause-exact
returns-clause-exact c = (answer_exact (context_of c.args.context) c.args.limit (tree_of c.args.tree.now) (nnf_of c.in_ok-fold.field-0) c.branches.new.cost (is_reference c) c.requires.normal).0

pub returns-clause-small : goal.returns-clause-small
returns-clause-small c = (answer_exact (context_of c.args.context) c.args.limit (tree_of c.args.tree.now) (nnf_of c.in_ok-fold.field-0) c.branches.new.cost (is_reference c) c.requires.normal).1

pub branches-requires-clause-ready : goal.branches-requires-clause-ready
branches-requires-clause-ready c =
    let f = tree_of c.args.tree.now in
    let made : nnf_of c.in_ok-form.form ≡ form false f = search rules in
    subst (IsReady (context_of c.args.context)) (sym made) (form_ready (context_of c.args.context) c.args.limit f c.requires.normal)
