use Rattle.std.proofs.Common.{◌≡◌, ℕ, ◌↔◌, IsTrue, sym, subst}
use Rattle.std.specs.Prelude.{IfOk, IfErr}
use Rattle.logic_meaning.specs.Every.{Every}
use Rattle.logic_meaning.specs.Tree.{TrueAt}
use Rattle.formula_laws.proofs.Iff.{both_ways, turn_round}
use Rattle.linear_forms.specs.Values.{point_of}
use Rattle.normal_atoms.specs.Atoms.{context_of}
use Rattle.logic_meaning.specs.NormalForm.{IsNormal, constant_tree}
use Rattle.logic_meaning.specs.Measured.{done}
use Rattle.elimination_theory.proofs.Sound.{normal_normal_tree}
use Rattle.elimination_theory.proofs.Turning.{normal_inside, normal_truths}
use Rattle.formula_tree.specs.Trees.{tree_of}
use Rattle.formula_store.specs.Nodes.{tree}
use Rattle.reference_engine.proofs.Arms.{if_ok_also}
use Rattle.reference_engine.specs.Told.{StopsWith}
use Rattle.reference_engine.proofs.FormAgain.{reference_at_along}
use Rattle.reference_engine.proofs.truth.truth_by_elimination.Goals as goal

pub truth_plain-requires-clause-normal : goal.truth_plain-requires-clause-normal
truth_plain-requires-clause-normal c =
    subst (Every (IsNormal (context_of c.args.context))) (sym c.in_ok-form.ensures.form) (normal_normal_tree (context_of c.args.context) c.args.limit (tree c.args.store.now c.args.id) c.requires.normal)

pub returns-clause-truth : goal.returns-clause-truth
returns-clause-truth c =
    let o = context_of c.args.context in
    let p = point_of c.args.at.now in
    let f = tree c.args.store.now c.args.id in
    let same : TrueAt o f p ↔ TrueAt o (tree_of c.in_ok-form.form) p = subst (λ g. TrueAt o f p ↔ TrueAt o g p) (sym c.in_ok-form.ensures.form) (normal_truths o f p (normal_inside o f c.requires.normal) c.requires.point).0 in
    if_ok_also c.truth_plain.result (λ b. IsTrue b ↔ TrueAt o (tree_of c.in_ok-form.form) p) (λ b. IsTrue b ↔ TrueAt o f p) c.truth_plain.ensures.truth (λ b t. both_ways t (turn_round same))

pub returns-clause-answer : goal.returns-clause-answer
returns-clause-answer c =
    subst (λ o. IfOk c.truth_plain.result (λ b. (cost : ℕ) × (o ≡ done (constant_tree b, cost))))
    (reference_at_along (context_of c.args.context) c.args.limit (point_of c.args.at.now) (tree c.args.store.now c.args.id) (tree_of c.in_ok-form.form) c.in_ok-form.ensures.form) c.truth_plain.ensures.answer

pub returns-clause-stops : goal.returns-clause-stops
returns-clause-stops c =
    subst (λ o. IfErr c.truth_plain.result (λ e. StopsWith e o))
    (reference_at_along (context_of c.args.context) c.args.limit (point_of c.args.at.now) (tree c.args.store.now c.args.id) (tree_of c.in_ok-form.form) c.in_ok-form.ensures.form) c.truth_plain.ensures.stops
