use Rattle.std.proofs.Common.{rules, ◌≡◌, ◌∙◌, sym, ap, subst}
use Rattle.std.specs.Prelude.{IfOk}
use Rattle.std.specs.declared.result.Result.TheVariants.{Err}
use Rattle.logic_meaning.specs.Every.{Every}
use Rattle.normal_atoms.specs.Atoms.{context_of}
use Rattle.logic_meaning.specs.NormalForm.{IsNormal}
use Rattle.logic_meaning.specs.Measured.{done}
use Rattle.elimination_theory.specs.Theorems.{IsAnswerTo}
use Rattle.elimination_theory.proofs.Sound.{normal_normal_tree}
use Rattle.elimination_theory.proofs.Turning.{from_normal}
use Rattle.formula_tree.specs.Makers.{IsMade}
use Rattle.formula_tree.specs.Trees.{tree_of}
use Rattle.formula_store.specs.Nodes.{IsId, tree}
use Rattle.formula_store.proofs.Makes.{keeps_then}
use Rattle.nnf_trees.specs.Nnfs.{nnf_of}
use Rattle.reference_engine.proofs.Arms.{if_ok_also}
use Rattle.reference_engine.proofs.Seen.{stops_along}
use Rattle.reference_engine.proofs.FormAgain.{reference_along}
use Rattle.reference_engine.proofs.shared_elimination_eliminate.eliminate_shared.Goals as goal

pub eliminate_form-requires-clause-normal : goal.eliminate_form-requires-clause-normal
eliminate_form-requires-clause-normal c =
    subst (Every (IsNormal (context_of c.args.context))) (sym c.in_ok-form.ensures.form) (normal_normal_tree (context_of c.args.context) c.args.limit (tree c.args.store.now c.args.id) c.requires.normal)

pub returns-in_err-answer-clause-stops : goal.returns-in_err-answer-clause-stops
returns-in_err-answer-clause-stops c =
    let o = context_of c.args.context in
    let is : c.from_residual-in_err-answer.result ≡ Err c.in_err-answer.field-0.0 = search rules in
    rw is (stops_along c.in_err-answer.field-0.0 _ _ (reference_along o c.args.limit (tree c.args.store.now c.args.id) (tree_of c.in_ok-form.form) c.in_ok-form.ensures.form) c.in_err-answer.ensures.stops)

pub returns-clause-answer : goal.returns-clause-answer
returns-clause-answer c =
    let o = context_of c.args.context in
    let f = tree c.args.store.now c.args.id in
    let told = c.in_ok-answer.ensures.answer in
    let made : IfOk c.map_err.result (λ r. IsMade (IsId c.share.new.store) (tree c.share.new.store) r (nnf_of c.in_ok-answer.answer)) = search rules in
    if_ok_also c.map_err.result (λ r. IsMade (IsId c.share.new.store) (tree c.share.new.store) r (nnf_of c.in_ok-answer.answer)) _ made
    (λ r m. (told.0, sym (reference_along o c.args.limit f (tree_of c.in_ok-form.form) c.in_ok-form.ensures.form) ∙ told.1 ∙ ap (λ g. done (g, told.0)) (sym m.same)))

pub returns-clause-exact : goal.returns-clause-exact
returns-clause-exact c =
    let o = context_of c.args.context in
    let f = tree c.args.store.now c.args.id in
    let g = nnf_of c.in_ok-answer.answer in
    let made : IfOk c.map_err.result (λ r. IsMade (IsId c.share.new.store) (tree c.share.new.store) r g) = search rules in
    let exact : IsAnswerTo o f g = from_normal o f g c.requires.normal (subst (λ h. IsAnswerTo o h g) c.in_ok-form.ensures.form c.in_ok-answer.ensures.exact) in
    if_ok_also c.map_err.result (λ r. IsMade (IsId c.share.new.store) (tree c.share.new.store) r g) _ made (λ r m. subst (IsAnswerTo o f) (sym m.same) exact)

pub returns-clause-kept : goal.returns-clause-kept
returns-clause-kept c = keeps_then c.args.store.now c.unfolded_form.new.store c.share.new.store c.unfolded_form.ensures.kept c.share.ensures.kept
