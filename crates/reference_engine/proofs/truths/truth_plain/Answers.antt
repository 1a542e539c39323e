use Rattle.std.proofs.Common.{rules, ◌≡◌, false, Err, sym, ap, ◌∙◌}
use Rattle.logic_meaning.specs.Sizes.{nodes}
use Rattle.logic_meaning.specs.Measured.{done}
use Rattle.logic_meaning.specs.Reference.{reference}
use Rattle.logic_meaning.specs.Sample.{reference_at}
use Rattle.normal_atoms.specs.Atoms.{context_of}
use Rattle.formula_tree.specs.Trees.{tree_of}
use Rattle.linear_forms.specs.Values.{point_of}
use Rattle.nnf_trees.specs.Forms.{form}
use Rattle.reference_engine.proofs.Paying.{if_err_told}
use Rattle.reference_engine.proofs.Seen.{stops_along}
use Rattle.reference_engine.proofs.PointPut.{reference_put, answer_told}
use Rattle.reference_engine.proofs.truths.truth_plain.Goals as goal

pub returns-in_err-answer-clause-stops : goal.returns-in_err-answer-clause-stops
returns-in_err-answer-clause-stops c =
    let o = context_of c.args.context in
    let p = point_of c.args.at.now in
    let f = tree_of c.args.tree.now in
    let e = c.in_err-answer.field-0.0 in
    let is : c.from_residual-in_err-answer.result ≡ Err e = search rules in
    let paid = c.in_ok-pay.ensures (nodes (form false f)) c.form_sizes.ensures.plain in
    let same : reference_at o c.args.limit p f ≡ reference o c.args.limit (tree_of c.in_ok-put.put)
    = reference_put o c.args.limit p f c.pay.new.cost paid c.requires.normal c.requires.point c.in_ok-put.ensures.within ∙ ap (reference o c.args.limit) (sym c.in_ok-put.ensures.put) in
    if_err_told c.from_residual-in_err-answer.result e (reference_at o c.args.limit p f) is
    (stops_along e (reference o c.args.limit (tree_of c.in_ok-put.put)) (reference_at o c.args.limit p f) (sym same) c.in_err-answer.ensures.stops)

pub returns-clause-truth : goal.returns-clause-truth
returns-clause-truth c =
    let o = context_of c.args.context in
    let p = point_of c.args.at.now in
    let f = tree_of c.args.tree.now in
    let t = tree_of c.in_ok-answer.answer in
    let paid = c.in_ok-pay.ensures (nodes (form false f)) c.form_sizes.ensures.plain in
    let left = c.in_ok-answer.ensures.answer in
    let at : reference_at o c.args.limit p f ≡ done (t, left.0)
    = reference_put o c.args.limit p f c.pay.new.cost paid c.requires.normal c.requires.point c.in_ok-put.ensures.within ∙ ap (reference o c.args.limit) (sym c.in_ok-put.ensures.put) ∙ left.1 in
    (answer_told o c.args.limit p f t c.is_true.result left.0 c.requires.normal c.requires.point at c.is_true.ensures).0

pub returns-clause-answer : goal.returns-clause-answer
returns-clause-answer c =
    let o = context_of c.args.context in
    let p = point_of c.args.at.now in
    let f = tree_of c.args.tree.now in
    let t = tree_of c.in_ok-answer.answer in
    let paid = c.in_ok-pay.ensures (nodes (form false f)) c.form_sizes.ensures.plain in
    let left = c.in_ok-answer.ensures.answer in
    let at : reference_at o c.args.limit p f ≡ done (t, left.0)
    = reference_put o c.args.limit p f c.pay.new.cost paid c.requires.normal c.requires.point c.in_ok-put.ensures.within ∙ ap (reference o c.args.limit) (sym c.in_ok-put.ensures.put) ∙ left.1 in
    (left.0, at ∙ ap (λ u. done (u, left.0)) (answer_told o c.args.limit p f t c.is_true.result left.0 c.requires.normal c.requires.point at c.is_true.ensures).1)
