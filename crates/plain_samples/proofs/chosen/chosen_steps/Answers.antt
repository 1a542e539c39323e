use Rattle.std.proofs.Common.{rules, ◌≡◌, false, sym, ap, ◌∙◌, subst}
use Rattle.logic_meaning.specs.Sizes.{nodes}
use Rattle.logic_meaning.specs.PutIn.{put_in}
use Rattle.logic_meaning.specs.Sample.{chosen_steps}
use Rattle.normal_atoms.specs.Atoms.{context_of}
use Rattle.formula_tree.specs.Trees.{tree_of}
use Rattle.linear_forms.specs.Values.{point_of}
use Rattle.nnf_trees.specs.Forms.{form}
use Rattle.nnf_trees.specs.Nnfs.{nnf_of}
use Rattle.reference_engine.specs.Ready.{IsReady}
use Rattle.reference_engine.proofs.Readiness.{form_ready}
use Rattle.plain_samples.specs.Steps.{steps_seen}
use Rattle.plain_samples.proofs.Choosing.{told_chosen, put_stays}
use Rattle.plain_samples.proofs.Telling.{told_made, told_stops}
use Rattle.plain_samples.proofs.chosen.chosen_steps.Goals as goal

pub true_steps-requires-clause-ready : goal.true_steps-requires-clause-ready
true_steps-requires-clause-ready c =
    let o = context_of c.args.context in
    let t = tree_of c.in_ok-put.put in
    let made : nnf_of c.in_ok-form.form ≡ form false t = search rules in
    subst (IsReady o) (sym made) (form_ready o c.args.limit t c.in_ok-put.ensures.exact.normal)

pub returns-clause-chosen : goal.returns-clause-chosen
returns-clause-chosen c =
    let o = context_of c.args.context in
    let p = point_of c.args.at.now in
    let f = tree_of c.args.tree.now in
    let r = c.true_steps.result in
    let cost = c.true_steps.new.cost in
    let paid = c.in_ok-pay.ensures (nodes (form false f)) c.form_sizes.ensures.plain in
    let made : nnf_of c.in_ok-form.form ≡ form false (tree_of c.in_ok-put.put) = search rules in
    let same : nnf_of c.in_ok-form.form ≡ put_in o p f = made ∙ ap (form false) c.in_ok-put.ensures.put ∙ put_stays o p f c.requires.point in
    told_made steps_seen r cost (chosen_steps o c.args.limit p f)
    (told_chosen o c.args.limit p f c.pay.new.cost paid c.requires.point c.in_ok-put.ensures.within (nnf_of c.in_ok-form.form) c.is_asked.result r cost same c.is_asked.ensures c.true_steps.ensures.told)

pub returns-clause-stops : goal.returns-clause-stops
returns-clause-stops c =
    let o = context_of c.args.context in
    let p = point_of c.args.at.now in
    let f = tree_of c.args.tree.now in
    let r = c.true_steps.result in
    let cost = c.true_steps.new.cost in
    let paid = c.in_ok-pay.ensures (nodes (form false f)) c.form_sizes.ensures.plain in
    let made : nnf_of c.in_ok-form.form ≡ form false (tree_of c.in_ok-put.put) = search rules in
    let same : nnf_of c.in_ok-form.form ≡ put_in o p f = made ∙ ap (form false) c.in_ok-put.ensures.put ∙ put_stays o p f c.requires.point in
    told_stops steps_seen r cost (chosen_steps o c.args.limit p f)
    (told_chosen o c.args.limit p f c.pay.new.cost paid c.requires.point c.in_ok-put.ensures.within (nnf_of c.in_ok-form.form) c.is_asked.result r cost same c.is_asked.ensures c.true_steps.ensures.told)
