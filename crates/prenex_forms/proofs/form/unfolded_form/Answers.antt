use Rattle.std.proofs.Common.{ap, ◌∙◌}
use Rattle.logic_meaning.specs.NegationNormal.{normal_form}
use Rattle.formula_laws.proofs.NormalAgain.{normal_form_again}
use Rattle.logic_meaning.specs.NormalForm.{negated_normal}
use Rattle.formula_store.specs.Nodes.{tree}
use Rattle.prenex_forms.proofs.form.unfolded_form.Goals as goal

pub returns-clause-form : goal.returns-clause-form
returns-clause-form c =
    c.in_ok-normal_form.ensures.form ∙ ap (normal_form negated_normal) c.in-Ok.ensures.form ∙ normal_form_again negated_normal (tree c.args.store.now c.args.id)
