use Rattle.std.proofs.Common.{◌≡◌, ap, ◌∙◌}
use Rattle.std.specs.Int.{w128}
use Rattle.std.proofs.lemmas.Int.{to_z-of_z}
use Rattle.logic_meaning.specs.Form.{Form}
use Rattle.logic_meaning.specs.Reduction.{quotient, quotients}
use Rattle.theory_simplifier.specs.VariableParts.{number_from}
use Rattle.theory_simplifier.proofs.SameParts.{divided_terms}
use Rattle.theory_simplifier.proofs.part.quotient_number.Goals as goal

pub returns-in-Ok : goal.returns-in-Ok
unfolding quotient
returns-in-Ok c =
    let same : c.in-Ok.quotient.terms ≡ quotients c.args.content c.args.form.terms = ap (λ (f : Form). f.terms) (c.in-Ok.ensures.value ∙ ap (quotient c.args.form) (to_z-of_z w128 c.args.content c.ranges.content)) in
    c.number_of.ensures ∙ ap (number_from 0) (same ∙ divided_terms c.args.form.terms c.args.content c.requires.content c.requires.nonzero)
