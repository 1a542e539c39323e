use Rattle.std.proofs.Common.{◌∙◌, ap}
use Rattle.logic_meaning.specs.Bounds.{value_among}
use Rattle.certificates.specs.Found.{ValueList}
use Rattle.certificates.proofs.Indexed.{looked_up}
use Rattle.certificates.proofs.found.Found.value.Goals as goal

pub returns-in-Some : goal.returns-in-Some
returns-in-Some c =
    looked_up c.args.name.number c.self.inside.values.entries _ c.in-Some.ensures.value ∙ c.self.invariant.same c.args.name.number ∙ ap (λ (vs : ValueList). value_among vs c.args.name.number) c.self.view_is

pub returns-in-None : goal.returns-in-None
returns-in-None c =
    c.whole.ensures.value ∙ looked_up c.args.name.number c.self.inside.values.entries _ c.in-None.ensures.value ∙ c.self.invariant.same c.args.name.number ∙ ap (λ (vs : ValueList). value_among vs c.args.name.number) c.self.view_is
