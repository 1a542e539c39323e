use Rattle.std.proofs.Common.{◌≡◌, pos, to_z, ap, sym, ◌∙◌}
use Rattle.std.specs.Int.{w128}
use Rattle.std.proofs.lemmas.Int.{to_z-of_z}
use Rattle.logic_meaning.specs.Reduction.{quotient}
use Rattle.linear_forms.proofs.Quotients.{quotient_one}
use Rattle.normal_atoms.proofs.parts.divided.Goals as goal

pub returns-then-by-eq1-clause-value : goal.returns-then-by-eq1-clause-value
returns-then-by-eq1-clause-value c =
    let e : c.args.by ≡ pos 1 = sym (to_z-of_z w128 c.args.by c.ranges.by) ∙ ap (to_z w128) c.if-by-eq1.true in
    sym (ap (quotient c.args.form) e ∙ quotient_one c.args.form)
