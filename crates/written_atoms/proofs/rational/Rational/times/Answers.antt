use Rattle.std.proofs.Common.{◌≡◌, Result, IfOk, option_map, ap, sym, ◌∙◌, subst}
use Rattle.language_meaning.specs.RationalForms.{RationalForm, Missing, multiple_of_form}
use Rattle.written_atoms.specs.Rational.{rational_of, there}
use Rattle.written_atoms.proofs.StepCases.{times_second, times_first, times_neither}
use Rattle.written_atoms.proofs.rational.Rational.times.Goals as goal

pub returns-then-is_constant : goal.returns-then-is_constant
returns-then-is_constant c =
    let p = rational_of c.args.self.now in let q = rational_of c.args.other.now in
    let e = ap (multiple_of_form p) c.constant_part.ensures ∙ sym (times_second p q (sym c.if-is_constant.ensures)) in
    subst (λ (x : Result RationalForm Missing). IfOk c.multiple.result (λ o. option_map rational_of o ≡ there x)) e c.multiple.ensures

pub returns-then-is_constant-2 : goal.returns-then-is_constant-2
returns-then-is_constant-2 c =
    let p = rational_of c.args.self.now in let q = rational_of c.args.other.now in
    let e = ap (multiple_of_form q) c.constant_part-then-is_constant-2.ensures ∙ sym (times_first p q (sym c.if-is_constant.ensures) (sym c.if-is_constant-2.ensures)) in
    subst (λ (x : Result RationalForm Missing). IfOk c.multiple-then-is_constant-2.result (λ o. option_map rational_of o ≡ there x)) e c.multiple-then-is_constant-2.ensures

pub returns-else-is_constant-2 : goal.returns-else-is_constant-2
returns-else-is_constant-2 c = ap there (sym (times_neither (rational_of c.args.self.now) (rational_of c.args.other.now) (sym c.if-is_constant.ensures) (sym c.if-is_constant-2.ensures)))
