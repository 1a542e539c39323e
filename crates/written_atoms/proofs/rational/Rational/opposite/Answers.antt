use Rattle.std.specs.Int.{w128}
use Rattle.std.proofs.lemmas.Int.{to_z-of_z}
use Rattle.exact_numbers.proofs.Casts.{fits}
use Rattle.language_meaning.specs.RationalForms.{numbers_of}
use Rattle.written_atoms.specs.Rational.{rational_of}
use Rattle.written_atoms.proofs.StepCases.{minus_divides, opposite_is}
use Rattle.written_atoms.proofs.rational.Rational.opposite.Goals as goal

pub divide_exact-requires-clause-divides : goal.divide_exact-requires-clause-divides
divide_exact-requires-clause-divides c = minus_divides (numbers_of c.args.self.now.form)

pub returns-in-Ok : goal.returns-in-Ok
returns-in-Ok c =
    let v = c.args.self.now in
    opposite_is (rational_of v) c.in-Ok.form _ c.in-Ok.ensures.value (to_z-of_z w128 v.denominator (fits v.denominator v.within))
