use Rattle.std.proofs.lemmas.Int.{to_z-of_z}
use Rattle.exact_numbers.proofs.Casts.{fits}
use Rattle.written_atoms.specs.Rational.{rational_of}
use Rattle.written_atoms.proofs.SharedSums.{form_by_name}
use Rattle.written_atoms.proofs.sum.SharedSum.of.Goals as goal

pub returns : goal.returns
returns c =
    let f = c.args.form.now in
    let k = fits f.denominator f.within in
    form_by_name _ (rational_of f) c.requires.lowest c.in_ok-of_form.ensures (simp to_z-of_z)
