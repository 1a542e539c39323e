use Rattle.std.proofs.Common.{ap, sym}
use Rattle.std.specs.Int.{w128}
use Rattle.std.proofs.lemmas.Int.{to_z-of_z}
use Rattle.exact_numbers.proofs.Casts.{fits}
use Rattle.written_atoms.specs.Entries.{coefficient_at}
use Rattle.logic_meaning.specs.Form.{coefficient}
use Rattle.written_atoms.proofs.sum.WholeSum.of.Goals as goal

pub returns : goal.returns
unfolding coefficient
returns c =
    record {
      sorted = record { rising = tt; nonzero = tt };
      coefficients = λ x. sym (ap (λ es. coefficient_at es x) c.new.ensures.empty);
      constant = sym (to_z-of_z w128 c.args.constant (fits c.args.constant c.requires));
    }
