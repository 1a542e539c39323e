use Rattle.std.proofs.Common.{subst}
use Rattle.normal_atoms.specs.Atoms.{context_of}
use Rattle.written_atoms.specs.Atom.{IsCongruenceMade}
use Rattle.written_atoms.proofs.AtomsRead.{congruence_read, made_proper, none_told}
use Rattle.written_atoms.proofs.read.congruence_of.Goals as goal

pub returns-clause-read : goal.returns-clause-read
returns-clause-read c bound number s t m h k =
    congruence_read (context_of c.args.context) number bound c.args.holds s t m c.args.difference c.args.modulus c.in_ok-normal.normal
    c.is_no_divisor.result c.is_none.result c.is_none-2.result h k c.is_no_divisor.ensures (none_told _ _ c.is_none.ensures) (none_told _ _ c.is_none-2.ensures)
    (subst (λ f. IsCongruenceMade (context_of c.args.context) c.args.holds f c.args.modulus.form c.in_ok-normal.normal) c.into_form.ensures (subst (λ f. IsCongruenceMade (context_of c.args.context) c.args.holds c.into_form.result f c.in_ok-normal.normal) c.into_form-2.ensures c.in_ok-normal.ensures))

pub returns-clause-proper : goal.returns-clause-proper
returns-clause-proper c = made_proper (context_of c.args.context) c.args.holds c.into_form.result c.into_form-2.result c.in_ok-normal.normal c.in_ok-normal.ensures
