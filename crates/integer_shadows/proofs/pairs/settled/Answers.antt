use Rattle.std.proofs.Common.{sym, subst, map}
use Rattle.normal_atoms.specs.Atoms.{atom_of}
use Rattle.case_theory.specs.PutThrough.{AreTrue}
use Rattle.integer_shadows.proofs.pairs.settled.Goals as goal

pub returns-then-branch-clause-settled : goal.returns-then-branch-clause-settled
returns-then-branch-clause-settled c = record {
  same = λ _. sym c.in-Atoms.is;
  needs = λ _ p o g t. c.in_ok-are_all_implied-in-Atoms.ensures.implied c.if-branch.true p o g (subst (λ vs. AreTrue (map atom_of vs) p) (sym c.deref.ensures.value) t);
}
