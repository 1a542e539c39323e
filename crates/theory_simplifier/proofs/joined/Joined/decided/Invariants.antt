use Rattle.std.proofs.Common.{take, get_or}
use Rattle.logic_meaning.specs.Some.{EachOf}
use Rattle.normal_atoms.specs.Atoms.{context_of, atom_of}
use Rattle.theory_simplifier.proofs.Reading.{IsSilent}
use Rattle.theory_simplifier.proofs.joined.Joined.decided.Given as goal

-- what the atoms at the places so far tell does not decide it
abbrev pub invariant-loop-place : goal.invariant-loop-place
invariant-loop-place l = EachOf (λ i. IsSilent (context_of l.context) l.self.junction (atom_of l.atom) (get_or l.self.atoms i (atom_of l.atom))) (take l.place-index l.place-items)
