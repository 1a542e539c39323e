use Rattle.std.proofs.Common.{map, take}
use Rattle.std.specs.Prelude.{IfSome}
use Rattle.logic_meaning.specs.Some.{Among, EachOf}
use Rattle.normal_atoms.specs.declared.atoms.Context.TheVariants.{Integers}
use Rattle.normal_atoms.specs.Atoms.{atom_of}
use Rattle.branch_points.specs.declared.counts.Candidate.{Candidate}
use Rattle.branch_points.specs.Counts.{IsCandidate, IsBeaten}
use Rattle.branch_points.proofs.counts.fewest.Given as goal

-- the best so far, of the names so far
abbrev pub invariant-loop-name : goal.invariant-loop-name
invariant-loop-name l = record {
  found : IfSome l.best (λ (k : Candidate). Among l.left k.name × IsCandidate (map atom_of l.atoms) k);
  least : EachOf (IsBeaten Integers (map atom_of l.atoms) l.best) (take l.name-index l.left);
}
