use Rattle.std.proofs.Common.{◌≡◌}
use Rattle.short_answers.specs.Candidates.{AreCandidates}
use Rattle.short_answers.proofs.candidates.Candidates.add_divisors.Given as goal

abbrev pub invariant-loop-quotient : goal.invariant-loop-quotient
invariant-loop-quotient l = record {
  context : l.self.context ≡ l.fn.self.context;
  candidates : AreCandidates l.self.context l.self.atoms.items;
}
