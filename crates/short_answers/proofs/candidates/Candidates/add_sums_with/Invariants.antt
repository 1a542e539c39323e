use Rattle.std.proofs.Common.{◌≡◌}
use Rattle.short_answers.specs.Candidates.{AreCandidates}
use Rattle.short_answers.proofs.candidates.Candidates.add_sums_with.Given as goal

abbrev pub invariant-loop-atom : goal.invariant-loop-atom
invariant-loop-atom l = record {
  context : l.self.context ≡ l.fn.self.context;
  candidates : AreCandidates l.self.context l.self.atoms.items;
}
