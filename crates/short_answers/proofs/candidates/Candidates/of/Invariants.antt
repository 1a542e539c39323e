use Rattle.std.proofs.Common.{◌≡◌}
use Rattle.short_answers.specs.Candidates.{AreCandidates}
use Rattle.short_answers.proofs.candidates.Candidates.of.Given as goal

abbrev pub invariant-loop-atom : goal.invariant-loop-atom
invariant-loop-atom l = record {
  context : l.candidates.context ≡ l.fn.context;
  candidates : AreCandidates l.candidates.context l.candidates.atoms.items;
}
