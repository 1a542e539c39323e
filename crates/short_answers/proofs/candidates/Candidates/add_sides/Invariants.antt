use Rattle.std.proofs.Common.{◌≡◌}
use Rattle.short_answers.specs.Candidates.{AreCandidates}
use Rattle.short_answers.proofs.candidates.Candidates.add_sides.Given as goal

abbrev pub invariant-loop-relation : goal.invariant-loop-relation
invariant-loop-relation l = record {
  context : l.self.context ≡ l.fn.self.context;
  candidates : AreCandidates l.self.context l.self.atoms.items;
}
