use Rattle.std.proofs.Common.{◌≡◌, ◌+◌, ◌≤◌, vec_len}
use Rattle.short_answers.specs.Candidates.{AreCandidates}
use Rattle.short_answers.proofs.candidates.Candidates.keep_true.Given as goal

abbrev pub invariant-loop-atom : goal.invariant-loop-atom
invariant-loop-atom l = record {
  context : l.self.context ≡ l.fn.self.context;
  candidates : AreCandidates l.self.context l.self.atoms.items;
  kept : AreCandidates l.self.context l.kept.items;
  few : vec_len l.self.atoms + vec_len l.kept ≤ vec_len l.fn.self.atoms;
}

abbrev pub decreases-loop-atom : goal.decreases-loop-atom
decreases-loop-atom l = vec_len l.self.atoms
