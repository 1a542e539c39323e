use Rattle.std.proofs.Common.{drop}
use Rattle.normal_atoms.specs.Atoms.{context_of}
use Rattle.sample_reference.specs.Seen.{values_of}
use Rattle.engine_answers.specs.Branches.{shared_steps}
use Rattle.engine_answers.specs.Points.{IsCommonPoint}
use Rattle.engine_answers.proofs.Answering.{AreFound}
use Rattle.engine_answers.proofs.answers.answer_values.Given as goal

abbrev pub invariant-loop-place : goal.invariant-loop-place
invariant-loop-place l = record {
  found : AreFound (context_of l.context) (shared_steps l.store l.answers l.branches) (shared_steps l.store (drop l.place l.answers) (drop l.place l.branches)) l.fn.given.items l.found.items;
  point : IsCommonPoint (values_of l.found.items) l.point;
}
