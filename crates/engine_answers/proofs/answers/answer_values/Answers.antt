use Rattle.std.proofs.Common.{◌<◌, length, sym, ◌∙◌, subst, arith}
use Rattle.normal_atoms.specs.Atoms.{context_of}
use Rattle.sample_reference.specs.Seen.{values_of}
use Rattle.engine_answers.specs.Points.{IsCommonPoint}
use Rattle.engine_answers.proofs.Answering.{place_lacks_point}
use Rattle.engine_answers.proofs.answers.answer_values.Goals as goal

pub returns-in_default-clause-overflow : goal.returns-in_default-clause-overflow
returns-in_default-clause-overflow c = λ e.
    let ts = c.args.answers.now in
    let ids = c.args.branches.now in
    let i = c.loop-place.place in
    let none = subst (IsCommonPoint (values_of c.loop-place.found.items)) c.in_default.is c.loop-place.invariant.point in
    let below : i < length ids = omega (arith, c.requires.count, c.loop-place-test.true) in
    sym c.loop-place.invariant.found.left ∙ place_lacks_point (context_of c.args.context) c.args.store.now ts ids i c.loop-place.found.items c.loop-place-test.true below none
