use Rattle.std.proofs.Common.{List, Bool, sym}
use Rattle.formula_store.specs.declared.id.FormulaId.{FormulaId}
use Rattle.short_answers.proofs.Covering.{marked_here, marked_gone}
use Rattle.short_answers.proofs.thinning.marked.Goals as goal
use Rattle.short_answers.proofs.thinning.marked.Goals.{then-marks-place+in_ok-push, else-marks-place}

pub loop-place-preserved : goal.loop-place-preserved
loop-place-preserved c =
    let i = c.loop-place.place in
    let ids : List FormulaId = c.args.ids.now in
    let marks : List Bool = c.args.marks.now in
    let d : FormulaId = record { number = 0 } in
    elim c.if-marks-place.branch [
      | then-marks-place+in_ok-push w ↦ let more = marked_here marks ids i d c.requires c.loop-place-test.true w.if-marks-place.true in rw (w.left-is, w.in_ok-push.ensures.items, c.loop-place.invariant) (sym more)
      | else-marks-place w ↦ let more = marked_gone marks ids i d c.requires c.loop-place-test.true w.if-marks-place.false in rw (w.left-is, c.loop-place.invariant) (sym more)
    ]
