use Rattle.std.proofs.lemmas.Int.{to_z-of_z}
use Rattle.std.proofs.lemmas.Result.{err_from_is_err_and}
use Rattle.written_syntax.specs.PointFaults.{PutFault}
use Rattle.written_syntax.proofs.EntryNumbers.{numbers_next, numbers_found}
use Rattle.written_syntax.proofs.point.numbers_over.Goals as goal

pub returns-in_err-put_number-clause-fault : goal.returns-in_err-put_number-clause-fault
returns-in_err-put_number-clause-fault c =
    let fits = c.ranges.denominator in
    let p = err_from_is_err_and c.from_residual.result c.from_residual.ensures.1 in
    rw (p.1, p.2)
    (numbers_found (λ e. PutFault c.args.denominator e c.in_err-put_number.field-0.0) c.args.entries.now c.loop-entry.entry-index c.entry-item.result c.args.denominator _
    c.loop-entry-test.true c.entry-item.is (simp to_z-of_z at c.loop-entry.invariant) (simp to_z-of_z at c.in_err-put_number.ensures.fault))

pub loop-entry-preserved : goal.loop-entry-preserved
loop-entry-preserved c =
    let fits = c.ranges.denominator in
    simp to_z-of_z (numbers_next c.args.entries.now c.loop-entry.entry-index c.entry-item.result c.args.denominator _ _ c.loop-entry-test.true c.entry-item.is c.requires.single
    (simp to_z-of_z at c.in_ok-put_number.ensures.ok) (simp to_z-of_z at c.loop-entry.invariant))
