use Rattle.std.proofs.Common.{drop, ◌+◌, subst, sym}
use Rattle.exact_numbers.proofs.Casts.{read_back}
use Rattle.written_syntax.proofs.EntryNumbers.{SoFar, so_far_start, so_far_more, so_far_refused, so_far_end, so_far_at, so_far_done}
use Rattle.written_syntax.proofs.point.common_denominator.Goals as goal

pub loop-entry-init : goal.loop-entry-init
loop-entry-init c = so_far_start _ c.requires.proper c.requires.divided

pub returns-in_err-common : goal.returns-in_err-common
returns-in_err-common c =
    let before = so_far_at c.args.entries.now c.loop-entry.entry-index c.entry-item.result c.loop-entry-test.true c.entry-item.is c.loop-entry.invariant in
    rw c.from_residual.ensures (so_far_refused _ _ _ _ c.requires.proper c.requires.divided before c.in_err-common.ensures)

pub loop-entry-preserved : goal.loop-entry-preserved
loop-entry-preserved c =
    let es = c.args.entries.now in
    let before = so_far_at es c.loop-entry.entry-index c.entry-item.result c.loop-entry-test.true c.entry-item.is c.loop-entry.invariant in
    let m = c.in_ok-common.ensures in
    subst (λ n. SoFar es (drop (c.loop-entry.entry-index + 1) es) n) (sym (read_back _ m.1)) (so_far_more _ _ _ _ _ before m.0 m.1 m.2)

pub returns : goal.returns
returns c = so_far_end _ _ (so_far_done c.args.entries.now c.loop-entry.entry-index c.loop-entry-test.false c.loop-entry.invariant)
