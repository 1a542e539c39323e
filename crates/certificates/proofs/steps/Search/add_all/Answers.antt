use Rattle.std.proofs.Common.{rules, ◌≡◌, List, Err, drop, pos, ◌<ℤ◌, ◌+◌, subst}
use Rattle.std.specs.Prelude.{flat_map}
use Rattle.logic_meaning.specs.Form.{coefficient}
use Rattle.logic_meaning.specs.Some.{EachOf}
use Rattle.logic_meaning.specs.Measured.{done}
use Rattle.logic_meaning.specs.Search.{new_rows}
use Rattle.certificates.specs.Rows.{row_of, rows_of, kept_of}
use Rattle.certificates.specs.Search.{pairs_with, all_pairs, after}
use Rattle.certificates.specs.CertificateSearchStops.{StopsSearch}
use Rattle.certificates.specs.declared.rows.Row.{Row}
use Rattle.certificates.proofs.Descents.{rows_more, rows_stop, err_told, left_at}
use Rattle.certificates.proofs.steps.Search.add_all.Goals as goal

pub returns-in_err-add_with-clause-stops : goal.returns-in_err-add_with-clause-stops
returns-in_err-add_with-clause-stops c =
    let x = c.args.step.now.name.number in
    let limit = c.args.self.limit in
    let lowers = c.args.step.now.lowers.items in
    let uppers = c.deref-upper-items.result.now in
    let made = rows_of c.loop-upper.rows.items in
    let e = c.in_err-add_with.field-0.0 in
    let is : c.from_residual.result ≡ Err e = search rules in
    let all = after (rows_of c.args.rows.now.items) (new_rows limit x (all_pairs (kept_of c.args.step.now)) c.args.cost.now) in
    let split = left_at uppers c.loop-upper.upper-index c.upper-item.result c.loop-upper-test.true c.upper-item.is in
    let before = subst (λ (rows : List Row). after made (new_rows limit x (flat_map (pairs_with (rows_of lowers)) (rows_of rows)) c.loop-upper.cost) ≡ all) split c.loop-upper.invariant.told in
    let stops = subst (λ (rows : List Row). StopsSearch e (after made (new_rows limit x (pairs_with (rows_of rows) (row_of c.upper-item.result)) c.loop-upper.cost))) c.deref.ensures.value c.in_err-add_with.ensures.stops in
    err_told c.from_residual.result e all is
    (rows_stop limit x e (pairs_with (rows_of lowers) (row_of c.upper-item.result)) _ made c.loop-upper.cost all before stops)

pub loop-upper-preserved : goal.loop-upper-preserved
loop-upper-preserved c =
    let x = c.args.step.now.name.number in
    let limit = c.args.self.limit in
    let lowers = c.args.step.now.lowers.items in
    let uppers = c.deref-upper-items.result.now in
    let made = rows_of c.loop-upper.rows.items in
    let made2 = rows_of c.add_with.new.rows.items in
    let all = after (rows_of c.args.rows.now.items) (new_rows limit x (all_pairs (kept_of c.args.step.now)) c.args.cost.now) in
    let rest : List Row = drop (c.loop-upper.upper-index + 1) uppers in
    let split = left_at uppers c.loop-upper.upper-index c.upper-item.result c.loop-upper-test.true c.upper-item.is in
    let before = subst (λ (rows : List Row). after made (new_rows limit x (flat_map (pairs_with (rows_of lowers)) (rows_of rows)) c.loop-upper.cost) ≡ all) split c.loop-upper.invariant.told in
    let more = subst (λ (rows : List Row). after made (new_rows limit x (pairs_with (rows_of rows) (row_of c.upper-item.result)) c.loop-upper.cost) ≡ done (made2, c.add_with.new.cost)) c.deref.ensures.value c.in_ok-add_with.ensures.rows in
    record {
      told = rows_more limit x (pairs_with (rows_of lowers) (row_of c.upper-item.result)) (flat_map (pairs_with (rows_of lowers)) (rows_of rest)) made made2 c.loop-upper.cost c.add_with.new.cost all before more;
      bounds = (subst (λ (rows : List Row). EachOf (λ r. pos 0 <ℤ coefficient x r.form) (rows_of rows)) split c.loop-upper.invariant.bounds).1;
    }
