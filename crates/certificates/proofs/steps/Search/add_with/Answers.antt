use Rattle.std.proofs.Common.{rules, ◌≡◌, ◌++◌, ◌∷◌, [], List, Err, drop, pos, ◌<ℤ◌, ◌+◌, ap, ◌∙◌, subst}
use Rattle.logic_meaning.specs.Form.{coefficient}
use Rattle.logic_meaning.specs.Some.{EachOf}
use Rattle.std.proofs.lemmas.List.{map-append}
use Rattle.logic_meaning.specs.Search.{new_rows}
use Rattle.certificates.specs.Rows.{row_of, rows_of, pair_of}
use Rattle.certificates.specs.Search.{pairs_with, after}
use Rattle.certificates.specs.declared.rows.Row.{Row}
use Rattle.certificates.proofs.Descents.{row_more, row_stops, err_told, left_at}
use Rattle.certificates.proofs.steps.Search.add_with.Goals as goal

pub returns-in_err-row-clause-stops : goal.returns-in_err-row-clause-stops
returns-in_err-row-clause-stops c =
    let x = c.args.name.number in
    let limit = c.args.self.limit in
    let upper = row_of c.args.upper.now in
    let e = c.in_err-row.field-0.0 in
    let is : c.from_residual.result ≡ Err e = search rules in
    let all = after (rows_of c.args.rows.now.items) (new_rows limit x (pairs_with (rows_of c.args.lowers.now) upper) c.args.cost.now) in
    let split = left_at c.args.lowers.now c.loop-lower.lower-index c.lower-item.result c.loop-lower-test.true c.lower-item.is in
    let before = subst (λ (rows : List Row). after (rows_of c.loop-lower.rows.items) (new_rows limit x (pairs_with (rows_of rows) upper) c.loop-lower.cost) ≡ all) split c.loop-lower.invariant.told in
    err_told c.from_residual.result e all is
    (row_stops limit x e (pair_of c.args.upper.now c.lower-item.result) _ (rows_of c.loop-lower.rows.items) c.loop-lower.cost all before c.in_err-row.ensures.stops)

pub loop-lower-preserved : goal.loop-lower-preserved
loop-lower-preserved c =
    let x = c.args.name.number in
    let limit = c.args.self.limit in
    let upper = row_of c.args.upper.now in
    let all = after (rows_of c.args.rows.now.items) (new_rows limit x (pairs_with (rows_of c.args.lowers.now) upper) c.args.cost.now) in
    let rest : List Row = drop (c.loop-lower.lower-index + 1) c.args.lowers.now in
    let split = left_at c.args.lowers.now c.loop-lower.lower-index c.lower-item.result c.loop-lower-test.true c.lower-item.is in
    let before = subst (λ (rows : List Row). after (rows_of c.loop-lower.rows.items) (new_rows limit x (pairs_with (rows_of rows) upper) c.loop-lower.cost) ≡ all) split c.loop-lower.invariant.told in
    let pushed : rows_of c.push.new.self.items ≡ rows_of c.loop-lower.rows.items ++ row_of c.in_ok-row.row ∷ []
    = ap rows_of c.in_ok-push.ensures.items ∙ map-append row_of c.loop-lower.rows.items (c.in_ok-row.row ∷ []) in
    record {
      told = ap (λ made. after made (new_rows limit x (pairs_with (rows_of rest) upper) c.new_row.new.cost)) pushed
          ∙ row_more limit x (pair_of c.args.upper.now c.lower-item.result) (pairs_with (rows_of rest) upper) (rows_of c.loop-lower.rows.items) (row_of c.in_ok-row.row) c.loop-lower.cost c.new_row.new.cost all before c.in_ok-row.ensures.row;
      bounds = (subst (λ (rows : List Row). EachOf (λ r. coefficient x r.form <ℤ pos 0) (rows_of rows)) split c.loop-lower.invariant.bounds).1;
    }
