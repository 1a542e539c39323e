use Rattle.std.proofs.Common.{rules, ◌≡◌, List, ℕ, Err, sym, ap₂, subst}
use Rattle.logic_meaning.specs.Measured.{Outcome}
use Rattle.logic_meaning.specs.Rows.{Row}
use Rattle.logic_meaning.specs.Search.{new_rows}
use Rattle.certificates.specs.Rows.{rows_of}
use Rattle.certificates.specs.Search.{Kept, AreBounds, all_pairs, after}
use Rattle.certificates.proofs.Descents.{err_told, stops_along}
use Rattle.certificates.proofs.Splits.{kept_bounds}
use Rattle.certificates.proofs.steps.Search.next_rows.Goals as goal

pub add_all-requires : goal.add_all-requires
add_all-requires c = subst AreBounds (sym c.in_ok-split.ensures.step) (kept_bounds c.args.name.number (rows_of c.args.rows.items))

pub returns-in_err-add_all-clause-stops : goal.returns-in_err-add_all-clause-stops
returns-in_err-add_all-clause-stops c =
    let e = c.in_err-add_all.field-0.0 in
    let is : c.from_residual-in_err-add_all.result ≡ Err e = search rules in
    let stepped : List Row → Kept → Outcome (List Row × ℕ) = λ rows k. after rows (new_rows c.args.self.limit k.name (all_pairs k) c.args.cost.now) in
    err_told c.from_residual-in_err-add_all.result e _ is (stops_along e _ _ (ap₂ stepped c.in_ok-split.ensures.absent c.in_ok-split.ensures.step) c.in_err-add_all.ensures.stops)
