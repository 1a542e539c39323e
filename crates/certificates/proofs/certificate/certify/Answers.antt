use Rattle.std.proofs.Common.{rules, ◌≡◌, ◌∙◌, List, Err, Some, ap, sym, map}
use Rattle.logic_meaning.specs.Measured.{done}
use Rattle.linear_forms.specs.Values.{number_of}
use Rattle.logic_meaning.specs.Search as reference
use Rattle.logic_meaning.specs.Search.{At, Farkas, first_false}
use Rattle.certificates.specs.Constraints.{constraint_of}
use Rattle.certificates.specs.Stops.{error_of}
use Rattle.certificates.specs.Rows.{row_of, rows_of, all_kept}
use Rattle.certificates.specs.Certificates.{value_of}
use Rattle.certificates.specs.declared.rows.Row.{Row}
use Rattle.certificates.proofs.TwoPasses.{all_bounds, down_stops, up_stops, farkas_found, point_found, is_certificate, error_passed}
use Rattle.certificates.proofs.certificate.certify.Goals as goal

pub returns-in_err-rows-clause-answered : goal.returns-in_err-rows-clause-answered
returns-in_err-rows-clause-answered c =
    let cs = map constraint_of c.args.constraints.now in
    let names = map number_of c.args.names.now in
    let e = c.in_err-rows.field-0.0 in
    let is : c.from_residual-in_err-rows.result ≡ Err e = search rules in
    error_passed c.from_residual-in_err-rows.result e _ _ is (down_stops c.args.limit cs names c.in_ok-rows_from.field-0.items c.in_ok-rows_from.ensures e c.in_err-rows.ensures.stops)

-- the multipliers that are found
farkas : (c : goal.After-drop-rows-in-Some) → reference.search c.args.limit (map number_of c.args.names.now) (map constraint_of c.args.constraints.now) ≡ done (Farkas c.in_ok-multipliers-in-Some.field-0.items)
farkas c =
    let cs = map constraint_of c.args.constraints.now in
    let names = map number_of c.args.names.now in
    let f : Some (row_of c.in-Some.row.now) ≡ first_false (rows_of c.in_ok-rows.rows.items) = c.in-Some.ensures ∙ ap (λ (rows : List Row). first_false (rows_of rows)) c.deref.ensures.value in
    farkas_found c.args.limit cs names c.in_ok-rows_from.field-0.items c.in_ok-rows_from.ensures (rows_of c.in_ok-rows.rows.items) (all_kept c.in_ok-rows.steps.items) c.in_ok-rows.ensures.rows (row_of c.in-Some.row.now) f
    ∙ ap (λ ms. done (Farkas ms)) (sym c.in_ok-multipliers-in-Some.ensures.multipliers)

pub returns-in-Some-clause-answered : goal.returns-in-Some-clause-answered
returns-in-Some-clause-answered c = farkas c

pub returns-in-Some-clause-certificate : goal.returns-in-Some-clause-certificate
returns-in-Some-clause-certificate c =
    is_certificate c.args.limit (map constraint_of c.args.constraints.now) (map number_of c.args.names.now) (Farkas c.in_ok-multipliers-in-Some.field-0.items) c.requires.names_differ c.requires.over (farkas c)

pub ascend-requires : goal.ascend-requires
ascend-requires c =
    all_bounds c.args.limit (map number_of c.args.names.now) _ _ (rows_of c.in_ok-rows.rows.items) (all_kept c.in_ok-rows.steps.items) c.in_ok-rows.ensures.rows

pub returns-in_err-found-in-None-clause-answered : goal.returns-in_err-found-in-None-clause-answered
returns-in_err-found-in-None-clause-answered c =
    let cs = map constraint_of c.args.constraints.now in
    let names = map number_of c.args.names.now in
    let e = c.in_err-found-in-None.field-0.0 in
    let is : c.from_residual-in_err-found-in-None.result ≡ Err (error_of e) = search rules in
    let f = c.in-None.ensures ∙ ap (λ (rows : List Row). first_false (rows_of rows)) c.deref.ensures.value in
    error_passed c.from_residual-in_err-found-in-None.result (error_of e) _ _ is
    (up_stops c.args.limit cs names c.in_ok-rows_from.field-0.items c.in_ok-rows_from.ensures (rows_of c.in_ok-rows.rows.items) (all_kept c.in_ok-rows.steps.items) c.in_ok-rows.ensures.rows e f c.in_err-found-in-None.ensures.stops)

-- the point that is found
point : (c : goal.After-drop-rows-2) → reference.search c.args.limit (map number_of c.args.names.now) (map constraint_of c.args.constraints.now) ≡ done (At (map value_of c.in_ok-into_point-in-None.field-0.items))
point c =
    let cs = map constraint_of c.args.constraints.now in
    let names = map number_of c.args.names.now in
    let f = c.in-None.ensures ∙ ap (λ (rows : List Row). first_false (rows_of rows)) c.deref.ensures.value in
    point_found c.args.limit cs names c.in_ok-rows_from.field-0.items c.in_ok-rows_from.ensures (rows_of c.in_ok-rows.rows.items) (all_kept c.in_ok-rows.steps.items) c.in_ok-rows.ensures.rows c.in_ok-found-in-None.found f c.in_ok-found-in-None.ensures.values
    ∙ ap (λ vs. done (At vs)) (sym c.in_ok-into_point-in-None.ensures.values)

pub returns-clause-answered : goal.returns-clause-answered
returns-clause-answered c = point c

pub returns-clause-certificate : goal.returns-clause-certificate
returns-clause-certificate c =
    is_certificate c.args.limit (map constraint_of c.args.constraints.now) (map number_of c.args.names.now) (At (map value_of c.in_ok-into_point-in-None.field-0.items)) c.requires.names_differ c.requires.over (point c)
