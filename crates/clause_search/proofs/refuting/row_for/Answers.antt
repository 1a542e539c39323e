use Rattle.std.proofs.Common.{refl}
use Rattle.std.proofs.lemmas.Option.{slice_get_read}
use Rattle.clause_search.proofs.Refuted.{row_met}
use Rattle.clause_search.proofs.refuting.row_for.Goals as goal

pub returns-in-Some : goal.returns-in-Some
returns-in-Some c =
    let vs = c.args.variables.now in
    let v = c.in-Some.variable.now in
    let found = c.in-Some.ensures.lookup in
    row_met vs c.args.literal v (slice_get_read vs _ _ v refl found.3.0 (found.3.1 v)) c.row.result c.row.ensures
