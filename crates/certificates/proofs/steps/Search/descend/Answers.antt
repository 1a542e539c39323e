use Rattle.std.proofs.Common.{◌≡◌, ◌+◌, ◌++◌, ◌∷◌, [], List, map, drop, get_or, length, ap, subst, ◌∙◌}
use Rattle.std.proofs.lemmas.List.{map-append, drop_more}
use Rattle.linear_forms.specs.Values.{number_of}
use Rattle.logic_meaning.specs.declared.form.VarId.{VarId}
use Rattle.certificates.specs.Rows.{rows_of, kept_of, all_kept}
use Rattle.certificates.specs.Search.{kept, descent}
use Rattle.certificates.proofs.Descents.{kept_before, step_more}
use Rattle.certificates.proofs.steps.Search.descend.Goals as goal

pub loop-name-preserved : goal.loop-name-preserved
loop-name-preserved c =
    let d : VarId = record { number = 0 } in
    let limit = c.args.self.limit in
    let names = c.args.names.now in
    let i = c.loop-name.name-index in
    let name = get_or names i d in
    let rest : List VarId = drop (i + 1) names in
    let rows = rows_of c.loop-name.rows.items in
    let next = rows_of c.in_ok-next.next.items in
    let ks = all_kept c.loop-name.steps.items in
    let all = descent limit (map number_of names) (rows_of c.args.rows.items) (length c.args.rows.items) in
    let before = subst (λ (xs : List VarId). kept_before ks (descent limit (map number_of xs) rows c.loop-name.cost) ≡ all) (drop_more names i d c.loop-name-test.true) c.loop-name.invariant in
    let pushed : all_kept c.push.new.self.items ≡ ks ++ kept name.number rows ∷ []
    = ap all_kept c.in_ok-push.ensures.items ∙ map-append kept_of c.loop-name.steps.items (c.in_ok-next.step ∷ []) ∙ ap (λ k. ks ++ k ∷ []) c.in_ok-next.ensures.kept in
    ap (λ l. kept_before l (descent limit (map number_of rest) next c.next_rows.new.cost)) pushed
    ∙ step_more limit ks name.number (map number_of rest) rows next c.loop-name.cost c.next_rows.new.cost all before c.in_ok-next.ensures.rows
