use Rattle.std.proofs.Common.{rules, ◌≡◌, ◌≤◌, Some, length, subst}
use Rattle.std.proofs.lemmas.List.Elements.{All-pop}
use Rattle.std.specs.declared.result.Result.TheVariants.{Ok}
use Rattle.formula_store.specs.Changes.{Change}
use Rattle.qe_parallel.specs.Fanned.{Fanned}
use Rattle.gate_point_calls.proofs.Takings.{begun_beside}
use Rattle.gate_point_calls.proofs.shared.put_at_both_at_once.Goals as goal

pub texts_of_both-requires-clause-low : goal.texts_of_both-requires-clause-low
texts_of_both-requires-clause-low g c =
    let is : c.substitute_all.result ≡ Ok c.in_ok-deltas.deltas = search rules in
    let all = begun_beside _ _ (subst (Fanned _ _ _ _) is c.substitute_all.ensures) in
    let but_last = (All-pop (λ (d : Change). d.begun ≤ length c.between.new.store) _ _ (Some c.in_ok-high.high) c.in_ok-high.ensures.items all).0 in
    (All-pop (λ (d : Change). d.begun ≤ length c.between.new.store) _ _ (Some c.in_ok-low.low) c.in_ok-low.ensures.items but_last).1

pub texts_of_both-requires-clause-high : goal.texts_of_both-requires-clause-high
texts_of_both-requires-clause-high g c =
    let is : c.substitute_all.result ≡ Ok c.in_ok-deltas.deltas = search rules in
    let all = begun_beside _ _ (subst (Fanned _ _ _ _) is c.substitute_all.ensures) in
    (All-pop (λ (d : Change). d.begun ≤ length c.between.new.store) _ _ (Some c.in_ok-high.high) c.in_ok-high.ensures.items all).1
