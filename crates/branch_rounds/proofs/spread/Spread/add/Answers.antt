use Rattle.std.proofs.Common.{rules, ◌≡◌, List, Some, length, sym, subst, arith}
use Rattle.std.specs.HashMap.{Updates}
use Rattle.formula_store.specs.Tables.{same_id}
use Rattle.branch_rounds.specs.Branches.{Seen, ArePlaces}
use Rattle.branch_rounds.proofs.Places.{places_more}
use Rattle.branch_rounds.proofs.spread.Spread.add.Goals as goal

pub invariant_of-self-2 : goal.invariant_of-self-2
invariant_of-self-2 c =
    let bs : List Seen = c.self.inside.branches.items in
    let put : Updates same_id c.self.inside.places c.insert.new.self c.formula-formula.result (Some c.len-place.result) = search rules in
    let many : c.len-place.result ≡ length bs = omega (arith, c.len-place.ensures) in
    subst (λ (l : List Seen). ArePlaces l c.insert.new.self) (sym c.in_ok-push.ensures.items)
    (places_more bs c.args.branch c.self.inside.places c.insert.new.self c.formula-formula.result c.len-place.result c.formula-formula.ensures many put.0 c.self.invariant)
