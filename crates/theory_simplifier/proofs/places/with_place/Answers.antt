use Rattle.std.proofs.Common.{rules, nat_eq, ◌≡◌, ◌++◌, ◌∷◌, [], List, ℕ, ap, ◌∙◌}
use Rattle.std.specs.Prelude.{unwrap_or}
use Rattle.std.specs.HashMap.{get}
use Rattle.theory_simplifier.specs.Places.{places_at}
use Rattle.theory_simplifier.proofs.Placing.{placed, items_or_none}
use Rattle.theory_simplifier.proofs.places.with_place.Goals as goal

pub returns : goal.returns
returns c p =
    let list : c.push.new.self.items ≡ places_at c.args.places c.args.part ++ c.args.place ∷ [] =
    c.in_ok-push.ensures.items ∙ ap (λ (is : List ℕ). is ++ c.args.place ∷ [])
    (ap (λ v. v.items) (c.or_insert-list.ensures.value ∙ ap (λ o. unwrap_or o c.new.result) c.in_ok-places.ensures.value) ∙ items_or_none (get nat_eq c.args.places c.args.part) c.new.result c.new.ensures.items) in
    placed c.args.places c.args.part p c.args.place c.push.new.self (get nat_eq c.places-3-1.given.0 p) list (search rules)
