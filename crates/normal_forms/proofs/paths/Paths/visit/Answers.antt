use Rattle.std.proofs.Common.{rules, ◌≡◌, ◌+◌, ◌++◌, ◌∷◌, [], None, Some, false, List, IsSome, true≢false, sym, ap, ◌∙◌, subst}
use Rattle.std.specs.Prelude.{is_some}
use Rattle.logic_meaning.specs.Some.{SomeOf}
use Rattle.normal_forms.specs.declared.paths.Place.{Place}
use Rattle.normal_forms.specs.declared.paths.Visit.{Visit}
use Rattle.normal_forms.specs.Paths.{CanGoOn, goes_up_to, place_at, next_from}
use Rattle.normal_forms.proofs.Searching.{without, stops, none_left, past_it, onward_by_none, onward_by}
use Rattle.normal_forms.proofs.paths.Paths.visit.Goals as goal

pub returns-in_default : goal.returns-in_default
returns-in_default c e h =
    let bare : IsSome (place_at c.args.self.now c.args.visit.place).list → ⊥ = λ i. true≢false (sym i ∙ ap (λ (y : Place). is_some y.list) (sym c.place-place.ensures) ∙ sym c.is_some.ensures ∙ c.if-is_some.false) in
    without c.args.self.now c.args.atoms.now c.args.visit c.args.waiting.now.items (stops c.args.self.now c.args.atoms.now c.args.visit (none_left c.args.atoms.now c.args.visit.from c.in_default.ensures.lookup.3) bare) h

pub returns-then-not-goes_up_to : goal.returns-then-not-goes_up_to
returns-then-not-goes_up_to c e h =
    let bare : IsSome (place_at c.args.self.now c.args.visit.place).list → ⊥ = λ i. true≢false (sym i ∙ ap (λ (y : Place). is_some y.list) (sym c.place-place.ensures) ∙ sym c.is_some.ensures ∙ c.if-is_some.false) in
    let not_up : c.goes_up_to.result ≡ false = search rules in
    let there = c.in-Some.ensures.lookup.3 in
    past_it c.args.self.now c.args.atoms.now c.args.visit c.args.waiting.now.items c.in-Some.atom.now c.requires there.0 (there.1 c.in-Some.atom.now) bare
    (ap (λ (y : Place). goes_up_to y c.in-Some.atom.now) (sym c.place-place.ensures) ∙ sym c.goes_up_to.ensures ∙ not_up) h

pub returns-in_ok-push-2 : goal.returns-in_ok-push-2
returns-in_ok-push-2 c e h =
    let bare : IsSome (place_at c.args.self.now c.args.visit.place).list → ⊥ = λ i. true≢false (sym i ∙ ap (λ (y : Place). is_some y.list) (sym c.place-place.ensures) ∙ sym c.is_some.ensures ∙ c.if-is_some.false) in
    let there = c.in-Some.ensures.lookup.3 in
    let next : next_from c.args.self.now c.args.visit.place c.in-Some.atom.now ≡ Some c.in-Some-get.next.now = search rules in
    let last : Visit = record { place = c.in-Some-get.next.now; from = c.args.visit.from + 1 } in
    subst (SomeOf (CanGoOn c.args.self.now c.args.atoms.now)) (ap (λ (vs : List Visit). vs ++ last ∷ []) (sym c.in_ok-push.ensures.items) ∙ sym c.in_ok-push-2.ensures.items)
    (onward_by c.args.self.now c.args.atoms.now c.args.visit c.args.waiting.now.items c.in-Some.atom.now c.requires there.0 (there.1 c.in-Some.atom.now) bare c.in-Some-get.next.now next h)

pub returns-in_default-get : goal.returns-in_default-get
returns-in_default-get c e h =
    let bare : IsSome (place_at c.args.self.now c.args.visit.place).list → ⊥ = λ i. true≢false (sym i ∙ ap (λ (y : Place). is_some y.list) (sym c.place-place.ensures) ∙ sym c.is_some.ensures ∙ c.if-is_some.false) in
    let there = c.in-Some.ensures.lookup.3 in
    let none : next_from c.args.self.now c.args.visit.place c.in-Some.atom.now ≡ None = search rules in
    subst (SomeOf (CanGoOn c.args.self.now c.args.atoms.now)) (sym c.in_ok-push.ensures.items)
    (onward_by_none c.args.self.now c.args.atoms.now c.args.visit c.args.waiting.now.items c.in-Some.atom.now c.requires there.0 (there.1 c.in-Some.atom.now) bare none h)
