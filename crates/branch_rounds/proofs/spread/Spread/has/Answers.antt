use Rattle.std.proofs.Common.{◌≡◌, ◌<◌, length, sym, ap, ◌∙◌, subst, arith}
use Rattle.std.proofs.lemmas.Option.{slice_get_within, get_or_from_slice_get}
use Rattle.logic_meaning.specs.Some.{SomeOf}
use Rattle.branch_rounds.specs.Branches.{Seen, IsAlike}
use Rattle.branch_rounds.proofs.Places.{some_there}
use Rattle.branch_rounds.proofs.spread.Spread.has.Goals as goal

pub index-requires : goal.index-requires
index-requires c =
    let there = c.self.invariant c.formula.result c.in-Some.place.now (sym c.in-Some.ensures.value) in
    let h : c.in-Some.place.now < length c.self.inside.branches.items = slice_get_within c.self.inside.branches.items c.in-Some.place.now there.0 there.1 in
    omega (arith, h)

pub returns-in-Some : goal.returns-in-Some
returns-in-Some c t =
    let there = c.self.invariant c.formula.result c.in-Some.place.now (sym c.in-Some.ensures.value) in
    let is : c.index.result.now ≡ there.0 = c.index.ensures ∙ get_or_from_slice_get c.self.inside.branches.items c.in-Some.place.now there.0 c.index.result.now there.1 in
    let left : there.0.left ≡ c.args.branch.now.left = ap (λ (b : Seen). b.left) (sym is) ∙ sym c.left.ensures ∙ c.same_names.ensures t ∙ c.left-in-Some.ensures in
    subst (SomeOf (IsAlike c.args.branch.now)) c.self.view_is (some_there (IsAlike c.args.branch.now) c.self.inside.branches.items c.in-Some.place.now there.0 there.1 (there.2 ∙ c.formula.ensures, left))
