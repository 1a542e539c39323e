use Rattle.std.proofs.Common.{◌∙◌, subst}
use Rattle.logic_meaning.specs.Some.{SomeOf}
use Rattle.branch_rounds.specs.Branches.{Seen, IsAlike}
use Rattle.branch_rounds.proofs.Places.{some_at}
use Rattle.branch_rounds.proofs.past.Past.has.Goals as goal

pub returns-in-Some-get : goal.returns-in-Some-get
returns-in-Some-get c t =
    let there = c.in-Some-get.ensures.lookup.3 in
    let other : Seen = c.in-Some-get.other.now in
    let among : SomeOf (IsAlike c.args.branch.now) c.deref.result.now = some_at (IsAlike c.args.branch.now) c.deref.result.now c.in-Some.place.now other there.0 (there.1 other) (c.is_alike.ensures t) in
    subst (SomeOf (IsAlike c.args.branch.now)) (c.deref.ensures.value ∙ c.self.view_is) among
