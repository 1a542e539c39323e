use Rattle.std.proofs.Common.{◌≡◌, ℕ, List, [], ◌∷◌, ◌++◌, get_or, take, arith}
use Rattle.std.proofs.lemmas.List.{take_more, take_all}
use Rattle.free_names.proofs.Lists.{without_more, without_that}
use Rattle.free_names.proofs.missing.without.Goals as goal
use Rattle.free_names.proofs.missing.without.Goals.{then-other-number+in_ok-push, else-other-number}

pub loop-other-preserved : goal.loop-other-preserved
loop-other-preserved c =
    let k : ℕ = get_or c.args.numbers.now c.loop-other.other-index 0 in
    let front : List ℕ = take c.loop-other.other-index c.args.numbers.now in
    let more = take_more c.args.numbers.now c.loop-other.other-index 0 c.loop-other-test.true in
    elim c.if-other-number.branch [
      | then-other-number+in_ok-push w ↦
          let items : c.if-other-number.rest.items ≡ c.loop-other.rest.items ++ k ∷ [] = cc (w.rest-is, w.in_ok-push.ensures.items) in
          rw (items, more) (without_more c.loop-other.rest.items front c.args.number k w.if-other-number.true c.loop-other.invariant)
      | else-other-number w ↦
          let items : c.if-other-number.rest.items ≡ c.loop-other.rest.items = cc (w.rest-is) in
          rw (items, more) (without_that c.loop-other.rest.items front c.args.number k w.if-other-number.false c.loop-other.invariant)
    ]

pub returns : goal.returns
returns c =
    let whole : take c.loop-other.other-index c.args.numbers.now ≡ c.args.numbers.now = take_all c.loop-other.other-index c.args.numbers.now (omega arith) in
    rw whole at c.loop-other.invariant
