use Rattle.std.proofs.Common.{◌≡◌, true, ℕ, List, [], ◌∷◌, ◌++◌, get_or, take, arith}
use Rattle.std.proofs.lemmas.List.{take_more, take_all}
use Rattle.std.specs.Ordering.{nat_cmp}
use Rattle.std.specs.BTreeSet.{contains}
use Rattle.written_syntax.proofs.NameSearch.{was_known}
use Rattle.free_names.proofs.Lists.{Puts, seen_more, seen_known, added_new, added_known}
use Rattle.free_names.proofs.missing.add.Goals as goal
use Rattle.free_names.proofs.missing.add.Goals.{then-branch+in_ok-push, else-branch}

pub loop-number-preserved : goal.loop-number-preserved
loop-number-preserved c =
    let k : ℕ = get_or c.args.numbers.now c.loop-number.number-index 0 in
    let front : List ℕ = take c.loop-number.number-index c.args.numbers.now in
    let more = take_more c.args.numbers.now c.loop-number.number-index 0 c.loop-number-test.true in
    let old = contains nat_cmp c.loop-number.seen in
    let new = contains nat_cmp c.insert.new.self in
    let puts : Puts old new k = λ n. c.in_ok-insert.ensures.updates.0 n in
    let all : List ℕ = c.loop-number.union.items in
    elim c.if-branch.branch [
      | then-branch+in_ok-push w ↦
          let items : c.if-branch.union.items ≡ all ++ k ∷ [] = cc (w.union-is, w.in_ok-push.ensures.items) in
          record {
            same = rw items (seen_more (λ (m : ℕ). m) old new all k c.loop-number.invariant.same puts);
            added = rw (items, more) (added_new all c.args.union.now.items front k c.loop-number.invariant.added);
          }
      | else-branch w ↦
          let items : c.if-branch.union.items ≡ all = cc (w.union-is) in
          let known : old k ≡ true = was_known _ _ c.in_ok-insert.ensures.added w.if-branch.false in
          record {
            same = rw items (seen_known old new all k c.loop-number.invariant.same known puts);
            added = rw (items, more) (added_known all c.args.union.now.items front k ((c.loop-number.invariant.same k).0 known) c.loop-number.invariant.added);
          }
    ]

pub returns-clause-added : goal.returns-clause-added
returns-clause-added c =
    let whole : take c.loop-number.number-index c.args.numbers.now ≡ c.args.numbers.now = take_all c.loop-number.number-index c.args.numbers.now (omega arith) in
    rw whole at c.loop-number.invariant.added
