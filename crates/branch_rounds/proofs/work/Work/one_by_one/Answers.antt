use Rattle.std.proofs.Common.{rules, ◌≡◌, List, [], ◌∷◌, ◌++◌, length, sym, subst, refl}
use Rattle.std.specs.Prelude.{IsTrue}
use Rattle.logic_meaning.specs.Some.{EachOf}
use Rattle.elimination_theory.proofs.SomeListed.{each_append}
use Rattle.formula_store.proofs.Makes.{keeps_then}
use Rattle.formula_store.specs.Nodes.{tree, IsId}
use Rattle.nnf_trees.proofs.Pieces.{empty}
use Rattle.branch_rounds.specs.Branches.{Seen, IsOpen, numbers}
use Rattle.branch_rounds.specs.Rounds.{IsSettled}
use Rattle.branch_rounds.proofs.EachRound.{begun_pending}
use Rattle.branch_rounds.proofs.Onward.{AreOnward, taken_open, it_ended, turned, alone, turn_ids}
use Rattle.branch_rounds.proofs.work.Work.one_by_one.Goals as goal

pub loop-branch-init : goal.loop-branch-init
loop-branch-init g c =
    let w = c.args.self.now in
    let nodes = c.args.store.now in
    let matrix = tree nodes c.args.matrix in
    let block = numbers c.args.block.now in
    let first : Seen = record { formula = c.args.matrix; points = []; left = c.args.block.now } in
    let all : c.in_ok-open.open.items ++ c.new-ended.result.items ≡ first ∷ [] = λ i. c.in_ok-open.ensures i ++ c.new-ended.ensures.items i in
    record {
      kept = record { is = λ id h. h; same = λ id h. refl };
      onward = subst (λ (l : List Seen). AreOnward w matrix block nodes l c.new-past.result) (sym all) (subst (AreOnward w matrix block nodes (first ∷ [])) (sym c.new-past.ensures) (record {
        are_open = (record { is = c.requires.id; tidy = c.requires.tidy; points = tt; once = c.requires.once }, tt);
        pending = begun_pending w nodes c.args.matrix c.args.block.now c.requires.tidy c.requires.lack c.requires.once;
        before = tt;
      }));
      ended = subst (EachOf (λ (b : Seen). b.left ≡ [])) (sym c.new-ended.ensures.items) tt;
    }

pub loop-branch-preserved-then-is_empty : goal.loop-branch-preserved-then-is_empty
loop-branch-preserved-then-is_empty g c =
    let w = c.args.self.now in
    let nodes = c.loop-branch.store in
    let matrix = tree c.args.store.now c.args.matrix in
    let block = numbers c.args.block.now in
    let front : List Seen = c.pop.new.self.items in
    let b = c.in-Some.branch in
    let ended : List Seen = c.loop-branch.ended.items in
    let past = c.loop-branch.past in
    let so_far = c.loop-branch.invariant in
    let none_left : length b.left ≡ 0 = search rules in
    let onward = subst (λ (l : List Seen). AreOnward w matrix block nodes (l ++ ended) past) c.in-Some.ensures.items so_far.onward in
    record {
      kept = so_far.kept;
      onward = subst (λ (l : List Seen). AreOnward w matrix block nodes (front ++ l) past) (sym c.in-Ok.ensures.items) (it_ended w matrix block front b ended past nodes onward);
      ended = subst (EachOf (λ (d : Seen). d.left ≡ [])) (sym c.in-Ok.ensures.items) (each_append (λ (d : Seen). d.left ≡ []) ended (b ∷ []) so_far.ended (empty b.left none_left, tt));
    }

pub next_of-requires-clause-are_open : goal.next_of-requires-clause-are_open
next_of-requires-clause-are_open g c κs within =
    let w = c.args.self.now in
    let nodes = c.loop-branch.store in
    let ended : List Seen = c.loop-branch.ended.items in
    taken_open w (tree c.args.store.now c.args.matrix) (numbers c.args.block.now) c.pop.new.self.items c.in-Some.branch ended c.loop-branch.past nodes (subst (λ (l : List Seen). EachOf (IsOpen w nodes) (l ++ ended)) c.in-Some.ensures.items c.loop-branch.invariant.onward.are_open)

pub returns-in-Err-clause-kept : goal.returns-in-Err-clause-kept
returns-in-Err-clause-kept g c = keeps_then c.args.store.now c.loop-branch.store c.next_of.new.store c.loop-branch.invariant.kept c.in-Err.ensures.kept

pub returns-in_err-put_on_top-clause-kept : goal.returns-in_err-put_on_top-clause-kept
returns-in_err-put_on_top-clause-kept g c = keeps_then c.args.store.now c.loop-branch.store c.next_of.new.store c.loop-branch.invariant.kept c.in-Ok-next_of.ensures.kept

pub settles-requires : goal.settles-requires
settles-requires g c =
    let new = c.next_of.new.store in
    subst (EachOf (λ (d : Seen). IsId new d.formula)) (sym c.deref.ensures.value)
    (turn_ids c.args.self.now c.loop-branch.store new c.loop-branch.past c.next_of.new.past c.in-Some.branch c.in-Ok-next_of.next.items c.in-Ok-next_of.ensures.turn)

pub put_on_top-requires : goal.put_on_top-requires
put_on_top-requires g c = turn_ids c.args.self.now c.loop-branch.store c.next_of.new.store c.loop-branch.past c.next_of.new.past c.in-Some.branch c.in-Ok-next_of.next.items c.in-Ok-next_of.ensures.turn

pub loop-branch-preserved-then-settles : goal.loop-branch-preserved-then-settles
loop-branch-preserved-then-settles g c =
    let w = c.args.self.now in
    let old = c.loop-branch.store in
    let new = c.next_of.new.store in
    let matrix = tree c.args.store.now c.args.matrix in
    let block = numbers c.args.block.now in
    let front : List Seen = c.pop.new.self.items in
    let b = c.in-Some.branch in
    let ended : List Seen = c.loop-branch.ended.items in
    let past = c.loop-branch.past in
    let next : List Seen = c.in-Ok-next_of.next.items in
    let so_far = c.loop-branch.invariant in
    let turn = c.in-Ok-next_of.ensures in
    let onward = subst (λ (l : List Seen). AreOnward w matrix block old (l ++ ended) past) c.in-Some.ensures.items so_far.onward in
    let yes : IsTrue c.settles.result = search rules in
    let settled : IsSettled new next = subst (IsSettled new) c.deref.ensures.value (c.settles.ensures yes) in
    record {
      kept = keeps_then c.args.store.now old new so_far.kept turn.kept;
      onward = subst (λ (l : List Seen). AreOnward w matrix block new (next ++ l) c.new-past-then-settles.result) (sym c.new-ended-then-settles.ensures.items)
          (subst (AreOnward w matrix block new (next ++ [])) (sym c.new-past-then-settles.ensures) (alone w matrix block front b ended past old new turn.kept next c.next_of.new.past turn.turn onward settled));
      ended = subst (EachOf (λ (d : Seen). d.left ≡ [])) (sym c.new-ended-then-settles.ensures.items) tt;
    }

pub loop-branch-preserved : goal.loop-branch-preserved
loop-branch-preserved g c =
    let w = c.args.self.now in
    let old = c.loop-branch.store in
    let new = c.next_of.new.store in
    let matrix = tree c.args.store.now c.args.matrix in
    let block = numbers c.args.block.now in
    let front : List Seen = c.pop.new.self.items in
    let b = c.in-Some.branch in
    let ended : List Seen = c.loop-branch.ended.items in
    let past = c.loop-branch.past in
    let so_far = c.loop-branch.invariant in
    let turn = c.in-Ok-next_of.ensures in
    let onward = subst (λ (l : List Seen). AreOnward w matrix block old (l ++ ended) past) c.in-Some.ensures.items so_far.onward in
    record {
      kept = keeps_then c.args.store.now old new so_far.kept turn.kept;
      onward = turned w matrix block front b ended past old new turn.kept c.in-Ok-next_of.next.items c.next_of.new.past turn.turn onward c.put_on_top.new.open.items c.in_ok-put_on_top.ensures;
      ended = so_far.ended;
    }
