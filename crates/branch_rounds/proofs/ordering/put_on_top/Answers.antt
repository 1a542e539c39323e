use Rattle.std.proofs.Common.{rules, ◌≡◌, ◌∷◌, [], ◌++◌, List, length, map, sym, ap, ◌∙◌, append_assoc}
use Rattle.std.proofs.lemmas.List.{append-nil}
use Rattle.nnf_trees.proofs.Pieces.{empty}
use Rattle.branch_rounds.specs.Branches.{Seen}
use Rattle.branch_rounds.specs.declared.ordering.Counted.{Counted}
use Rattle.branch_rounds.proofs.PutOn.{are_put_on}
use Rattle.branch_rounds.proofs.ordering.put_on_top.Goals as goal

pub loop-branch-preserved : goal.loop-branch-preserved
loop-branch-preserved c =
    let branch = λ (one : Counted). one.branch in
    let now : List Seen = c.loop-branch.open.items in
    let left : List Counted = c.next.new.self.rest.items in
    let split : c.loop-branch.branch-iterator.rest.items ≡ c.in-Some.field-0 ∷ left = search rules in
    record {
      can = tt;
      finite = tt;
      all = ap (λ (l : List Seen). l ++ map branch left) c.in_ok-push.ensures.items ∙ append_assoc now (c.in-Some.field-0.branch ∷ []) (map branch left)
          ∙ ap (λ (l : List Counted). now ++ map branch l) (sym split) ∙ c.loop-branch.invariant.all;
    }

pub returns : goal.returns
returns c =
    let branch = λ (one : Counted). one.branch in
    let old : List Seen = c.args.open.now.items in
    let now : List Seen = c.loop-branch.open.items in
    let none_left : length c.loop-branch.branch-iterator.rest.items ≡ 0 = search rules in
    let begins : c.into_iter-branch-iterator.result.rest.items ≡ c.sort_by_key.new.self.items = search rules in
    are_put_on branch old c.args.next.items now c.in_ok-counted.counted.items c.sort_by_key.new.self.items c.in_ok-counted.ensures c.in_ok-sort_by_key.ensures.permutation
    (sym (append-nil now) ∙ ap (λ (l : List Counted). now ++ map branch l) (sym (empty c.loop-branch.branch-iterator.rest.items none_left)) ∙ c.loop-branch.invariant.all ∙ ap (λ (l : List Counted). old ++ map branch l) begins)
