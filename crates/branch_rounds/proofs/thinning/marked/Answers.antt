use Rattle.std.proofs.Common.{rules, ◌≡◌, ◌++◌, length, List, ap, sym, ◌∙◌}
use Rattle.std.proofs.lemmas.List.{append-nil}
use Rattle.nnf_trees.proofs.Pieces.{empty}
use Rattle.branch_pruning.specs.FromAtomPruning.{marked as marked_of}
use Rattle.branch_rounds.specs.Branches.{Seen}
use Rattle.branch_rounds.proofs.Thinned.{marked_none}
use Rattle.branch_rounds.proofs.thinning.marked.Goals as goal

pub returns : goal.returns
returns c =
    let kept = c.loop-branch.kept.items in
    let marks = c.loop-branch.marks.rest.now in
    let rest : List Seen = c.loop-branch.branch-iterator.rest.items in
    let none_left : length rest ≡ 0 = search rules in
    sym (append-nil kept) ∙ ap (λ (l : List Seen). kept ++ l) (sym (marked_none marks)) ∙ ap (λ (l : List Seen). kept ++ marked_of marks l) (sym (empty rest none_left)) ∙ c.loop-branch.invariant
