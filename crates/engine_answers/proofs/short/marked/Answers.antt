use Rattle.std.proofs.Common.{rules, ◌≡◌, ◌++◌, length, List, ap, sym, ◌∙◌}
use Rattle.std.proofs.lemmas.List.{append-nil}
use Rattle.nnf_trees.proofs.Pieces.{empty}
use Rattle.branch_pruning.specs.FromAtomPruning.{marked as marked_of}
use Rattle.engine_answers.specs.declared.case_tree.Case.{Case}
use Rattle.branch_rounds.proofs.Thinned.{marked_none}
use Rattle.engine_answers.proofs.short.marked.Goals as goal

pub returns : goal.returns
returns c =
    let kept = c.loop-case.kept.items in
    let marks = c.loop-case.marks.rest.now in
    let rest : List Case = c.loop-case.case-iterator.rest.items in
    let none_left : length rest ≡ 0 = search rules in
    sym (append-nil kept) ∙ ap (λ (l : List Case). kept ++ l) (sym (marked_none marks)) ∙ ap (λ (l : List Case). kept ++ marked_of marks l) (sym (empty rest none_left)) ∙ c.loop-case.invariant
