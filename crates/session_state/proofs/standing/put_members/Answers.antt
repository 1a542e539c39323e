use Rattle.std.proofs.Common.{rules, ◌≡◌, ◌<◌, ◌+◌, ◌++◌, [], map, List, length, drop, refl, subst}
use Rattle.std.proofs.lemmas.Option.{slice_get_read}
use Rattle.logic_meaning.specs.Text.{tree_text}
use Rattle.logic_meaning.specs.Writing.{text_limit}
use Rattle.redlog_printer.proofs.Written.{drop_at}
use Rattle.logic_meaning.specs.AnswerTexts.{separated}
use Rattle.redlog_printer.proofs.Separating.{next_long}
use Rattle.session_state.specs.declared.assumption.Assumption.{Assumption}
use Rattle.session_state.specs.Trees.{assumption_tree, standing_trees}
use Rattle.session_state.proofs.standing.put_members.Goals as goal

pub returns-in_err-put_assumption-clause-long : goal.returns-in_err-put_assumption-clause-long
returns-in_err-put_assumption-clause-long c h =
    let names = c.args.names.now in
    let members : List Assumption = c.args.members.now in
    let item = c.assumption-item.result in
    let i = c.loop-assumption.assumption-index in
    let before = c.loop-assumption.before.now in
    let long : text_limit < length c.loop-assumption.out + length (before ++ tree_text names (assumption_tree item)) = search rules in
    next_long before (tree_text names (assumption_tree item)) (map (tree_text names) (standing_trees (drop (i + 1) members)))
    c.args.out.now (separated [] (map (tree_text names) (standing_trees members))) c.loop-assumption.out text_limit
    (subst (λ (ts : List Assumption). c.loop-assumption.out ++ separated before (map (tree_text names) (standing_trees ts)) ≡ c.args.out.now ++ separated [] (map (tree_text names) (standing_trees members)))
    (drop_at members i item (slice_get_read members (length members) i item refl c.loop-assumption-test.true c.assumption-item.is)) c.loop-assumption.invariant.left)
    long
