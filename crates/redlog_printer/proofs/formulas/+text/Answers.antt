use Rattle.std.proofs.Common.{rules, ◌-◌, ◌<◌, ◌+◌, ◌++◌, List, length, take, drop, refl}
use Rattle.std.proofs.lemmas.Option.{slice_get_read}
use Rattle.formula_tree.specs.declared.tree.Tree.{Tree}
use Rattle.formula_tree.specs.Trees.{tree_of, trees_of}
use Rattle.logic_meaning.specs.Text.{in_parentheses, is_compound, tree_text, members_text}
use Rattle.logic_meaning.specs.Writing.{text_limit}
use Rattle.redlog_printer.proofs.Written.{members_long}
use Rattle.redlog_printer.proofs.formulas.+text.Goals as goal

pub put_members-returns-in_err-put_member-clause-long : goal.put_members-returns-in_err-put_member-clause-long
put_members-returns-in_err-put_member-clause-long t c h =
    let others : List Tree = take (length c.items.result.now - 1) (drop 1 c.items.result.now) in
    let member = tree_of c.tree-item.result in
    let long : text_limit < length c.loop-tree.out + length (c.args.word.now ++ in_parentheses (is_compound member) (tree_text c.args.names.now member)) = search rules in
    members_long c.args.names.now c.args.word.now others c.loop-tree.tree-index c.tree-item.result c.args.out.now (members_text c.args.names.now c.args.word.now (trees_of c.args.trees.now)) c.loop-tree.out text_limit
    (slice_get_read others (length others) c.loop-tree.tree-index c.tree-item.result refl c.loop-tree-test.true c.tree-item.is) c.loop-tree.invariant.left long
