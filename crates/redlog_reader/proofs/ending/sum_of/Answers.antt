use Rattle.std.proofs.Common.{◌≡◌, length, sym, ap, ◌∙◌}
use Rattle.language_meaning.specs.Trees.{Sum}
use Rattle.written_syntax.specs.CodeTrees.{term_tree}
use Rattle.written_syntax.proofs.TreeEquations.{tree-Sum}
use Rattle.redlog_reader.proofs.Lists.{many_members}
use Rattle.redlog_reader.proofs.ending.sum_of.Goals as goal

pub returns-else-len-eq1 : goal.returns-else-len-eq1
returns-else-len-eq1 c =
    let one : length c.args.members.items ≡ 1 → c.len.result ≡ 1 = λ e. c.len.ensures ∙ c.args.members.ok.0 ∙ e in
    tree-Sum _ ∙ ap Sum c.of.ensures ∙ sym (many_members term_tree c.args.members.items (λ e. c.if-len-eq1.false (one e)))
