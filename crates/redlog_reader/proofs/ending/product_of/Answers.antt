use Rattle.std.proofs.Common.{◌≡◌, length, sym, ap, ◌∙◌}
use Rattle.language_meaning.specs.Trees.{Product}
use Rattle.written_syntax.specs.CodeTrees.{term_tree}
use Rattle.written_syntax.proofs.TreeEquations.{tree-Product}
use Rattle.redlog_reader.proofs.Lists.{many_factors}
use Rattle.redlog_reader.proofs.ending.product_of.Goals as goal

pub returns-else-len-eq1 : goal.returns-else-len-eq1
returns-else-len-eq1 c =
    let one : length c.args.factors.items ≡ 1 → c.len.result ≡ 1 = λ e. c.len.ensures ∙ c.args.factors.ok.0 ∙ e in
    tree-Product _ ∙ ap Product c.of.ensures ∙ sym (many_factors term_tree c.args.factors.items (λ e. c.if-len-eq1.false (one e)))
