use Rattle.std.proofs.Common.{◌≡◌, length, sym, ap, ◌∙◌}
use Rattle.logic_meaning.specs.Formula.{And, Or}
use Rattle.language_meaning.specs.Holes.{over}
use Rattle.written_syntax.specs.CodeTrees.{whole_formula}
use Rattle.written_syntax.proofs.TreeEquations.{whole-And, whole-Or}
use Rattle.redlog_reader.proofs.Lists.{many_conjuncts, many_disjuncts}
use Rattle.redlog_reader.proofs.ending.list_of.Goals as goal

pub returns-in-Conjunction : goal.returns-in-Conjunction
returns-in-Conjunction c =
    let one : length c.args.members.items ≡ 1 → c.len.result ≡ 1 = λ e. c.len.ensures ∙ c.args.members.ok.0 ∙ e in
    rw c.in-Conjunction.is (whole-And _ ∙ ap (over And) c.of.ensures ∙ sym (many_conjuncts whole_formula c.args.members.items (λ e. c.if-len-eq1.false (one e))))

pub returns-in-Disjunction : goal.returns-in-Disjunction
returns-in-Disjunction c =
    let one : length c.args.members.items ≡ 1 → c.len.result ≡ 1 = λ e. c.len.ensures ∙ c.args.members.ok.0 ∙ e in
    rw c.in-Disjunction.is (whole-Or _ ∙ ap (over Or) c.of-in-Disjunction.ensures ∙ sym (many_disjuncts whole_formula c.args.members.items (λ e. c.if-len-eq1.false (one e))))
