use Rattle.std.proofs.Common.{sym, ◌∙◌}
use Rattle.std.proofs.lemmas.Result.{IfOk-weaker, MatchResult-weaker}
use Rattle.smt_reader.specs.CodeTrees.{trees_of}
use Rattle.smt_language.specs.Faults.{kinds}
use Rattle.smt_reader.proofs.Grouped.{written_as}
use Rattle.smt_reader.proofs.Opened.{kinds_first}
use Rattle.smt_reader.proofs.Readings.{refused_too}
use Rattle.smt_reader.proofs.Spelling.{no_group}
use Rattle.smt_reader.proofs.grouping.members.Goals as goal

pub returns-in-Open-clause-members : goal.returns-in-Open-clause-members
returns-in-Open-clause-members c =
    let all = kinds_first c.args.tokens.now c.in-Some.rest.now c.in-Some.first.now c.in-Some.ensures.cases.0 c.in-Open.is in
    IfOk-weaker c.grouped.result _ _ (λ list e. written_as (kinds c.in-Some.rest.now) (trees_of list.items) e ∙ sym all) c.grouped.ensures.members

pub returns-in-Open-clause-refused : goal.returns-in-Open-clause-refused
returns-in-Open-clause-refused c =
    let all = kinds_first c.args.tokens.now c.in-Some.rest.now c.in-Some.first.now c.in-Some.ensures.cases.0 c.in-Open.is in
    MatchResult-weaker c.grouped.result c.grouped.ensures.refused (λ x p. tt) (λ e r. refused_too e (λ none ss w. no_group (kinds c.in-Some.rest.now) none ss (w ∙ all)) r)
