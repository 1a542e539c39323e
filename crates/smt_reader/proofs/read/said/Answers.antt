use Rattle.std.proofs.Common.{ap, ◌∙◌, []}
use Rattle.std.proofs.lemmas.Result.{MatchResult-weaker}
use Rattle.smt_language.specs.SExprs.{Group, written}
use Rattle.smt_reader.specs.CodeTrees.{trees_of}
use Rattle.smt_language.specs.Faults.{kinds}
use Rattle.smt_reader.proofs.Readings.{refused_too}
use Rattle.smt_reader.proofs.Spelling.{no_command}
use Rattle.smt_reader.proofs.read.said.Goals as goal

pub returns-clause-refused : goal.returns-clause-refused
returns-clause-refused c =
    let written_so = ap (λ list. written (Group (trees_of list)) []) c.deref.ensures.value ∙ c.in_ok-parts.ensures.members in
    MatchResult-weaker c.command.result c.command.ensures.refused (λ x p. tt) (λ e r. refused_too e (no_command (kinds c.args.tokens.now) (trees_of c.deref.result.now) written_so) r)
