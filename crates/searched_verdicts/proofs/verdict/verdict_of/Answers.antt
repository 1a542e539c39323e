use Rattle.std.proofs.Common.{Option, IfSome, subst}
use Rattle.normal_atoms.specs.Atoms.{context_of}
use Rattle.formula_store.specs.Nodes.{tree}
use Rattle.formula_store.proofs.Makes.{keeps_then}
use Rattle.engine_answers.specs.declared.verdict.Verdict.{Verdict}
use Rattle.searched_verdicts.specs.Settled.{Settles}
use Rattle.searched_verdicts.proofs.verdict.verdict_of.Goals as goal

pub returns-in-Some-clause-verdict : goal.returns-in-Some-clause-verdict
returns-in-Some-clause-verdict g c =
    let f = tree c.args.store.now c.args.id in
    subst (λ (o : Option Verdict). IfSome o (Settles (context_of c.args.engine.now.context) c.args.count f)) c.in-Some.is c.in_ok-verdict.ensures.settles c.args.engine.now.limits.nodes

pub returns-in-None-clause-kept : goal.returns-in-None-clause-kept
returns-in-None-clause-kept g c = keeps_then c.args.store.now c.search_verdict.new.store c.decided.new.store c.search_verdict.ensures.kept c.decided.ensures.kept
