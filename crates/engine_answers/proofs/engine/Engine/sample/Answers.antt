use Rattle.std.proofs.Common.{subst}
use Rattle.std.specs.Prelude.{IfOk, IfErr}
use Rattle.normal_atoms.specs.Atoms.{context_of}
use Rattle.logic_meaning.specs.Tree.{Tree}
use Rattle.formula_store.proofs.Makes.{keeps_then}
use Rattle.linear_forms.specs.Values.{point_of}
use Rattle.reference_engine.specs.Told.{StopsWith}
use Rattle.logic_meaning.specs.ReferenceSample.{reference_sample}
use Rattle.sample_reference.specs.TrueSample.{IsTrueSample}
use Rattle.sample_reference.specs.Seen.{sample_of}
use Rattle.engine_answers.proofs.engine.Engine.sample.Goals as goal

pub returns-in-Ok : goal.returns-in-Ok
returns-in-Ok g c =
    let o = context_of c.args.self.now.context in
    let p = point_of c.args.at.now in
    let same = c.cases.ensures.kept.same c.args.id c.requires.id in
    record {
      truth = subst (λ (f : Tree). IfOk c.sample_in.result (λ s. IsTrueSample o f p (sample_of s))) same c.sample_in.ensures.truth;
      stops = subst (λ (f : Tree). IfErr c.sample_in.result (λ e. StopsWith e (reference_sample o c.args.self.now.limits.nodes p f))) same c.sample_in.ensures.stops;
      kept = keeps_then c.args.store.now c.cases.new.store c.sample_in.new.store c.cases.ensures.kept c.sample_in.ensures.kept;
    }

pub returns-in-Err-Overflow : goal.returns-in-Err-Overflow
returns-in-Err-Overflow g c =
    let o = context_of c.args.self.now.context in
    let p = point_of c.args.at.now in
    let same = c.cases.ensures.kept.same c.args.id c.requires.id in
    record {
      truth = subst (λ (f : Tree). IfOk c.plain_sample.result (λ s. IsTrueSample o f p (sample_of s))) same c.plain_sample.ensures.truth;
      stops = subst (λ (f : Tree). IfErr c.plain_sample.result (λ e. StopsWith e (reference_sample o c.args.self.now.limits.nodes p f))) same c.plain_sample.ensures.stops;
      kept = keeps_then c.args.store.now c.cases.new.store c.plain_sample.new.store c.cases.ensures.kept c.plain_sample.ensures.kept;
    }
