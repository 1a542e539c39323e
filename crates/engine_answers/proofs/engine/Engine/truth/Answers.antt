use Rattle.std.proofs.Common.{◌↔◌, subst}
use Rattle.std.specs.Prelude.{IfOk, IfErr, IsTrue}
use Rattle.normal_atoms.specs.Atoms.{context_of}
use Rattle.logic_meaning.specs.Sample.{reference_at}
use Rattle.logic_meaning.specs.Tree.{Tree, TrueAt}
use Rattle.formula_store.proofs.Makes.{keeps_then}
use Rattle.linear_forms.specs.Values.{point_of}
use Rattle.reference_engine.specs.Told.{StopsWith}
use Rattle.engine_answers.proofs.engine.Engine.truth.Goals as goal

pub returns-in-Err-Overflow : goal.returns-in-Err-Overflow
returns-in-Err-Overflow g c =
    let o = context_of c.args.self.now.context in
    let p = point_of c.args.at.now in
    let same = c.told.ensures.kept.same c.args.id c.requires.id in
    record {
      truth = subst (λ (f : Tree). IfOk c.truth_by_elimination.result (λ b. IsTrue b ↔ TrueAt o f p)) same c.truth_by_elimination.ensures.truth;
      stops = subst (λ (f : Tree). IfErr c.truth_by_elimination.result (λ e. StopsWith e (reference_at o c.args.self.now.limits.nodes p f))) same c.truth_by_elimination.ensures.stops;
      kept = keeps_then c.args.store.now c.told.new.store c.truth_by_elimination.new.store c.told.ensures.kept c.truth_by_elimination.ensures.kept;
    }
