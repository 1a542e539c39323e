use Rattle.std.proofs.Common.{map, subst}
use Rattle.std.specs.Prelude.{IfOk, IfErr}
use Rattle.normal_atoms.specs.Atoms.{context_of, atom_of}
use Rattle.logic_meaning.specs.Reference.{reference}
use Rattle.logic_meaning.specs.Tree.{Tree}
use Rattle.formula_store.proofs.Makes.{keeps_then}
use Rattle.reference_engine.specs.Told.{StopsWith}
use Rattle.engine_answers.specs.CaseTrees.{IsCaseTreeOf}
use Rattle.engine_answers.proofs.Stops.{no_limit}
use Rattle.engine_answers.proofs.eliminating.eliminate.Goals as goal

pub returns-in-Overflow : goal.returns-in-Overflow
returns-in-Overflow g c =
    let o = context_of c.args.context in
    let same = c.by_branches.ensures.kept.same c.args.id c.requires.id in
    record {
      cases = subst (λ (f : Tree). IfOk c.by_reference.result (IsCaseTreeOf o (map atom_of c.args.theory.now) f c.by_reference.new.store)) same c.by_reference.ensures.cases;
      direct = λ x fs s e d. absurd (no_limit c.in-Err.error c.in-Overflow.is (c.in-Err.ensures.direct x fs s e d));
      stops = subst (λ (f : Tree). IfErr c.by_reference.result (λ e. StopsWith e (reference o c.args.limits.nodes f))) same c.by_reference.ensures.stops;
      kept = keeps_then c.args.store.now c.by_branches.new.store c.by_reference.new.store c.by_branches.ensures.kept c.by_reference.ensures.kept;
    }
