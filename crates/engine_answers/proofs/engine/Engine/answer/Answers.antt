use Rattle.std.proofs.Common.{map, subst}
use Rattle.normal_atoms.specs.Atoms.{context_of, atom_of}
use Rattle.logic_meaning.specs.Reference.{reference}
use Rattle.logic_meaning.specs.Tree.{Tree}
use Rattle.formula_store.proofs.Makes.{keeps_then}
use Rattle.reference_engine.specs.Told.{StopsWith}
use Rattle.engine_answers.specs.CaseTrees.{IsCaseTreeOf}
use Rattle.engine_answers.proofs.Stops.{no_limit}
use Rattle.engine_answers.proofs.engine.Engine.answer.Goals as goal

pub returns-in-Ok-by_reference : goal.returns-in-Ok-by_reference
returns-in-Ok-by_reference g c =
    let o = context_of c.args.self.now.context in
    record {
      found = subst (λ (f : Tree). IsCaseTreeOf o (map atom_of c.args.atoms.now) f c.by_reference.new.store c.in-Ok-by_reference.cases) (c.answer.ensures.kept.same c.args.id c.requires.id) c.in-Ok-by_reference.ensures.cases;
      direct = λ x fs s e d. absurd (no_limit c.in-Err.error c.in-Overflow.is (c.in-Err.ensures.direct x fs s e d));
      stops = tt;
      kept = keeps_then c.args.store.now c.answer.new.store c.by_reference.new.store c.answer.ensures.kept c.by_reference.ensures.kept;
    }

pub returns-in-Err-by_reference : goal.returns-in-Err-by_reference
returns-in-Err-by_reference g c =
    let o = context_of c.args.self.now.context in
    record {
      found = tt;
      direct = λ x fs s e d. absurd (no_limit c.in-Err.error c.in-Overflow.is (c.in-Err.ensures.direct x fs s e d));
      stops = subst (λ (f : Tree). StopsWith c.in-Err-by_reference.error (reference o c.args.self.now.limits.nodes f)) (c.answer.ensures.kept.same c.args.id c.requires.id) c.in-Err-by_reference.ensures.stops;
      kept = keeps_then c.args.store.now c.answer.new.store c.by_reference.new.store c.answer.ensures.kept c.by_reference.ensures.kept;
    }
