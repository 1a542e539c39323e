use Rattle.std.proofs.Common.{ap, sym, subst}
use Rattle.std.specs.Prelude.{unsigned_abs}
use Rattle.logic_meaning.specs.Every.{Every}
use Rattle.normal_atoms.specs.declared.atoms.Context.{Context}
use Rattle.normal_atoms.specs.Atoms.{context_of}
use Rattle.logic_meaning.specs.NormalForm.{IsNormal}
use Rattle.written_syntax.specs.PointNumbers.{point_of}
use Rattle.language_meaning.specs.Resolving.{at_names}
use Rattle.formula_store.specs.Nodes.{tree}
use Rattle.point_queries.proofs.PointLemmas.{same_point, point_there}
use Rattle.point_queries.proofs.TruthLemmas.{truth_there, truth_stopped}
use Rattle.point_queries.proofs.holds.eliminated_truth.Goals as goal

pub truth-requires-clause-normal : goal.truth-requires-clause-normal
truth-requires-clause-normal g c _ _ =
    subst (λ (x : Context). Every (IsNormal (context_of x)) (tree c.args.state.now.store c.args.id)) (sym c.engine-engine.ensures.context) c.requires.normal

pub truth-requires-clause-point : goal.truth-requires-clause-point
truth-requires-clause-point g c _ _ =
    let same = same_point c.in_ok-values.values (at_names c.args.state.now.names (point_of c.args.point.now)) c.in_ok-values.ensures.at (ap unsigned_abs c.in_ok-values.ensures.below) in
    point_there _ _ same c.args.state.now.context c.engine-engine.result.context c.engine-engine.ensures.context c.requires.theory

pub returns-in-Ok-clause-truth : goal.returns-in-Ok-clause-truth
returns-in-Ok-clause-truth g c =
    let same = same_point c.in_ok-values.values (at_names c.args.state.now.names (point_of c.args.point.now)) c.in_ok-values.ensures.at (ap unsigned_abs c.in_ok-values.ensures.below) in
    truth_there (tree c.args.state.now.store c.args.id) _ _ same c.args.state.now.context c.engine-engine.result.context c.engine-engine.ensures.context c.in-Ok.holds c.in-Ok.ensures.truth

pub returns-clause-fault : goal.returns-clause-fault
returns-clause-fault g c =
    let same = same_point c.in_ok-values.values (at_names c.args.state.now.names (point_of c.args.point.now)) c.in_ok-values.ensures.at (ap unsigned_abs c.in_ok-values.ensures.below) in
    truth_stopped (tree c.args.state.now.store c.args.id) _ _ same c.args.state.now.context c.engine-engine.result.context c.engine-engine.ensures.context
    c.args.workshop.now.limits c.engine-engine.result.limits c.engine-engine.ensures.limits c.in-Err.error c.in-Err.ensures.stops c.measured_refusal.result c.measured_refusal.ensures
