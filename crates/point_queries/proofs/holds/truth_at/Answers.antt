use Rattle.std.proofs.Common.{ap, inl, refl, sym, ◌∙◌}
use Rattle.std.specs.Prelude.{unsigned_abs, Err}
use Rattle.written_syntax.specs.PointNumbers.{point_of}
use Rattle.language_meaning.specs.Resolving.{at_names}
use Rattle.formula_store.specs.Nodes.{tree}
use Rattle.point_queries.proofs.PointLemmas.{abs_is, tells_there, passes_there}
use Rattle.point_queries.proofs.holds.truth_at.Goals as goal

pub truth-requires-clause-whole : goal.truth-requires-clause-whole
truth-requires-clause-whole c = λ holds n e m. c.in_ok-values.ensures.below ∙ c.requires.whole holds n e m

pub returns-in-Ok-clause-truth : goal.returns-in-Ok-clause-truth
returns-in-Ok-clause-truth c =
    tells_there c.in_ok-values.values (at_names c.args.state.now.names (point_of c.args.point.now)) c.in_ok-values.ensures.at c.in-Ok.truth (tree c.args.state.now.store c.args.id)
    (ap unsigned_abs c.in_ok-values.ensures.below) c.in-Ok.ensures.truth

pub returns-in-Err-Overflow-clause-fault : goal.returns-in-Err-Overflow-clause-fault
returns-in-Err-Overflow-clause-fault c =
    inl (
      refl,
      passes_there c.in_ok-values.values (at_names c.args.state.now.names (point_of c.args.point.now)) c.in_ok-values.ensures.at (tree c.args.state.now.store c.args.id)
          (c.in_ok-values.ensures.below ∙ sym (abs_is c.args.point.now.denominator c.args.point.now.positive)) (c.in-Err-Overflow.ensures.overflow (ap Err c.in-Err-Overflow.field-0-is)),
    )
