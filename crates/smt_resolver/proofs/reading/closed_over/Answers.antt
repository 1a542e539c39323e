use Rattle.std.proofs.Common.{Some, subst, sym, ap, ◌∙◌}
use Rattle.std.specs.Prelude.{option_map}
use Rattle.smt_language.specs.Levels.{closed}
use Rattle.smt_language.specs.Operators.{Formula}
use Rattle.smt_language.specs.Meaning.{as_formula}
use Rattle.smt_resolver.specs.declared.value.Value.TheVariants as value
use Rattle.smt_resolver.specs.Values.{IsFormulaValue, HasId}
use Rattle.smt_resolver.specs.Readings.{IsMeant, HasValueId}
use Rattle.smt_resolver.proofs.ReadingLaws.{formula_read}
use Rattle.smt_resolver.proofs.reading.closed_over.Goals as goal

pub closed-requires-clause-id : goal.closed-requires-clause-id
closed-requires-clause-id g c =
    subst (HasId (g.M.Maker.is_id c.args.maker.now)) (sym c.same.ensures) (subst (HasValueId (g.M.Maker.is_id c.args.maker.now)) c.in-Formula.is (c.requires.id c.in-Some.value c.in-Some.is))

pub returns-clause-read : goal.returns-clause-read
returns-clause-read g c = λ d o h.
    let P = g.M.Maker.is_id c.args.maker.now in let t = g.M.Maker.tree c.args.maker.now in
    let Q = g.M.Maker.is_id c.closed.new.maker in let u = g.M.Maker.tree c.closed.new.maker in
    let v = formula_read d c.args.limit P t o c.in-Formula.formula (subst (IsMeant d c.args.limit P t o) (c.in-Some.is ∙ ap Some c.in-Formula.is) h) in
    subst (λ m. IsMeant d c.args.limit Q u (option_map (λ f. Formula (closed c.args.quantifier c.args.level c.args.names.now f)) (as_formula m)) (Some (value.Formula c.in_ok-value.value))) (sym v.1)
    (c.in_ok-value.ensures.read d v.0 (subst (IsFormulaValue d c.args.limit P t v.0) (sym c.same.ensures) v.2))
