use Rattle.std.proofs.Common.{◌∷◌, List, Some, subst, sym}
use Rattle.logic_meaning.specs.Formula.{Equiv}
use Rattle.language_meaning.specs.Trees.{FormulaTree}
use Rattle.smt_language.specs.declared.expression.Operator.TheVariants.{Equal}
use Rattle.smt_language.specs.Shapes.{neighbours}
use Rattle.smt_language.specs.Operators.{of_formulas}
use Rattle.smt_language.specs.Meaning.{as_formula}
use Rattle.smt_resolver.specs.Values.{IsFormulaValue}
use Rattle.smt_resolver.specs.Readings.{IsFormulaFound}
use Rattle.smt_resolver.proofs.OperatorLaws.{two_or_more}
use Rattle.smt_resolver.proofs.operators.equal.Goals as goal

pub returns-clause-read : goal.returns-clause-read
returns-clause-read g c = λ d fs h.
    let P = g.M.Maker.is_id c.args.maker.now in let t = g.M.Maker.tree c.args.maker.now in
    let Q = g.M.Maker.is_id c.joined.new.maker in let u = g.M.Maker.tree c.joined.new.maker in
    let s = two_or_more (IsFormulaValue d c.args.limit P t) fs c.args.formulas.now c.first-item.result h c.in-len1-up.len_at_least c.if-formulas-eq1.false c.first-item.is in
    subst (λ (xs : List FormulaTree). IsFormulaFound d c.args.limit Q u (as_formula (of_formulas Equal xs)) (Some c.in_ok-value.value)) (sym s.is)
    (c.in_ok-value.ensures.read d (neighbours Equiv (s.one ∷ s.two ∷ s.more)) (c.in_ok-parts.ensures.read d s.one (s.two ∷ s.more) s.first s.others))
