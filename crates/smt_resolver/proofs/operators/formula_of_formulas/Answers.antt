use Rattle.std.proofs.Common.{List, Some, subst, sym, arith}
use Rattle.language_meaning.specs.Trees.{FormulaTree}
use Rattle.smt_language.specs.declared.expression.Operator.{Operator}
use Rattle.smt_language.specs.declared.expression.Operator.TheVariants as operator
use Rattle.smt_language.specs.Operators.{of_formulas}
use Rattle.smt_language.specs.Meaning.{as_formula}
use Rattle.smt_resolver.specs.Values.{IsFormulaValue}
use Rattle.smt_resolver.specs.Readings.{IsFormulaFound}
use Rattle.smt_resolver.proofs.OperatorLaws.{one_only}
use Rattle.smt_resolver.proofs.operators.formula_of_formulas.Goals as goal

pub returns-in_ok-negated-in-Not-clause-read : goal.returns-in_ok-negated-in-Not-clause-read
returns-in_ok-negated-in-Not-clause-read g c = λ d fs h.
    let limit = c.args.setting.now.limit in
    let P = g.M.Maker.is_id c.args.maker.now in let t = g.M.Maker.tree c.args.maker.now in
    let Q = g.M.Maker.is_id c.negated.new.maker in let u = g.M.Maker.tree c.negated.new.maker in
    let a = c.in-len1.len_at_least in let b = c.in-len1.len_below in
    let s = one_only (IsFormulaValue d limit P t) fs c.args.formulas.now c.only-item.result h (omega arith) c.only-item.is in
    subst (λ (o : Operator). IsFormulaFound d limit Q u (as_formula (of_formulas o fs)) (Some c.in_ok-negated-in-Not.field-0)) (sym c.in-Not.is)
    (subst (λ (xs : List FormulaTree). IsFormulaFound d limit Q u (as_formula (of_formulas operator.Not xs)) (Some c.in_ok-negated-in-Not.field-0)) (sym s.1) (c.in_ok-negated-in-Not.ensures.read d s.0 s.2))
