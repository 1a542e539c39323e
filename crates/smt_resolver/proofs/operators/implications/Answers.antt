use Rattle.std.proofs.Common.{◌∷◌, Some, subst, sym, ap, ◌∙◌}
use Rattle.std.specs.Prelude.{Option}
use Rattle.language_meaning.specs.Trees.{FormulaTree}
use Rattle.smt_language.specs.declared.expression.Operator.TheVariants.{Implies}
use Rattle.smt_language.specs.Operators.{of_formulas}
use Rattle.smt_language.specs.Meaning.{as_formula}
use Rattle.smt_resolver.specs.Values.{IsFormulaValue}
use Rattle.smt_resolver.specs.Readings.{IsFormulaFound}
use Rattle.smt_resolver.proofs.OperatorLaws.{last_one, implies_formula}
use Rattle.smt_resolver.proofs.operators.implications.Goals as goal

pub returns-clause-read : goal.returns-clause-read
returns-clause-read g c = λ d fs h.
    let P = g.M.Maker.is_id c.args.maker.now in let t = g.M.Maker.tree c.args.maker.now in
    let Q = g.M.Maker.is_id c.implied.new.maker in let u = g.M.Maker.tree c.implied.new.maker in
    let s = last_one (IsFormulaValue d c.args.limit P t) fs c.args.formulas.now c.conclusion-item.result h c.in-len1-up.len_at_least c.if-formulas-eq1.false c.conclusion-item.is in
    let v = c.in_ok-value.ensures.read d (s.head ∷ s.tail) s.last s.others (subst (IsFormulaValue d c.args.limit P t s.last) (sym c.same.ensures) s.final) in
    subst (λ (o : Option FormulaTree). IsFormulaFound d c.args.limit Q u o (Some c.in_ok-value.value)) (sym (ap (λ xs. as_formula (of_formulas Implies xs)) s.is ∙ implies_formula s.head s.tail s.last)) v
