use Rattle.std.proofs.Common.{refl, sym, ◌∙◌}
use Rattle.elimination_theory.proofs.Branches.{true_is_not_false}
use Rattle.formula_store.specs.declared.id.FormulaId.{FormulaId}
use Rattle.formula_store.specs.Nodes.{tree, IsId}
use Rattle.engine_answers.specs.Equations.{IsEquation}
use Rattle.engine_answers.proofs.Equated.{all_further, some_further, some_there}
use Rattle.engine_answers.proofs.answer.some_equation.Goals as goal

pub returns-then-is_equation : goal.returns-then-is_equation
returns-then-is_equation c =
    let there = some_there (λ (id : FormulaId). IsEquation (tree c.args.store.now id)) c.args.ids.now c.loop-id.id-index (record { number = 0 }) c.loop-id-test.true (c.is_equation.ensures.0 c.if-is_equation.true) in
    (λ t. there, λ s. refl)

pub loop-id-preserved : goal.loop-id-preserved
loop-id-preserved c =
    let nodes = c.args.store.now in
    let ids = c.args.ids.now in
    let i = c.loop-id.id-index in
    record {
      ids = all_further (IsId nodes) ids i c.loop-id.invariant.ids;
      later = λ s. some_further (λ (id : FormulaId). IsEquation (tree nodes id)) ids i (record { number = 0 }) c.loop-id-test.true (λ e. true_is_not_false (sym (c.is_equation.ensures.1 e) ∙ c.if-is_equation.false)) (c.loop-id.invariant.later s);
    }
