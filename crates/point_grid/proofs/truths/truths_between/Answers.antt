use Rattle.std.proofs.Common.{rules, sym, ap, ◌∙◌, arith, ℕ, List, Bool, subst, ◌+◌}
use Rattle.std.proofs.Math.IntN.{ℤ}
use Rattle.std.specs.Prelude.{IsErrOf}
use Rattle.formula_store.specs.Nodes.{tree}
use Rattle.formula_store.specs.Truths.{SomeAtomPasses}
use Rattle.formula_store.specs.declared.error.EvalStop.TheVariants.{Overflow}
use Rattle.linear_forms.specs.Values.{number_at}
use Rattle.qe_parallel.specs.Fanned.{AnswerAll}
use Rattle.qe_parallel.proofs.Runs.{more}
use Rattle.program_meaning.specs.Scales.{choice}
use Rattle.point_grid.specs.Truths.{Task, IsTruthAt}
use Rattle.point_grid.proofs.Choices.{chosen_again}
use Rattle.point_grid.proofs.Pieces.{AreAt, tells_at, passes_at}
use Rattle.point_grid.proofs.truths.truths_between.Goals as goal

pub returns-in_err-truth-clause-overflow : goal.returns-in_err-truth-clause-overflow
returns-in_err-truth-clause-overflow c =
    let v = c.put_point.new.values in
    let grid = c.args.grid.now in
    let a : AreAt grid c.loop-index.index v = record {
      numbers = c.in_ok-put_point.ensures.put ∙ c.loop-index.invariant.clear c.loop-index.index;
      denominator = c.in_ok-put_point.ensures.denominator ∙ c.loop-index.invariant.denominator;
    } in
    let h : IsErrOf c.from_residual-in_err-truth.result Overflow → SomeAtomPasses (tree c.args.store.now c.args.root) v = search rules in
    λ o. passes_at (tree c.args.store.now c.args.root) grid c.loop-index.index v (omega arith) a (h o)

pub loop-index-preserved : goal.loop-index-preserved
loop-index-preserved c =
    let v = c.put_point.new.values in
    let grid = c.args.grid.now in
    let i = c.loop-index.index in
    let a : AreAt grid i v = record {
      numbers = c.in_ok-put_point.ensures.put ∙ c.loop-index.invariant.clear i;
      denominator = c.in_ok-put_point.ensures.denominator ∙ c.loop-index.invariant.denominator;
    } in
    let t = tells_at (tree c.args.store.now c.args.root) grid i v c.in_ok-truth.truth a c.in_ok-truth.ensures.truth in
    let task : Task = record { nodes = c.args.store.now; root = c.args.root; grid = grid } in
    record {
      truths = subst (λ (bs : List Bool). AnswerAll (IsTruthAt task) c.args.from (i + 1) bs) (sym c.in_default.ensures.items) (more (IsTruthAt task) c.args.from i c.loop-index.truths.items c.in_ok-truth.truth c.loop-index.invariant.truths t);
      clear = λ n. ap (λ (p : ℕ → ℤ). choice p grid.scales n) c.in_ok-put_point.ensures.put ∙ chosen_again grid.scales i n (number_at c.loop-index.values) ∙ c.loop-index.invariant.clear n;
      denominator = a.denominator;
    }

pub truth-requires-clause-whole : goal.truth-requires-clause-whole
truth-requires-clause-whole c = λ holds n e m. c.in_ok-put_point.ensures.denominator ∙ c.loop-index.invariant.denominator ∙ c.requires.whole holds n e m
