use Rattle.std.proofs.Common.{◌≡◌, ◌+◌, arith, ap, sym, ◌∙◌}
use Rattle.logic_meaning.specs.Replaced.{replaced, all_replaced}
use Rattle.logic_meaning.specs.Sizes.{nodes}
use Rattle.written_syntax.specs.CodeTrees.{formula_tree}
use Rattle.language_meaning.specs.Causes.{atom_in_place}
use Rattle.logic_meaning.specs.Quantified.{has_quantifier, some_quantifier}
use Rattle.formula_store.specs.Nodes.{tree}
use Rattle.formula_resolving.specs.BoundIds.{answered_trees}
use Rattle.formula_resolving.proofs.Measures.{formula_below}
use Rattle.free_names.proofs.Named.{pair_is, pair_nodes, pair_quantified, joint_is, joint_nodes, joint_quantified, next_count, next_quantified, here_quantified, end_named, end_count}
use Rattle.free_names.proofs.quantified.+quantified.Goals as goal

-- ---- in_formula

pub in_formula-in_formulas-requires : goal.in_formula-in_formulas-requires
in_formula-in_formulas-requires t c =
    let is = joint_is _ _ _ c.in-And.is c.items.ensures in
    ((let e : nodes (formula_tree c.args.formula.now) ≡ _ = ap nodes is.1.tree ∙ joint_nodes is.0 _ in omega arith), (c.requires.ids, (c.requires.answers, omega (arith, c.requires.room, is.1.count))))

pub in_formula-in_pair-requires : goal.in_formula-in_pair-requires
in_formula-in_pair-requires t c =
    let is = pair_is _ _ _ _ _ c.in-Impl.is c.deref-in-Impl.ensures c.deref-in-Impl-2.ensures in
    ((let e : nodes (formula_tree c.args.formula.now) ≡ _ = ap nodes is.1.tree ∙ pair_nodes is.0 _ _ in omega arith), (c.requires.ids, (c.requires.answers, omega (arith, c.requires.room, is.1.count))))

pub in_formula-returns-in-And-clause-found : goal.in_formula-returns-in-And-clause-found
in_formula-returns-in-And-clause-found t c =
    let is = joint_is _ _ _ c.in-And.is c.items.ensures in
    let by = atom_in_place (answered_trees (tree c.args.store.now) c.args.inner.now c.args.bound.now) in
    c.in_formulas.ensures.found ∙ sym (ap (λ f. has_quantifier (replaced by (λ x. 0) f)) (is.1.named c.args.taken.now) ∙ joint_quantified by (λ x. 0) is.0 _)

pub in_formula-returns-in-And-clause-taken : goal.in_formula-returns-in-And-clause-taken
in_formula-returns-in-And-clause-taken t c =
    let is = joint_is _ _ _ c.in-And.is c.items.ensures in
    λ e. c.in_formulas.ensures.taken e ∙ ap (λ n. c.args.taken.now + n) (sym is.1.count)

pub in_formula-returns-in-Impl-clause-found : goal.in_formula-returns-in-Impl-clause-found
in_formula-returns-in-Impl-clause-found t c =
    let is = pair_is _ _ _ _ _ c.in-Impl.is c.deref-in-Impl.ensures c.deref-in-Impl-2.ensures in
    let by = atom_in_place (answered_trees (tree c.args.store.now) c.args.inner.now c.args.bound.now) in
    c.in_pair.ensures.found ∙ sym (ap (λ f. has_quantifier (replaced by (λ x. 0) f)) (is.1.named c.args.taken.now) ∙ pair_quantified by (λ x. 0) is.0 _ _)

pub in_formula-returns-in-Impl-clause-taken : goal.in_formula-returns-in-Impl-clause-taken
in_formula-returns-in-Impl-clause-taken t c =
    let is = pair_is _ _ _ _ _ c.in-Impl.is c.deref-in-Impl.ensures c.deref-in-Impl-2.ensures in
    λ e. c.in_pair.ensures.taken e ∙ ap (λ n. c.args.taken.now + n) (sym is.1.count)

-- ---- in_formulas

pub in_formulas-in_formula-requires : goal.in_formulas-in_formula-requires
in_formulas-in_formula-requires t c = (
  (let k = formula_below _ _ _ c.formula-item.is c.loop-formula-test.true in omega arith),
  (c.requires.ids, (c.requires.answers, omega (arith, c.requires.room, c.loop-formula.invariant.taken, next_count c.args.formulas.now c.loop-formula.formula-index c.formula-item.result c.loop-formula-test.true c.formula-item.is))),
)

pub in_formulas-loop-formula-preserved : goal.in_formulas-loop-formula-preserved
in_formulas-loop-formula-preserved t c =
    let by = atom_in_place (answered_trees (tree c.args.store.now) c.args.inner.now c.args.bound.now) in
    let next = c.in_formula.ensures.taken c.if-in_formula.false in
    record {
      found = next_quantified c.args.formulas.now c.loop-formula.formula-index c.formula-item.result c.loop-formula-test.true c.formula-item.is by (λ x. 0) c.loop-formula.taken _ (sym c.in_formula.ensures.found ∙ c.if-in_formula.false) next
          ∙ c.loop-formula.invariant.found;
      taken = omega (arith, next, c.loop-formula.invariant.taken, next_count c.args.formulas.now c.loop-formula.formula-index c.formula-item.result c.loop-formula-test.true c.formula-item.is);
    }

pub in_formulas-returns-then-in_formula-clause-found : goal.in_formulas-returns-then-in_formula-clause-found
in_formulas-returns-then-in_formula-clause-found t c =
    let by = atom_in_place (answered_trees (tree c.args.store.now) c.args.inner.now c.args.bound.now) in
    sym (sym c.loop-formula.invariant.found ∙ here_quantified c.args.formulas.now c.loop-formula.formula-index c.formula-item.result c.loop-formula-test.true c.formula-item.is by (λ x. 0) c.loop-formula.taken (sym c.in_formula.ensures.found ∙ c.if-in_formula.true))

pub in_formulas-returns-clause-found : goal.in_formulas-returns-clause-found
in_formulas-returns-clause-found t c =
    let by = atom_in_place (answered_trees (tree c.args.store.now) c.args.inner.now c.args.bound.now) in
    sym (sym c.loop-formula.invariant.found ∙ ap (λ gs. some_quantifier (all_replaced by (λ x. 0) gs)) (end_named c.args.formulas.now c.loop-formula.formula-index c.loop-formula-test.false c.loop-formula.taken))

pub in_formulas-returns-clause-taken : goal.in_formulas-returns-clause-taken
in_formulas-returns-clause-taken t c = λ e. omega (arith, c.loop-formula.invariant.taken, end_count c.args.formulas.now c.loop-formula.formula-index c.loop-formula-test.false)
