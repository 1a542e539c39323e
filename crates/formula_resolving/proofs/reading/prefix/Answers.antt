use Rattle.std.proofs.Common.{List, subst, sym, ◌∙◌}
use Rattle.written_syntax.specs.CodeTrees.{formula_tree, named_tree}
use Rattle.written_syntax.proofs.Quantified.{unquantified, no_prefix}
use Rattle.formula_resolving.specs.declared.parts.Opening.{Opening}
use Rattle.formula_resolving.specs.Connectives.{Opens}
use Rattle.formula_resolving.proofs.Openings.{opens_ex, opens_all, under_ex, under_all}
use Rattle.formula_resolving.proofs.reading.prefix.Goals as goal

pub prefix-preserved-in-Ex : goal.prefix-preserved-in-Ex
prefix-preserved-in-Ex c =
    let under = under_ex c.prefix.inner.now c.in-Ex.name c.in-Ex.body c.deref-inner.result.now c.in-Ex.is c.deref-inner.ensures in record {
      opens = λ k. subst (λ (qs : List Opening). Opens c.args.names.now qs (named_tree k c.args.formula.now) (named_tree k c.deref-inner.result.now)) (sym c.in_ok-push-in-Ex.ensures.items)
          (opens_ex c.args.names.now k c.prefix.quantifiers.items c.place.result (named_tree k c.args.formula.now) c.prefix.inner.now c.in-Ex.name c.in-Ex.body c.deref-inner.result.now (c.prefix.invariant.opens k) c.in-Ex.is c.deref-inner.ensures c.place.ensures);
      matrix = under.0 ∙ c.prefix.invariant.matrix;
      inner = under.1 ∙ c.prefix.invariant.inner;
    }

pub prefix-preserved : goal.prefix-preserved
prefix-preserved c =
    let under = under_all c.prefix.inner.now c.in-All.name c.in-All.body c.deref-inner-in-All.result.now c.in-All.is c.deref-inner-in-All.ensures in record {
      opens = λ k. subst (λ (qs : List Opening). Opens c.args.names.now qs (named_tree k c.args.formula.now) (named_tree k c.deref-inner-in-All.result.now)) (sym c.in_ok-push-in-All.ensures.items)
          (opens_all c.args.names.now k c.prefix.quantifiers.items c.place-in-All.result (named_tree k c.args.formula.now) c.prefix.inner.now c.in-All.name c.in-All.body c.deref-inner-in-All.result.now (c.prefix.invariant.opens k) c.in-All.is c.deref-inner-in-All.ensures c.place-in-All.ensures);
      matrix = under.0 ∙ c.prefix.invariant.matrix;
      inner = under.1 ∙ c.prefix.invariant.inner;
    }

pub returns-in_default-clause-matrix : goal.returns-in_default-clause-matrix
returns-in_default-clause-matrix c = sym (no_prefix (formula_tree c.prefix.inner.now) (unquantified c.prefix.inner.now c.in_default.not-Ex c.in_default.not-All)).1 ∙ c.prefix.invariant.matrix
