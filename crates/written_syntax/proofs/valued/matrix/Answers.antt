use Rattle.std.proofs.Common.{◌∙◌, ap, sym, rules}
use Rattle.written_syntax.specs.declared.tree.Formula.TheFolds.{the_lemmas}
use Rattle.written_syntax.specs.CodeTrees.{formula_tree}
use Rattle.written_syntax.specs.Valued.{matrix_of}
use Rattle.written_syntax.proofs.Quantified.{unquantified, no_prefix, after_quantifier}
use Rattle.written_syntax.proofs.valued.matrix.Goals as goal

pub prefix-preserved : goal.prefix-preserved
prefix-preserved c = record {
  matrix = ap (λ f. matrix_of (formula_tree f)) c.deref-inner.ensures ∙ sym (after_quantifier _ _ c.in-Ex.is).2 ∙ c.prefix.invariant.matrix;
  no_deeper = search (rules, the_lemmas);
}

pub returns-clause-matrix : goal.returns-clause-matrix
returns-clause-matrix c =
    sym (no_prefix _ (unquantified _ c.in_default.not-Ex c.in_default.not-All)).1 ∙ c.prefix.invariant.matrix
