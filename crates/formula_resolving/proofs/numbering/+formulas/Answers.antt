use Rattle.std.proofs.Common.{ℕ, List, [], ◌∷◌, ◌||◌, subst, sym, arith, rules}
use Rattle.written_syntax.specs.CodeTrees.{formula_tree}
use Rattle.written_syntax.proofs.Quantified.{unquantified}
use Rattle.language_meaning.specs.Resolving.{formula_variables}
use Rattle.formula_resolving.specs.Numbering.{IsNumbered}
use Rattle.formula_resolving.proofs.Measures.{formula_below}
use Rattle.formula_resolving.proofs.Numbered.{Remains, numbered_then, remains_less, grows_then}
use Rattle.formula_resolving.proofs.PartLaws.{ok_map}
use Rattle.formula_resolving.proofs.Written.{compare_variables, congruence_variables, members_variables, members_nodes, pair_variables, quantified_variables, quantified_nodes}
use Rattle.formula_resolving.proofs.numbering.+formulas.Goals as goal

pub number_formula-prefix-preserved : goal.number_formula-prefix-preserved
number_formula-prefix-preserved g t c = record {
  remains = remains_less c.args.bound.now _ (c.in-Ex.name ∷ []) _ _ _ _ _ _
      (subst (λ (xs : List (List ℕ)). Remains c.args.bound.now (formula_variables (formula_tree c.args.formula.now)) xs c.args.names.now c.prefix.names c.prefix.met)
      (quantified_variables _ _ _ _ c.in-Ex.is c.deref-inner.ensures) c.prefix.invariant.remains)
      c.in_ok-met.ensures.numbered;
  grown = grows_then _ _ _ c.prefix.invariant.grown c.in_ok-met.ensures.grown;
  smaller = let k = quantified_nodes _ _ _ _ c.in-Ex.is c.deref-inner.ensures in let s = c.prefix.invariant.smaller in omega arith;
}

pub number_formula-number_matrix-requires : goal.number_formula-number_matrix-requires
number_formula-number_matrix-requires g t c = λ κs h. ((let k = c.prefix.invariant.smaller in omega arith), (search rules, unquantified _ c.in_default.not-Ex c.in_default.not-All))

pub number_formulas-number_formula-requires : goal.number_formulas-number_formula-requires
number_formulas-number_formula-requires g t c = λ κs h. ((let k = formula_below _ _ _ c.formula-item.is c.loop-formula-test.true in omega arith), search rules)

pub number_matrix-returns-in_ok-right-in-Compare-clause-numbered : goal.number_matrix-returns-in_ok-right-in-Compare-clause-numbered
number_matrix-returns-in_ok-right-in-Compare-clause-numbered g t c =
    subst (λ (xs : List (List ℕ)). IsNumbered c.args.bound.now xs c.args.names.now c.number_term-in-Compare.new.names (c.in_ok-left-in-Compare.left || c.in_ok-right-in-Compare.right))
    (sym (compare_variables _ _ _ _ _ _ c.in-Compare.is c.deref.ensures c.deref-in-Compare.ensures))
    (numbered_then c.args.bound.now _ _ _ _ _ _ _ c.in_ok-left-in-Compare.ensures.numbered c.in_ok-right-in-Compare.ensures.numbered)

pub number_matrix-returns-in_ok-right-in-Impl-clause-numbered : goal.number_matrix-returns-in_ok-right-in-Impl-clause-numbered
number_matrix-returns-in_ok-right-in-Impl-clause-numbered g t c =
    subst (λ (xs : List (List ℕ)). IsNumbered c.args.bound.now xs c.args.names.now c.number_formula-in-Impl-2.new.names (c.in_ok-left-in-Impl.left || c.in_ok-right-in-Impl.right))
    (sym (pair_variables _ _ _ _ _ c.in-Impl.is c.deref-in-Impl.ensures c.deref-in-Impl-2.ensures))
    (numbered_then c.args.bound.now _ _ _ _ _ _ _ c.in_ok-left-in-Impl.ensures.numbered c.in_ok-right-in-Impl.ensures.numbered)

pub number_matrix-returns-in_ok-modulus-in-Cong-clause-numbered : goal.number_matrix-returns-in_ok-modulus-in-Cong-clause-numbered
number_matrix-returns-in_ok-modulus-in-Cong-clause-numbered g t c =
    subst (λ (xs : List (List ℕ)). IsNumbered c.args.bound.now xs c.args.names.now c.number_term-in-Cong-3.new.names (c.in_ok-left-in-Cong.left || (c.in_ok-right-in-Cong.right || c.in_ok-modulus-in-Cong.modulus)))
    (sym (congruence_variables _ _ _ _ _ _ _ c.in-Cong.is c.deref-in-Cong.ensures c.deref-in-Cong-2.ensures c.deref-in-Cong-3.ensures))
    (numbered_then c.args.bound.now _ _ _ _ _ _ _ c.in_ok-left-in-Cong.ensures.numbered (numbered_then c.args.bound.now _ _ _ _ _ _ _ c.in_ok-right-in-Cong.ensures.numbered c.in_ok-modulus-in-Cong.ensures.numbered))

-- the members of a conjunction or a disjunction
pub number_matrix-number_formulas-requires : goal.number_matrix-number_formulas-requires
number_matrix-number_formulas-requires g t c = λ κs h. ((let k = members_nodes _ _ _ c.in-And.is c.items.ensures in omega arith), search rules)

pub number_matrix-returns-in-And-clause-numbered : goal.number_matrix-returns-in-And-clause-numbered
number_matrix-returns-in-And-clause-numbered g t c =
    ok_map c.number_formulas.result (λ met n. subst (λ (xs : List (List ℕ)). IsNumbered c.args.bound.now xs c.args.names.now c.number_formulas.new.names met) (sym (members_variables _ _ _ c.in-And.is c.items.ensures)) n) c.number_formulas.ensures.numbered
