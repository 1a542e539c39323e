use Rattle.std.proofs.Common.{◌≡◌, rules, subst, sym}
use Rattle.logic_meaning.specs.Every.{Every}
use Rattle.logic_meaning.specs.Shape.{IsQuantifierFree}
use Rattle.written_syntax.specs.declared.tree.Formula.{Formula}
use Rattle.written_syntax.specs.declared.tree.Formula.TheFolds.{the_lemmas}
use Rattle.written_syntax.specs.Proper.{IsProperFormula}
use Rattle.written_syntax.specs.Testable.{IsTestable}
use Rattle.written_syntax.specs.CodeTrees.{formula_tree}
use Rattle.language_meaning.specs.Value.{NamedPoint}
use Rattle.written_syntax.proofs.FormulaParts.{not_is, and_is, or_is, impl_is, repl_is, equiv_is}
use Rattle.written_syntax.proofs.truth.+truth.Goals as goal

-- what is asked of a formula, asked of the same one
same : (p : NamedPoint) (x y : Formula) → x ≡ y → IsProperFormula (formula_tree y) → IsQuantifierFree (formula_tree y) → Every (IsTestable p) (formula_tree y)
    → IsProperFormula (formula_tree x) × (IsQuantifierFree (formula_tree x) × Every (IsTestable p) (formula_tree x))
same p x y e proper free testable =
    subst (λ z. IsProperFormula (formula_tree z) × (IsQuantifierFree (formula_tree z) × Every (IsTestable p) (formula_tree z))) (sym e) (proper, (free, testable))

pub formula_truth-formula_truth-requires : goal.formula_truth-formula_truth-requires
formula_truth-formula_truth-requires t c =
    let e = not_is _ _ c.in-Not.is in
    (search (rules, the_lemmas), same _ _ _ c.deref-in-Not.ensures (subst IsProperFormula e c.requires.proper) (subst IsQuantifierFree e c.requires.free) (subst (Every (IsTestable _)) e c.requires.testable))

pub formula_truth-all_true-requires : goal.formula_truth-all_true-requires
formula_truth-all_true-requires t c =
    let e = and_is _ _ _ c.in-And.is c.deref-in-And.ensures.value in
    (search (rules, the_lemmas), ((subst IsProperFormula e c.requires.proper).1, (subst IsQuantifierFree e c.requires.free, subst (Every (IsTestable _)) e c.requires.testable)))

pub formula_truth-some_true-requires : goal.formula_truth-some_true-requires
formula_truth-some_true-requires t c =
    let e = or_is _ _ _ c.in-Or.is c.deref-in-Or.ensures.value in
    (search (rules, the_lemmas), ((subst IsProperFormula e c.requires.proper).1, (subst IsQuantifierFree e c.requires.free, subst (Every (IsTestable _)) e c.requires.testable)))

pub formula_truth-formula_truth-requires-in-Impl : goal.formula_truth-formula_truth-requires-in-Impl
formula_truth-formula_truth-requires-in-Impl t c =
    let e = impl_is _ _ _ c.in-Impl.is in
    (search (rules, the_lemmas), same _ _ _ c.deref-in-Impl.ensures (subst IsProperFormula e c.requires.proper).0 (subst IsQuantifierFree e c.requires.free).0 (subst (Every (IsTestable _)) e c.requires.testable).0)

pub formula_truth-formula_truth-requires-in-Impl-2 : goal.formula_truth-formula_truth-requires-in-Impl-2
formula_truth-formula_truth-requires-in-Impl-2 t c =
    let e = impl_is _ _ _ c.in-Impl.is in
    (search (rules, the_lemmas), same _ _ _ c.deref-in-Impl-2.ensures (subst IsProperFormula e c.requires.proper).1 (subst IsQuantifierFree e c.requires.free).1 (subst (Every (IsTestable _)) e c.requires.testable).1)

pub formula_truth-formula_truth-requires-in-Repl : goal.formula_truth-formula_truth-requires-in-Repl
formula_truth-formula_truth-requires-in-Repl t c =
    let e = repl_is _ _ _ c.in-Repl.is in
    (search (rules, the_lemmas), same _ _ _ c.deref-in-Repl.ensures (subst IsProperFormula e c.requires.proper).0 (subst IsQuantifierFree e c.requires.free).0 (subst (Every (IsTestable _)) e c.requires.testable).0)

pub formula_truth-formula_truth-requires-in-Repl-2 : goal.formula_truth-formula_truth-requires-in-Repl-2
formula_truth-formula_truth-requires-in-Repl-2 t c =
    let e = repl_is _ _ _ c.in-Repl.is in
    (search (rules, the_lemmas), same _ _ _ c.deref-in-Repl-2.ensures (subst IsProperFormula e c.requires.proper).1 (subst IsQuantifierFree e c.requires.free).1 (subst (Every (IsTestable _)) e c.requires.testable).1)

pub formula_truth-formula_truth-requires-in-Equiv : goal.formula_truth-formula_truth-requires-in-Equiv
formula_truth-formula_truth-requires-in-Equiv t c =
    let e = equiv_is _ _ _ c.in-Equiv.is in
    (search (rules, the_lemmas), same _ _ _ c.deref-in-Equiv.ensures (subst IsProperFormula e c.requires.proper).0 (subst IsQuantifierFree e c.requires.free).0 (subst (Every (IsTestable _)) e c.requires.testable).0)

pub formula_truth-formula_truth-requires-in-Equiv-2 : goal.formula_truth-formula_truth-requires-in-Equiv-2
formula_truth-formula_truth-requires-in-Equiv-2 t c =
    let e = equiv_is _ _ _ c.in-Equiv.is in
    (search (rules, the_lemmas), same _ _ _ c.deref-in-Equiv-2.ensures (subst IsProperFormula e c.requires.proper).1 (subst IsQuantifierFree e c.requires.free).1 (subst (Every (IsTestable _)) e c.requires.testable).1)
