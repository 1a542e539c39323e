-- The parts of a problem, as they are made.
use Rattle.std.proofs.Common.{◌≡◌, ℕ, ◌<◌, List, [], ◌∷◌, ◌++◌, true, length, map, ap, arith}
use Rattle.std.specs.List.{AllByRecursion, fold}
use Rattle.std.proofs.lemmas.List.Sums.{fold-append}
use Rattle.logic_meaning.specs.Formula.{And, One, none, also}
use Rattle.written_syntax.specs.declared.tree.Formula.{Formula}
use Rattle.language_meaning.specs.declared.tree.Literal.TheVariants.{Past}
use Rattle.language_meaning.specs.declared.tree.Relation.TheVariants.{Equal}
use Rattle.language_meaning.specs.Trees.{TermTree, FormulaTree, FormulaTrees, Number, Named, Compare, formulas_of}
use Rattle.written_syntax.specs.CodeTrees.{formula_tree}
use Rattle.written_syntax.specs.Proper.{IsProperFormula, AreProperFormulas}
use Rattle.written_syntax.proofs.WritableLemmas.{writable_term, writable_formulas}
use Rattle.logic_meaning.specs.declared.quantifier.Quantifier.TheVariants.{Exists}
use Rattle.language_meaning.specs.QuantifiedNames.{quantified_names}
use Rattle.written_syntax.specs.Writable.{IsWritableTerm, AreWritableFormulas}
use Rattle.language_meaning.specs.Constraints.{is_weak_constraint}
use Rattle.written_syntax.specs.ConstraintLists.{AreWeakConstraints}
use Rattle.logic_meaning.specs.Names.{with_name}
use Rattle.language_meaning.specs.Resolving.{variables_of, all_variables}
use Rattle.program_meaning.specs.Targets.{target_name, together, problem_names, problem_of}
use Rattle.session_state.proofs.VariableLemmas.{AllVariables, both, variables_of_formula, variables_of_all, all_put_in}

-- several members are a conjunction
pub conjoined : (f : FormulaTree) (fs : List FormulaTree) (members : List Formula) → 1 < length members → map formula_tree members ≡ f ∷ fs → And (formulas_of (map formula_tree members)) ≡ together f (formulas_of fs)
conjoined f fs [] l e = absurd (omega arith)
conjoined f fs (m ∷ []) l e = absurd (omega arith)
conjoined f [] (m ∷ n ∷ ms) l e = absurd (cc)
conjoined f (g ∷ gs) (m ∷ n ∷ ms) l e = ap (λ xs. And (formulas_of xs)) e

pub weak_items : (fs : List Formula) → AreWeakConstraints (formulas_of (map formula_tree fs)) → AllByRecursion (λ f. is_weak_constraint (formula_tree f) ≡ true) fs
weak_items [] h = tt
weak_items (f ∷ fs) h = (h.0, weak_items fs h.1)

-- the names of a term are variables
pub target_variables : (t : TermTree) → IsWritableTerm t → AllVariables (variables_of t)
target_variables t h = variables_of_formula (One (Compare Equal (Number Past) t)) (tt, h)

-- those of a problem are
pub problem_variables : (written : FormulaTrees) (target : TermTree) → AreWritableFormulas written → IsWritableTerm target → AllVariables (all_variables written ++ variables_of target)
problem_variables written target h k = both (all_variables written) (variables_of target) (variables_of_all written h) (target_variables target k)

pub names_variables : (written : FormulaTrees) (target : TermTree) → AreWritableFormulas written → IsWritableTerm target → AllVariables (problem_names written target)
names_variables written target h k = all_put_in [] (all_variables written ++ variables_of target) tt (problem_variables written target h k)

-- they are put in one after another
pub names_split : (written : FormulaTrees) (target : TermTree) → problem_names written target ≡ fold with_name (fold with_name [] (all_variables written)) (variables_of target)
names_split written target = fold-append with_name [] (all_variables written) (variables_of target)

-- ---- the problem is proper

quantified_proper : (xs : List (List ℕ)) (f : FormulaTree) → IsProperFormula f → IsProperFormula (quantified_names Exists xs f)
quantified_proper [] f h = h
quantified_proper (x ∷ xs) f h = (tt, quantified_proper xs f h)

together_proper : (f : FormulaTree) (fs : FormulaTrees) → IsProperFormula f → AreProperFormulas fs → IsProperFormula (together f fs)
together_proper f none h k = h
together_proper f (also g gs) h k = (tt, (h, k))

pub problem_proper : (written : FormulaTrees) (target : TermTree) → AreWritableFormulas written → IsWritableTerm target → IsProperFormula (problem_of written target)
problem_proper written target h k =
    quantified_proper (problem_names written target) (together (One (Compare Equal (Named target_name) target)) written)
    (together_proper (One (Compare Equal (Named target_name) target)) written (tt, writable_term target k) (writable_formulas written h))
