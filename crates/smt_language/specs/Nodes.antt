-- The nodes of a written formula: those of its connectives, atoms and terms.
use Rattle.std.specs.Prelude.{ℕ, suc, ◌+◌}
use Rattle.logic_meaning.specs.Formula.{Yes, No, One, Not, And, Or, Impl, Repl, Equiv, Ex, All}
use Rattle.logic_meaning.specs.Formula as plain
use Rattle.language_meaning.specs.Trees.{TermTree, TermTrees, Number, Named, Sum, Product, Quotient, Power, Negative, none, also, WrittenAtom, Compare, Cong, Ncong, Bound, FormulaTree, FormulaTrees}

abbrev mutual
  -- the nodes of a term: 1 for a number or a name, else 1 more than those of its parts together
  pub term_nodes : TermTree → ℕ
  term_nodes (Number n) = 1
  term_nodes (Named x) = 1
  term_nodes (Sum ts) = suc (terms_nodes ts)
  term_nodes (Product ts) = suc (terms_nodes ts)
  term_nodes (Quotient s t) = suc (term_nodes s + term_nodes t)
  term_nodes (Power t n) = suc (term_nodes t)
  term_nodes (Negative t) = suc (term_nodes t)

  -- the nodes of the terms together
  pub terms_nodes : TermTrees → ℕ
  terms_nodes none = 0
  terms_nodes (also t ts) = term_nodes t + terms_nodes ts

-- the nodes of an atom: 1 more than those of its terms
abbrev pub atom_nodes : WrittenAtom → ℕ
atom_nodes (Compare rel s t) = suc (term_nodes s + term_nodes t)
atom_nodes (Cong s t m) = suc (term_nodes s + (term_nodes t + term_nodes m))
atom_nodes (Ncong s t m) = suc (term_nodes s + (term_nodes t + term_nodes m))
atom_nodes (Bound x) = 1

abbrev mutual
  -- the nodes of a formula: 1 for a constant, and 1 more than those of its members for a connective or a quantifier
  pub formula_nodes : FormulaTree → ℕ
  formula_nodes Yes = 1
  formula_nodes No = 1
  formula_nodes (One a) = atom_nodes a
  formula_nodes (Not f) = suc (formula_nodes f)
  formula_nodes (And fs) = suc (formulas_nodes fs)
  formula_nodes (Or fs) = suc (formulas_nodes fs)
  formula_nodes (Impl f g) = suc (formula_nodes f + formula_nodes g)
  formula_nodes (Repl f g) = suc (formula_nodes f + formula_nodes g)
  formula_nodes (Equiv f g) = suc (formula_nodes f + formula_nodes g)
  formula_nodes (Ex x f) = suc (formula_nodes f)
  formula_nodes (All x f) = suc (formula_nodes f)

  -- the nodes of the formulas together
  pub formulas_nodes : FormulaTrees → ℕ
  formulas_nodes plain.none = 0
  formulas_nodes (plain.also f fs) = formula_nodes f + formulas_nodes fs
