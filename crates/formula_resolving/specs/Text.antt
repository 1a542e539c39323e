-- The variables of a formula and of the commands inside it, in the order of the text.
use Rattle.std.specs.Prelude.{◌≡◌, ℕ, ◌++◌, List, length}
use Rattle.std.specs.List.{fold}
use Rattle.logic_meaning.specs.Formula.{none, also}
use Rattle.logic_meaning.specs.Replaced.{replaced}
use Rattle.language_meaning.specs.Holes.{Holed}
use Rattle.language_meaning.specs.Trees.{FormulaTree, FormulaTrees}
use Rattle.written_syntax.specs.CodeTrees.{inner_of, named_tree}
use Rattle.written_syntax.specs.declared.tree.Formula.{Formula}
use Rattle.language_meaning.specs.Texts.{text_of_atom, all_with_texts, texts_of, written_out}
use Rattle.language_meaning.specs.Resolving.{formula_variables, all_variables}
use Rattle.logic_meaning.specs.Names.{with_name}

-- the variables of a formula, with what each command says in its place
unfoldable pub text_variables : Formula → List (List ℕ)
text_variables f = all_variables (written_out (inner_of f) (also (named_tree 0 f) none))

-- a formula with these texts in the places of the answers
abbrev pub with_texts : List FormulaTree → FormulaTree → FormulaTree
with_texts texts f = replaced (text_of_atom texts) (λ x. x) f

-- These variables of a formula are numbered, whatever commands stand before it and after it.
pub record IsTextNumbered (h : Holed FormulaTree) (old new : List (List ℕ)) : Type 0 where
  pub at : (before after : List FormulaTree) (k : ℕ) → k ≡ length before → new ≡ fold with_name old (formula_variables (with_texts (before ++ (texts_of h.inner ++ after)) (h.named k)))

-- the same of the formulas of a list
pub record AreTextsNumbered (h : Holed FormulaTrees) (old new : List (List ℕ)) : Type 0 where
  pub at : (before after : List FormulaTree) (k : ℕ) → k ≡ length before → new ≡ fold with_name old (all_variables (all_with_texts (before ++ (texts_of h.inner ++ after)) (h.named k)))
