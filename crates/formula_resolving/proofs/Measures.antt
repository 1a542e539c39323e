-- How many nodes a term or a formula has, and how high a list is; a member has no more than its list.
use Rattle.std.proofs.Common.{◌≡◌, ℕ, zero, suc, ◌+◌, ◌<◌, ◌≤◌, List, [], ◌∷◌, get_or, length, arith, ap, ◌∙◌, ◌++◌, take, max}
use Rattle.std.specs.Prelude.{map}
use Rattle.logic_meaning.specs.Sizes.{nodes, all_nodes, height, greatest_height}
use Rattle.logic_meaning.specs.Tree as meaning
use Rattle.formula_tree.specs.declared.tree.Tree as tree
use Rattle.formula_tree.specs.Trees.{tree_of, members}
use Rattle.std.proofs.lemmas.List.{map-append, take_more}
use Rattle.logic_meaning.specs.Formula.{Yes, No, One, Not, And, Or, Impl, Repl, Equiv, Ex, All}
use Rattle.written_syntax.specs.declared.tree.Term as code
use Rattle.written_syntax.specs.declared.tree.Formula as written
use Rattle.language_meaning.specs.Trees.{TermTree, TermTrees, Number, Named, Sum, Product, Quotient, Power, Negative, none, also, terms_of, formulas_of, FormulaTree}
use Rattle.written_syntax.specs.CodeTrees.{term_tree, formula_tree}
use Rattle.written_syntax.specs.Valued.{matrix_of}

abbrev mutual
  pub term_nodes : TermTree → ℕ
  term_nodes (Number n) = 1
  term_nodes (Named x) = 1
  term_nodes (Sum ts) = suc (terms_nodes ts)
  term_nodes (Product ts) = suc (terms_nodes ts)
  term_nodes (Quotient s t) = suc (term_nodes s + term_nodes t)
  term_nodes (Power t n) = suc (term_nodes t)
  term_nodes (Negative t) = suc (term_nodes t)

  pub terms_nodes : TermTrees → ℕ
  terms_nodes none = 0
  terms_nodes (also t ts) = term_nodes t + terms_nodes ts

pub member_term : (ts : List code.Term) (i : ℕ) (d : code.Term) → i < length ts → term_nodes (term_tree (get_or ts i d)) ≤ terms_nodes (terms_of (map term_tree ts))
member_term [] i d h = omega arith
member_term (t ∷ ts) zero d h = omega arith
member_term (t ∷ ts) (suc i) d h = omega (arith, member_term ts i d (omega arith))

pub member_formula : (fs : List written.Formula) (i : ℕ) (d : written.Formula) → i < length fs → nodes (formula_tree (get_or fs i d)) ≤ all_nodes (formulas_of (map formula_tree fs))
member_formula [] i d h = omega arith
member_formula (f ∷ fs) zero d h = omega arith
member_formula (f ∷ fs) (suc i) d h = omega (arith, member_formula fs i d (omega arith))

pub term_below : (ts : List code.Term) (i : ℕ) (x : code.Term) → x ≡ get_or ts i x → i < length ts → term_nodes (term_tree x) ≤ terms_nodes (terms_of (map term_tree ts))
term_below ts i x e h = omega (arith, ap (λ y. term_nodes (term_tree y)) e, member_term ts i x h)

pub formula_below : (fs : List written.Formula) (i : ℕ) (x : written.Formula) → x ≡ get_or fs i x → i < length fs → nodes (formula_tree x) ≤ all_nodes (formulas_of (map formula_tree fs))
formula_below fs i x e h = omega (arith, ap (λ y. nodes (formula_tree y)) e, member_formula fs i x h)

pub matrix_nodes : (f : FormulaTree) → nodes (matrix_of f) ≤ nodes f
matrix_nodes (Ex x f) = omega (arith, matrix_nodes f)
matrix_nodes (All x f) = omega (arith, matrix_nodes f)
matrix_nodes Yes = omega arith
matrix_nodes No = omega arith
matrix_nodes (One a) = omega arith
matrix_nodes (Not f) = omega arith
matrix_nodes (And fs) = omega arith
matrix_nodes (Or fs) = omega arith
matrix_nodes (Impl f g) = omega arith
matrix_nodes (Repl f g) = omega arith
matrix_nodes (Equiv f g) = omega arith

-- ---- trees

member_tree : (fs : List tree.Tree) (i : ℕ) (d : tree.Tree) → i < length fs → nodes (tree_of (get_or fs i d)) ≤ all_nodes (members (map tree_of fs))
member_tree [] i d h = omega arith
member_tree (f ∷ fs) zero d h = omega arith
member_tree (f ∷ fs) (suc i) d h = omega (arith, member_tree fs i d (omega arith))

pub tree_below : (fs : List tree.Tree) (i : ℕ) (x : tree.Tree) → x ≡ get_or fs i x → i < length fs → nodes (tree_of x) ≤ all_nodes (members (map tree_of fs))
tree_below fs i x e h = omega (arith, ap (λ y. nodes (tree_of y)) e, member_tree fs i x h)

greatest_snoc : (fs : List meaning.Tree) (f : meaning.Tree) → greatest_height (members (fs ++ f ∷ [])) ≡ max (greatest_height (members fs)) (height f)
greatest_snoc [] f = omega arith
greatest_snoc (g ∷ gs) f = omega (arith, greatest_snoc gs f)

-- the greatest height of the first trees, and of one more
pub greatest_more : {X : Type 0} (to : X → meaning.Tree) (xs : List X) (i : ℕ) (d : X) → i < length xs
    → greatest_height (members (map to (take (i + 1) xs))) ≡ max (greatest_height (members (map to (take i xs)))) (height (to (get_or xs i d)))
greatest_more to xs i d l =
    ap (λ ys. greatest_height (members (map to ys))) (take_more xs i d l) ∙ ap (λ fs. greatest_height (members fs)) (map-append to (take i xs) (get_or xs i d ∷ [])) ∙ greatest_snoc (map to (take i xs)) (to (get_or xs i d))
