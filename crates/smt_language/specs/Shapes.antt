-- What the operators of a script make of formulas and terms of the language.
use Rattle.std.specs.Prelude.{pos, List, [], ◌∷◌, ◌++◌, map}
use Rattle.logic_meaning.specs.Formula.{One, Impl}
use Rattle.logic_meaning.specs.Fold.{joined}
use Rattle.logic_meaning.specs.declared.junction.Junction.{Junction}
use Rattle.logic_meaning.specs.declared.junction.Junction.TheVariants.{Conjunction}
use Rattle.language_meaning.specs.declared.tree.Literal.{Literal}
use Rattle.language_meaning.specs.declared.tree.Literal.TheVariants.{Fits}
use Rattle.language_meaning.specs.declared.tree.Relation.{Relation}
use Rattle.language_meaning.specs.Trees.{TermTree, Number, Sum, Negative, Compare, Cong, FormulaTree, formulas_of, terms_of}

-- the formulas joined, where one alone stands for itself
abbrev pub joined_of : Junction → List FormulaTree → FormulaTree
joined_of j [] = joined j (formulas_of [])
joined_of j (f ∷ []) = f
joined_of j (f ∷ g ∷ fs) = joined j (formulas_of (f ∷ g ∷ fs))

-- what the relation makes of each two that stand side by side
abbrev pub neighbours : {X : Type 0} → (X → X → FormulaTree) → List X → List FormulaTree
neighbours R [] = []
neighbours R (x ∷ []) = []
neighbours R (x ∷ y ∷ ys) = R x y ∷ neighbours R (y ∷ ys)

-- what the relation makes of each two, the first before the second
abbrev pub pairs : {X : Type 0} → (X → X → FormulaTree) → List X → List FormulaTree
pairs R [] = []
pairs R (x ∷ xs) = map (R x) xs ++ pairs R xs

-- implications of the rest, grouped to the right
abbrev pub implications : FormulaTree → List FormulaTree → FormulaTree
implications f [] = f
implications f (g ∷ gs) = Impl f (implications g gs)

-- the comparison of two terms
abbrev pub comparison : Relation → TermTree → TermTree → FormulaTree
comparison rel s t = One (Compare rel s t)

-- the relation between all neighbours
abbrev pub chained : {X : Type 0} → (X → X → FormulaTree) → List X → FormulaTree
chained R xs = joined_of Conjunction (neighbours R xs)

-- each two differ
abbrev pub all_pairs : {X : Type 0} → (X → X → FormulaTree) → List X → FormulaTree
all_pairs R xs = joined_of Conjunction (pairs R xs)

-- the first term, from which the others are taken away
abbrev pub taken_away : TermTree → List TermTree → TermTree
taken_away t ts = Sum (terms_of (t ∷ map Negative ts))

-- the numeral divides the term
abbrev pub divides : Literal → TermTree → FormulaTree
divides n t = One (Cong t (Number (Fits (pos 0))) (Number n))
