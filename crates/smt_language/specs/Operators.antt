-- What an operator of a script means, over the meanings of its members.
use Rattle.std.specs.Prelude.{List, [], ◌∷◌, Option, Some, None, option_map}
use Rattle.logic_meaning.specs.Context.{Context, Fields}
use Rattle.logic_meaning.specs.Formula.{Not, Equiv}
use Rattle.logic_meaning.specs.declared.junction.Junction.TheVariants.{Conjunction, Disjunction}
use Rattle.language_meaning.specs.declared.tree.Relation.TheVariants as relation
use Rattle.language_meaning.specs.Trees.{TermTree, Sum, Product, Quotient, Negative, FormulaTree, terms_of}
use Rattle.smt_language.specs.declared.expression.Operator.{Operator}
use Rattle.smt_language.specs.declared.expression.Operator.TheVariants as operator
use Rattle.smt_language.specs.Shapes.{joined_of, implications, comparison, chained, all_pairs, taken_away}

-- what a symbol or an expression stands for
pub data Meaning : Type 0 where
  Term : TermTree → Meaning
  Formula : FormulaTree → Meaning

-- the members of an operator, which are of one kind
pub data Members : Type 0 where
  Terms : List TermTree → Members
  Formulas : List FormulaTree → Members

-- the terms, where all are terms
abbrev pub as_terms : List Meaning → Option (List TermTree)
as_terms [] = Some []
as_terms (Term t ∷ ms) = option_map (λ ts. t ∷ ts) (as_terms ms)
as_terms (Formula f ∷ ms) = None

-- the formulas, where all are formulas
abbrev pub as_formulas : List Meaning → Option (List FormulaTree)
as_formulas [] = Some []
as_formulas (Formula f ∷ ms) = option_map (λ fs. f ∷ fs) (as_formulas ms)
as_formulas (Term t ∷ ms) = None

-- the members, where all are of the kind of the first
abbrev pub of_one_kind : List Meaning → Option Members
of_one_kind [] = None
of_one_kind (Term t ∷ ms) = option_map (λ ts. Terms (t ∷ ts)) (as_terms ms)
of_one_kind (Formula f ∷ ms) = option_map (λ fs. Formulas (f ∷ fs)) (as_formulas ms)

-- Of terms: sums, products, differences, and over the fields quotients; the relation between all neighbours, or that each two
-- differ.
abbrev pub of_terms : Context → Operator → List TermTree → Option Meaning
of_terms c operator.Minus (t ∷ []) = Some (Term (Negative t))
of_terms c operator.Minus (t ∷ u ∷ ts) = Some (Term (taken_away t (u ∷ ts)))
of_terms c operator.Plus (t ∷ u ∷ ts) = Some (Term (Sum (terms_of (t ∷ u ∷ ts))))
of_terms c operator.Times (t ∷ u ∷ ts) = Some (Term (Product (terms_of (t ∷ u ∷ ts))))
of_terms Fields operator.Divided (t ∷ u ∷ []) = Some (Term (Quotient t u))
of_terms c operator.Equal (t ∷ u ∷ ts) = Some (Formula (chained (comparison relation.Equal) (t ∷ u ∷ ts)))
of_terms c operator.Less (t ∷ u ∷ ts) = Some (Formula (chained (comparison relation.Less) (t ∷ u ∷ ts)))
of_terms c operator.AtMost (t ∷ u ∷ ts) = Some (Formula (chained (comparison relation.AtMost) (t ∷ u ∷ ts)))
of_terms c operator.Greater (t ∷ u ∷ ts) = Some (Formula (chained (comparison relation.Greater) (t ∷ u ∷ ts)))
of_terms c operator.AtLeast (t ∷ u ∷ ts) = Some (Formula (chained (comparison relation.AtLeast) (t ∷ u ∷ ts)))
of_terms c operator.Distinct (t ∷ u ∷ ts) = Some (Formula (all_pairs (comparison relation.Differs) (t ∷ u ∷ ts)))
of_terms c o ts = None

-- of formulas: the connectives, and the equivalence of all neighbours
abbrev pub of_formulas : Operator → List FormulaTree → Option Meaning
of_formulas operator.Not (f ∷ []) = Some (Formula (Not f))
of_formulas operator.And (f ∷ fs) = Some (Formula (joined_of Conjunction (f ∷ fs)))
of_formulas operator.Or (f ∷ fs) = Some (Formula (joined_of Disjunction (f ∷ fs)))
of_formulas operator.Implies (f ∷ g ∷ fs) = Some (Formula (implications f (g ∷ fs)))
of_formulas operator.Equal (f ∷ g ∷ fs) = Some (Formula (chained Equiv (f ∷ g ∷ fs)))
of_formulas o fs = None

-- of members of one kind; nothing where the operator takes no such members
abbrev pub of_members : Context → Operator → Members → Option Meaning
of_members c o (Terms ts) = of_terms c o ts
of_members c o (Formulas fs) = of_formulas o fs
