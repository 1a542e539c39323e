-- Terms and formulas as plain trees: what the code's values stand for, with no memory in it.
use Rattle.std.specs.Prelude.{ℕ, List, [], ◌∷◌}
use Rattle.logic_meaning.specs.Formula.{Formula, Formulas}
use Rattle.logic_meaning.specs.Formula as plain
use Rattle.language_meaning.specs.declared.tree.Literal.{Literal}
use Rattle.language_meaning.specs.declared.tree.Relation.{Relation}

-- a term as it is written; a name is its list of bytes
mutual
  pub data TermTree : Type 0 where
    Number : Literal → TermTree
    Named : List ℕ → TermTree
    Sum : TermTrees → TermTree
    Product : TermTrees → TermTree
    Quotient : TermTree → TermTree → TermTree
    Power : TermTree → Literal → TermTree
    Negative : TermTree → TermTree

  -- the members of a sum or a product: none, or a term before others
  pub data TermTrees : Type 0 where
    none : TermTrees
    also : TermTree → TermTrees → TermTrees

-- what stands at the leaves of a formula as it is written: comparisons, congruences, and names of formulas
pub data WrittenAtom : Type 0 where
  Compare : Relation → TermTree → TermTree → WrittenAtom
  Cong : TermTree → TermTree → TermTree → WrittenAtom
  Ncong : TermTree → TermTree → TermTree → WrittenAtom
  Bound : List ℕ → WrittenAtom

-- a formula as it is written; a name is its list of bytes
abbrev pub FormulaTree : Type 0
FormulaTree = Formula WrittenAtom (List ℕ)

-- a list of formulas
abbrev pub FormulaTrees : Type 0
FormulaTrees = Formulas WrittenAtom (List ℕ)

-- the members of a list, as the members of a sum or a product
abbrev pub terms_of : List TermTree → TermTrees
terms_of [] = none
terms_of (t ∷ ts) = also t (terms_of ts)

-- the members of a list, as the members of a conjunction or a disjunction
abbrev pub formulas_of : List FormulaTree → FormulaTrees
formulas_of [] = plain.none
formulas_of (f ∷ fs) = plain.also f (formulas_of fs)
