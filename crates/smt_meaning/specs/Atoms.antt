-- Which atoms and names stand in what an expression means.
use Rattle.std.specs.Prelude.{ℕ, List}
use Rattle.logic_meaning.specs.Context.{Context, Fields, Integers}
use Rattle.logic_meaning.specs.Every.{Every}
use Rattle.language_meaning.specs.Trees.{TermTree, WrittenAtom, Compare, Cong, Ncong, Bound, Number, FormulaTree}
use Rattle.written_syntax.specs.FreeNames.{IsFree}
use Rattle.language_meaning.specs.Value.{HasName}
use Rattle.language_meaning.specs.Resolving.{variables_of, formula_variables}
use Rattle.smt_meaning.specs.LevelsBelow.{IsLevelBelow, AreLevelsBelow}
use Rattle.smt_language.specs.Operators.{Meaning, Term, Formula}
use Rattle.smt_meaning.specs.Proper.{IsPositive}

-- a number that divides
abbrev pub IsDivisor : TermTree → Type 0
IsDivisor (Number k) = IsPositive k
IsDivisor _ = ⊥

-- a comparison, or over the integers that a positive number divides a term
abbrev pub IsOfTheory : Context → WrittenAtom → Type 0
IsOfTheory c (Compare rel s t) = Unit {0}
IsOfTheory Integers (Cong s t m) = IsDivisor m
IsOfTheory Fields (Cong s t m) = ⊥
IsOfTheory c (Ncong s t m) = ⊥
IsOfTheory c (Bound x) = ⊥

-- each atom is of the theory, and each name is that of a level below
pub record IsFormulaBelow (c : Context) (count : ℕ) (f : FormulaTree) : Type 0 where
  pub atoms : Every (IsOfTheory c) f
  pub names : AreLevelsBelow count (formula_variables f)

-- the same of what an expression means
abbrev pub IsBelow : Context → ℕ → Meaning → Type 0
IsBelow c count (Term t) = AreLevelsBelow count (variables_of t)
IsBelow c count (Formula f) = IsFormulaBelow c count f

-- the name is free in what an expression means
abbrev pub IsFreeIn : Meaning → List ℕ → Type 0
IsFreeIn (Term t) x = HasName t x
IsFreeIn (Formula f) x = IsFree f x

-- each name that is free in it is that of a level below
abbrev pub IsClosedBelow : ℕ → Meaning → Type 0
IsClosedBelow count m = (x : List ℕ) → IsFreeIn m x → IsLevelBelow count x
