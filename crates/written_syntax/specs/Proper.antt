-- What calls ask of terms, formulas and points: numbers within the limit, and lists of two members at least. What the reader
-- gives is proper in this sense, and each name is one that a script can write.
use Rattle.std.specs.Prelude.{ℕ, pos, ◌≤ℤ◌, List}
use Rattle.std.specs.List.{AllByRecursion}
use Rattle.exact_numbers.specs.Limit.{InLimit}
use Rattle.logic_meaning.specs.Formula.{Yes, No, One, Not, And, Or, Impl, Repl, Equiv, Ex, All}
use Rattle.logic_meaning.specs.Formula as plain
use Rattle.language_meaning.specs.declared.tree.Literal.{Literal}
use Rattle.language_meaning.specs.declared.tree.Literal.TheVariants.{Fits, Past}
use Rattle.language_meaning.specs.declared.entries.PointEntry.{PointEntry}
use Rattle.language_meaning.specs.Trees.{TermTree, TermTrees, Number, Named, Sum, Product, Quotient, Power, Negative, none, also, WrittenAtom, Compare, Cong, Ncong, Bound, FormulaTree, FormulaTrees}

-- a number from 0 to the limit, where it fits
abbrev pub IsNumeral : Literal → Type 0
IsNumeral (Fits n) = (pos 0 ≤ℤ n) × InLimit n
IsNumeral Past = Unit {0}

-- a number within the limit, where it fits
abbrev pub IsSigned : Literal → Type 0
IsSigned (Fits n) = InLimit n
IsSigned Past = Unit {0}

-- the list has two members at least
abbrev pub AreTerms : TermTrees → Type 0
AreTerms none = ⊥
AreTerms (also t none) = ⊥
AreTerms (also t (also u ts)) = Unit {0}

-- the list has two members at least
abbrev pub AreFormulas : FormulaTrees → Type 0
AreFormulas plain.none = ⊥
AreFormulas (plain.also f plain.none) = ⊥
AreFormulas (plain.also f (plain.also g fs)) = Unit {0}

module _ (K : List ℕ → Type 0) where
  -- an entry whose literals are within the limit, with no sign below, and whose name has K
  abbrev pub IsEntryOver : PointEntry → Type 0
  IsEntryOver e = IsSigned e.above × IsNumeral e.below × K e.name

  abbrev mutual
    -- each number of the term is within the limit, each name has K, and each list has two members at least
    pub IsTermOver : TermTree → Type 0
    IsTermOver (Number n) = IsNumeral n
    IsTermOver (Named x) = K x
    IsTermOver (Sum ts) = AreTerms ts × AreTermsOver ts
    IsTermOver (Product ts) = AreTerms ts × AreTermsOver ts
    IsTermOver (Quotient s t) = IsTermOver s × IsTermOver t
    IsTermOver (Power t n) = IsTermOver t × IsNumeral n
    IsTermOver (Negative t) = IsTermOver t

    -- the same of each of the terms
    pub AreTermsOver : TermTrees → Type 0
    AreTermsOver none = Unit {0}
    AreTermsOver (also t ts) = IsTermOver t × AreTermsOver ts

  -- the same of each term of the atom, and its name has K
  abbrev pub IsAtomOver : WrittenAtom → Type 0
  IsAtomOver (Compare rel s t) = IsTermOver s × IsTermOver t
  IsAtomOver (Cong s t m) = IsTermOver s × IsTermOver t × IsTermOver m
  IsAtomOver (Ncong s t m) = IsTermOver s × IsTermOver t × IsTermOver m
  IsAtomOver (Bound x) = K x

  abbrev mutual
    -- the same of each atom and each name of the formula, and each list has two members at least
    pub IsFormulaOver : FormulaTree → Type 0
    IsFormulaOver Yes = Unit {0}
    IsFormulaOver No = Unit {0}
    IsFormulaOver (One a) = IsAtomOver a
    IsFormulaOver (Not f) = IsFormulaOver f
    IsFormulaOver (And fs) = AreFormulas fs × AreFormulasOver fs
    IsFormulaOver (Or fs) = AreFormulas fs × AreFormulasOver fs
    IsFormulaOver (Impl f g) = IsFormulaOver f × IsFormulaOver g
    IsFormulaOver (Repl f g) = IsFormulaOver f × IsFormulaOver g
    IsFormulaOver (Equiv f g) = IsFormulaOver f × IsFormulaOver g
    IsFormulaOver (Ex x f) = K x × IsFormulaOver f
    IsFormulaOver (All x f) = K x × IsFormulaOver f

    -- the same of each of the formulas
    pub AreFormulasOver : FormulaTrees → Type 0
    AreFormulasOver plain.none = Unit {0}
    AreFormulasOver (plain.also f fs) = IsFormulaOver f × AreFormulasOver fs

-- any name
abbrev pub IsAnyName : List ℕ → Type 0
IsAnyName x = Unit {0}

-- numbers within the limit, with no sign below
abbrev pub IsProperEntry : PointEntry → Type 0
IsProperEntry = IsEntryOver IsAnyName

abbrev pub AreProperEntries : List PointEntry → Type 0
AreProperEntries = AllByRecursion IsProperEntry

-- numbers within the limit, and lists of two members at least
abbrev pub IsProperTerm : TermTree → Type 0
IsProperTerm = IsTermOver IsAnyName

abbrev pub AreProperTerms : TermTrees → Type 0
AreProperTerms = AreTermsOver IsAnyName

abbrev pub IsProperAtom : WrittenAtom → Type 0
IsProperAtom = IsAtomOver IsAnyName

abbrev pub IsProperFormula : FormulaTree → Type 0
IsProperFormula = IsFormulaOver IsAnyName

abbrev pub AreProperFormulas : FormulaTrees → Type 0
AreProperFormulas = AreFormulasOver IsAnyName
