-- What the reader gives: what is proper, with names that a script can write.
use Rattle.std.specs.Prelude.{List}
use Rattle.std.specs.List.{AllByRecursion}
use Rattle.language_meaning.specs.Names.{IsVariable}
use Rattle.written_syntax.specs.Proper.{IsEntryOver, IsTermOver, AreTermsOver, IsAtomOver, IsFormulaOver, AreFormulasOver}
use Rattle.language_meaning.specs.declared.entries.PointEntry.{PointEntry}
use Rattle.language_meaning.specs.Trees.{TermTree, TermTrees, WrittenAtom, FormulaTree, FormulaTrees}

-- a proper entry whose name is one of a variable
abbrev pub IsWritableEntry : PointEntry → Type 0
IsWritableEntry = IsEntryOver IsVariable

abbrev pub AreWritableEntries : List PointEntry → Type 0
AreWritableEntries = AllByRecursion IsWritableEntry

-- a proper term whose names are those of variables
abbrev pub IsWritableTerm : TermTree → Type 0
IsWritableTerm = IsTermOver IsVariable

abbrev pub AreWritableTerms : TermTrees → Type 0
AreWritableTerms = AreTermsOver IsVariable

abbrev pub IsWritableAtom : WrittenAtom → Type 0
IsWritableAtom = IsAtomOver IsVariable

-- a proper formula whose names, free, bound and of formulas, are those of variables
abbrev pub IsWritableFormula : FormulaTree → Type 0
IsWritableFormula = IsFormulaOver IsVariable

abbrev pub AreWritableFormulas : FormulaTrees → Type 0
AreWritableFormulas = AreFormulasOver IsVariable
