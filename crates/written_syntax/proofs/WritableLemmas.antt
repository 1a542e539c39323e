-- What can be written is proper.
use Rattle.std.proofs.Common.{List, [], ◌∷◌}
use Rattle.logic_meaning.specs.Formula.{Yes, No, One, Not, And, Or, Impl, Repl, Equiv, Ex, All}
use Rattle.logic_meaning.specs.Formula as plain
use Rattle.language_meaning.specs.declared.entries.PointEntry.{PointEntry}
use Rattle.language_meaning.specs.Trees.{TermTree, TermTrees, Number, Named, Sum, Product, Quotient, Power, Negative, none, also, WrittenAtom, Compare, Cong, Ncong, Bound, FormulaTree, FormulaTrees}
use Rattle.written_syntax.specs.Proper.{AreProperEntries, IsProperTerm, AreProperTerms, IsProperAtom, IsProperFormula, AreProperFormulas}
use Rattle.written_syntax.specs.Writable.{AreWritableEntries, IsWritableTerm, AreWritableTerms, IsWritableAtom, IsWritableFormula, AreWritableFormulas}

mutual
  pub writable_term : (t : TermTree) → IsWritableTerm t → IsProperTerm t
  writable_term (Number n) h = h
  writable_term (Named x) h = tt
  writable_term (Sum ts) h = (h.0, writable_terms ts h.1)
  writable_term (Product ts) h = (h.0, writable_terms ts h.1)
  writable_term (Quotient s t) h = (writable_term s h.0, writable_term t h.1)
  writable_term (Power t n) h = (writable_term t h.0, h.1)
  writable_term (Negative t) h = writable_term t h

  writable_terms : (ts : TermTrees) → AreWritableTerms ts → AreProperTerms ts
  writable_terms none h = tt
  writable_terms (also t ts) h = (writable_term t h.0, writable_terms ts h.1)

pub writable_atom : (a : WrittenAtom) → IsWritableAtom a → IsProperAtom a
writable_atom (Compare rel s t) h = (writable_term s h.0, writable_term t h.1)
writable_atom (Cong s t m) h = (writable_term s h.0, writable_term t h.1, writable_term m h.2)
writable_atom (Ncong s t m) h = (writable_term s h.0, writable_term t h.1, writable_term m h.2)
writable_atom (Bound x) h = tt

mutual
  pub writable_formula : (f : FormulaTree) → IsWritableFormula f → IsProperFormula f
  writable_formula Yes h = tt
  writable_formula No h = tt
  writable_formula (One a) h = writable_atom a h
  writable_formula (Not f) h = writable_formula f h
  writable_formula (And fs) h = (h.0, writable_formulas fs h.1)
  writable_formula (Or fs) h = (h.0, writable_formulas fs h.1)
  writable_formula (Impl f g) h = (writable_formula f h.0, writable_formula g h.1)
  writable_formula (Repl f g) h = (writable_formula f h.0, writable_formula g h.1)
  writable_formula (Equiv f g) h = (writable_formula f h.0, writable_formula g h.1)
  writable_formula (Ex x f) h = (tt, writable_formula f h.1)
  writable_formula (All x f) h = (tt, writable_formula f h.1)

  pub writable_formulas : (fs : FormulaTrees) → AreWritableFormulas fs → AreProperFormulas fs
  writable_formulas plain.none h = tt
  writable_formulas (plain.also f fs) h = (writable_formula f h.0, writable_formulas fs h.1)

pub writable_entries : (es : List PointEntry) → AreWritableEntries es → AreProperEntries es
writable_entries [] h = tt
writable_entries (e ∷ es) h = ((h.0.0, h.0.1, tt), writable_entries es h.1)

pub ruleset writable = (writable_formula, writable_formulas, writable_entries)
