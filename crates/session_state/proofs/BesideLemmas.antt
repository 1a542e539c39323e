-- A formula beside which commands stand is one as scripts have it.
use Rattle.std.proofs.Common.{◌≡◌, ℕ, List, [], ◌∷◌, ◌++◌, Bool, true, false, length, refl, ap, ap₂, subst}
use Rattle.std.specs.Prelude.{nat_lt, if◌then◌else◌}
use Rattle.logic_meaning.specs.Formula.{Yes, No, One, Not, And, Or, Impl, Repl, Equiv, Ex, All}
use Rattle.logic_meaning.specs.Formula as plain
use Rattle.logic_meaning.specs.Replaced.{all_replaced}
use Rattle.language_meaning.specs.Trees.{Compare, Cong, Ncong, Bound, FormulaTree, FormulaTrees}
use Rattle.language_meaning.specs.Holes.{Nests, alone, beside}
use Rattle.written_syntax.specs.Proper.{AreFormulas, IsProperFormula, AreProperFormulas}
use Rattle.written_syntax.proofs.WritableLemmas.{writable_formula}
use Rattle.language_meaning.specs.Resolving.{formula_variables, all_variables}
use Rattle.written_syntax.specs.StatementSyntaxWritable.{unanswered_atom, unanswered, IsFormulaBeside}
use Rattle.session_state.specs.Scripted.{IsScripted}
use Rattle.session_state.proofs.VariableLemmas.{AllVariables, variables_of_formula}

abbrev all_unanswered : FormulaTrees → FormulaTrees
all_unanswered fs = all_replaced unanswered_atom (λ x. x) fs

name_variables : (b : Bool) (x : List ℕ) → formula_variables (if b then Yes else One (Bound x)) ≡ []
name_variables true x = refl
name_variables false x = refl

mutual
  same_variables : (f : FormulaTree) → formula_variables (unanswered f) ≡ formula_variables f
  same_variables Yes = refl
  same_variables No = refl
  same_variables (One (Compare rel s t)) = refl
  same_variables (One (Cong s t m)) = refl
  same_variables (One (Ncong s t m)) = refl
  same_variables (One (Bound x)) = name_variables (nat_lt 64 (length x)) x
  same_variables (Not f) = same_variables f
  same_variables (And fs) = all_same_variables fs
  same_variables (Or fs) = all_same_variables fs
  same_variables (Impl f g) = ap₂ (λ xs ys. xs ++ ys) (same_variables f) (same_variables g)
  same_variables (Repl f g) = ap₂ (λ xs ys. xs ++ ys) (same_variables f) (same_variables g)
  same_variables (Equiv f g) = ap₂ (λ xs ys. xs ++ ys) (same_variables f) (same_variables g)
  same_variables (Ex x f) = ap (λ xs. x ∷ xs) (same_variables f)
  same_variables (All x f) = ap (λ xs. x ∷ xs) (same_variables f)

  all_same_variables : (fs : FormulaTrees) → all_variables (all_unanswered fs) ≡ all_variables fs
  all_same_variables plain.none = refl
  all_same_variables (plain.also f fs) = ap₂ (λ xs ys. xs ++ ys) (same_variables f) (all_same_variables fs)

still_formulas : (fs : FormulaTrees) → AreFormulas (all_unanswered fs) → AreFormulas fs
still_formulas plain.none h = h
still_formulas (plain.also f plain.none) h = h
still_formulas (plain.also f (plain.also g fs)) h = tt

mutual
  still_proper : (f : FormulaTree) → IsProperFormula (unanswered f) → IsProperFormula f
  still_proper Yes h = h
  still_proper No h = h
  still_proper (One (Compare rel s t)) h = h
  still_proper (One (Cong s t m)) h = h
  still_proper (One (Ncong s t m)) h = h
  still_proper (One (Bound x)) h = tt
  still_proper (Not f) h = still_proper f h
  still_proper (And fs) h = (still_formulas fs h.0, all_still_proper fs h.1)
  still_proper (Or fs) h = (still_formulas fs h.0, all_still_proper fs h.1)
  still_proper (Impl f g) h = (still_proper f h.0, still_proper g h.1)
  still_proper (Repl f g) h = (still_proper f h.0, still_proper g h.1)
  still_proper (Equiv f g) h = (still_proper f h.0, still_proper g h.1)
  still_proper (Ex x f) h = (tt, still_proper f h.1)
  still_proper (All x f) h = (tt, still_proper f h.1)

  all_still_proper : (fs : FormulaTrees) → AreProperFormulas (all_unanswered fs) → AreProperFormulas fs
  all_still_proper plain.none h = tt
  all_still_proper (plain.also f fs) h = (still_proper f h.0, all_still_proper fs h.1)

pub scripted_beside : (ns : Nests) (f : FormulaTree) → IsFormulaBeside ns f → IsScripted f
scripted_beside alone f h = record { proper = writable_formula f h; variables = variables_of_formula f h }
scripted_beside (beside n ns) f h = record {
  proper = still_proper f (writable_formula (unanswered f) h);
  variables = subst AllVariables (same_variables f) (variables_of_formula (unanswered f) h);
}
