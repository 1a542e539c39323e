-- The variables of what is read are names that a script can write, and so are the names into which they are put.
use Rattle.std.proofs.Common.{ℕ, ◌<◌, List, [], ◌∷◌, ◌++◌, Bool, true, false, if◌then◌else◌, length, arith}
use Rattle.std.proofs.lemmas.Bool.{false≢true}
use Rattle.std.specs.List.{AllByRecursion, fold, list_any}
use Rattle.logic_meaning.specs.Formula.{Yes, No, One, Not, And, Or, Impl, Repl, Equiv, Ex, All}
use Rattle.logic_meaning.specs.Formula as plain
use Rattle.logic_meaning.specs.Some.{EachOf}
use Rattle.language_meaning.specs.Names.{IsVariable}
use Rattle.language_meaning.specs.Trees.{TermTree, TermTrees, Number, Named, Sum, Product, Quotient, Power, Negative, none, also, WrittenAtom, Compare, Cong, Ncong, Bound, FormulaTree, FormulaTrees}
use Rattle.written_syntax.specs.Writable.{IsWritableTerm, AreWritableTerms, IsWritableAtom, IsWritableFormula, AreWritableFormulas}
use Rattle.language_meaning.specs.Value.{same_name}
use Rattle.written_syntax.proofs.WritableLemmas.{writable_formula}
use Rattle.session_state.specs.Scripted.{IsScripted}
use Rattle.logic_meaning.specs.Names.{with_name}
use Rattle.language_meaning.specs.Resolving.{variables_of, variables_in, atom_variables, formula_variables, all_variables}

abbrev pub AllVariables : List (List ℕ) → Type 0
AllVariables xs = AllByRecursion IsVariable xs

pub both : (xs ys : List (List ℕ)) → AllVariables xs → AllVariables ys → AllVariables (xs ++ ys)
both [] ys h k = k
both (x ∷ xs) ys h k = (h.0, both xs ys h.1 k)

mutual
  term_variables : (t : TermTree) → IsWritableTerm t → AllVariables (variables_of t)
  term_variables (Number n) h = tt
  term_variables (Named x) h = (h, tt)
  term_variables (Sum ts) h = terms_variables ts h.1
  term_variables (Product ts) h = terms_variables ts h.1
  term_variables (Quotient s t) h = both (variables_of s) (variables_of t) (term_variables s h.0) (term_variables t h.1)
  term_variables (Power t n) h = term_variables t h.0
  term_variables (Negative t) h = term_variables t h

  terms_variables : (ts : TermTrees) → AreWritableTerms ts → AllVariables (variables_in ts)
  terms_variables none h = tt
  terms_variables (also t ts) h = both (variables_of t) (variables_in ts) (term_variables t h.0) (terms_variables ts h.1)

three : (s t m : TermTree) → IsWritableTerm s → IsWritableTerm t → IsWritableTerm m → AllVariables (variables_of s ++ (variables_of t ++ variables_of m))
three s t m h k l = both (variables_of s) (variables_of t ++ variables_of m) (term_variables s h) (both (variables_of t) (variables_of m) (term_variables t k) (term_variables m l))

variables_of_atom : (a : WrittenAtom) → IsWritableAtom a → AllVariables (atom_variables a)
variables_of_atom (Compare r s t) h = both (variables_of s) (variables_of t) (term_variables s h.0) (term_variables t h.1)
variables_of_atom (Cong s t m) h = three s t m h.0 h.1 h.2
variables_of_atom (Ncong s t m) h = three s t m h.0 h.1 h.2
variables_of_atom (Bound x) h = tt

mutual
  pub variables_of_formula : (f : FormulaTree) → IsWritableFormula f → AllVariables (formula_variables f)
  variables_of_formula Yes h = tt
  variables_of_formula No h = tt
  variables_of_formula (One a) h = variables_of_atom a h
  variables_of_formula (Not f) h = variables_of_formula f h
  variables_of_formula (And fs) h = variables_of_all fs h.1
  variables_of_formula (Or fs) h = variables_of_all fs h.1
  variables_of_formula (Impl f g) h = both (formula_variables f) (formula_variables g) (variables_of_formula f h.0) (variables_of_formula g h.1)
  variables_of_formula (Repl f g) h = both (formula_variables f) (formula_variables g) (variables_of_formula f h.0) (variables_of_formula g h.1)
  variables_of_formula (Equiv f g) h = both (formula_variables f) (formula_variables g) (variables_of_formula f h.0) (variables_of_formula g h.1)
  variables_of_formula (Ex x f) h = (h.0, variables_of_formula f h.1)
  variables_of_formula (All x f) h = (h.0, variables_of_formula f h.1)

  pub variables_of_all : (fs : FormulaTrees) → AreWritableFormulas fs → AllVariables (all_variables fs)
  variables_of_all plain.none h = tt
  variables_of_all (plain.also f fs) h = both (formula_variables f) (all_variables fs) (variables_of_formula f h.0) (variables_of_all fs h.1)

-- ---- names that are put in

with_variable : (names : List (List ℕ)) (x : List ℕ) → AllVariables names → IsVariable x → AllVariables (with_name names x)
with_variable names x h k = go (list_any (same_name x) names)
  where
    go : (b : Bool) → AllVariables (if b then names else names ++ x ∷ [])
    go true = h
    go false = both names (x ∷ []) h (k, tt)

pub all_put_in : (names xs : List (List ℕ)) → AllVariables names → AllVariables xs → AllVariables (fold with_name names xs)
all_put_in names [] h k = h
all_put_in names (x ∷ xs) h k = all_put_in (with_name names x) xs (with_variable names x h k.0) k.1

-- a name that a script can write has a letter
some_letter : (name : List ℕ) → IsVariable name → 0 < length name
some_letter [] h = absurd (false≢true h.begins)
some_letter (b ∷ bs) h = omega arith

pub not_empty : (names : List (List ℕ)) → AllVariables names → EachOf (λ name. 0 < length name) names
not_empty [] h = tt
not_empty (x ∷ xs) h = (some_letter x h.0, not_empty xs h.1)

-- a formula whose names can be written is as a script has it
pub scripted : (f : FormulaTree) → IsWritableFormula f → IsScripted f
scripted f h = record { proper = writable_formula f h; variables = variables_of_formula f h }
