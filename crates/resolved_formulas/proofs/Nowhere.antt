-- Where something is said of no atom, and of no quantified name; and the variables of a formula, each in the list.
use Rattle.std.proofs.Common.{◌⊎◌, inl, inr, ⊎_elim, ℕ, List, ◌++◌, refl}
use Rattle.logic_meaning.specs.Formula.{Formula, Formulas, Yes, No, One, Not, And, Or, Impl, Repl, Equiv, Ex, All, none, also}
use Rattle.logic_meaning.specs.Every.{Every, EveryOf, EveryBound, EveryBoundOf}
use Rattle.language_meaning.specs.Trees as term
use Rattle.language_meaning.specs.Trees.{TermTree, TermTrees, Number, Named, Sum, Product, Quotient, Power, Negative, WrittenAtom, Compare, Cong, Ncong, Bound, FormulaTree, FormulaTrees}
use Rattle.language_meaning.specs.Value.{HasName, HaveName, Mentions}
use Rattle.written_syntax.specs.Valued.{IsIn}
use Rattle.language_meaning.specs.Somewhere.{SomewhereIn, SomeAtom}
use Rattle.language_meaning.specs.Resolving.{variables_of, variables_in, atom_variables, formula_variables, all_variables}
use Rattle.resolved_formulas.proofs.PlaceLaws.{in_either}

module _ {A N : Type 0} (P : A → Type 0) where
  mutual
    pub nowhere : (f : Formula A N) → ¬ (SomeAtom P f) → Every (λ a. ¬ (P a)) f
    nowhere Yes h = tt
    nowhere No h = tt
    nowhere (One a) h = h
    nowhere (Not f) h = nowhere f h
    nowhere (And fs) h = nowhere_in fs h
    nowhere (Or fs) h = nowhere_in fs h
    nowhere (Impl f g) h = (nowhere f (λ s. h (inl s)), nowhere g (λ s. h (inr s)))
    nowhere (Repl f g) h = (nowhere f (λ s. h (inl s)), nowhere g (λ s. h (inr s)))
    nowhere (Equiv f g) h = (nowhere f (λ s. h (inl s)), nowhere g (λ s. h (inr s)))
    nowhere (Ex x f) h = nowhere f (λ s. h (inr s))
    nowhere (All x f) h = nowhere f (λ s. h (inr s))

    nowhere_in : (fs : Formulas A N) → ¬ (SomewhereIn P (λ x. ⊥) fs) → EveryOf (λ a. ¬ (P a)) fs
    nowhere_in none h = tt
    nowhere_in (also f fs) h = (nowhere f (λ s. h (inl s)), nowhere_in fs (λ s. h (inr s)))

module _ {A N : Type 0} (P Q : A → Type 0) where
  mutual
    -- what is said of each atom twice
    pub every_both : (f : Formula A N) → Every P f → Every Q f → Every (λ a. P a × Q a) f
    every_both Yes h k = tt
    every_both No h k = tt
    every_both (One a) h k = (h, k)
    every_both (Not f) h k = every_both f h k
    every_both (And fs) h k = every_both_of fs h k
    every_both (Or fs) h k = every_both_of fs h k
    every_both (Impl f g) h k = (every_both f h.0 k.0, every_both g h.1 k.1)
    every_both (Repl f g) h k = (every_both f h.0 k.0, every_both g h.1 k.1)
    every_both (Equiv f g) h k = (every_both f h.0 k.0, every_both g h.1 k.1)
    every_both (Ex x f) h k = every_both f h k
    every_both (All x f) h k = every_both f h k

    every_both_of : (fs : Formulas A N) → EveryOf P fs → EveryOf Q fs → EveryOf (λ a. P a × Q a) fs
    every_both_of none h k = tt
    every_both_of (also f fs) h k = (every_both f h.0 k.0, every_both_of fs h.1 k.1)

-- ---- variables

mutual
  has_variable : (t : TermTree) (x : List ℕ) → HasName t x → IsIn x (variables_of t)
  has_variable (Number n) x h = absurd h
  has_variable (Named y) x h = inl h
  has_variable (Sum ts) x h = have_variable ts x h
  has_variable (Product ts) x h = have_variable ts x h
  has_variable (Quotient s t) x h = in_either x (variables_of s) (variables_of t) (⊎_elim (λ i. inl (has_variable s x i)) (λ i. inr (has_variable t x i)) h)
  has_variable (Power t n) x h = has_variable t x h
  has_variable (Negative t) x h = has_variable t x h

  have_variable : (ts : TermTrees) (x : List ℕ) → HaveName ts x → IsIn x (variables_in ts)
  have_variable term.none x h = absurd h
  have_variable (term.also t ts) x h = in_either x (variables_of t) (variables_in ts) (⊎_elim (λ i. inl (has_variable t x i)) (λ i. inr (have_variable ts x i)) h)

three_variables : (s t m : TermTree) (x : List ℕ) → HasName s x ⊎ (HasName t x ⊎ HasName m x) → IsIn x (variables_of s ++ (variables_of t ++ variables_of m))
three_variables s t m x h =
    in_either x (variables_of s) (variables_of t ++ variables_of m)
    (⊎_elim (λ i. inl (has_variable s x i)) (λ k. inr (in_either x (variables_of t) (variables_of m) (⊎_elim (λ i. inl (has_variable t x i)) (λ i. inr (has_variable m x i)) k))) h)

atom_has : (a : WrittenAtom) (x : List ℕ) → Mentions a x → IsIn x (atom_variables a)
atom_has (Compare rel s t) x h = in_either x (variables_of s) (variables_of t) (⊎_elim (λ i. inl (has_variable s x i)) (λ i. inr (has_variable t x i)) h)
atom_has (Cong s t m) x h = three_variables s t m x h
atom_has (Ncong s t m) x h = three_variables s t m x h
atom_has (Bound y) x h = absurd h

-- where the variables of a formula all have K, those of each atom do, and the quantified ones
module _ (K : List ℕ → Type 0) where
  left : (xs ys : List (List ℕ)) → ((x : List ℕ) → IsIn x (xs ++ ys) → K x) → (x : List ℕ) → IsIn x xs → K x
  left xs ys k x i = k x (in_either x xs ys (inl i))

  right : (xs ys : List (List ℕ)) → ((x : List ℕ) → IsIn x (xs ++ ys) → K x) → (x : List ℕ) → IsIn x ys → K x
  right xs ys k x i = k x (in_either x xs ys (inr i))

  mutual
    pub mentioned_have : (f : FormulaTree) → ((x : List ℕ) → IsIn x (formula_variables f) → K x) → Every (λ a. (x : List ℕ) → Mentions a x → K x) f
    mentioned_have Yes k = tt
    mentioned_have No k = tt
    mentioned_have (One a) k = λ x m. k x (atom_has a x m)
    mentioned_have (Not f) k = mentioned_have f k
    mentioned_have (And fs) k = mentioned_have_in fs k
    mentioned_have (Or fs) k = mentioned_have_in fs k
    mentioned_have (Impl f g) k = (mentioned_have f (left (formula_variables f) (formula_variables g) k), mentioned_have g (right (formula_variables f) (formula_variables g) k))
    mentioned_have (Repl f g) k = (mentioned_have f (left (formula_variables f) (formula_variables g) k), mentioned_have g (right (formula_variables f) (formula_variables g) k))
    mentioned_have (Equiv f g) k = (mentioned_have f (left (formula_variables f) (formula_variables g) k), mentioned_have g (right (formula_variables f) (formula_variables g) k))
    mentioned_have (Ex y f) k = mentioned_have f (λ x i. k x (inr i))
    mentioned_have (All y f) k = mentioned_have f (λ x i. k x (inr i))

    mentioned_have_in : (fs : FormulaTrees) → ((x : List ℕ) → IsIn x (all_variables fs) → K x) → EveryOf (λ a. (x : List ℕ) → Mentions a x → K x) fs
    mentioned_have_in none k = tt
    mentioned_have_in (also f fs) k = (mentioned_have f (left (formula_variables f) (all_variables fs) k), mentioned_have_in fs (right (formula_variables f) (all_variables fs) k))

  mutual
    pub quantified_have : (f : FormulaTree) → ((x : List ℕ) → IsIn x (formula_variables f) → K x) → EveryBound K f
    quantified_have Yes k = tt
    quantified_have No k = tt
    quantified_have (One a) k = tt
    quantified_have (Not f) k = quantified_have f k
    quantified_have (And fs) k = quantified_have_in fs k
    quantified_have (Or fs) k = quantified_have_in fs k
    quantified_have (Impl f g) k = (quantified_have f (left (formula_variables f) (formula_variables g) k), quantified_have g (right (formula_variables f) (formula_variables g) k))
    quantified_have (Repl f g) k = (quantified_have f (left (formula_variables f) (formula_variables g) k), quantified_have g (right (formula_variables f) (formula_variables g) k))
    quantified_have (Equiv f g) k = (quantified_have f (left (formula_variables f) (formula_variables g) k), quantified_have g (right (formula_variables f) (formula_variables g) k))
    quantified_have (Ex y f) k = (k y (inl refl), quantified_have f (λ x i. k x (inr i)))
    quantified_have (All y f) k = (k y (inl refl), quantified_have f (λ x i. k x (inr i)))

    quantified_have_in : (fs : FormulaTrees) → ((x : List ℕ) → IsIn x (all_variables fs) → K x) → EveryBoundOf K fs
    quantified_have_in none k = tt
    quantified_have_in (also f fs) k = (quantified_have f (left (formula_variables f) (all_variables fs) k), quantified_have_in fs (right (formula_variables f) (all_variables fs) k))
