-- Levels: their places, and formulas over the names of levels.
use Rattle.std.proofs.Common.{◌≡◌, ◌≤◌, ◌<◌, ◌+◌, ℕ, zero, suc, Bool, true, false, not, List, [], ◌∷◌, ◌++◌, length, map, refl, ap, sym, ◌∙◌, subst, arith, nat_eq, eqb-true, if◌then◌else◌}
use Rattle.std.specs.Prelude.{◌||◌, ◌&&◌}
use Rattle.std.specs.List.{AllByRecursion, list_any, fold}
use Rattle.logic_meaning.specs.Context.{Context}
use Rattle.logic_meaning.specs.Every.{EveryOf}
use Rattle.logic_meaning.specs.Fold.{joined}
use Rattle.logic_meaning.specs.declared.junction.Junction.{Junction}
use Rattle.logic_meaning.specs.declared.junction.Junction.TheVariants.{Conjunction, Disjunction}
use Rattle.logic_meaning.specs.declared.quantifier.Quantifier.{Quantifier}
use Rattle.logic_meaning.specs.declared.quantifier.Quantifier.TheVariants.{Exists, ForAll}
use Rattle.language_meaning.specs.Trees.{TermTree, FormulaTree, Negative, terms_of, formulas_of}
use Rattle.language_meaning.specs.Value.{same_name}
use Rattle.logic_meaning.specs.Names.{with_name, place}
use Rattle.language_meaning.specs.NamesAfter.{names_after}
use Rattle.language_meaning.specs.Resolving.{variables_of, variables_in, formula_variables, all_variables}
use Rattle.resolved_formulas.proofs.PlaceLaws.{same_itself}
use Rattle.smt_language.specs.Levels.{level, levels, levels_from, closed}
use Rattle.smt_meaning.specs.LevelsBelow.{IsLevelBelow, AreLevelsBelow}
use Rattle.smt_language.specs.Shapes.{joined_of, neighbours, pairs, implications}
use Rattle.smt_language.specs.Operators.{Meaning, Term}
use Rattle.smt_language.specs.Operators as operators
use Rattle.smt_meaning.specs.Atoms.{IsOfTheory, IsFormulaBelow, IsBelow}

-- ---- lists

pub all_append : {X : Type 0} (P : X → Type 0) (xs ys : List X) → AllByRecursion P xs → AllByRecursion P ys → AllByRecursion P (xs ++ ys)
all_append P [] ys h k = k
all_append P (x ∷ xs) ys h k = (h.0, all_append P xs ys h.1 k)

pub all_first : {X : Type 0} (P : X → Type 0) (xs ys : List X) → AllByRecursion P (xs ++ ys) → AllByRecursion P xs
all_first P [] ys h = tt
all_first P (x ∷ xs) ys h = (h.0, all_first P xs ys h.1)

pub all_second : {X : Type 0} (P : X → Type 0) (xs ys : List X) → AllByRecursion P (xs ++ ys) → AllByRecursion P ys
all_second P [] ys h = h
all_second P (x ∷ xs) ys h = all_second P xs ys h.1

pub all_weaker : {X : Type 0} (P Q : X → Type 0) → ((x : X) → P x → Q x) → (xs : List X) → AllByRecursion P xs → AllByRecursion Q xs
all_weaker P Q w [] h = tt
all_weaker P Q w (x ∷ xs) h = (w x h.0, all_weaker P Q w xs h.1)

pub more_levels : (m n : ℕ) → m ≤ n → (xs : List (List ℕ)) → AreLevelsBelow m xs → AreLevelsBelow n xs
more_levels m n l = all_weaker (IsLevelBelow m) (IsLevelBelow n) (λ x h. let k : ℕ = h.0 in let b : k < m = h.1 in (k, omega arith, h.2))

-- ---- places

same_level : (m n : ℕ) → m ≡ n → same_name (level m) (level n) ≡ true
same_level m n e = subst (λ k. same_name (level m) (level k) ≡ true) e (same_itself (level m))

other_level : (m n : ℕ) → nat_eq m n ≡ false → same_name (level m) (level n) ≡ false
other_level m n e = λ i. (e i) && true

nat_other : (m n : ℕ) → ¬ (m ≡ n) → nat_eq m n ≡ false
nat_other m n h = go (nat_eq m n) refl
  where
    go : (b : Bool) → nat_eq m n ≡ b → b ≡ false
    go true e = absurd (h (eqb-true m n e))
    go false e = refl

place_from : (k count i : ℕ) → i < count → place (levels_from k count) (level (k + i)) ≡ i
place_from k zero i l = absurd (omega arith)
place_from k (suc count) zero l = go (same_name (level (k + 0)) (level k)) (same_level (k + 0) k (omega arith))
  where
    go : (b : Bool) → b ≡ true → (if not b then 1 + place (levels_from (suc k) count) (level (k + 0)) else 0) ≡ 0
    go true e = refl
    go false e = absurd (cc)
place_from k (suc count) (suc i) l =
    let s : suc k + i ≡ k + suc i = omega arith in
    go (same_name (level (k + suc i)) (level k)) (other_level (k + suc i) k (nat_other _ _ (λ e. omega arith))) (subst (λ j. place (levels_from (suc k) count) (level j) ≡ i) s (place_from (suc k) count i (omega arith)))
  where
    go : (b : Bool) → b ≡ false → place (levels_from (suc k) count) (level (k + suc i)) ≡ i → (if not b then 1 + place (levels_from (suc k) count) (level (k + suc i)) else 0) ≡ suc i
    go true e t = absurd (cc)
    go false e t = omega (arith, t)

-- a level has its own number
pub place_level : (count n : ℕ) → n < count → place (levels count) (level n) ≡ n
place_level count n l = let e : 0 + n ≡ n = omega arith in subst (λ j. place (levels count) (level j) ≡ n) e (place_from 0 count n l)

-- one of a list of a level alone
pub level_alone : (count n : ℕ) → AreLevelsBelow count (level n ∷ []) → place (levels count) (level n) ≡ n
level_alone count n h =
    let x : IsLevelBelow count (level n) = h.0 in let k : ℕ = x.0 in let l : k < count = x.1 in
    let e : n ≡ k = first_same x.2 in
    place_level count n (omega arith)
  where
    first_same : {m k : ℕ} → level m ≡ level k → m ≡ k
    first_same e = cc

among_from : (k count i : ℕ) → i < count → list_any (same_name (level (k + i))) (levels_from k count) ≡ true
among_from k zero i l = absurd (omega arith)
among_from k (suc count) zero l = λ j. (same_level (k + 0) k (omega arith) j) || list_any (same_name (level (k + 0))) (levels_from (suc k) count)
among_from k (suc count) (suc i) l =
    let s : suc k + i ≡ k + suc i = omega arith in
    let r : list_any (same_name (level (k + suc i))) (levels_from (suc k) count) ≡ true = subst (λ j. list_any (same_name (level j)) (levels_from (suc k) count) ≡ true) s (among_from (suc k) count i (omega arith)) in
    go (same_name (level (k + suc i)) (level k)) r
  where
    go : (b : Bool) {r : Bool} → r ≡ true → (b || r) ≡ true
    go true e = refl
    go false e = e

-- names that are levels bring no name
pub no_new_names : (count : ℕ) (xs : List (List ℕ)) → AreLevelsBelow count xs → fold with_name (levels count) xs ≡ levels count
no_new_names count [] h = refl
no_new_names count (x ∷ xs) h = ap (λ names. fold with_name names xs) known ∙ no_new_names count xs h.1
  where
    among : list_any (same_name x) (levels count) ≡ true
    among =
        let y : IsLevelBelow count x = h.0 in
        let e : 0 + y.0 ≡ y.0 = omega arith in
        subst (λ z. list_any (same_name z) (levels count) ≡ true) (sym y.2) (subst (λ j. list_any (same_name (level j)) (levels count) ≡ true) e (among_from 0 count y.0 y.1))

    go : (b : Bool) → b ≡ true → (if b then levels count else levels count ++ x ∷ []) ≡ levels count
    go true e = refl
    go false e = absurd (cc)

    known : with_name (levels count) x ≡ levels count
    known = go (list_any (same_name x) (levels count)) among

pub same_names_after : (count : ℕ) (f : FormulaTree) → AreLevelsBelow count (formula_variables f) → names_after (levels count) f ≡ levels count
same_names_after count f h = no_new_names count (formula_variables f) h

-- ---- formulas below a level

module _ (c : Context) (count : ℕ) where
  AreFormulasBelow : List FormulaTree → Type 0
  AreFormulasBelow = AllByRecursion (IsFormulaBelow c count)

  pub atoms_below : (fs : List FormulaTree) → AllByRecursion (IsFormulaBelow c count) fs → EveryOf (IsOfTheory c) (formulas_of fs)
  atoms_below [] h = tt
  atoms_below (f ∷ fs) h = (h.0.atoms, atoms_below fs h.1)

  pub names_below : (fs : List FormulaTree) → AllByRecursion (IsFormulaBelow c count) fs → AreLevelsBelow count (all_variables (formulas_of fs))
  names_below [] h = tt
  names_below (f ∷ fs) h = all_append (IsLevelBelow count) (formula_variables f) (all_variables (formulas_of fs)) h.0.names (names_below fs h.1)

  pub list_below : (j : Junction) (fs : List FormulaTree) → AllByRecursion (IsFormulaBelow c count) fs → IsFormulaBelow c count (joined j (formulas_of fs))
  list_below Conjunction fs h = record { atoms = atoms_below fs h; names = names_below fs h }
  list_below Disjunction fs h = record { atoms = atoms_below fs h; names = names_below fs h }

  pub joined_below : (j : Junction) (fs : List FormulaTree) → AllByRecursion (IsFormulaBelow c count) fs → IsFormulaBelow c count (joined_of j fs)
  joined_below j [] h = list_below j [] tt
  joined_below j (f ∷ []) h = h.0
  joined_below j (f ∷ g ∷ fs) h = list_below j (f ∷ g ∷ fs) h

  module _ {X : Type 0} (P : X → Type 0) (R : X → X → FormulaTree) (related : (x y : X) → P x → P y → IsFormulaBelow c count (R x y)) where
    pub neighbours_below : (xs : List X) → AllByRecursion P xs → AllByRecursion (IsFormulaBelow c count) (neighbours R xs)
    neighbours_below [] h = tt
    neighbours_below (x ∷ []) h = tt
    neighbours_below (x ∷ y ∷ ys) h = (related x y h.0 h.1.0, neighbours_below (y ∷ ys) h.1)

    all_related : (x : X) → P x → (xs : List X) → AllByRecursion P xs → AllByRecursion (IsFormulaBelow c count) (map (R x) xs)
    all_related x p [] h = tt
    all_related x p (y ∷ ys) h = (related x y p h.0, all_related x p ys h.1)

    pub pairs_below : (xs : List X) → AllByRecursion P xs → AllByRecursion (IsFormulaBelow c count) (pairs R xs)
    pairs_below [] h = tt
    pairs_below (x ∷ xs) h = all_append (IsFormulaBelow c count) (map (R x) xs) (pairs R xs) (all_related x h.0 xs h.1) (pairs_below xs h.1)

  pub implications_below : (f : FormulaTree) (fs : List FormulaTree) → IsFormulaBelow c count f → AllByRecursion (IsFormulaBelow c count) fs → IsFormulaBelow c count (implications f fs)
  implications_below f [] h k = h
  implications_below f (g ∷ gs) h k =
      let r = implications_below g gs k.0 k.1 in
      record { atoms = (h.atoms, r.atoms); names = all_append (IsLevelBelow count) (formula_variables f) (formula_variables (implications g gs)) h.names r.names }

  pub closed_below : {X : Type 0} (q : Quantifier) (n : ℕ) (xs : List X) (f : FormulaTree) → n + length xs ≤ count → IsFormulaBelow c count f → IsFormulaBelow c count (closed q n xs f)
  closed_below q n [] f l h = h
  closed_below Exists n (x ∷ xs) f l h = let r = closed_below Exists (suc n) xs f (omega arith) h in record { atoms = r.atoms; names = ((n, omega arith, refl), r.names) }
  closed_below ForAll n (x ∷ xs) f l h = let r = closed_below ForAll (suc n) xs f (omega arith) h in record { atoms = r.atoms; names = ((n, omega arith, refl), r.names) }

-- the same of the terms of a list
pub terms_below : (count : ℕ) (ts : List TermTree) → AllByRecursion (λ t. AreLevelsBelow count (variables_of t)) ts → AreLevelsBelow count (variables_in (terms_of ts))
terms_below count [] h = tt
terms_below count (t ∷ ts) h = all_append (IsLevelBelow count) (variables_of t) (variables_in (terms_of ts)) h.0 (terms_below count ts h.1)

pub negatives_below : (count : ℕ) (ts : List TermTree) → AllByRecursion (λ t. AreLevelsBelow count (variables_of t)) ts → AllByRecursion (λ t. AreLevelsBelow count (variables_of t)) (map Negative ts)
negatives_below count [] h = tt
negatives_below count (t ∷ ts) h = (h.0, negatives_below count ts h.1)

pub meaning_more : (c : Context) (m n : ℕ) → m ≤ n → (k : Meaning) → IsBelow c m k → IsBelow c n k
meaning_more c m n l (Term t) h = more_levels m n l (variables_of t) h
meaning_more c m n l (operators.Formula f) h = record { atoms = h.atoms; names = more_levels m n l (formula_variables f) h.names }
