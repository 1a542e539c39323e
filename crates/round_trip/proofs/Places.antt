-- The names of a printed tree are those of the list, with the same numbers.
use Rattle.std.proofs.Common.{◌≡◌, inl, inr, ℕ, zero, suc, ◌<◌, Bool, true, false, ◌||◌, List, [], ◌∷◌, ◌++◌, length, map, Some, refl, ap, ◌∙◌, arith, if◌then◌else◌}
use Rattle.std.proofs.Math.IntN.{ℤ, pos, negsuc}
use Rattle.std.specs.Prelude.{unsigned_abs, nat_eq, slice_get}
use Rattle.std.specs.List.{AllByRecursion, IsDistinct, list_any, fold}
use Rattle.std.specs.Ordering.{int_eq}
use Rattle.logic_meaning.specs.Formula.{Yes, No, One, Not, And, Or, Impl, Repl, Equiv, Ex, All, none, also}
use Rattle.logic_meaning.specs.Form.{Form, Term}
use Rattle.logic_meaning.specs.Atom.{Atom, Compare, Congruent}
use Rattle.logic_meaning.specs.Every.{Every, EveryOf, EveryBound, EveryBoundOf}
use Rattle.logic_meaning.specs.Replaced.{all_replaced}
use Rattle.logic_meaning.specs.Tree.{Tree, Trees}
use Rattle.language_meaning.specs.Trees.{TermTree, Named, Product, terms_of, FormulaTrees}
use Rattle.language_meaning.specs.Value.{same_name}
use Rattle.written_syntax.specs.Valued.{IsIn}
use Rattle.language_meaning.specs.Grammar.{sum_of}
use Rattle.logic_meaning.specs.Names.{with_name, place}
use Rattle.language_meaning.specs.Resolving.{variables_of, variables_in, atom_variables, formula_variables, all_variables}
use Rattle.language_meaning.specs.NamesAfter.{names_after}
use Rattle.resolved_formulas.proofs.PlaceLaws.{same_itself, slice_place, one_place}
use Rattle.logic_meaning.specs.Text.{name_at}
use Rattle.formula_laws.specs.Within.{AreTermsWithin, IsAtomWithin}
use Rattle.round_trip.specs.Written.{number_term, signed_term, factor_term, multiple_term, constant_term, later_constant_terms, member_terms, form_term, written_atom, written_formula}
use Rattle.round_trip.proofs.Forms.{AreNumbered}

-- ---- numbers

name_there : (names : List (List ℕ)) (x : ℕ) → x < length names → slice_get names x ≡ Some (name_at names x)
name_there [] x h = absurd (omega arith)
name_there (y ∷ ys) zero h = refl
name_there (y ∷ ys) (suc x) h = name_there ys x (omega arith)

name_in : (names : List (List ℕ)) (x : ℕ) → x < length names → IsIn (name_at names x) names
name_in [] x h = absurd (omega arith)
name_in (y ∷ ys) zero h = inl refl
name_in (y ∷ ys) (suc x) h = inr (name_in ys x (omega arith))

-- the number of the name with a number is this number
pub place_back : (names : List (List ℕ)) (x : ℕ) → IsDistinct same_name names → x < length names → place names (name_at names x) ≡ x
place_back names x d h = one_place names (place names (name_at names x)) x (name_at names x) d (slice_place names (name_at names x) (name_in names x h)) (name_there names x h)

pub terms_numbered : (names : List (List ℕ)) (us : List Term) → IsDistinct same_name names → AreTermsWithin (length names) us → AreNumbered names (place names) us
terms_numbered names [] d h = tt
terms_numbered names (u ∷ us) d h = (place_back names u.name d h.0, terms_numbered names us d h.1)

-- ---- no new name

-- the name is one of the list
abbrev IsAmong : List (List ℕ) → List ℕ → Type 0
IsAmong names x = list_any (same_name x) names ≡ true

or_true : (b : Bool) → (b || true) ≡ true
or_true true = refl
or_true false = refl

name_among : (names : List (List ℕ)) (x : ℕ) → x < length names → IsAmong names (name_at names x)
name_among [] x h = absurd (omega arith)
name_among (y ∷ ys) zero h = ap (λ b. b || list_any (same_name y) ys) (same_itself y)
name_among (y ∷ ys) (suc x) h = ap (λ b. same_name (name_at ys x) y || b) (name_among ys x (omega arith)) ∙ or_true (same_name (name_at ys x) y)

names_stay : (names xs : List (List ℕ)) → AllByRecursion (IsAmong names) xs → fold with_name names xs ≡ names
names_stay names [] h = refl
names_stay names (x ∷ xs) h = ap (λ ns. fold with_name ns xs) (ap (λ b. if b then names else names ++ x ∷ []) h.0) ∙ names_stay names xs h.1

all_both : {X : Type 0} (P : X → Type 0) (xs ys : List X) → AllByRecursion P xs → AllByRecursion P ys → AllByRecursion P (xs ++ ys)
all_both P [] ys h k = k
all_both P (x ∷ xs) ys h k = (h.0, all_both P xs ys h.1 k)

module _ (names : List (List ℕ)) where
  abbrev AreAmong : List (List ℕ) → Type 0
  AreAmong xs = AllByRecursion (IsAmong names) xs

  -- the variables of each term
  abbrev TermsAmong : List TermTree → Type 0
  TermsAmong ts = AllByRecursion (λ (t : TermTree). AreAmong (variables_of t)) ts

  terms_among : (ts : List TermTree) → TermsAmong ts → AreAmong (variables_in (terms_of ts))
  terms_among [] h = tt
  terms_among (t ∷ ts) h = all_both (IsAmong names) (variables_of t) (variables_in (terms_of ts)) h.0 (terms_among ts h.1)

  sum_among : (ts : List TermTree) → TermsAmong ts → AreAmong (variables_of (sum_of ts))
  sum_among [] h = tt
  sum_among (t ∷ []) h = h.0
  sum_among (t ∷ u ∷ more) h = terms_among (t ∷ u ∷ more) h

  signed_among : (z : ℤ) (t : TermTree) → AreAmong (variables_of t) → AreAmong (variables_of (signed_term z t))
  signed_among (pos n) t h = h
  signed_among (negsuc n) t h = h

  factor_among : (n : ℕ) (x : List ℕ) → IsAmong names x → AreAmong (variables_of (factor_term n x))
  factor_among n x h = go (nat_eq n 1)
    where
      go : (b : Bool) → AllByRecursion (IsAmong names) (variables_of (if b then Named x else Product (terms_of (number_term n ∷ Named x ∷ []))))
      go true = (h, tt)
      go false = (h, tt)

  multiple_among : (u : Term) → u.name < length names → AreAmong (variables_of (multiple_term names u))
  multiple_among u h = signed_among u.times (factor_term (unsigned_abs u.times) (name_at names u.name)) (factor_among (unsigned_abs u.times) (name_at names u.name) (name_among names u.name h))

  constant_among : (k : ℤ) → AreAmong (variables_of (constant_term k))
  constant_among k = signed_among k (number_term (unsigned_abs k)) tt

  later_among : (us : List Term) (k : ℤ) → AreTermsWithin (length names) us → TermsAmong (map (multiple_term names) us ++ later_constant_terms k)
  later_among [] k h = go (int_eq k (pos 0))
    where
      go : (b : Bool) → AllByRecursion (λ (t : TermTree). AllByRecursion (IsAmong names) (variables_of t)) (if b then [] else constant_term k ∷ [])
      go true = tt
      go false = (constant_among k, tt)
  later_among (u ∷ us) k h = (multiple_among u h.0, later_among us k h.1)

  form_among : (f : Form) → AreTermsWithin (length names) f.terms → AreAmong (variables_of (form_term names f))
  form_among f h = sum_among (member_terms names f.terms f.constant) (go f.terms h)
    where
      go : (us : List Term) → AreTermsWithin (length names) us → AllByRecursion (λ (t : TermTree). AllByRecursion (IsAmong names) (variables_of t)) (member_terms names us f.constant)
      go [] h = (constant_among f.constant, tt)
      go (u ∷ us) h = (multiple_among u h.0, later_among us f.constant h.1)

  atom_among : (a : Atom) → IsAtomWithin (length names) a → AreAmong (atom_variables (written_atom names a))
  atom_among (Compare r f) h = all_both (IsAmong names) (variables_of (form_term names f)) [] (form_among f h) tt
  atom_among (Congruent true m f) h = all_both (IsAmong names) (variables_of (form_term names f)) [] (form_among f h) tt
  atom_among (Congruent false m f) h = all_both (IsAmong names) (variables_of (form_term names f)) [] (form_among f h) tt

  abbrev written_members : Trees → FormulaTrees
  written_members fs = all_replaced (λ a. One (written_atom names a)) (name_at names) fs

  mutual
    formula_among : (f : Tree) → Every (IsAtomWithin (length names)) f → EveryBound (λ x. x < length names) f → AreAmong (formula_variables (written_formula names f))
    formula_among Yes h k = tt
    formula_among No h k = tt
    formula_among (One a) h k = atom_among a h
    formula_among (Not f) h k = formula_among f h k
    formula_among (And fs) h k = formulas_among fs h k
    formula_among (Or fs) h k = formulas_among fs h k
    formula_among (Impl f g) h k = all_both (IsAmong names) (formula_variables (written_formula names f)) (formula_variables (written_formula names g)) (formula_among f h.0 k.0) (formula_among g h.1 k.1)
    formula_among (Repl f g) h k = all_both (IsAmong names) (formula_variables (written_formula names f)) (formula_variables (written_formula names g)) (formula_among f h.0 k.0) (formula_among g h.1 k.1)
    formula_among (Equiv f g) h k = all_both (IsAmong names) (formula_variables (written_formula names f)) (formula_variables (written_formula names g)) (formula_among f h.0 k.0) (formula_among g h.1 k.1)
    formula_among (Ex x f) h k = (name_among names x k.0, formula_among f h k.1)
    formula_among (All x f) h k = (name_among names x k.0, formula_among f h k.1)

    formulas_among : (fs : Trees) → EveryOf (IsAtomWithin (length names)) fs → EveryBoundOf (λ x. x < length names) fs → AreAmong (all_variables (written_members fs))
    formulas_among none h k = tt
    formulas_among (also f fs) h k = all_both (IsAmong names) (formula_variables (written_formula names f)) (all_variables (written_members fs)) (formula_among f h.0 k.0) (formulas_among fs h.1 k.1)

-- the written formula brings no new name
pub no_new_name : (names : List (List ℕ)) (f : Tree) → Every (IsAtomWithin (length names)) f → EveryBound (λ x. x < length names) f → names_after names (written_formula names f) ≡ names
no_new_name names f h k = names_stay names (formula_variables (written_formula names f)) (formula_among names f h k)
