-- The names of constraints: each stands once in their list, which has all names of what they are read as.
use Rattle.std.proofs.Common.{◌≡◌, inl, inr, ⊎_elim, ℕ, ◌<◌, List, [], ◌∷◌, ◌++◌, map, length, Bool, true, false, Some, if◌then◌else◌, sym, ap, ◌∙◌, subst, refl}
use Rattle.std.proofs.lemmas.Bool.{false≢true}
use Rattle.std.specs.Prelude.{slice_get}
use Rattle.std.specs.List.{AllByRecursion, IsDistinct, fold, list_any}
use Rattle.logic_meaning.specs.Context.{Fields}
use Rattle.formula_laws.specs.StandsOnce.{StandsOnce}
use Rattle.logic_meaning.specs.Formula.{One, none, also}
use Rattle.logic_meaning.specs.Some.{SomeOf, Among}
use Rattle.logic_meaning.specs.Tree.{IsFree}
use Rattle.language_meaning.specs.Trees.{Compare, FormulaTree, FormulaTrees}
use Rattle.language_meaning.specs.Value.{same_name}
use Rattle.written_syntax.specs.Valued.{IsIn}
use Rattle.written_syntax.proofs.EntryLists.{each_push, some_split}
use Rattle.written_syntax.specs.ConstraintLists.{AreConstraints}
use Rattle.logic_meaning.specs.Names.{with_name, place}
use Rattle.language_meaning.specs.Resolving.{resolve, formula_variables, all_variables, IsFreeInPlace}
use Rattle.resolved_formulas.proofs.Nowhere.{mentioned_have}
use Rattle.resolved_formulas.proofs.PlaceLaws.{same_itself, slice_place, in_either, after_has, after_distinct}
use Rattle.resolved_formulas.proofs.ResolvedNames.{resolving_brings_no_name}
use Rattle.linear_theory.specs.Theorems.{AreOver}
use Rattle.logic_meaning.specs.Values.{Value, value_names}
use Rattle.redlog_printer.specs.Within.{AreValuesWithin}
use Rattle.program_meaning.specs.Certificates.{constrained_names, constraints_of}
use Rattle.program_meaning.specs.State.{State, known}
use Rattle.session_state.proofs.NameLemmas.{place_below, variables_in_names}
use Rattle.form_commands.specs.Reading.{HasNumbers, IsReadable, AreNumbered, AreReadable}
use Rattle.constraint_queries.proofs.CauseSteps.{IsComparison, comparison}
use Rattle.constraint_queries.proofs.ConstraintTrees.{resolved_bound, constraint_named}

-- ---- names that are put in

-- what holds of the names and of those that are put in holds of all
module _ (P : List ℕ → Type 0) where
  with_one : (names : List (List ℕ)) (x : List ℕ) → AllByRecursion P names → P x → AllByRecursion P (with_name names x)
  with_one names x h k = go (list_any (same_name x) names)
    where
      go : (b : Bool) → AllByRecursion P (if b then names else names ++ x ∷ [])
      go true = h
      go false = each_push P names x h k

  each_put_in : (names xs : List (List ℕ)) → AllByRecursion P names → AllByRecursion P xs → AllByRecursion P (fold with_name names xs)
  each_put_in names [] h k = h
  each_put_in names (x ∷ xs) h k = each_put_in (with_name names x) xs (with_one names x h k.0) k.1

  each_in : (xs : List (List ℕ)) → ((x : List ℕ) → IsIn x xs → P x) → AllByRecursion P xs
  each_in [] h = tt
  each_in (x ∷ xs) h = (h x (inl refl), each_in xs (λ y i. h y (inr i)))

-- ---- places

module _ (names : List (List ℕ)) where
  abbrev Has : List ℕ → Type 0
  Has x = IsIn x names

  same_place : (x y : List ℕ) → Has x → Has y → place names x ≡ place names y → same_name x y ≡ true
  same_place x y h k e =
      let both : Some x ≡ Some y = sym (slice_place names x h) ∙ ap (slice_get names) e ∙ slice_place names y k in
      let p : x ≡ y = cc in
      sym (ap (same_name x) p) ∙ same_itself x

  apart : (x : List ℕ) (own : List (List ℕ)) → Has x → AllByRecursion Has own → AllByRecursion (λ y. same_name x y ≡ false) own → ¬ (SomeOf (λ n. place names x ≡ n) (map (place names) own))
  apart x [] h k d e = e
  apart x (y ∷ own) h k d (inl e) = false≢true (sym d.0 ∙ same_place x y h k.0 e)
  apart x (y ∷ own) h k d (inr e) = apart x own h k.1 d.1 e

  places_once : (own : List (List ℕ)) → AllByRecursion Has own → IsDistinct same_name own → StandsOnce (map (place names) own)
  unfolding IsDistinct
  places_once [] h d = tt
  places_once (x ∷ own) h d = (apart x own h.0 h.1 d.0, places_once own h.1 d.1)

  places_below : (own : List (List ℕ)) → AllByRecursion Has own → AllByRecursion (λ n. n < length names) (map (place names) own)
  places_below [] h = tt
  places_below (x ∷ own) h = (place_below names x h.0, places_below own h.1)

  place_among : (own : List (List ℕ)) (x : List ℕ) (n : ℕ) → IsIn x own → place names x ≡ n → Among (map (place names) own) n
  place_among [] x n h e = absurd h
  place_among (y ∷ own) x n (inl p) e = inl (ap (place names) p ∙ e)
  place_among (y ∷ own) x n (inr h) e = inr (place_among own x n h e)

-- ---- constraints

numbered_has : (names : List (List ℕ)) (fs : FormulaTrees) → AreNumbered names fs → (x : List ℕ) → IsIn x (all_variables fs) → IsIn x names
numbered_has names none numbers x i = absurd i
numbered_has names (also g gs) numbers x i = ⊎_elim (variables_in_names g names numbers.0 x) (numbered_has names gs numbers.1 x) (some_split (λ y. y ≡ x) (formula_variables g) (all_variables gs) i)

-- a number that is free in what a comparison is read as is that of one of its variables
pub free_named : (s : State) (f : FormulaTree) → IsComparison f → HasNumbers s.names f → IsReadable s f → (n : ℕ) → IsFree (resolve s.context (known s) s.names f) n → (x : List ℕ) × IsIn x (formula_variables f) × (place s.names x ≡ n)
free_named s f h number readable n free =
    let there = subst (λ ns. IsFree (resolve s.context (known s) ns f) n → IsFreeInPlace (known s) (place ns) f n) number (resolving_brings_no_name s.context (known s) s.names f readable n) free in
    let found = subst (λ g. IsFreeInPlace (known s) (place s.names) g n) h.is there in
    let mentioned = subst (λ g. IsIn found.0 (formula_variables g)) (sym h.is) (mentioned_have (λ x. IsIn x (formula_variables (One (Compare h.relation h.left h.right)))) (One (Compare h.relation h.left h.right)) (λ x i. i) found.0 found.1) in
    (found.0, mentioned, found.2)

module _ (s : State) (written : FormulaTrees) (numbers : AreNumbered s.names written) where
  abbrev own : List (List ℕ)
  own = fold with_name [] (all_variables written)

  own_numbered : AllByRecursion (λ x. IsIn x s.names) own
  own_numbered = each_put_in (λ x. IsIn x s.names) [] (all_variables written) tt (each_in (λ x. IsIn x s.names) (all_variables written) (numbered_has s.names written numbers))

  own_distinct : IsDistinct same_name own
  unfolding IsDistinct
  own_distinct = after_distinct (all_variables written) [] tt

  pub constrained_once : StandsOnce (constrained_names s written)
  constrained_once = places_once s.names own own_numbered own_distinct

  -- values of these names have them below the count of the names
  pub values_within : (values : List Value) → value_names values ≡ constrained_names s written → AreValuesWithin (length s.names) values
  values_within values e = go values (subst (AllByRecursion (λ n. n < length s.names)) (sym e) (places_below s.names own own_numbered))
    where
      go : (vs : List Value) → AllByRecursion (λ n. n < length s.names) (value_names vs) → AreValuesWithin (length s.names) vs
      go [] h = tt
      go (v ∷ vs) h = (h.0, go vs h.1)

  -- each name of a constraint is one of them
  module _ (fields : s.context ≡ Fields) where
    each_over : (fs : FormulaTrees) → ((x : List ℕ) → IsIn x (all_variables fs) → IsIn x own) → AreNumbered s.names fs → AreConstraints fs → AreReadable s fs → AreOver (constrained_names s written) (constraints_of s fs)
    each_over none within number constraints readable = tt
    each_over (also g gs) within number constraints readable =
        let h = comparison g constraints.0 in (
          λ y k.
              let r = free_named s g h number.0 readable.0 y (constraint_named (resolve s.context (known s) s.names g) (resolved_bound s g fields h) y k) in
              place_among s.names own r.0 y (within r.0 (in_either r.0 (formula_variables g) (all_variables gs) (inl r.1))) r.2,
          each_over gs (λ x i. within x (in_either x (formula_variables g) (all_variables gs) (inr i))) number.1 constraints.1 readable.1,
        )

    pub over_constrained : AreConstraints written → AreReadable s written → AreOver (constrained_names s written) (constraints_of s written)
    over_constrained constraints readable = each_over written (λ x i. after_has (all_variables written) [] x (inr i)) numbers constraints readable
