-- The first cause that is met is the first that applies.
use Rattle.std.proofs.Common.{◌≡◌, ◌⊎◌, inl, inr, ⊎_elim, ℕ, ◌<◌, Bool, true, false, ◌||◌, List, [], ◌∷◌, ◌++◌, Option, Some, None, refl, arith, subst, sym, ◌∙◌}
use Rattle.std.specs.Prelude.{◌↔◌, is_some, nat_lt}
use Rattle.std.specs.List.{list_any}
use Rattle.std.proofs.lemmas.List.Folds.{list_any-append}
use Rattle.logic_meaning.specs.Context.{Context, Fields, Integers}
use Rattle.logic_meaning.specs.Formula.{Formula, Formulas, Yes, No, One, Not, And, Or, Impl, Repl, Equiv, Ex, All, none, also}
use Rattle.logic_meaning.specs.Some.{EachOf}
use Rattle.logic_meaning.specs.Tree.{Tree}
use Rattle.language_meaning.specs.Trees as term
use Rattle.language_meaning.specs.Trees.{TermTree, TermTrees, Number, Named, Sum, Product, Quotient, Power, Negative, WrittenAtom, Compare, Cong, Ncong, Bound, FormulaTree, FormulaTrees}
use Rattle.language_meaning.specs.Value.{HasName, HaveName, Mentions}
use Rattle.logic_meaning.specs.Bindings.{bound_to}
use Rattle.language_meaning.specs.Somewhere.{Somewhere, SomewhereIn, SomeAtom}
use Rattle.language_meaning.specs.Causes as cause
use Rattle.language_meaning.specs.Causes.{most_height, height_in_place, IsBound, SomeTerm, HasPast, PassesInReading}
use Rattle.written_atoms.specs.FromResolvedFormulas.{IsAccepted}
use Rattle.language_meaning.specs.Resolving.{BoundTrees, variables_of, variables_in, atom_variables, formula_variables, all_variables}
use Rattle.logic_meaning.specs.Names.{place}
use Rattle.language_meaning.specs.NamesAfter.{names_after}
use Rattle.language_meaning.specs.declared.static_error.StaticError.{StaticError}
use Rattle.language_meaning.specs.declared.static_error.StaticError.TheVariants.{Unbound, FormulaAsTerm, Nonlinear, Division, CongruenceContext, Modulus, Depth, Overflow, Memory}
use Rattle.formula_resolving.specs.declared.causes.Causes.{Causes}
use Rattle.language_meaning.specs.Refusals.{before, Applies, IsFirst}
use Rattle.formula_resolving.specs.FirstCause.{IsFirstCause}
use Rattle.formula_resolving.specs.Numbering.{some_bound}
use Rattle.formula_resolving.specs.MetCauses.{is_met, IsFirstOf, CongruenceIn}
use Rattle.formula_resolving.specs.Heights.{told}
use Rattle.formula_resolving.specs.Parts.{AreTold}
use Rattle.formula_resolving.proofs.OrderFacts.{no_memory}
use Rattle.formula_resolving.proofs.FirstCause.{or_true}

-- ---- bound names as variables

or_iff : (P Q : Type 0) (a b : Bool) → (a ≡ true) ↔ P → (b ≡ true) ↔ Q → ((a || b) ≡ true) ↔ (P ⊎ Q)
or_iff P Q a b f g = (
  λ t. ⊎_elim (λ (i : a ≡ true). inl (f.0 i)) (λ (i : b ≡ true). inr (g.0 i)) ((or_true a b).0 t),
  λ s. (or_true a b).1 (⊎_elim (λ i. inl (f.1 i)) (λ i. inr (g.1 i)) s),
)

either_one : (P Q K : List ℕ → Type 0) → (((x : List ℕ) × P x × K x) ⊎ ((x : List ℕ) × Q x × K x)) ↔ ((x : List ℕ) × (P x ⊎ Q x) × K x)
either_one P Q K = (
  λ s. ⊎_elim (λ (h : (x : List ℕ) × P x × K x). (h.0, inl h.1, h.2)) (λ (h : (x : List ℕ) × Q x × K x). (h.0, inr h.1, h.2)) s,
  λ h. ⊎_elim (λ i. inl (h.0, i, h.2)) (λ i. inr (h.0, i, h.2)) h.1,
)

iff_then : (P Q R : Type 0) → P ↔ Q → Q ↔ R → P ↔ R
iff_then P Q R f g = (λ p. g.0 (f.0 p), λ r. f.1 (g.1 r))

module _ (test : List ℕ → Bool) (K : List ℕ → Type 0) (tests : (x : List ℕ) → (test x ≡ true) ↔ K x) where
  -- the test passes somewhere in both lists
  any_both : (P Q : Type 0) (xs ys : List (List ℕ)) → (list_any test xs ≡ true) ↔ P → (list_any test ys ≡ true) ↔ Q → (list_any test (xs ++ ys) ≡ true) ↔ (P ⊎ Q)
  any_both P Q xs ys f g = let h = or_iff P Q (list_any test xs) (list_any test ys) f g in let e = list_any-append test xs ys in (λ t. h.0 (sym e ∙ t), λ s. e ∙ h.1 s)

  any_alone : (x : List ℕ) → (list_any test (x ∷ []) ≡ true) ↔ ((y : List ℕ) × (x ≡ y) × K y)
  any_alone x = (
    λ t. (x, refl, (tests x).0 (⊎_elim (λ (i : test x ≡ true). i) (λ (i : false ≡ true). absurd (cc)) ((or_true (test x) false).0 t))),
    λ h. (or_true (test x) false).1 (inl ((tests x).1 (subst K (sym h.1) h.2))),
  )

  none_any : (list_any test [] ≡ true) ↔ ⊥
  none_any = (λ t. absurd (cc), λ n. absurd n)

  mutual
    any_term : (t : TermTree) → (list_any test (variables_of t) ≡ true) ↔ ((x : List ℕ) × HasName t x × K x)
    any_term (Number n) = (λ t. absurd (cc), λ h. absurd h.1)
    any_term (Named x) = any_alone x
    any_term (Sum ts) = any_terms ts
    any_term (Product ts) = any_terms ts
    any_term (Quotient s t) = iff_then _ _ _ (any_both _ _ (variables_of s) (variables_of t) (any_term s) (any_term t)) (either_one (HasName s) (HasName t) K)
    any_term (Power t n) = any_term t
    any_term (Negative t) = any_term t

    any_terms : (ts : TermTrees) → (list_any test (variables_in ts) ≡ true) ↔ ((x : List ℕ) × HaveName ts x × K x)
    any_terms term.none = (λ t. absurd (cc), λ h. absurd h.1)
    any_terms (term.also t ts) = iff_then _ _ _ (any_both _ _ (variables_of t) (variables_in ts) (any_term t) (any_terms ts)) (either_one (HasName t) (HaveName ts) K)

  any_three : (s t m : TermTree) → (list_any test (variables_of s ++ (variables_of t ++ variables_of m)) ≡ true) ↔ ((x : List ℕ) × (HasName s x ⊎ (HasName t x ⊎ HasName m x)) × K x)
  any_three s t m =
      iff_then _ _ _
      (any_both _ _ (variables_of s) (variables_of t ++ variables_of m) (any_term s) (iff_then _ _ _ (any_both _ _ (variables_of t) (variables_of m) (any_term t) (any_term m)) (either_one (HasName t) (HasName m) K)))
      (either_one (HasName s) (λ x. HasName t x ⊎ HasName m x) K)

  any_atom : (a : WrittenAtom) → (list_any test (atom_variables a) ≡ true) ↔ ((x : List ℕ) × Mentions a x × K x)
  any_atom (Compare rel s t) = iff_then _ _ _ (any_both _ _ (variables_of s) (variables_of t) (any_term s) (any_term t)) (either_one (HasName s) (HasName t) K)
  any_atom (Cong s t m) = any_three s t m
  any_atom (Ncong s t m) = any_three s t m
  any_atom (Bound x) = (λ t. absurd (cc), λ h. absurd h.1)

  mutual
    any_formula : (f : FormulaTree) → (list_any test (formula_variables f) ≡ true) ↔ Somewhere (λ a. (x : List ℕ) × Mentions a x × K x) K f
    any_formula Yes = none_any
    any_formula No = none_any
    any_formula (One a) = any_atom a
    any_formula (Not f) = any_formula f
    any_formula (And fs) = any_formulas fs
    any_formula (Or fs) = any_formulas fs
    any_formula (Impl f g) = any_both _ _ (formula_variables f) (formula_variables g) (any_formula f) (any_formula g)
    any_formula (Repl f g) = any_both _ _ (formula_variables f) (formula_variables g) (any_formula f) (any_formula g)
    any_formula (Equiv f g) = any_both _ _ (formula_variables f) (formula_variables g) (any_formula f) (any_formula g)
    any_formula (Ex x f) = or_iff _ _ (test x) (list_any test (formula_variables f)) (tests x) (any_formula f)
    any_formula (All x f) = or_iff _ _ (test x) (list_any test (formula_variables f)) (tests x) (any_formula f)

    any_formulas : (fs : FormulaTrees) → (list_any test (all_variables fs) ≡ true) ↔ SomewhereIn (λ a. (x : List ℕ) × Mentions a x × K x) K fs
    any_formulas none = none_any
    any_formulas (also f fs) = any_both _ _ (formula_variables f) (all_variables fs) (any_formula f) (any_formulas fs)

is_bound_test : (bound : BoundTrees) (x : List ℕ) → (is_some (bound_to bound x) ≡ true) ↔ IsBound bound x
is_bound_test bound x = go (bound_to bound x) refl
  where
    go : (o : Option Tree) → bound_to bound x ≡ o → (is_some o ≡ true) ↔ IsBound bound x
    go None e = (λ t. absurd (cc), λ h. absurd (let t = sym h.1 ∙ e in cc))
    go (Some f) e = (λ t. (f, e), λ h. refl)

named_iff : (bound : BoundTrees) (f : FormulaTree) → (some_bound bound (formula_variables f) ≡ true) ↔ cause.NamesFormulaAsTerm bound f
named_iff bound f = any_formula (λ x. is_some (bound_to bound x)) (IsBound bound) (is_bound_test bound) f

-- nothing is bound
pub none_bound : (xs : List (List ℕ)) → some_bound {Id = Tree} [] xs ≡ false
none_bound [] = refl
none_bound (x ∷ xs) = none_bound xs

-- ---- what stands in atoms

swap_sums : (X Y U V : Type 0) → (X ⊎ Y) ⊎ (U ⊎ V) → (X ⊎ U) ⊎ (Y ⊎ V)
swap_sums X Y U V (inl (inl i)) = inl (inl i)
swap_sums X Y U V (inl (inr i)) = inr (inl i)
swap_sums X Y U V (inr (inl i)) = inl (inr i)
swap_sums X Y U V (inr (inr i)) = inr (inr i)

map_sum : (X Y U V : Type 0) → (X → U) → (Y → V) → X ⊎ Y → U ⊎ V
map_sum X Y U V f g = ⊎_elim (λ i. inl (f i)) (λ i. inr (g i))

module _ {A N : Type 0} where
  mutual
    never_stands : (f : Formula A N) → ¬ (SomeAtom (λ (a : A). ⊥) f)
    never_stands Yes h = h
    never_stands No h = h
    never_stands (One a) h = h
    never_stands (Not f) h = never_stands f h
    never_stands (And fs) h = never_stands_in fs h
    never_stands (Or fs) h = never_stands_in fs h
    never_stands (Impl f g) h = ⊎_elim (never_stands f) (never_stands g) h
    never_stands (Repl f g) h = ⊎_elim (never_stands f) (never_stands g) h
    never_stands (Equiv f g) h = ⊎_elim (never_stands f) (never_stands g) h
    never_stands (Ex x f) h = ⊎_elim (λ n. n) (never_stands f) h
    never_stands (All x f) h = ⊎_elim (λ n. n) (never_stands f) h

    never_stands_in : (fs : Formulas A N) → ¬ (SomewhereIn (λ (a : A). ⊥) (λ (x : N). ⊥) fs)
    never_stands_in none h = h
    never_stands_in (also f fs) h = ⊎_elim (never_stands f) (never_stands_in fs) h

  module _ (P Q : A → Type 0) where
    mutual
      -- one of two stands in an atom where one of them stands in an atom
      one_stands : (f : Formula A N) → SomeAtom (λ a. P a ⊎ Q a) f → SomeAtom P f ⊎ SomeAtom Q f
      one_stands Yes h = absurd h
      one_stands No h = absurd h
      one_stands (One a) h = h
      one_stands (Not f) h = one_stands f h
      one_stands (And fs) h = one_stands_in fs h
      one_stands (Or fs) h = one_stands_in fs h
      one_stands (Impl f g) h = swap_sums _ _ _ _ (map_sum _ _ _ _ (one_stands f) (one_stands g) h)
      one_stands (Repl f g) h = swap_sums _ _ _ _ (map_sum _ _ _ _ (one_stands f) (one_stands g) h)
      one_stands (Equiv f g) h = swap_sums _ _ _ _ (map_sum _ _ _ _ (one_stands f) (one_stands g) h)
      one_stands (Ex x f) h = ⊎_elim (λ n. absurd n) (λ i. map_sum _ _ _ _ (λ j. inr j) (λ j. inr j) (one_stands f i)) h
      one_stands (All x f) h = ⊎_elim (λ n. absurd n) (λ i. map_sum _ _ _ _ (λ j. inr j) (λ j. inr j) (one_stands f i)) h

      one_stands_in : (fs : Formulas A N) → SomewhereIn (λ a. P a ⊎ Q a) (λ x. ⊥) fs → SomewhereIn P (λ x. ⊥) fs ⊎ SomewhereIn Q (λ x. ⊥) fs
      one_stands_in none h = absurd h
      one_stands_in (also f fs) h = swap_sums _ _ _ _ (map_sum _ _ _ _ (one_stands f) (one_stands_in fs) h)

  module _ (P R : A → Type 0) (k : (a : A) → P a → R a) where
    mutual
      stands_map : (f : Formula A N) → SomeAtom P f → SomeAtom R f
      stands_map Yes h = h
      stands_map No h = h
      stands_map (One a) h = k a h
      stands_map (Not f) h = stands_map f h
      stands_map (And fs) h = stands_map_in fs h
      stands_map (Or fs) h = stands_map_in fs h
      stands_map (Impl f g) h = ⊎_elim (λ i. inl (stands_map f i)) (λ i. inr (stands_map g i)) h
      stands_map (Repl f g) h = ⊎_elim (λ i. inl (stands_map f i)) (λ i. inr (stands_map g i)) h
      stands_map (Equiv f g) h = ⊎_elim (λ i. inl (stands_map f i)) (λ i. inr (stands_map g i)) h
      stands_map (Ex x f) h = ⊎_elim (λ n. absurd n) (λ i. inr (stands_map f i)) h
      stands_map (All x f) h = ⊎_elim (λ n. absurd n) (λ i. inr (stands_map f i)) h

      stands_map_in : (fs : Formulas A N) → SomewhereIn P (λ x. ⊥) fs → SomewhereIn R (λ x. ⊥) fs
      stands_map_in none h = h
      stands_map_in (also f fs) h = ⊎_elim (λ i. inl (stands_map f i)) (λ i. inr (stands_map_in fs i)) h

congruence_iff : (c : Context) (f : FormulaTree) → SomeAtom (CongruenceIn c) f ↔ cause.CongruenceInFields c f
congruence_iff Fields f = (λ h. h, λ h. h)
congruence_iff Integers f = (never_stands f, λ n. absurd n)

overflow_iff : (P Q : WrittenAtom → Type 0) (f : FormulaTree) → SomeAtom (λ a. P a ⊎ Q a) f ↔ (SomeAtom P f ⊎ SomeAtom Q f)
overflow_iff P Q f = (one_stands P Q f, ⊎_elim (stands_map P (λ a. P a ⊎ Q a) (λ a i. inl i) f) (stands_map Q (λ a. P a ⊎ Q a) (λ a i. inr i) f))

above_iff : (m h : ℕ) → m ≡ told h → (nat_lt most_height m ≡ true) ↔ (most_height < h)
above_iff m h e = (λ t. (let l : most_height < m = grind arith in omega arith), λ l. (let k : most_height < m = omega arith in grind arith))

-- ---- all causes

module _ (c : Context) (bound : BoundTrees) (names : List (List ℕ)) (f : FormulaTree) (k : Causes) (named : Bool) (h : ℕ)
    (causes : AreTold c bound (names_after names f) f k) (terms : named ≡ some_bound bound (formula_variables f)) (high : h ≡ told (height_in_place bound f)) where
  met_applies : (e : StaticError) → ¬ (e ≡ Memory) → (is_met named k h e ≡ true) ↔ Applies c bound names f e
  met_applies Unbound n = causes Unbound
  met_applies FormulaAsTerm n = let i = named_iff bound f in (λ t. i.0 (sym terms ∙ t), λ s. terms ∙ i.1 s)
  met_applies Nonlinear n = causes Nonlinear
  met_applies Division n = causes Division
  met_applies CongruenceContext n = iff_then _ _ _ (causes CongruenceContext) (congruence_iff c f)
  met_applies Modulus n = causes Modulus
  met_applies Depth n = above_iff h (height_in_place bound f) high
  met_applies Overflow n = iff_then _ _ _ (causes Overflow) (overflow_iff (SomeTerm HasPast) (PassesInReading c bound (place (names_after names f))) f)
  met_applies Memory n = absurd (n refl)

  unmet_not : (e : StaticError) → ¬ (e ≡ Memory) → is_met named k h e ≡ false → ¬ (Applies c bound names f e)
  unmet_not e n i a = let t = (met_applies e n).1 a in absurd (cc)

  pub accepted : ((e : StaticError) → is_met named k h e ≡ false) → IsAccepted c bound names f
  accepted n = record {
    bound_names = unmet_not Unbound (λ e. cc) (n Unbound);
    variables = unmet_not FormulaAsTerm (λ e. cc) (n FormulaAsTerm);
    linear = unmet_not Nonlinear (λ e. cc) (n Nonlinear);
    undivided = unmet_not Division (λ e. cc) (n Division);
    congruences = unmet_not CongruenceContext (λ e. cc) (n CongruenceContext);
    moduli = unmet_not Modulus (λ e. cc) (n Modulus);
    flat = unmet_not Depth (λ e. cc) (n Depth);
    within = unmet_not Overflow (λ e. cc) (n Overflow);
  }

  none_applies : (ds : List StaticError) → EachOf (λ d. ¬ (d ≡ Memory)) ds → EachOf (λ d. is_met named k h d ≡ false) ds → EachOf (λ d. ¬ (Applies c bound names f d)) ds
  none_applies [] n i = tt
  none_applies (d ∷ ds) n i = (unmet_not d n.0 i.0, none_applies ds n.1 i.1)

  first_of : (e : StaticError) → ¬ (e ≡ Memory) → IsFirstOf (is_met named k h) e → IsFirst c bound names f e
  first_of e n i = record { applies = (met_applies e n).0 i.met; first = none_applies (before e) (no_memory e) i.first }

  pub refused : (e : StaticError) → IsFirstOf (is_met named k h) e → IsFirstCause c bound names f e
  refused Unbound i = first_of Unbound (λ e. cc) i
  refused FormulaAsTerm i = first_of FormulaAsTerm (λ e. cc) i
  refused Nonlinear i = first_of Nonlinear (λ e. cc) i
  refused Division i = first_of Division (λ e. cc) i
  refused CongruenceContext i = first_of CongruenceContext (λ e. cc) i
  refused Modulus i = first_of Modulus (λ e. cc) i
  refused Depth i = first_of Depth (λ e. cc) i
  refused Overflow i = first_of Overflow (λ e. cc) i
  refused Memory i = tt
