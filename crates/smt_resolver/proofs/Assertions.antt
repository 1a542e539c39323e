-- What becomes of an assertion, from what is read of it.
use Rattle.std.proofs.Common.{◌≡◌, ◌⊎◌, inl, inr, ◌≤◌, ◌+◌, ℕ, List, [], true, false, Option, Some, None, length, refl, sym, ap, subst}
use Rattle.std.specs.Prelude.{IsSome}
use Rattle.logic_meaning.specs.Context.{Context}
use Rattle.logic_meaning.specs.Tree.{Tree}
use Rattle.language_meaning.specs.Trees.{FormulaTree}
use Rattle.resolved_formulas.specs.Accepted.{IsAccepted}
use Rattle.language_meaning.specs.Resolving.{formula_variables}
use Rattle.formula_resolving.specs.MetCauses.{IsRefused}
use Rattle.formula_resolving.specs.Parts.{AreTold, IsToldAlone}
use Rattle.formula_resolving.specs.FirstCause.{IsFirstCause}
use Rattle.language_meaning.specs.declared.static_error.StaticError.{StaticError}
use Rattle.language_meaning.specs.declared.static_error.StaticError.TheVariants as static
use Rattle.formula_resolving.specs.declared.parts.Part.{Part}
use Rattle.smt_language.specs.Trees.{ExpressionTree}
use Rattle.smt_meaning.specs.Atoms.{IsFormulaBelow}
use Rattle.smt_language.specs.QuantifiedNames.{quantified_names}
use Rattle.smt_language.specs.Levels.{levels}
use Rattle.smt_meaning.specs.LevelsBelow.{AreLevelsBelow}
use Rattle.smt_language.specs.Meaning.{Scope, meaning, declared_scope, as_formula}
use Rattle.smt_language.specs.Operators.{Meaning, Formula}
use Rattle.smt_meaning.specs.Proper.{IsProper}
use Rattle.smt_meaning.proofs.Levels.{same_names_after}
use Rattle.smt_meaning.proofs.MeaningNames.{levels_suffice}
use Rattle.smt_resolver.specs.declared.sized.Sized.{Sized}
use Rattle.smt_resolver.specs.declared.sized.Sized.TheVariants.{Within, TooLarge}
use Rattle.smt_resolver.specs.declared.value.Value.{Value}
use Rattle.smt_resolver.specs.declared.value.Value.TheVariants as value
use Rattle.smt_resolver.specs.Readings.{IsMeant, IsScope}
use Rattle.smt_resolver.specs.Values.{IsFormulaValue, IsLevelPart}
use Rattle.smt_resolver.proofs.ReadingLaws.{some_same, term_read, formula_read}
use Rattle.smt_language.specs.Asserted.{assertion_levels, is_undeclared, MeansFormula, MeansWithin, MeansNoFormula, MeansTooMany}
use Rattle.smt_resolver.specs.Outcomes.{IsAsserted, IsRefusedFor, told_as}
use Rattle.smt_language.specs.Known.{declared_known}
use Rattle.smt_resolver.specs.KnownAt.{IsKnownAt}
use Rattle.smt_resolver.specs.Reading.{IsReading}
use Rattle.smt_resolver.specs.declared.error.AssertError.{AssertError}
use Rattle.smt_resolver.proofs.Possible.{never_unbound, never_as_term, never_congruent, never_bad_modulus}

unsaid : false ≡ true → ⊥
unsaid e = absurd (cc)

-- the other causes have no word
pub never_told : (k : StaticError) → (k ≡ static.Unbound) ⊎ ((k ≡ static.FormulaAsTerm) ⊎ ((k ≡ static.CongruenceContext) ⊎ (k ≡ static.Modulus))) → IsSome (told_as k) → ⊥
never_told k (inl e) s = unsaid (subst (λ j. IsSome (told_as j)) e s)
never_told k (inr (inl e)) s = unsaid (subst (λ j. IsSome (told_as j)) e s)
never_told k (inr (inr (inl e))) s = unsaid (subst (λ j. IsSome (told_as j)) e s)
never_told k (inr (inr (inr e))) s = unsaid (subst (λ j. IsSome (told_as j)) e s)

-- nothing is bound at first
pub known_first : (declared : List (List ℕ)) → IsKnownAt {V = Unit {0}} declared [] (declared_known declared)
known_first declared x = refl

module _ {Id : Type 0} (c : Context) (limit : ℕ) (declared : List (List ℕ)) (P : Id → Type 0) (t : Id → Tree) (Q : Id → Type 0) (u : Id → Tree) (after : List (List (List ℕ × Value Id))) (e : ExpressionTree) where
  -- what is read first, with no places
  pub first_reading : (before : List (List (List ℕ × Value Id))) (level : ℕ) (r v : Option (Value Id)) → IsReading c limit declared P t Q u before after (λ s. meaning c s level e) r → before ≡ [] → level ≡ length declared → r ≡ v → IsReading c limit declared P t Q u [] after (λ s. meaning c s (length declared) e) v
  first_reading before level r v h b l i =
      subst (λ fs. IsReading c limit declared P t Q u fs after (λ s. meaning c s (length declared) e) v) b
      (subst (λ n. IsReading c limit declared P t Q u before after (λ s. meaning c s n e) v) l (subst (IsReading c limit declared P t Q u before after (λ s. meaning c s level e)) i h))

  pub first_scope : IsScope c limit declared P t [] (declared_scope declared)
  first_scope x = refl

  abbrev meant : Scope → Option Meaning
  meant s = meaning c s (length declared) e

  -- ---- no formula

  none_meant : (o : Option Meaning) → IsMeant c limit Q u o None → as_formula o ≡ None
  none_meant None h = refl
  none_meant (Some m) h = absurd h

  pub not_meant : is_undeclared declared e ≡ false → IsReading c limit declared P t Q u [] after (λ s. meaning c s (length declared) e) None → MeansNoFormula c declared e
  not_meant k h = record { known = k; means = none_meant (meant (declared_scope declared)) (h.read (declared_scope declared) first_scope) }

  pub term_meant : (v : _) → is_undeclared declared e ≡ false → IsReading c limit declared P t Q u [] after (λ s. meaning c s (length declared) e) (Some (value.Term v)) → MeansNoFormula c declared e
  term_meant v k h = record { known = k; means = ap as_formula (term_read c limit Q u (meant (declared_scope declared)) v (h.read (declared_scope declared) first_scope)).1 }

  -- ---- a formula

  module _ (k : is_undeclared declared e ≡ false) (v : Sized (Part Id)) (h : IsReading c limit declared P t Q u [] after (λ s. meaning c s (length declared) e) (Some (value.Formula v))) where
    abbrev pub read_of : (f : FormulaTree) × (meant (declared_scope declared) ≡ Some (Formula f)) × IsFormulaValue c limit Q u f v
    read_of = formula_read c limit Q u (meant (declared_scope declared)) v (h.read (declared_scope declared) first_scope)

    pub means_formula : MeansFormula c declared e read_of.0
    means_formula = record { known = k; means = ap as_formula read_of.1 }

  pub too_many : (k : is_undeclared declared e ≡ false) → IsReading c limit declared P t Q u [] after (λ s. meaning c s (length declared) e) (Some (value.Formula TooLarge)) → MeansTooMany c limit declared e
  too_many k h = record { f = (read_of k TooLarge h).0; formula = means_formula k TooLarge h; nodes = (read_of k TooLarge h).2 }

  module _ (proper : IsProper e) (k : is_undeclared declared e ≡ false) (n : ℕ) (part : Part Id) (h : IsReading c limit declared P t Q u [] after (λ s. meaning c s (length declared) e) (Some (value.Formula (Within n part)))) where
    abbrev f : FormulaTree
    f = (read_of k (Within n part) h).0

    below : IsFormulaBelow c (length declared + quantified_names e) f
    below = levels_suffice c declared e (Formula f) proper (read_of k (Within n part) h).1

    levelled : IsLevelPart c Q u f part
    levelled = (read_of k (Within n part) h).2.2

    within : MeansWithin c limit declared e f
    within = record { formula = means_formula k (Within n part) h; nodes = subst (λ m. m ≤ limit) (read_of k (Within n part) h).2.0 (read_of k (Within n part) h).2.1 }

    told_among : (count : ℕ) → AreLevelsBelow count (formula_variables f) → IsToldAlone c (levels count) f part
    told_among count l = let r = levelled.read count l in record {
      causes = subst (λ names. AreTold c [] names f part.causes) (sym (same_names_after count f l)) r.causes;
      height = r.built.height;
    }

    told_alone : IsToldAlone c (assertion_levels declared e) f part
    told_alone = told_among (length declared + quantified_names e) below.names

    -- it is left out only where it is refused
    pub left_out : part.id ≡ None → IsRefused part.causes part.height
    left_out = (levelled.read (length declared + quantified_names e) below.names).built.left_out

    pub accepted_as : (id : Id) → part.id ≡ Some id → ((d : Context) (names : List (List ℕ)) (g : FormulaTree) → IsToldAlone d names g part → IsAccepted d [] names g) → IsAsserted c limit declared Q u e id
    accepted_as id i a = (f, record { formula = within; accepted = λ count l. a c (levels count) f (told_among count l); made = λ count l. (levelled.read count l).built.made id i })

    module _ (cause : StaticError) (r : (d : Context) (names : List (List ℕ)) (g : FormulaTree) → IsToldAlone d names g part → IsFirstCause d [] names g cause) where
      first : IsFirstCause c [] (assertion_levels declared e) f cause
      first = r c (assertion_levels declared e) f told_alone

    possible : (cause : StaticError) → IsFirstCause c [] (assertion_levels declared e) f cause → IsSome (told_as cause)
    possible static.Unbound i = absurd (never_unbound c f below.atoms i.applies)
    possible static.FormulaAsTerm i = absurd (never_as_term c f below.atoms i.applies)
    possible static.CongruenceContext i = absurd (never_congruent c f below.atoms i.applies)
    possible static.Modulus i = absurd (never_bad_modulus c _ f below.atoms i.applies)
    possible static.Nonlinear i = refl
    possible static.Division i = refl
    possible static.Depth i = refl
    possible static.Overflow i = refl
    possible static.Memory i = refl

    -- only these causes are met
    pub is_told : (cause : StaticError) → ((d : Context) (names : List (List ℕ)) (g : FormulaTree) → IsToldAlone d names g part → IsFirstCause d [] names g cause) → IsSome (told_as cause)
    is_told cause r = possible cause (first cause r)

    refused_as : (cause : StaticError) (w : AssertError) → told_as cause ≡ Some w → IsFirstCause c [] (assertion_levels declared e) f cause → IsRefusedFor c limit declared e w
    refused_as static.Unbound w j i = absurd (cc)
    refused_as static.FormulaAsTerm w j i = absurd (cc)
    refused_as static.CongruenceContext w j i = absurd (cc)
    refused_as static.Modulus w j i = absurd (cc)
    refused_as static.Nonlinear w j i = subst (IsRefusedFor c limit declared e) (some_same j) (record { f = f; formula = within; first = i })
    refused_as static.Division w j i = subst (IsRefusedFor c limit declared e) (some_same j) (record { f = f; formula = within; first = i })
    refused_as static.Depth w j i = subst (IsRefusedFor c limit declared e) (some_same j) (record { f = f; formula = within; first = i })
    refused_as static.Overflow w j i = subst (IsRefusedFor c limit declared e) (some_same j) (record { f = f; formula = within; first = i })
    refused_as static.Memory w j i = subst (IsRefusedFor c limit declared e) (some_same j) tt

    pub refused_for : (cause : StaticError) (w : AssertError) → told_as cause ≡ Some w → ((d : Context) (names : List (List ℕ)) (g : FormulaTree) → IsToldAlone d names g part → IsFirstCause d [] names g cause) → IsRefusedFor c limit declared e w
    refused_for cause w j r = refused_as cause w j (first cause r)
