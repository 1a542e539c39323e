-- Which causes of a refusal stand in no formula that an assertion means.
use Rattle.std.proofs.Common.{◌≡◌, ◌⊎◌, inl, inr, ℕ, pos, ◌<ℤ◌, List, [], true, false, arith, ap, ◌∙◌, subst}
use Rattle.logic_meaning.specs.Context.{Context, Fields, Integers}
use Rattle.logic_meaning.specs.Every.{Every, EveryOf}
use Rattle.logic_meaning.specs.Formula.{Formula, Formulas, Yes, No, One, Not, And, Or, Impl, Repl, Equiv, Ex, All, none, also}
use Rattle.language_meaning.specs.declared.tree.Literal.{Literal}
use Rattle.language_meaning.specs.declared.tree.Literal.TheVariants.{Fits, Past}
use Rattle.language_meaning.specs.Trees.{Number, Named, Sum, Product, Quotient, Power, Negative, WrittenAtom, Compare, Cong, Ncong, Bound, FormulaTree}
use Rattle.language_meaning.specs.Causes.{HasNoTree, MentionsBound, IsBound, IsUnbound, NamesFormulaAsTerm, IsCongruence, CongruenceInFields, HasBadModulus, IsBadModulus, IsNoDivisor}
use Rattle.language_meaning.specs.RationalForms.{formed, is_constant, constant_form}
use Rattle.exact_numbers.specs.Frac.{whole_frac}
use Rattle.language_meaning.specs.Somewhere.{Somewhere, SomewhereIn}
use Rattle.resolved_formulas.proofs.RuleLaw.{ok_same}
use Rattle.smt_meaning.specs.Atoms.{IsOfTheory}
use Rattle.smt_meaning.specs.Proper.{IsPositive}

-- what no atom and no quantified name has is nowhere
module _ {A N : Type 0} (P Q : A → Type 0) (K : N → Type 0) (apart : (a : A) → P a → ¬ (Q a)) (never : (x : N) → ¬ (K x)) where
  mutual
    pub nowhere : (f : Formula A N) → Every P f → ¬ (Somewhere Q K f)
    nowhere Yes h s = absurd s
    nowhere No h s = absurd s
    nowhere (One a) h s = apart a h s
    nowhere (Not f) h s = nowhere f h s
    nowhere (And fs) h s = nowhere_in fs h s
    nowhere (Or fs) h s = nowhere_in fs h s
    nowhere (Impl f g) h (inl s) = nowhere f h.0 s
    nowhere (Impl f g) h (inr s) = nowhere g h.1 s
    nowhere (Repl f g) h (inl s) = nowhere f h.0 s
    nowhere (Repl f g) h (inr s) = nowhere g h.1 s
    nowhere (Equiv f g) h (inl s) = nowhere f h.0 s
    nowhere (Equiv f g) h (inr s) = nowhere g h.1 s
    nowhere (Ex x f) h (inl k) = never x k
    nowhere (Ex x f) h (inr s) = nowhere f h s
    nowhere (All x f) h (inl k) = never x k
    nowhere (All x f) h (inr s) = nowhere f h s

    nowhere_in : (fs : Formulas A N) → EveryOf P fs → ¬ (SomewhereIn Q K fs)
    nowhere_in none h s = absurd s
    nowhere_in (also f fs) h (inl s) = nowhere f h.0 s
    nowhere_in (also f fs) h (inr s) = nowhere_in fs h.1 s

no_tree : (c : Context) (a : WrittenAtom) → IsOfTheory c a → ¬ (HasNoTree [] a)
no_tree c (Compare rel s t) h k = absurd k
no_tree c (Cong s t m) h k = absurd k
no_tree c (Ncong s t m) h k = absurd k
no_tree Fields (Bound x) h k = absurd h
no_tree Integers (Bound x) h k = absurd h

unbound_name : (x : List ℕ) → ¬ (IsBound [] x)
unbound_name x k = let e = k.1 in absurd (cc)

pub never_unbound : (c : Context) (f : FormulaTree) → Every (IsOfTheory c) f → ¬ (IsUnbound [] f)
never_unbound c f h = nowhere (IsOfTheory c) (HasNoTree []) (λ x. ⊥) (no_tree c) (λ x k. k) f h

pub never_as_term : (c : Context) (f : FormulaTree) → Every (IsOfTheory c) f → ¬ (NamesFormulaAsTerm [] f)
never_as_term c f h = nowhere (IsOfTheory c) (MentionsBound []) (IsBound []) (λ a i k. unbound_name k.0 k.2) unbound_name f h

no_congruence : (a : WrittenAtom) → IsOfTheory Fields a → ¬ (IsCongruence a)
no_congruence (Compare rel s t) h k = absurd k
no_congruence (Cong s t m) h k = absurd h
no_congruence (Ncong s t m) h k = absurd h
no_congruence (Bound x) h k = absurd k

pub never_congruent : (c : Context) (f : FormulaTree) → Every (IsOfTheory c) f → ¬ (CongruenceInFields c f)
never_congruent Fields f h = nowhere (IsOfTheory Fields) IsCongruence (λ x. ⊥) no_congruence (λ x k. k) f h
never_congruent Integers f h = λ k. absurd k

-- a positive number divides
divides : (number : List ℕ → ℕ) (k : Literal) → IsPositive k → ¬ (IsNoDivisor (formed Integers number (Number k)))
divides number (Fits n) h d = go d.fails
  where
    same : constant_form (whole_frac n) ≡ d.form
    same = ok_same _ _ d.there

    go : (is_constant d.form ≡ false) ⊎ (d.form.form.constant ≡ pos 0) → ⊥
    go (inl e) = let k : true ≡ false = ap is_constant same ∙ e in absurd (cc)
    go (inr e) = let k : n ≡ pos 0 = ap (λ p. p.form.constant) same ∙ e in let l : pos 0 <ℤ pos 0 = subst (λ z. pos 0 <ℤ z) k h.0 in absurd (omega (arith, l))
divides number Past h d = let e = d.there in absurd (cc)

good_modulus : (number : List ℕ → ℕ) (a : WrittenAtom) → IsOfTheory Integers a → ¬ (HasBadModulus Integers number a)
good_modulus number (Compare rel s t) h k = absurd k
good_modulus number (Cong s t (Number n)) h k = divides number n h k
good_modulus number (Ncong s t m) h k = absurd h
good_modulus number (Bound x) h k = absurd k
good_modulus number (Cong s t (Named x)) h k = absurd h
good_modulus number (Cong s t (Sum ts)) h k = absurd h
good_modulus number (Cong s t (Product ts)) h k = absurd h
good_modulus number (Cong s t (Quotient p q)) h k = absurd h
good_modulus number (Cong s t (Power p n)) h k = absurd h
good_modulus number (Cong s t (Negative p)) h k = absurd h

bad_modulus_fields : (number : List ℕ → ℕ) (a : WrittenAtom) → IsOfTheory Fields a → ¬ (HasBadModulus Fields number a)
bad_modulus_fields number (Compare rel s t) h k = absurd k
bad_modulus_fields number (Cong s t m) h k = absurd h
bad_modulus_fields number (Ncong s t m) h k = absurd h
bad_modulus_fields number (Bound x) h k = absurd k

pub never_bad_modulus : (c : Context) (number : List ℕ → ℕ) (f : FormulaTree) → Every (IsOfTheory c) f → ¬ (IsBadModulus c number f)
never_bad_modulus Fields number f h = nowhere (IsOfTheory Fields) (HasBadModulus Fields number) (λ x. ⊥) (bad_modulus_fields number) (λ x k. k) f h
never_bad_modulus Integers number f h = nowhere (IsOfTheory Integers) (HasBadModulus Integers number) (λ x. ⊥) (good_modulus number) (λ x k. k) f h
