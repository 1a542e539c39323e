-- A number that is free in a resolved formula is free in the written one.
use Rattle.std.proofs.Common.{◌≡◌, ◌⊎◌, inl, inr, ⊎_elim, ℕ, List, Bool, true, false, sym, subst, refl}
use Rattle.std.proofs.Math.IntN.{pos}
use Rattle.std.specs.Prelude.{unsigned_abs, Ok}
use Rattle.std.proofs.lemmas.Bool.{cases_eq}
use Rattle.logic_meaning.specs.Context.{Context, Fields, Integers}
use Rattle.logic_meaning.specs.Formula.{Formula, Formulas, Yes, No, One, Not, And, Or, Impl, Repl, Equiv, Ex, All}
use Rattle.logic_meaning.specs.Every.{Every, EveryOf, Free, FreeInSome}
use Rattle.logic_meaning.specs.Replaced.{replaced, all_replaced}
use Rattle.logic_meaning.specs.Form.{coefficient}
use Rattle.logic_meaning.specs.Tree.{IsFree}
use Rattle.logic_meaning.specs.Formula as plain
use Rattle.logic_meaning.specs.Atom as meaning
use Rattle.formula_laws.proofs.EachAtom.{every_map}
use Rattle.normal_atoms.proofs.NormalLaws.{normal_names}
use Rattle.language_meaning.specs.declared.tree.Relation.{Relation}
use Rattle.language_meaning.specs.Trees as term
use Rattle.language_meaning.specs.Trees.{TermTree, TermTrees, Number, Named, Sum, Product, Quotient, Power, Negative, WrittenAtom, Compare, Cong, Ncong, Bound}
use Rattle.language_meaning.specs.Value.{HasName, HaveName, relation_of}
use Rattle.language_meaning.specs.RationalForms.{RationalForm, formed, formed_difference}
use Rattle.language_meaning.specs.Resolving.{BoundTrees, compared, congruent, resolved_atom, MentionsNumber}
use Rattle.logic_meaning.specs.Names.{place}
use Rattle.language_meaning.specs.NamesAfter.{names_after}
use Rattle.language_meaning.specs.Causes.{IsMissing, IsNoDivisor}
use Rattle.resolved_formulas.specs.ResolvedLaws.{ResolvingBringsNoName}
use Rattle.resolved_formulas.proofs.FormNames.{difference_lacks}
use Rattle.resolved_formulas.proofs.ResolvedTruth.{IsPlain, there, modulus_there, above_zero, all_plain}

-- a name of the term has the number, or none has
module _ (number : List ℕ → ℕ) (n : ℕ) where
  abbrev Found : (List ℕ → Type 0) → Type 0
  Found P = ((x : List ℕ) × P x × (number x ≡ n)) ⊎ ((x : List ℕ) → P x → ¬ (number x ≡ n))

  either : (P Q : List ℕ → Type 0) → Found P → Found Q → Found (λ x. P x ⊎ Q x)
  either P Q (inl h) k = inl (h.0, inl h.1, h.2)
  either P Q (inr h) (inl k) = inl (k.0, inr k.1, k.2)
  either P Q (inr h) (inr k) = inr (λ x. ⊎_elim (h x) (k x))

  found_name : (y : List ℕ) → Found (λ x. y ≡ x)
  found_name y = elim (cases_eq (number y) n) [
    | inl e ↦ inl (y, refl, e)
    | inr e ↦ inr (λ x p k. e (subst (λ z. number z ≡ n) (sym p) k))
  ]

  mutual
    found : (t : TermTree) → Found (HasName t)
    found (Number k) = inr (λ x h. absurd h)
    found (Named y) = found_name y
    found (Sum ts) = found_in ts
    found (Product ts) = found_in ts
    found (Quotient s t) = either (HasName s) (HasName t) (found s) (found t)
    found (Power t k) = found t
    found (Negative t) = found t

    found_in : (ts : TermTrees) → Found (HaveName ts)
    found_in term.none = inr (λ x h. absurd h)
    found_in (term.also t ts) = either (HasName t) (HaveName ts) (found t) (found_in ts)

-- a name of a difference's form is one of the two terms
difference_named : (c : Context) (number : List ℕ → ℕ) (s t : TermTree) (d : RationalForm) (n : ℕ) → formed_difference c number s t ≡ Ok d → ¬ (coefficient n d.form ≡ pos 0)
    → (x : List ℕ) × (HasName s x ⊎ HasName t x) × (number x ≡ n)
difference_named c number s t d n e h = elim (either number n (HasName s) (HasName t) (found number n s) (found number n t)) [
  | inl k ↦ k
  | inr k ↦ absurd (h (difference_lacks n c number s t d k e))
]

module _ (c : Context) (bound : BoundTrees) (names : List (List ℕ)) (n : ℕ) where
  compare_named : (rel : Relation) (s t : TermTree) → IsPlain c bound names (Compare rel s t) → IsFree (compared c rel (formed_difference c (place names) s t)) n → MentionsNumber bound (place names) (Compare rel s t) n
  compare_named rel s t a h =
      let d = there (formed_difference c (place names) s t) (λ m. a.within (inl m)) in
      let k = subst (λ r. IsFree (compared c rel r) n) d.1 h in
      difference_named c (place names) s t d.0 n d.1 (normal_names c (meaning.Compare (relation_of rel) d.0.form) tt n k)

congruent_named : (c : Context) (bound : BoundTrees) (names : List (List ℕ)) (n : ℕ) (b : Bool) (s t m : TermTree) → ¬ (IsMissing (formed_difference c (place names) s t)) → ¬ (IsMissing (formed c (place names) m))
    → ¬ (IsNoDivisor (formed c (place names) m)) → ¬ (c ≡ Fields) → IsFree (congruent c b (formed_difference c (place names) s t) (formed c (place names) m)) n
    → (x : List ℕ) × (HasName s x ⊎ (HasName t x ⊎ HasName m x)) × (place names x ≡ n)
congruent_named Fields bound names n b s t m h k i f g = absurd (f refl)
congruent_named Integers bound names n b s t m h k i f g =
    let d = there (formed_difference Integers (place names) s t) h in
    let r = there (formed Integers (place names) m) k in
    let positive = above_zero r.0.form.constant (modulus_there Integers bound names m r.0 i r.1).1 in
    let first = subst (λ x. IsFree (congruent Integers b x (formed Integers (place names) m)) n) d.1 g in
    let second = subst (λ y. IsFree (congruent Integers b (Ok d.0) y) n) r.1 first in
    let x = difference_named Integers (place names) s t d.0 n d.1 (normal_names Integers (meaning.Congruent b (unsigned_abs r.0.form.constant) d.0.form) positive n second) in
    (x.0, ⊎_elim (λ l. inl l) (λ l. inr (inl l)) x.1, x.2)

pub atom_named : (c : Context) (bound : BoundTrees) (names : List (List ℕ)) (n : ℕ) (a : WrittenAtom) → IsPlain c bound names a → IsFree (resolved_atom c bound (place names) a) n → MentionsNumber bound (place names) a n
atom_named c bound names n (Compare rel s t) a h = compare_named c bound names n rel s t a h
atom_named c bound names n (Cong s t m) a h = congruent_named c bound names n true s t m (λ i. a.within (inl i)) (λ i. a.within (inr (inl i))) a.modulus (λ e. a.theory (e, tt)) h
atom_named c bound names n (Ncong s t m) a h = congruent_named c bound names n false s t m (λ i. a.within (inl i)) (λ i. a.within (inr (inl i))) a.modulus (λ e. a.theory (e, tt)) h
atom_named c bound names n (Bound x) a h = h

-- ---- formulas

-- where each replacement has no other names than its atom, neither has the formula
module _ {A B N M : Type 0} (mentions : B → M → Type 0) (speaks : A → M → Type 0) (by : A → Formula B M) (rename : N → M) (x : M) where
  mutual
    fewer : (f : Formula A N) → Every (λ a. Free mentions (by a) x → speaks a x) f → Free mentions (replaced by rename f) x → Free speaks (replaced One rename f) x
    fewer Yes h t = t
    fewer No h t = t
    fewer (One a) h t = h t
    fewer (Not f) h t = fewer f h t
    fewer (And fs) h t = fewer_in fs h t
    fewer (Or fs) h t = fewer_in fs h t
    fewer (Impl f g) h t = ⊎_elim (λ u. inl (fewer f h.0 u)) (λ u. inr (fewer g h.1 u)) t
    fewer (Repl f g) h t = ⊎_elim (λ u. inl (fewer f h.0 u)) (λ u. inr (fewer g h.1 u)) t
    fewer (Equiv f g) h t = ⊎_elim (λ u. inl (fewer f h.0 u)) (λ u. inr (fewer g h.1 u)) t
    fewer (Ex y f) h t = (t.0, fewer f h t.1)
    fewer (All y f) h t = (t.0, fewer f h t.1)

    fewer_in : (fs : Formulas A N) → EveryOf (λ a. Free mentions (by a) x → speaks a x) fs → FreeInSome mentions (all_replaced by rename fs) x → FreeInSome speaks (all_replaced One rename fs) x
    fewer_in plain.none h t = t
    fewer_in (plain.also f fs) h t = ⊎_elim (λ u. inl (fewer f h.0 u)) (λ u. inr (fewer_in fs h.1 u)) t

pub resolving_brings_no_name : ResolvingBringsNoName
resolving_brings_no_name c bound names f h n t =
    let after = names_after names f in
    fewer meaning.Mentions (MentionsNumber bound (place after)) (resolved_atom c bound (place after)) (place after) n f
    (every_map _ _ (λ a k. atom_named c bound after n a k) f (all_plain c bound names f h)) t
