-- Where no cause applies, the resolved formula has the truth of the written one.
use Rattle.std.proofs.Common.{◌≡◌, ◌<◌, ◌⊎◌, ◌↔◌, inl, inr, ⊎_elim, ℕ, List, Bool, true, false, Option, Some, None, ap, sym, ◌∙◌, subst, refl, arith, nat_eq}
use Rattle.std.proofs.Math.IntN.{ℤ, pos}
use Rattle.std.specs.Prelude.{◌<ℤ◌, unsigned_abs, unwrap_or, Result, Ok, Err}
use Rattle.std.proofs.lemmas.Int.{ints}
use Rattle.exact_numbers.specs.Frac.{SameValue, whole_frac}
use Rattle.logic_meaning.specs.Context.{Context, Fields, Integers, Allowed}
use Rattle.logic_meaning.specs.Point.{Point, Of, move}
use Rattle.logic_meaning.specs.Formula.{No}
use Rattle.logic_meaning.specs.Every.{Every}
use Rattle.logic_meaning.specs.Tree.{Tree, TrueAt}
use Rattle.logic_meaning.specs.Atom as meaning
use Rattle.formula_laws.proofs.Replacing.{replacing_keeps_truth}
use Rattle.formula_laws.proofs.EachAtom.{every_map, every_all}
use Rattle.formula_laws.proofs.ReplacedShape.{every_replaced}
use Rattle.formula_laws.proofs.SamePoint.{allowed_mul}
use Rattle.formula_laws.proofs.Values.{below_move}
use Rattle.normal_atoms.proofs.Relations.{chain, never}
use Rattle.logic_meaning.specs.NormalForm.{normal_atom, IsNormal}
use Rattle.normal_atoms.proofs.NormalLaws.{normal_truth, normal_normal}
use Rattle.language_meaning.specs.declared.tree.Relation.{Relation}
use Rattle.language_meaning.specs.Trees.{TermTree, WrittenAtom, Compare, Cong, Ncong, Bound, FormulaTree}
use Rattle.language_meaning.specs.Value.{NamedPoint, HasName, Mentions, Says, same_name, value, relation_of, RelatesFractions, IsCongruent}
use Rattle.written_syntax.specs.Valued.{IsIn}
use Rattle.written_syntax.proofs.ValueLaw.{value_proper}
use Rattle.logic_meaning.specs.Bindings.{bound_to}
use Rattle.language_meaning.specs.RationalForms.{RationalForm, Missing, is_constant, formed, formed_difference}
use Rattle.language_meaning.specs.Resolving.{BoundTrees, formula_variables, at_names, compared, congruent, resolved_atom, IsTreeTrue, bound_truth}
use Rattle.logic_meaning.specs.Names.{place}
use Rattle.language_meaning.specs.NamesAfter.{names_after}
use Rattle.language_meaning.specs.Causes.{HasNoTree, IsCongruence, HasBadModulus, IsMissing, IsNoDivisor, PassesInReading, CongruenceInFields}
use Rattle.resolved_formulas.specs.Accepted.{IsAccepted}
use Rattle.resolved_formulas.specs.ResolvedLaws.{Numbered, HasNormalTrees, ResolvingKeepsTruth, ResolvingIsNormal}
use Rattle.resolved_formulas.proofs.PlaceLaws.{at_place, move_at_names, after_has, after_distinct}
use Rattle.resolved_formulas.proofs.Nowhere.{nowhere, every_both, mentioned_have, quantified_have}
use Rattle.resolved_formulas.proofs.AtomTruth.{difference_stands, comparison_truth, congruence_truth}
use Rattle.resolved_formulas.proofs.FormSteps.{constant_is}
use Rattle.resolved_formulas.proofs.FormValues.{below_positive, form_stands}
use Rattle.resolved_formulas.proofs.WholeForms.{form_whole, difference_whole}

-- a point of the theory has a positive denominator
below_of : (c : Context) (p : NamedPoint) → Of c p → 0 < p.below
below_of Fields p o = o
below_of Integers p o = let e : p.below ≡ 1 = o in omega arith

-- an allowed move of a point of the theory is one
moved_of : (c : Context) (p : NamedPoint) (x : List ℕ) (k : ℤ) (m : ℕ) → Of c p → Allowed c m → Of c (move same_name p x k m)
moved_of Fields p x k m o a = subst (λ b. 0 < b) (sym (below_move same_name p x k m)) (allowed_mul Fields p.below m o a)
moved_of Integers p x k m o a = below_move same_name p x k m ∙ allowed_mul Integers p.below m o a

-- the numbered point of a point of the theory
record IsNumbered (c : Context) (names : List (List ℕ)) (p : NamedPoint) (q : Point ℕ) : Type 0 where
  same : q ≡ at_names names p
  of : Of c p

-- what is known of each atom
pub record IsPlain (c : Context) (bound : BoundTrees) (names : List (List ℕ)) (a : WrittenAtom) : Type 0 where
  pub tree : ¬ (HasNoTree bound a)
  pub theory : ¬ ((c ≡ Fields) × IsCongruence a)
  pub modulus : ¬ (HasBadModulus c (place names) a)
  pub within : ¬ (PassesInReading c bound (place names) a)
  pub named : (x : List ℕ) → Mentions a x → IsIn x names

pub above_zero : (a : ℤ) → ¬ (a ≡ pos 0) → 0 < unsigned_abs a
above_zero a h = omega (arith, ints)

-- a form that is not missing is there
pub there : (r : Result RationalForm Missing) → ¬ (IsMissing r) → (d : RationalForm) × (r ≡ Ok d)
there (Ok d) h = (d, refl)
there (Err e) h = absurd (h (e, refl))

numbered : (names : List (List ℕ)) (p : NamedPoint) → Numbered (place names) (λ x. IsIn x names) p (at_names names p)
numbered names p = record { same_below = refl; same_at = at_place names p }

module _ (c : Context) (bound : BoundTrees) (names : List (List ℕ)) where
  compare_truth : (rel : Relation) (s t : TermTree) → IsPlain c bound names (Compare rel s t) → (p : NamedPoint) → Of c p
      → RelatesFractions rel (value s p) (value t p) ↔ TrueAt c (compared c rel (formed_difference c (place names) s t)) (at_names names p)
  compare_truth rel s t a p o =
      let d = there (formed_difference c (place names) s t) (λ m. a.within (inl m)) in
      let h = below_of c p o in
      let q = at_names names p in
      let stands = difference_stands c (place names) (λ x. IsIn x names) s t d.0 p q h (numbered names p) a.named d.1 in
      let b : pos 0 <ℤ pos q.below = below_positive p q h refl in
      subst (λ r. RelatesFractions rel (value s p) (value t p) ↔ TrueAt c (compared c rel r) q) (sym d.1)
      (chain (comparison_truth (relation_of rel) d.0 (value s p) (value t p) q b (value_proper s p h) (value_proper t p h) stands) (normal_truth c (meaning.Compare (relation_of rel) d.0.form) tt q o))

  bound_atom_truth : (x : List ℕ) (o : Option Tree) → ¬ (o ≡ None) → (q : Point ℕ) → IsTreeTrue c o q ↔ TrueAt c (unwrap_or o No) q
  bound_atom_truth x None h q = absurd (h refl)
  bound_atom_truth x (Some t) h q = (λ y. y, λ y. y)

  -- a modulus that is there is a whole constant other than 0
  pub modulus_there : (m : TermTree) (r : RationalForm) → ¬ (IsNoDivisor (formed c (place names) m)) → formed c (place names) m ≡ Ok r → (is_constant r ≡ true) × (¬ (r.form.constant ≡ pos 0))
  modulus_there m r h e = (varies (is_constant r) refl, λ z. h (record { form = r; there = e; fails = inr z }))
    where
      varies : (b : Bool) → is_constant r ≡ b → b ≡ true
      varies true i = refl
      varies false i = absurd (h (record { form = r; there = e; fails = inl i }))

-- a congruence and its form, over the integers
module _ (bound : BoundTrees) (names : List (List ℕ)) (s t m : TermTree) (d r : RationalForm) (d_is : formed_difference Integers (place names) s t ≡ Ok d) (r_is : formed Integers (place names) m ≡ Ok r)
    (constant : is_constant r ≡ true) (nonzero : ¬ (r.form.constant ≡ pos 0)) (named : (x : List ℕ) → HasName s x ⊎ (HasName t x ⊎ HasName m x) → IsIn x names)
    (p : NamedPoint) (o : p.below ≡ 1) where
  congruent_is : IsCongruent (value s p) (value t p) (value m p) ↔ meaning.IsMultiple (unsigned_abs r.form.constant) d.form (at_names names p)
  congruent_is =
      let h : 0 < p.below = omega arith in
      let n = numbered names p in
      let b : pos 0 <ℤ pos p.below = below_positive p (at_names names p) h refl in
      let stands = difference_stands Integers (place names) (λ x. IsIn x names) s t d p (at_names names p) h n (λ x i. named x (⊎_elim (λ k. inl k) (λ k. inr (inl k)) i)) d_is in
      let modulus = form_stands Integers (place names) (λ x. IsIn x names) m r p (at_names names p) h n (λ x i. named x (inr (inr i))) r_is in
      let same = constant_is (at_names names p) b r (value m p) constant modulus in
      let whole : SameValue (whole_frac r.form.constant) (value m p) = subst (λ z. SameValue (record { numerator = r.form.constant; denominator = z }) (value m p)) (form_whole (place names) m r r_is) same in
      congruence_truth d r.form.constant (value s p) (value t p) (value m p) (at_names names p) o (difference_whole (place names) s t d d_is) (value_proper s p h) (value_proper t p h) (value_proper m p h) stands whole

  positive : 0 < unsigned_abs r.form.constant
  positive = above_zero r.form.constant nonzero

  cong_truth : IsCongruent (value s p) (value t p) (value m p) ↔ TrueAt Integers (normal_atom Integers (meaning.Congruent true (unsigned_abs r.form.constant) d.form)) (at_names names p)
  cong_truth = chain congruent_is (normal_truth Integers (meaning.Congruent true (unsigned_abs r.form.constant) d.form) positive (at_names names p) o)

  ncong_truth : (¬ (IsCongruent (value s p) (value t p) (value m p))) ↔ TrueAt Integers (normal_atom Integers (meaning.Congruent false (unsigned_abs r.form.constant) d.form)) (at_names names p)
  ncong_truth = chain (never congruent_is) (normal_truth Integers (meaning.Congruent false (unsigned_abs r.form.constant) d.form) positive (at_names names p) o)

module _ (bound : BoundTrees) (names : List (List ℕ)) where
  cong_atom : (c : Context) (s t m : TermTree) → IsPlain c bound names (Cong s t m) → (p : NamedPoint) → Of c p
      → IsCongruent (value s p) (value t p) (value m p) ↔ TrueAt c (congruent c true (formed_difference c (place names) s t) (formed c (place names) m)) (at_names names p)
  cong_atom Fields s t m a p o = absurd (a.theory (refl, tt))
  cong_atom Integers s t m a p o =
      let d = there (formed_difference Integers (place names) s t) (λ i. a.within (inl i)) in
      let r = there (formed Integers (place names) m) (λ i. a.within (inr (inl i))) in
      let k = modulus_there Integers bound names m r.0 a.modulus r.1 in
      subst (λ x. IsCongruent (value s p) (value t p) (value m p) ↔ TrueAt Integers (congruent Integers true x (formed Integers (place names) m)) (at_names names p)) (sym d.1)
      (subst (λ y. IsCongruent (value s p) (value t p) (value m p) ↔ TrueAt Integers (congruent Integers true (Ok d.0) y) (at_names names p)) (sym r.1)
      (cong_truth bound names s t m d.0 r.0 d.1 r.1 k.0 k.1 a.named p o))

  ncong_atom : (c : Context) (s t m : TermTree) → IsPlain c bound names (Ncong s t m) → (p : NamedPoint) → Of c p
      → (¬ (IsCongruent (value s p) (value t p) (value m p))) ↔ TrueAt c (congruent c false (formed_difference c (place names) s t) (formed c (place names) m)) (at_names names p)
  ncong_atom Fields s t m a p o = absurd (a.theory (refl, tt))
  ncong_atom Integers s t m a p o =
      let d = there (formed_difference Integers (place names) s t) (λ i. a.within (inl i)) in
      let r = there (formed Integers (place names) m) (λ i. a.within (inr (inl i))) in
      let k = modulus_there Integers bound names m r.0 a.modulus r.1 in
      subst (λ x. (¬ (IsCongruent (value s p) (value t p) (value m p))) ↔ TrueAt Integers (congruent Integers false x (formed Integers (place names) m)) (at_names names p)) (sym d.1)
      (subst (λ y. (¬ (IsCongruent (value s p) (value t p) (value m p))) ↔ TrueAt Integers (congruent Integers false (Ok d.0) y) (at_names names p)) (sym r.1)
      (ncong_truth bound names s t m d.0 r.0 d.1 r.1 k.0 k.1 a.named p o))

  -- the atom as written and its tree have one truth
  atom_truth : (c : Context) (a : WrittenAtom) → IsPlain c bound names a → (p : NamedPoint) (q : Point ℕ) → IsNumbered c names p q
      → Says (bound_truth c bound names) a p ↔ TrueAt c (resolved_atom c bound (place names) a) q
  atom_truth c (Compare rel s t) a p q i = subst (λ r. RelatesFractions rel (value s p) (value t p) ↔ TrueAt c (compared c rel (formed_difference c (place names) s t)) r) (sym i.same) (compare_truth c bound names rel s t a p i.of)
  atom_truth c (Cong s t m) a p q i = subst (λ r. IsCongruent (value s p) (value t p) (value m p) ↔ TrueAt c (congruent c true (formed_difference c (place names) s t) (formed c (place names) m)) r) (sym i.same) (cong_atom c s t m a p i.of)
  atom_truth c (Ncong s t m) a p q i = subst (λ r. (¬ (IsCongruent (value s p) (value t p) (value m p))) ↔ TrueAt c (congruent c false (formed_difference c (place names) s t) (formed c (place names) m)) r) (sym i.same) (ncong_atom c s t m a p i.of)
  atom_truth c (Bound x) a p q i = subst (λ r. bound_truth c bound names x p ↔ TrueAt c (unwrap_or (bound_to bound x) No) r) (sym i.same) (bound_atom_truth c bound names x (bound_to bound x) a.tree (at_names names p))

-- ---- formulas

-- what is known of each atom of an accepted formula
no_congruence : (c : Context) (f : FormulaTree) → ¬ (CongruenceInFields c f) → Every (λ a. ¬ ((c ≡ Fields) × IsCongruence a)) f
no_congruence Fields f h = every_map (λ a. ¬ (IsCongruence a)) (λ a. ¬ ((Fields ≡ Fields) × IsCongruence a)) (λ a n t. n t.1) f (nowhere IsCongruence f h)
no_congruence Integers f h = every_all (λ a. ¬ ((Integers ≡ Fields) × IsCongruence a)) (λ a t. let e = t.0 in absurd (cc)) f

pub all_plain : (c : Context) (bound : BoundTrees) (names : List (List ℕ)) (f : FormulaTree) → IsAccepted c bound names f → Every (IsPlain c bound (names_after names f)) f
all_plain c bound names f h =
    let after = names_after names f in
    let trees = nowhere (HasNoTree bound) f h.bound_names in
    let theory = no_congruence c f h.congruences in
    let moduli = nowhere (HasBadModulus c (place after)) f h.moduli in
    let within = nowhere (PassesInReading c bound (place after)) f (λ s. h.within (inr s)) in
    let named = mentioned_have (λ x. IsIn x after) f (λ x i. after_has (formula_variables f) names x (inr i)) in
    every_map _ (IsPlain c bound after)
    (λ a k. record { tree = k.0; theory = k.1.0; modulus = k.1.1.0; within = k.1.1.1.0; named = k.1.1.1.1 }) f
    (every_both _ _ f trees (every_both _ _ f theory (every_both _ _ f moduli (every_both _ _ f within named))))

pub resolving_keeps_truth : ResolvingKeepsTruth
resolving_keeps_truth c bound names f distinct h p o =
    let after = names_after names f in
    let apart = after_distinct (formula_variables f) names distinct in
    replacing_keeps_truth (Says (bound_truth c bound after)) (move same_name) meaning.Says (move nat_eq) c (resolved_atom c bound (place after)) (place after) (λ x. IsIn x after) (IsNumbered c after)
    (λ r s x k m a i l. record { same = ap (λ z. move nat_eq z (place after x) k m) l.same ∙ sym (move_at_names after r x k m apart i); of = moved_of c r x k m l.of a }) f
    (every_map _ _ (λ a k r s l. atom_truth bound after c a k r s l) f (all_plain c bound names f h))
    (quantified_have (λ x. IsIn x after) f (λ x i. after_has (formula_variables f) names x (inr i))) p (at_names after p) (record { same = refl; of = o })

-- ---- normal atoms

congruent_normal : (c : Context) (bound : BoundTrees) (names : List (List ℕ)) (b : Bool) (s t m : TermTree) → ¬ (IsMissing (formed_difference c (place names) s t)) → ¬ (IsMissing (formed c (place names) m))
    → ¬ (IsNoDivisor (formed c (place names) m)) → ¬ (c ≡ Fields) → Every (IsNormal c) (congruent c b (formed_difference c (place names) s t) (formed c (place names) m))
congruent_normal Fields bound names b s t m h k n f = absurd (f refl)
congruent_normal Integers bound names b s t m h k n f =
    let d = there (formed_difference Integers (place names) s t) h in
    let r = there (formed Integers (place names) m) k in
    let nonzero = (modulus_there Integers bound names m r.0 n r.1).1 in
    let positive : 0 < unsigned_abs r.0.form.constant = above_zero r.0.form.constant nonzero in
    subst (λ x. Every (IsNormal Integers) (congruent Integers b x (formed Integers (place names) m))) (sym d.1)
    (subst (λ y. Every (IsNormal Integers) (congruent Integers b (Ok d.0) y)) (sym r.1)
    (normal_normal Integers (meaning.Congruent b (unsigned_abs r.0.form.constant) d.0.form) positive))

bound_normal : (c : Context) (o : Option Tree) → ((t : Tree) → o ≡ Some t → Every (IsNormal c) t) → Every (IsNormal c) (unwrap_or o No)
bound_normal c None h = tt
bound_normal c (Some t) h = h t refl

pub is_normal : (c : Context) (bound : BoundTrees) (names : List (List ℕ)) → HasNormalTrees c bound → (a : WrittenAtom) → IsPlain c bound names a → Every (IsNormal c) (resolved_atom c bound (place names) a)
is_normal c bound names trees (Compare rel s t) a =
    let d = there (formed_difference c (place names) s t) (λ m. a.within (inl m)) in
    subst (λ r. Every (IsNormal c) (compared c rel r)) (sym d.1) (normal_normal c (meaning.Compare (relation_of rel) d.0.form) tt)
is_normal c bound names trees (Cong s t m) a = congruent_normal c bound names true s t m (λ i. a.within (inl i)) (λ i. a.within (inr (inl i))) a.modulus (λ e. a.theory (e, tt))
is_normal c bound names trees (Ncong s t m) a = congruent_normal c bound names false s t m (λ i. a.within (inl i)) (λ i. a.within (inr (inl i))) a.modulus (λ e. a.theory (e, tt))
is_normal c bound names trees (Bound x) a = bound_normal c (bound_to bound x) (trees x)

pub resolving_is_normal : ResolvingIsNormal
resolving_is_normal c bound names f trees h =
    let after = names_after names f in
    every_replaced (resolved_atom c bound (place after)) (place after) (IsNormal c) f (every_map _ _ (λ a k. is_normal c bound after trees a k) f (all_plain c bound names f h))
