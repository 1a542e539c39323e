-- The calculated truth of a formula is its truth, at a fraction and far below.
use Rattle.std.proofs.Common.{◌≡◌, ℕ, suc, zero, ◌<◌, Bool, true, false, not, ◌&&◌, ◌||◌, List, [], ◌∷◌, sym, ap, ◌∙◌, refl, arith, ◌⊎◌, inl, inr, ⊎_elim, ◌↔◌, nat_eq}
use Rattle.std.proofs.Math.IntN.{ℤ, pos, negsuc, neg_ℤ, ◌+ℤ◌, ◌*ℤ◌}
use Rattle.std.specs.Prelude.{◌<ℤ◌, ◌≤ℤ◌}
use Rattle.std.proofs.lemmas.Int.{ints}
use Rattle.std.specs.declared.cmp.Ordering.TheVariants.{Less, Greater}
use Rattle.exact_numbers.specs.Frac.{Frac}
use Rattle.exact_numbers.proofs.Order.{by_less}
use Rattle.exact_numbers.proofs.Ring.{mul_zero, zero_mul, mul_comm, neg_mul, mul_one}
use Rattle.logic_meaning.specs.Context.{Fields}
use Rattle.logic_meaning.specs.Point.{Point, move}
use Rattle.logic_meaning.specs.Form.{Form, Term, total, value, coefficient, without, others}
use Rattle.logic_meaning.specs.Formula.{Yes, No, One, Not, And, Or, Impl, Repl, Equiv, Ex, All, none, also}
use Rattle.logic_meaning.specs.Truth.{AllTrue, SomeTrue}
use Rattle.logic_meaning.specs.Every.{Every, EveryOf}
use Rattle.logic_meaning.specs.Shape.{IsQuantifierFree, AreQuantifierFree}
use Rattle.logic_meaning.specs.Atom.{Atom, Compare, Congruent, Relation, Equals, Differs, Below, AtMost, Above, AtLeast, Relates, Says}
use Rattle.formula_laws.specs.TheoryAtoms.{AtomIn}
use Rattle.logic_meaning.specs.Tree.{Tree, Trees, TrueAt}
use Rattle.formula_laws.specs.Equivalence.{InContext}
use Rattle.formula_laws.proofs.EachAtom.{every_map, every_eventually}
use Rattle.formula_laws.proofs.Relations.{relates_zero_mul, relates_along}
use Rattle.formula_laws.proofs.Values.{value_move}
use Rattle.logic_meaning.specs.FieldsOrder.{IsLess}
use Rattle.elimination_theory.proofs.FieldsMeet.{pos_positive}
use Rattle.elimination_theory.proofs.Fractions.{less_at_most, less_less}
use Rattle.logic_meaning.specs.NormalForm.{holds}
use Rattle.normal_atoms.proofs.Relations.{chain, back, holds_so}
use Rattle.logic_meaning.specs.Values.{origin}
use Rattle.logic_meaning.specs.Target.{TargetAt}
use Rattle.linear_theory.specs.WeakTargets.{FarBelow}
use Rattle.linear_theory.specs.Answer.{is_true_at, far_order, is_true_far, truth_by, all_by, some_by}

-- ---- tests

-- the test is true exactly where P holds
abbrev pub Tests : Bool → Type 0 → Type 0
Tests b P = (b ≡ true) ↔ P

apart : false ≡ true → ⊥
apart e = cc

not_tests : (b : Bool) {P : Type 0} → Tests b P → Tests (not b) (¬ P)
not_tests true e = (λ f. absurd (apart f), λ n. absurd (n (e.0 refl)))
not_tests false e = (λ f p. apart (e.1 p), λ n. refl)

both_test : (a b : Bool) {P Q : Type 0} → Tests a P → Tests b Q → Tests (a && b) (P × Q)
both_test true b d e = (λ f. (d.0 refl, e.0 f), λ t. e.1 t.1)
both_test false b d e = (λ f. absurd (apart f), λ t. d.1 t.0)

either_tests : (a b : Bool) {P Q : Type 0} → Tests a P → Tests b Q → Tests (a || b) (P ⊎ Q)
either_tests true b d e = (λ f. inl (d.0 refl), λ t. refl)
either_tests false b d e = (λ f. inr (e.0 f), ⊎_elim (λ p. absurd (apart (d.1 p))) (λ q. e.1 q))

leads_to : (a b : Bool) {P Q : Type 0} → Tests a P → Tests b Q → Tests (not a || b) (P → Q)
leads_to true b d e = (λ f p. e.0 f, λ i. e.1 (i (d.0 refl)))
leads_to false b d e = (λ f p. absurd (apart (d.1 p)), λ i. refl)

follows_from : (a b : Bool) {P Q : Type 0} → Tests a P → Tests b Q → Tests (a || not b) (Q → P)
follows_from true b d e = (λ f q. d.0 refl, λ i. refl)
follows_from false true d e = (λ f. absurd (apart f), λ i. d.1 (i (e.0 refl)))
follows_from false false d e = (λ f q. absurd (apart (e.1 q)), λ i. refl)

same_tests : (a b : Bool) {P Q : Type 0} → Tests a P → Tests b Q → Tests ((a && b) || (not a && not b)) ((P → Q) × (Q → P))
same_tests true true d e = (λ f. (λ p. e.0 refl, λ q. d.0 refl), λ i. refl)
same_tests true false d e = (λ f. absurd (apart f), λ i. e.1 (i.0 (d.0 refl)))
same_tests false true d e = (λ f. absurd (apart f), λ i. d.1 (i.1 (e.0 refl)))
same_tests false false d e = (λ f. (λ p. absurd (apart (d.1 p)), λ q. absurd (apart (e.1 q))), λ i. refl)

-- ---- formulas

module _ (told : Atom → Bool) (q : Point ℕ) where
  mutual
    -- where each atom is told, so is the formula
    pub truth_told : (f : Tree) → IsQuantifierFree f → Every (λ a. Tests (told a) (Says a q)) f → Tests (truth_by told f) (TrueAt Fields f q)
    truth_told Yes s e = (λ f. tt, λ t. refl)
    truth_told No s e = (λ f. absurd (apart f), λ t. absurd t)
    truth_told (One a) s e = e
    truth_told (Not f) s e = not_tests (truth_by told f) (truth_told f s e)
    truth_told (And fs) s e = all_told fs s e
    truth_told (Or fs) s e = some_told fs s e
    truth_told (Impl f g) s e = leads_to (truth_by told f) (truth_by told g) (truth_told f s.0 e.0) (truth_told g s.1 e.1)
    truth_told (Repl f g) s e = follows_from (truth_by told f) (truth_by told g) (truth_told f s.0 e.0) (truth_told g s.1 e.1)
    truth_told (Equiv f g) s e = same_tests (truth_by told f) (truth_by told g) (truth_told f s.0 e.0) (truth_told g s.1 e.1)
    truth_told (Ex x f) s e = absurd s
    truth_told (All x f) s e = absurd s

    all_told : (fs : Trees) → AreQuantifierFree fs → EveryOf (λ a. Tests (told a) (Says a q)) fs → Tests (all_by told fs) (AllTrue Says (move nat_eq) Fields fs q)
    all_told none s e = (λ f. tt, λ t. refl)
    all_told (also f fs) s e = both_test (truth_by told f) (all_by told fs) (truth_told f s.0 e.0) (all_told fs s.1 e.1)

    some_told : (fs : Trees) → AreQuantifierFree fs → EveryOf (λ a. Tests (told a) (Says a q)) fs → Tests (some_by told fs) (SomeTrue Says (move nat_eq) Fields fs q)
    some_told none s e = (λ f. absurd (apart f), λ t. absurd t)
    some_told (also f fs) s e = either_tests (truth_by told f) (some_by told fs) (truth_told f s.0 e.0) (some_told fs s.1 e.1)

-- ---- the line of z

zero_total : (ts : List Term) → total ts (λ y. pos 0) ≡ pos 0
zero_total [] = refl
zero_total (t ∷ ts) = let i = zero_total ts in let z = mul_zero t.times in omega (arith, ints)

rest_value : (z : ℕ) (f : Form) → value (without z f) origin ≡ f.constant
unfolding value without
rest_value z f = let i = zero_total (others z f.terms) in let o = mul_one f.constant in omega (arith, ints)

-- a form where z is k/m and all other names are 0
pub line : (z : ℕ) (f : Form) (k : ℤ) (m : ℕ) → value f (move nat_eq origin z k m) ≡ coefficient z f *ℤ k +ℤ f.constant *ℤ pos m
line z f k m = value_move f origin z k m ∙ ap (λ y. coefficient z f *ℤ k +ℤ y *ℤ pos m) (rest_value z f)

-- ---- at a fraction

atom_at : (z : ℕ) (v : Frac) (m : ℕ) → v.denominator ≡ pos m → (a : Atom) → AtomIn Fields a → Tests (is_true_at z v a) (Says a (move nat_eq origin z v.numerator m))
atom_at z v m e (Compare r f) h =
    let l = line z f v.numerator m ∙ ap (λ y. coefficient z f *ℤ v.numerator +ℤ f.constant *ℤ y) (sym e) in
    back (chain (relates_along r (pos 0) l) (holds_so r (coefficient z f *ℤ v.numerator +ℤ f.constant *ℤ v.denominator) (pos 0)))
atom_at z v m e (Congruent told n f) h = absurd h

pub told_at : (z : ℕ) (v : Frac) (m : ℕ) → v.denominator ≡ pos m → (f : Tree) → IsQuantifierFree f → InContext Fields f → Tests (truth_by (is_true_at z v) f) (TargetAt z f origin v.numerator m)
told_at z v m e f s i = truth_told (is_true_at z v) (move nat_eq origin z v.numerator m) f s (every_map (AtomIn Fields) _ (atom_at z v m e) f i)

-- ---- far below

less_holds : (r : Relation) (v : ℤ) → v <ℤ pos 0 → Tests (holds r Less) (Relates r v (pos 0))
less_holds Equals v h = (λ e. absurd (apart e), λ (e : v ≡ pos 0). absurd (omega (arith, ints)))
less_holds Differs v h = (λ e (i : v ≡ pos 0). absurd (omega (arith, ints)), λ e. refl)
less_holds Below v h = (λ e. h, λ e. refl)
less_holds AtMost v h = (λ e. omega (arith, ints), λ e. refl)
less_holds Above v h = (λ e. absurd (apart e), λ (e : pos 0 <ℤ v). absurd (omega (arith, ints)))
less_holds AtLeast v h = (λ e. absurd (apart e), λ (e : pos 0 ≤ℤ v). absurd (omega (arith, ints)))

greater_holds : (r : Relation) (v : ℤ) → pos 0 <ℤ v → Tests (holds r Greater) (Relates r v (pos 0))
greater_holds Equals v h = (λ e. absurd (apart e), λ (e : v ≡ pos 0). absurd (omega (arith, ints)))
greater_holds Differs v h = (λ e (i : v ≡ pos 0). absurd (omega (arith, ints)), λ e. refl)
greater_holds Below v h = (λ e. absurd (apart e), λ (e : v <ℤ pos 0). absurd (omega (arith, ints)))
greater_holds AtMost v h = (λ e. absurd (apart e), λ (e : v ≤ℤ pos 0). absurd (omega (arith, ints)))
greater_holds Above v h = (λ e. h, λ e. refl)
greater_holds AtLeast v h = (λ e. omega (arith, ints), λ e. refl)

-- two facts that hold far below hold there together
far_both : (Q R : ℤ → ℕ → Type 0) → FarBelow Q → FarBelow R → FarBelow (λ k m. Q k m × R k m)
far_both Q R a b = go a.0 a.1 a.2 a.3 b.0 b.1 b.2 b.3
  where
    go : (u : ℤ) (w : ℕ) → 0 < w → ((k : ℤ) (m : ℕ) → 0 < m → IsLess k m u w → Q k m) →
        (v : ℤ) (x : ℕ) → 0 < x → ((k : ℤ) (m : ℕ) → 0 < m → IsLess k m v x → R k m) → FarBelow (λ k m. Q k m × R k m)
    go u w pw f v x px g =
        by_less (u *ℤ pos x) (v *ℤ pos w)
        (λ (l : (u *ℤ pos x) <ℤ (v *ℤ pos w)). (u, w, pw, λ k m h i. (f k m h i, g k m h (less_less k (pos m) u (pos w) v (pos x) (pos_positive h) (pos_positive pw) (pos_positive px) i l))))
        (λ (l : (v *ℤ pos w) ≤ℤ (u *ℤ pos x)). (v, x, px, λ k m h i. (f k m h (less_at_most k (pos m) v (pos x) u (pos w) (pos_positive h) (pos_positive px) (pos_positive pw) i l), g k m h i)))

pub far_map : (Q R : ℤ → ℕ → Type 0) → ((k : ℤ) (m : ℕ) → 0 < m → Q k m → R k m) → FarBelow Q → FarBelow R
far_map Q R f a = (a.0, a.1, a.2, λ k m h i. f k m h (a.3 k m h i))

low : (n : ℕ) (c k : ℤ) (m : ℕ) → IsLess k m (neg_ℤ c) (suc n) → (pos (suc n) *ℤ k +ℤ c *ℤ pos m) <ℤ pos 0
low n c k m h = let a = neg_mul c (pos m) in let b = mul_comm k (pos (suc n)) in omega (arith, ints)

high : (n : ℕ) (c k : ℤ) (m : ℕ) → IsLess k m c (suc n) → pos 0 <ℤ (negsuc n *ℤ k +ℤ c *ℤ pos m)
high n c k m h = let a = neg_mul (pos (suc n)) k in let b = mul_comm k (pos (suc n)) in omega (arith, ints)

still : (c k m v : ℤ) → v ≡ pos 0 *ℤ k +ℤ c *ℤ m → v ≡ m *ℤ c
still c k m v e = let a = zero_mul k in let b = mul_comm m c in omega (arith, ints)

-- the sign of a line far below
line_far : (r : Relation) (a c : ℤ) → FarBelow (λ k m. Tests (holds r (far_order a c)) (Relates r (a *ℤ k +ℤ c *ℤ pos m) (pos 0)))
line_far r (pos zero) c = (
  pos 0,
  1,
  omega arith,
  λ k m h i. back (chain (relates_along r (pos 0) (still c k (pos m) _ refl)) (chain (back (relates_zero_mul r (pos m) c (pos_positive h))) (holds_so r c (pos 0)))),
)
line_far r (pos (suc n)) c = (neg_ℤ c, suc n, omega arith, λ k m h i. less_holds r (pos (suc n) *ℤ k +ℤ c *ℤ pos m) (low n c k m i))
line_far r (negsuc n) c = (c, suc n, omega arith, λ k m h i. greater_holds r (negsuc n *ℤ k +ℤ c *ℤ pos m) (high n c k m i))

atom_far : (z : ℕ) (a : Atom) → AtomIn Fields a → FarBelow (λ k m. Tests (is_true_far z a) (Says a (move nat_eq origin z k m)))
atom_far z (Compare r f) h =
    far_map _ _ (λ k m p e. chain e (back (relates_along r (pos 0) (line z f k m)))) (line_far r (coefficient z f) f.constant)
atom_far z (Congruent told n f) h = absurd h

pub told_far : (z : ℕ) (f : Tree) → IsQuantifierFree f → InContext Fields f → FarBelow (λ k m. Tests (truth_by (is_true_far z) f) (TargetAt z f origin k m))
told_far z f s i =
    far_map _ _ (λ k m h e. truth_told (is_true_far z) (move nat_eq origin z k m) f s e)
    (every_eventually {X = ℤ × ℕ} (λ Q. FarBelow (λ k m. Q (k, m))) (pos 0, 1, omega arith, λ k m h j. tt) (λ Q R. far_both (λ k m. Q (k, m)) (λ k m. R (k, m)))
    (λ x a. Tests (is_true_far z a) (Says a (move nat_eq origin z x.0 x.1))) f (every_map (AtomIn Fields) _ (atom_far z) f i))
