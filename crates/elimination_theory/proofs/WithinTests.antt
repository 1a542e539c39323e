-- The tests of the limit tell the truth: they are true, or false, exactly where numbers are within it, or pass it.
use Rattle.std.proofs.Common.{◌≡◌, ℕ, ◌^◌, Bool, true, false, ◌&&◌, List, [], ◌∷◌, ◌++◌, refl, sym, ap, ◌∙◌, subst, arith, ◌↔◌, nat_eq, eqb-true, if◌then◌else◌, inl, inr}
use Rattle.std.proofs.Math.IntN.{ℤ, pos, ◌+ℤ◌, ◌*ℤ◌}
use Rattle.std.proofs.lemmas.Bool.{ltb-true, lt-ltb}
use Rattle.std.proofs.lemmas.Int.{ints}
use Rattle.std.specs.Prelude.{unsigned_abs}
use Rattle.exact_numbers.specs.Limit.{InLimit, PastLimit}
use Rattle.exact_numbers.proofs.Ring.{mul_zero}
use Rattle.logic_meaning.specs.Form.{Form, Term, multiple, coefficient}
use Rattle.logic_meaning.specs.Combining.{AddWithin, CombinesWithin, AddPasses, CombinePasses}
use Rattle.logic_meaning.specs.Some.{EachOf}
use Rattle.logic_meaning.specs.Answer.{Place, Exact, AboveBy, BelowBy, PlusInfinity, MinusInfinity, Periodic}
use Rattle.formula_laws.proofs.Same.{and_left, and_right, both_true}
use Rattle.logic_meaning.specs.Overflow.{FormWithin, PlaceWithin}
use Rattle.elimination_theory.proofs.SomeListed.{each_left, each_right}
use Rattle.logic_meaning.specs.Limits.{each, is_within, form_within, place_within, sum_within, combination_within}

-- the test is true exactly where P holds
abbrev pub Tests : Bool → Type 0 → Type 0
Tests b P = (b ≡ true) ↔ P

pub always : {P : Type 0} → P → Tests true P
always p = (λ e. p, λ q. refl)

pub and_tests : {P Q : Type 0} (a b : Bool) → Tests a P → Tests b Q → Tests (a && b) (P × Q)
and_tests a b h k = (λ e. (h.0 (and_left a b e), k.0 (and_right a b e)), λ t. both_true a b (h.1 t.0) (k.1 t.1))

pub each_tests : {X : Type 0} (test : X → Bool) (P : X → Type 0) → ((x : X) → Tests (test x) (P x)) → (xs : List X) → Tests (each test xs) (EachOf P xs)
each_tests test P h [] = always tt
each_tests test P h (x ∷ xs) = and_tests (test x) (each test xs) (h x) (each_tests test P h xs)

each_of : {X : Type 0} (P : X → Type 0) → ((x : X) → P x) → (xs : List X) → EachOf P xs
each_of P h [] = tt
each_of P h (x ∷ xs) = (h x, each_of P h xs)

pub within_tests : (z : ℤ) → Tests (is_within z) (InLimit z)
within_tests z = (λ e. ltb-true (unsigned_abs z) (2 ^ 127) e, λ h. lt-ltb (unsigned_abs z) (2 ^ 127) h)

zero_within : (z : ℤ) → z ≡ pos 0 → InLimit z
zero_within z e = subst InLimit (sym e) (omega arith)

-- what holds of the names of the terms and where no term has the name holds of each name
covers : (Q : ℕ → Type 0) (y : ℕ) (ts : List Term) → EachOf (λ (t : Term). Q t.name) ts → (multiple y ts ≡ pos 0 → Q y) → Q y
covers Q y [] h k = k refl
covers Q y (t ∷ ts) h k = go (covers Q y ts h.1) (nat_eq y t.name) refl k
  where
    go : ((multiple y ts ≡ pos 0 → Q y) → Q y) → (b : Bool) → nat_eq y t.name ≡ b → ((if b then t.times +ℤ multiple y ts else multiple y ts) ≡ pos 0 → Q y) → Q y
    go rest true e k = subst Q (sym (eqb-true y t.name e)) h.0
    go rest false e k = rest k

pub form_tests : (f : Form) → Tests (form_within f) (FormWithin f)
unfolding coefficient
form_tests f =
    let t = and_tests (is_within f.constant) (each (λ (t : Term). is_within (coefficient t.name f)) f.terms) (within_tests f.constant)
    (each_tests (λ (t : Term). is_within (coefficient t.name f)) (λ (t : Term). InLimit (coefficient t.name f)) (λ t. within_tests (coefficient t.name f)) f.terms) in (
      λ e. let h = t.0 e in record { coefficients = λ y. covers (λ y. InLimit (coefficient y f)) y f.terms h.1 (zero_within (coefficient y f)); constant_within = h.0 },
      λ h. t.1 (h.constant_within, each_of _ (λ (t : Term). h.coefficients t.name) f.terms),
    )

pub place_tests : (s : Place) → Tests (place_within s) (PlaceWithin s)
place_tests (Exact e d) = and_tests (form_within e) (is_within (pos d)) (form_tests e) (within_tests (pos d))
place_tests (AboveBy e d) = and_tests (form_within e) (is_within (pos d)) (form_tests e) (within_tests (pos d))
place_tests (BelowBy e d) = and_tests (form_within e) (is_within (pos d)) (form_tests e) (within_tests (pos d))
place_tests PlusInfinity = always tt
place_tests MinusInfinity = always tt
place_tests (Periodic j q) = and_tests (is_within j) (is_within q) (within_tests j) (within_tests q)

pub sum_tests : (p q : ℤ) → Tests (sum_within p q) (AddWithin p q)
sum_tests p q =
    let t = and_tests (is_within p) (is_within q && is_within (p +ℤ q)) (within_tests p) (and_tests (is_within q) (is_within (p +ℤ q)) (within_tests q) (within_tests (p +ℤ q))) in
    (λ e. let h = t.0 e in record { first = h.0; second = h.1.0; sum = h.1.1 }, λ h. t.1 (h.first, (h.second, h.sum)))

zeros_add : (p q : ℤ) → p ≡ pos 0 → q ≡ pos 0 → AddWithin p q
zeros_add p q e d = record { first = zero_within p e; second = zero_within q d; sum = zero_within (p +ℤ q) (omega (arith, ints)) }

pub combination_tests : (a : ℤ) (f : Form) (b : ℤ) (g : Form) → Tests (combination_within a f b g) (CombinesWithin a f b g)
unfolding coefficient
combination_tests a f b g =
    let Q : ℕ → Type 0 = λ y. AddWithin (a *ℤ coefficient y f) (b *ℤ coefficient y g) in
    let test : Term → Bool = λ t. sum_within (a *ℤ coefficient t.name f) (b *ℤ coefficient t.name g) in
    let t = and_tests (sum_within (a *ℤ f.constant) (b *ℤ g.constant)) (each test (f.terms ++ g.terms)) (sum_tests (a *ℤ f.constant) (b *ℤ g.constant))
    (each_tests test (λ (t : Term). Q t.name) (λ t. sum_tests (a *ℤ coefficient t.name f) (b *ℤ coefficient t.name g)) (f.terms ++ g.terms)) in (
      λ e.
          let h = t.0 e in
          record {
            places = λ y. covers Q y f.terms (each_left (λ (t : Term). Q t.name) f.terms g.terms h.1) (λ d. covers Q y g.terms (each_right (λ (t : Term). Q t.name) f.terms g.terms h.1) (λ k.
                zeros_add (a *ℤ coefficient y f) (b *ℤ coefficient y g) (ap (λ z. a *ℤ z) d ∙ mul_zero a) (ap (λ z. b *ℤ z) k ∙ mul_zero b)));
            constants = h.0;
          },
      λ h. t.1 (h.constants, each_of (λ (t : Term). Q t.name) (λ (t : Term). h.places t.name) (f.terms ++ g.terms)),
    )

-- ---- refusals

-- a test of what does not hold is false
pub refuted : (b : Bool) {P : Type 0} → Tests b P → ¬ P → b ≡ false
refuted true t n = absurd (n (t.0 refl))
refuted false t n = refl

past_not_within : (z : ℤ) → PastLimit z → ¬ (InLimit z)
past_not_within z p w = absurd (omega arith)

pub sum_refused : (p q : ℤ) → AddPasses p q → ¬ (AddWithin p q)
sum_refused p q h w = elim h.cause [
  | inl a ↦ past_not_within p a w.first
  | inr b ↦ elim b [ inl a ↦ past_not_within q a w.second | inr a ↦ past_not_within (p +ℤ q) a w.sum ]
]

pub combination_refused : (a : ℤ) (f : Form) (b : ℤ) (g : Form) → CombinePasses a f b g → combination_within a f b g ≡ false
combination_refused a f b g h = refuted (combination_within a f b g) (combination_tests a f b g) (λ w. go w)
  where
    go : ¬ (CombinesWithin a f b g)
    go w = elim h.cause [
      | inl s ↦ sum_refused (a *ℤ coefficient s.0 f) (b *ℤ coefficient s.0 g) s.1 (w.places s.0)
      | inr s ↦ sum_refused (a *ℤ f.constant) (b *ℤ g.constant) s w.constants
    ]

pub combination_tested : (a : ℤ) (f : Form) (b : ℤ) (g : Form) → CombinesWithin a f b g → combination_within a f b g ≡ true
combination_tested a f b g w = (combination_tests a f b g).1 w
