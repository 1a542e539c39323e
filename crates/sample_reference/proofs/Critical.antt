-- The critical values of a formula in one name: where its comparisons are 0.
use Rattle.std.proofs.Common.{◌≡◌, ℕ, suc, zero, Bool, true, false, List, [], ◌∷◌, Option, Some, None, ◌⊎◌, inl, inr, refl, sym, ap, ◌∙◌, subst, arith, nat_eq, unsigned_abs}
use Rattle.std.proofs.Math.IntN.{ℤ, pos, negsuc, neg_ℤ, ◌+ℤ◌, ◌*ℤ◌}
use Rattle.std.specs.Prelude.{◌<ℤ◌}
use Rattle.std.proofs.lemmas.Int.{ints}
use Rattle.exact_numbers.specs.Frac.{Frac, IsProper, lowest}
use Rattle.exact_numbers.proofs.Ring.{ring, mul_zero, mul_comm, neg_mul}
use Rattle.exact_numbers.proofs.Order.{cancel}
use Rattle.exact_numbers.proofs.FractionRule.{lowest_proper, lowest_value}
use Rattle.logic_meaning.specs.Context.{Fields}
use Rattle.logic_meaning.specs.Point.{Point, move}
use Rattle.logic_meaning.specs.Some.{Among, SomeOf, EachOf}
use Rattle.logic_meaning.specs.Form.{Form, Term, total, value, coefficient, without, others}
use Rattle.logic_meaning.specs.Atom.{Atom, Compare, Congruent, form_of}
use Rattle.formula_laws.specs.TheoryAtoms.{AtomIn}
use Rattle.formula_laws.proofs.Values.{value_move}
use Rattle.formula_laws.proofs.FreeNames.{multiple_others, value_agrees}
use Rattle.logic_meaning.specs.Calculated.{root_of, atom_root, with_root, critical_values}
use Rattle.sample_reference.proofs.SamePoints.{some_same, none_some, abs_positive}

-- no other name stands in the form
abbrev pub Alone : ℕ → Form → Type 0
Alone x f = (y : ℕ) → nat_eq x y ≡ false → coefficient y f ≡ pos 0

zero_total : (ts : List Term) → total ts (λ y. pos 0) ≡ pos 0
zero_total [] = refl
zero_total (t ∷ ts) = let i = zero_total ts in let z = mul_zero t.times in omega (arith, ints)

none_others : (x : ℕ) (f : Form) → Alone x f → (y : ℕ) → coefficient y (without x f) ≡ pos 0
unfolding coefficient without
none_others x f h y = go (nat_eq x y) refl
  where
    go : (b : Bool) → nat_eq x y ≡ b → coefficient y (without x f) ≡ pos 0
    go true e = (multiple_others x y f.terms).0 e
    go false e = (multiple_others x y f.terms).1 e ∙ h y e

constant_at : (x : ℕ) (p : Point ℕ) (f : Form) → value (without x f) (record { at = λ y. pos 0; below = p.below }) ≡ f.constant *ℤ pos p.below
unfolding value without
constant_at x p f = let z = zero_total (others x f.terms) in omega (arith, ints)

rest_value : (x : ℕ) (p : Point ℕ) (f : Form) → Alone x f → value (without x f) p ≡ f.constant *ℤ pos p.below
rest_value x p f h =
    value_agrees (without x f) p (record { at = λ y. pos 0; below = p.below }) (record { same_below = refl; same_at = λ y n. absurd (n (none_others x f h y)) })
    ∙ constant_at x p f

-- the form on the line of x
pub line : (x : ℕ) (p : Point ℕ) (f : Form) (k : ℤ) (m : ℕ) → Alone x f → value f (move nat_eq p x k m) ≡ coefficient x f *ℤ k +ℤ (f.constant *ℤ pos p.below) *ℤ pos m
line x p f k m h = value_move f p x k m ∙ ap (λ z. coefficient x f *ℤ k +ℤ z *ℤ pos m) (rest_value x p f h)

-- ---- one root

-- w is the root of a * x + t
pub record IsRoot (a t : ℤ) (w : Frac) : Type 0 where
  pub proper : IsProper w
  pub zero_there : a *ℤ w.numerator +ℤ t *ℤ w.denominator ≡ pos 0
  pub moves : ¬ (a ≡ pos 0)

pub root_is : (a t : ℤ) (w : Frac) → root_of a t ≡ Some w → IsRoot a t w
root_is (pos zero) t w e = none_some w e
root_is (pos (suc n)) t w e =
    let d : pos 0 <ℤ pos (suc n) = omega (arith, ints) in
    let v = lowest_value (neg_ℤ t) (pos (suc n)) d in
    subst (IsRoot (pos (suc n)) t) (some_same (lowest (neg_ℤ t) (pos (suc n))) w e) (record {
      proper = lowest_proper (neg_ℤ t) (pos (suc n)) d;
      zero_there = above (pos (suc n)) t _ _ v;
      moves = λ z. absurd (omega (arith, ints));
    })
  where
    above : (a t n d : ℤ) → n *ℤ a ≡ neg_ℤ t *ℤ d → a *ℤ n +ℤ t *ℤ d ≡ pos 0
    above a t n d h = let c = mul_comm n a in let m = neg_mul t d in omega (arith, ints)
root_is (negsuc n) t w e =
    let d : pos 0 <ℤ pos (suc n) = omega (arith, ints) in
    let v = lowest_value t (pos (suc n)) d in
    subst (IsRoot (negsuc n) t) (some_same (lowest t (pos (suc n))) w e) (record {
      proper = lowest_proper t (pos (suc n)) d;
      zero_there = below (pos (suc n)) (negsuc n) t _ _ (omega (arith, ints)) v;
      moves = λ z. absurd (omega (arith, ints));
    })
  where
    below : (c a t n d : ℤ) → a ≡ neg_ℤ c → n *ℤ c ≡ t *ℤ d → a *ℤ n +ℤ t *ℤ d ≡ pos 0
    below c a t n d s h = let k = ap (λ z. z *ℤ n) s in let m = neg_mul c n in let o = mul_comm n c in omega (arith, ints)

pub root_there : (a t : ℤ) → ¬ (a ≡ pos 0) → (w : Frac) × (root_of a t ≡ Some w)
root_there (pos zero) t h = absurd (h refl)
root_there (pos (suc n)) t h = (lowest (neg_ℤ t) (pos (suc n)), refl)
root_there (negsuc n) t h = (lowest t (pos (suc n)), refl)

at_root : (a t n d b : ℤ) → a *ℤ n +ℤ t *ℤ d ≡ pos 0 → a *ℤ (n *ℤ b) +ℤ (t *ℤ b) *ℤ d ≡ pos 0
at_root a t n d b e =
    let k = simp ring at (ap (λ z. b *ℤ z) e) in
    let z = mul_zero b in
    simp ring (omega (arith, ints, k, z))

from_zero : (a t n d b k m : ℤ) → ¬ (a ≡ pos 0) → a *ℤ n +ℤ t *ℤ d ≡ pos 0 → a *ℤ k +ℤ (t *ℤ b) *ℤ m ≡ pos 0 → (n *ℤ b) *ℤ m ≡ k *ℤ d
from_zero a t n d b k m h e f =
    let g = simp ring at (ap (λ z. (b *ℤ m) *ℤ z) e ∙ mul_zero (b *ℤ m)) in
    let q = simp ring at (ap (λ z. d *ℤ z) f ∙ mul_zero d) in
    let both : a *ℤ ((n *ℤ b) *ℤ m) ≡ a *ℤ (k *ℤ d) = simp ring (omega (arith, ints, g, q)) in
    cancel a h both

-- ---- a list of atoms

module _ (x : ℕ) (p : Point ℕ) where
  -- the atom is 0 where x is k/m
  abbrev pub IsZeroAt : ℤ → ℕ → Atom → Type 0
  IsZeroAt k m a = ¬ (coefficient x (form_of a) ≡ pos 0) × (value (form_of a) (move nat_eq p x k m) ≡ pos 0)

  atom_zero : (a : Atom) (w : Frac) → Alone x (form_of a) → atom_root x a ≡ Some w → IsZeroAt (w.numerator *ℤ pos p.below) (unsigned_abs w.denominator) a
  atom_zero (Congruent holds n f) w h e = none_some w e
  atom_zero (Compare r f) w h e =
      let i = root_is (coefficient x f) f.constant w e in (
        i.moves,
        line x p f (w.numerator *ℤ pos p.below) (unsigned_abs w.denominator) h
            ∙ ap (λ z. coefficient x f *ℤ (w.numerator *ℤ pos p.below) +ℤ (f.constant *ℤ pos p.below) *ℤ z) (abs_positive w.denominator i.proper)
            ∙ at_root (coefficient x f) f.constant w.numerator w.denominator (pos p.below) i.zero_there,
      )

  pub roots_proper : (atoms : List Atom) → EachOf IsProper (critical_values x atoms)
  roots_proper [] = tt
  roots_proper (a ∷ atoms) = go (atom_root x a) (λ w e. proper a w e) (roots_proper atoms)
    where
      proper : (a : Atom) (w : Frac) → atom_root x a ≡ Some w → IsProper w
      proper (Compare r f) w e = (root_is (coefficient x f) f.constant w e).proper
      proper (Congruent holds n f) w e = none_some w e

      go : (o : Option Frac) → ((w : Frac) → o ≡ Some w → IsProper w) → EachOf IsProper (critical_values x atoms) → EachOf IsProper (with_root o (critical_values x atoms))
      go (Some w) h i = (h w refl, i)
      go None h i = i

  -- each critical value comes from an atom
  pub from_atom : (atoms : List Atom) (w : Frac) → Among (critical_values x atoms) w → SomeOf (λ a. atom_root x a ≡ Some w) atoms
  from_atom [] w m = absurd m
  from_atom (a ∷ atoms) w m = go (atom_root x a) refl (from_atom atoms w) m
    where
      go : (o : Option Frac) → atom_root x a ≡ o → (Among (critical_values x atoms) w → SomeOf (λ a. atom_root x a ≡ Some w) atoms) → Among (with_root o (critical_values x atoms)) w → (atom_root x a ≡ Some w) ⊎ SomeOf (λ a. atom_root x a ≡ Some w) atoms
      go (Some v) e ih (inl is) = inl (e ∙ ap Some is)
      go (Some v) e ih (inr n) = inr (ih n)
      go None e ih n = inr (ih n)

  pub to_atom : (atoms : List Atom) (w : Frac) → SomeOf (λ a. atom_root x a ≡ Some w) atoms → Among (critical_values x atoms) w
  to_atom [] w m = absurd m
  to_atom (a ∷ atoms) w m = go (atom_root x a) refl (to_atom atoms w) m
    where
      go : (o : Option Frac) → atom_root x a ≡ o → (SomeOf (λ a. atom_root x a ≡ Some w) atoms → Among (critical_values x atoms) w) → (atom_root x a ≡ Some w) ⊎ SomeOf (λ a. atom_root x a ≡ Some w) atoms → Among (with_root o (critical_values x atoms)) w
      go (Some v) e ih (inl is) = inl (some_same v w (sym e ∙ is))
      go (Some v) e ih (inr n) = inr (ih n)
      go None e ih (inl is) = none_some w (sym e ∙ is)
      go None e ih (inr n) = ih n

  pub zero_at_roots : (atoms : List Atom) (w : Frac) → EachOf (λ a. Alone x (form_of a)) atoms → SomeOf (λ a. atom_root x a ≡ Some w) atoms →
      SomeOf (IsZeroAt (w.numerator *ℤ pos p.below) (unsigned_abs w.denominator)) atoms
  zero_at_roots [] w h m = absurd m
  zero_at_roots (a ∷ atoms) w h (inl is) = inl (atom_zero a w h.0 is)
  zero_at_roots (a ∷ atoms) w h (inr n) = inr (zero_at_roots atoms w h.1 n)

  -- a root of an atom that is 0 at k/m
  record RootAt (k : ℤ) (m : ℕ) (a : Atom) : Type 0 where
    root : Frac
    is : atom_root x a ≡ Some root
    proper : IsProper root
    same : (root.numerator *ℤ pos p.below) *ℤ pos m ≡ k *ℤ root.denominator

  root_at : (a : Atom) (k : ℤ) (m : ℕ) → AtomIn Fields a → Alone x (form_of a) → IsZeroAt k m a → RootAt k m a
  root_at (Congruent holds n f) k m i h z = absurd i
  root_at (Compare r f) k m i h z =
      let w = root_there (coefficient x f) f.constant z.0 in
      let is = root_is (coefficient x f) f.constant w.0 w.1 in
      record {
        root = w.0;
        is = w.1;
        proper = is.proper;
        same = from_zero (coefficient x f) f.constant w.0.numerator w.0.denominator (pos p.below) k (pos m) z.0 is.zero_there (sym (line x p f k m h) ∙ z.1);
      }

  -- the critical value that is k/m
  pub record ValueAt (k : ℤ) (m : ℕ) (values : List Frac) : Type 0 where
    pub critical : Frac
    pub among : Among values critical
    pub proper : IsProper critical
    pub same : (critical.numerator *ℤ pos p.below) *ℤ pos m ≡ k *ℤ critical.denominator

  root_among : (atoms : List Atom) (k : ℤ) (m : ℕ) → EachOf (AtomIn Fields) atoms → EachOf (λ a. Alone x (form_of a)) atoms → SomeOf (IsZeroAt k m) atoms →
      (w : Frac) × SomeOf (λ a. atom_root x a ≡ Some w) atoms × IsProper w × ((w.numerator *ℤ pos p.below) *ℤ pos m ≡ k *ℤ w.denominator)
  root_among [] k m i h s = absurd s
  root_among (a ∷ atoms) k m i h (inl z) = let r = root_at a k m i.0 h.0 z in (r.root, inl r.is, r.proper, r.same)
  root_among (a ∷ atoms) k m i h (inr n) = let r = root_among atoms k m i.1 h.1 n in (r.0, inr r.1, r.2, r.3)

  pub value_at_zero : (atoms : List Atom) (k : ℤ) (m : ℕ) → EachOf (AtomIn Fields) atoms → EachOf (λ a. Alone x (form_of a)) atoms → SomeOf (IsZeroAt k m) atoms → ValueAt k m (critical_values x atoms)
  value_at_zero atoms k m i h s =
      let r = root_among atoms k m i h s in
      record { critical = r.0; among = to_atom atoms r.0 r.1; proper = r.2; same = r.3 }
