-- A number of a class that meets bounds on both sides.
use Rattle.std.proofs.Common.{◌≡◌, ℕ, List, [], ◌∷◌, inl, inr, sym, subst, arith}
use Rattle.std.proofs.Math.IntN.{ℤ, pos, neg_ℤ, ◌+ℤ◌, ◌-ℤ◌, ◌*ℤ◌}
use Rattle.std.specs.Prelude.{◌≤ℤ◌, ◌<ℤ◌}
use Rattle.std.proofs.lemmas.Int.{ints}
use Rattle.exact_numbers.specs.Divides.{Divides, floor_of, residue_of}
use Rattle.exact_numbers.proofs.Ring.{ring}
use Rattle.exact_numbers.proofs.Order.{by_less, mul_positive, mul_at_most, cancel_less}
use Rattle.exact_numbers.proofs.Floor.{floor_and_residue, residue_not_negative, residue_below}
use Rattle.exact_numbers.proofs.Divisibility.{divides_along, divides_add, divides_mul}
use Rattle.logic_meaning.specs.Point.{Point}
use Rattle.logic_meaning.specs.Form.{Form, value, coefficient, without}
use Rattle.logic_meaning.specs.Some.{SomeOf, EachOf}
use Rattle.integer_shadows.specs.Sides.{AreAtLeast}
use Rattle.integer_shadows.specs.Pairs.{gap_of, need_for, need_of, GapsSuffice, AllSuffice}
use Rattle.integer_shadows.proofs.Moved.{moved, line, gap_stays}

-- ---- numbers

upper_product : (a b m : ℤ) → a *ℤ (b *ℤ m -ℤ pos 1) ≡ (b *ℤ a) *ℤ m -ℤ a
upper_product a b m = simp ring (omega (arith, ints))

-- where the least number that meets a lower bound misses an upper one, the gap of the two is too small
pub meets_upper : (a b m l u : ℤ) → pos 0 <ℤ a → pos 0 <ℤ b → l <ℤ (b *ℤ m) → need_for b a m ≤ℤ (a *ℤ l +ℤ b *ℤ u) → pos 0 ≤ℤ u
meets_upper a b m l u ha hb h n =
    by_less u (pos 0)
    (λ low.
    let one : u ≤ℤ neg_ℤ (pos 1) = omega (arith, ints) in
    let two : l ≤ℤ (b *ℤ m -ℤ pos 1) = omega (arith, ints) in
    let first : (b *ℤ u) ≤ℤ (b *ℤ neg_ℤ (pos 1)) = mul_at_most b (omega (arith, ints)) one in
    let second : (a *ℤ l) ≤ℤ (a *ℤ (b *ℤ m -ℤ pos 1)) = mul_at_most a (omega (arith, ints)) two in
    let e = upper_product a b m in
    let d : b *ℤ neg_ℤ (pos 1) ≡ neg_ℤ b = simp ring (omega (arith, ints)) in
    absurd (omega (arith, ints)))
    (λ high. high)

down_to : (b m t k q : ℤ) → b *ℤ (k +ℤ m *ℤ neg_ℤ q) +ℤ t ≡ (b *ℤ k +ℤ t) -ℤ (b *ℤ m) *ℤ q
down_to b m t k q = simp ring (omega (arith, ints))

-- a number of the class of k that meets a lower bound, so that the one before does not
pub record Reached (b m t k : ℤ) : Type 0 where
  pub steps : ℤ
  pub meets : pos 0 ≤ℤ (b *ℤ (k +ℤ m *ℤ steps) +ℤ t)
  pub tight : (b *ℤ (k +ℤ m *ℤ steps) +ℤ t) <ℤ (b *ℤ m)

pub reached : (b m t k : ℤ) → pos 0 <ℤ b → pos 0 <ℤ m → Reached b m t k
reached b m t k hb hm =
    let d = b *ℤ m in let v = b *ℤ k +ℤ t in
    let hd : pos 0 <ℤ d = mul_positive hb hm in
    let q = floor_of v d in
    let e = floor_and_residue v d hd in
    let s : b *ℤ (k +ℤ m *ℤ neg_ℤ q) +ℤ t ≡ residue_of v d = let g = down_to b m t k q in omega (arith, ints) in
    record {
      steps = neg_ℤ q;
      meets = subst (λ z. pos 0 ≤ℤ z) (sym s) (residue_not_negative v d);
      tight = subst (λ z. z <ℤ d) (sym s) (residue_below v d hd);
    }

class_moves : (n c r k m j : ℤ) → (c *ℤ k +ℤ r) +ℤ (c *ℤ m) *ℤ j ≡ c *ℤ (k +ℤ m *ℤ j) +ℤ r
class_moves n c r k m j = simp ring (omega (arith, ints))

-- the class of a number repeats with the step
pub same_class : (n c r k m j : ℤ) → Divides n (c *ℤ m) → Divides n (c *ℤ k +ℤ r) → Divides n (c *ℤ (k +ℤ m *ℤ j) +ℤ r)
same_class n c r k m j d h = divides_along (class_moves n c r k m j) (divides_add h (divides_mul j d))

-- ---- lower bounds

module _ (x : ℕ) (p : Point ℕ) (n c r m : ℤ) (hm : pos 0 <ℤ m) (d : Divides n (c *ℤ m)) where
  -- a number of the class that meets all lower bounds, and the number before in the class misses one
  pub record Greatest (ls : List Form) : Type 0 where
    pub at : ℤ
    pub in_class : Divides n (c *ℤ at +ℤ r)
    pub meets : AreAtLeast ls (moved x p at)
    pub tight : SomeOf (λ (l : Form). value l (moved x p at) <ℤ (coefficient x l *ℤ m)) ls

  further : (l : Form) (k j : ℤ) → pos 0 <ℤ coefficient x l → k ≤ℤ j → pos 0 ≤ℤ value l (moved x p k) → pos 0 ≤ℤ value l (moved x p j)
  further l k j hb h e =
      let s = line x p k l in let t = line x p j l in
      let g : (coefficient x l *ℤ k) ≤ℤ (coefficient x l *ℤ j) = mul_at_most (coefficient x l) (omega (arith, ints)) h in
      omega (arith, ints)

  all_further : (ls : List Form) (k j : ℤ) → EachOf (λ (l : Form). pos 0 <ℤ coefficient x l) ls → k ≤ℤ j → AreAtLeast ls (moved x p k) → AreAtLeast ls (moved x p j)
  all_further [] k j hs h e = tt
  all_further (l ∷ ls) k j hs h e = (further l k j hs.0 h e.0, all_further ls k j hs.1 h e.1)

  -- the first one of the bounds
  record First (l : Form) : Type 0 where
    at : ℤ
    in_class : Divides n (c *ℤ at +ℤ r)
    meets : pos 0 ≤ℤ value l (moved x p at)
    tight : value l (moved x p at) <ℤ (coefficient x l *ℤ m)

  first : (l : Form) (k : ℤ) → pos 0 <ℤ coefficient x l → Divides n (c *ℤ k +ℤ r) → First l
  first l k hb h =
      let b = coefficient x l in let t = value (without x l) p in
      let g = reached b m t k hb hm in
      let at = k +ℤ m *ℤ g.steps in
      let e : b *ℤ at +ℤ t ≡ value l (moved x p at) = sym (line x p at l) in
      record {
        at = at;
        in_class = same_class n c r k m g.steps d h;
        meets = subst (λ z. pos 0 ≤ℤ z) e g.meets;
        tight = subst (λ z. z <ℤ (b *ℤ m)) e g.tight;
      }

  after : (l : Form) (k j : ℤ) → pos 0 <ℤ coefficient x l → value l (moved x p k) <ℤ pos 0 → pos 0 ≤ℤ value l (moved x p j) → k ≤ℤ j
  after l k j hb low high =
      let s = line x p k l in let t = line x p j l in
      let g : (coefficient x l *ℤ k) <ℤ (coefficient x l *ℤ j) = omega (arith, ints) in
      let h = cancel_less (coefficient x l) hb g in
      omega (arith, ints)

  more : (l : Form) (ls : List Form) → EachOf (λ (f : Form). pos 0 <ℤ coefficient x f) (l ∷ ls) → Greatest ls → First l → Greatest (l ∷ ls)
  more l ls hs g f =
      by_less (value l (moved x p g.at)) (pos 0)
      (λ low. record {
        at = f.at;
        in_class = f.in_class;
        meets = (f.meets, all_further ls g.at f.at hs.1 (after l g.at f.at hs.0 low f.meets) g.meets);
        tight = inl f.tight;
      })
      (λ high. record { at = g.at; in_class = g.in_class; meets = (high, g.meets); tight = inr g.tight })

  pub greatest : (l : Form) (ls : List Form) (k : ℤ) → EachOf (λ (f : Form). pos 0 <ℤ coefficient x f) (l ∷ ls) → Divides n (c *ℤ k +ℤ r) → Greatest (l ∷ ls)
  greatest l [] k hs h = let f = first l k hs.0 h in record { at = f.at; in_class = f.in_class; meets = (f.meets, tt); tight = inl f.tight }
  greatest l (f ∷ ls) k hs h = more l (f ∷ ls) hs (greatest f ls k hs.1 h) (first l k hs.0 h)

  -- ---- upper bounds

  meets_one : (l u : Form) (k : ℤ) → pos 0 <ℤ coefficient x l → coefficient x u <ℤ pos 0 → value l (moved x p k) <ℤ (coefficient x l *ℤ m) → need_of x m l u ≤ℤ gap_of x l u p → pos 0 ≤ℤ value u (moved x p k)
  meets_one l u k hb ha tight h =
      meets_upper (neg_ℤ (coefficient x u)) (coefficient x l) m (value l (moved x p k)) (value u (moved x p k)) (omega (arith, ints)) hb tight
      (subst (λ z. need_of x m l u ≤ℤ z) (sym (gap_stays x p k l u)) h)

  meets_each : (l : Form) (us : List Form) (k : ℤ) → pos 0 <ℤ coefficient x l → EachOf (λ (u : Form). coefficient x u <ℤ pos 0) us → value l (moved x p k) <ℤ (coefficient x l *ℤ m) → GapsSuffice x m l us p →
      AreAtLeast us (moved x p k)
  meets_each l [] k hb hs tight h = tt
  meets_each l (u ∷ us) k hb hs tight h = (meets_one l u k hb hs.0 tight h.0, meets_each l us k hb hs.1 tight h.1)

  -- the number that is just above some lower bound meets all upper ones
  pub meets_all : (ls us : List Form) (k : ℤ) → EachOf (λ (f : Form). pos 0 <ℤ coefficient x f) ls → EachOf (λ (u : Form). coefficient x u <ℤ pos 0) us →
      SomeOf (λ (l : Form). value l (moved x p k) <ℤ (coefficient x l *ℤ m)) ls → AllSuffice x m ls us p → AreAtLeast us (moved x p k)
  meets_all [] us k hs gs tight h = absurd tight
  meets_all (l ∷ ls) us k hs gs (inl tight) h = meets_each l us k hs.0 gs tight h.0
  meets_all (l ∷ ls) us k hs gs (inr tight) h = meets_all ls us k hs.1 gs tight h.1
