-- Atoms of the integers as one side sees them: their steps, their truth far out, and the test points that are near.
use Rattle.std.proofs.Common.{◌≡◌, ℕ, suc, zero, ◌+◌, ◌/◌, ◌<◌, ℤ, pos, negsuc, ◌+ℤ◌, ◌-ℤ◌, ◌*ℤ◌, neg_ℤ, ◌≤ℤ◌, ◌<ℤ◌, ◌⊎◌, ◌↔◌, arith, refl, inl, inr, subst, sym, ap, ◌∙◌, nat_eq, true, false}
use Rattle.std.proofs.lemmas.Int.{ints}
use Rattle.exact_numbers.proofs.Ring.{mul_one, neg_mul, mul_neg}
use Rattle.logic_meaning.specs.Context.{Integers}
use Rattle.logic_meaning.specs.Point.{Point, move}
use Rattle.logic_meaning.specs.Some.{SomeOf}
use Rattle.logic_meaning.specs.Form.{Form, value, coefficient, without, plus}
use Rattle.logic_meaning.specs.Atom.{Atom, Compare, Congruent, Relation, Equals, Differs, Below, AtMost, Above, AtLeast, Relates, Says, form_of, mirrored}
use Rattle.logic_meaning.specs.Answer.{Periodic}
use Rattle.logic_meaning.specs.Tree.{TrueAt}
use Rattle.formula_laws.proofs.Values.{value_plus, value_scale}
use Rattle.formula_laws.proofs.Iff.{both_ways, turn_round}
use Rattle.logic_meaning.specs.declared.side.Side.{Side}
use Rattle.logic_meaning.specs.declared.side.Side.TheVariants.{Lower, Upper}
use Rattle.logic_meaning.specs.IntegersSubstitution.{along, integer_atom}
use Rattle.logic_meaning.specs.IntegersPoints.{signed, starts_of, comparison_starts, atom_starts}
use Rattle.elimination_theory.proofs.IntegerRelation.{Near, mirrored_mirrored}
use Rattle.elimination_theory.proofs.IntegerCompare.{ComparesLow, ComparesNear, IsCongruent, Scales, compares_step, compares_low, congruent_stays, congruent_back}
use Rattle.elimination_theory.proofs.IntegerAtom.{SaysAt, LowAt, says_at, periodic_says}
use Rattle.elimination_theory.proofs.IntegerEval.{Downwards}
use Rattle.elimination_theory.proofs.IntegerDescent.{Stays}

-- ---- signs

pub signed_signed : (side : Side) (k : ℤ) → signed side (signed side k) ≡ k
signed_signed Lower k = refl
signed_signed Upper k = omega (arith, ints)

pub signed_mul : (side : Side) (a k : ℤ) → a *ℤ signed side k ≡ signed side a *ℤ k
signed_mul Lower a k = refl
signed_mul Upper a k = mul_neg a k ∙ sym (neg_mul a k)

pub signed_out : (side : Side) (a k : ℤ) → a *ℤ signed side k ≡ signed side (a *ℤ k)
signed_out Lower a k = refl
signed_out Upper a k = mul_neg a k

pub signed_add : (side : Side) (a b : ℤ) → signed side (a +ℤ b) ≡ signed side a +ℤ signed side b
signed_add Lower a b = refl
signed_add Upper a b = omega (arith, ints)

pub along_signed : (side : Side) (step : ℕ) (a : ℤ) → 0 < step → along (signed side (neg_ℤ (pos step))) a ≡ signed side a
along_signed Lower zero a h = absurd (omega arith)
along_signed Upper zero a h = absurd (omega arith)
along_signed Lower (suc n) a h = refl
along_signed Upper (suc n) a h = refl

-- ---- an atom whose name has the coefficient a and whose rest is t

-- what the span gives: the scale is a multiple of the coefficient, and the step a period of the congruence
abbrev pub FitsAt : ℕ → ℕ → Atom → ℤ → Type 0
FitsAt l step (Compare r f) a = Scales l a
FitsAt l step (Congruent holds n f) a = (w : ℤ) × (a *ℤ pos step ≡ w *ℤ pos n)

scales_neg : (l : ℕ) (a : ℤ) → Scales l a → Scales l (neg_ℤ a)
scales_neg l (pos zero) s = s
scales_neg l (pos (suc n)) s = s
scales_neg l (negsuc n) s = s

period_neg : (a s w n : ℤ) → a *ℤ s ≡ w *ℤ n → neg_ℤ a *ℤ s ≡ neg_ℤ w *ℤ n
period_neg a s w n e = neg_mul a s ∙ ap neg_ℤ e ∙ sym (neg_mul w n)

fits_signed : (side : Side) (l step : ℕ) (a : Atom) (c : ℤ) → FitsAt l step a c → FitsAt l step a (signed side c)
fits_signed Lower l step a c fits = fits
fits_signed Upper l step (Compare r f) c fits = scales_neg l c fits
fits_signed Upper l step (Congruent holds n f) c (w, e) = (neg_ℤ w, period_neg c (pos step) w (pos n) e)

-- near, for comparisons alone
abbrev pub NearAt : ℕ → ℕ → Atom → ℤ → ℤ → ℤ → Type 0
NearAt l d (Compare r f) a t k = ComparesNear l d r a t k
NearAt l d (Congruent holds n f) a t k = ⊥

one_down : (k s : ℤ) → k +ℤ s *ℤ neg_ℤ (pos 1) ≡ k -ℤ s
one_down k s = let e = mul_neg s (pos 1) in let o = mul_one s in omega (arith, ints)

step_at : (a : Atom) (c t k : ℤ) (l d step : ℕ) → FitsAt l step a c → 0 < d → pos d ≡ pos l *ℤ pos step →
    SaysAt a c t k → SaysAt a c t (k -ℤ pos step) ⊎ NearAt l d a c t k
step_at (Compare r f) c t k l d step fits positive e is = compares_step r c t k l d step fits positive e is
step_at (Congruent true n f) c t k l d step fits positive e is =
    inl (subst (IsCongruent n c t) (one_down k (pos step)) (congruent_stays n c t k (neg_ℤ (pos 1)) step fits is))
step_at (Congruent false n f) c t k l d step fits positive e is =
    inl (λ other. is (congruent_back n c t k (neg_ℤ (pos 1)) step fits (subst (IsCongruent n c t) (sym (one_down k (pos step))) other)))

low_at : (a : Atom) (c t : ℤ) (l step : ℕ) → FitsAt l step a c → 0 < l → (u : ℤ) × ((k : ℤ) → k <ℤ u → SaysAt a c t k ↔ LowAt a c c t k)
low_at (Compare r f) c t l step fits positive = compares_low r c t l fits positive
low_at (Congruent holds n f) c t l step fits positive = (pos 0, λ k far. (λ i. i, λ i. i))

stays_at : (a : Atom) (c t : ℤ) (l step : ℕ) → FitsAt l step a c → (k z : ℤ) → LowAt a c c t k → LowAt a c c t (k +ℤ pos step *ℤ z)
stays_at (Compare r f) c t l step fits k z is = is
stays_at (Congruent true n f) c t l step fits k z is = congruent_stays n c t k z step fits is
stays_at (Congruent false n f) c t l step fits k z is = λ other. is (congruent_back n c t k z step fits other)

-- ---- the atom as a side sees it

same_sum : (F : ℤ → Type 0) {u v : ℤ} → u ≡ v → (t : ℤ) → F (u +ℤ t) ↔ F (v +ℤ t)
same_sum F e t = (subst (λ z. F (z +ℤ t)) e, subst (λ z. F (z +ℤ t)) (sym e))

says_signed : (side : Side) (a : Atom) (c t k : ℤ) → SaysAt a c t (signed side k) ↔ SaysAt a (signed side c) t k
says_signed side (Compare r f) c t k = same_sum (λ s. Relates r s (pos 0)) (signed_mul side c k) t
says_signed side (Congruent true n f) c t k = same_sum (λ s. (q : ℤ) × (s ≡ q *ℤ pos n)) (signed_mul side c k) t
says_signed side (Congruent false n f) c t k = same_sum (λ s. ¬ ((q : ℤ) × (s ≡ q *ℤ pos n))) (signed_mul side c k) t

low_signed : (side : Side) (a : Atom) (b c t k : ℤ) → b ≡ signed side c → LowAt a b c t (signed side k) ↔ LowAt a (signed side c) (signed side c) t k
low_signed side (Compare r f) b c t k e = (subst (λ z. ComparesLow r z t) e, subst (λ z. ComparesLow r z t) (sym e))
low_signed side (Congruent holds n f) b c t k e = says_signed side (Congruent holds n f) c t k

-- ---- the starts that are near

-- j + 1 numbers after w, of d
between : (w u : ℤ) (d : ℕ) → w <ℤ u → u ≤ℤ (w +ℤ pos d) → (j : ℕ) × (j < d) × (u ≡ w +ℤ pos (j + 1))
between w u d more less = go (u -ℤ (w +ℤ pos 1)) refl
  where
    go : (z : ℤ) → u -ℤ (w +ℤ pos 1) ≡ z → (j : ℕ) × (j < d) × (u ≡ w +ℤ pos (j + 1))
    go (pos j) e = (j, omega (arith, ints), omega (arith, ints))
    go (negsuc n) e = absurd (omega (arith, ints))

-- u is, as the side sees it, one of the d numbers after the value of b
abbrev pub After : Side → ℕ → Point ℕ → ℤ → Form → Type 0
After side d p u b = (j : ℕ) × (j < d) × (u ≡ value b p +ℤ signed side (pos (j + 1)))

module _ (side : Side) (d : ℕ) (p : Point ℕ) where
  after : (w u : ℤ) (b : Form) → value b p ≡ signed side w → w <ℤ u → u ≤ℤ (w +ℤ pos d) → After side d p (signed side u) b
  after w u b e more less =
      let j : (j : ℕ) × (j < d) × (u ≡ w +ℤ pos (j + 1)) = between w u d more less in
      (j.0, j.1, ap (signed side) j.2 ∙ signed_add side w (pos (j.0 + 1)) ∙ ap (λ z. z +ℤ signed side (pos (j.0 + 1))) (sym e))

  before_value : (v : Form) (w : ℤ) → p.below ≡ 1 → value v p ≡ signed side w → value (plus v (signed side (negsuc 0))) p ≡ signed side (w -ℤ pos 1)
  before_value v w whole e =
      value_plus v (signed side (negsuc 0)) p ∙ ap (λ m. value v p +ℤ signed side (negsuc 0) *ℤ pos m) whole
      ∙ ap (λ z. value v p +ℤ z) (mul_one (signed side (negsuc 0))) ∙ ap (λ z. z +ℤ signed side (negsuc 0)) e ∙ sym (signed_add side w (negsuc 0))

  near_start : (r : Relation) (w u : ℤ) (v : Form) → p.below ≡ 1 → value v p ≡ signed side w → Near r w d u → SomeOf (After side d p (signed side u)) (starts_of side r v)
  near_start Equals w u v whole e near = inl (after (w -ℤ pos 1) u _ (before_value v w whole e) near.0 near.1)
  near_start Differs w u v whole e near = inl (after w u v e near.0 near.1)
  near_start Below w u v whole e near = near
  near_start AtMost w u v whole e near = near
  near_start Above w u v whole e near = inl (after w u v e near.0 near.1)
  near_start AtLeast w u v whole e near = inl (after (w -ℤ pos 1) u _ (before_value v w whole e) near.0 near.1)

signed_neg : (a t : ℤ) → neg_ℤ (neg_ℤ a *ℤ t) ≡ a *ℤ t
signed_neg a t = let e = neg_mul a t in omega (arith, ints)

-- what is near for an atom is one of the numbers after a start of the atom
near_comparison : (side : Side) (c : ℤ) (r : Relation) (t : Form) (l d : ℕ) (p : Point ℕ) (k : ℤ) → p.below ≡ 1 →
    ComparesNear l d r (signed side c) (value t p) k → SomeOf (After side d p (signed side (pos l *ℤ k))) (comparison_starts side l c r t)
near_comparison Lower (pos zero) r t l d p k whole near = near
near_comparison Lower (pos (suc n)) r t l d p k whole near = near_start Lower d p r _ _ _ whole (value_scale (neg_ℤ (pos (l / suc n))) t p) near
near_comparison Lower (negsuc n) r t l d p k whole near = near_start Lower d p (mirrored r) _ _ _ whole (value_scale (pos (l / suc n)) t p) near
near_comparison Upper (pos zero) r t l d p k whole near = near
near_comparison Upper (pos (suc n)) r t l d p k whole near =
    near_start Upper d p (mirrored r) _ _ _ whole (value_scale (neg_ℤ (pos (l / suc n))) t p ∙ neg_mul (pos (l / suc n)) (value t p)) near
near_comparison Upper (negsuc n) r t l d p k whole near =
    near_start Upper d p (mirrored (mirrored r)) _ _ _ whole (value_scale (pos (l / suc n)) t p ∙ sym (signed_neg (pos (l / suc n)) (value t p)))
    (subst (λ s. Near s (neg_ℤ (pos (l / suc n)) *ℤ value t p) d (pos l *ℤ k)) (sym (mirrored_mirrored r)) near)

near_atom : (side : Side) (a : Atom) (x l d : ℕ) (p : Point ℕ) (k : ℤ) → p.below ≡ 1 →
    NearAt l d a (signed side (coefficient x (form_of a))) (value (without x (form_of a)) p) k →
    SomeOf (After side d p (pos l *ℤ signed side k)) (atom_starts side l x a)
near_atom side (Compare r f) x l d p k whole near =
    subst (λ u. SomeOf (After side d p u) (atom_starts side l x (Compare r f))) (sym (signed_out side (pos l) k))
    (near_comparison side (coefficient x f) r (without x f) l d p k whole near)
near_atom side (Congruent holds n f) x l d p k whole near = near

-- ---- what the descent asks of an atom

-- the scale and the step fit an atom
abbrev pub Fits : ℕ → ℕ → ℕ → Atom → Type 0
Fits l step x a = FitsAt l step a (coefficient x (form_of a))

module _ (side : Side) (x l d step : ℕ) (p : Point ℕ) (whole : p.below ≡ 1) where
  -- the atom is true with x set to k, as the side sees it
  abbrev pub SaysHere : ℤ → Atom → Type 0
  SaysHere k a = Says a (move nat_eq p x (signed side k) 1)

  -- the atom is true far out in the residue class of k
  abbrev pub SaysFar : ℤ → Atom → Type 0
  SaysFar k a = TrueAt Integers (integer_atom x (Periodic (signed side k) (signed side (neg_ℤ (pos step)))) a) p

  -- l * k is one of the d numbers after a start of the atom
  abbrev pub IsNear : ℤ → Atom → Type 0
  IsNear k a = SomeOf (After side d p (pos l *ℤ signed side k)) (atom_starts side l x a)

  here_is : (a : Atom) (k : ℤ) → SaysHere k a ↔ SaysAt a (signed side (coefficient x (form_of a))) (value (without x (form_of a)) p) k
  here_is a k = both_ways (says_at a p x (signed side k) whole) (says_signed side a (coefficient x (form_of a)) _ k)

  far_is : 0 < step → (a : Atom) (k : ℤ) →
      SaysFar k a ↔ LowAt a (signed side (coefficient x (form_of a))) (signed side (coefficient x (form_of a))) (value (without x (form_of a)) p) k
  far_is positive a k =
      both_ways (turn_round (periodic_says a p x (signed side k) (signed side (neg_ℤ (pos step))) whole))
      (low_signed side a _ (coefficient x (form_of a)) _ k (along_signed side step _ positive))

  pub atom_step : 0 < d → pos d ≡ pos l *ℤ pos step → (a : Atom) → Fits l step x a → (k : ℤ) → SaysHere k a → SaysHere (k -ℤ pos step) a ⊎ IsNear k a
  atom_step positive e a fits k is =
      elim (step_at a _ _ k l d step (fits_signed side l step a _ fits) positive e ((here_is a k).0 is)) [
        | inl lower ↦ inl ((here_is a (k -ℤ pos step)).1 lower)
        | inr near ↦ inr (near_atom side a x l d p k whole near)
      ]

  pub atom_low : 0 < l → 0 < step → (a : Atom) → Fits l step x a → Downwards (λ k. SaysHere k a ↔ SaysFar k a)
  atom_low positive steps a fits =
      let low = low_at a (signed side (coefficient x (form_of a))) (value (without x (form_of a)) p) l step (fits_signed side l step a _ fits) positive in
      (low.0, λ k far. both_ways (here_is a k) (both_ways (low.1 k far) (turn_round (far_is steps a k))))

  pub atom_stays : 0 < step → (a : Atom) → Fits l step x a → Stays SaysFar step a
  atom_stays steps a fits k z is =
      (far_is steps a (k +ℤ pos step *ℤ z)).1 (stays_at a _ _ l step (fits_signed side l step a _ fits) k z ((far_is steps a k).0 is))
