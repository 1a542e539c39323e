-- Values put in at the target's value and at the origin: one rational point, but for the target's name.
use Rattle.std.proofs.Common.{◌≡◌, inl, inr, ℕ, ◌*◌, List, [], ◌∷◌, Bool, true, false, if◌then◌else◌, sym, ap, ◌∙◌, subst, refl, arith, nat_eq, eqb-true, eq-eqb, unsigned_abs}
use Rattle.std.proofs.Math.IntN.{ℤ, pos, ◌*ℤ◌}
use Rattle.std.specs.Prelude.{◌<ℤ◌}
use Rattle.std.proofs.lemmas.Int.{ints}
use Rattle.exact_numbers.specs.Frac.{Frac}
use Rattle.exact_numbers.proofs.Ring.{ring}
use Rattle.logic_meaning.specs.Point.{Point, move}
use Rattle.formula_laws.specs.Points.{AgreeOn, finer}
use Rattle.logic_meaning.specs.Some.{Among}
use Rattle.formula_laws.proofs.SamePoint.{finer_move}
use Rattle.formula_laws.proofs.Values.{pos_mul}
use Rattle.logic_meaning.specs.Values.{Value, value_names, with_value, with_values, origin}
use Rattle.sample_reference.proofs.SamePoints.{abs_positive}
use Rattle.least_search.specs.Found.{at_value}

pub below_of_finer : (q : Point ℕ) (n : ℕ) → (finer q n).below ≡ q.below * n
unfolding finer
below_of_finer q n = refl

module _ (z : ℕ) where
  -- ---- the other names

  abbrev pub Other : ℕ → Type 0
  Other y = ¬ (z ≡ y)

  moved : (p q : Point ℕ) → AgreeOn Other p q → (x : ℕ) (k l : ℤ) (m : ℕ) → k ≡ l → AgreeOn Other (move nat_eq p x k m) (move nat_eq q x l m)
  unfolding move
  moved p q a x k l m e = record { same_below = ap (λ b. b * m) a.same_below; same_at = λ y h. go y h (nat_eq x y) }
    where
      go : (y : ℕ) → Other y → (b : Bool) → (if b then k else pos m *ℤ p.at y) ≡ (if b then l else pos m *ℤ q.at y)
      go y h true = e
      go y h false = ap (λ u. pos m *ℤ u) (a.same_at y h)

  number_over : (k : ℤ) (p q : Point ℕ) (n : ℕ) → p.below ≡ (finer q n).below → k *ℤ pos p.below ≡ pos n *ℤ (k *ℤ pos q.below)
  number_over k p q n e = ap (λ b. k *ℤ pos b) (e ∙ below_of_finer q n) ∙ ap (λ b. k *ℤ b) (pos_mul q.below n) ∙ turned k (pos q.below) (pos n)
    where
      turned : (k b n : ℤ) → k *ℤ (b *ℤ n) ≡ n *ℤ (k *ℤ b)
      turned k b n = simp ring (omega (arith, ints))

  valued : (p q : Point ℕ) (n : ℕ) → AgreeOn Other p (finer q n) → (w : Value) → AgreeOn Other (with_value p w) (finer (with_value q w) n)
  valued p q n a w =
      subst (AgreeOn Other (with_value p w)) (sym (finer_move nat_eq q w.name (w.at.numerator *ℤ pos q.below) (unsigned_abs w.at.denominator) n))
      (moved p (finer q n) a w.name _ _ (unsigned_abs w.at.denominator) (number_over w.at.numerator p q n a.same_below))

  all_valued : (ws : List Value) (p q : Point ℕ) (n : ℕ) → AgreeOn Other p (finer q n) → AgreeOn Other (with_values p ws) (finer (with_values q ws) n)
  all_valued [] p q n a = a
  all_valued (w ∷ ws) p q n a = all_valued ws (with_value p w) (with_value q w) n (valued p q n a w)

  others_begin : (v : Frac) → AgreeOn Other (at_value z v) (finer origin (unsigned_abs v.denominator))
  unfolding move finer
  others_begin v = record { same_below = refl; same_at = λ y h. go y h (nat_eq z y) refl }
    where
      go : (y : ℕ) → Other y → (b : Bool) → nat_eq z y ≡ b → (if b then v.numerator else pos (unsigned_abs v.denominator) *ℤ pos 0) ≡ pos (unsigned_abs v.denominator) *ℤ pos 0
      go y h true e = absurd (h (eqb-true z y e))
      go y h false e = refl

  -- with the values, each other name is where it is without the target's value
  pub others_agree : (v : Frac) (ws : List Value) → AgreeOn Other (with_values (at_value z v) ws) (finer (with_values origin ws) (unsigned_abs v.denominator))
  others_agree v ws = all_valued ws (at_value z v) origin (unsigned_abs v.denominator) (others_begin v)

  -- ---- the target's name

  abbrev pub IsThere : Frac → Point ℕ → Type 0
  IsThere v p = p.at z *ℤ v.denominator ≡ v.numerator *ℤ pos p.below

  longer : (m a d n b c : ℤ) → a *ℤ d ≡ n *ℤ b → c ≡ b *ℤ m → (m *ℤ a) *ℤ d ≡ n *ℤ c
  longer m a d n b c e f =
      let g = ap (λ u. m *ℤ u) e in
      let h = ap (λ u. n *ℤ u) f in
      simp ring (omega (arith, ints, g, simp ring at h))

  stays : (v : Frac) (p : Point ℕ) (x : ℕ) (k : ℤ) (m : ℕ) → ¬ (x ≡ z) → IsThere v p → IsThere v (move nat_eq p x k m)
  unfolding move
  stays v p x k m n h = go (nat_eq x z) refl
    where
      go : (b : Bool) → nat_eq x z ≡ b → (if b then k else pos m *ℤ p.at z) *ℤ v.denominator ≡ v.numerator *ℤ pos (p.below * m)
      go true e = absurd (n (eqb-true x z e))
      go false e = longer (pos m) (p.at z) v.denominator v.numerator (pos p.below) (pos (p.below * m)) h (pos_mul p.below m)

  all_stay : (v : Frac) (ws : List Value) (p : Point ℕ) → ¬ (Among (value_names ws) z) → IsThere v p → IsThere v (with_values p ws)
  all_stay v [] p n h = h
  all_stay v (w ∷ ws) p n h = all_stay v ws (with_value p w) (λ i. n (inr i)) (stays v p w.name _ (unsigned_abs w.at.denominator) (λ e. n (inl e)) h)

  begins : (v : Frac) → pos 0 <ℤ v.denominator → IsThere v (at_value z v)
  unfolding move
  begins v h =
      ap (λ b. (if b then v.numerator else pos (unsigned_abs v.denominator) *ℤ pos 0) *ℤ v.denominator) (eq-eqb z z refl)
      ∙ ap (λ d. v.numerator *ℤ d) (sym (abs_positive v.denominator h) ∙ ap pos (one_times (unsigned_abs v.denominator)))
    where
      one_times : (n : ℕ) → n ≡ 1 * n
      one_times n = omega arith

  -- with values of other names the target's name has the target's value
  pub target_there : (v : Frac) (ws : List Value) → pos 0 <ℤ v.denominator → ¬ (Among (value_names ws) z) → IsThere v (with_values (at_value z v) ws)
  target_there v ws h n = all_stay v ws (at_value z v) n (begins v h)
