-- Bounds on one side alone: a number far enough meets all.
use Rattle.std.proofs.Common.{◌≡◌, ◌⊎◌, inl, inr, ⊎_elim, ℕ, suc, zero, Bool, true, false, List, [], ◌∷◌, map, subst, refl, arith, nat_eq}
use Rattle.std.proofs.Math.IntN.{ℤ, pos, negsuc, neg_ℤ, ◌*ℤ◌}
use Rattle.std.specs.Prelude.{◌<ℤ◌}
use Rattle.std.proofs.lemmas.Int.{ints}
use Rattle.exact_numbers.proofs.Order.{by_zero}
use Rattle.logic_meaning.specs.Context.{Fields}
use Rattle.logic_meaning.specs.Point.{Point, Of, move}
use Rattle.logic_meaning.specs.Form.{Form, coefficient}
use Rattle.logic_meaning.specs.Some.{Among, EachOf}
use Rattle.logic_meaning.specs.Atom.{Atom, Compare, Congruent, Relation, Equals, Differs, Below, AtMost, Above, AtLeast, Says, form_of}
use Rattle.logic_meaning.specs.Answer.{PlusInfinity, MinusInfinity, Large}
use Rattle.logic_meaning.specs.Tree.{TrueAt}
use Rattle.logic_meaning.specs.Substitution.{beyond}
use Rattle.logic_meaning.specs.NormalForm.{IsNormal}
use Rattle.elimination_theory.proofs.SomeListed.{each_among}
use Rattle.elimination_theory.proofs.IntegersNames.{map_among}
use Rattle.elimination_theory.proofs.FieldsNear.{large_both, large_all}
use Rattle.elimination_theory.proofs.FieldsMeet.{large_some}
use Rattle.elimination_theory.proofs.FieldsSubstitute.{atom_substitution_exact}
use Rattle.shadow_theory.specs.Shadows.{HasValue}
use Rattle.field_shadows.specs.declared.hold.Bound.{Bound}
use Rattle.field_shadows.specs.Signed.{signed_by}
use Rattle.field_shadows.specs.Holds.{bound_relation, form_of_bound, atom_of_bound, IsRest, IsEquation}
use Rattle.field_shadows.specs.Bounds.{IsUpper, IsLower}
use Rattle.field_shadows.specs.Rest.{AreTrueWithout}
use Rattle.field_shadows.proofs.Cancelling.{coefficient_turned}
use Rattle.field_shadows.proofs.Forms.{still}

-- ---- what is true beyond all numbers

-- a bound that falls is true far enough
beyond_bound : (a : ℤ) (t s : Bool) (f : Form) (p : Point ℕ) → pos 0 <ℤ signed_by t a → TrueAt Fields (beyond a (bound_relation t s) f) p
beyond_bound (pos zero) true s f p h = absurd (omega (arith, ints))
beyond_bound (pos zero) false s f p h = absurd (omega (arith, ints))
beyond_bound (pos (suc n)) true s f p h = absurd (omega (arith, ints))
beyond_bound (pos (suc n)) false true f p h = tt
beyond_bound (pos (suc n)) false false f p h = tt
beyond_bound (negsuc n) true true f p h = tt
beyond_bound (negsuc n) true false f p h = tt
beyond_bound (negsuc n) false s f p h = absurd (omega (arith, ints))

beyond_differs : (a : ℤ) (f : Form) (p : Point ℕ) → ¬ (a ≡ pos 0) → TrueAt Fields (beyond a Differs f) p
beyond_differs (pos zero) f p n = absurd (n refl)
beyond_differs (pos (suc m)) f p n = tt
beyond_differs (negsuc m) f p n = tt

neg_zero : (a : ℤ) → neg_ℤ a ≡ pos 0 → a ≡ pos 0
neg_zero a e = omega (arith, ints)

neg_signed : (t : Bool) (a : ℤ) → signed_by t a <ℤ pos 0 → pos 0 <ℤ signed_by t (neg_ℤ a)
neg_signed true a h = omega (arith, ints)
neg_signed false a h = omega (arith, ints)

module _ (x : ℕ) (p : Point ℕ) (o : Of Fields p) where
  -- the atom is true from some number on
  abbrev IsFar : (ℤ → ℤ) → Atom → Type 0
  IsFar w u = Large (λ t s. Says u (move nat_eq p x (w t *ℤ pos p.below) s))

  all_far : (w : ℤ → ℤ) (us : List Atom) → ((u : Atom) → Among us u → IsFar w u) → Large (λ t s. EachOf (λ (u : Atom). Says u (move nat_eq p x (w t *ℤ pos p.below) s)) us)
  all_far w [] f = large_all (λ t s. EachOf (λ (u : Atom). Says u (move nat_eq p x (w t *ℤ pos p.below) s)) []) (λ t s h. tt)
  all_far w (u ∷ us) f =
      large_both (λ t s. Says u (move nat_eq p x (w t *ℤ pos p.below) s)) (λ t s. EachOf (λ (u : Atom). Says u (move nat_eq p x (w t *ℤ pos p.below) s)) us) (f u (inl refl)) (all_far w us (λ v m. f v (inr m)))

  far_value : (w : ℤ → ℤ) (us : List Atom) → ((u : Atom) → Among us u → IsFar w u) → HasValue Fields x us p
  far_value w us f =
      let i = large_some (λ t s. EachOf (λ (u : Atom). Says u (move nat_eq p x (w t *ℤ pos p.below) s)) us) (all_far w us f) in
      (w i.0 *ℤ pos p.below, i.1, i.2, i.3)

  far_absent : (w : ℤ → ℤ) (u : Atom) → IsNormal Fields u → coefficient x (form_of u) ≡ pos 0 → Says u p → IsFar w u
  far_absent w u n e h = large_all (λ t s. Says u (move nat_eq p x (w t *ℤ pos p.below) s)) (λ t s ps. (still u n x p (w t *ℤ pos p.below) s ps e).1 h)

  far_down : (r : Relation) (f : Form) → TrueAt Fields (beyond (coefficient x f) r f) p → IsFar (λ t. neg_ℤ t) (Compare r f)
  far_down r f h = (atom_substitution_exact x MinusInfinity (Compare r f) p tt tt o).1 h

  far_up : (r : Relation) (f : Form) → TrueAt Fields (beyond (neg_ℤ (coefficient x f)) r f) p → IsFar (λ t. t) (Compare r f)
  far_up r f h = (atom_substitution_exact x PlusInfinity (Compare r f) p tt tt o).1 h

  upper_far : (b : Bound) → pos 0 <ℤ coefficient x (form_of_bound b) → IsFar (λ t. neg_ℤ t) (atom_of_bound b)
  upper_far b h =
      far_down (bound_relation b.form.turned b.strict) b.form.form.now
      (beyond_bound (coefficient x b.form.form.now) b.form.turned b.strict b.form.form.now p (subst (λ z. pos 0 <ℤ z) (coefficient_turned b.form.turned b.form.form.now x) h))

  lower_far : (b : Bound) → coefficient x (form_of_bound b) <ℤ pos 0 → IsFar (λ t. t) (atom_of_bound b)
  lower_far b h =
      far_up (bound_relation b.form.turned b.strict) b.form.form.now
      (beyond_bound (neg_ℤ (coefficient x b.form.form.now)) b.form.turned b.strict b.form.form.now p
      (neg_signed b.form.turned (coefficient x b.form.form.now) (subst (λ z. z <ℤ pos 0) (coefficient_turned b.form.turned b.form.form.now x) h)))

  rest_far_down : (u : Atom) → IsNormal Fields u → IsRest u → ¬ (IsEquation x u) → ¬ (coefficient x (form_of u) ≡ pos 0) → IsFar (λ t. neg_ℤ t) u
  rest_far_down (Compare Equals f) n r e z = absurd (e z)
  rest_far_down (Compare Differs f) n r e z = far_down Differs f (beyond_differs (coefficient x f) f p z)
  rest_far_down (Compare Below f) n r e z = absurd r
  rest_far_down (Compare AtMost f) n r e z = absurd r
  rest_far_down (Compare Above f) n r e z = absurd r
  rest_far_down (Compare AtLeast f) n r e z = absurd r
  rest_far_down (Congruent b m f) n r e z = absurd n

  rest_far_up : (u : Atom) → IsNormal Fields u → IsRest u → ¬ (IsEquation x u) → ¬ (coefficient x (form_of u) ≡ pos 0) → IsFar (λ t. t) u
  rest_far_up (Compare Equals f) n r e z = absurd (e z)
  rest_far_up (Compare Differs f) n r e z = far_up Differs f (beyond_differs (neg_ℤ (coefficient x f)) f p (λ d. z (neg_zero (coefficient x f) d)))
  rest_far_up (Compare Below f) n r e z = absurd r
  rest_far_up (Compare AtMost f) n r e z = absurd r
  rest_far_up (Compare Above f) n r e z = absurd r
  rest_far_up (Compare AtLeast f) n r e z = absurd r
  rest_far_up (Congruent b m f) n r e z = absurd n

  -- ---- all atoms

  -- the atom is without the name, or one of the bounds, or another
  abbrev pub IsKnown : List Bound → Atom → Type 0
  IsKnown bounds u = (coefficient x (form_of u) ≡ pos 0) ⊎ (Among (map atom_of_bound bounds) u ⊎ IsRest u)

  module _ (us : List Atom) (normal : EachOf (IsNormal Fields) us) (none : EachOf (λ u. ¬ (IsEquation x u)) us) (say : AreTrueWithout x us p) where
    far_of : (w : ℤ → ℤ) (bounds : List Bound) → ((b : Bound) → Among bounds b → IsFar w (atom_of_bound b))
        → ((u : Atom) → IsNormal Fields u → IsRest u → ¬ (IsEquation x u) → ¬ (coefficient x (form_of u) ≡ pos 0) → IsFar w u)
        → (u : Atom) → Among us u → IsKnown bounds u → IsFar w u
    far_of w bounds each other u m k =
        let n = each_among (IsNormal Fields) us u normal m in
        let absent : coefficient x (form_of u) ≡ pos 0 → IsFar w u = λ e. far_absent w u n e (each_among (λ (v : Atom). coefficient x (form_of v) ≡ pos 0 → Says v p) us u say m e) in
        ⊎_elim absent
        (⊎_elim
        (λ a. let b = map_among atom_of_bound bounds u a in subst (IsFar w) b.2 (each b.0 b.1))
        (λ r. by_zero (coefficient x (form_of u)) absent (other u n r (each_among (λ (v : Atom). ¬ (IsEquation x v)) us u none m))))
        k

    pub open_down : (uppers : List Bound) → EachOf (IsUpper x us) uppers → ((u : Atom) → Among us u → IsKnown uppers u) → HasValue Fields x us p
    open_down uppers up seen = far_value (λ t. neg_ℤ t) us (λ u m. far_of (λ t. neg_ℤ t) uppers (λ b n. upper_far b (each_among (IsUpper x us) uppers b up n).1) rest_far_down u m (seen u m))

    pub open_up : (lowers : List Bound) → EachOf (IsLower x us) lowers → ((u : Atom) → Among us u → IsKnown lowers u) → HasValue Fields x us p
    open_up lowers low seen = far_value (λ t. t) us (λ u m. far_of (λ t. t) lowers (λ b n. lower_far b (each_among (IsLower x us) lowers b low n).1) rest_far_up u m (seen u m))
