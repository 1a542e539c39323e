-- Bounds of a name: what their pairs say is true exactly where some value of the name meets all.
use Rattle.std.proofs.Common.{◌≡◌, ◌⊎◌, inl, inr, ⊎_elim, ℕ, ◌<◌, Bool, true, false, ◌||◌, List, [], ◌∷◌, ◌++◌, map, ap, sym, ◌∙◌, subst, arith, ◌↔◌, nat_eq}
use Rattle.std.proofs.Math.IntN.{ℤ, pos, neg_ℤ, ◌+ℤ◌, ◌*ℤ◌}
use Rattle.std.specs.Prelude.{◌<ℤ◌}
use Rattle.std.proofs.lemmas.Int.{ints}
use Rattle.exact_numbers.proofs.Ring.{ring, mul_zero, one_mul, mul_comm, neg_mul}
use Rattle.exact_numbers.proofs.Order.{mul_positive, factor_positive, cancel}
use Rattle.logic_meaning.specs.Context.{Fields}
use Rattle.logic_meaning.specs.Point.{Point, Of, move}
use Rattle.logic_meaning.specs.Form.{Form, value, coefficient}
use Rattle.logic_meaning.specs.Some.{SomeOf, Among, EachOf}
use Rattle.logic_meaning.specs.Atom.{Atom, Compare, Says, Mentions, form_of}
use Rattle.logic_meaning.specs.NormalForm.{IsNormal}
use Rattle.logic_meaning.specs.Rows.{Row, Pair, pairs, without_name}
use Rattle.linear_theory.specs.RowsHold.{Holds, RowsHold, rows_after}
use Rattle.linear_theory.proofs.Lists.{each_from, absent_row, pair_is, by_origin}
use Rattle.linear_theory.proofs.NewRow.{new_row_is}
use Rattle.linear_theory.proofs.Signs.{holds_mul, holds_times, holds_join}
use Rattle.linear_theory.proofs.StepExact.{step_exact}
use Rattle.formula_laws.proofs.Listed.{some_among, among_some, among_append, among_left, among_right}
use Rattle.elimination_theory.proofs.SomeListed.{each_among}
use Rattle.elimination_theory.proofs.IntegersNames.{map_among}
use Rattle.elimination_theory.proofs.FieldsLine.{value_still}
use Rattle.normal_atoms.specs.declared.atoms.Atom.{Atom as Written}
use Rattle.normal_atoms.specs.Atoms.{atom_of}
use Rattle.case_theory.specs.PutThrough.{AreTrue}
use Rattle.shadow_theory.specs.Shadows.{HasValue, HasNamesOf}
use Rattle.field_shadows.specs.declared.hold.Bound.{Bound}
use Rattle.field_shadows.specs.Holds.{form_of_bound, atom_of_bound}
use Rattle.field_shadows.specs.Bounds.{IsUpper, IsLower, IsJoined, AreJoined, below_zero}
use Rattle.field_shadows.specs.Rest.{AreTrueWithout}
use Rattle.field_shadows.proofs.Forms.{row_of, says_bound, named_bound, cancelled_names, still, without_true}

-- ---- the sum of two bounds

-- the multiplier of the lower one is positive too
by_positive : (t b a c : ℤ) → pos 0 <ℤ t → pos 0 <ℤ a → c <ℤ pos 0 → t *ℤ a +ℤ b *ℤ c ≡ pos 0 → pos 0 <ℤ b
by_positive t b a c pt pa nc e =
    let d : pos 0 <ℤ neg_ℤ c = omega (arith, ints) in
    let p : pos 0 <ℤ (t *ℤ a) = mul_positive pt pa in
    let i : neg_ℤ c *ℤ b ≡ neg_ℤ (b *ℤ c) = neg_mul c b ∙ ap (λ z. neg_ℤ z) (mul_comm c b) in
    let q : pos 0 <ℤ (neg_ℤ c *ℤ b) = omega (arith, ints) in
    factor_positive d q

-- two sums in which the name cancels are multiples of each other
same_line : (n f s t b a c q h u l : ℤ) → c <ℤ pos 0 → f *ℤ a +ℤ s *ℤ c ≡ pos 0 → t *ℤ a +ℤ b *ℤ c ≡ pos 0 → n *ℤ q ≡ f *ℤ u +ℤ s *ℤ l → h ≡ t *ℤ u +ℤ b *ℤ l → (t *ℤ n) *ℤ q ≡ f *ℤ h
same_line n f s t b a c q h u l nc e g i j =
    let one = simp ring at (ap (λ z. t *ℤ z) e ∙ mul_zero t) in
    let two = simp ring at (ap (λ z. f *ℤ z) g ∙ mul_zero f) in
    let same : c *ℤ (t *ℤ s) ≡ c *ℤ (f *ℤ b) = simp ring (omega (arith, ints, one, two)) in
    let z : ¬ (c ≡ pos 0) = λ d. absurd (omega (arith, ints)) in
    let cross : t *ℤ s ≡ f *ℤ b = cancel c z same in
    let three = simp ring at (ap (λ z. t *ℤ z) i) in
    let four = simp ring at (ap (λ z. f *ℤ z) j) in
    let five = simp ring at (ap (λ z. z *ℤ l) cross) in
    simp ring (omega (arith, ints, three, four, five))

-- what the atom of a pair says
says_below : (s : Bool) (f : Form) (q : Point ℕ) → Says (Compare (below_zero s) f) q ↔ Holds s (value f q)
says_below true f q = (λ h. h, λ h. h)
says_below false f q = (λ h. h, λ h. h)

module _ (x : ℕ) (upper lower : Bound) (v : Written) (joined : IsJoined x upper lower v) where
  joined_holds : (q : Point ℕ) → Says (atom_of v) q ↔ Holds (upper.strict || lower.strict) (value joined.form q)
  joined_holds q = subst (λ (a : Atom). Says a q ↔ Holds (upper.strict || lower.strict) (value joined.form q)) (sym joined.is) (says_below (upper.strict || lower.strict) joined.form q)

  module _ (up : pos 0 <ℤ coefficient x (form_of_bound upper)) (low : coefficient x (form_of_bound lower) <ℤ pos 0) where
    cancels : joined.cancelled.times *ℤ coefficient x (form_of_bound upper) +ℤ joined.cancelled.by *ℤ coefficient x (form_of_bound lower) ≡ pos 0
    cancels = sym (joined.cancelled.coefficients x) ∙ joined.cancelled.gone

    -- it holds where both bounds do
    joined_follows : (p : Point ℕ) (k : ℤ) (m : ℕ) → 0 < m → Says (atom_of_bound upper) (move nat_eq p x k m) → Says (atom_of_bound lower) (move nat_eq p x k m) → Says (atom_of v) p
    joined_follows p k m pm hu hl =
        let q = move nat_eq p x k m in
        let s = upper.strict || lower.strict in
        let c = joined.cancelled in
        let b : pos 0 <ℤ c.by = by_positive c.times c.by (coefficient x (form_of_bound upper)) (coefficient x (form_of_bound lower)) c.positive up low cancels in
        let one : pos 0 <ℤ pos 1 = omega (arith, ints) in
        let there : Holds s (value joined.form q) =
        holds_join upper.strict lower.strict c.times (value (form_of_bound upper) q) c.by (value (form_of_bound lower) q) (pos 1) (value joined.form q) c.positive b one
        (one_mul (value joined.form q) ∙ c.values q) ((says_bound upper q).0 hu) ((says_bound lower q).0 hl) in
        let h : pos 0 <ℤ pos m = omega (arith, ints) in
        (joined_holds p).1 ((holds_mul s (pos m) (value joined.form p) h).1 (subst (Holds s) (value_still joined.form p x k m c.gone) there))

    abbrev pair : Pair
    pair = record { upper = row_of upper; lower = row_of lower }

    -- and where it does, so does the new row of the two
    joined_enough : (p : Point ℕ) → Says (atom_of v) p → Holds (without_name x pair).strict (value (without_name x pair).form p)
    joined_enough p h =
        let below : pos 0 <ℤ neg_ℤ (coefficient x (form_of_bound lower)) = omega (arith, ints) in
        let new = new_row_is x pair up below in
        let c = joined.cancelled in
        let s = upper.strict || lower.strict in
        let own : new.first *ℤ coefficient x (form_of_bound upper) +ℤ new.second *ℤ coefficient x (form_of_bound lower) ≡ pos 0 = sym (new.coefficients x) ∙ ap (λ z. new.times *ℤ z) new.name_gone ∙ mul_zero new.times in
        let line = same_line new.times new.first new.second c.times c.by (coefficient x (form_of_bound upper)) (coefficient x (form_of_bound lower)) (value (without_name x pair).form p) (value joined.form p)
        (value (form_of_bound upper) p) (value (form_of_bound lower) p) low own cancels (new.values p) (c.values p) in
        subst (λ b. Holds b (value (without_name x pair).form p)) (sym new.strict)
        (holds_times s new.first (value joined.form p) (c.times *ℤ new.times) (value (without_name x pair).form p) new.first_positive (mul_positive c.positive new.times_positive) line ((joined_holds p).0 h))

-- ---- all pairs

module _ (x : ℕ) (us : List Atom) (uppers lowers : List Bound) (up : EachOf (IsUpper x us) uppers) (low : EachOf (IsLower x us) lowers) where
  abbrev rows : List Row
  rows = map row_of uppers ++ map row_of lowers

  upper_of : (r : Row) → Among rows r → pos 0 <ℤ coefficient x r.form → (b : Bound) × Among uppers b × (row_of b ≡ r)
  upper_of r m h =
      ⊎_elim (map_among row_of uppers r)
      (λ n.
      let b = map_among row_of lowers r n in
      let l : coefficient x (form_of_bound b.0) <ℤ pos 0 = (each_among (IsLower x us) lowers b.0 low b.1).1 in
      let e : coefficient x (form_of_bound b.0) ≡ coefficient x r.form = ap (λ (z : Row). coefficient x z.form) b.2 in
      absurd (omega (arith, ints)))
      (among_append (map row_of uppers) (map row_of lowers) r m)

  lower_of : (r : Row) → Among rows r → pos 0 <ℤ neg_ℤ (coefficient x r.form) → (b : Bound) × Among lowers b × (row_of b ≡ r)
  lower_of r m h =
      ⊎_elim
      (λ n.
      let b = map_among row_of uppers r n in
      let l : pos 0 <ℤ coefficient x (form_of_bound b.0) = (each_among (IsUpper x us) uppers b.0 up b.1).1 in
      let e : coefficient x (form_of_bound b.0) ≡ coefficient x r.form = ap (λ (z : Row). coefficient x z.form) b.2 in
      absurd (omega (arith, ints)))
      (map_among row_of lowers r)
      (among_append (map row_of uppers) (map row_of lowers) r m)

  none_absent : (r : Row) → Among rows r → coefficient x r.form ≡ pos 0 → ⊥
  none_absent r m e =
      ⊎_elim
      (λ n.
      let b = map_among row_of uppers r n in
      let l : pos 0 <ℤ coefficient x (form_of_bound b.0) = (each_among (IsUpper x us) uppers b.0 up b.1).1 in
      let d : coefficient x (form_of_bound b.0) ≡ coefficient x r.form = ap (λ (z : Row). coefficient x z.form) b.2 in
      absurd (omega (arith, ints)))
      (λ n.
      let b = map_among row_of lowers r n in
      let l : coefficient x (form_of_bound b.0) <ℤ pos 0 = (each_among (IsLower x us) lowers b.0 low b.1).1 in
      let d : coefficient x (form_of_bound b.0) ≡ coefficient x r.form = ap (λ (z : Row). coefficient x z.form) b.2 in
      absurd (omega (arith, ints)))
      (among_append (map row_of uppers) (map row_of lowers) r m)

  module _ (vs : List Written) (all : AreJoined x uppers lowers vs) where
    -- the atom of two of the bounds
    atom_for : (a b : Bound) → Among uppers a → Among lowers b → (v : Written) × Among vs v × IsJoined x a b v
    atom_for a b ma mb =
        some_among (IsJoined x a b) vs (each_among (λ (d : Bound). SomeOf (IsJoined x d b) vs) uppers a (each_among (λ (c : Bound). EachOf (λ (d : Bound). SomeOf (IsJoined x d c) vs) uppers) lowers b all.each mb) ma)

    -- the bounds of an atom
    bounds_for : (v : Written) → Among vs v → (a : Bound) × (b : Bound) × Among uppers a × Among lowers b × IsJoined x a b v
    bounds_for v m =
        let s = some_among (λ (b : Bound). SomeOf (λ (a : Bound). IsJoined x a b v) uppers) lowers (each_among (λ (w : Written). SomeOf (λ (b : Bound). SomeOf (λ (a : Bound). IsJoined x a b w) uppers) lowers) vs v all.from m) in
        let t = some_among (λ (a : Bound). IsJoined x a s.0 v) uppers s.2 in
        (t.0, s.0, t.1, s.1, t.2)

    module _ (p : Point ℕ) where
      true_at : (v : Written) → Among vs v → AreTrue (map atom_of vs) p → Says (atom_of v) p
      true_at v m h = each_among (λ (a : Atom). Says a p) (map atom_of vs) (atom_of v) h (mapped vs v m)
        where
          mapped : (ws : List Written) (w : Written) → Among ws w → Among (map atom_of ws) (atom_of w)
          mapped [] w n = absurd n
          mapped (z ∷ ws) w (inl e) = inl (ap atom_of e)
          mapped (z ∷ ws) w (inr n) = inr (mapped ws w n)

      pair_holds : AreTrue (map atom_of vs) p → (pair : Pair) → Among (pairs x rows) pair → Holds (without_name x pair).strict (value (without_name x pair).form p)
      pair_holds h pair n =
          let i = pair_is x rows pair n in
          let a = upper_of pair.upper i.upper i.above_positive in
          let b = lower_of pair.lower i.lower i.below_positive in
          let v = atom_for a.0 b.0 a.1 b.1 in
          let held = joined_enough x a.0 b.0 v.0 v.2 (each_among (IsUpper x us) uppers a.0 up a.1).1 (each_among (IsLower x us) lowers b.0 low b.1).1 p (true_at v.0 v.1 h) in
          subst (λ (z : Row). Holds (without_name x (record { upper = pair.upper; lower = z })).strict (value (without_name x (record { upper = pair.upper; lower = z })).form p)) b.2
          (subst (λ (z : Row). Holds (without_name x (record { upper = z; lower = row_of b.0 })).strict (value (without_name x (record { upper = z; lower = row_of b.0 })).form p)) a.2 held)

      after_holds : AreTrue (map atom_of vs) p → RowsHold p (rows_after x rows)
      after_holds h =
          each_from (λ (r : Row). Holds r.strict (value r.form p)) (rows_after x rows) (λ r n.
          by_origin x rows r n
          (λ old. let i = absent_row x rows r old in absurd (none_absent r i.0 i.1))
          (λ pair new same. subst (λ (z : Row). Holds z.strict (value z.form p)) same (pair_holds h pair new)))

      row_says : (q : Point ℕ) → RowsHold q rows → (b : Bound) → Among (map row_of uppers ++ map row_of lowers) (row_of b) → Says (atom_of_bound b) q
      row_says q h b m = (says_bound b q).1 (each_among (λ (r : Row). Holds r.strict (value r.form q)) rows (row_of b) h m)

      -- each atom is without the name, or one of the bounds
      abbrev pub IsBounded : Atom → Type 0
      IsBounded u = (coefficient x (form_of u) ≡ pos 0) ⊎ (Among (map atom_of_bound uppers) u ⊎ Among (map atom_of_bound lowers) u)

      mapped_row : (bs : List Bound) (b : Bound) → Among bs b → Among (map row_of bs) (row_of b)
      mapped_row [] b n = absurd n
      mapped_row (z ∷ bs) b (inl e) = inl (ap row_of e)
      mapped_row (z ∷ bs) b (inr n) = inr (mapped_row bs b n)

      module _ (normal : EachOf (IsNormal Fields) us) (seen : (u : Atom) → Among us u → IsBounded u) where
        forth : Of Fields p → AreTrueWithout x us p × AreTrue (map atom_of vs) p → HasValue Fields x us p
        forth o h =
            let found = (step_exact x rows p o).0 (after_holds h.1) in
            let q = move nat_eq p x found.0 found.1 in (
              found.0,
              found.1,
              found.2,
              each_from (λ (u : Atom). Says u q) us (λ u m.
                  ⊎_elim
                  (λ e. (still u (each_among (IsNormal Fields) us u normal m) x p found.0 found.1 found.2 e).1 (each_among (λ (w : Atom). coefficient x (form_of w) ≡ pos 0 → Says w p) us u h.0 m e))
                  (⊎_elim
                  (λ n. let b = map_among atom_of_bound uppers u n in subst (λ (w : Atom). Says w q) b.2 (row_says q found.3 b.0 (among_left (map row_of uppers) (map row_of lowers) (row_of b.0) (mapped_row uppers b.0 b.1))))
                  (λ n. let b = map_among atom_of_bound lowers u n in subst (λ (w : Atom). Says w q) b.2 (row_says q found.3 b.0 (among_right (map row_of uppers) (map row_of lowers) (row_of b.0) (mapped_row lowers b.0 b.1)))))
                  (seen u m)),
            )

        back : HasValue Fields x us p → AreTrueWithout x us p × AreTrue (map atom_of vs) p
        back h = (
          without_true us normal x p h.0 h.1 h.2 h.3,
          each_from (λ (a : Atom). Says a p) (map atom_of vs) (λ a m.
              let v = map_among atom_of vs a m in
              let b = bounds_for v.0 v.1 in
              let q = move nat_eq p x h.0 h.1 in
              let iu = each_among (IsUpper x us) uppers b.0 up b.2 in
              let il = each_among (IsLower x us) lowers b.1 low b.3 in
              subst (λ (w : Atom). Says w p) v.2
              (joined_follows x b.0 b.1 v.0 b.4 iu.1 il.1 p h.0 h.1 h.2 (each_among (λ (w : Atom). Says w q) us (atom_of_bound b.0) h.3 iu.0) (each_among (λ (w : Atom). Says w q) us (atom_of_bound b.1) h.3 il.0))),
        )

        pub pairs_exact : Of Fields p → (AreTrueWithout x us p × AreTrue (map atom_of vs) p) ↔ HasValue Fields x us p
        pairs_exact o = (forth o, back)

    pub pairs_names : EachOf (HasNamesOf x us) (map atom_of vs)
    pairs_names =
        each_from (HasNamesOf x us) (map atom_of vs) (λ a m.
        let v = map_among atom_of vs a m in
        let b = bounds_for v.0 v.1 in
        let iu = each_among (IsUpper x us) uppers b.0 up b.2 in
        let il = each_among (IsLower x us) lowers b.1 low b.3 in
        subst (HasNamesOf x us) (sym b.4.is ∙ v.2)
        (cancelled_names x (form_of_bound b.0) (form_of_bound b.1) b.4.form b.4.cancelled us
        (λ y n. among_some (λ (u : Atom). Mentions u y) us (atom_of_bound b.0) iu.0 (named_bound b.0 y n))
        (λ y n. among_some (λ (u : Atom). Mentions u y) us (atom_of_bound b.1) il.0 (named_bound b.1 y n))))
