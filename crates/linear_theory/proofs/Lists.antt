-- The rows of each kind, and pairs of them.
use Rattle.std.proofs.Common.{◌≡◌, ℕ, Bool, true, false, List, [], ◌∷◌, map, cond, inl, inr, ⊎_elim, refl, sym, ap, ◌∙◌, subst, arith}
use Rattle.std.proofs.Math.IntN.{ℤ, pos, neg_ℤ}
use Rattle.std.specs.Prelude.{◌<ℤ◌, int_lt, filter}
use Rattle.std.specs.Ordering.{int_eq}
use Rattle.std.specs.Cmp.{signed_Decides}
use Rattle.std.proofs.lemmas.Int.{ints}
use Rattle.exact_numbers.proofs.Order.{by_order}
use Rattle.logic_meaning.specs.Some.{Among, EachOf}
use Rattle.logic_meaning.specs.Form.{coefficient}
use Rattle.formula_laws.proofs.Listed.{among_append, among_left, among_right, among_flat_map, flat_map_among}
use Rattle.elimination_theory.proofs.IntegersNames.{map_among}
use Rattle.logic_meaning.specs.Rows.{Row, absent, uppers, lowers, Pair, pairs, above, below, without_name}
use Rattle.linear_theory.specs.RowsHold.{rows_after}

-- ---- elements

pub each_from : {X : Type 0} (P : X → Type 0) (xs : List X) → ((x : X) → Among xs x → P x) → EachOf P xs
each_from P [] f = tt
each_from P (x ∷ xs) f = (f x (inl refl), each_from P xs (λ y m. f y (inr m)))

among_map : {X Y : Type 0} (g : X → Y) (xs : List X) (x : X) → Among xs x → Among (map g xs) (g x)
among_map g [] x m = absurd m
among_map g (y ∷ ys) x (inl e) = inl (ap g e)
among_map g (y ∷ ys) x (inr m) = inr (among_map g ys x m)

module _ {X : Type 0} (test : X → Bool) where
  among_filter : (xs : List X) (x : X) → Among (filter test xs) x → Among xs x × (test x ≡ true)
  among_filter [] x m = absurd m
  among_filter (y ∷ ys) x m = go (test y) refl m (among_filter ys x)
    where
      go : (b : Bool) → test y ≡ b → Among (cond b (y ∷ filter test ys) (filter test ys)) x → (Among (filter test ys) x → Among ys x × (test x ≡ true)) → Among (y ∷ ys) x × (test x ≡ true)
      go true e (inl is) ih = (inl is, ap test (sym is) ∙ e)
      go true e (inr n) ih = let i = ih n in (inr i.0, i.1)
      go false e n ih = let i = ih n in (inr i.0, i.1)

  filter_among : (xs : List X) (x : X) → Among xs x → test x ≡ true → Among (filter test xs) x
  filter_among [] x m h = absurd m
  filter_among (y ∷ ys) x m h = go (test y) refl m (λ n. filter_among ys x n h)
    where
      go : (b : Bool) → test y ≡ b → Among (y ∷ ys) x → (Among ys x → Among (filter test ys) x) → Among (cond b (y ∷ filter test ys) (filter test ys)) x
      go true e (inl is) ih = inl is
      go true e (inr n) ih = inr (ih n)
      go false e (inl is) ih = absurd cc (sym e ∙ ap test is ∙ h)
      go false e (inr n) ih = ih n

-- ---- rows of each kind

pub less_told : (z w : ℤ) → int_lt z w ≡ true → z <ℤ w
less_told z w e = grind (arith, ints)

less_tested : (z w : ℤ) → z <ℤ w → int_lt z w ≡ true
less_tested z w h = grind (arith, ints)

module _ (x : ℕ) (rows : List Row) where
  pub upper_row : (r : Row) → Among (uppers x rows) r → Among rows r × (pos 0 <ℤ coefficient x r.form)
  upper_row r m = let i = among_filter (λ (r : Row). int_lt (pos 0) (coefficient x r.form)) rows r m in (i.0, less_told (pos 0) (coefficient x r.form) i.1)

  pub lower_row : (r : Row) → Among (lowers x rows) r → Among rows r × (pos 0 <ℤ neg_ℤ (coefficient x r.form))
  lower_row r m =
      let i = among_filter (λ (r : Row). int_lt (coefficient x r.form) (pos 0)) rows r m in
      let l = less_told (coefficient x r.form) (pos 0) i.1 in
      (i.0, omega (arith, ints))

  pub absent_row : (r : Row) → Among (absent x rows) r → Among rows r × (coefficient x r.form ≡ pos 0)
  absent_row r m = let i = among_filter (λ (r : Row). int_eq (coefficient x r.form) (pos 0)) rows r m in (i.0, (signed_Decides (coefficient x r.form) (pos 0)).0 i.1)

  -- each row is of one kind
  pub by_kind : {P : Type 0} (r : Row) → Among rows r → (Among (absent x rows) r → coefficient x r.form ≡ pos 0 → P) → (Among (uppers x rows) r → P) → (Among (lowers x rows) r → P) → P
  by_kind r m none up down =
      by_order (coefficient x r.form) (pos 0)
      (λ h. down (filter_among (λ (r : Row). int_lt (coefficient x r.form) (pos 0)) rows r m (less_tested (coefficient x r.form) (pos 0) h)))
      (λ e. none (filter_among (λ (r : Row). int_eq (coefficient x r.form) (pos 0)) rows r m ((signed_Decides (coefficient x r.form) (pos 0)).1 e)) e)
      (λ h. up (filter_among (λ (r : Row). int_lt (pos 0) (coefficient x r.form)) rows r m (less_tested (pos 0) (coefficient x r.form) h)))

  abbrev with_lower : Row → Row → Pair
  with_lower p n = record { upper = p; lower = n }

  pub among_pairs : (p n : Row) → Among (uppers x rows) p → Among (lowers x rows) n → Among (pairs x rows) (record { upper = p; lower = n })
  among_pairs p n mp mn = among_flat_map (λ p. map (with_lower p) (lowers x rows)) (uppers x rows) p (with_lower p n) mp (among_map (with_lower p) (lowers x rows) n mn)

  -- what is known of a pair
  pub record IsPair (pair : Pair) : Type 0 where
    pub upper : Among rows pair.upper
    pub lower : Among rows pair.lower
    pub above_positive : pos 0 <ℤ above x pair
    pub below_positive : pos 0 <ℤ below x pair

  pub pair_is : (pair : Pair) → Among (pairs x rows) pair → IsPair pair
  pair_is pair m =
      let i = flat_map_among (λ p. map (with_lower p) (lowers x rows)) (uppers x rows) pair m in
      let j = map_among (with_lower i.0) (lowers x rows) pair i.2 in
      let u = upper_row i.0 i.1 in
      let l = lower_row j.0 j.1 in
      subst IsPair j.2 (record { upper = u.0; lower = l.0; above_positive = u.1; below_positive = l.1 })

  -- the rows after the step: those without the name, and those of pairs
  pub by_origin : {P : Type 0} (r : Row) → Among (rows_after x rows) r → (Among (absent x rows) r → P) → ((pair : Pair) → Among (pairs x rows) pair → without_name x pair ≡ r → P) → P
  by_origin r m old new =
      ⊎_elim old (λ n. let i = map_among (without_name x) (pairs x rows) r n in new i.0 i.1 i.2) (among_append (absent x rows) (map (without_name x) (pairs x rows)) r m)

  pub absent_after : (r : Row) → Among (absent x rows) r → Among (rows_after x rows) r
  absent_after r m = among_left (absent x rows) (map (without_name x) (pairs x rows)) r m

  pub pair_after : (pair : Pair) → Among (pairs x rows) pair → Among (rows_after x rows) (without_name x pair)
  pair_after pair m = among_right (absent x rows) (map (without_name x) (pairs x rows)) (without_name x pair) (among_map (without_name x) (pairs x rows) pair m)
