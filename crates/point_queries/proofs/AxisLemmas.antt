-- The axes of a grid: as entries of points, and with their names numbered.
use mathlib.Core.HLevel.{is_prop→PathP}
use Rattle.std.proofs.Common.{◌≡◌, inl, inr, ⊎_elim, ℕ, zero, suc, ◌<◌, length, Bool, true, false, MatchBool, List, [], ◌∷◌, ◌++◌, map, nat_eq, sym, ap, ap₂, ◌∙◌, subst₂, refl, arith}
use Rattle.std.proofs.Props.{props}
use Rattle.std.proofs.Math.IntN.{ℤ, pos, negsuc}
use Rattle.std.proofs.lemmas.Int.{ints}
use Rattle.std.proofs.lemmas.Bool.{ne_eqb}
use Rattle.std.specs.List.{AllByRecursion, IsDistinct, HoldsAt, AllWithin, fold}
use Rattle.std.specs.Prelude.{◌<ℤ◌, ◌≤ℤ◌, slice_get, unsigned_abs}
use Rattle.exact_numbers.specs.declared.fraction.Fraction.{Fraction}
use Rattle.exact_numbers.specs.Limit.{InLimit}
use Rattle.exact_numbers.specs.Divides.{Divides}
use Rattle.exact_numbers.proofs.Divisibility.{divides_same, divisor_at_most}
use Rattle.exact_numbers.proofs.FractionRule.{lowest_proper}
use Rattle.exact_numbers.proofs.LeastMultiple.{lcm_is}
use Rattle.logic_meaning.specs.Context.{Context, Fields, Integers, IsDenominator}
use Rattle.logic_meaning.specs.Some.{SomeOf}
use Rattle.language_meaning.specs.declared.tree.Literal.{Literal}
use Rattle.language_meaning.specs.declared.tree.Literal.TheVariants.{Fits}
use Rattle.language_meaning.specs.declared.entries.PointEntry.{PointEntry}
use Rattle.language_meaning.specs.Point.{HasEntry, NamesTwice, IsZeroBelow, IsCommonMultiple, lowest_terms}
use Rattle.written_syntax.specs.Valued.{IsIn}
use Rattle.written_syntax.specs.Writable.{AreWritableEntries}
use Rattle.logic_meaning.specs.Names.{place, with_name}
use Rattle.resolved_formulas.proofs.PlaceLaws.{slice_place}
use Rattle.language_meaning.specs.declared.grid.Ratio.{Ratio}
use Rattle.language_meaning.specs.declared.grid.GridAxis.{GridAxis}
use Rattle.written_syntax.specs.StatementSyntaxWritable.{AreWritableAxes}
use Rattle.program_meaning.specs.declared.axis.Axis.{Axis}
use Rattle.program_meaning.specs.GridPoints.{lowest_of, multiple_with, multiple_of, common}
use Rattle.point_grid.specs.Steps.{name_of, IsRising}
use Rattle.point_grid.proofs.Multiples.{with_grows, common_positive}
use Rattle.program_meaning.specs.Points.{MeanNoPoint}
use Rattle.program_meaning.specs.Grids.{lows, highs, steps, IsFlat, MeanNoGrid, IsFraction, IsAxis, AreAxes, ArePast}
use Rattle.point_queries.specs.Asked.{HaveNumbers, entry_names}
use Rattle.point_queries.specs.GridSteps.{IsDivided, IsPastRatio, IsPastAxis}
use Rattle.point_queries.proofs.PointLemmas.{whole_entries}

-- ---- the axes that are written are one list

same_fraction : (f g : Fraction) → f.numerator ≡ g.numerator → f.denominator ≡ g.denominator → f ≡ g
same_fraction f g n d = λ i. record {
  numerator = n i;
  denominator = d i;
  positive = is_prop→PathP (λ j. pos 0 <ℤ d j) (λ j. hlevel props) f.positive g.positive i;
  numerator_within = is_prop→PathP (λ j. InLimit (n j)) (λ j. hlevel props) f.numerator_within g.numerator_within i;
  denominator_within = is_prop→PathP (λ j. InLimit (d j)) (λ j. hlevel props) f.denominator_within g.denominator_within i;
}

same_number : (l : Literal) (a b : ℤ) → l ≡ Fits a → l ≡ Fits b → a ≡ b
same_number l a b e f = let g = sym e ∙ f in cc

one_fraction : (r : Ratio) (f g : Fraction) → IsFraction r f → IsFraction r g → f ≡ g
one_fraction r f g h k = same_fraction f g (same_number r.above f.numerator g.numerator h.0 k.0) (same_number r.below f.denominator g.denominator h.1 k.1)

one_axis : (number : List ℕ → ℕ) (w : GridAxis) (a b : Axis) → IsAxis number w a → IsAxis number w b → a ≡ b
one_axis number w a b h k =
    let name : a.name ≡ b.name = λ i. record { number = (h.name ∙ sym k.name) i } in
    let low = one_fraction w.low a.low b.low h.low k.low in
    let high = one_fraction w.high a.high b.high h.high k.high in
    let step = one_fraction w.step a.step b.step h.step k.step in
    λ i. record { name = name i; low = low i; high = high i; step = step i }

-- the text determines the axes
pub axes_determined : (number : List ℕ → ℕ) (written : List GridAxis) (a b : List Axis) → AreAxes number written a → AreAxes number written b → a ≡ b
axes_determined number [] [] [] h k = refl
axes_determined number [] [] (y ∷ b) h k = absurd k
axes_determined number [] (x ∷ a) b h k = absurd h
axes_determined number (w ∷ written) [] b h k = absurd h
axes_determined number (w ∷ written) (x ∷ a) [] h k = absurd k
axes_determined number (w ∷ written) (x ∷ a) (y ∷ b) h k = ap₂ (λ (z : Axis) (c : List Axis). z ∷ c) (one_axis number w x y h.0 k.0) (axes_determined number written a b h.1 k.1)

-- one more axis
pub one_more : (number : List ℕ → ℕ) (written : List GridAxis) (axes : List Axis) (w : GridAxis) (a : Axis) → AreAxes number written axes → IsAxis number w a → AreAxes number (written ++ w ∷ []) (axes ++ a ∷ [])
one_more number [] [] w a h k = (k, tt)
one_more number [] (x ∷ axes) w a h k = absurd h
one_more number (v ∷ written) [] w a h k = absurd h
one_more number (v ∷ written) (x ∷ axes) w a h k = (h.0, one_more number written axes w a h.1 k)

-- ---- the parts of the axes as entries

pub lows_proper : (axes : List GridAxis) → AreWritableAxes axes → AreWritableEntries (lows axes)
lows_proper [] h = tt
lows_proper (a ∷ axes) h = ((h.0.low.above, h.0.low.below, h.0.name), lows_proper axes h.1)

pub highs_proper : (axes : List GridAxis) → AreWritableAxes axes → AreWritableEntries (highs axes)
highs_proper [] h = tt
highs_proper (a ∷ axes) h = ((h.0.high.above, h.0.high.below, h.0.name), highs_proper axes h.1)

pub steps_proper : (axes : List GridAxis) → AreWritableAxes axes → AreWritableEntries (steps axes)
steps_proper [] h = tt
steps_proper (a ∷ axes) h = ((h.0.step.above, h.0.step.below, h.0.name), steps_proper axes h.1)

pub no_zero : (c : Context) (es : List PointEntry) → ¬ (MeanNoPoint c es) → ¬ (SomeOf IsZeroBelow es)
no_zero Fields es meant h = meant (inr h)
no_zero Integers es meant h = meant (inr (inl h))

pub no_name_twice : (c : Context) (es : List PointEntry) → ¬ (MeanNoPoint c es) → ¬ (NamesTwice es)
no_name_twice Fields es meant h = meant (inl h)
no_name_twice Integers es meant h = meant (inl h)

pub all_divided : (axes : List GridAxis) → ¬ (SomeOf IsZeroBelow (lows axes)) → ¬ (SomeOf IsZeroBelow (highs axes)) → ¬ (SomeOf IsZeroBelow (steps axes)) → AllByRecursion IsDivided axes
all_divided [] l h s = tt
all_divided (a ∷ axes) l h s = (
  record { low = λ e. l (inl e); high = λ e. h (inl e); step = λ e. s (inl e) },
  all_divided axes (λ k. l (inr k)) (λ k. h (inr k)) (λ k. s (inr k)),
)

-- the axes of a grid of the theory have no denominator 0
pub meant_divided : (c : Context) (axes : List GridAxis) → ¬ (MeanNoGrid c axes) → AllByRecursion IsDivided axes
meant_divided c axes meant =
    all_divided axes (no_zero c (lows axes) (λ h. meant (inl h))) (no_zero c (highs axes) (λ h. meant (inr (inl h)))) (no_zero c (steps axes) (λ h. meant (inr (inr (inl h)))))

-- ---- tests of all axes

some_here : {X : Type 0} (P : X → Type 0) (xs : List X) (k : ℕ) → k < length xs → HoldsAt P xs k → SomeOf P xs
some_here P [] k h p = absurd (omega arith)
some_here P (x ∷ xs) zero h p = inl (p x)
some_here P (x ∷ xs) (suc k) h p = inr (some_here P xs k (omega arith) (λ d. p d))

none_here : {X : Type 0} (P : X → Type 0) (xs : List X) → AllWithin (λ x. ¬ (P x)) xs 0 (length xs) → ¬ (SomeOf P xs)
none_here P [] h s = s
none_here P (x ∷ xs) h (inl p) = h 0 x (omega arith) (omega arith) p
none_here P (x ∷ xs) h (inr s) = none_here P xs (λ k d l u. h (suc k) d (omega arith) (omega arith)) s

-- what a test of all elements tells
pub some_of_cases : {X : Type 0} (P : X → Type 0) (xs : List X) (b : Bool) → MatchBool b ((k : ℕ) × (k < length xs) × HoldsAt P xs k) (AllWithin (λ x. ¬ (P x)) xs 0 (length xs)) → MatchBool b (SomeOf P xs) (¬ (SomeOf P xs))
some_of_cases P xs true h = some_here P xs h.0 h.1 h.2
some_of_cases P xs false h = none_here P xs h

-- ---- literals above the limit

pub some_past : (axes : List GridAxis) → SomeOf IsPastAxis axes → ArePast axes
some_past [] h = absurd h
some_past (a ∷ axes) (inl (inl p)) = inl (inl p)
some_past (a ∷ axes) (inl (inr (inl p))) = inr (inl (inl p))
some_past (a ∷ axes) (inl (inr (inr p))) = inr (inr (inl p))
some_past (a ∷ axes) (inr h) = ⊎_elim (λ l. inl (inr l)) (λ k. ⊎_elim (λ m. inr (inl (inr m))) (λ n. inr (inr (inr n))) k) (some_past axes h)

fits_not_past : (r : Ratio) (f : Fraction) → IsFraction r f → ¬ (IsPastRatio r)
fits_not_past r f h (inl e) = let g = sym h.0 ∙ e in absurd (cc)
fits_not_past r f h (inr e) = let g = sym h.1 ∙ e in absurd (cc)

-- where each literal has its number, none is above the limit
pub none_past : (number : List ℕ → ℕ) (written : List GridAxis) (axes : List Axis) → AreAxes number written axes → ¬ (ArePast written)
none_past number [] axes h p = ⊎_elim (λ e. e) (λ q. ⊎_elim (λ e. e) (λ e. e) q) p
none_past number (w ∷ written) [] h p = h
none_past number (w ∷ written) (a ∷ axes) h p =
    let rest = none_past number written axes h.1 in
    ⊎_elim
    (λ l. ⊎_elim (fits_not_past w.low a.low h.0.low) (λ k. rest (inl k)) l)
    (λ q.
    ⊎_elim
    (λ l. ⊎_elim (fits_not_past w.high a.high h.0.high) (λ k. rest (inr (inl k))) l)
    (λ l. ⊎_elim (fits_not_past w.step a.step h.0.step) (λ k. rest (inr (inr k))) l)
    q)
    p

-- ---- steps and names

above_zero : (z : ℤ) → ¬ (z ≤ℤ pos 0) → pos 0 <ℤ z
above_zero (pos zero) h = absurd (h (omega (arith, ints)))
above_zero (pos (suc n)) h = omega (arith, ints)
above_zero (negsuc n) h = absurd (h (omega (arith, ints)))

rising_step : (w : GridAxis) (f : Fraction) → IsFraction w.step f → ¬ (IsFlat w) → pos 0 <ℤ f.numerator
rising_step w f h flat = above_zero f.numerator (λ l. flat (f.numerator, f.denominator, h.0, h.1, l))

-- where no step is flat, each is positive
pub all_rising : (number : List ℕ → ℕ) (written : List GridAxis) (axes : List Axis) → AreAxes number written axes → ¬ (SomeOf IsFlat written) → AllByRecursion IsRising axes
all_rising number [] [] h flat = tt
all_rising number [] (a ∷ axes) h flat = absurd h
all_rising number (w ∷ written) [] h flat = absurd h
all_rising number (w ∷ written) (a ∷ axes) h flat = (rising_step w a.step h.0.step (λ k. flat (inl k)), all_rising number written axes h.1 (λ k. flat (inr k)))

module _ (names : List (List ℕ)) where
  -- names of the list with one place are one name
  one_name : (x y : List ℕ) → IsIn x names → IsIn y names → place names x ≡ place names y → x ≡ y
  one_name x y i j e = let p = sym (slice_place names x i) ∙ ap (slice_get names) e ∙ slice_place names y j in cc

  others : (w : GridAxis) (a : Axis) (written : List GridAxis) (axes : List Axis) → IsIn w.name names → a.name.number ≡ place names w.name → HaveNumbers names (lows written) → AreAxes (place names) written axes
      → ¬ (HasEntry w.name (lows written)) → AllByRecursion (λ n. nat_eq a.name.number n ≡ false) (map name_of axes)
  others w a [] [] i n there h other = tt
  others w a [] (b ∷ axes) i n there h other = absurd h
  others w a (v ∷ written) [] i n there h other = absurd h
  others w a (v ∷ written) (b ∷ axes) i n there h other = (
    ne_eqb a.name.number b.name.number (λ e. other (inl (one_name v.name w.name there.0 i (sym h.0.name ∙ sym e ∙ n)))),
    others w a written axes i n there.1 h.1 (λ k. other (inr k)),
  )

  -- where no name stands twice, no two axes have one number
  pub all_distinct : (written : List GridAxis) (axes : List Axis) → HaveNumbers names (lows written) → AreAxes (place names) written axes → ¬ (NamesTwice (lows written)) → IsDistinct nat_eq (map name_of axes)
  unfolding IsDistinct
  all_distinct [] [] there h once = tt
  all_distinct [] (a ∷ axes) there h once = absurd h
  all_distinct (w ∷ written) [] there h once = absurd h
  all_distinct (w ∷ written) (a ∷ axes) there h once =
      (others w a written axes there.0 h.0.name there.1 h.1 (λ k. once (inl k)), all_distinct written axes there.1 h.1 (λ k. once (inr k)))

-- ---- whole axes

whole_ratio : (r : Ratio) (f : Fraction) → IsFraction r f → Divides (lowest_terms r.above r.below).denominator (pos 1) → Divides (lowest_of f).denominator (pos 1)
whole_ratio r f h d = subst₂ (λ u v. Divides (lowest_terms u v).denominator (pos 1)) h.0 h.1 d

below_positive : (f : Fraction) → pos 0 <ℤ (lowest_of f).denominator
below_positive f = lowest_proper f.numerator f.denominator f.positive

with_whole : (m : ℤ) (w : GridAxis) (a : Axis) → pos 0 <ℤ m → Divides m (pos 1) → IsFraction w.low a.low → IsFraction w.high a.high → IsFraction w.step a.step
    → Divides (lowest_terms w.low.above w.low.below).denominator (pos 1) → Divides (lowest_terms w.high.above w.high.below).denominator (pos 1) → Divides (lowest_terms w.step.above w.step.below).denominator (pos 1)
    → Divides (multiple_with m a) (pos 1)
unfolding multiple_with
with_whole m w a h d l k s dl dk ds =
    let first = lcm_is h (below_positive a.low) in
    let second = lcm_is first.positive (below_positive a.high) in
    let third = lcm_is second.positive (below_positive a.step) in
    third.least (pos 1) (second.least (pos 1) (first.least (pos 1) d (whole_ratio w.low a.low l dl)) (whole_ratio w.high a.high k dk)) (whole_ratio w.step a.step s ds)

multiple_whole : (number : List ℕ → ℕ) (m : ℤ) (written : List GridAxis) (axes : List Axis) → AreAxes number written axes → pos 0 <ℤ m → Divides m (pos 1)
    → IsCommonMultiple (lows written) (pos 1) → IsCommonMultiple (highs written) (pos 1) → IsCommonMultiple (steps written) (pos 1) → Divides (multiple_of m axes) (pos 1)
unfolding multiple_of
multiple_whole number m [] [] h p d l k s = d
multiple_whole number m [] (a ∷ axes) h p d l k s = absurd h
multiple_whole number m (w ∷ written) [] h p d l k s = absurd h
multiple_whole number m (w ∷ written) (a ∷ axes) h p d l k s =
    multiple_whole number (multiple_with m a) written axes h.1 (with_grows m a p).positive (with_whole m w a p d h.0.low h.0.high h.0.step l.0 k.0 s.0) l.1 k.1 s.1

-- the common denominator of the axes of a grid of the theory is one of the theory
pub common_of_theory : (c : Context) (number : List ℕ → ℕ) (written : List GridAxis) (axes : List Axis) → AreWritableAxes written → ¬ (MeanNoGrid c written) → AreAxes number written axes
    → IsDenominator c (unsigned_abs (common axes))
common_of_theory Fields number written axes proper meant h = let p = common_positive axes in omega (arith, ints, p)
common_of_theory Integers number written axes proper meant h =
    let d = multiple_whole number (pos 1) written axes h (omega (arith, ints)) (divides_same (pos 1))
    (whole_entries (lows written) (lows_proper written proper) (λ k. meant (inl (inr (inl k)))) (λ k. meant (inl (inr (inr k)))))
    (whole_entries (highs written) (highs_proper written proper) (λ k. meant (inr (inl (inr (inl k))))) (λ k. meant (inr (inl (inr (inr k))))))
    (whole_entries (steps written) (steps_proper written proper) (λ k. meant (inr (inr (inl (inr (inl k)))))) (λ k. meant (inr (inr (inl (inr (inr k))))))) in
    let p = common_positive axes in
    let l = divisor_at_most {d = common axes} {a = pos 1} (omega (arith, ints)) d in
    omega (arith, ints, l, p)

-- ---- the names of the axes

-- one more axis has one more name
pub named_more : (names : List (List ℕ)) (axes : List GridAxis) (a : GridAxis) → with_name (fold with_name names (entry_names (lows axes))) a.name ≡ fold with_name names (entry_names (lows (axes ++ a ∷ [])))
named_more names [] a = refl
named_more names (b ∷ axes) a = named_more (with_name names b.name) axes a
