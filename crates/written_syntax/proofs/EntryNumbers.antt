-- The numbers of entries: their values in lowest terms, over common denominators.
use Rattle.std.proofs.Common.{◌≡◌, ◌⊎◌, inl, inr, ℕ, ◌<◌, List, [], ◌∷◌, ⊎_elim, sym, ◌∙◌, ap, subst, refl, arith, Bool, true, IsTrue, nat_eq, not, MatchOption, Option, Some, ◌+◌, ◌≤◌, length, get_or, drop, ◌++◌, cond, append_assoc, append-nil}
use Rattle.std.proofs.Math.IntN.{ℤ, pos, negsuc, ◌*ℤ◌}
use Rattle.std.specs.Prelude.{◌<ℤ◌, ◌≤ℤ◌, IfSome, unwrap_or, unsigned_abs}
use Rattle.std.specs.Int.{w128, cast_unsigned}
use Rattle.std.specs.List.{AllByRecursion}
use Rattle.std.proofs.lemmas.Int.{ints}
use Rattle.exact_numbers.specs.Limit.{InLimit, PastLimit, checked}
use Rattle.exact_numbers.specs.Divides.{Divides, residue_of, lcm_of, gcd_of}
use Rattle.exact_numbers.specs.Division.{IsLcm}
use Rattle.exact_numbers.specs.Frac.{Frac, lowest, scaled}
use Rattle.std.proofs.lemmas.Bool.{false≢true}
use Rattle.std.proofs.lemmas.Bool.Decides.{nat_tests}
use Rattle.exact_numbers.proofs.Casts.{zero_bits}
use Rattle.exact_numbers.proofs.Ring.{ring, mul_comm}
use Rattle.exact_numbers.proofs.Order.{by_zero, cancel}
use Rattle.exact_numbers.proofs.Divisibility.{divides_same, divides_trans, one_divides, divisor_at_most, divides_both}
use Rattle.exact_numbers.proofs.Floor.{divides_from_residue, residue_of_multiple}
use Rattle.exact_numbers.proofs.LeastMultiple.{exact_div, lcm_is, lcm_divides}
use Rattle.exact_numbers.proofs.FractionRule.{divisor_positive, lowest_proper}
use Rattle.exact_numbers.proofs.GreatestDivisor.{gcd_is}
use Rattle.exact_numbers.proofs.Limits.{by_limit}
use Rattle.logic_meaning.specs.Some.{SomeOf}
use Rattle.language_meaning.specs.declared.tree.Literal.{Literal}
use Rattle.language_meaning.specs.declared.tree.Literal.TheVariants.{Fits, Past}
use Rattle.language_meaning.specs.declared.entries.PointEntry.{PointEntry}
use Rattle.std.specs.Ordering.{nat_cmp}
use Rattle.std.specs.Cmp.Lexicographic.{slice_cmp}
use Rattle.std.specs.BTreeMap.{is_at}
use Rattle.written_syntax.proofs.NameOrder.{by_at, at_same, same_at}
use Rattle.written_syntax.proofs.EntryLists.{each_map, each_push, some_left, some_right, twice_found, rest_at, none_left}
use Rattle.written_syntax.specs.declared.point.PointFault.{PointFault}
use Rattle.written_syntax.specs.declared.point.PointFault.TheVariants.{Double, ZeroBelow, NotWhole, Overflow, Memory}
use Rattle.written_syntax.specs.PointFaults.{FaultOf, CheckFault, PutFault, IsChecked, IsFaultless}
use Rattle.language_meaning.specs.Point.{IsPointOf, HasEntry, NamesTwice, IsZeroBelow, IsPast, IsBroken, lowest_terms, lowest_below, IsCommonMultiple, IsLeastDenominator, DenominatorPasses, IsScaled}
use Rattle.written_syntax.specs.PointNumbers.{point_of, IsReady, AreNumbers, SetsNumber, number_of, IsLowestValue}
use Rattle.written_syntax.specs.Proper.{IsNumeral, IsSigned, IsProperEntry, AreProperEntries}

fits_same : (a b : ℤ) → Fits a ≡ Fits b → a ≡ b
fits_same a b e = cc

pub below_positive : (e : PointEntry) (below : ℤ) → IsProperEntry e → ¬ (IsZeroBelow e) → e.below ≡ Fits below → pos 0 <ℤ below
below_positive e below proper divided fits =
    let h = subst IsNumeral fits proper.1 in
    by_zero below (λ z. absurd (divided (fits ∙ ap Fits z))) (λ (n : ¬ (below ≡ pos 0)). omega (arith, ints, h.0))

pub above_within : (e : PointEntry) (above : ℤ) → IsProperEntry e → e.above ≡ Fits above → InLimit above
above_within e above proper is = subst IsSigned is proper.0

pub below_within : (e : PointEntry) (below : ℤ) → IsProperEntry e → e.below ≡ Fits below → InLimit below
below_within e below proper is = (subst IsNumeral is proper.1).1

fits_past : (a : ℤ) → ¬ (Fits a ≡ Past)
fits_past a e = cc

positive_terms : (above below : Literal) → ((n : ℤ) → below ≡ Fits n → pos 0 <ℤ n) → pos 0 <ℤ (lowest_terms above below).denominator
positive_terms (Fits a) (Fits b) h = lowest_proper a b (h b refl)
positive_terms (Fits a) Past h = omega (arith, ints)
positive_terms Past below h = omega (arith, ints)

nonzero_test : (n : ℕ) → ¬ (n ≡ 0) → IsTrue (not (nat_eq n 0))
nonzero_test n h = grind (arith, nat_tests)

-- a remainder that is not 0, as its bits
pub broken_by_bits : (e : PointEntry) (above below r : ℤ) → IsProperEntry e → ¬ (IsZeroBelow e) → e.above ≡ Fits above → e.below ≡ Fits below
    → r ≡ residue_of above below → InLimit r → IsTrue (not (nat_eq (cast_unsigned w128 r) 0)) → IsBroken e
broken_by_bits e above below r proper divided ea eb er within bits = (
  above,
  below,
  ea,
  eb,
  λ divides.
      let z : r ≡ pos 0 = er ∙ residue_of_multiple (below_positive e below proper divided eb) divides in
      false≢true (subst (λ (x : ℤ). not (nat_eq (cast_unsigned w128 x) 0) ≡ true) z bits),
)

pub bits_by_broken : (e : PointEntry) (above below r : ℤ) → IsProperEntry e → ¬ (IsZeroBelow e) → e.above ≡ Fits above → e.below ≡ Fits below
    → r ≡ residue_of above below → InLimit r → IsBroken e → IsTrue (not (nat_eq (cast_unsigned w128 r) 0))
bits_by_broken e above below r proper divided ea eb er within broken =
    nonzero_test (cast_unsigned w128 r) (λ z.
    let a : broken.0 ≡ above = fits_same broken.0 above (sym broken.2 ∙ ea) in
    let b : broken.1 ≡ below = fits_same broken.1 below (sym broken.3 ∙ eb) in
    let d : Divides below above = divides_from_residue (below_positive e below proper divided eb) (sym er ∙ zero_bits r within z) in
    broken.4 (subst (λ (x : ℤ). Divides x broken.0) (sym b) (subst (λ (x : ℤ). Divides below x) (sym a) d)))

-- what a value in lowest terms says of its entry
pub not_past : (e : PointEntry) (v : Frac) → IsLowestValue e v → ¬ (IsPast e)
not_past e v h p = ⊎_elim (λ (a : e.above ≡ Past). fits_past h.above (sym h.fits_above ∙ a)) (λ (b : e.below ≡ Past). fits_past h.below (sym h.fits_below ∙ b)) p

pub value_is : (e : PointEntry) (v : Frac) → IsLowestValue e v → v ≡ lowest_terms e.above e.below
value_is e v h = h.value ∙ sym (ap (λ a. lowest_terms a e.below) h.fits_above ∙ ap (lowest_terms (Fits h.above)) h.fits_below)

pub lowest_below_positive : (e : PointEntry) → IsProperEntry e → ¬ (IsZeroBelow e) → pos 0 <ℤ lowest_below e
lowest_below_positive e proper divided =
    positive_terms e.above e.below (λ below fits. below_positive e below proper divided fits)

-- the least common multiple of a list of denominators
pub least_exists : (es : List PointEntry) → AreProperEntries es → ¬ (SomeOf IsZeroBelow es) → (d : ℤ) × IsLeastDenominator es d
least_exists [] proper divided = (pos 1, record { positive = omega (arith, ints); common = tt; least = λ n h. one_divides n })
least_exists (e ∷ es) proper divided =
    let (d, least) = least_exists es proper.1 (λ z. divided (inr z)) in
    let m = lcm_is (lowest_below_positive e proper.0 (λ z. divided (inl z))) least.positive in (
      lcm_of (lowest_below e) d,
      record {
        positive = m.positive;
        common = (m.left, each_map _ _ es (λ (x : PointEntry) h. divides_trans h m.right) least.common);
        least = λ n h. m.least n h.0 (least.least n h.1);
      },
    )

-- How far the least common multiple has come: the entries that are left, and what is known of all.
pub record SoFar (es rest : List PointEntry) (common : ℤ) : Type 0 where
  pub positive : pos 0 <ℤ common
  pub within : InLimit common
  pub all_divide : (n : ℤ) → Divides common n → IsCommonMultiple rest n → IsCommonMultiple es n
  pub divides_all : (n : ℤ) → IsCommonMultiple es n → Divides common n × IsCommonMultiple rest n
  pub past_left : SomeOf IsPast es → SomeOf IsPast rest
  pub past_before : SomeOf IsPast rest → SomeOf IsPast es
  pub proper : AreProperEntries rest
  pub divided : ¬ (SomeOf IsZeroBelow rest)

pub so_far_start : (es : List PointEntry) → AreProperEntries es → ¬ (SomeOf IsZeroBelow es) → SoFar es es (pos 1)
so_far_start es proper divided = record {
  positive = omega (arith, ints);
  within = omega arith;
  all_divide = λ n h c. c;
  divides_all = λ n c. (one_divides n, c);
  past_left = λ p. p;
  past_before = λ p. p;
  proper = proper;
  divided = divided;
}

pub so_far_more : (es rest : List PointEntry) (e : PointEntry) (common m : ℤ) → SoFar es (e ∷ rest) common
    → IsLcm common (lowest_below e) m → InLimit m → ¬ (IsPast e) → SoFar es rest m
so_far_more es rest e common m s is within fits = record {
  positive = is.positive;
  within = within;
  all_divide = λ n h c. s.all_divide n (lcm_divides is h).0 ((lcm_divides is h).1, c);
  divides_all = λ n c. let d = s.divides_all n c in (is.least n d.0 d.1.0, d.1.1);
  past_left = λ p. ⊎_elim (λ q. absurd (fits q)) (λ q. q) (s.past_left p);
  past_before = λ p. s.past_before (inr p);
  proper = s.proper.1;
  divided = λ z. s.divided (inr z);
}

past_above : (a b : ℤ) → pos 0 <ℤ a → pos 0 <ℤ b → a ≤ℤ b → PastLimit a → PastLimit b
past_above a b p q h past = omega (arith, ints)

pub so_far_refused : (es rest : List PointEntry) (e : PointEntry) (common : ℤ) → AreProperEntries es → ¬ (SomeOf IsZeroBelow es) → SoFar es (e ∷ rest) common
    → IsPast e ⊎ PastLimit (lcm_of common (lowest_below e)) → DenominatorPasses es
so_far_refused es rest e common proper divided s cause =
    ⊎_elim
    (λ past. inl (s.past_before (inl past)))
    (λ (past : PastLimit (lcm_of common (lowest_below e))).
    let (d, least) = least_exists es proper divided in
    let below = s.divides_all d least.common in
    let is = lcm_is s.positive (lowest_below_positive e s.proper.0 (λ z. s.divided (inl z))) in
    inr (d, least, past_above _ d is.positive least.positive (divisor_at_most least.positive (is.least d below.0 below.1.0)) past))
    cause

pub so_far_end : (es : List PointEntry) (common : ℤ) → SoFar es [] common → IsLeastDenominator es common × InLimit common × (¬ (SomeOf IsPast es))
so_far_end es common s =
    (record { positive = s.positive; common = s.all_divide common (divides_same common) tt; least = λ n h. (s.divides_all n h).0 }, s.within, λ p. s.past_left p)

positive_not_zero : (a : ℤ) → pos 0 <ℤ a → ¬ (a ≡ pos 0)
positive_not_zero a h e = omega (arith, ints)

over_common : (g n m q a b d : ℤ) → g *ℤ n ≡ a → g *ℤ m ≡ b → m *ℤ q ≡ d → (n *ℤ q) *ℤ b ≡ a *ℤ d
over_common g n m q a b d ea eb ed = rw (← ea, ← eb, ← ed) (simp ring)

-- the number over a common denominator
pub is_scaled : (e : PointEntry) (v : Frac) (d : ℤ) → IsLowestValue e v → Divides (lowest_below e) d → IsScaled d e (scaled v d)
is_scaled e v d h divides =
    let g = divisor_positive h.above h.below h.positive in
    let is = gcd_is h.above h.below in
    let p = lowest_proper h.above h.below h.positive in
    let below : Divides (lowest h.above h.below).denominator d =
    subst (λ (w : Frac). Divides w.denominator d) (sym (value_is e v h) ∙ h.value) divides in
    subst (λ (w : Frac). IsScaled d e (scaled w d)) (sym h.value)
    (record {
      above = h.above;
      below = h.below;
      fits_above = h.fits_above;
      fits_below = h.fits_below;
      same = over_common (gcd_of h.above h.below) _ _ _ h.above h.below d (exact_div _ _ (positive_not_zero _ g) is.left) (exact_div _ _ (positive_not_zero _ g) is.right)
          (exact_div _ d (positive_not_zero _ p) below);
    })

-- what the number over a common denominator is, or that it passes the limit
pub number_outcome : (e : PointEntry) (v : Frac) (d : ℤ) (o : Option ℤ) → IsLowestValue e v → Divides (lowest_below e) d → o ≡ checked (scaled v d)
    → MatchOption o ((number : ℤ) × IsScaled d e number × PastLimit number) (λ number. IsScaled d e number × InLimit number)
number_outcome e v d o h divides is =
    by_limit (scaled v d)
    (λ within some. subst (λ (o' : Option ℤ). MatchOption o' ((number : ℤ) × IsScaled d e number × PastLimit number) (λ number. IsScaled d e number × InLimit number)) (sym (is ∙ some)) (is_scaled e v d h divides, within))
    (λ past none. subst (λ (o' : Option ℤ). MatchOption o' ((number : ℤ) × IsScaled d e number × PastLimit number) (λ number. IsScaled d e number × InLimit number)) (sym (is ∙ none)) (scaled v d, is_scaled e v d h divides, past))

pub so_far_at : (es : List PointEntry) (i : ℕ) (e : PointEntry) {common : ℤ} → i < length es → e ≡ get_or es i e
    → SoFar es (drop i es) common → SoFar es (e ∷ drop (i + 1) es) common
so_far_at es i e {common} h is s = subst (λ rest. SoFar es rest common) (rest_at es i e h is) s

pub so_far_done : (es : List PointEntry) (i : ℕ) {common : ℤ} → length es ≤ i → SoFar es (drop i es) common → SoFar es [] common
so_far_done es i {common} h s = subst (λ rest. SoFar es rest common) (none_left es i h) s

-- How far the numbers have come: those of the entries in front, and the entries that are left.
pub record NumbersSoFar (es rest : List PointEntry) (d : ℤ) (numbers : List (List ℕ × ℤ)) : Type 0 where
  pub front : List PointEntry
  pub split : front ++ rest ≡ es
  pub are : AreNumbers front d numbers
  pub ready : AllByRecursion (IsReady d) rest

each_kept : (d : ℤ) (old new : List (List ℕ × ℤ)) (name : List ℕ) (k : ℤ) → SetsNumber old new name k → (front : List PointEntry) → ¬ (HasEntry name front)
    → AllByRecursion (λ e. (number : ℤ) × IsScaled d e number × (number_of e.name old ≡ Some number)) front
    → AllByRecursion (λ e. (number : ℤ) × IsScaled d e number × (number_of e.name new ≡ Some number)) front
each_kept d old new name k sets [] none all = tt
each_kept d old new name k sets (e ∷ front) none all = (
  (
    all.0.0,
    all.0.1,
    by_at (is_at (slice_cmp nat_cmp name) e.name)
        (λ at. absurd (none (inl (sym (at_same name e.name at)))))
        (λ off. sets e.name ∙ ap (λ b. cond b (Some k) (number_of e.name old)) off ∙ all.0.2),
  ),
  each_kept d old new name k sets front (λ h. none (inr h)) all.1,
)

numbers_more : (d : ℤ) (old new : List (List ℕ × ℤ)) (e : PointEntry) (k : ℤ) → SetsNumber old new e.name k → IsScaled d e k → InLimit k
    → (front : List PointEntry) → ¬ (HasEntry e.name front) → AreNumbers front d old → AreNumbers (front ++ e ∷ []) d new
numbers_more d old new e k sets scaled within front none are = record {
  each = each_push _ front e (each_kept d old new e.name k sets front none are.each)
      (k, scaled, sets e.name ∙ ap (λ b. cond b (Some k) (number_of e.name old)) (same_at e.name e.name refl));
  others = λ name no.
      by_at (is_at (slice_cmp nat_cmp e.name) name)
      (λ at. absurd (no (some_right _ front (e ∷ []) (inl (at_same e.name name at)))))
      (λ off. sets name ∙ ap (λ b. cond b (Some k) (number_of name old)) off ∙ are.others name (λ h. no (some_left _ front (e ∷ []) h)));
  within = λ name.
      by_at (is_at (slice_cmp nat_cmp e.name) name)
      (λ at. subst (λ o. IfSome o InLimit) (sym (sets name ∙ ap (λ b. cond b (Some k) (number_of name old)) at)) within)
      (λ off. subst (λ o. IfSome o InLimit) (sym (sets name ∙ ap (λ b. cond b (Some k) (number_of name old)) off)) (are.within name));
}

pub numbers_start : (es : List PointEntry) (d : ℤ) → AllByRecursion (IsReady d) es → NumbersSoFar es es d []
numbers_start es d ready = record {
  front = [];
  split = refl;
  are = record { each = tt; others = λ name no. refl; within = λ name. tt };
  ready = ready;
}

pub numbers_next : (es : List PointEntry) (i : ℕ) (e : PointEntry) (d : ℤ) (old new : List (List ℕ × ℤ)) → i < length es → e ≡ get_or es i e → ¬ (NamesTwice es)
    → ((number : ℤ) × IsScaled d e number × InLimit number × SetsNumber old new e.name number)
    → NumbersSoFar es (drop i es) d old → NumbersSoFar es (drop (i + 1) es) d new
numbers_next es i e d old new h is single put s =
    let rest = rest_at es i e h is in
    let split : s.front ++ (e ∷ drop (i + 1) es) ≡ es = ap (λ r. s.front ++ r) (sym rest) ∙ s.split in
    let none : ¬ (HasEntry e.name s.front) = λ has. single (subst NamesTwice split (twice_found s.front e (drop (i + 1) es) has)) in
    record {
      front = s.front ++ e ∷ [];
      split = append_assoc s.front (e ∷ []) (drop (i + 1) es) ∙ split;
      are = numbers_more d old new e put.0 put.3 put.1 put.2 s.front none s.are;
      ready = (subst (AllByRecursion (IsReady d)) rest s.ready).1;
    }

pub numbers_ready : (es : List PointEntry) (i : ℕ) (e : PointEntry) (d : ℤ) (numbers : List (List ℕ × ℤ)) → i < length es → e ≡ get_or es i e
    → NumbersSoFar es (drop i es) d numbers → IsReady d e
numbers_ready es i e d numbers h is s = (subst (AllByRecursion (IsReady d)) (rest_at es i e h is) s.ready).0

pub numbers_end : (es : List PointEntry) (i : ℕ) (d : ℤ) (numbers : List (List ℕ × ℤ)) → length es ≤ i → NumbersSoFar es (drop i es) d numbers → AreNumbers es d numbers
numbers_end es i d numbers h s =
    let split : s.front ≡ es = sym (append-nil s.front) ∙ ap (λ r. s.front ++ r) (sym (none_left es i h)) ∙ s.split in
    subst (λ front. AreNumbers front d numbers) split s.are

pub numbers_found : (P : PointEntry → Type 0) (es : List PointEntry) (i : ℕ) (e : PointEntry) (d : ℤ) (numbers : List (List ℕ × ℤ)) → i < length es → e ≡ get_or es i e
    → NumbersSoFar es (drop i es) d numbers → P e → SomeOf P es
numbers_found P es i e d numbers h is s p =
    subst (SomeOf P) (ap (λ r. s.front ++ r) (sym (rest_at es i e h is)) ∙ s.split) (some_right P s.front (e ∷ drop (i + 1) es) (inl p))

pub proper_divided : (es : List PointEntry) → AreProperEntries es → ¬ (SomeOf IsZeroBelow es) → AllByRecursion (λ e. IsProperEntry e × (¬ (IsZeroBelow e))) es
proper_divided [] proper divided = tt
proper_divided (e ∷ es) proper divided = ((proper.0, λ z. divided (inl z)), proper_divided es proper.1 (λ z. divided (inr z)))

pub entries_ready : (es : List PointEntry) (d : ℤ) → AreProperEntries es → ¬ (SomeOf IsZeroBelow es) → ¬ (SomeOf IsPast es) → IsCommonMultiple es d → AllByRecursion (IsReady d) es
entries_ready [] d proper divided fits common = tt
entries_ready (e ∷ es) d proper divided fits common = (
  record { proper = proper.0; divided = λ z. divided (inl z); fits = λ p. fits (inl p); common = common.0 },
  entries_ready es d proper.1 (λ z. divided (inr z)) (λ p. fits (inr p)) common.1,
)

positive_at_least_0 : {a : ℤ} → pos 0 <ℤ a → pos 0 ≤ℤ a
positive_at_least_0 h = omega (arith, ints)

pub scaled_unique : (e : PointEntry) (d j k : ℤ) → ¬ (IsZeroBelow e) → IsScaled d e j → IsScaled d e k → j ≡ k
scaled_unique e d j k divided s t =
    let a : s.above ≡ t.above = fits_same s.above t.above (sym s.fits_above ∙ t.fits_above) in
    let b : s.below ≡ t.below = fits_same s.below t.below (sym s.fits_below ∙ t.fits_below) in
    let same : j *ℤ s.below ≡ k *ℤ s.below = s.same ∙ ap (λ x. x *ℤ d) a ∙ sym t.same ∙ ap (λ x. k *ℤ x) (sym b) in
    cancel s.below {a = j} {b = k} (λ z. divided (s.fits_below ∙ ap Fits z)) (mul_comm s.below j ∙ same ∙ mul_comm k s.below)

pub least_unique : {es : List PointEntry} {d e : ℤ} → IsLeastDenominator es d → IsLeastDenominator es e → d ≡ e
least_unique {es} {d} {e} l m =
    divides_both (positive_at_least_0 l.positive) (positive_at_least_0 m.positive) (l.least e m.common) (m.least d l.common)

none_passes : (es : List PointEntry) (d : ℤ) (numbers : List (List ℕ × ℤ)) → ¬ (SomeOf IsZeroBelow es)
    → AllByRecursion (λ e. (number : ℤ) × IsScaled d e number × (number_of e.name numbers ≡ Some number)) es → ((name : List ℕ) → IfSome (number_of name numbers) InLimit)
    → ¬ (SomeOf (λ e. (number : ℤ) × IsScaled d e number × PastLimit number) es)
none_passes [] d numbers divided each within s = s
none_passes (e ∷ es) d numbers divided each within s =
    ⊎_elim
    (λ (p : (number : ℤ) × IsScaled d e number × PastLimit number).
    let same : each.0.0 ≡ p.0 = scaled_unique e d each.0.0 p.0 (λ z. divided (inl z)) each.0.1 p.1 in
    let inside : InLimit each.0.0 = subst (λ o. IfSome o InLimit) each.0.2 (within e.name) in
    let past : PastLimit each.0.0 = subst PastLimit (sym same) p.2 in
    absurd (omega arith))
    (λ q. none_passes es d numbers (λ z. divided (inr z)) each.1 within q)
    s

pub no_fault : (es : List PointEntry) (whole : Bool) (d : ℤ) (numbers : List (List ℕ × ℤ)) → IsChecked es whole → IsLeastDenominator es d → InLimit d → ¬ (SomeOf IsPast es)
    → AreNumbers es d numbers → IsFaultless es whole
no_fault es whole d numbers is least within fits are = record {
  checked = is;
  within = λ passes. ⊎_elim
      (λ denominator. ⊎_elim (λ past. fits past)
      (λ (p : (e : ℤ) × IsLeastDenominator es e × PastLimit e). let past : PastLimit d = subst PastLimit (sym (least_unique least p.1)) p.2 in omega arith) denominator)
      (λ (p : (e : ℤ) × IsLeastDenominator es e × SomeOf (λ x. (number : ℤ) × IsScaled e x number × PastLimit number) es).
      none_passes es d numbers is.divided are.each are.within
      (subst (λ e. SomeOf (λ x. (number : ℤ) × IsScaled e x number × PastLimit number) es) (sym (least_unique least p.1)) p.2))
      passes;
}

none_of_none : {X : Type 0} (xs : List X) → ¬ (SomeOf (λ (x : X). ⊥) xs)
none_of_none [] s = s
none_of_none (x ∷ xs) s = ⊎_elim (λ b. b) (λ q. none_of_none xs q) s

pub number_fault : (es : List PointEntry) (whole : Bool) (d : ℤ) (fault : PointFault) → IsChecked es whole → IsLeastDenominator es d
    → SomeOf (λ e. PutFault d e fault) es → FaultOf es whole fault
number_fault es whole d Double is least s = absurd (none_of_none es s)
number_fault es whole d ZeroBelow is least s = absurd (none_of_none es s)
number_fault es whole d NotWhole is least s = absurd (none_of_none es s)
number_fault es whole d Overflow is least s = (is, inr (d, least, s))
number_fault es whole d Memory is least s = tt

pub denominator_fault : (es : List PointEntry) (whole : Bool) (fault : PointFault) → IsChecked es whole → (fault ≡ Overflow) × DenominatorPasses es → FaultOf es whole fault
denominator_fault es whole fault is p = subst (FaultOf es whole) (sym p.0) (is, inl p.1)

pub check_fault : (es : List PointEntry) (whole : Bool) (fault : PointFault) → CheckFault es whole fault → FaultOf es whole fault
check_fault es whole Double h = h
check_fault es whole ZeroBelow h = h
check_fault es whole NotWhole h = h
check_fault es whole Overflow h = absurd h
check_fault es whole Memory h = tt

abs_back : (d : ℤ) → pos 0 <ℤ d → pos (unsigned_abs d) ≡ d
abs_back (pos n) h = refl
abs_back (negsuc n) h = absurd (omega (arith, ints))

point_each : (es : List PointEntry) (d : ℤ) (numbers : List (List ℕ × ℤ)) → AllByRecursion (λ e. (number : ℤ) × IsScaled d e number × (number_of e.name numbers ≡ Some number)) es
    → AllByRecursion (λ e. IsScaled d e (unwrap_or (number_of e.name numbers) (pos 0))) es
point_each es d numbers all =
    each_map _ _ es (λ (e : PointEntry) (h : (number : ℤ) × IsScaled d e number × (number_of e.name numbers ≡ Some number)).
    subst (IsScaled d e) (sym (ap (λ o. unwrap_or o (pos 0)) h.2)) h.1) all

pub point_is : (es : List PointEntry) (d : ℤ) (numbers : List (List ℕ × ℤ)) (least : IsLeastDenominator es d) → AreNumbers es d numbers
    → IsPointOf es (point_of (record { numbers = numbers; denominator = d; positive = least.positive }))
point_is es d numbers least are =
    let back = abs_back d least.positive in
    record {
      least = subst (IsLeastDenominator es) (sym back) least;
      each = subst (λ d'. AllByRecursion (λ e. IsScaled d' e (unwrap_or (number_of e.name numbers) (pos 0))) es) (sym back) (point_each es d numbers are.each);
      others = λ name no. ap (λ o. unwrap_or o (pos 0)) (are.others name no);
    }
