-- One value more over the denominator of the values before it.
use Rattle.std.proofs.Common.{◌≡◌, ℕ, ◌+◌, ◌<◌, length, map, get_or, drop, add-one, drop-cons, append_assoc, Bool, true, false, ◌&&◌, List, [], ◌∷◌, ◌++◌, Option, Some, None, refl, sym, ap, ◌∙◌, subst, nat_eq, unsigned_abs}
use Rattle.std.proofs.Math.IntN.{ℤ, pos}
use Rattle.std.specs.Prelude.{◌<ℤ◌, if◌then◌else◌}
use Rattle.std.proofs.lemmas.List.{map-append}
use Rattle.exact_numbers.specs.declared.fraction.Fraction.{Fraction}
use Rattle.exact_numbers.specs.Limit.{checked, InLimit}
use Rattle.exact_numbers.specs.Divides.{lcm_of}
use Rattle.exact_numbers.specs.Frac.{scaled, lowest, ◌>>=◌}
use Rattle.exact_numbers.specs.Fraction.{frac_of}
use Rattle.exact_numbers.proofs.Limits.{formed_by, checked_none}
use Rattle.logic_meaning.specs.Limits.{is_within}
use Rattle.elimination_theory.proofs.WithinTests.{within_tests}
use Rattle.reference_engine.proofs.Paying.{is_past_limit}
use Rattle.logic_meaning.specs.declared.form.VarId.{VarId}
use Rattle.linear_forms.specs.Values.{Numbers, number_at, number_of, point_of}
use Rattle.reference_engine.proofs.Parting.{below_is}
use Rattle.nnf_trees.proofs.PutLaws.{each_append, and_known}
use Rattle.logic_meaning.specs.Values.{Value, multiple_with, numerators_within, common_denominator, numbers_over, point_over}
use Rattle.sample_reference.specs.Seen.{value_of, values_of}
use Rattle.sample_reference.proofs.SamePoints.{some_same, some_then}
use Rattle.case_theory.specs.Known.{known_at}
use Rattle.case_theory.specs.Samples.{named_value}
use Rattle.plain_samples.specs.Told.{IsPointOver}
use Rattle.engine_answers.specs.Points.{IsCommonPoint, IsWith, IsWithNumber}

multiple_append : (d : ℤ) (vs ws : List Value) → multiple_with d (vs ++ ws) ≡ (multiple_with d vs >>= λ m. multiple_with m ws)
multiple_append d [] ws = refl
multiple_append d (v ∷ vs) ws = go (checked (lcm_of d v.at.denominator)) (λ m. multiple_append m vs ws)
  where
    go : (o : Option ℤ) → ((m : ℤ) → multiple_with m (vs ++ ws) ≡ (multiple_with m vs >>= λ n. multiple_with n ws)) → (o >>= λ m. multiple_with m (vs ++ ws)) ≡ ((o >>= λ m. multiple_with m vs) >>= λ m. multiple_with m ws)
    go None h = refl
    go (Some m) h = h m

numbers_append : (d : ℤ) (vs ws : List Value) (at : ℕ → ℤ) → numbers_over d (vs ++ ws) at ≡ numbers_over d ws (numbers_over d vs at)
numbers_append d [] ws at = refl
numbers_append d (v ∷ vs) ws at = numbers_append d vs ws (λ x. if nat_eq v.name x then scaled v.at d else at x)

-- what is known where the values have a least common denominator
record HasCommon (vs : List Value) (d : ℤ) : Type 0 where
  multiple : multiple_with (pos 1) vs ≡ Some d
  within : numerators_within d vs ≡ true

has_common : (vs : List Value) (d : ℤ) → common_denominator vs ≡ Some d → HasCommon vs d
has_common vs d e =
    some_then (multiple_with (pos 1) vs) (λ m. if numerators_within m vs then Some m else None) d e (λ m f g. go m f (numerators_within m vs) refl g)
  where
    go : (m : ℤ) → multiple_with (pos 1) vs ≡ Some m → (b : Bool) → numerators_within m vs ≡ b → (if b then Some m else None) ≡ Some d → HasCommon vs d
    go m f true h g = let same : m ≡ d = some_same m d g in record { multiple = f ∙ ap Some same; within = subst (λ n. numerators_within n vs ≡ true) same h }
    go m f false h g = absurd (cc)

module _ (vs : List Value) (a : Value) (v : Numbers) (h : IsPointOver vs v) (over : checked (lcm_of v.denominator a.at.denominator) ≡ Some v.denominator) where
  abbrev d : ℤ
  d = v.denominator

  multiple_more : multiple_with (pos 1) (vs ++ (a ∷ [])) ≡ Some d
  multiple_more =
      multiple_append (pos 1) vs (a ∷ []) ∙ ap (λ (o : Option ℤ). o >>= λ m. multiple_with m (a ∷ [])) (has_common vs d h.denominator).multiple
      ∙ ap (λ (o : Option ℤ). o >>= λ m. Some m) over

  numerators_more : numerators_within d (vs ++ (a ∷ [])) ≡ (is_within (scaled a.at d) && true)
  numerators_more = each_append (λ (w : Value). is_within (scaled w.at d)) vs (a ∷ []) ∙ and_known (numerators_within d vs) (is_within (scaled a.at d) && true) (has_common vs d h.denominator).within

  common_more : (b : Bool) → is_within (scaled a.at d) ≡ b → common_denominator (vs ++ (a ∷ [])) ≡ (if b && true then Some d else None)
  common_more b e =
      ap (λ (o : Option ℤ). o >>= λ m. if numerators_within m (vs ++ (a ∷ [])) then Some m else None) multiple_more
      ∙ ap (λ (t : Bool). if t then Some d else None) (numerators_more ∙ ap (λ t. t && true) e)

  point_more : (w : Numbers) → IsWith a v w → point_of w ≡ point_over w.denominator (vs ++ (a ∷ []))
  point_more w k =
      let old : number_at v ≡ numbers_over d vs (λ x. pos 0) = ap (λ p. p.at) h.point in
      let number : number_at w ≡ numbers_over d (vs ++ (a ∷ [])) (λ x. pos 0)
      = (λ i x. k.number x i) ∙ ap (λ (at : ℕ → ℤ). λ x. if nat_eq a.name x then scaled a.at d else at x) old ∙ sym (numbers_append d vs (a ∷ []) (λ x. pos 0)) in
      (λ i. record { at = number i; below = unsigned_abs w.denominator }) ∙ ap (λ m. record { at = numbers_over m (vs ++ (a ∷ [])) (λ x. pos 0); below = unsigned_abs w.denominator }) (sym k.denominator)

  pub with_last : (o : Option Numbers) → IsWithNumber a v o → IsCommonPoint (vs ++ (a ∷ [])) o
  with_last None e = common_more false e
  with_last (Some w) k = record { denominator = common_more true k.within ∙ ap Some (sym k.denominator); point = point_more w k }

pub with_is : (a : Value) (v w : Numbers) (n : ℤ) → Some n ≡ checked (scaled a.at v.denominator) → ((x : ℕ) → number_at w x ≡ (if nat_eq a.name x then n else number_at v x)) → w.denominator ≡ v.denominator → IsWith a v w
with_is a v w n e put same =
    let f = formed_by (scaled a.at v.denominator) n e in
    record {
      number = λ x. put x ∙ ap (λ m. if nat_eq a.name x then m else number_at v x) f.same;
      denominator = same;
      within = (within_tests (scaled a.at v.denominator)).1 (subst InLimit f.same f.within);
    }

pub with_none : (a : Value) (v : Numbers) → None ≡ checked (scaled a.at v.denominator) → is_within (scaled a.at v.denominator) ≡ false
with_none a v e = is_past_limit (scaled a.at v.denominator) (checked_none (scaled a.at v.denominator) (sym e))

-- ---- the values of a point

pub known_more : (at : Numbers) (names : List VarId) (i : ℕ) (d : VarId) (r : Fraction) (old new : List (VarId × Fraction)) (all : List Value) → pos 0 <ℤ at.denominator → i < length names → new ≡ old ++ ((get_or names i d, r) ∷ []) →
    frac_of r ≡ lowest (number_at at (get_or names i d).number) at.denominator → values_of old ++ known_at (map number_of (drop i names)) (point_of at) ≡ all →
    values_of new ++ known_at (map number_of (drop (i + 1) names)) (point_of at) ≡ all
known_more at names i d r old new all h n e f left =
    let p = point_of at in
    let rest = known_at (map number_of (drop (i + 1) names)) p in
    let split : drop i names ≡ get_or names i d ∷ drop (i + 1) names = rw (add-one, drop-cons names i d) refl in
    let value : value_of (get_or names i d, r) ≡ named_value (get_or names i d).number (lowest (p.at (get_or names i d).number) (pos p.below)) =
    ap (named_value (get_or names i d).number) (f ∙ ap (lowest (p.at (get_or names i d).number)) (below_is at h)) in
    ap (λ vs. values_of vs ++ rest) e ∙ ap (λ vs. vs ++ rest) (map-append value_of old ((get_or names i d, r) ∷ [])) ∙ append_assoc (values_of old) (value_of (get_or names i d, r) ∷ []) rest
    ∙ ap (λ v. values_of old ++ (v ∷ rest)) value ∙ ap (λ l. values_of old ++ known_at (map number_of l) p) (sym split) ∙ left
