-- Values over one denominator, from one value after the other.
use Rattle.std.proofs.Common.{◌≡◌, ℕ, Bool, false, List, [], ◌∷◌, Option, Some, None, refl, sym, ap, ◌∙◌, subst, nat_eq, unsigned_abs}
use Rattle.std.proofs.Math.IntN.{ℤ, pos}
use Rattle.std.specs.Prelude.{if◌then◌else◌}
use Rattle.exact_numbers.specs.Limit.{InLimit, checked}
use Rattle.exact_numbers.specs.Divides.{lcm_of}
use Rattle.exact_numbers.specs.Frac.{scaled, ◌>>=◌}
use Rattle.exact_numbers.proofs.Limits.{formed_by, checked_none}
use Rattle.logic_meaning.specs.Limits.{is_within}
use Rattle.linear_forms.specs.Values.{Numbers, number_at}
use Rattle.test_points.proofs.Ended.{first_false}
use Rattle.elimination_theory.proofs.WithinTests.{within_tests}
use Rattle.reference_engine.proofs.Paying.{is_past_limit}
use Rattle.nnf_trees.proofs.PutLaws.{and_known}
use Rattle.logic_meaning.specs.Values.{Value, multiple_with, numerators_within, common_denominator, numbers_over, point_over}
use Rattle.plain_samples.specs.Told.{AreOver, IsPointOver}

-- ---- the least common multiple

pub multiple_on : (d m : ℤ) (v : Value) (vs : List Value) → Some m ≡ checked (lcm_of d v.at.denominator) → multiple_with d (v ∷ vs) ≡ multiple_with m vs
multiple_on d m v vs e = ap (λ (o : Option ℤ). o >>= λ n. multiple_with n vs) (sym e)

pub multiple_refused : (d : ℤ) (v : Value) (vs : List Value) → None ≡ checked (lcm_of d v.at.denominator) → multiple_with d (v ∷ vs) ≡ None
multiple_refused d v vs e = ap (λ (o : Option ℤ). o >>= λ n. multiple_with n vs) (sym e)

-- ---- the numerators

-- the numbers before those of the values left
pub record AreOverBefore (d : ℤ) (all rest : List Value) (v : Numbers) : Type 0 where
  pub numbers : numbers_over d rest (number_at v) ≡ numbers_over d all (λ x. pos 0)
  pub denominator : v.denominator ≡ d
  pub within : numerators_within d rest ≡ numerators_within d all

pub over_first : (d : ℤ) (all : List Value) (v : Numbers) → number_at v ≡ (λ x. pos 0) → v.denominator ≡ d → AreOverBefore d all all v
over_first d all v e h = record { numbers = ap (numbers_over d all) e; denominator = h; within = refl }

pub over_more : (d n : ℤ) (all rest : List Value) (a : Value) (v w : Numbers) → AreOverBefore d all (a ∷ rest) v → Some n ≡ checked (scaled a.at d) →
    ((x : ℕ) → number_at w x ≡ (if nat_eq a.name x then n else number_at v x)) → w.denominator ≡ v.denominator → AreOverBefore d all rest w
over_more d n all rest a v w h e put same =
    let f = formed_by (scaled a.at d) n e in
    let now : number_at w ≡ (λ x. if nat_eq a.name x then scaled a.at d else number_at v x) = λ i x. (put x ∙ ap (λ m. if nat_eq a.name x then m else number_at v x) f.same) i in
    record {
      numbers = ap (numbers_over d rest) now ∙ h.numbers;
      denominator = same ∙ h.denominator;
      within = sym (and_known (is_within (scaled a.at d)) (numerators_within d rest) ((within_tests (scaled a.at d)).1 (subst InLimit f.same f.within))) ∙ h.within;
    }

pub over_refused : (d : ℤ) (all rest : List Value) (a : Value) (v : Numbers) → AreOverBefore d all (a ∷ rest) v → None ≡ checked (scaled a.at d) → numerators_within d all ≡ false
over_refused d all rest a v h e = sym h.within ∙ first_false (is_within (scaled a.at d)) (numerators_within d rest) (is_past_limit (scaled a.at d) (checked_none (scaled a.at d) (sym e)))

pub over_last : (d : ℤ) (all rest : List Value) (v : Numbers) → AreOverBefore d all rest v → rest ≡ [] → AreOver d all v
over_last d all rest v h e =
    let numbers : number_at v ≡ numbers_over d all (λ x. pos 0) = ap (λ vs. numbers_over d vs (number_at v)) (sym e) ∙ h.numbers in
    record {
      point = λ i. record { at = numbers i; below = unsigned_abs (h.denominator i) };
      denominator = h.denominator;
      within = sym h.within ∙ ap (numerators_within d) e;
    }

-- ---- both

pub point_formed : (d : ℤ) (vs : List Value) (v : Numbers) → Some d ≡ multiple_with (pos 1) vs → AreOver d vs v → IsPointOver vs v
point_formed d vs v e h =
    let found : common_denominator vs ≡ Some d = ap (λ (o : Option ℤ). o >>= λ m. if numerators_within m vs then Some m else None) (sym e) ∙ ap (λ (b : Bool). if b then Some d else None) h.within in
    record { denominator = found ∙ ap Some (sym h.denominator); point = h.point ∙ ap (λ m. point_over m vs) (sym h.denominator) }

pub point_unformed : (d : ℤ) (vs : List Value) → Some d ≡ multiple_with (pos 1) vs → numerators_within d vs ≡ false → common_denominator vs ≡ None
point_unformed d vs e h = ap (λ (o : Option ℤ). o >>= λ m. if numerators_within m vs then Some m else None) (sym e) ∙ ap (λ (b : Bool). if b then Some d else None) h

pub multiple_unformed : (vs : List Value) → None ≡ multiple_with (pos 1) vs → common_denominator vs ≡ None
multiple_unformed vs e = ap (λ (o : Option ℤ). o >>= λ m. if numerators_within m vs then Some m else None) (sym e)
