-- What was checked says what is found.
use Rattle.std.proofs.Common.{◌≡◌, ℕ, List, [], ◌∷◌, Bool, true, false, if◌then◌else◌, ap, sym, ◌∙◌, subst, refl, inl, inr, nat_eq, eqb-true, unsigned_abs}
use Rattle.std.proofs.Math.IntN.{ℤ, pos, ◌*ℤ◌}
use Rattle.std.specs.Prelude.{◌<ℤ◌, Option, Some, IfSome}
use Rattle.exact_numbers.specs.Frac.{Frac, IsProper, IsLowest, scaled}
use Rattle.exact_numbers.proofs.Ring.{mul_one}
use Rattle.logic_meaning.specs.Constraints.{Constraint}
use Rattle.logic_meaning.specs.Context.{Fields}
use Rattle.logic_meaning.specs.LeastFraction.{IsLeastFraction}
use Rattle.logic_meaning.specs.Point.{Point, Of, move}
use Rattle.logic_meaning.specs.Some.{Among, EachOf}
use Rattle.logic_meaning.specs.Target.{IsInfeasible, IsUnbounded}
use Rattle.logic_meaning.specs.Tree.{Tree, TrueAt}
use Rattle.logic_meaning.specs.Values.{Value, value_names, with_values, IsValue, numbers_over, point_over, origin}
use Rattle.formula_laws.specs.StandsOnce.{StandsOnce}
use Rattle.linear_theory.specs.Meeting.{MeetsAll}
use Rattle.linear_theory.specs.WeakTargets.{exs}
use Rattle.linear_forms.specs.Values.{Numbers, number_at, point_of}
use Rattle.plain_samples.specs.Told.{IsPointOver}
use Rattle.sample_reference.specs.TrueSample.{AreTrueValues}
use Rattle.sample_reference.proofs.Chain.{true_over, over_of}
use Rattle.sample_reference.proofs.SamePoints.{abs_above, common_is}
use Rattle.least_search.specs.Found.{at_value}
use Rattle.least_search.specs.Problems.{AreRowsOf, IsKeptAlong, LeadsDown}
use Rattle.least_search.proofs.Blocks.{asked_itself, whole_block, whole_matrix}
use Rattle.least_search.proofs.Directions.{unbounded}
use Rattle.least_search.proofs.Witnesses.{values_true, no_smaller, nowhere}

-- what holds of what is there holds of what it is
pub some_is : {T : Type 0} (P : T → Type 0) (o : Option T) (x : T) → o ≡ Some x → IfSome o P → P x
some_is P o x e h = subst (λ r. IfSome r P) e h

-- ---- the values over one denominator

abbrev with_target : ℕ → Frac → List Value → List Value
with_target z v vs = record { name = z; at = v } ∷ vs

all_values : (z : ℕ) (v : Frac) (vs : List Value) → IsProper v → IsLowest v → EachOf (IsValue Fields) vs → EachOf (IsValue Fields) (with_target z v vs)
all_values z v vs p l h = (record { proper = p; lowest_terms = l; whole = tt }, h)

-- what is true at them is true with the values
pub met_there : (z : ℕ) (v : Frac) (vs : List Value) (f : Tree) (at : Numbers) → IsPointOver (with_target z v vs) at → IsProper v → IsLowest v → EachOf (IsValue Fields) vs
    → TrueAt Fields f (point_of at) → TrueAt Fields f (with_values (at_value z v) vs)
met_there z v vs f at h p l each t =
    let over : TrueAt Fields f (point_over at.denominator (with_target z v vs)) = subst (TrueAt Fields f) h.point t in
    let there = (true_over Fields f (with_target z v vs) at.denominator (all_values z v vs p l each) h.denominator).1 over in
    subst (λ (k : ℤ). TrueAt Fields f (with_values (move nat_eq origin z k (unsigned_abs v.denominator)) vs)) (mul_one v.numerator) there

-- a name without a value is at 0
numbers_other : (d : ℤ) (vs : List Value) (at : ℕ → ℤ) (x : ℕ) → ¬ (Among (value_names vs) x) → numbers_over d vs at x ≡ at x
numbers_other d [] at x n = refl
numbers_other d (v ∷ vs) at x n = numbers_other d vs (λ y. if nat_eq v.name y then scaled v.at d else at y) x (λ i. n (inr i)) ∙ go (nat_eq v.name x) refl
  where
    go : (b : Bool) → nat_eq v.name x ≡ b → (if b then scaled v.at d else at x) ≡ at x
    go true e = absurd (n (inl (eqb-true v.name x e)))
    go false e = refl

-- steps that keep the constraints lead down
pub down_there : (z : ℕ) (names : List ℕ) (cs : List Constraint) (v : Frac) (vs : List Value) (at : Numbers) → IsPointOver (with_target z v vs) at → IsProper v → IsLowest v → EachOf (IsValue Fields) vs
    → value_names vs ≡ names → number_at at z <ℤ pos 0 → EachOf (IsKeptAlong (point_of at)) cs → LeadsDown z names cs (point_of at)
down_there z names cs v vs at h p l each named falls kept = record {
  positive = let all = all_values z v vs p l each in subst (Of Fields) (sym h.point) (over_of Fields (with_target z v vs) at.denominator all h.denominator (common_is Fields (with_target z v vs) at.denominator all h.denominator));
  falls = falls;
  kept = kept;
  stays = λ x nz n. ap (λ (q : Point ℕ). q.at x) h.point ∙ numbers_other at.denominator (with_target z v vs) (λ y. pos 0) x (out x nz n);
}
  where
    out : (x : ℕ) → ¬ (z ≡ x) → ¬ (Among names x) → ¬ (Among (value_names (with_target z v vs)) x)
    out x nz n (inl e) = nz e
    out x nz n (inr i) = n (subst (λ ns. Among ns x) named i)

-- ---- what is found

module _ (z : ℕ) (names : List ℕ) (f : Tree) (cs : List Constraint) (once : StandsOnce names) (apart : ¬ (Among names z)) (rows : AreRowsOf f cs) where
  abbrev problem : Tree
  problem = exs names f

  -- multipliers refute the constraints
  pub told_infeasible : ((p : Point ℕ) → Of Fields p → ¬ (MeetsAll p cs)) → IsInfeasible z problem origin
  told_infeasible none k m h = nowhere z names f apart (λ p o t. none p o ((rows.says p o).0 t)) k m h

  module _ (v : Frac) (vs : List Value) (proper : IsProper v) (each : EachOf (IsValue Fields) vs) (named : value_names vs ≡ names) (t : TrueAt Fields f (with_values (at_value z v) vs)) where
    holds : TrueAt Fields problem (at_value z v)
    holds = subst (λ ns. TrueAt Fields (exs ns f) (at_value z v)) named (values_true vs f (at_value z v) each t)

    -- a point meets them, and steps lead down from it
    pub told_unbounded : (r : Point ℕ) → LeadsDown z names cs r → IsUnbounded z problem origin
    told_unbounded r down = unbounded z names f cs apart rows r down v.numerator (unsigned_abs v.denominator) (abs_above v.denominator proper) holds

    -- a point meets them, and multipliers refute a smaller value
    pub told_attained : IsLowest v → ((p : Point ℕ) → Of Fields p → (p.at z *ℤ v.denominator) <ℤ (v.numerator *ℤ pos p.below) → ¬ (MeetsAll p cs))
        → IsLeastFraction z problem v × AreTrueValues Fields problem (at_value z v) vs
    told_attained lowest none = (
      record {
        proper = proper;
        lowest = lowest;
        least = record { holds = holds; least = no_smaller z names f v.numerator v.denominator apart proper (λ p o l u. none p o l ((rows.says p o).0 u)) };
      },
      record {
        asked = subst (λ g. TrueAt Fields g (at_value z v)) (sym (asked_itself names f rows.is_plain)) holds;
        names = named ∙ sym (whole_block names f rows.is_plain once);
        each = each;
        matrix = subst (λ g. TrueAt Fields g (with_values (at_value z v) vs)) (sym (whole_matrix names f rows.is_plain once)) t;
      },
    )
