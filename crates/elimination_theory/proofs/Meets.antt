-- What holds at a place grows with what is to hold there.
use Rattle.std.proofs.Common.{ℕ, ◌*◌, refl, mul-pos, nat_eq}
use Rattle.std.proofs.Math.IntN.{ℤ}
use Rattle.logic_meaning.specs.Context.{Context, Fields, Integers, Allowed}
use Rattle.logic_meaning.specs.Point.{Point, move}
use Rattle.logic_meaning.specs.Answer.{Place, Exact, AboveBy, BelowBy, PlusInfinity, MinusInfinity, Periodic, Meets}
use Rattle.logic_meaning.specs.BothTheories.{IsPlaceIn}
use Rattle.elimination_theory.proofs.FieldsNear.{small_map, large_map}

pub meets_map : (c : Context) (s : Place) (x : ℕ) (R S : Point ℕ → Type 0) (p : Point ℕ) → ((k : ℤ) (m : ℕ) → Allowed c m → R (move nat_eq p x k m) → S (move nat_eq p x k m)) →
    IsPlaceIn c s → Meets c s x R p → Meets c s x S p
meets_map Fields (Exact e d) x R S p f h t = f _ d h t
meets_map Fields (AboveBy e d) x R S p f h t = small_map _ _ (λ u v i r. f _ (d * v) (mul-pos h i) r) t
meets_map Fields (BelowBy e d) x R S p f h t = small_map _ _ (λ u v i r. f _ (d * v) (mul-pos h i) r) t
meets_map Fields PlusInfinity x R S p f h t = large_map _ _ (λ u v i r. f _ v i r) t
meets_map Fields MinusInfinity x R S p f h t = large_map _ _ (λ u v i r. f _ v i r) t
meets_map Fields (Periodic j q) x R S p f h t = absurd h
meets_map Integers (Exact e l) x R S p f h t = (t.0, t.1, f t.0 1 refl t.2)
meets_map Integers (Periodic j q) x R S p f h t = (t.0, λ u l. f _ 1 refl (t.1 u l))
meets_map Integers (AboveBy e l) x R S p f h t = absurd h
meets_map Integers (BelowBy e l) x R S p f h t = absurd h
meets_map Integers PlusInfinity x R S p f h t = absurd h
meets_map Integers MinusInfinity x R S p f h t = absurd h
