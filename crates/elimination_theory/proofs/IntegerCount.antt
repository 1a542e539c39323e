-- How many test points there are over the integers.
use Rattle.std.proofs.Common.{pos, neg_ℤ, ◌≡◌, ℕ, suc, zero, ◌+◌, ◌*◌, ◌/◌, List, [], ◌∷◌, ◌++◌, length, flat_map, arith, refl, ◌∙◌, length-append}
use Rattle.std.proofs.lemmas.List.{length-map}
use Rattle.logic_meaning.specs.Form.{Form, plus}
use Rattle.logic_meaning.specs.Answer.{Exact, Periodic}
use Rattle.logic_meaning.specs.declared.side.Side.{Side}
use Rattle.logic_meaning.specs.IntegersPoints.{signed, counted, class_points, next_points, atom_starts, scale_of, own_span}
use Rattle.elimination_theory.specs.IntegersTheorems.{IntegerPointsAreCounted}

length_counted : (first n : ℕ) → length (counted first n) ≡ n
length_counted first zero = refl
length_counted first (suc n) = let e = length_counted (suc first) n in omega arith

length_next : (side : Side) (l d : ℕ) (starts : List Form) → length (flat_map (next_points side l d) starts) ≡ d * length starts
length_next side l d [] = omega arith
length_next side l d (b ∷ starts) =
    let rest = length_next side l d starts in
    let here = length-append (next_points side l d b) (flat_map (next_points side l d) starts) in
    let one = length-map (counted 1 d) (λ j. Exact (plus b (signed side (pos j))) l) ∙ length_counted 1 d in
    omega arith

length_points : (side : Side) (l d period : ℕ) (starts : List Form) → length (class_points side period ++ flat_map (next_points side l d) starts) ≡ period + d * length starts
length_points side l d period starts =
    let both = length-append (class_points side period) (flat_map (next_points side l d) starts) in
    let classes = length-map (counted 1 period) (λ j. Periodic (signed side (pos j)) (signed side (neg_ℤ (pos period)))) ∙ length_counted 1 period in
    let next = length_next side l d starts in
    omega arith

pub points_are_counted : IntegerPointsAreCounted
points_are_counted side x atoms =
    length_points side (scale_of x atoms) (own_span x atoms) (own_span x atoms / scale_of x atoms) (flat_map (atom_starts side (scale_of x atoms) x) atoms)
