-- Grids worked by hand.
use Rattle.std.proofs.Common.{◌≡◌, ℕ, List, [], ◌∷◌, map, refl, lit<, arith, ◌<◌, ◌^◌}
use Rattle.std.proofs.Math.IntN.{ℤ, pos, negsuc}
use Rattle.program_meaning.specs.declared.scale.Scale.{Scale}
use Rattle.program_meaning.specs.Scales.{run_of, choices, choice, put, size}
use Rattle.program_meaning.specs.Counts.{count_of}
use Rattle.std.proofs.lemmas.Int.{ints}
use Rattle.exact_numbers.specs.declared.fraction.Fraction.{Fraction}
use Rattle.exact_numbers.specs.Divides.{lcm_of, gcd_of, euclid}
use Rattle.program_meaning.specs.declared.axis.Axis.{Axis}
use Rattle.program_meaning.specs.GridPoints.{grid_of, multiple_of, multiple_with, scale_of}

scale : ℕ → ℤ → ℕ → ℕ → Scale
scale name low step count = record { name = record { number = name }; low = low; step = step; count = count }

-- the numbers of the names 0 and 1 at the choices of two scales
at_both : List Scale → List (List ℤ)
at_both scales = map (λ p. p 0 ∷ p 1 ∷ []) (choices (λ _. pos 0) scales)

-- x from 0 to 2 and y from 0 to 1: six points, x changing slowest
first_slowest : at_both (scale 0 (pos 0) 1 3 ∷ scale 1 (pos 0) 1 2 ∷ []) ≡ (pos 0 ∷ pos 0 ∷ []) ∷ (pos 0 ∷ pos 1 ∷ []) ∷ (pos 1 ∷ pos 0 ∷ []) ∷ (pos 1 ∷ pos 1 ∷ []) ∷ (pos 2 ∷ pos 0 ∷ []) ∷ (pos 2 ∷ pos 1 ∷ []) ∷ []
unfolding at_both scale choices put run_of
first_slowest = refl

third_choice : choice (λ _. pos 0) (scale 0 (pos 0) 1 3 ∷ scale 1 (pos 0) 1 2 ∷ []) 3 1 ≡ pos 1
unfolding scale choice put size
third_choice = refl

-- an empty scale leaves no choice
none_left : at_both (scale 0 (pos 0) 1 3 ∷ scale 1 (pos 0) 1 0 ∷ []) ≡ []
unfolding at_both scale choices put run_of
none_left = refl

-- how many multiples of 1 and of 2 there are up to 2, 5, 4 and -1
whole_steps : count_of (pos 2) 1 ≡ 3
unfolding count_of
whole_steps = refl

end_not_met : count_of (pos 5) 2 ≡ 3
unfolding count_of
end_not_met = refl

end_met : count_of (pos 4) 2 ≡ 3
unfolding count_of
end_met = refl

no_values : count_of (negsuc 0) 1 ≡ 0
unfolding count_of
no_values = refl

-- ---- the grids of axes

fraction : (n d : ℕ) → 0 < d → n < 2 ^ 127 → d < 2 ^ 127 → Fraction
fraction n d h j k = record { numerator = pos n; denominator = pos d; positive = omega (arith, ints); numerator_within = j; denominator_within = k }

whole : (n : ℕ) → n < 2 ^ 127 → Fraction
whole n h = fraction n 1 (lit< tt) h (lit< tt)

axis : ℕ → Fraction → Fraction → Fraction → Axis
axis name low high step = record { name = record { number = name }; low = low; high = high; step = step }

zero_to_two : Axis
zero_to_two = axis 0 (whole 0 (lit< tt)) (whole 2 (lit< tt)) (whole 1 (lit< tt))

zero_to_one : Axis
zero_to_one = axis 1 (whole 0 (lit< tt)) (whole 1 (lit< tt)) (whole 1 (lit< tt))

-- x from 0 to 2 and y from 0 to 1, by 1
two_axes : grid_of (zero_to_two ∷ zero_to_one ∷ []) ≡ record { denominator = pos 1; scales = scale 0 (pos 0) 1 3 ∷ scale 1 (pos 0) 1 2 ∷ [] }
unfolding zero_to_two zero_to_one axis whole fraction scale multiple_of multiple_with scale_of count_of lcm_of gcd_of euclid
two_axes = refl

six_points : size (grid_of (zero_to_two ∷ zero_to_one ∷ [])).scales ≡ 6
unfolding zero_to_two zero_to_one axis whole fraction multiple_of multiple_with scale_of count_of lcm_of gcd_of euclid size
six_points = refl

-- x from 0 to 1 by 1/2, which stands as 2/4: 0, 1 and 2 over 2
half_steps : grid_of (axis 0 (whole 0 (lit< tt)) (whole 1 (lit< tt)) (fraction 2 4 (lit< tt) (lit< tt) (lit< tt)) ∷ []) ≡ record { denominator = pos 2; scales = scale 0 (pos 0) 1 3 ∷ [] }
unfolding axis whole fraction scale multiple_of multiple_with scale_of count_of lcm_of gcd_of euclid
half_steps = refl

-- x from 1 to 0
no_points : size (grid_of (axis 0 (whole 1 (lit< tt)) (whole 0 (lit< tt)) (whole 1 (lit< tt)) ∷ zero_to_two ∷ [])).scales ≡ 0
unfolding zero_to_two axis whole fraction multiple_of multiple_with scale_of count_of lcm_of gcd_of euclid size
no_points = refl
