-- The choices of numbers of scales, each at its index.
use Rattle.std.proofs.Common.{option_map, ◌≡◌, ℕ, zero, suc, ◌+◌, ◌*◌, ◌/◌, ◌%◌, ◌<◌, List, [], ◌∷◌, ◌++◌, Some, length, arith, refl, sym, ap, ◌∙◌, length-append}
use Rattle.std.proofs.Math.IntN.{ℤ, pos, ◌+ℤ◌}
use Rattle.std.specs.Prelude.{slice_get, flat_map}
use Rattle.std.proofs.lemmas.Int.{ints}
use Rattle.std.proofs.lemmas.Nat.{div_below}
use Rattle.std.proofs.lemmas.List.{length-map}
use Rattle.std.proofs.lemmas.Option.{slice_get-map}
use Rattle.program_meaning.specs.declared.scale.Scale.{Scale}
use Rattle.program_meaning.specs.Scales.{run_of, numbers_of, number_of, put, choices, choice, size}
use Rattle.program_meaning.specs.Frames.{Frame, point_over, points_of}
use Rattle.point_grid.specs.FramePoints.{point_at}

suc_times : (i t : ℕ) → suc i * t ≡ t + i * t
suc_times i t = omega arith

next_number : (low : ℤ) (t i : ℕ) → (low +ℤ pos t) +ℤ pos (i * t) ≡ low +ℤ pos (suc i * t)
next_number low t i = let e = suc_times i t in omega (arith, ints)

zero_number : (low : ℤ) (t : ℕ) → low ≡ low +ℤ pos (0 * t)
zero_number low t = let e : 0 * t ≡ 0 = omega arith in omega (arith, ints)

-- so many numbers, each at its index
pub run_length : (low : ℤ) (t n : ℕ) → length (run_of low t n) ≡ n
unfolding run_of
run_length low t zero = refl
run_length low t (suc n) = let e = run_length (low +ℤ pos t) t n in omega arith

pub run_place : (low : ℤ) (t n i : ℕ) → i < n → slice_get (run_of low t n) i ≡ Some (low +ℤ pos (i * t))
unfolding run_of
run_place low t zero i h = absurd (omega arith)
run_place low t (suc n) zero h = ap Some (zero_number low t)
run_place low t (suc n) (suc i) h = run_place (low +ℤ pos t) t n i (omega arith) ∙ ap Some (next_number low t i)

module _ {X : Type 0} where
  front_place : (xs ys : List X) (i : ℕ) → i < length xs → slice_get (xs ++ ys) i ≡ slice_get xs i
  front_place [] ys i h = absurd (omega arith)
  front_place (x ∷ xs) ys zero h = refl
  front_place (x ∷ xs) ys (suc i) h = front_place xs ys i (omega arith)

  back_place : (xs ys : List X) (i : ℕ) → slice_get (xs ++ ys) (length xs + i) ≡ slice_get ys i
  back_place [] ys i = let e : 0 + i ≡ i = omega arith in ap (slice_get ys) e
  back_place (x ∷ xs) ys i = let e : suc (length xs) + i ≡ suc (length xs + i) = omega arith in ap (slice_get (x ∷ (xs ++ ys))) e ∙ back_place xs ys i

later_block : (q m r : ℕ) → suc q * m + r ≡ m + (q * m + r)
later_block q m r = let s = suc_times q m in omega arith

module _ {X A : Type 0} where
  -- lists of one length, one after the other
  blocks_length : (f : A → List X) (m : ℕ) → ((a : A) → length (f a) ≡ m) → (xs : List A) → length (flat_map f xs) ≡ length xs * m
  blocks_length f m h [] = omega arith
  blocks_length f m h (x ∷ xs) =
      let e = blocks_length f m h xs in let k = h x in let l = length-append (f x) (flat_map f xs) in let s = suc_times (length xs) m in omega arith

  blocks_place : (f : A → List X) (m : ℕ) → ((a : A) → length (f a) ≡ m) → (xs : List A) (q r : ℕ) (a : A) → slice_get xs q ≡ Some a → r < m → slice_get (flat_map f xs) (q * m + r) ≡ slice_get (f a) r
  blocks_place f m h [] zero r a e l = absurd (cc)
  blocks_place f m h [] (suc q) r a e l = absurd (cc)
  blocks_place f m h (x ∷ xs) zero r a e l =
      let same : x ≡ a = cc in let k = h x in let z : 0 * m + r ≡ r = omega arith in
      ap (slice_get (f x ++ flat_map f xs)) z ∙ front_place (f x) (flat_map f xs) r (omega arith) ∙ ap (λ (b : A). slice_get (f b) r) same
  blocks_place f m h (x ∷ xs) (suc q) r a e l =
      let k : m ≡ length (f x) = sym (h x) in
      ap (slice_get (f x ++ flat_map f xs)) (later_block q m r ∙ ap (λ (n : ℕ). n + (q * m + r)) k) ∙ back_place (f x) (flat_map f xs) (q * m + r) ∙ blocks_place f m h xs q r a e l

-- as many choices as the product of the counts
pub choices_length : (p : ℕ → ℤ) (ss : List Scale) → length (choices p ss) ≡ size ss
unfolding choices size
choices_length p [] = refl
choices_length p (s ∷ ss) =
    blocks_length (λ n. choices (put p s.name.number n) ss) (size ss) (λ n. choices_length (put p s.name.number n) ss) (numbers_of s)
    ∙ ap (λ (n : ℕ). n * size ss) (run_length s.low s.step s.count)

pub inner_positive : (c m i : ℕ) → i < c * m → 0 < m
inner_positive c zero i h = let e : c * 0 ≡ 0 = omega arith in absurd (omega arith)
inner_positive c (suc m) i h = omega arith

split_index : (i m : ℕ) → 0 < m → i ≡ (i / m) * m + i % m
split_index i m h = omega arith

rest_below : (i m : ℕ) → 0 < m → i % m < m
rest_below i m h = omega arith

-- each choice stands at its index
pub choice_place : (p : ℕ → ℤ) (ss : List Scale) (i : ℕ) → i < size ss → slice_get (choices p ss) i ≡ Some (choice p ss i)
unfolding choices choice size
choice_place p [] zero h = refl
choice_place p [] (suc i) h = absurd (omega arith)
choice_place p (s ∷ ss) i h =
    let m = size ss in
    let hm : 0 < m = inner_positive s.count m i h in
    let q : i / m < s.count = div_below i m s.count hm h in
    let f = λ (n : ℤ). choices (put p s.name.number n) ss in
    ap (slice_get (choices p (s ∷ ss))) (split_index i m hm)
    ∙ blocks_place f m (λ n. choices_length (put p s.name.number n) ss) (numbers_of s) (i / m) (i % m) (number_of s (i / m)) (run_place s.low s.step s.count (i / m) q) (rest_below i m hm)
    ∙ choice_place (put p s.name.number (number_of s (i / m))) ss (i % m) (rest_below i m hm)

-- as many points, each at its index
pub points_are_counted : (grid : Frame) → length (points_of grid) ≡ size grid.scales
points_are_counted grid = length-map (choices (λ _. pos 0) grid.scales) (point_over grid.denominator) ∙ choices_length (λ _. pos 0) grid.scales

pub point_place : (grid : Frame) (index : ℕ) → index < size grid.scales → slice_get (points_of grid) index ≡ Some (point_at grid index)
point_place grid index h =
    slice_get-map (point_over grid.denominator) (choices (λ _. pos 0) grid.scales) index ∙ ap (option_map (point_over grid.denominator)) (choice_place (λ _. pos 0) grid.scales index h)
