-- Runs of neighbouring pieces, one after the other.
use Rattle.std.proofs.Common.{◌≡◌, ℕ, ◌+◌, ◌-◌, ◌<◌, ◌≤◌, List, [], ◌∷◌, ◌++◌, Some, ◌⊎◌, inl, inr, length, refl, arith, subst, length-append, suc, zero}
use Rattle.std.specs.Prelude.{slice_get}
use Rattle.std.proofs.lemmas.Bool.{cases_lt}
use Rattle.qe_parallel.specs.declared.error.FanError.{FanError}
use Rattle.qe_parallel.specs.declared.error.FanError.TheVariants.{Piece, Memory}
use Rattle.qe_parallel.specs.Fanned.{AreAnswers, HaveAnswers, AnswerAll, StopsAt, Fails}

nothing : {X : Type 0} (i : ℕ) (x : X) → slice_get [] i ≡ Some x → ⊥
nothing zero x h = cc
nothing (suc i) x h = cc

-- what stands at a place of two lists joined stands in the first, or in the second so many places later
joined_places : {X : Type 0} (xs ys : List X) (i : ℕ) (x : X) → slice_get (xs ++ ys) i ≡ Some x → (slice_get xs i ≡ Some x) ⊎ ((j : ℕ) × (i ≡ length xs + j) × (slice_get ys j ≡ Some x))
joined_places [] ys i x h = inr (i, omega arith, h)
joined_places (z ∷ xs) ys zero x h = inl h
joined_places (z ∷ xs) ys (suc i) x h = shifted (joined_places xs ys i x h)
  where
    shifted : (slice_get xs i ≡ Some x) ⊎ ((j : ℕ) × (i ≡ length xs + j) × (slice_get ys j ≡ Some x)) → (slice_get (z ∷ xs) (suc i) ≡ Some x) ⊎ ((j : ℕ) × (suc i ≡ length (z ∷ xs) + j) × (slice_get ys j ≡ Some x))
    shifted (inl e) = inl e
    shifted (inr (j, e, at)) = inr (j, omega arith, at)

-- a place below the length has an element
pub place_there : {X : Type 0} (xs : List X) (i : ℕ) → i < length xs → (x : X) × (slice_get xs i ≡ Some x)
place_there [] i h = absurd (omega arith)
place_there (x ∷ xs) zero h = (x, refl)
place_there (x ∷ xs) (suc i) h = place_there xs i (omega arith)

module _ {Out : Type 0} (R : ℕ → Out → Type 0) where
  pub begun : (from : ℕ) → AnswerAll R from from []
  begun from = record { count = omega arith; each = λ i out h. absurd (nothing i out h) }

  pub together : (from middle to : ℕ) (xs ys : List Out) → AnswerAll R from middle xs → AnswerAll R middle to ys → AnswerAll R from to (xs ++ ys)
  together from middle to xs ys a b = record {
    count = omega (arith, length-append xs ys);
    each = λ i out h. placed i out (joined_places xs ys i out h);
  }
    where
      placed : (i : ℕ) (out : Out) → (slice_get xs i ≡ Some out) ⊎ ((j : ℕ) × (i ≡ length xs + j) × (slice_get ys j ≡ Some out)) → R (from + i) out
      placed i out (inl e) = a.each i out e
      placed i out (inr (j, e, at)) = let same : middle + j ≡ from + i = omega arith in subst (λ k. R k out) same (b.each j out at)

  alone : (p : ℕ) (out : Out) → R p out → AreAnswers R p (out ∷ [])
  alone p out r zero o h = let same : out ≡ o = cc in subst (R (p + 0)) same (let e : p ≡ p + 0 = omega arith in subst (λ k. R k out) e r)
  alone p out r (suc i) o h = absurd (nothing i o h)

  pub more : (from p : ℕ) (xs : List Out) (out : Out) → AnswerAll R from p xs → R p out → AnswerAll R from (p + 1) (xs ++ out ∷ [])
  more from p xs out a r = together from p (p + 1) xs (out ∷ []) a (record { count = refl; each = alone p out r })

  pub all_have : (from to : ℕ) (xs : List Out) → AnswerAll R from to xs → HaveAnswers R from to
  all_have from to xs a i low high =
      let inside : i - from < length xs = omega (arith, a.count) in
      let found = place_there xs (i - from) inside in
      let same : from + (i - from) ≡ i = omega arith in
      (found.0, subst (λ k. R k found.0) same (a.each (i - from) found.0 found.1))

module _ {Out Stop : Type 0} (R : ℕ → Out → Type 0) (S : ℕ → Stop → Type 0) where
  pub later : (from middle to p : ℕ) (stop : Stop) (xs : List Out) → AnswerAll R from middle xs → StopsAt R S middle to p stop → StopsAt R S from to p stop
  later from middle to p stop xs a s = record {
    first = omega (arith, a.count, s.first);
    last = s.last;
    stops = s.stops;
    before = λ i low high. beside i low high (cases_lt i middle);
  }
    where
      beside : (i : ℕ) → from ≤ i → i < p → (i < middle) ⊎ (middle ≤ i) → (out : Out) × R i out
      beside i low high (inl below) = all_have R from middle xs a i low below
      beside i low high (inr above) = s.before i above high

  pub fails_later : (from middle to : ℕ) (xs : List Out) (e : FanError Stop) → AnswerAll R from middle xs → Fails R S middle to e → Fails R S from to e
  fails_later from middle to xs (Piece p stop) a s = later from middle to p stop xs a s
  fails_later from middle to xs Memory a s = tt
