-- Choices over other numbers, and the next scale of a choice.
use Rattle.std.proofs.Common.{◌≡◌, ℕ, suc, zero, ◌*◌, ◌/◌, ◌%◌, ◌<◌, List, [], ◌∷◌, true, false, Bool, nat_eq, refl, ap, ◌∙◌, arith, eq-eqb, eqb-true}
use Rattle.std.proofs.Math.IntN.{ℤ}
use Rattle.std.specs.Prelude.{if◌then◌else◌}
use Rattle.std.specs.List.{AllByRecursion}
use Rattle.std.proofs.Math.Nat.{mul-div_cancel_left}
use Rattle.std.proofs.lemmas.Nat.{div_below}
use Rattle.program_meaning.specs.declared.scale.Scale.{Scale}
use Rattle.program_meaning.specs.Scales.{put, choice, size, number_of}
use Rattle.point_grid.proofs.Numbering.{inner_positive}

-- no scale has this name
abbrev pub HasNot : List Scale → ℕ → Type 0
HasNot ss x = AllByRecursion (λ s. ¬ (s.name.number ≡ x)) ss

put_same : (name x : ℕ) (v : ℤ) (p q : ℕ → ℤ) → (¬ (name ≡ x) → p x ≡ q x) → put p name v x ≡ put q name v x
unfolding put
put_same name x v p q h = go (nat_eq name x) refl
  where
    go : (b : Bool) → nat_eq name x ≡ b → (if b then v else p x) ≡ (if b then v else q x)
    go true e = refl
    go false e = h (λ (same : name ≡ x). let t : nat_eq name x ≡ true = eq-eqb name x same in cc)

put_other : (name x : ℕ) (v : ℤ) (p : ℕ → ℤ) → ¬ (name ≡ x) → put p name v x ≡ p x
unfolding put
put_other name x v p h = go (nat_eq name x) refl
  where
    go : (b : Bool) → nat_eq name x ≡ b → (if b then v else p x) ≡ p x
    go true e = absurd (h (eqb-true name x e))
    go false e = refl

-- a choice is the same over numbers that differ only at names of the scales
same_choice : (ss : List Scale) (n x : ℕ) (p q : ℕ → ℤ) → (HasNot ss x → p x ≡ q x) → choice p ss n x ≡ choice q ss n x
unfolding choice
same_choice [] n x p q h = h tt
same_choice (s ∷ ss) n x p q h =
    let v = number_of s (n / size ss) in
    same_choice ss (n % size ss) x (put p s.name.number v) (put q s.name.number v) (λ o. put_same s.name.number x v p q (λ k. h (k, o)))

other_name : (ss : List Scale) (n x : ℕ) (p : ℕ → ℤ) → HasNot ss x → choice p ss n x ≡ p x
unfolding choice
other_name [] n x p h = refl
other_name (s ∷ ss) n x p h =
    let v = number_of s (n / size ss) in
    other_name ss (n % size ss) x (put p s.name.number v) h.1 ∙ put_other s.name.number x v p h.0

-- a choice over another one
pub chosen_again : (ss : List Scale) (m n : ℕ) (p : ℕ → ℤ) → choice (choice p ss m) ss n ≡ choice p ss n
chosen_again ss m n p = λ i x. same_choice ss n x (choice p ss m) p (λ o. other_name ss m x p o) i

-- what the first scale and the others have of an index
pub record Parts (s : Scale) (ss : List Scale) (stride left : ℕ) : Type 0 where
  pub some_number : 0 < s.count
  pub stride_is : stride / s.count ≡ size ss
  pub some_left : 0 < size ss
  pub index_below : left / size ss < s.count
  pub left_below : left % size ss < size ss

count_positive : (c m i : ℕ) → i < c * m → 0 < c
count_positive zero m i h = let e : 0 * m ≡ 0 = omega arith in absurd (omega arith)
count_positive (suc c) m i h = omega arith

pub parts : (s : Scale) (ss : List Scale) (stride left : ℕ) → stride ≡ size (s ∷ ss) → left < size (s ∷ ss) → Parts s ss stride left
unfolding size
parts s ss stride left e h =
    let c = count_positive s.count (size ss) left h in
    let k = inner_positive s.count (size ss) left h in
    record {
      some_number = c;
      stride_is = ap (λ n. n / s.count) e ∙ mul-div_cancel_left (size ss) c;
      some_left = k;
      index_below = div_below left (size ss) s.count k h;
      left_below = omega arith;
    }

pub next_choice : (s : Scale) (ss : List Scale) (left : ℕ) (v : ℤ) (p q : ℕ → ℤ) → v ≡ number_of s (left / size ss) → ((x : ℕ) → q x ≡ (if nat_eq s.name.number x then v else p x)) → choice q ss (left % size ss) ≡ choice p (s ∷ ss) left
unfolding choice put
next_choice s ss left v p q e h =
    let f : q ≡ put p s.name.number v = λ i x. h x i in
    ap (λ (r : ℕ → ℤ). choice r ss (left % size ss)) f ∙ ap (λ (w : ℤ). choice (put p s.name.number w) ss (left % size ss)) e

pub last_choice : (p r : ℕ → ℤ) (left : ℕ) → choice p [] left ≡ r → p ≡ r
unfolding choice
last_choice p r left e = e
