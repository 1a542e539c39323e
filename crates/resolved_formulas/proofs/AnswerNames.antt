-- What names stand for beside the answers of commands.
use Rattle.std.proofs.Common.{◌≡◌, ℕ, zero, suc, ◌+◌, ◌<◌, ◌≤◌, Bool, true, false, ◌&&◌, List, [], ◌∷◌, ◌++◌, length, refl, ap, ◌∙◌, subst, arith, eq-eqb}
use Rattle.std.specs.Prelude.{nat_eq, slice_get, Some, if◌then◌else◌}
use Rattle.std.specs.Map.{lookup}
use Rattle.std.proofs.lemmas.List.{length-replicate}
use Rattle.logic_meaning.specs.Tree.{Tree}
use Rattle.language_meaning.specs.Value.{same_name}
use Rattle.language_meaning.specs.Holes.{inner_name}
use Rattle.logic_meaning.specs.Bindings.{bound_to}
use Rattle.language_meaning.specs.Resolving.{BoundTrees}
use Rattle.language_meaning.specs.Answers.{answers_from}

and_false : (b : Bool) → (b && false) ≡ false
and_false true = refl
and_false false = refl

-- a shorter text is another name
differs : (xs ys : List ℕ) → length xs < length ys → same_name xs ys ≡ false
differs [] [] h = absurd (omega (arith, h))
differs [] (y ∷ ys) h = refl
differs (x ∷ xs) [] h = refl
differs (x ∷ xs) (y ∷ ys) h = ap (λ b. nat_eq x y && b) (differs xs ys (omega (arith, h))) ∙ and_false (nat_eq x y)

-- a name that a script can write is none of an answer
pub no_answer : (x : List ℕ) (k : ℕ) → length x ≤ 64 → same_name x (inner_name k) ≡ false
no_answer x k h = differs x (inner_name k) (omega (arith, h, length-replicate {A = ℕ} (65 + k) 0))

-- so it stands for what is bound to it
pub beside_answers : (x : List ℕ) (k : ℕ) (ts : List Tree) (bound : BoundTrees) → length x ≤ 64 → bound_to (answers_from k ts ++ bound) x ≡ bound_to bound x
beside_answers x k [] bound h = refl
beside_answers x k (t ∷ ts) bound h = rw (no_answer x k h) (beside_answers x (suc k) ts bound h)

-- a longer text is another name
exceeds : (xs ys : List ℕ) → length ys < length xs → same_name xs ys ≡ false
exceeds [] [] h = absurd (omega (arith, h))
exceeds [] (y ∷ ys) h = refl
exceeds (x ∷ xs) [] h = refl
exceeds (x ∷ xs) (y ∷ ys) h = ap (λ b. nat_eq x y && b) (exceeds xs ys (omega (arith, h))) ∙ and_false (nat_eq x y)

-- the name of a later answer is no earlier one's
later_name : (n k : ℕ) → k < n → same_name (inner_name n) (inner_name k) ≡ false
later_name n k h = exceeds (inner_name n) (inner_name k) (omega (arith, h, length-replicate {A = ℕ} (65 + n) 0, length-replicate {A = ℕ} (65 + k) 0))

same_itself : (xs : List ℕ) → same_name xs xs ≡ true
same_itself [] = refl
same_itself (x ∷ xs) = ap (λ b. b && same_name xs xs) (eq-eqb x x refl) ∙ same_itself xs

-- the name of an answer stands for this answer
pub answer_at : (k i n : ℕ) (ts : List Tree) (bound : BoundTrees) → n ≡ k + i → i < length ts → bound_to (answers_from k ts ++ bound) (inner_name n) ≡ slice_get ts i
answer_at k i n [] bound e h = absurd (omega (arith, h))
answer_at k zero n (t ∷ ts) bound e h =
    let rest : BoundTrees = answers_from (suc k) ts ++ bound in
    let at : n ≡ k = omega (arith, e) in
    subst (λ (m : ℕ). bound_to ((inner_name m, t) ∷ rest) (inner_name n) ≡ Some t) at
    (ap (λ b. if b then Some t else lookup (same_name (inner_name n)) rest) (same_itself (inner_name n)))
answer_at k (suc i) n (t ∷ ts) bound e h =
    ap (λ b. if b then Some t else lookup (same_name (inner_name n)) (answers_from (suc k) ts ++ bound)) (later_name n k (omega (arith, e)))
    ∙ answer_at (suc k) i n ts bound (omega (arith, e)) (omega (arith, h))
