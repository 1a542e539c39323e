-- One step of the two loops.
use Rattle.std.proofs.Common.{◌≡◌, ℕ, suc, ◌+◌, List, ◌++◌, sym, ap, ◌∙◌, append_assoc, arith}
use Rattle.program_meaning.specs.Generated.{statement, statements}

pub one_more : (old now new : List ℕ) (n m k : ℕ) → now ≡ old ++ statements n → m ≡ n + 1 → k ≡ n + 1 → new ≡ now ++ statement m → new ≡ old ++ statements k
one_more old now new n m k a e f b =
    let next : m ≡ suc n = omega arith in
    let last : k ≡ suc n = omega arith in
    b ∙ ap (λ (xs : List ℕ). xs ++ statement m) a ∙ append_assoc old (statements n) (statement m)
    ∙ ap (λ (i : ℕ). old ++ (statements n ++ statement i)) next ∙ sym (ap (λ (i : ℕ). old ++ statements i) last)
