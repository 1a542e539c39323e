-- One step along a string.
use Rattle.std.proofs.Common.{◌≡◌, ℕ, suc, ◌+◌, ◌<◌, false, List, [], ◌∷◌, length, get_or, drop, refl, ap, ◌∙◌, arith, rules, drop-cons}
use Rattle.std.specs.Prelude.{◌==◌}
use Rattle.smt_language.specs.Lexing.{closing_quote}

other_first : (at b : ℕ) (bs : List ℕ) → (b == 34) ≡ false → closing_quote at (b ∷ bs) ≡ closing_quote (at + 1) bs
other_first at b [] e = rw e
other_first at b (c ∷ cs) e = rw e

doubled_first : (at b c : ℕ) (cs : List ℕ) → b ≡ 34 → c ≡ 34 → closing_quote at (b ∷ c ∷ cs) ≡ closing_quote (at + 2) cs
doubled_first at b c cs e f = rw (e, f) refl

-- past a byte that is no quote
pub past_other : (bs : List ℕ) (at : ℕ) → at < length bs → ¬ (get_or bs at 0 ≡ 34) → closing_quote at (drop at bs) ≡ closing_quote (at + 1) (drop (at + 1) bs)
past_other bs at inside other =
    let no_quote : (get_or bs at 0 == 34) ≡ false = search rules in
    let next : suc at ≡ at + 1 = omega arith in
    ap (closing_quote at) (drop-cons bs at 0 inside) ∙ other_first at (get_or bs at 0) (drop (suc at) bs) no_quote ∙ ap (λ k. closing_quote (at + 1) (drop k bs)) next

-- past two quotes
pub past_two : (bs : List ℕ) (at : ℕ) → at < length bs → at + 1 < length bs → get_or bs at 0 ≡ 34 → get_or bs (at + 1) 0 ≡ 34 → closing_quote at (drop at bs) ≡ closing_quote (at + 2) (drop (at + 2) bs)
past_two bs at inside more first second =
    let next : suc at ≡ at + 1 = omega arith in
    let last : suc (at + 1) ≡ at + 2 = omega arith in
    let behind = ap (λ k. drop k bs) next ∙ drop-cons bs (at + 1) 0 more ∙ ap (λ k. get_or bs (at + 1) 0 ∷ drop k bs) last in
    ap (closing_quote at) (drop-cons bs at 0 inside ∙ ap (λ rest. get_or bs at 0 ∷ rest) behind) ∙ doubled_first at (get_or bs at 0) (get_or bs (at + 1) 0) (drop (at + 2) bs) first second
