-- Each list of bytes spells exactly one list of tokens, bad ones among them.
use Rattle.std.proofs.Common.{◌≡◌, ℕ, zero, suc, ◌+◌, ◌≤◌, List, [], ◌∷◌, length, drop, sym, refl, ap, ◌∙◌, subst, arith, length-drop}
use Rattle.smt_language.specs.declared.lexer.Front.{Front}
use Rattle.smt_language.specs.declared.lexer.Front.TheVariants as found
use Rattle.smt_language.specs.declared.token.SmtLexeme.{SmtLexeme}
use Rattle.smt_language.specs.declared.token.SmtToken.{SmtToken}
use Rattle.smt_language.specs.Lexing.{front, Lexes, over, spaced, taken}
use Rattle.smt_tokens.specs.Fronts.{size}
use Rattle.smt_tokens.proofs.Fronts.{front_size}

space_apart : {f : Front} {token : SmtToken} {m n : ℕ} → f ≡ found.Space n → f ≡ found.Token token m → ⊥
space_apart e g = cc

same_spaces : {f : Front} {m n : ℕ} → f ≡ found.Space n → f ≡ found.Space m → m ≡ n
same_spaces e g = cc

same_tokens : {f : Front} {j k : SmtToken} {m n : ℕ} → f ≡ found.Token j n → f ≡ found.Token k m → (j ≡ k) × (m ≡ n)
same_tokens e g = (cc, cc)

same_place : (t u : SmtLexeme) → t.token ≡ u.token → t.start ≡ u.start → t.end ≡ u.end → t ≡ u
same_place t u e f g = λ i. record { token = e i; start = f i; end = g i }

-- no bytes spell two lists of tokens
pub same_lexemes : {bytes : List ℕ} {at : ℕ} {ts us : List SmtLexeme} → Lexes bytes at ts → Lexes bytes at us → ts ≡ us
same_lexemes over over = refl
same_lexemes {at = at} {us = us} (spaced {b = b} {bs = bs} {n = n} e l) (spaced e' l') =
    same_lexemes l (subst (λ k. Lexes (drop k (b ∷ bs)) (at + k) us) (same_spaces e e') l')
same_lexemes (spaced e l) (taken e' starts ends l') = absurd (space_apart e e')
same_lexemes (taken e starts ends l) (spaced e' l') = absurd (space_apart e' e)
same_lexemes {at = at} (taken {b = b} {bs = bs} {n = n} {t = t} e starts ends l) (taken {n = m} {t = u} {ts = us} e' starts' ends' l') =
    let tokens = same_tokens e e' in
    let rest = same_lexemes l (subst (λ k. Lexes (drop k (b ∷ bs)) (at + k) us) tokens.1 l') in
    let one = same_place t u tokens.0 (starts ∙ sym starts') (ends ∙ ap (λ k. at + k) (sym tokens.1) ∙ sym ends') in
    λ i. one i ∷ rest i

next_lexes : (b : ℕ) (bs : List ℕ) (at : ℕ) (f : Front) → front b bs ≡ f → ((n : ℕ) → size f ≡ n → (ts : List SmtLexeme) × Lexes (drop n (b ∷ bs)) (at + n) ts)
    → (ts : List SmtLexeme) × Lexes (b ∷ bs) at ts
next_lexes b bs at (found.Space n) e rest = let later = rest n refl in (later.0, spaced e later.1)
next_lexes b bs at (found.Token token n) e rest =
    let later = rest n refl in
    ((record { token = token; start = at; end = at + n }) ∷ later.0, taken e refl refl later.1)

lexed_within : (fuel : ℕ) (bytes : List ℕ) (at : ℕ) → length bytes ≤ fuel → (ts : List SmtLexeme) × Lexes bytes at ts
lexed_within fuel [] at small = ([], over)
lexed_within zero (b ∷ bs) at small = absurd (omega arith)
lexed_within (suc fuel) (b ∷ bs) at small =
    next_lexes b bs at (front b bs) refl (λ n is. lexed_within fuel (drop n (b ∷ bs)) (at + n) (omega (arith, length-drop n (b ∷ bs), front_size b bs, is)))

-- all bytes spell tokens
pub lexed : (bytes : List ℕ) (at : ℕ) → (ts : List SmtLexeme) × Lexes bytes at ts
lexed bytes at = lexed_within (length bytes) bytes at (omega arith)
