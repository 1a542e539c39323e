-- Each list of bytes spells exactly one list of tokens, bad ones among them.
use Rattle.std.proofs.Common.{◌≡◌, ℕ, zero, suc, ◌+◌, ◌<◌, ◌≤◌, Bool, true, false, List, [], ◌∷◌, map, length, take, drop, sym, refl, ap, ◌∙◌, subst, inl, inr, arith, length-drop}
use Rattle.std.specs.Prelude.{Option, Some, None, ◌==◌, if◌then◌else◌}
use Rattle.std.specs.List.{prefix_len}
use Rattle.language_meaning.specs.declared.lexer.Front.{Front}
use Rattle.language_meaning.specs.declared.lexer.Front.TheVariants as found
use Rattle.language_meaning.specs.declared.lexer.Lexeme.{Lexeme}
use Rattle.language_meaning.specs.Terminals.{terminal_of}
use Rattle.redlog_tokens.specs.TerminalList.{terminals}
use Rattle.redlog_tokens.specs.declared.token.Token.{Token}
use Rattle.language_meaning.specs.declared.token.TokenKind.{TokenKind}
use Rattle.language_meaning.specs.declared.token.TokenKind.TheVariants as token
use Rattle.language_meaning.specs.Lexing.{is_blank, is_in_line, long_signs, short_signs, worded, signed, literal_of, front, Lexes, over, spaced, taken, SomeBad}
use Rattle.redlog_tokens.specs.Longest.{size, lexeme_of}
use Rattle.language_meaning.specs.Names.{is_digit, is_letter, is_name_part, is_one_of}

space_apart : {f : Front} {kind : Option TokenKind} {m n : ℕ} → f ≡ found.Space n → f ≡ found.Token kind m → ⊥
space_apart e g = cc

same_spaces : {f : Front} {m n : ℕ} → f ≡ found.Space n → f ≡ found.Space m → m ≡ n
same_spaces e g = cc

same_kinds : {f : Front} {j k : Option TokenKind} {m n : ℕ} → f ≡ found.Token j n → f ≡ found.Token k m → (j ≡ k) × (m ≡ n)
same_kinds e g = (cc, cc)

same_place : (t u : Lexeme) → t.kind ≡ u.kind → t.start ≡ u.start → t.end ≡ u.end → t ≡ u
same_place t u e f g = λ i. record { kind = e i; start = f i; end = g i }

-- no bytes spell two lists of tokens
pub same_lexemes : {bytes : List ℕ} {at : ℕ} {ts us : List Lexeme} → Lexes bytes at ts → Lexes bytes at us → ts ≡ us
same_lexemes over over = refl
same_lexemes {at = at} {us = us} (spaced {b = b} {bs = bs} {n = n} e l) (spaced e' l') =
    same_lexemes l (subst (λ k. Lexes (drop k (b ∷ bs)) (at + k) us) (same_spaces e e') l')
same_lexemes (spaced e l) (taken e' starts ends l') = absurd (space_apart e e')
same_lexemes (taken e starts ends l) (spaced e' l') = absurd (space_apart e' e)
same_lexemes {at = at} (taken {b = b} {bs = bs} {n = n} {t = t} e starts ends l) (taken {n = m} {t = u} {ts = us} e' starts' ends' l') =
    let kinds = same_kinds e e' in
    let rest = same_lexemes l (subst (λ k. Lexes (drop k (b ∷ bs)) (at + k) us) kinds.1 l') in
    let one = same_place t u kinds.0 (starts ∙ sym starts') (ends ∙ ap (λ k. at + k) (sym kinds.1) ∙ sym ends') in
    λ i. one i ∷ rest i

-- what holds of each of five fronts holds of the one that four tests choose
chosen : (P : Front → Type 0) (p q r s : Bool) (f g h i j : Front) → P f → P g → P h → P i → P j
    → P (if p then f else (if q then g else (if r then h else (if s then i else j))))
chosen P true q r s f g h i j a b c d e = a
chosen P false true r s f g h i j a b c d e = b
chosen P false false true s f g h i j a b c d e = c
chosen P false false false true f g h i j a b c d e = d
chosen P false false false false f g h i j a b c d e = e

pub of_front : (P : Front → Type 0) (b : ℕ) (bs : List ℕ) → P (found.Space 1) → P (found.Space (1 + prefix_len is_in_line bs))
    → P (found.Token (Some (token.Number (literal_of (take (1 + prefix_len is_digit bs) (b ∷ bs))))) (1 + prefix_len is_digit bs))
    → P (found.Token (worded (take (1 + prefix_len is_name_part bs) (b ∷ bs))) (1 + prefix_len is_name_part bs)) → P (signed (b ∷ bs)) → P (front b bs)
unfolding front
of_front P b bs = chosen P (is_blank b) (b == 37) (is_digit b) (is_letter b) _ _ _ _ _

chosen_sign : (P : Front → Type 0) (p q : Bool) (f g h : Front) → P f → P g → P h → P (if p then f else (if q then g else h))
chosen_sign P true q f g h a b c = a
chosen_sign P false true f g h a b c = b
chosen_sign P false false f g h a b c = c

pub of_sign : (P : Front → Type 0) (bytes : List ℕ) → P (found.Token (Some (token.Sign (take 2 bytes))) 2) → P (found.Token (Some (token.Sign (take 1 bytes))) 1)
    → P (found.Token None 1) → P (signed bytes)
unfolding signed
of_sign P bytes = chosen_sign P (is_one_of (take 2 bytes) long_signs) (is_one_of (take 1 bytes) short_signs) _ _ _

signed_size : (bytes : List ℕ) → 0 < size (signed bytes)
signed_size bytes = of_sign (λ f. 0 < size f) bytes (omega arith) (omega arith) (omega arith)

pub front_size : (b : ℕ) (bs : List ℕ) → 0 < size (front b bs)
front_size b bs = of_front (λ f. 0 < size f) b bs (omega arith) (omega arith) (omega arith) (omega arith) (signed_size (b ∷ bs))

next_lexes : (fuel : ℕ) (b : ℕ) (bs : List ℕ) (at : ℕ) (f : Front) → front b bs ≡ f → ((n : ℕ) → size f ≡ n → (ts : List Lexeme) × Lexes (drop n (b ∷ bs)) (at + n) ts) → (ts : List Lexeme) × Lexes (b ∷ bs) at ts
next_lexes fuel b bs at (found.Space n) e rest = let later = rest n refl in (later.0, spaced e later.1)
next_lexes fuel b bs at (found.Token kind n) e rest =
    let later = rest n refl in
    ((record { kind = kind; start = at; end = at + n }) ∷ later.0, taken e refl refl later.1)

lexed_within : (fuel : ℕ) (bytes : List ℕ) (at : ℕ) → length bytes ≤ fuel → (ts : List Lexeme) × Lexes bytes at ts
lexed_within fuel [] at small = ([], over)
lexed_within zero (b ∷ bs) at small = absurd (omega arith)
lexed_within (suc fuel) (b ∷ bs) at small =
    next_lexes fuel b bs at (front b bs) refl (λ n is. lexed_within fuel (drop n (b ∷ bs)) (at + n) (omega (arith, length-drop n (b ∷ bs), front_size b bs, is)))

-- all bytes spell tokens
pub lexed : (bytes : List ℕ) (at : ℕ) → (ts : List Lexeme) × Lexes bytes at ts
lexed bytes at = lexed_within (length bytes) bytes at (omega arith)

pub kinds_head : {o p : Option TokenKind} {os ps : List (Option TokenKind)} → o ∷ os ≡ p ∷ ps → o ≡ p
kinds_head e = cc

pub kinds_tail : {o p : Option TokenKind} {os ps : List (Option TokenKind)} → o ∷ os ≡ p ∷ ps → os ≡ ps
kinds_tail e = cc

none_is_some : {o : Option TokenKind} {k : TokenKind} → o ≡ None → o ≡ Some k → ⊥
none_is_some e f = cc

same_some : {j k : TokenKind} → Some j ≡ Some k → j ≡ k
same_some e = cc

-- the kinds of good tokens are determined
pub same_goods : (js ks : List TokenKind) → map Some js ≡ map Some ks → js ≡ ks
same_goods [] [] e = refl
same_goods [] (k ∷ ks) e = cc
same_goods (j ∷ js) [] e = cc
same_goods (j ∷ js) (k ∷ ks) e = let one = same_some (kinds_head e) in let rest = same_goods js ks (kinds_tail e) in λ i. one i ∷ rest i

-- the tokens are good, and their terminals are those of their kinds
pub goods_of : (ts : List Token) → map (λ t. t.kind) (map lexeme_of ts) ≡ map Some (map (λ t. t.kind) ts)
goods_of [] = refl
goods_of (t ∷ ts) = ap (λ ks. Some t.kind ∷ ks) (goods_of ts)

terminals_map : (ts : List Token) → map (λ t. terminal_of t.kind) ts ≡ map terminal_of (map (λ t. t.kind) ts)
terminals_map [] = refl
terminals_map (t ∷ ts) = ap (λ us. terminal_of t.kind ∷ us) (terminals_map ts)

pub terminals_of : (ts : List Token) → terminals ts ≡ map terminal_of (map (λ t. t.kind) ts)
unfolding terminals
terminals_of = terminals_map

-- a list of good tokens has no bad one
pub no_bad : (lexemes : List Lexeme) (kinds : List TokenKind) → map (λ t. t.kind) lexemes ≡ map Some kinds → SomeBad lexemes → ⊥
no_bad [] kinds e bad = bad
no_bad (t ∷ ts) [] e bad = cc
no_bad (t ∷ ts) (k ∷ ks) e (inl none) = none_is_some none (kinds_head e)
no_bad (t ∷ ts) (k ∷ ks) e (inr bad) = no_bad ts ks (kinds_tail e) bad
