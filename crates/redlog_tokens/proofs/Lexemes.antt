-- Reading tokens.
use Rattle.std.proofs.Common.{◌≡◌, ℕ, suc, ◌+◌, ◌-◌, ◌*◌, ◌/◌, ◌^◌, ◌<◌, ◌≤◌, false, List, [], ◌∷◌, length, take, drop, get_or, sym, refl, ap, ◌∙◌, subst, arith, rules, drop-cons, drop-drop, length-drop}
use Rattle.std.proofs.Math.Seq.{take-length}
use Rattle.std.specs.Prelude.{nat_lt, Option}
use Rattle.language_meaning.specs.declared.tree.Literal.TheVariants.{Past}
use Rattle.language_meaning.specs.declared.lexer.Front.{Front}
use Rattle.language_meaning.specs.declared.lexer.Front.TheVariants as found
use Rattle.language_meaning.specs.declared.lexer.Lexeme.{Lexeme}
use Rattle.language_meaning.specs.declared.token.TokenKind.{TokenKind}
use Rattle.language_meaning.specs.Lexing.{value_after, as_literal, Lexes, over, spaced, taken, LexesFrom}
use Rattle.redlog_tokens.specs.Longest.{IsFront, size}

-- the digits so far and those to come say at least what those so far say
pub value_grows : (n : ℕ) (ds : List ℕ) → n ≤ value_after n ds
value_grows n [] = omega arith
value_grows n (d ∷ ds) = omega (arith, value_grows (n * 10 + (d - 48)) ds)

literal_past : (n : ℕ) → 2 ^ 127 ≤ n → Past ≡ as_literal n
literal_past n h = let f : nat_lt n (2 ^ 127) ≡ false = search rules in rw f

-- one more digit passes the limit
pub past_digit : (before : ℕ) (ds : List ℕ) (i v : ℕ) → value_after before ds ≡ value_after v (drop i ds) → i < length ds → 170141183460469231731687303715884105727 / 10 < v
    → Past ≡ as_literal (value_after before ds)
past_digit before ds i v so_far inside above =
    let next = ap (value_after v) (drop-cons ds i 0 inside) in
    let more = value_grows (v * 10 + (get_or ds i 0 - 48)) (drop (suc i) ds) in
    literal_past (value_after before ds) (omega (arith, so_far, next, more, above))

lexes_space : (rest : List ℕ) (at n : ℕ) {ts : List Lexeme} → IsFront rest (found.Space n) → Lexes (drop n rest) (at + n) ts → Lexes rest at ts
lexes_space [] at n h l = absurd h
lexes_space (b ∷ bs) at n h l = spaced h l

lexes_token : (rest : List ℕ) (at n : ℕ) (kind : Option TokenKind) {ts : List Lexeme} → IsFront rest (found.Token kind n) → Lexes (drop n rest) (at + n) ts
    → Lexes rest at (record { kind = kind; start = at; end = at + n } ∷ ts)
lexes_token [] at n kind h l = absurd h
lexes_token (b ∷ bs) at n kind h l = taken h refl refl l

-- from the place of a space on, and from its end on
pub past_space : (script : List ℕ) (at n : ℕ) (ts : List Lexeme) → IsFront (drop at script) (found.Space n) → LexesFrom script (at + n) ts → LexesFrom script at ts
past_space script at n ts h l = lexes_space (drop at script) at n h (subst (λ rest. Lexes rest (at + n) ts) (sym (drop-drop n at script)) l)

-- from the place of a token on, and from its end on
pub past_token : (script : List ℕ) (at n : ℕ) (kind : Option TokenKind) (ts : List Lexeme) → IsFront (drop at script) (found.Token kind n) → LexesFrom script (at + n) ts
    → LexesFrom script at (record { kind = kind; start = at; end = at + n } ∷ ts)
past_token script at n kind ts h l = lexes_token (drop at script) at n kind h (subst (λ rest. Lexes rest (at + n) ts) (sym (drop-drop n at script)) l)

-- the bytes from a place on, as a slice to the end has them
pub to_end : (script : List ℕ) (at : ℕ) → take (length script - at) (drop at script) ≡ drop at script
to_end script at = ap (λ n. take n (drop at script)) (sym (length-drop at script)) ∙ take-length (drop at script)

pub at_end : (script : List ℕ) (at : ℕ) → take (length script - at) (drop at script) ≡ [] → LexesFrom script at []
at_end script at e = subst (λ rest. Lexes rest at []) (sym (sym (to_end script at) ∙ e)) over

module _ (script : List ℕ) (from at n : ℕ) (f : Front) (seen : IsFront (take (length script - at) (drop at script)) f) (sized : size f ≤ length (take (length script - at) (drop at script)))
    (later : from ≤ at) (inside : at ≤ length script) (reached : (ts : List Lexeme) → LexesFrom script at ts → LexesFrom script from ts) where
  here : IsFront (drop at script) f
  here = subst (λ rest. IsFront rest f) (to_end script at) seen

  within : size f ≤ length (drop at script)
  within = subst (λ rest. size f ≤ length rest) (to_end script at) sized

  -- past a blank or a comment
  pub space_step : f ≡ found.Space n → (from ≤ at + n) × (at + n ≤ length script) × ((ts : List Lexeme) → LexesFrom script (at + n) ts → LexesFrom script from ts)
  space_step is = (
    omega arith,
    omega (arith, within, ap size is, length-drop at script),
    λ ts l. reached ts (past_space script at n ts (subst (IsFront (drop at script)) is here) l),
  )

  -- a token
  pub token_step : {kind : Option TokenKind} → f ≡ found.Token kind n → 0 < size f
      → (from ≤ at) × (at < at + n) × (at + n ≤ length script)
      × ((ts : List Lexeme) → LexesFrom script (at + n) ts → LexesFrom script from (record { kind = kind; start = at; end = at + n } ∷ ts))
  token_step {kind} is some = (
    later,
    omega (arith, some, ap size is),
    omega (arith, within, ap size is, length-drop at script),
    λ ts l. reached _ (past_token script at n kind ts (subst (IsFront (drop at script)) is here) l),
  )
