-- Reading tokens.
use Rattle.std.proofs.Common.{◌≡◌, ℕ, ◌+◌, ◌-◌, ◌<◌, ◌≤◌, List, [], ◌∷◌, length, take, drop, sym, ap, ◌∙◌, subst, refl, arith, drop-drop, length-drop}
use Rattle.redlog_tokens.proofs.Lexemes.{to_end}
use Rattle.smt_language.specs.declared.lexer.Front.{Front}
use Rattle.smt_language.specs.declared.lexer.Front.TheVariants as found
use Rattle.smt_language.specs.declared.token.SmtLexeme.{SmtLexeme}
use Rattle.smt_language.specs.declared.token.SmtToken.{SmtToken}
use Rattle.smt_language.specs.Lexing.{Lexes, over, spaced, taken}
use Rattle.smt_tokens.specs.Fronts.{IsFront, size, LexesFrom}

lexes_space : (rest : List ℕ) (at n : ℕ) {ts : List SmtLexeme} → IsFront rest (found.Space n) → Lexes (drop n rest) (at + n) ts → Lexes rest at ts
lexes_space [] at n h l = absurd h
lexes_space (b ∷ bs) at n h l = spaced h l

lexes_token : (rest : List ℕ) (at n : ℕ) (token : SmtToken) {ts : List SmtLexeme} → IsFront rest (found.Token token n) → Lexes (drop n rest) (at + n) ts
    → Lexes rest at (record { token = token; start = at; end = at + n } ∷ ts)
lexes_token [] at n token h l = absurd h
lexes_token (b ∷ bs) at n token h l = taken h refl refl l

-- from the place of a space on, and from its end on
past_space : (script : List ℕ) (at n : ℕ) (ts : List SmtLexeme) → IsFront (drop at script) (found.Space n) → LexesFrom script (at + n) ts → LexesFrom script at ts
past_space script at n ts h l = lexes_space (drop at script) at n h (subst (λ rest. Lexes rest (at + n) ts) (sym (drop-drop n at script)) l)

-- from the place of a token on, and from its end on
past_token : (script : List ℕ) (at n : ℕ) (token : SmtToken) (ts : List SmtLexeme) → IsFront (drop at script) (found.Token token n) → LexesFrom script (at + n) ts
    → LexesFrom script at (record { token = token; start = at; end = at + n } ∷ ts)
past_token script at n token ts h l = lexes_token (drop at script) at n token h (subst (λ rest. Lexes rest (at + n) ts) (sym (drop-drop n at script)) l)

pub at_end : (script : List ℕ) (at : ℕ) → take (length script - at) (drop at script) ≡ [] → LexesFrom script at []
at_end script at e = subst (λ rest. Lexes rest at []) (sym (sym (to_end script at) ∙ e)) over

module _ (script : List ℕ) (from at n : ℕ) (f : Front) (seen : IsFront (take (length script - at) (drop at script)) f) (sized : size f ≤ length (take (length script - at) (drop at script)))
    (later : from ≤ at) (inside : at ≤ length script) (reached : (ts : List SmtLexeme) → LexesFrom script at ts → LexesFrom script from ts) where
  here : IsFront (drop at script) f
  here = subst (λ rest. IsFront rest f) (to_end script at) seen

  within : size f ≤ length (drop at script)
  within = subst (λ rest. size f ≤ length rest) (to_end script at) sized

  -- past a blank or a comment
  pub space_step : f ≡ found.Space n → (from ≤ at + n) × (at + n ≤ length script) × ((ts : List SmtLexeme) → LexesFrom script (at + n) ts → LexesFrom script from ts)
  space_step is = (
    omega arith,
    omega (arith, within, ap size is, length-drop at script),
    λ ts l. reached ts (past_space script at n ts (subst (IsFront (drop at script)) is here) l),
  )

  -- a token
  pub token_step : {token : SmtToken} → f ≡ found.Token token n → 0 < size f
      → (from ≤ at) × (at < at + n) × (at + n ≤ length script)
      × ((ts : List SmtLexeme) → LexesFrom script (at + n) ts → LexesFrom script from (record { token = token; start = at; end = at + n } ∷ ts))
  token_step {token} is some = (
    later,
    omega (arith, some, ap size is),
    omega (arith, within, ap size is, length-drop at script),
    λ ts l. reached _ (past_token script at n token ts (subst (IsFront (drop at script)) is here) l),
  )
