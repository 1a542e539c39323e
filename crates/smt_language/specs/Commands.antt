-- How the tokens of a script are cut into commands.
use Rattle.std.specs.Prelude.{◌≡◌, ℕ, suc, Bool, true, false, List, [], ◌∷◌, length}
use Rattle.smt_language.specs.declared.token.SmtCut.{SmtCut}
use Rattle.smt_language.specs.declared.token.SmtLexeme.{SmtLexeme}
use Rattle.smt_language.specs.declared.token.SmtToken.{SmtToken}
use Rattle.smt_language.specs.declared.token.SmtToken.TheVariants as token
use Rattle.smt_language.specs.Lexing.{Lexes}

abbrev pub is_open : SmtToken → Bool
is_open token.Open = true
is_open _ = false

abbrev pub is_close : SmtToken → Bool
is_close token.Close = true
is_close _ = false

-- A parenthesis is open before these tokens, and so many inside it. It is closed at this place, and these tokens come after that. Where
-- nothing closes it, the place is the end of a script of so many bytes.
pub data Closes : ℕ → ℕ → List SmtLexeme → ℕ → List SmtLexeme → Type 0 where
  never : {total depth : ℕ} → Closes total depth [] total []
  here : {total : ℕ} {t : SmtLexeme} {ts : List SmtLexeme} → is_close t.token ≡ true → Closes total 0 (t ∷ ts) t.end ts
  closed : {total depth end : ℕ} {t : SmtLexeme} {ts rest : List SmtLexeme} → is_close t.token ≡ true → Closes total depth ts end rest → Closes total (suc depth) (t ∷ ts) end rest
  opened : {total depth end : ℕ} {t : SmtLexeme} {ts rest : List SmtLexeme} → is_open t.token ≡ true → Closes total (suc depth) ts end rest → Closes total depth (t ∷ ts) end rest
  inside : {total depth end : ℕ} {t : SmtLexeme} {ts rest : List SmtLexeme} → is_open t.token ≡ false → is_close t.token ≡ false → Closes total depth ts end rest
      → Closes total depth (t ∷ ts) end rest

-- Outside all parentheses, after a token that ends at the first place, the tokens before the next ( end at the second one, and these
-- tokens come after them.
pub data Runs : ℕ → List SmtLexeme → ℕ → List SmtLexeme → Type 0 where
  over : {end : ℕ} → Runs end [] end []
  stops : {end : ℕ} {t : SmtLexeme} {ts : List SmtLexeme} → is_open t.token ≡ true → Runs end (t ∷ ts) end (t ∷ ts)
  goes : {before end : ℕ} {t : SmtLexeme} {ts rest : List SmtLexeme} → is_open t.token ≡ false → Runs t.end ts end rest → Runs before (t ∷ ts) end rest

-- these tokens, which stand outside all parentheses of a script of so many bytes, are these commands
pub data Cuts : ℕ → List SmtLexeme → List SmtCut → Type 0 where
  none : {total : ℕ} → Cuts total [] []
  group : {total end : ℕ} {t : SmtLexeme} {ts rest : List SmtLexeme} {cs : List SmtCut} → is_open t.token ≡ true → Closes total 0 ts end rest → Cuts total rest cs
      → Cuts total (t ∷ ts) (record { start = t.start; end = end } ∷ cs)
  loose : {total end : ℕ} {t : SmtLexeme} {ts rest : List SmtLexeme} {cs : List SmtCut} → is_open t.token ≡ false → Runs t.end ts end rest → Cuts total rest cs
      → Cuts total (t ∷ ts) (record { start = t.start; end = end } ∷ cs)

-- the commands of a script
pub record AreCommands (bytes : List ℕ) (commands : List SmtCut) : Type 0 where
  pub tokens : List SmtLexeme
  pub lexes : Lexes bytes 0 tokens
  pub cuts : Cuts (length bytes) tokens commands
