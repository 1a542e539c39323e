-- What stands at the front of bytes, and what they spell from a place on.
use Rattle.std.specs.Prelude.{◌≡◌, ℕ, List, [], ◌∷◌, drop}
use Rattle.smt_language.specs.declared.lexer.Front.{Front}
use Rattle.smt_language.specs.declared.lexer.Front.TheVariants as found
use Rattle.smt_language.specs.declared.token.SmtLexeme.{SmtLexeme}
use Rattle.smt_language.specs.Lexing.{Lexes, front}

-- the number of bytes of what stands at the front
abbrev pub size : Front → ℕ
size (found.Space n) = n
size (found.Token token n) = n

-- what stands at the front of the bytes, of which there is one
abbrev pub IsFront : List ℕ → Front → Type 0
IsFront [] f = ⊥
IsFront (b ∷ bs) f = front b bs ≡ f

-- the bytes from this place on spell these tokens
abbrev pub LexesFrom : List ℕ → ℕ → List SmtLexeme → Type 0
LexesFrom script from = Lexes (drop from script) from
