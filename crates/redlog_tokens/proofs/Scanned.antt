-- The tokens so far of bytes.
use Rattle.std.proofs.Common.{◌≡◌, ℕ, List, [], ◌∷◌, ◌++◌, map, drop, sym, refl, ap, ◌∙◌, subst, inl, inr}
use Rattle.std.specs.Prelude.{None}
use Rattle.language_meaning.specs.declared.lexer.Lexeme.{Lexeme}
use Rattle.redlog_tokens.specs.declared.token.Token.{Token}
use Rattle.language_meaning.specs.Lexing.{Lexes, LexesFrom, SomeBad, IsLexical}
use Rattle.redlog_tokens.specs.Longest.{lexeme_of, AreTokens}
use Rattle.redlog_tokens.proofs.Lexed.{lexed}

pushed : (done : List Token) (t : Token) (ts : List Lexeme) → map lexeme_of done ++ lexeme_of t ∷ ts ≡ map lexeme_of (done ++ t ∷ []) ++ ts
pushed [] t ts = refl
pushed (d ∷ done) t ts = ap (λ us. lexeme_of d ∷ us) (pushed done t ts)

-- tokens so far, and one more
pub tokens_more : (bytes : List ℕ) (from end : ℕ) (done more : List Token) (t : Token) → more ≡ done ++ t ∷ [] → t.end ≡ end
    → ((ts : List Lexeme) → LexesFrom bytes from ts → Lexes bytes 0 (map lexeme_of done ++ ts))
    → ((ts : List Lexeme) → LexesFrom bytes end ts → LexesFrom bytes from (lexeme_of t ∷ ts))
    → (ts : List Lexeme) → LexesFrom bytes end ts → Lexes bytes 0 (map lexeme_of more ++ ts)
tokens_more bytes from end done more t put ends before next ts l = subst (Lexes bytes 0) (pushed done t ts ∙ ap (λ us. map lexeme_of us ++ ts) (sym put)) (before _ (next ts l))

bad_after : (done : List Token) (t : Lexeme) (ts : List Lexeme) → t.kind ≡ None → SomeBad (map lexeme_of done ++ t ∷ ts)
bad_after [] t ts e = inl e
bad_after (d ∷ done) t ts e = inr (bad_after done t ts e)

-- a bad token comes
pub bad_comes : (bytes : List ℕ) (from end : ℕ) (done : List Token) (t : Lexeme) → t.kind ≡ None
    → ((ts : List Lexeme) → LexesFrom bytes from ts → Lexes bytes 0 (map lexeme_of done ++ ts))
    → ((ts : List Lexeme) → LexesFrom bytes end ts → LexesFrom bytes from (t ∷ ts)) → IsLexical bytes
bad_comes bytes from end done t bad before next =
    let rest = lexed (drop end bytes) end in
    record { lexemes = map lexeme_of done ++ t ∷ rest.0; lexes = before _ (next rest.0 rest.1); bad = bad_after done t rest.0 bad }

no_more : (ts : List Lexeme) → ts ++ [] ≡ ts
no_more [] = refl
no_more (t ∷ ts) = ap (λ us. t ∷ us) (no_more ts)

pub tokens_end : (bytes : List ℕ) (from : ℕ) (done : List Token)
    → ((ts : List Lexeme) → LexesFrom bytes from ts → Lexes bytes 0 (map lexeme_of done ++ ts)) → LexesFrom bytes from [] → AreTokens bytes done
tokens_end bytes from done before l = subst (Lexes bytes 0) (no_more (map lexeme_of done)) (before [] l)
