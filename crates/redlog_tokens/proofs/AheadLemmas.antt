-- The tokens so far of bytes, as the grammar names them.
use Rattle.std.proofs.Common.{◌≡◌, ℕ, ◌+◌, ◌-◌, ◌≤◌, List, [], ◌∷◌, ◌++◌, length, map, take, drop, sym, refl, ap, ◌∙◌, subst, arith, length-drop}
use Rattle.std.proofs.lemmas.List.{map-append}
use Rattle.std.specs.Prelude.{Option, Some, None}
use Rattle.redlog_tokens.specs.declared.ahead.Ahead.{Ahead}
use Rattle.redlog_tokens.specs.declared.ahead.Ahead.TheVariants as ahead
use Rattle.language_meaning.specs.declared.lexer.Front.{Front}
use Rattle.language_meaning.specs.declared.lexer.Front.TheVariants as found
use Rattle.language_meaning.specs.declared.lexer.Lexeme.{Lexeme}
use Rattle.language_meaning.specs.declared.terminal.Terminal.{Terminal}
use Rattle.redlog_tokens.specs.declared.token.Token.{Token}
use Rattle.language_meaning.specs.declared.token.TokenKind.{TokenKind}
use Rattle.redlog_tokens.specs.Ahead.{named, seen, size_ahead, IsAhead, AreTerminals}
use Rattle.language_meaning.specs.Lexing.{front, Lexes, LexesFrom, IsLexical}
use Rattle.redlog_tokens.specs.Longest.{IsFront, lexeme_of}
use Rattle.language_meaning.specs.Terminals.{terminal_of}
use Rattle.redlog_tokens.specs.TerminalList.{terminals}
use Rattle.redlog_tokens.proofs.Lexemes.{past_space, past_token, to_end, at_end}
use Rattle.redlog_tokens.proofs.Scanned.{tokens_more, bad_comes, tokens_end}

-- these terminals are those of the tokens up to a place
pub record HaveCome (bytes : List ℕ) (from : ℕ) (list : List Terminal) : Type 0 where
  pub tokens : List Token
  pub are : terminals tokens ≡ list
  pub reached : (ts : List Lexeme) → LexesFrom bytes from ts → Lexes bytes 0 (map lexeme_of tokens ++ ts)

pub none_come : (bytes : List ℕ) → HaveCome bytes 0 []
unfolding terminals
none_come bytes = record { tokens = []; are = refl; reached = λ ts l. l }

-- a blank or a comment that is seen is one, and so is a token
space_seen : (f : Front) (n : ℕ) → seen f ≡ ahead.Space n → f ≡ found.Space n
space_seen (found.Space m) n e = let same : m ≡ n = cc in ap found.Space same
space_seen (found.Token kind m) n e = absurd (let no : ⊥ = cc in no)

kind_seen : (kind : Option TokenKind) (t : Terminal) → named kind ≡ Some t → (k : TokenKind) × (kind ≡ Some k) × (terminal_of k ≡ t)
kind_seen None t e = absurd (let no : ⊥ = cc in no)
kind_seen (Some k) t e = (k, refl, let same : terminal_of k ≡ t = cc in same)

no_kind_seen : (kind : Option TokenKind) → named kind ≡ None → kind ≡ None
no_kind_seen None e = refl
no_kind_seen (Some k) e = absurd (let no : ⊥ = cc in no)

token_seen : (f : Front) (o : Option Terminal) (n : ℕ) → seen f ≡ ahead.Terminal o n → (kind : Option TokenKind) × (f ≡ found.Token kind n) × (named kind ≡ o)
token_seen (found.Space m) o n e = absurd (let no : ⊥ = cc in no)
token_seen (found.Token kind m) o n e = (kind, (let same : m ≡ n = cc in ap (found.Token kind) same), (let same : named kind ≡ o = cc in same))

space_ahead : (rest : List ℕ) (n : ℕ) → IsAhead rest (ahead.Space n) → IsFront rest (found.Space n)
space_ahead [] n h = h
space_ahead (b ∷ bs) n h = space_seen (front b bs) n h

token_ahead : (rest : List ℕ) (o : Option Terminal) (n : ℕ) → IsAhead rest (ahead.Terminal o n) → (kind : Option TokenKind) × IsFront rest (found.Token kind n) × (named kind ≡ o)
token_ahead [] o n h = absurd h
token_ahead (b ∷ bs) o n h = token_seen (front b bs) o n h

module _ (bytes : List ℕ) (from n : ℕ) (list : List Terminal) (a : Ahead) (is : IsAhead (take (length bytes - from) (drop from bytes)) a) (come : HaveCome bytes from list) where
  here : {b : Ahead} → a ≡ b → IsAhead (drop from bytes) b
  here same = subst (IsAhead (drop from bytes)) same (subst (λ rest. IsAhead rest a) (to_end bytes from) is)

  -- past a blank or a comment
  pub space_comes : a ≡ ahead.Space n → HaveCome bytes (from + n) list
  space_comes same = record { tokens = come.tokens; are = come.are; reached = λ ts l. come.reached ts (past_space bytes from n ts (space_ahead (drop from bytes) n (here same)) l) }

  next : {o : Option Terminal} → a ≡ ahead.Terminal o n → (kind : Option TokenKind) × IsFront (drop from bytes) (found.Token kind n) × (named kind ≡ o)
  next {o} same = token_ahead (drop from bytes) o n (here same)

  -- one token more
  pub token_comes : {t : Terminal} {more : List Terminal} → a ≡ ahead.Terminal (Some t) n → more ≡ list ++ t ∷ [] → HaveCome bytes (from + n) more
  unfolding terminals
  token_comes {t} {more} same put =
      let at = next same in
      let known = kind_seen at.0 t at.2 in
      let token : Token = record { kind = known.0; start = from; end = from + n } in
      record {
        tokens = come.tokens ++ token ∷ [];
        are = map-append (λ (x : Token). terminal_of x.kind) come.tokens (token ∷ []) ∙ (λ i. come.are i ++ known.2 i ∷ []) ∙ sym put;
        reached = tokens_more bytes from (from + n) come.tokens (come.tokens ++ token ∷ []) token refl refl come.reached
            (λ ts l. past_token bytes from n (Some known.0) ts (subst (λ k. IsFront (drop from bytes) (found.Token k n)) known.1 at.1) l);
      }

  -- a bad one
  pub bad_token_comes : a ≡ ahead.Terminal None n → IsLexical bytes
  bad_token_comes same =
      let at = next same in
      bad_comes bytes from (from + n) come.tokens (record { kind = at.0; start = from; end = from + n }) (no_kind_seen at.0 at.2) come.reached (λ ts l. past_token bytes from n at.0 ts at.1 l)

-- what stands at the front is within the bytes
pub come_within : (bytes : List ℕ) (from n : ℕ) (a : Ahead) → from ≤ length bytes → size_ahead a ≤ length (take (length bytes - from) (drop from bytes)) → size_ahead a ≡ n → from + n ≤ length bytes
come_within bytes from n a inside within size = omega (arith, inside, within, size, ap length (to_end bytes from), length-drop from bytes)

-- no more come
pub all_come : (bytes : List ℕ) (from : ℕ) (list : List Terminal) → HaveCome bytes from list → take (length bytes - from) (drop from bytes) ≡ [] → AreTerminals bytes list
all_come bytes from list come e = record { tokens = come.tokens; spelled = tokens_end bytes from come.tokens come.reached (at_end bytes from e); are = come.are }
