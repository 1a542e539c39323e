-- Reading a statement.
use Rattle.std.proofs.Common.{◌≡◌, ◌≢◌, ℕ, ◌≤◌, arith, List, [], map, length, sym, refl, ap, ◌∙◌, subst}
use Rattle.std.specs.Prelude.{Option, Some, None}
use Rattle.language_meaning.specs.Statements.{StatementTree}
use Rattle.redlog_tokens.specs.declared.token.Token.{Token}
use Rattle.language_meaning.specs.declared.token.TokenKind.{TokenKind}
use Rattle.language_meaning.specs.Terminals.{terminal_of}
use Rattle.redlog_tokens.specs.TerminalList.{terminals}
use Rattle.language_meaning.specs.Lexing.{IsLexical}
use Rattle.redlog_tokens.specs.Longest.{lexeme_of, AreTokens, LexicalWhere}
use Rattle.language_meaning.specs.Levels.{Passes}
use Rattle.language_meaning.specs.Grammar.{SpellsStatement}
use Rattle.redlog_reader.specs.Reading.{Refuses}
use Rattle.redlog_reader.specs.Reader.{statement_read}
use Rattle.language_meaning.specs.Statement.{AreKinds, Spells, IsDeep, SpellsNothing, Unread}
use Rattle.language_meaning.specs.declared.limit.TheConstants.{BYTE_LIMIT}
use Rattle.language_meaning.specs.declared.level.TheConstants.{LEVEL_LIMIT}
use Rattle.language_meaning.specs.declared.token.ReadError.{ReadError}
use Rattle.language_meaning.specs.declared.token.ReadError.TheVariants as cause
use Rattle.written_syntax.specs.StatementSyntaxWritable.{IsWritable}
use Rattle.redlog_reader.proofs.CompleteStatements.{statement_done}
use Rattle.redlog_reader.proofs.SoundStatements.{statement_sound}
use Rattle.redlog_reader.proofs.Proper.{proper_statement}
use Rattle.redlog_tokens.proofs.Lexed.{same_lexemes, no_bad, same_goods, goods_of, terminals_of}
use Rattle.redlog_tokens.proofs.ProperTokens.{tokens_proper, lexed_proper}

-- the kinds of the tokens are determined
same_kinds : {bytes : List ℕ} {js ks : List TokenKind} → AreKinds bytes js → AreKinds bytes ks → js ≡ ks
same_kinds {js = js} {ks = ks} h k = same_goods js ks (sym h.good ∙ ap (map (λ t. t.kind)) (same_lexemes h.lexes k.lexes) ∙ k.good)

one_tree : {o : Option StatementTree} {s t : StatementTree} → o ≡ Some s → o ≡ Some t → s ≡ t
one_tree e f = cc

-- no bytes spell two statements
pub spells_once : (bytes : List ℕ) (s t : StatementTree) → Spells bytes s → Spells bytes t → s ≡ t
spells_once bytes s t h k =
    let proper = lexed_proper h.kinds h.tokens.lexes h.tokens.good in
    one_tree (statement_done proper h.spelled) (statement_done proper (subst (λ ks. SpellsStatement (map terminal_of ks) t) (sym (same_kinds h.tokens k.tokens)) k.spelled))

some_or_none : {o : Option StatementTree} {s : StatementTree} → o ≡ None → o ≡ Some s → ⊥
some_or_none e f = cc

-- why tokens are not read
pub tokens_unread : (bytes : List ℕ) (e : ReadError) → length bytes ≤ BYTE_LIMIT → LexicalWhere e (IsLexical bytes) → Unread bytes e
tokens_unread bytes cause.Lexical short h = record { short = short; lexical = h }
tokens_unread bytes cause.Memory short h = tt
tokens_unread bytes cause.Long short h = absurd h
tokens_unread bytes cause.Nesting short h = absurd h
tokens_unread bytes cause.Syntax short h = absurd h

module _ (bytes : List ℕ) (ts : List Token) (are : AreTokens bytes ts) (short : length bytes ≤ BYTE_LIMIT) where
  kinds_are : AreKinds bytes (map (λ t. t.kind) ts)
  kinds_are = record { lexemes = map lexeme_of ts; short = short; lexes = are; good = goods_of ts }

  -- a token is too deep
  pub deep_unread : Passes LEVEL_LIMIT [] (terminals ts) → IsDeep bytes
  deep_unread deep = record { kinds = map (λ t. t.kind) ts; tokens = kinds_are; deep = subst (Passes LEVEL_LIMIT []) (terminals_of ts) deep }

  module _ (shallow : Passes LEVEL_LIMIT [] (terminals ts) → ⊥) where
    shallow_kinds : Passes LEVEL_LIMIT [] (map terminal_of (map (λ t. t.kind) ts)) → ⊥
    shallow_kinds p = shallow (subst (Passes LEVEL_LIMIT []) (sym (terminals_of ts)) p)

    nothing_spelled : statement_read (terminals ts) ≡ None → SpellsNothing bytes
    nothing_spelled none = record {
      kinds = map (λ t. t.kind) ts;
      tokens = kinds_are;
      shallow = shallow_kinds;
      none = λ s h. some_or_none none (statement_done (tokens_proper bytes ts are) (subst (λ us. SpellsStatement us s) (sym (terminals_of ts)) h));
    }

    -- the tokens spell no statement
    pub statement_unread : (e : ReadError) → Refuses e (statement_read (terminals ts) ≡ None) → Unread bytes e
    statement_unread cause.Syntax h = nothing_spelled h
    statement_unread cause.Memory h = tt
    statement_unread cause.Long h = absurd h
    statement_unread cause.Lexical h = absurd h
    statement_unread cause.Nesting h = absurd h

    -- the tokens spell this statement
    pub spells : (s : StatementTree) → statement_read (terminals ts) ≡ Some s → Spells bytes s
    spells s e = record {
      kinds = map (λ t. t.kind) ts;
      tokens = kinds_are;
      shallow = shallow_kinds;
      spelled = subst (λ us. SpellsStatement us s) (terminals_of ts) (statement_sound (terminals ts) s (tokens_proper bytes ts are) e);
    }

  pub read_proper : (s : StatementTree) → statement_read (terminals ts) ≡ Some s → IsWritable s
  read_proper s e = let good = tokens_proper bytes ts are in proper_statement (statement_sound (terminals ts) s good e) good

-- bytes that spell a statement are not refused
pub not_unread : (bytes : List ℕ) (t : StatementTree) (e : ReadError) → e ≢ cause.Memory → Spells bytes t → Unread bytes e → ⊥
not_unread bytes t cause.Long other s u = let short = s.tokens.short in omega arith
not_unread bytes t cause.Lexical other s u = no_bad u.lexical.lexemes s.kinds (ap (map (λ t. t.kind)) (same_lexemes u.lexical.lexes s.tokens.lexes) ∙ s.tokens.good) u.lexical.bad
not_unread bytes t cause.Nesting other s u = s.shallow (subst (λ ks. Passes LEVEL_LIMIT [] (map terminal_of ks)) (same_kinds u.tokens s.tokens) u.deep)
not_unread bytes t cause.Syntax other s u = u.none t (subst (λ ks. SpellsStatement (map terminal_of ks) t) (same_kinds s.tokens u.tokens) s.spelled)
not_unread bytes t cause.Memory other s u = other refl
