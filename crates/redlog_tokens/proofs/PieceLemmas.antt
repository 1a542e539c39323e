-- How the pieces of a script follow from its tokens.
use Rattle.std.proofs.Common.{◌≡◌, ℕ, ◌-◌, true, false, List, [], ◌∷◌, length, take, drop, sym, refl, ap, ◌∙◌, subst}
use Rattle.language_meaning.specs.declared.lexer.Lexeme.{Lexeme}
use Rattle.language_meaning.specs.Lexing.{LexesFrom}
use Rattle.language_meaning.specs.Pieces.{is_end, Cuts, last, marked, inside, HasNoTokenFrom, IsPiece}
use Rattle.redlog_tokens.specs.OnePiece.{EndsFrom, HasNoToken, IsOnlyPiece, HasMorePieces}
use Rattle.redlog_tokens.proofs.Lexed.{lexed, same_lexemes}

-- where no token stands the last piece ends at the end of the script
pub ends_last : (script : List ℕ) (at : ℕ) → HasNoTokenFrom script at → EndsFrom script at (length script)
ends_last script at none = record { tokens = []; rest = []; lexes = none; cut = last }

module _ (script : List ℕ) (from : ℕ) (t : Lexeme) (here : (ts : List Lexeme) → LexesFrom script t.end ts → LexesFrom script from (t ∷ ts)) where
  -- an end mark ends the piece
  pub piece_marked : is_end t.kind ≡ true → IsPiece script from t.start t.end
  piece_marked mark =
      let rest = lexed (drop t.end script) t.end in
      record { first = t; others = rest.0; rest = rest.0; tokens = here (rest.0) (rest.1); begins = refl; cut = marked mark }

  -- any other token goes on
  pub piece_later : (end : ℕ) → is_end t.kind ≡ false → EndsFrom script t.end end → IsPiece script from t.start end
  piece_later end mark later = record { first = t; others = later.tokens; rest = later.rest; tokens = here later.tokens later.lexes; begins = refl; cut = inside mark later.cut }

pub ends_from : (script : List ℕ) (from start end : ℕ) → IsPiece script from start end → EndsFrom script from end
ends_from script from start end piece = record { tokens = piece.first ∷ piece.others; rest = piece.rest; lexes = piece.tokens; cut = piece.cut }

one_end : {total end end' : ℕ} {ts us vs : List Lexeme} → Cuts total ts end us → Cuts total ts end' vs → end ≡ end'
one_end last last = refl
one_end (marked e) (marked f) = refl
one_end (marked e) (inside f q) = let both : true ≡ false = sym e ∙ f in cc
one_end (inside f q) (marked e) = let both : true ≡ false = sym e ∙ f in cc
one_end (inside e p) (inside f q) = one_end p q

head_is : {t u : Lexeme} {ts us : List Lexeme} → (t ∷ ts) ≡ (u ∷ us) → t ≡ u
head_is h = cc

-- one piece begins at the first token from a place on
pub one_start : {script : List ℕ} {from start start' end end' : ℕ} → IsPiece script from start end → IsPiece script from start' end' → start ≡ start'
one_start p q = sym p.begins ∙ ap (λ t. t.start) (head_is (same_lexemes p.tokens q.tokens)) ∙ q.begins

pub one_piece_end : {script : List ℕ} {from start start' end end' : ℕ} → IsPiece script from start end → IsPiece script from start' end' → end ≡ end'
one_piece_end {script} {end' = end'} p q = one_end p.cut (subst (λ ts. Cuts (length script) ts end' q.rest) (sym (same_lexemes p.tokens q.tokens)) q.cut)

pub no_piece : {script : List ℕ} {from start end : ℕ} → HasNoTokenFrom script from → IsPiece script from start end → ⊥
no_piece none p = let both = same_lexemes none p.tokens in cc

-- no script has two of these: no token, one piece alone, more pieces
pub none_or_only : {script piece : List ℕ} {offset : ℕ} → HasNoToken script → IsOnlyPiece script offset piece → ⊥
none_or_only none only = no_piece none only.first

pub none_or_more : {script : List ℕ} {offset : ℕ} → HasNoToken script → HasMorePieces script offset → ⊥
none_or_more none more = no_piece none more.first

pub only_or_more : {script piece : List ℕ} {offset offset' : ℕ} → IsOnlyPiece script offset piece → HasMorePieces script offset' → ⊥
only_or_more {script} only more = no_piece (subst (HasNoTokenFrom script) (one_piece_end only.first more.first) only.no_more) more.more

pub one_offset : {script piece piece' : List ℕ} {offset offset' : ℕ} → IsOnlyPiece script offset piece → IsOnlyPiece script offset' piece' → offset ≡ offset'
one_offset p q = one_start p.first q.first

pub one_piece : {script piece piece' : List ℕ} {offset offset' : ℕ} → IsOnlyPiece script offset piece → IsOnlyPiece script offset' piece' → piece ≡ piece'
one_piece {script} {offset = offset} p q =
    p.bytes ∙ ap (λ end. take (end - offset) (drop offset script)) (one_piece_end p.first q.first) ∙ ap (λ at. take (q.end - at) (drop at script)) (one_offset p q) ∙ sym q.bytes

pub one_offset_of_more : {script : List ℕ} {offset offset' : ℕ} → HasMorePieces script offset → HasMorePieces script offset' → offset ≡ offset'
one_offset_of_more p q = one_start p.first q.first

-- a first piece with no token after it
pub only_piece : {script : List ℕ} {start end : ℕ} → IsPiece script 0 start end → HasNoTokenFrom script end → IsOnlyPiece script start (take (end - start) (drop start script))
only_piece {end = end} p none = record { end = end; first = p; bytes = refl; no_more = none }

-- a first piece with another after it
pub more_pieces : {script : List ℕ} {start end next_start next_end : ℕ} → IsPiece script 0 start end → IsPiece script end next_start next_end → HasMorePieces script start
more_pieces {end = end} {next_start = s} {next_end = e} p q = record { end = end; first = p; next_start = s; next_end = e; more = q }
