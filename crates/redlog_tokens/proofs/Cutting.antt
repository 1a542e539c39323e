-- Each script is cut.
use Rattle.std.proofs.Common.{◌≡◌, ℕ, Bool, true, false, List, [], ◌∷◌, length, drop, refl, inl, inr}
use Rattle.std.specs.Prelude.{◌⊎◌}
use Rattle.language_meaning.specs.declared.lexer.Lexeme.{Lexeme}
use Rattle.language_meaning.specs.Lexing.{LexesFrom}
use Rattle.language_meaning.specs.Pieces.{HasNoTokenFrom, IsPiece, Cuts, is_end, last, marked, inside}
use Rattle.redlog_tokens.proofs.Lexed.{lexed}
use Rattle.redlog_tokens.proofs.PieceLemmas.{one_start, one_piece_end, no_piece}

cut_at : (total : ℕ) (t : Lexeme) (ts : List Lexeme) (b : Bool) → is_end t.kind ≡ b → (e : ℕ) × (r : List Lexeme) × Cuts total ts e r → (e : ℕ) × (r : List Lexeme) × Cuts total (t ∷ ts) e r
cut_at total t ts true h later = (t.end, ts, marked h)
cut_at total t ts false h later = (later.0, later.1, inside h later.2)

cut_of : (total : ℕ) (ts : List Lexeme) → (e : ℕ) × (r : List Lexeme) × Cuts total ts e r
cut_of total [] = (total, [], last)
cut_of total (t ∷ ts) = cut_at total t ts (is_end t.kind) refl (cut_of total ts)

piece_of : (script : List ℕ) (from : ℕ) (ts : List Lexeme) → LexesFrom script from ts → HasNoTokenFrom script from ⊎ ((a : ℕ) × (b : ℕ) × IsPiece script from a b)
piece_of script from [] l = inl l
piece_of script from (t ∷ ts) l =
    let cut = cut_of (length script) (t ∷ ts) in
    inr (t.start, cut.0, record { first = t; others = ts; rest = cut.1; tokens = l; begins = refl; cut = cut.2 })

-- a script has no token from a place on, or a piece
pub piece_or_none : (script : List ℕ) (from : ℕ) → HasNoTokenFrom script from ⊎ ((a : ℕ) × (b : ℕ) × IsPiece script from a b)
piece_or_none script from = let all = lexed (drop from script) from in piece_of script from all.0 all.1

pub none_or_piece : (script : List ℕ) (from a b : ℕ) → HasNoTokenFrom script from → IsPiece script from a b → ⊥
none_or_piece script from a b none p = no_piece none p

-- the next piece is determined
pub same_piece : (script : List ℕ) (from a b c d : ℕ) → IsPiece script from a b → IsPiece script from c d → (a ≡ c) × (b ≡ d)
same_piece script from a b c d p q = (one_start p q, one_piece_end p q)
