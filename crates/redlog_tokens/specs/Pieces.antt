-- What a splitter holds of a script, and what it hands out.
use Rattle.std.specs.Prelude.{◌≡◌, ℕ, ◌+◌, ◌<◌, ◌≤◌, Bool, true, false, List, [], ◌++◌, length, drop, Option, Some, None}
use Rattle.std.specs.declared.alloc.Global.{Global}
use Rattle.std.specs.declared.vec.Vec.{Vec}
use Rattle.language_meaning.specs.Pieces.{IsPiece}
use Rattle.redlog_tokens.specs.declared.span.Passed.TheVariants.{Between, Inside}
use Rattle.redlog_tokens.specs.declared.splitter.Cut.{Cut}
use Rattle.redlog_tokens.specs.declared.splitter.TheConstants.{PIECE_LIMIT}
use Rattle.redlog_tokens.specs.Spans.{span, comment_after}

-- what is seen of a splitter
pub record Held : Type 0 where
  -- the bytes of the piece that has begun, where they are within the limit
  pub bytes : List ℕ
  -- how many bytes it was fed
  pub fed : ℕ
  -- the offset of the first token of that piece, or of the bytes to come where it has none
  pub start : ℕ
  -- a comment is open
  pub comment : Bool
  -- an end mark has ended the piece
  pub whole : Bool

-- the last of these bytes, and no other, is an end mark outside of comments, or none is
abbrev pub IsMarked : List ℕ → Bool → Type 0
IsMarked bytes true = span Inside false bytes + 1 ≡ length bytes
IsMarked bytes false = span Inside false bytes ≡ length bytes

-- what is held of a piece: all of it within the limit, and nothing past it
pub record IsKept (piece bytes : List ℕ) : Type 0 where
  pub within : length piece ≤ PIECE_LIMIT → bytes ≡ piece
  pub past : PIECE_LIMIT < length piece → bytes ≡ []

-- The splitter was fed these bytes, and the pieces of those up to a place were handed out.
pub record Follows (fed : List ℕ) (from : ℕ) (s : Held) : Type 0 where
  pub count : s.fed ≡ length fed
  pub within : from ≤ length fed
  pub comment : s.comment ≡ comment_after false (drop from fed)
  pub mark : IsMarked (drop from fed) s.whole
  pub start : s.start ≡ from + span Between false (drop from fed)
  pub kept : IsKept (drop s.start fed) s.bytes

-- the bytes of a piece are handed out where they are within the limit
abbrev pub HasBytes : List ℕ → Option (Vec ℕ Global) → Type 0
HasBytes piece None = PIECE_LIMIT < length piece
HasBytes piece (Some bytes) = (bytes.items ≡ piece) × (length piece ≤ PIECE_LIMIT)

-- The next piece begins at the offset of the cut and ends with these bytes, whatever comes after them.
pub record CutsOff (fed : List ℕ) (from : ℕ) (cut : Cut) : Type 0 where
  pub begins : cut.offset < length fed
  pub piece : (more : List ℕ) → IsPiece (fed ++ more) from cut.offset (length fed)
  pub bytes : HasBytes (drop cut.offset fed) cut.bytes

-- The last piece of these bytes begins at the offset of the cut.
pub record IsLast (fed : List ℕ) (from : ℕ) (cut : Cut) : Type 0 where
  pub begins : cut.offset < length fed
  pub piece : IsPiece fed from cut.offset (length fed)
  pub bytes : HasBytes (drop cut.offset fed) cut.bytes
