-- Bytes of a script, outside of comments and in them.
use Rattle.std.specs.Prelude.{ℕ, ◌+◌, Bool, true, false, not, ◌||◌, List, [], ◌∷◌, ◌==◌, if◌then◌else◌}
use Rattle.language_meaning.specs.Lexing.{is_blank, is_in_line}
use Rattle.redlog_tokens.specs.declared.span.Passed.{Passed}
use Rattle.redlog_tokens.specs.declared.span.Passed.TheVariants.{Between, Inside}

-- whether a comment is open after a byte: % opens one, and a line feed ends it
abbrev pub commented : Bool → ℕ → Bool
commented true b = is_in_line b
commented false b = b == 37

-- ; and $, which end a piece outside of comments
abbrev pub is_mark : ℕ → Bool
is_mark b = (b == 59) || (b == 36)

-- The byte is passed over: each one of a comment; between tokens blanks and the beginning of a comment; inside a piece all but an end mark.
abbrev pub passes : Passed → Bool → ℕ → Bool
passes Between true b = true
passes Between false b = is_blank b || (b == 37)
passes Inside true b = true
passes Inside false b = not (is_mark b)

-- how many bytes at the front are passed over, where a comment is open before them or none is
abbrev pub span : Passed → Bool → List ℕ → ℕ
span p comment [] = 0
span p comment (b ∷ bs) = if passes p comment b then 1 + span p (commented comment b) bs else 0

-- whether a comment is open after the bytes
abbrev pub comment_after : Bool → List ℕ → Bool
comment_after comment [] = comment
comment_after comment (b ∷ bs) = comment_after (commented comment b) bs
