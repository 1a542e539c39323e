-- Texts with commas between them, written one after the other.
use Rattle.std.proofs.Common.{◌≡◌, ℕ, ◌+◌, ◌<◌, List, ◌∷◌, ◌++◌, length}
use Rattle.std.specs.Prelude.{codes}
use Rattle.redlog_printer.proofs.Written.{part_long}
use Rattle.logic_meaning.specs.AnswerTexts.{separated}

-- where the next text passes the limit, the whole does
pub next_long : (before part : List ℕ) (rest : List (List ℕ)) (old text now : List ℕ) (limit : ℕ) → now ++ separated before (part ∷ rest) ≡ old ++ text →
    limit < length now + length (before ++ part) → limit < length old + length text
next_long before part rest old text now limit h long = part_long old text now (before ++ part) (separated (codes ",") rest) h limit long
