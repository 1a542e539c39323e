-- Texts with spaces between them, written one after the other.
use Rattle.std.proofs.Common.{◌≡◌, ℕ, ◌+◌, ◌<◌, List, [], ◌∷◌, ◌++◌, length, ap, sym, ◌∙◌, refl, append_assoc, append-nil}
use Rattle.std.specs.Prelude.{codes}
use Rattle.redlog_printer.proofs.Written.{part_long}
use Rattle.program_meaning.specs.Texts.{spaced}

-- each text with a space before it, and the first with something else
abbrev pub following : List ℕ → List (List ℕ) → List ℕ
following before [] = []
following before (t ∷ ts) = before ++ t ++ following (codes " ") ts

-- nothing before the first is no more than spaces between the texts
pub spaced_is : (ts : List (List ℕ)) → following [] ts ≡ spaced ts
spaced_is [] = refl
spaced_is (t ∷ []) = append-nil t
spaced_is (t ∷ u ∷ ts) = ap (λ r. t ++ (codes " " ++ r)) (spaced_is (u ∷ ts)) ∙ sym (append_assoc t (codes " ") (spaced (u ∷ ts)))

-- where the next text passes the limit, the whole does
pub next_long : (before part : List ℕ) (rest : List (List ℕ)) (old text now : List ℕ) (limit : ℕ) → now ++ following before (part ∷ rest) ≡ old ++ text →
    limit < length now + length (before ++ part) → limit < length old + length text
next_long before part rest old text now limit h long = part_long old text now (before ++ part) (following (codes " ") rest) h limit long
