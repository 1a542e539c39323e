-- What a source gives from the front of its bytes.
use Rattle.std.proofs.Common.{◌≡◌, ℕ, ◌+◌, List, ◌++◌, take, drop, sym, ◌∙◌, ap, refl}
use Rattle.std.specs.Prelude.{Some}
use Rattle.std.proofs.lemmas.List.{drop-drop, take-append-drop}
use Rattle.program_meaning.specs.Streams.{Gave}

-- the first n bytes of those from next on, and what is left after them
pub gave_front : (bytes : List ℕ) (next n : ℕ) (left given : List ℕ) → drop next bytes ≡ left → given ≡ take n (drop next bytes)
    → Gave (Some left) (Some (drop (next + n) bytes)) given
gave_front bytes next n left given is taken = (
  drop (next + n) bytes,
  sym is ∙ sym (take-append-drop n (drop next bytes)) ∙ ap (λ front. front ++ drop n (drop next bytes)) (sym taken)
      ∙ ap (λ rest. given ++ rest) (drop-drop n next bytes),
  refl,
)
