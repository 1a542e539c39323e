-- What two reads gave one after the other, and what two writes took.
use Rattle.std.proofs.Common.{arith, append-nil, refl, take-add, ◌≡◌, ◌∙◌, sym, ap, subst, ℕ, List, ◌++◌, Option, Some, None, [], ◌∷◌}
use Rattle.std.proofs.lemmas.List.{append_assoc, take-append-drop, take_all, length-drop}
use Rattle.std.specs.Prelude.{◌+◌, ◌-◌, length, take, drop}
use Rattle.program_meaning.specs.Streams.{Gave, IsAtEnd, Took}
use Rattle.program_meaning.specs.Ends.{TookFront}

pub gave_joined : (a b c : Option (List ℕ)) (xs ys : List ℕ) → Gave a b xs → Gave b c ys → Gave a c (xs ++ ys)
gave_joined None b c xs ys first next = subst (λ s. Gave s c ys) first next
gave_joined (Some left) b c xs ys first next =
    let later = subst (λ s. Gave s c ys) first.2 next in
    (later.0, first.1 ∙ ap (λ zs. xs ++ zs) later.1 ∙ sym (append_assoc xs ys later.0), later.2)

pub took_joined : (a b c : Option (List ℕ)) (xs ys : List ℕ) → Took a b xs → Took b c ys → Took a c (xs ++ ys)
took_joined None b c xs ys first next = subst (λ s. Took s c ys) first next
took_joined (Some wrote) b c xs ys first next = subst (λ s. Took s c ys) first next ∙ ap Some (append_assoc wrote xs ys)

-- a source at its end is so still where it gave no byte
pub still_at_end : (a b : Option (List ℕ)) (piece : List ℕ) → Gave a b piece → IsAtEnd a → length piece ≡ 0 → IsAtEnd b
still_at_end None b piece gave end none = subst IsAtEnd (sym gave) tt
still_at_end (Some left) b [] gave end none = subst IsAtEnd (sym gave.2) (sym gave.1 ∙ end)
still_at_end (Some left) b (x ∷ piece) gave end none = absurd (omega arith)

-- all bytes from a place on
pub rest_whole : (bytes : List ℕ) (written : ℕ) → take (length bytes - written) (drop written bytes) ≡ drop written bytes
rest_whole bytes written = take_all (length bytes - written) (drop written bytes) (search (arith, length-drop written bytes))

-- a write took more of the bytes in front
pub taken_more : (a b c : Option (List ℕ)) (bytes : List ℕ) (written count : ℕ) → Took a b (take written bytes)
    → Took b c (take count (take (length bytes - written) (drop written bytes))) → Took a c (take (written + count) bytes)
taken_more a b c bytes written count first next =
    let more = subst (λ rest. Took b c (take count rest)) (rest_whole bytes written) next in
    subst (Took a c) (sym (take-add written count bytes)) (took_joined a b c (take written bytes) (take count (drop written bytes)) first more)

pub front_taken : (a b : Option (List ℕ)) (bytes : List ℕ) (written : ℕ) → Took a b (take written bytes) → TookFront a b bytes
front_taken a b bytes written taken = (take written bytes, drop written bytes, sym (take-append-drop written bytes), taken)

-- a front of what comes after bytes that were taken
pub front_after : (a b c : Option (List ℕ)) (lines more : List ℕ) → Took a b lines → TookFront b c more → TookFront a c (lines ++ more)
front_after a b c lines more taken front =
    (lines ++ front.0, front.1, ap (λ xs. lines ++ xs) front.2 ∙ sym (append_assoc lines front.0 front.1), took_joined a b c lines front.0 taken front.3)

-- no byte was given, or taken
pub gave_none : (a : Option (List ℕ)) → Gave a a []
gave_none None = refl
gave_none (Some left) = (left, refl, refl)

pub took_none : (a : Option (List ℕ)) → Took a a []
took_none None = refl
took_none (Some wrote) = ap Some (sym (append-nil wrote))
