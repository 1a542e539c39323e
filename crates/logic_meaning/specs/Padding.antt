-- A text of at most 64 bytes, kept in 64 bytes that are 0 past its end.
use Rattle.std.proofs.Common.{◌≡◌, ℕ, ◌-◌, ◌≤◌, List, ◌++◌, length, take, sym, ap, ◌∙◌, arith}
use Rattle.std.specs.Prelude.{replicate}
use Rattle.std.proofs.lemmas.Grind.{common_steps}
use Rattle.logic_meaning.specs.declared.name.Name.TheInside.{Inside}

pub length-text : (n : ℕ) (bytes : List ℕ) → n ≤ 64 → length bytes ≡ 64 → length (take n bytes) ≡ n
length-text n bytes small all = grind (arith, common_steps)

fields_back : (a : Inside) (bytes : List ℕ) (used : ℕ) → bytes ≡ a.bytes → used ≡ a.used
    → (let kept : Inside = record { bytes = bytes; used = used } in kept) ≡ a
fields_back a bytes used e f =
    let kept : List ℕ → ℕ → Inside = λ b n. record { bytes = b; used = n } in
    ap (λ b. kept b used) e ∙ ap (kept a.bytes) f

-- the text determines the 64 bytes
pub name_of_text : (a : Inside) → a.used ≤ 64 → length a.bytes ≡ 64 → a.bytes ≡ take a.used a.bytes ++ replicate (64 - a.used) 0
    → (let kept : Inside = record { bytes = take a.used a.bytes ++ replicate (64 - length (take a.used a.bytes)) 0; used = length (take a.used a.bytes) } in kept) ≡ a
name_of_text a small all padded =
    fields_back a _ _ (rw (length-text a.used a.bytes small all) (sym padded)) (length-text a.used a.bytes small all)
