-- The texts of new names.
use Rattle.std.specs.Prelude.{◌≡◌, ℕ, zero, suc, ◌<◌, List, [], ◌∷◌, ◌++◌, codes}
use Rattle.std.specs.Fmt.{decimal}
use Rattle.logic_meaning.specs.Some.{Among}

-- v1, v2, ..
abbrev pub new_text : ℕ → List ℕ
new_text index = codes "v" ++ decimal index

-- the text is the first of v1, v2, .. that does not stand among the names
pub record IsFirstNew (names : List (List ℕ)) (text : List ℕ) : Type 0 where
  pub index : ℕ
  pub positive : 0 < index
  pub is : text ≡ new_text index
  pub unused : ¬ (Among names text)
  pub first : (earlier : ℕ) → 0 < earlier → earlier < index → Among names (new_text earlier)

-- the names with so many new ones at the end, each the first that does not stand among those before it
abbrev pub AddsNewNames : List (List ℕ) → ℕ → List (List ℕ) → Type 0
AddsNewNames old zero new = new ≡ old
AddsNewNames old (suc n) new = (text : List ℕ) × IsFirstNew old text × AddsNewNames (old ++ text ∷ []) n new
