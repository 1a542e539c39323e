-- Marks of names.
use Rattle.std.specs.Prelude.{◌≡◌, ◌⊎◌, ◌↔◌, ℕ, ◌<◌, Bool, true, false, List, length}
use Rattle.prenex_forms.specs.Chosen.{flag}

-- Each name that has a mark is marked now exactly where it was before, or has the property and is not hidden.
pub record Marks (hidden old : List Bool) (P : ℕ → Type 0) (new : List Bool) : Type 0 where
  pub same : length new ≡ length old
  pub each : (x : ℕ) → x < length old → (flag new x ≡ true) ↔ ((flag old x ≡ true) ⊎ (P x × (flag hidden x ≡ false)))
