-- Names in the order of their bytes: the order tells all names apart.
use Rattle.std.proofs.Common.{◌≡◌, ℕ, List, Bool, true, false, sym, ◌∙◌, refl}
use Rattle.std.specs.Ordering.{nat_cmp}
use Rattle.std.specs.Cmp.Lexicographic.{slice_cmp}
use Rattle.std.specs.BTreeMap.{is_at}
use Rattle.std.proofs.lemmas.Map.Text.{is_eq-slice_cmp}
use Rattle.std.proofs.lemmas.Slice.Eq.{bytes_eq-Decides}

-- a test that holds or not
pub by_at : {P : Type 0} (b : Bool) → (b ≡ true → P) → (b ≡ false → P) → P
by_at true f g = f refl
by_at false f g = g refl

pub at_same : (x y : List ℕ) → is_at (slice_cmp nat_cmp x) y ≡ true → x ≡ y
at_same x y h = (bytes_eq-Decides x y).0 (sym (is_eq-slice_cmp x y) ∙ h)

pub same_at : (x y : List ℕ) → x ≡ y → is_at (slice_cmp nat_cmp x) y ≡ true
same_at x y e = is_eq-slice_cmp x y ∙ (bytes_eq-Decides x y).1 e
