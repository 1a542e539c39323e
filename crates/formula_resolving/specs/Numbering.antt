-- Variables that get their numbers one after another.
use Rattle.std.specs.Prelude.{◌≡◌, ◌≤◌, ℕ, List, ◌++◌, length, Bool, is_some}
use Rattle.std.specs.List.{AllByRecursion, fold, list_any}
use Rattle.logic_meaning.specs.Bindings.{bound_to}
use Rattle.logic_meaning.specs.Names.{with_name}

-- the new names are the old ones with more at the end
pub record Grows (old new : List (List ℕ)) : Type 0 where
  pub more : List (List ℕ)
  pub is : new ≡ old ++ more

-- names as scripts write them, of at most 64 bytes
abbrev pub AreShort : List (List ℕ) → Type 0
AreShort xs = AllByRecursion (λ x. length x ≤ 64) xs

-- something is bound to one of these
abbrev pub some_bound : {Id : Type 0} → List (List ℕ × Id) → List (List ℕ) → Bool
some_bound bound xs = list_any (λ x. is_some (bound_to bound x)) xs

-- the variables are short and have numbers, and it is told whether something is bound to one of them
pub record IsNumbered {Id : Type 0} (bound : List (List ℕ × Id)) (xs old new : List (List ℕ)) (some : Bool) : Type 0 where
  pub names : new ≡ fold with_name old xs
  pub met : some ≡ some_bound bound xs
  pub short : AreShort xs
