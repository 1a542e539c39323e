-- What simplification asks of atoms whose names are numbers, as functions that compute.
use Rattle.std.specs.Prelude.{ℕ, Bool, List, [], ◌∷◌, map, ◌++◌, if◌then◌else◌}
use Rattle.logic_meaning.specs.declared.junction.Junction.{Junction}
use Rattle.logic_meaning.specs.declared.junction.Junction.TheVariants.{Conjunction, Disjunction}

module _ {A : Type 0} (contains : A → ℕ → Bool) where
  -- the atoms that do not contain the name
  abbrev pub without : ℕ → List A → List A
  without x [] = []
  without x (k ∷ ks) = if contains k x then without x ks else k ∷ without x ks

module _ {A : Type 0} (opposite : A → A) where
  -- What a member tells those beside it: in an and that it is true. An or needs a look at the others only where it is false.
  abbrev pub tells : Junction → A → A
  tells Conjunction a = a
  tells Disjunction a = opposite a

  -- the atoms known beside these members of a list
  abbrev pub beside : Junction → List A → List A → List A
  beside j us ks = map (tells j) us ++ ks
