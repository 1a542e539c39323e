-- Which atoms of a conjunction say all that it says, under assumptions.
use Rattle.std.specs.Prelude.{◌≡◌, ℕ, Bool, true, false, List, [], ◌∷◌, length}
use Rattle.logic_meaning.specs.Context.{Context}
use Rattle.logic_meaning.specs.Point.{Point, Of}
use Rattle.logic_meaning.specs.Some.{EachOf}
use Rattle.logic_meaning.specs.Atom.{Atom, Says}
use Rattle.atom_pruning.specs.declared.pruning.Pruned.{Pruned}
use Rattle.atom_pruning.specs.declared.pruning.Pruned.TheVariants.{Impossible, Marked}

-- each atom is true at the point
abbrev pub AllSay : List Atom → Point ℕ → Type 0
AllSay us p = EachOf (λ a. Says a p) us

-- the elements that are marked, in their order
abbrev pub marked : {X : Type 0} → List Bool → List X → List X
marked [] xs = []
marked (b ∷ bs) [] = []
marked (true ∷ bs) (x ∷ xs) = x ∷ marked bs xs
marked (false ∷ bs) (x ∷ xs) = marked bs xs

-- at no point of the theory where the assumptions are true are all the atoms
abbrev pub AreImpossible : Context → List Atom → List Atom → Type 0
AreImpossible c ks us = (p : Point ℕ) → Of c p → AllSay ks p → ¬ (AllSay us p)

-- at each point of the theory where the assumptions are true, the atoms are true where the others are
abbrev pub Imply : Context → List Atom → List Atom → List Atom → Type 0
Imply c ks others us = (p : Point ℕ) → Of c p → AllSay ks p → AllSay others p → AllSay us p

-- a mark for each atom, and those that are marked imply the others
pub record AreEnough (c : Context) (ks us : List Atom) (marks : List Bool) : Type 0 where
  pub one_each : length marks ≡ length us
  pub enough : Imply c ks (marked marks us) us

-- what is kept of the atoms under the assumptions: nothing only where they are impossible
abbrev pub IsKept : Context → List Atom → List Atom → Pruned → Type 0
IsKept c ks us Impossible = AreImpossible c ks us
IsKept c ks us (Marked marks) = AreEnough c ks us marks.items
