-- The value at a place depends on the set of the branch's atoms alone: not on their order, nor on how often they stand there.
use Rattle.std.specs.Prelude.{◌≡◌, ℕ, ◌↔◌, [], ◌∷◌}
use Rattle.logic_meaning.specs.Context.{Context}
use Rattle.logic_meaning.specs.Point.{Point}
use Rattle.logic_meaning.specs.Some.{Among}
use Rattle.logic_meaning.specs.Atom.{Atom}
use Rattle.logic_meaning.specs.Answer.{Place}
use Rattle.logic_meaning.specs.Tree.{Tree}
use Rattle.logic_meaning.specs.Atoms.{atoms_in}
use Rattle.logic_meaning.specs.PutIn.{tree_put, tree_put_within}
use Rattle.logic_meaning.specs.Calculated.{place_value}

-- With the point put in, the two branches have the same atoms, and both are within the limit or neither is.
pub record HaveSameAtoms (c : Context) (x : ℕ) (p : Point ℕ) (f g : Tree) : Type 0 where
  pub within : tree_put_within c p (x ∷ []) f ≡ tree_put_within c p (x ∷ []) g
  pub same : (a : Atom) → Among (atoms_in (tree_put c p (x ∷ []) f)) a ↔ Among (atoms_in (tree_put c p (x ∷ []) g)) a

-- Then the value at a place is the same.
abbrev pub ValueIsOfAtoms : Context → Type 0
ValueIsOfAtoms c = (x : ℕ) (s : Place) (f g : Tree) (p : Point ℕ) → HaveSameAtoms c x p f g → place_value c x s f p ≡ place_value c x s g p
