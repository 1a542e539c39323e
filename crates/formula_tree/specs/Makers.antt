-- What is promised of the ids of formulas.
use Rattle.std.specs.Prelude.{◌≡◌, List, map}
use Rattle.std.specs.List.{AllByRecursion}
use Rattle.logic_meaning.specs.Tree.{Tree}

-- the id is one, and stands for the formula
pub record IsMade {Id : Type 0} (is_id : Id → Type 0) (tree : Id → Tree) (id : Id) (f : Tree) : Type 0 where
  pub is : is_id id
  pub same : tree id ≡ f

-- each id is one, and they stand for the formulas
pub record AreMade {Id : Type 0} (is_id : Id → Type 0) (tree : Id → Tree) (ids : List Id) (fs : List Tree) : Type 0 where
  pub are : AllByRecursion is_id ids
  pub same : map tree ids ≡ fs

-- each old id is one still, and stands for the formula that it stood for
pub record Keeps {Id : Type 0} (old : Id → Type 0) (tree : Id → Tree) (new : Id → Type 0) (tree2 : Id → Tree) : Type 0 where
  pub is : (id : Id) → old id → new id
  pub same : (id : Id) → old id → tree2 id ≡ tree id
