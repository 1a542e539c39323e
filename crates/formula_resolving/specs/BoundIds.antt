-- What is bound as ids, the ids of the answers of commands, and the trees that these ids stand for.
use Rattle.std.specs.Prelude.{ℕ, List, map}
use Rattle.std.specs.List.{AllByRecursion}
use Rattle.logic_meaning.specs.Tree.{Tree}
use Rattle.language_meaning.specs.Resolving.{BoundTrees}
use Rattle.language_meaning.specs.Answers.{with_inner}

-- what is bound are ids
abbrev pub AreIds : {Id : Type 0} → (Id → Type 0) → List (List ℕ × Id) → Type 0
AreIds is_id bound = AllByRecursion (λ e. is_id e.1) bound

-- the trees of what is bound
abbrev pub trees_bound : {Id : Type 0} → (Id → Tree) → List (List ℕ × Id) → BoundTrees
trees_bound tree bound = map (λ e. (e.0, tree e.1)) bound

-- the trees of the answers of the inner commands, in the order of the text, and of what is bound
abbrev pub answered_trees : {Id : Type 0} → (Id → Tree) → List Id → List (List ℕ × Id) → BoundTrees
answered_trees tree inner bound = with_inner (map tree inner) (trees_bound tree bound)
