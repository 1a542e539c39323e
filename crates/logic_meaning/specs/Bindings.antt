-- Names of formulas with what is bound to them.
use Rattle.std.specs.Prelude.{ℕ, List, Option}
use Rattle.std.specs.Map.{lookup}
use Rattle.indexmap.specs.IndexMap.{insert_entry}
use Rattle.logic_meaning.specs.SameName.{same_name}

-- at most so many names are bound
abbrev pub most_bound : ℕ
most_bound = 256

-- what is bound to the name
abbrev pub bound_to : {Id : Type 0} → List (List ℕ × Id) → List ℕ → Option Id
bound_to entries x = lookup (same_name x) entries

-- the entries with the name bound: in its place where it was bound already, else at the end
abbrev pub bind : {Id : Type 0} → List (List ℕ × Id) → List ℕ → Id → List (List ℕ × Id)
bind entries x id = insert_entry same_name entries x id
