-- The bindings of quantifiers and of let.
use Rattle.std.specs.Prelude.{ℕ, Bool, true, false, not, ◌&&◌, ◌||◌, List, Option, Some, None, bytes_eq, if◌then◌else◌}
use Rattle.std.specs.Option.{option_map, option_and_then}
use Rattle.smt_language.specs.declared.names.SortedName.{SortedName}
use Rattle.smt_language.specs.SExprs.{SExprTree, SExprTrees, none, also}
use Rattle.smt_language.specs.SpelledShapes.{symbol_at, name_at, group_at, two_of, each_of}

-- a binding: what is bound, and to what
abbrev pub binding_at : SExprTree → Option (SExprTree × SExprTree)
binding_at s = option_and_then two_of (group_at s)

-- the name that a binding binds: (x v)
abbrev pub bound_name : SExprTree → Option (List ℕ)
bound_name s = option_and_then (λ b. name_at b.0) (binding_at s)

-- this is the name
abbrev pub is_name : List ℕ → Option (List ℕ) → Bool
is_name x None = false
is_name x (Some y) = bytes_eq x y

-- one of the bindings binds the name
abbrev pub binds : List ℕ → SExprTrees → Bool
binds x none = false
binds x (also b bs) = is_name x (bound_name b) || binds x bs

-- there is a name, and none of the bindings binds that too
abbrev pub is_apart : Option (List ℕ) → SExprTrees → Bool
is_apart None bs = false
is_apart (Some x) bs = not (binds x bs)

-- each binds a name, and no two bind the same one
abbrev pub bind_apart : SExprTrees → Bool
bind_apart none = true
bind_apart (also b bs) = is_apart (bound_name b) bs && bind_apart bs

-- there is one at least, each binds a name, and no two bind the same one
abbrev pub are_bindings : SExprTrees → Bool
are_bindings none = false
are_bindings (also b bs) = bind_apart (also b bs)

-- a name with the name of its sort
abbrev pub sorted : SExprTree × SExprTree → Option SortedName
sorted pair = option_and_then (λ x. option_map (λ s. record { name = x; sort = s }) (symbol_at pair.1)) (name_at pair.0)

-- what a binding of a quantifier says: (x s)
abbrev pub sorted_name : SExprTree → Option SortedName
sorted_name b = option_and_then sorted (binding_at b)

-- the names that a quantifier binds, each with its sort
abbrev pub scope_of : SExprTrees → Option (List SortedName)
scope_of bs = if are_bindings bs then each_of sorted_name bs else None
