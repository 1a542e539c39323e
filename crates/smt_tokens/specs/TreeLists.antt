-- The members of a list as those of an operator, and as the names of a let.
use Rattle.std.specs.Prelude.{List, [], ◌∷◌}
use Rattle.smt_language.specs.Trees.{ExpressionTree, ExpressionTrees, LocalTree, LocalTrees, none, also, no_local, also_local}

-- the members of a list, as the members that an operator takes
abbrev pub expressions_of : List ExpressionTree → ExpressionTrees
expressions_of [] = none
expressions_of (e ∷ es) = also e (expressions_of es)

-- the members of a list, as the names of a let
abbrev pub locals_of : List LocalTree → LocalTrees
locals_of [] = no_local
locals_of (l ∷ ls) = also_local l.name l.value (locals_of ls)
