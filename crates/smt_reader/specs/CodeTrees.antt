-- The trees that the code's S-expressions stand for.
use Rattle.std.specs.Prelude.{List, map}
use Rattle.smt_reader.specs.declared.sexpr.SExpr as code
use Rattle.smt_reader.specs.declared.sexpr.SExpr.TheOpen as layer
use Rattle.smt_reader.specs.declared.sexpr.SExprs as codes
use Rattle.smt_language.specs.SExprs.{SExprTree, SExprTrees, One, Group}
use Rattle.smt_language.specs.SExprLists.{sexprs_of}

-- one layer of an S-expression, with the trees of its parts in their places
abbrev pub sexpr_step : layer.SExpr-F SExprTree SExprTrees → SExprTree
sexpr_step (layer.Leaf l) = One l
sexpr_step (layer.Group ss) = Group ss

-- the trees of a list whose members have theirs in their places
abbrev pub sexprs_step : layer.SExprs-F SExprTree SExprTrees → SExprTrees
sexprs_step ss = sexprs_of ss.list.items

-- the tree of an S-expression
unfoldable pub sexpr_tree : code.SExpr → SExprTree
sexpr_tree = code.fold-SExpr SExprTree SExprTrees sexpr_step sexprs_step

-- the trees of a list of S-expressions
unfoldable pub sexpr_trees : codes.SExprs → SExprTrees
sexpr_trees = codes.fold-SExprs SExprTree SExprTrees sexpr_step sexprs_step

-- the trees of these S-expressions
abbrev pub trees_of : List code.SExpr → SExprTrees
trees_of ss = sexprs_of (map sexpr_tree ss)
