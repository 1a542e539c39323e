-- The tree of an S-expression, at each way to make one.
use Rattle.std.proofs.Common.{◌≡◌, sym, ap, ◌∙◌}
use Rattle.std.specs.Prelude.{map}
use Rattle.std.specs.declared.alloc.Global.{Global}
use Rattle.std.specs.declared.vec.Vec.{Vec}
use Rattle.smt_language.specs.declared.sexpr.Leaf.{Leaf}
use Rattle.smt_reader.specs.declared.sexpr.SExpr as code
use Rattle.smt_reader.specs.declared.sexpr.SExpr.TheVariants as sexpr
use Rattle.smt_reader.specs.declared.sexpr.SExpr.TheOpen as layer
use Rattle.smt_reader.specs.declared.sexpr.SExprs as codes
use Rattle.smt_language.specs.SExprs.{One, Group}
use Rattle.smt_language.specs.SExprLists.{sexprs_of}
use Rattle.smt_reader.specs.CodeTrees.{sexpr_step, sexprs_step, sexpr_tree, sexpr_trees}

pub tree-Leaf : (l : Leaf) → sexpr_tree (sexpr.Leaf l) ≡ One l
unfolding sexpr_tree
tree-Leaf l = ap sexpr_tree (sym (sexpr.rolls-Leaf l)) ∙ code.fold-roll-SExpr _ _ sexpr_step sexprs_step (layer.Leaf l)

pub tree-Group : (ss : codes.SExprs) → sexpr_tree (sexpr.Group ss) ≡ Group (sexpr_trees ss)
unfolding sexpr_tree sexpr_trees
tree-Group ss = ap sexpr_tree (sym (sexpr.rolls-Group ss)) ∙ code.fold-roll-SExpr _ _ sexpr_step sexprs_step (layer.Group ss)

pub trees-list : (v : Vec code.SExpr Global) → sexpr_trees (codes.roll-SExprs (record { list = v })) ≡ sexprs_of (map sexpr_tree v.items)
unfolding sexpr_tree sexpr_trees
trees-list v = codes.fold-roll-SExprs _ _ sexpr_step sexprs_step (record { list = v })

pub trees-out : (ss : codes.SExprs) → sexpr_trees ss ≡ sexprs_of (map sexpr_tree (codes.out-SExprs ss).list.items)
unfolding sexpr_tree sexpr_trees
trees-out ss = codes.fold_out-SExprs _ _ sexpr_step sexprs_step ss

-- the equations that make the trees of S-expressions compute
pub ruleset trees = (tree-Leaf, tree-Group, trees-list, trees-out)
