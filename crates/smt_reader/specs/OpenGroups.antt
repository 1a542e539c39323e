-- What is open in the code.
use Rattle.std.specs.Prelude.{List, map, reverse}
use Rattle.std.specs.declared.alloc.Global.{Global}
use Rattle.std.specs.declared.vec.Vec.{Vec}
use Rattle.smt_reader.specs.declared.sexpr.SExpr.{SExpr}
use Rattle.smt_reader.specs.declared.grouping.OpenGroups.{OpenGroups}
use Rattle.smt_reader.specs.declared.grouping.Reached as code
use Rattle.smt_reader.specs.declared.grouping.Reached.TheVariants as reached
use Rattle.smt_language.specs.SExprs.{SExprTree}
use Rattle.smt_reader.specs.CodeTrees.{sexpr_tree, trees_of}
use Rattle.smt_reader.specs.Grouping.{Open, Reached, Goes, Ends}

-- the members of a group
abbrev pub group_of : Vec SExpr Global → List SExprTree
group_of v = map sexpr_tree v.items

-- what is open; the group that is directly around the inmost one stands last in the code
abbrev pub open_of : OpenGroups → Open
open_of o = record { inmost = group_of o.inmost; around = map group_of (reverse o.around.items) }

-- what a token leads to
abbrev pub reached_of : code.Reached → Reached
reached_of (reached.Goes o) = Goes (open_of o)
reached_of (reached.Ends v) = Ends (trees_of v.items)
