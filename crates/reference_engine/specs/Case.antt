-- The program's cases.
use Rattle.std.specs.Prelude.{List, [], ◌∷◌, All, map}
use Rattle.logic_meaning.specs.Cases.{Case}
use Rattle.formula_tree.specs.Trees.{tree_of}
use Rattle.nnf_trees.specs.Nnfs.{nnf_of}
use Rattle.test_points.specs.Points.{answer_of, IsTestPoint}
use Rattle.reference_engine.specs.declared.branch.Leaf.{Leaf}
use Rattle.reference_engine.specs.declared.cases.PrintedCase.{PrintedCase}

-- the case
abbrev pub case_seen : PrintedCase → Case
case_seen k = record { guard = tree_of k.guard; answers = map answer_of k.answers.items }

-- the case of a leaf: its formula is the guard
abbrev pub leaf_case : Leaf → Case
leaf_case l = record { guard = nnf_of l.formula; answers = map answer_of l.points.items }

-- each answer is a well-formed test point
abbrev pub HavePoints : List PrintedCase → Type 0
HavePoints [] = Unit {0}
HavePoints (k ∷ ks) = All IsTestPoint k.answers.items × HavePoints ks
