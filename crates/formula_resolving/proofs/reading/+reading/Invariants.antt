use Rattle.std.proofs.Common.{◌≡◌, ◌+◌, ◌*◌, map, take, length}
use Rattle.logic_meaning.specs.Sizes.{nodes, all_nodes}
use Rattle.language_meaning.specs.Trees.{FormulaTree, formulas_of}
use Rattle.written_syntax.specs.CodeTrees.{formula_tree, named_tree}
use Rattle.normal_atoms.specs.Atoms.{context_of}
use Rattle.formula_tree.specs.Makers.{Keeps}
use Rattle.formula_resolving.specs.BoundIds.{answered_trees}
use Rattle.formula_resolving.specs.Connectives.{Opens}
use Rattle.formula_resolving.specs.Parts.{IsPart, AreMembers}
use Rattle.formula_resolving.proofs.NamedTrees.{named_each, count_each}
use Rattle.formula_resolving.proofs.reading.+reading.Given as goal

-- the part is that of the formula after the quantifiers that are left
abbrev pub invariant-read_formula-prefix : goal.invariant-read_formula-prefix
invariant-read_formula-prefix g l = record {
  part : (f : FormulaTree) × Opens l.scope.names.now l.quantifiers.items (named_tree l.fn.taken l.formula) f
      × IsPart (context_of l.scope.context) (answered_trees (g.M.Maker.tree l.fn.maker) l.scope.inner.now l.scope.bound.now) l.scope.names.now (g.M.Maker.is_id l.maker) (g.M.Maker.tree l.maker) f l.part;
  kept : Keeps (g.M.Maker.is_id l.fn.maker) (g.M.Maker.tree l.fn.maker) (g.M.Maker.is_id l.maker) (g.M.Maker.tree l.maker);
}

abbrev pub decreases-read_formula-prefix : goal.decreases-read_formula-prefix
decreases-read_formula-prefix g l = length l.quantifiers.items

abbrev pub invariant-read_joint-loop-formula : goal.invariant-read_joint-loop-formula
invariant-read_joint-loop-formula g l = record {
  members : AreMembers (context_of l.scope.context) (answered_trees (g.M.Maker.tree l.initial.maker) l.scope.inner.now l.scope.bound.now) l.scope.names.now (g.M.Maker.is_id l.maker) (g.M.Maker.tree l.maker) (named_each l.initial.taken (take l.formula-index l.formulas)) l.members;
  taken : l.taken ≡ l.initial.taken + count_each (take l.formula-index l.formulas);
  kept : Keeps (g.M.Maker.is_id l.initial.maker) (g.M.Maker.tree l.initial.maker) (g.M.Maker.is_id l.maker) (g.M.Maker.tree l.maker);
}

-- the nodes of the formula, with the order of the functions at one number
abbrev pub decreases-read_formula : goal.decreases-read_formula
decreases-read_formula g l = 3 * nodes (formula_tree l.formula.now) + 1

abbrev pub decreases-read_matrix : goal.decreases-read_matrix
decreases-read_matrix g l = 3 * nodes (formula_tree l.formula.now)

abbrev pub decreases-read_pair : goal.decreases-read_pair
decreases-read_pair g l = 3 * (nodes (formula_tree l.left.now) + nodes (formula_tree l.right.now)) + 2

abbrev pub decreases-read_joint : goal.decreases-read_joint
decreases-read_joint g l = 3 * all_nodes (formulas_of (map formula_tree l.formulas.now)) + 2
