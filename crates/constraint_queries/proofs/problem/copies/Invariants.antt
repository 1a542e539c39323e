use Rattle.std.proofs.Common.{◌≡◌, ◌++◌, true, drop, map}
use Rattle.std.specs.List.{AllByRecursion, fold}
use Rattle.language_meaning.specs.Trees.{formulas_of}
use Rattle.language_meaning.specs.Holes.{alone}
use Rattle.written_syntax.specs.CodeTrees.{formula_tree, inner_of}
use Rattle.language_meaning.specs.Constraints.{is_weak_constraint}
use Rattle.logic_meaning.specs.Names.{with_name}
use Rattle.language_meaning.specs.Resolving.{all_variables}
use Rattle.constraint_queries.proofs.problem.copies.Given as goal

-- the copies so far, inside which no command stands, and the formulas that are left, and the names with those of the formulas that are left
abbrev pub invariant-loop-formula : goal.invariant-loop-formula
invariant-loop-formula l = record {
  same : map formula_tree l.copies.items ++ map formula_tree (drop l.formula-index l.written) ≡ map formula_tree l.written;
  numbered : fold with_name l.names (all_variables (formulas_of (map formula_tree (drop l.formula-index l.written)))) ≡ fold with_name l.fn.names (all_variables (formulas_of (map formula_tree l.written)));
  plain : AllByRecursion (λ f. inner_of f ≡ alone) l.copies.items;
  weak : AllByRecursion (λ f. is_weak_constraint (formula_tree f) ≡ true) (drop l.formula-index l.written);
}
