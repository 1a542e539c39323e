use Rattle.std.proofs.Common.{◌≡◌, drop, map, true, false}
use Rattle.language_meaning.specs.Trees.{formulas_of}
use Rattle.written_syntax.specs.CodeTrees.{formula_tree}
use Rattle.written_syntax.specs.Proper.{AreProperFormulas}
use Rattle.logic_meaning.specs.Every.{EveryOf}
use Rattle.logic_meaning.specs.Shape.{AreQuantifierFree}
use Rattle.written_syntax.specs.Testable.{IsTestable}
use Rattle.written_syntax.specs.PointNumbers.{point_of}
use Rattle.written_syntax.specs.Rule.{calculated_all, calculated_some}
use Rattle.written_syntax.proofs.truth.+truth.Given as goal

-- the truth so far and the members that are left give what all members give
abbrev pub invariant-all_true-loop-formula : goal.invariant-all_true-loop-formula
invariant-all_true-loop-formula l = record {
  rule : calculated_all l.all (formulas_of (map formula_tree (drop l.formula-index l.formulas))) (point_of l.point)
      ≡ calculated_all true (formulas_of (map formula_tree l.formulas)) (point_of l.point);
  proper : AreProperFormulas (formulas_of (map formula_tree (drop l.formula-index l.formulas)));
  free : AreQuantifierFree (formulas_of (map formula_tree (drop l.formula-index l.formulas)));
  testable : EveryOf (IsTestable (point_of l.point)) (formulas_of (map formula_tree (drop l.formula-index l.formulas)));
}

abbrev pub invariant-some_true-loop-formula : goal.invariant-some_true-loop-formula
invariant-some_true-loop-formula l = record {
  rule : calculated_some l.some (formulas_of (map formula_tree (drop l.formula-index l.formulas))) (point_of l.point)
      ≡ calculated_some false (formulas_of (map formula_tree l.formulas)) (point_of l.point);
  proper : AreProperFormulas (formulas_of (map formula_tree (drop l.formula-index l.formulas)));
  free : AreQuantifierFree (formulas_of (map formula_tree (drop l.formula-index l.formulas)));
  testable : EveryOf (IsTestable (point_of l.point)) (formulas_of (map formula_tree (drop l.formula-index l.formulas)));
}
