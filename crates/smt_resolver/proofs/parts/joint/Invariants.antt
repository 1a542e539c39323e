use Rattle.std.proofs.Common.{List, drop, ◌≤◌}
use Rattle.logic_meaning.specs.Context.{Context}
use Rattle.language_meaning.specs.Trees.{FormulaTree}
use Rattle.smt_resolver.specs.Values.{AreFormulaValues, HaveIds}
use Rattle.smt_resolver.proofs.PartLists.{GatherState}
use Rattle.smt_resolver.proofs.parts.joint.Given as goal

abbrev pub invariant-loop-value : goal.invariant-loop-value
invariant-loop-value g l = record {
  state : (c : Context) (fs : List FormulaTree) → AreFormulaValues c l.limit (g.M.Maker.is_id l.fn.maker) (g.M.Maker.tree l.fn.maker) fs l.values
      → GatherState c l.limit (g.M.Maker.is_id l.fn.maker) (g.M.Maker.tree l.fn.maker) fs l.parts (drop l.value-index l.values);
  ids : HaveIds (g.M.Maker.is_id l.fn.maker) l.parts;
  within : l.parts.nodes ≤ l.limit;
}
