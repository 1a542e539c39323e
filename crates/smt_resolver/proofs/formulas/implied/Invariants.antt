use Rattle.std.proofs.Common.{◌≤◌, List, drop, length}
use Rattle.logic_meaning.specs.Context.{Context}
use Rattle.language_meaning.specs.Trees.{FormulaTree}
use Rattle.formula_tree.specs.Makers.{Keeps}
use Rattle.smt_resolver.specs.Values.{IsFormulaValue, AreFormulaValues, HasId, implied_by}
use Rattle.smt_resolver.proofs.formulas.implied.Given as goal

-- the formula so far is behind the implications of those from this place on
abbrev pub invariant-outwards : goal.invariant-outwards
invariant-outwards g l = record {
  state : (c : Context) (fs : List FormulaTree) (f : FormulaTree) → AreFormulaValues c l.limit (g.M.Maker.is_id l.fn.maker) (g.M.Maker.tree l.fn.maker) fs l.values → IsFormulaValue c l.limit (g.M.Maker.is_id l.fn.maker) (g.M.Maker.tree l.fn.maker) f l.fn.last
      → IsFormulaValue c l.limit (g.M.Maker.is_id l.maker) (g.M.Maker.tree l.maker) (implied_by (drop l.count fs) f) l.total;
  ids : HasId (g.M.Maker.is_id l.maker) l.total;
  kept : Keeps (g.M.Maker.is_id l.fn.maker) (g.M.Maker.tree l.fn.maker) (g.M.Maker.is_id l.maker) (g.M.Maker.tree l.maker);
  within : l.count ≤ length l.values;
}

abbrev pub decreases-outwards : goal.decreases-outwards
decreases-outwards g l = l.count
