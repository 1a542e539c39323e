use Rattle.std.proofs.Common.{◌≤◌, ◌∷◌, List, drop}
use Rattle.logic_meaning.specs.Context.{Context}
use Rattle.logic_meaning.specs.Formula.{Equiv}
use Rattle.language_meaning.specs.Trees.{FormulaTree}
use Rattle.formula_tree.specs.Makers.{Keeps}
use Rattle.smt_language.specs.Shapes.{neighbours}
use Rattle.smt_resolver.specs.Values.{IsFormulaValue, AreFormulaValues, HasId, HaveIds}
use Rattle.smt_resolver.proofs.ChainLaws.{ChainState}
use Rattle.smt_resolver.proofs.chains.equivalences.Given as goal

abbrev pub invariant-loop-right : goal.invariant-loop-right
invariant-loop-right g l = record {
  state : (c : Context) (f : FormulaTree) (fs : List FormulaTree) → IsFormulaValue c l.limit (g.M.Maker.is_id l.fn.maker) (g.M.Maker.tree l.fn.maker) f l.fn.first
      → AreFormulaValues c l.limit (g.M.Maker.is_id l.fn.maker) (g.M.Maker.tree l.fn.maker) fs l.others
      → ChainState c l.limit Equiv (neighbours Equiv (f ∷ fs)) (g.M.Maker.is_id l.maker) (g.M.Maker.tree l.maker) (IsFormulaValue c l.limit (g.M.Maker.is_id l.maker) (g.M.Maker.tree l.maker)) l.parts l.left (drop l.right-index l.others);
  within : l.parts.nodes ≤ l.limit;
  ids : HaveIds (g.M.Maker.is_id l.maker) l.parts;
  kept : Keeps (g.M.Maker.is_id l.fn.maker) (g.M.Maker.tree l.fn.maker) (g.M.Maker.is_id l.maker) (g.M.Maker.tree l.maker);
  first : HasId (g.M.Maker.is_id l.maker) l.left;
}
