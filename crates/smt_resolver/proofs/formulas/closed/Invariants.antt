use Rattle.std.proofs.Common.{◌≡◌, ◌≤◌, take, length}
use Rattle.logic_meaning.specs.Context.{Context}
use Rattle.language_meaning.specs.Trees.{FormulaTree}
use Rattle.formula_tree.specs.Makers.{Keeps}
use Rattle.smt_language.specs.Levels.{closed}
use Rattle.smt_resolver.specs.Values.{IsFormulaValue, HasId}
use Rattle.smt_resolver.proofs.formulas.closed.Given as goal

-- the formula so far, under the quantifiers that are left, is the whole
abbrev pub invariant-outwards : goal.invariant-outwards
invariant-outwards g l = record {
  state : (c : Context) (f : FormulaTree) → IsFormulaValue c l.limit (g.M.Maker.is_id l.fn.maker) (g.M.Maker.tree l.fn.maker) f l.fn.value
      → (h : FormulaTree) × IsFormulaValue c l.limit (g.M.Maker.is_id l.maker) (g.M.Maker.tree l.maker) h l.inner × (closed l.quantifier l.level (take l.count l.names) h ≡ closed l.quantifier l.level l.names f);
  ids : HasId (g.M.Maker.is_id l.maker) l.inner;
  kept : Keeps (g.M.Maker.is_id l.fn.maker) (g.M.Maker.tree l.fn.maker) (g.M.Maker.is_id l.maker) (g.M.Maker.tree l.maker);
  within : l.count ≤ length l.names;
}

abbrev pub decreases-outwards : goal.decreases-outwards
decreases-outwards g l = l.count
