use Rattle.std.proofs.Common.{◌≤◌, ◌++◌, List, map, drop}
use Rattle.normal_atoms.specs.Atoms.{context_of}
use Rattle.language_meaning.specs.declared.tree.Relation.TheVariants.{Differs}
use Rattle.language_meaning.specs.Trees.{TermTree, FormulaTree}
use Rattle.formula_tree.specs.Makers.{Keeps}
use Rattle.smt_language.specs.Shapes.{comparison}
use Rattle.smt_resolver.specs.Values.{IsTermValue, AreTermValues, ArePartsBelow, HaveIds}
use Rattle.smt_resolver.proofs.ChainLaws.{EachState}
use Rattle.smt_resolver.proofs.chains.add_differences.Given as goal

abbrev pub invariant-loop-other : goal.invariant-loop-other
invariant-loop-other g l = record {
  state : (fs : List FormulaTree) (t : TermTree) (ts : List TermTree) → ArePartsBelow (context_of l.setting.context) (g.M.Maker.is_id l.fn.maker) (g.M.Maker.tree l.fn.maker) fs l.fn.parts
      → IsTermValue (context_of l.setting.context) l.setting.limit t l.first → AreTermValues (context_of l.setting.context) l.setting.limit ts l.others
      → EachState (context_of l.setting.context) l.setting.limit (comparison Differs t) (IsTermValue (context_of l.setting.context) l.setting.limit) (fs ++ map (comparison Differs t) ts) (g.M.Maker.is_id l.maker) (g.M.Maker.tree l.maker) l.parts (drop l.other-index l.others);
  within : l.parts.nodes ≤ l.setting.limit;
  ids : HaveIds (g.M.Maker.is_id l.maker) l.parts;
  kept : Keeps (g.M.Maker.is_id l.fn.maker) (g.M.Maker.tree l.fn.maker) (g.M.Maker.is_id l.maker) (g.M.Maker.tree l.maker);
}
