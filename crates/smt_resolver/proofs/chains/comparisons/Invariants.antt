use Rattle.std.proofs.Common.{◌≤◌, ◌∷◌, List, drop}
use Rattle.normal_atoms.specs.Atoms.{context_of}
use Rattle.language_meaning.specs.Trees.{TermTree}
use Rattle.formula_tree.specs.Makers.{Keeps}
use Rattle.smt_language.specs.Shapes.{comparison, neighbours}
use Rattle.smt_resolver.specs.Values.{IsTermValue, AreTermValues, HaveIds}
use Rattle.smt_resolver.proofs.ChainLaws.{ChainState}
use Rattle.smt_resolver.proofs.chains.comparisons.Given as goal

abbrev pub invariant-loop-right : goal.invariant-loop-right
invariant-loop-right g l = record {
  state : (t : TermTree) (ts : List TermTree) → IsTermValue (context_of l.setting.context) l.setting.limit t l.fn.first → AreTermValues (context_of l.setting.context) l.setting.limit ts l.others
      → ChainState (context_of l.setting.context) l.setting.limit (comparison l.relation) (neighbours (comparison l.relation) (t ∷ ts)) (g.M.Maker.is_id l.maker) (g.M.Maker.tree l.maker) (IsTermValue (context_of l.setting.context) l.setting.limit) l.parts l.left (drop l.right-index l.others);
  within : l.parts.nodes ≤ l.setting.limit;
  ids : HaveIds (g.M.Maker.is_id l.maker) l.parts;
  kept : Keeps (g.M.Maker.is_id l.fn.maker) (g.M.Maker.tree l.fn.maker) (g.M.Maker.is_id l.maker) (g.M.Maker.tree l.maker);
}
