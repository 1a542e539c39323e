use Rattle.std.proofs.Common.{◌≤◌, List, drop}
use Rattle.normal_atoms.specs.Atoms.{context_of}
use Rattle.language_meaning.specs.declared.tree.Relation.TheVariants.{Differs}
use Rattle.language_meaning.specs.Trees.{TermTree}
use Rattle.formula_tree.specs.Makers.{Keeps}
use Rattle.smt_language.specs.Shapes.{comparison, pairs}
use Rattle.smt_resolver.specs.Values.{IsTermValue, AreTermValues, HaveIds}
use Rattle.smt_resolver.proofs.ChainLaws.{PairState}
use Rattle.smt_resolver.proofs.chains.differences.Given as goal

abbrev pub invariant-loop-place : goal.invariant-loop-place
invariant-loop-place g l = record {
  state : (ts : List TermTree) → AreTermValues (context_of l.setting.context) l.setting.limit ts l.terms
      → PairState (context_of l.setting.context) l.setting.limit (comparison Differs) (IsTermValue (context_of l.setting.context) l.setting.limit) (pairs (comparison Differs) ts) (g.M.Maker.is_id l.maker) (g.M.Maker.tree l.maker) l.parts (drop l.place l.terms);
  within : l.parts.nodes ≤ l.setting.limit;
  ids : HaveIds (g.M.Maker.is_id l.maker) l.parts;
  kept : Keeps (g.M.Maker.is_id l.fn.maker) (g.M.Maker.tree l.fn.maker) (g.M.Maker.is_id l.maker) (g.M.Maker.tree l.maker);
}
