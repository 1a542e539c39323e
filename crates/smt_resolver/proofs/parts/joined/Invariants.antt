use Rattle.std.proofs.Common.{List, drop}
use Rattle.std.specs.List.{AllByRecursion}
use Rattle.logic_meaning.specs.Context.{Context}
use Rattle.language_meaning.specs.Trees.{FormulaTree}
use Rattle.smt_resolver.specs.Values.{AreEach, IsLevelPart}
use Rattle.smt_resolver.proofs.PartLists.{MembersState}
use Rattle.smt_resolver.proofs.parts.joined.Given as goal

abbrev pub invariant-loop-part : goal.invariant-loop-part
invariant-loop-part g l = record {
  state : (c : Context) (fs : List FormulaTree) → AreEach (IsLevelPart c (g.M.Maker.is_id l.fn.maker) (g.M.Maker.tree l.fn.maker)) fs l.part-items
      → MembersState c (g.M.Maker.is_id l.fn.maker) (g.M.Maker.tree l.fn.maker) fs l.members (drop l.part-index l.part-items);
  ids : AllByRecursion (g.M.Maker.is_id l.fn.maker) l.members.ids.items;
}
