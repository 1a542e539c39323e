use Rattle.std.proofs.Common.{take}
use Rattle.logic_meaning.specs.Some.{EachOf}
use Rattle.normal_atoms.specs.Atoms.{context_of}
use Rattle.clause_search.specs.Tables.{AreNodes}
use Rattle.clause_search.specs.Variables.{IsRowed}
use Rattle.clause_search.proofs.table.variables_of.Given as goal

-- the variables of the formulas so far
abbrev pub invariant-loop-id : goal.invariant-loop-id
invariant-loop-id l = record {
  nodes : AreNodes (take l.id-index l.ids) l.variables.items;
  rowed : EachOf (IsRowed (context_of l.context) l.store) l.variables.items;
}
