use Rattle.std.proofs.Common.{◌≡◌, [], length, map, take, drop}
use Rattle.std.specs.List.{AllByRecursion}
use Rattle.formula_store.specs.Nodes.{tree}
use Rattle.formula_resolving.specs.Order.{nest_of, IsCounted, AreInOrder}
use Rattle.session_state.specs.Keeping.{state_of, IsSessionState}
use Rattle.session_state.specs.Growth.{GrowsState}
use Rattle.session_commands.specs.Inner.{IsOwn, IsNumberedNest}
use Rattle.session_commands.specs.Running.{Runs}
use Rattle.session_commands.proofs.inner.answer_steps.Given as goal

-- the steps so far are answered, and each that is left finds the answers of those inside it
abbrev pub invariant-loop-step : goal.invariant-loop-step
invariant-loop-step g l = record {
  session : IsSessionState l.state;
  settled : l.state.answers.items ≡ [];
  own : AllByRecursion (IsOwn l.state) l.answers.items;
  runs : Runs (state_of l.fn.state) l.workshop.limits.nodes (map nest_of (take l.step-index l.steps)) [] l.fn.state.names (map (tree l.state.store) l.answers.items) l.state.names;
  grown : GrowsState l.fn.state l.state;
  counted : AllByRecursion IsCounted (drop l.step-index l.steps);
  numbered : AllByRecursion (IsNumberedNest l.state.names) (map nest_of (drop l.step-index l.steps));
  enough : AreInOrder (map nest_of (drop l.step-index l.steps)) (length l.answers.items);
}
