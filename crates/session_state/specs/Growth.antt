-- What stays of a session's state while formulas are made.
use Rattle.std.specs.Prelude.{◌≡◌}
use Rattle.formula_tree.specs.Makers.{Keeps}
use Rattle.formula_resolving.specs.Numbering.{Grows}
use Rattle.formula_store.specs.Nodes.{tree, IsId}
use Rattle.session_state.specs.declared.state.SessionState.{SessionState}

-- the formulas of the store stay, and so does all else
pub record KeepsState (old new : SessionState) : Type 0 where
  pub context : new.context ≡ old.context
  pub names : new.names ≡ old.names
  pub bindings : new.bindings ≡ old.bindings
  pub standing : new.standing ≡ old.standing
  pub answers : new.answers.items ≡ old.answers.items
  pub store : Keeps (IsId old.store) (tree old.store) (IsId new.store) (tree new.store)

-- the same, but for new names after the old ones
pub record GrowsState (old new : SessionState) : Type 0 where
  pub context : new.context ≡ old.context
  pub names : Grows old.names new.names
  pub bindings : new.bindings ≡ old.bindings
  pub standing : new.standing ≡ old.standing
  pub answers : new.answers.items ≡ old.answers.items
  pub store : Keeps (IsId old.store) (tree old.store) (IsId new.store) (tree new.store)
