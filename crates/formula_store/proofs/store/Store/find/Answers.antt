use Rattle.std.proofs.Common.{◌≡◌, ℕ, Some, sym, subst, slice_get, false}
use Rattle.formula_tree.proofs.Decided.{same_shape, itself_shape}
use Rattle.formula_store.specs.contracts.id.FormulaId.{the_row}
use Rattle.formula_store.specs.contracts.id.FormulaIdPartialEq.TheImpl as ids
use Rattle.formula_store.proofs.Finding.{found_at, not_there}
use Rattle.formula_store.proofs.Keys.{same_id, itself_id}
use Rattle.formula_store.proofs.store.Store.find.Goals as goal

pub returns-in-Some : goal.returns-in-Some
returns-in-Some c =
    subst (λ ns. slice_get ns c.in-Some.number ≡ Some c.args.shape.now) c.self.view_is
    (found_at _ (same_shape the_row ids.ghosts ids.dict same_id) (itself_shape the_row ids.ghosts ids.dict itself_id) c.self.inside.nodes.entries c.args.shape.now (record { height = 0; nodes = 0; quantified = false }) c.in-Some.number
    (sym c.in-Some.ensures.index))

pub returns-in-None : goal.returns-in-None
returns-in-None c =
    subst (λ ns. (i : ℕ) → ¬ (slice_get ns i ≡ Some c.args.shape.now)) c.self.view_is
    (not_there _ (same_shape the_row ids.ghosts ids.dict same_id) (itself_shape the_row ids.ghosts ids.dict itself_id) c.self.inside.nodes.entries c.args.shape.now (record { height = 0; nodes = 0; quantified = false }) (sym c.in-None.ensures.index))
