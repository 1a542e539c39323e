use Rattle.std.proofs.Common.{◌≡◌, false, map, take}
use Rattle.formula_store.specs.Forms.{form_at}
use Rattle.formula_store.proofs.forms.are_their_own.Given as goal

-- those so far are their own forms
abbrev pub invariant-loop-id : goal.invariant-loop-id
invariant-loop-id l = map (form_at l.table false) (take l.id-index l.ids) ≡ take l.id-index l.ids
