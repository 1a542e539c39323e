use Rattle.std.proofs.Common.{◌≡◌, map, take}
use Rattle.formula_store.specs.Forms.{form_at}
use Rattle.formula_store.proofs.forms.all_forms.Given as goal

abbrev pub invariant-loop-id : goal.invariant-loop-id
invariant-loop-id l = l.forms.items ≡ map (form_at l.table l.negated) (take l.id-index l.ids)
