use Rattle.std.proofs.Common.{◌≡◌, take}
use Rattle.std.specs.Ordering.{nat_cmp}
use Rattle.std.specs.BTreeSet.{contains}
use Rattle.logic_meaning.specs.Some.{SomeOf}
use Rattle.logic_meaning.specs.Form.{Term}
use Rattle.free_names.specs.Missing.{AreMissing}
use Rattle.free_names.proofs.missing.form_missing.Given as goal

abbrev pub invariant-loop-place : goal.invariant-loop-place
invariant-loop-place l = AreMissing (λ n. SomeOf (λ (t : Term). t.name ≡ n) (take l.place l.form.terms)) (contains nat_cmp l.valued) l.missing.items
