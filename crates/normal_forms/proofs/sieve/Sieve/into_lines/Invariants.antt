use Rattle.std.proofs.Common.{◌≡◌, List, ◌++◌, length}
use Rattle.std.specs.Prelude.{reverse}
use Rattle.formula_store.specs.declared.id.FormulaId.{FormulaId}
use Rattle.normal_forms.specs.Sieves.{swept}
use Rattle.normal_forms.proofs.sieve.Sieve.into_lines.Given as goal

abbrev pub invariant-loop-line : goal.invariant-loop-line
invariant-loop-line l = (done : List (List FormulaId)) × (l.initial.lines.items ≡ l.lines.items ++ done) × (l.later.lines ≡ reverse (swept done))

abbrev pub decreases-loop-line : goal.decreases-loop-line
decreases-loop-line l = length l.lines.items
