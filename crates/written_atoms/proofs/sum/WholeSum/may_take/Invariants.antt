use Rattle.std.proofs.Common.{ℕ, take}
use Rattle.std.specs.Prelude.{◌*ℤ◌}
use Rattle.logic_meaning.specs.Form.{multiple}
use Rattle.logic_meaning.specs.Combining.{AddWithin}
use Rattle.written_atoms.specs.Entries.{coefficient_at}
use Rattle.written_atoms.proofs.sum.WholeSum.may_take.Given as goal

-- the first terms may be added
abbrev pub invariant-loop-place : goal.invariant-loop-place
invariant-loop-place l = (x : ℕ) → AddWithin (coefficient_at l.self.coefficients.entries x) (l.factor *ℤ multiple x (take l.place l.form.terms))
