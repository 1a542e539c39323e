use Rattle.std.proofs.Common.{◌≡◌, ℕ, take}
use Rattle.std.specs.Prelude.{◌+ℤ◌, ◌*ℤ◌}
use Rattle.logic_meaning.specs.Form.{multiple}
use Rattle.written_atoms.specs.Entries.{coefficient_at}
use Rattle.written_atoms.proofs.sum.WholeSum.add.Given as goal

-- the first terms are added
abbrev pub invariant-loop-place : goal.invariant-loop-place
invariant-loop-place l = record {
  coefficients : (x : ℕ) → coefficient_at l.self.coefficients.entries x ≡ coefficient_at l.fn.self.coefficients.entries x +ℤ l.factor *ℤ multiple x (take l.place l.form.terms);
  constant : l.self.constant ≡ l.fn.self.constant;
}
