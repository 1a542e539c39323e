use Rattle.std.proofs.Common.{◌≡◌, ℕ, take}
use Rattle.logic_meaning.specs.Form.{multiple}
use Rattle.written_atoms.specs.Entries.{coefficient_at}
use Rattle.logic_meaning.specs.Renaming.{terms_named}
use Rattle.prenex_forms.specs.Named.{now_of}
use Rattle.prenex_forms.proofs.atoms.changed_form.Given as goal

-- the terms so far are put
abbrev pub invariant-loop-place : goal.invariant-loop-place
invariant-loop-place l = record {
  coefficients : (x : ℕ) → coefficient_at l.sum.coefficients.entries x ≡ multiple x (take l.place (terms_named (now_of l.now) l.form.terms));
  constant : l.sum.constant ≡ l.initial.sum.constant;
}
