use Rattle.std.proofs.Common.{◌≡◌, take}
use Rattle.logic_meaning.specs.Renaming.{terms_named}
use Rattle.prenex_forms.specs.Named.{now_of}
use Rattle.prenex_forms.proofs.atoms.is_changed.Given as goal

-- the names so far stay
abbrev pub invariant-loop-place : goal.invariant-loop-place
invariant-loop-place l = terms_named (now_of l.now) (take l.place l.form.terms) ≡ take l.place l.form.terms
