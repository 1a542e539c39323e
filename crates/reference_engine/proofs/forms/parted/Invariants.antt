use Rattle.std.proofs.Common.{drop}
use Rattle.linear_forms.specs.Values.{point_of}
use Rattle.linear_forms.specs.Linear.{terms_of}
use Rattle.reference_engine.specs.Put.{around}
use Rattle.reference_engine.proofs.Parting.{IsPartedBefore}
use Rattle.reference_engine.proofs.forms.parted.Given as goal

-- the places before this one are parted
abbrev pub invariant-loop-place : goal.invariant-loop-place
invariant-loop-place l = IsPartedBefore (point_of l.at) (around l.names) l.form.terms (terms_of l.kept.items) (terms_of l.out.items) (drop l.place l.form.terms)
