use Rattle.std.proofs.Common.{◌≡◌, take}
use Rattle.logic_meaning.specs.Form.{others}
use Rattle.linear_forms.specs.Linear.{terms_of}
use Rattle.test_points.proofs.Forms.{signed_terms}
use Rattle.test_points.proofs.parts.other_terms.Given as goal

-- the first terms, without that of the name
abbrev pub invariant-loop-place : goal.invariant-loop-place
invariant-loop-place l = terms_of l.kept.items ≡ signed_terms l.negative (others l.x.number (take l.place l.form.terms))
