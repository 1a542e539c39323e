use Rattle.std.proofs.Common.{◌≡◌, drop, pos}
use Rattle.logic_meaning.specs.Terms.{total_steps}
use Rattle.linear_forms.specs.Linear.{terms_of}
use Rattle.linear_forms.specs.Values.{number_at}
use Rattle.linear_forms.proofs.values.total.Given as goal

-- the steps that are left lead where all steps lead
abbrev pub invariant-loop-term : goal.invariant-loop-term
invariant-loop-term l = total_steps l.total (terms_of (drop l.term-index l.terms)) (number_at l.at) ≡ total_steps (pos 0) (terms_of l.terms) (number_at l.at)
