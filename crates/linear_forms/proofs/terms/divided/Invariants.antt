use Rattle.std.proofs.Common.{take}
use Rattle.std.specs.List.{AllZip}
use Rattle.linear_forms.specs.Linear.{IsDivided}
use Rattle.linear_forms.proofs.terms.divided.Given as goal

-- the terms so far are divided
abbrev pub invariant-loop-term : goal.invariant-loop-term
invariant-loop-term l = AllZip (IsDivided l.by) (take l.term-index l.terms) l.quotients.items
