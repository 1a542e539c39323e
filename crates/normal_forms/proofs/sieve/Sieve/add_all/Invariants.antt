use Rattle.std.proofs.Common.{◌≡◌}
use Rattle.normal_forms.specs.Atoms.{add_all}
use Rattle.normal_forms.specs.Sieves.{swept}
use Rattle.normal_forms.proofs.sieve.Sieve.add_all.Given as goal

abbrev pub invariant-loop-line : goal.invariant-loop-line
invariant-loop-line l = swept l.self.lines ≡ add_all (swept l.initial.self.lines) l.yielded
