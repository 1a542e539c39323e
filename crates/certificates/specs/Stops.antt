-- When multipliers are not checked.
use Rattle.std.specs.Prelude.{ℤ, List}
use Rattle.linear_forms.specs.declared.error.LinError.{LinError}
use Rattle.linear_forms.specs.declared.error.LinError.TheVariants as linear
use Rattle.logic_meaning.specs.Constraints.{Constraint}
use Rattle.logic_meaning.specs.Farkas.{nothing, AreAllowed, SumPasses}
use Rattle.certificates.specs.declared.error.CertError.{CertError}
use Rattle.certificates.specs.declared.error.CertError.TheVariants.{Overflow, Nodes, Memory}

-- what an error of linear forms is here
abbrev pub error_of : LinError → CertError
error_of linear.Overflow = Overflow
error_of linear.Memory = Memory

-- where the error comes from a check: the multipliers are added up, and a number passes the limit; or there is no memory
abbrev pub StopsCheck : CertError → List Constraint → List ℤ → Type 0
StopsCheck Overflow cs ms = AreAllowed cs ms × SumPasses nothing cs ms
StopsCheck Nodes cs ms = ⊥
StopsCheck Memory cs ms = Unit {0}
