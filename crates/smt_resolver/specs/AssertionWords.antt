-- The cause by which a command tells that its assertion is refused.
use Rattle.smt_resolver.specs.declared.error.AssertError.{AssertError}
use Rattle.smt_resolver.specs.declared.error.AssertError.TheVariants as assertion
use Rattle.program_meaning.specs.declared.smt_error.SmtError.{SmtError}
use Rattle.program_meaning.specs.declared.smt_error.SmtError.TheVariants as error

-- the cause of an assertion that is refused
abbrev pub of_assertion : AssertError → SmtError
of_assertion assertion.Undeclared = error.Undeclared
of_assertion assertion.Sort = error.Sort
of_assertion assertion.Nodes = error.Nodes
of_assertion assertion.Nonlinear = error.Nonlinear
of_assertion assertion.Division = error.Division
of_assertion assertion.Depth = error.Depth
of_assertion assertion.Overflow = error.Overflow
of_assertion assertion.Memory = error.Memory
