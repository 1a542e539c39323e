-- When the search stops.
use Rattle.std.specs.Prelude.{◌≡◌}
use Rattle.logic_meaning.specs.Measured.{Outcome, stopped}
use Rattle.logic_meaning.specs.Measured as stop
use Rattle.certificates.specs.declared.error.CertError.{CertError}
use Rattle.certificates.specs.declared.error.CertError.TheVariants.{Overflow, Nodes, Memory}

-- the error is what stops the search; or there is no memory
abbrev pub StopsSearch : {A : Type 0} → CertError → Outcome A → Type 0
StopsSearch Overflow o = o ≡ stopped stop.Overflow
StopsSearch Nodes o = o ≡ stopped stop.Nodes
StopsSearch Memory o = Unit {0}
