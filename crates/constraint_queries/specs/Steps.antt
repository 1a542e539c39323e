-- From constraints as they are written to what is answered. The state is one in which the variables of the command have their numbers.
use Rattle.std.specs.Prelude.{◌≡◌, ℕ, List, Bool, None}
use Rattle.logic_meaning.specs.Context.{Fields}
use Rattle.language_meaning.specs.declared.tree.Literal.{Literal}
use Rattle.language_meaning.specs.Trees.{FormulaTrees}
use Rattle.language_meaning.specs.Statements.{Certify, Check}
use Rattle.redlog_printer.specs.Within.{AreValuesWithin}
use Rattle.certificates.specs.declared.error.CertError.{CertError}
use Rattle.certificates.specs.declared.error.CertError.TheVariants as cert
use Rattle.logic_meaning.specs.Search.{Certificate, At, Farkas}
use Rattle.program_meaning.specs.declared.line.StatementError.{StatementError}
use Rattle.program_meaning.specs.State.{State}
use Rattle.program_meaning.specs.Meaning.{meaning}
use Rattle.program_meaning.specs.Causes.{IsAccepted}
use Rattle.program_meaning.specs.declared.line.StatementError.TheVariants as error
use Rattle.form_commands.specs.Replies.{use_of, Refuses}
use Rattle.form_commands.specs.Reading.{AreReadable}

-- nothing is wrong with the constraints, and the theory is that of the ordered fields
pub record AreReady (s : State) (written : FormulaTrees) : Type 0 where
  pub readable : AreReadable s written
  pub fields : s.context ≡ Fields

-- the search is refused with the word under a limit of rows, whether its line is printed or not
abbrev pub RefusesCertificate : State → ℕ → FormulaTrees → StatementError → Type 0
RefusesCertificate s limit written e = (printed : Bool) → Refuses s limit (use_of None printed) (Certify written) e

-- the check is refused with the word, whatever the limit is and whether its line is printed
abbrev pub RefusesCheck : State → FormulaTrees → List Literal → StatementError → Type 0
RefusesCheck s written ms e = (limit : ℕ) (printed : Bool) → Refuses s limit (use_of None printed) (Check written ms) e

-- both commands about the constraints are refused with the word, whatever the limit and the multipliers are and whether a line is printed
pub record NoConstraints (s : State) (written : FormulaTrees) (e : StatementError) : Type 0 where
  pub search : (limit : ℕ) → RefusesCertificate s limit written e
  pub check : (ms : List Literal) → RefusesCheck s written ms e

-- no cause applies to the check
abbrev pub AcceptsCheck : State → FormulaTrees → List Literal → Type 0
AcceptsCheck s written ms = (limit : ℕ) (printed : Bool) → IsAccepted (meaning (Check written ms)) s limit (use_of None printed)

-- the word for a search or a check that is not finished
abbrev pub cert_refusal : CertError → StatementError
cert_refusal cert.Overflow = error.Overflow
cert_refusal cert.Nodes = error.Nodes
cert_refusal cert.Memory = error.Memory

-- each name of the certificate has a number below this one
abbrev pub HasNamesWithin : ℕ → Certificate → Type 0
HasNamesWithin n (At values) = AreValuesWithin n values
HasNamesWithin n (Farkas multipliers) = Unit {0}
