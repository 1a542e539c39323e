-- The words of refusals, and why a line is not written.
use Rattle.std.specs.Prelude.{◌≡◌, ◌⊎◌, ◌<◌, ℕ, List, Bool, true, length}
use Rattle.language_meaning.specs.declared.token.ReadError.{ReadError}
use Rattle.language_meaning.specs.declared.token.ReadError.TheVariants as reading
use Rattle.language_meaning.specs.declared.static_error.StaticError.{StaticError}
use Rattle.language_meaning.specs.declared.static_error.StaticError.TheVariants as static
use Rattle.reference_engine.specs.declared.measured.Measured.{Measured}
use Rattle.reference_engine.specs.declared.measured.Measured.TheVariants as measured
use Rattle.session_state.specs.FromRedlogPrinter.{PrintError}
use Rattle.session_state.specs.FromRedlogPrinter.print_error_variants as print
use Rattle.logic_meaning.specs.Writing.{text_limit}
use Rattle.program_meaning.specs.declared.line.StatementError.{StatementError}
use Rattle.program_meaning.specs.declared.line.StatementError.TheVariants as error
use Rattle.form_commands.specs.declared.error.FormsError.{FormsError}
use Rattle.form_commands.specs.declared.error.FormsError.TheVariants as forms

abbrev pub read_refusal : ReadError → StatementError
read_refusal reading.Long = error.Long
read_refusal reading.Lexical = error.Lexical
read_refusal reading.Nesting = error.Nesting
read_refusal reading.Syntax = error.Syntax
read_refusal reading.Memory = error.Memory

abbrev pub static_refusal : StaticError → StatementError
static_refusal static.Unbound = error.Unbound
static_refusal static.FormulaAsTerm = error.FormulaAsTerm
static_refusal static.Nonlinear = error.Nonlinear
static_refusal static.Division = error.Division
static_refusal static.CongruenceContext = error.CongruenceContext
static_refusal static.Modulus = error.Modulus
static_refusal static.Depth = error.Depth
static_refusal static.Overflow = error.Overflow
static_refusal static.Memory = error.Memory

abbrev pub measured_refusal : Measured → StatementError
measured_refusal measured.Overflow = error.Overflow
measured_refusal measured.Nodes = error.Nodes
measured_refusal measured.Memory = error.Memory

-- the refusal of a form that is not made
abbrev pub forms_refusal : FormsError → StatementError
forms_refusal forms.Overflow = error.Overflow
forms_refusal forms.Nodes = error.Nodes
forms_refusal forms.Memory = error.Memory

-- the refusal of a text that is not written
abbrev pub print_refusal : PrintError → StatementError
print_refusal print.Text = error.Text
print_refusal print.Memory = error.Memory

-- a text that is printed passes the limit
abbrev pub IsLongText : Bool → List ℕ → Type 0
IsLongText printed text = (printed ≡ true) × (text_limit < length text)

-- why a text is not written
abbrev pub LineFault : Bool → List ℕ → StatementError → Type 0
LineFault printed text e = ((e ≡ error.Text) × IsLongText printed text) ⊎ (e ≡ error.Memory)
