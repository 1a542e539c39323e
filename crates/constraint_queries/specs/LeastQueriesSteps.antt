-- From a target as it is written to what is answered.
use Rattle.std.specs.Prelude.{◌≡◌, ◌⊎◌, ℕ}
use Rattle.logic_meaning.specs.Context.{Context, Fields, Integers}
use Rattle.language_meaning.specs.Trees.{FormulaTree}
use Rattle.formula_store.specs.declared.id.FormulaId.{FormulaId}
use Rattle.formula_store.specs.Nodes.{tree, IsId}
use Rattle.formula_tree.specs.Makers.{IsMade}
use Rattle.language_meaning.specs.Resolving.{resolve}
use Rattle.language_meaning.specs.NamesAfter.{names_after}
use Rattle.formula_resolving.specs.FirstCause.{IsFirstCause}
use Rattle.redlog_printer.specs.Within.{AreValuesWithin}
use Rattle.language_meaning.specs.declared.static_error.StaticError.{StaticError}
use Rattle.language_meaning.specs.declared.static_error.StaticError.TheVariants as static
use Rattle.program_meaning.specs.declared.line.StatementError.{StatementError}
use Rattle.program_meaning.specs.State.{State, known}
use Rattle.program_meaning.specs.Targets.{TargetAnswer, Infeasible, Unbounded, Attained}
use Rattle.program_meaning.specs.declared.line.StatementError.TheVariants as error
use Rattle.session_state.specs.declared.state.SessionState.{SessionState}
use Rattle.session_state.specs.Keeping.{state_of}
use Rattle.form_commands.specs.Reading.{IsReadable}
use Rattle.form_commands.specs.Refusals.{static_refusal}

-- each name of the answer has a number below this one
abbrev pub HasNamesWithin : ℕ → TargetAnswer → Type 0
HasNamesWithin n Infeasible = Unit {0}
HasNamesWithin n Unbounded = Unit {0}
HasNamesWithin n (Attained least values) = AreValuesWithin n values

-- the word for a problem that is not read; that the theory is another one comes before what is looked for behind congruences
abbrev pub cause_of : Context → StaticError → StatementError
cause_of Fields e = static_refusal e
cause_of Integers static.Unbound = error.Unbound
cause_of Integers static.FormulaAsTerm = error.FormulaAsTerm
cause_of Integers static.Nonlinear = error.Nonlinear
cause_of Integers static.Division = error.Division
cause_of Integers static.CongruenceContext = error.CongruenceContext
cause_of Integers static.Modulus = error.Context
cause_of Integers static.Depth = error.Context
cause_of Integers static.Overflow = error.Context
cause_of Integers static.Memory = error.Memory

-- The problem is read over the ordered fields: its variables have their numbers, and this is the id of what it resolves to.
pub record IsProblemIn (old : SessionState) (f : FormulaTree) (new : SessionState) (id : FormulaId) : Type 0 where
  pub readable : IsReadable (state_of old) f
  pub fields : (state_of old).context ≡ Fields
  pub names : new.names ≡ names_after old.names f
  pub made : IsMade (IsId new.store) (tree new.store) id (resolve (state_of old).context (known (state_of old)) (names_after old.names f) f)

-- why it is not: the first cause in reading, or the theory, where there is none
abbrev pub IsProblemUnread : State → FormulaTree → StatementError → Type 0
IsProblemUnread s f e = ((d : StaticError) × (e ≡ cause_of s.context d) × IsFirstCause s.context (known s) s.names f d) ⊎ ((e ≡ error.Context) × (s.context ≡ Integers) × IsReadable s f)
