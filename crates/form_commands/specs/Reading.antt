-- What is read of the formulas of a command.
use Rattle.std.specs.Prelude.{◌≡◌, ◌≢◌, ◌⊎◌, ℕ, List, [], ◌∷◌, ◌++◌, Option, Some, None, IsSomeAnd, map}
use Rattle.logic_meaning.specs.Formula.{also}
use Rattle.logic_meaning.specs.Some.{SomeOf, Among, EachOf}
use Rattle.std.specs.List.{AllByRecursion}
use Rattle.normal_atoms.specs.Atoms.{atom_of, IsWellFormed}
use Rattle.formula_tree.specs.Makers.{IsMade, AreMade}
use Rattle.logic_meaning.specs.Tree.{Tree}
use Rattle.formula_store.specs.declared.id.FormulaId.{FormulaId}
use Rattle.formula_store.specs.Nodes.{tree, IsId}
use Rattle.session_state.specs.declared.state.SessionState.{SessionState}
use Rattle.form_commands.specs.declared.forms.Premised.{Premised}
use Rattle.written_syntax.specs.declared.tree.Formula.{Formula}
use Rattle.language_meaning.specs.Trees.{FormulaTree, FormulaTrees}
use Rattle.written_syntax.specs.CodeTrees.{formula_tree}
use Rattle.language_meaning.specs.Resolving.{resolve}
use Rattle.language_meaning.specs.NamesAfter.{names_after}
use Rattle.resolved_formulas.specs.Accepted.{IsAccepted as IsResolvable}
use Rattle.language_meaning.specs.declared.static_error.StaticError.{StaticError}
use Rattle.language_meaning.specs.declared.static_error.StaticError.TheVariants as static
use Rattle.language_meaning.specs.Refusals.{Applies, order, before}
use Rattle.formula_resolving.specs.FirstCause.{IsFirstCause}
use Rattle.program_meaning.specs.declared.line.StatementError.{StatementError}
use Rattle.program_meaning.specs.State.{State, known}
use Rattle.program_meaning.specs.Assumptions.{assumed, atoms_among, resolved_all}
use Rattle.program_meaning.specs.Causes.{SomeFormula}
use Rattle.program_meaning.specs.declared.line.StatementError.TheVariants as error
use Rattle.session_state.specs.Trees.{standing_trees}
use Rattle.form_commands.specs.Parts.{EachFormula}
use Rattle.form_commands.specs.Refusals.{static_refusal}

-- each variable of the formula has its number
abbrev pub HasNumbers : List (List ℕ) → FormulaTree → Type 0
HasNumbers names f = names_after names f ≡ names

-- the first cause why a formula is not resolved is this word's
abbrev pub IsUnread : State → FormulaTree → StatementError → Type 0
IsUnread s f e = (d : StaticError) × (e ≡ static_refusal d) × IsFirstCause s.context (known s) s.names f d

-- the formula is resolved in the state
abbrev pub IsReadable : State → FormulaTree → Type 0
IsReadable s f = IsResolvable s.context (known s) s.names f

abbrev pub AreNumbered : List (List ℕ) → FormulaTrees → Type 0
AreNumbered names fs = EachFormula (HasNumbers names) fs

abbrev pub AreReadable : State → FormulaTrees → Type 0
AreReadable s fs = EachFormula (IsReadable s) fs

-- the cause applies to some of them
abbrev pub AppliesAmong : State → FormulaTrees → StaticError → Type 0
AppliesAmong s fs d = SomeFormula (λ g. Applies s.context (known s) s.names g d) fs

-- the cause is looked for before the other
abbrev pub IsBefore : StaticError → StaticError → Type 0
IsBefore d e = Among (before e) d

-- no cause in reading that is looked for before this one applies to one of them
abbrev pub HasNoEarlier : State → FormulaTrees → StaticError → Type 0
HasNoEarlier s fs e = EachOf (λ d. ¬ (AppliesAmong s fs d)) (before e)

-- it is the first that applies to some of them
pub record IsFirstAmong (s : State) (fs : FormulaTrees) (d : StaticError) : Type 0 where
  pub applies : AppliesAmong s fs d
  pub first : HasNoEarlier s fs d

-- the same, where of want of memory nothing is said
abbrev pub IsFirstCauseAmong : State → FormulaTrees → StaticError → Type 0
IsFirstCauseAmong s fs d = d ≢ static.Memory → IsFirstAmong s fs d

-- the first cause why one of them is not resolved is this word's
abbrev pub AreUnread : State → FormulaTrees → StatementError → Type 0
AreUnread s fs e = (d : StaticError) × (e ≡ static_refusal d) × IsFirstCauseAmong s fs d

-- The formula and its assumptions are read: this is the id of the formula, these are the atoms of what is assumed, and no cause in reading applies.
pub record AreRead (s : State) (f : FormulaTree) (given : FormulaTrees) (after : SessionState) (read : Premised) : Type 0 where
  pub made : IsMade (IsId after.store) (tree after.store) read.formula (resolve s.context (known s) s.names f)
  pub atoms : map atom_of read.atoms.items ≡ assumed s given
  pub well_formed : AllByRecursion IsWellFormed read.atoms.items
  pub readable : AreReadable s (also f given)

-- the formulas are read: these are their ids, and no cause in reading applies
pub record AreAllRead (s : State) (given : FormulaTrees) (after : SessionState) (ids : List FormulaId) : Type 0 where
  pub made : AreMade (IsId after.store) (tree after.store) ids (resolved_all s given)
  pub readable : AreReadable s given

-- one more id, which is that of the formula
pub record IsOneMore (after : SessionState) (old new : List FormulaId) (t : Tree) : Type 0 where
  pub id : FormulaId
  pub last : new ≡ old ++ id ∷ []
  pub made : IsMade (IsId after.store) (tree after.store) id t

-- The first cause for which P holds, or None where there is none. Want of memory is no cause.
abbrev pub FirstAmong : (StaticError → Type 0) → Option StaticError → Type 0
FirstAmong P None = EachOf (λ d. ¬ (P d)) order
FirstAmong P (Some e) = (e ≢ static.Memory) × P e × EachOf (λ d. ¬ (P d)) (before e)

-- r is the earlier of the cause e and of the other one, if there is one
abbrev pub IsEarlierOf : StaticError → Option StaticError → StaticError → Type 0
IsEarlierOf e None r = r ≡ e
IsEarlierOf e (Some d) r = (IsBefore d e × (r ≡ d)) ⊎ ((¬ (IsBefore d e)) × (r ≡ e))

-- the earlier of two causes, either of which may be missing
abbrev pub IsEarlierOfBoth : Option StaticError → Option StaticError → Option StaticError → Type 0
IsEarlierOfBoth stop None after = after ≡ stop
IsEarlierOfBoth stop (Some e) after = IsSomeAnd after (IsEarlierOf e stop)

-- the cause applies to some formula of the list
abbrev pub AppliesToSome : State → List Formula → StaticError → Type 0
AppliesToSome s gs d = SomeOf (λ g. Applies s.context (known s) s.names (formula_tree g) d) gs

-- the first cause in the formula, or None where it is resolved, joined to an earlier one
pub record IsFirstWith (s : State) (g : FormulaTree) (stop after : Option StaticError) : Type 0 where
  pub cause : Option StaticError
  pub first : FirstAmong (λ d. Applies s.context (known s) s.names g d) cause
  pub joined : IsEarlierOfBoth stop cause after

-- The formula is read, and no cause applies to it or came before: this is its id, and these are the atoms among the standing assumptions and the formulas of these ids.
pub record IsReadUnder (s : State) (f : FormulaTree) (stop : Option StaticError) (ids : List FormulaId) (after : SessionState) (read : Premised) : Type 0 where
  pub made : IsMade (IsId after.store) (tree after.store) read.formula (resolve s.context (known s) s.names f)
  pub atoms : map atom_of read.atoms.items ≡ atoms_among (standing_trees after.standing ++ map (tree after.store) ids)
  pub well_formed : AllByRecursion IsWellFormed read.atoms.items
  pub first : IsFirstWith s f stop None

-- the word is that of the first cause in the formula, joined to an earlier one; of want of memory nothing is said
abbrev pub IsUnreadUnder : State → FormulaTree → Option StaticError → StatementError → Type 0
IsUnreadUnder s f stop e = (e ≡ error.Memory) ⊎ ((d : StaticError) × (e ≡ static_refusal d) × IsFirstWith s f stop (Some d))
