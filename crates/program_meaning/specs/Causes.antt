-- Why a command is refused: each cause on its own, over the whole statement, and which comes first. The state is one in which the variables of the command have their
-- numbers.
use Rattle.std.specs.Prelude.{◌≡◌, ◌⊎◌, ℕ, ◌<◌, ◌≤◌, List, true, Option, Some, None, length}
use Rattle.logic_meaning.specs.Formula.{none, also}
use Rattle.logic_meaning.specs.Some.{SomeOf, EachOf}
use Rattle.logic_meaning.specs.Tree.{Tree, tree_distinct}
use Rattle.language_meaning.specs.Trees.{FormulaTree, FormulaTrees}
use Rattle.logic_meaning.specs.Bindings.{bound_to, most_bound}
use Rattle.language_meaning.specs.Resolving.{BoundTrees}
use Rattle.logic_meaning.specs.Names.{place}
use Rattle.language_meaning.specs.Causes.{IsUnbound, NamesFormulaAsTerm, IsBound, IsNonlinear, Divides, CongruenceInFields, IsBadModulus, IsTooDeep, OverflowsInReading}
use Rattle.logic_meaning.specs.Writing.{text_limit}
use Rattle.program_meaning.specs.declared.limit.TheConstants.{MOST_SUBFORMULAS}
use Rattle.program_meaning.specs.declared.line.StatementError.{StatementError}
use Rattle.program_meaning.specs.declared.line.StatementError.TheVariants as error
use Rattle.program_meaning.specs.Words.{order, before}
use Rattle.program_meaning.specs.State.{State, known}
use Rattle.program_meaning.specs.Uses.{Use, HasManyNodes, formula_line}
use Rattle.program_meaning.specs.Meaning.{Meaning, Determines, IsMeasureOf}

-- ---- what is bound and printed

-- the name, if there is one, is new, and as many names are bound as may be
abbrev pub HasNoRoom : BoundTrees → Option (List ℕ) → Type 0
HasNoRoom bound None = ⊥
HasNoRoom bound (Some x) = (bound_to bound x ≡ None) × (most_bound ≤ length bound)

-- the formula is bound, and has more distinct subformulas than a bound formula may have
abbrev pub IsTooLarge : Option (List ℕ) → Tree → Type 0
IsTooLarge None t = ⊥
IsTooLarge (Some x) t = MOST_SUBFORMULAS < tree_distinct t

-- the line of the formula that the command determines is past the limit, with the names after the answer
pub record HasLongLine (m : Meaning) (s : State) (u : Use) : Type 0 where
  pub formula : Tree
  pub determined : Determines m.answer s formula
  pub names : List (List ℕ)
  pub named : m.names s names
  pub long : text_limit < length (formula_line u.target names formula)

-- some of the formulas
abbrev pub SomeFormula : (FormulaTree → Type 0) → FormulaTrees → Type 0
SomeFormula P none = ⊥
SomeFormula P (also g gs) = P g ⊎ SomeFormula P gs

-- ---- causes

module _ (m : Meaning) (s : State) (limit : ℕ) (u : Use) where
  -- The cause applies. Each of these is answered wherever it applies and no earlier one does.
  abbrev pub IsCause : StatementError → Type 0
  IsCause error.Long = ⊥
  IsCause error.Lexical = ⊥
  IsCause error.Nesting = ⊥
  IsCause error.Syntax = ⊥
  IsCause error.Unbound = SomeFormula (IsUnbound (known s)) m.formulas
  IsCause error.FormulaAsTerm = SomeFormula (NamesFormulaAsTerm (known s)) m.formulas ⊎ SomeOf (IsBound (known s)) m.further
  IsCause error.Nonlinear = SomeFormula (IsNonlinear s.context (place s.names)) m.formulas
  IsCause error.Division = SomeFormula (Divides s.context (place s.names)) m.formulas
  IsCause error.CongruenceContext = SomeFormula (CongruenceInFields s.context) m.formulas
  IsCause error.Context = m.must.context s limit
  IsCause error.Modulus = SomeFormula (IsBadModulus s.context (place s.names)) m.formulas
  IsCause error.Depth = SomeFormula (IsTooDeep (known s)) m.formulas
  IsCause error.Point = m.must.point s limit
  IsCause error.Unvalued = m.must.unvalued s limit
  IsCause error.Quantified = m.must.quantified s limit
  IsCause error.Overflow = SomeFormula (OverflowsInReading s.context (known s) (place s.names)) m.formulas ⊎ m.must.overflow s limit
  IsCause error.Nodes = m.must.nodes s limit
  IsCause error.Bindings = HasNoRoom s.bound u.target ⊎ ((t : Tree) × Determines m.answer s t × IsTooLarge u.target t)
  IsCause error.Text = (u.printed ≡ true) × (HasLongLine m s u ⊎ m.must.text s limit)
  IsCause error.Memory = ⊥

  -- A cause applies for which the command may be refused and need not be. Where the command is spared there is none.
  abbrev pub MayBeCause : StatementError → Type 0
  MayBeCause error.Long = ⊥
  MayBeCause error.Lexical = ⊥
  MayBeCause error.Nesting = ⊥
  MayBeCause error.Syntax = ⊥
  MayBeCause error.Unbound = ⊥
  MayBeCause error.FormulaAsTerm = ⊥
  MayBeCause error.Nonlinear = ⊥
  MayBeCause error.Division = ⊥
  MayBeCause error.CongruenceContext = ⊥
  MayBeCause error.Context = m.may.context s limit
  MayBeCause error.Modulus = ⊥
  MayBeCause error.Depth = ⊥
  MayBeCause error.Point = m.may.point s limit
  MayBeCause error.Unvalued = m.may.unvalued s limit
  MayBeCause error.Quantified = m.may.quantified s limit
  MayBeCause error.Overflow = (¬ (m.spared s limit u)) × m.may.overflow s limit
  MayBeCause error.Nodes = (¬ (m.spared s limit u)) × m.may.nodes s limit
  MayBeCause error.Bindings = (¬ (m.spared s limit u)) × (t : Tree) × IsMeasureOf m.answer s limit t × HasManyNodes u.target t
  MayBeCause error.Text = (¬ (m.spared s limit u)) × (u.printed ≡ true) × (((t : Tree) × IsMeasureOf m.answer s limit t × (text_limit < length (formula_line u.target s.names t))) ⊎ m.may.text s limit)
  MayBeCause error.Memory = ⊥

  -- none of these causes applies
  abbrev pub HasNone : List StatementError → Type 0
  HasNone ds = EachOf (λ d. ¬ (IsCause d)) ds

  -- no cause applies
  abbrev pub IsAccepted : Type 0
  IsAccepted = HasNone order

  -- the word may be answered, and no earlier cause applies
  pub record IsFirst (e : StatementError) : Type 0 where
    pub applies : IsCause e ⊎ MayBeCause e
    pub first : HasNone (before e)
