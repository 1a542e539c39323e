-- Why a command that is read is refused: each cause on its own, and which comes first.
use Rattle.std.specs.Prelude.{◌≡◌, ◌⊎◌, ◌<◌, ℕ, List, [], true, false, not, Some, None, is_some, length}
use Rattle.std.specs.List.{list_any}
use Rattle.logic_meaning.specs.Context.{Context}
use Rattle.logic_meaning.specs.Some.{EachOf}
use Rattle.language_meaning.specs.Value.{same_name}
use Rattle.language_meaning.specs.Causes.{IsTooDeep}
use Rattle.language_meaning.specs.declared.static_error.StaticError.{StaticError}
use Rattle.language_meaning.specs.declared.static_error.StaticError.TheVariants as static
use Rattle.logic_meaning.specs.Writing.{text_limit}
use Rattle.smt_language.specs.Trees.{ExpressionTree, CommandTree, Choose, Ignored, Declare, Assert, Check, Values, Exit}
use Rattle.smt_language.specs.Meaning.{sort_name}
use Rattle.smt_language.specs.Asserted.{is_undeclared, MeansNoFormula, MeansTooMany, MeetsFirst}
use Rattle.program_meaning.specs.declared.smt_error.SmtError.{SmtError}
use Rattle.program_meaning.specs.declared.smt_error.SmtError.TheVariants as error
use Rattle.program_meaning.specs.Sentence.{sentence}
use Rattle.program_meaning.specs.SmtState.{State, Kept, is_declared}
use Rattle.program_meaning.specs.SmtState as state
use Rattle.program_meaning.specs.Texts.{values_text}
use Rattle.program_meaning.specs.SmtWords.{before, order}

module _ (s : State) (limit : ℕ) where
  -- ---- mode

  -- the command does not stand where it may: a logic is chosen once and before what needs it, and values are asked for only after sat
  abbrev pub IsOutOfTurn : CommandTree → Type 0
  IsOutOfTurn (Choose sort) = is_some s.logic ≡ true
  IsOutOfTurn Ignored = ⊥
  IsOutOfTurn (Declare x) = s.logic ≡ None
  IsOutOfTurn (Assert e) = s.logic ≡ None
  IsOutOfTurn Check = s.logic ≡ None
  IsOutOfTurn (Values xs) = (s.logic ≡ None) ⊎ (s.kept ≡ state.Nothing)
  IsOutOfTurn Exit = ⊥

  -- ---- names and sorts

  -- a name is declared twice
  abbrev pub DeclaresAgain : CommandTree → Type 0
  DeclaresAgain (Declare x) = is_declared s x.name ≡ true
  DeclaresAgain (Choose sort) = ⊥
  DeclaresAgain Ignored = ⊥
  DeclaresAgain (Assert e) = ⊥
  DeclaresAgain Check = ⊥
  DeclaresAgain (Values xs) = ⊥
  DeclaresAgain Exit = ⊥

  -- a symbol stands there that is neither declared nor bound
  abbrev pub NamesUndeclared : CommandTree → Type 0
  NamesUndeclared (Assert e) = is_undeclared s.declared e ≡ true
  NamesUndeclared (Values xs) = list_any (λ x. not (is_declared s x)) xs ≡ true
  NamesUndeclared (Choose sort) = ⊥
  NamesUndeclared Ignored = ⊥
  NamesUndeclared (Declare x) = ⊥
  NamesUndeclared Check = ⊥
  NamesUndeclared Exit = ⊥

  -- in the theory of the logic the command is so
  abbrev pub InTheory : (Context → Type 0) → Type 0
  InTheory P = (c : Context) × (s.logic ≡ Some c) × P c

  -- the sort of a declaration is not that of the logic, or what is asserted is no formula of it
  abbrev pub IsOfOtherSort : CommandTree → Type 0
  IsOfOtherSort (Declare x) = InTheory (λ c. same_name (sort_name c) x.sort ≡ false)
  IsOfOtherSort (Assert e) = InTheory (λ c. MeansNoFormula c s.declared e)
  IsOfOtherSort (Choose sort) = ⊥
  IsOfOtherSort Ignored = ⊥
  IsOfOtherSort Check = ⊥
  IsOfOtherSort (Values xs) = ⊥
  IsOfOtherSort Exit = ⊥

  -- ---- what is asserted

  -- the command is an assertion, and it is so
  abbrev pub OfAssertion : (Context → ExpressionTree → Type 0) → CommandTree → Type 0
  OfAssertion P (Assert e) = InTheory (λ c. P c e)
  OfAssertion P (Choose sort) = ⊥
  OfAssertion P Ignored = ⊥
  OfAssertion P (Declare x) = ⊥
  OfAssertion P Check = ⊥
  OfAssertion P (Values xs) = ⊥
  OfAssertion P Exit = ⊥

  -- the cause applies to the formula of the assertion, and none that is looked for before
  abbrev pub Meets : StaticError → CommandTree → Type 0
  Meets cause k = OfAssertion (λ c e. MeetsFirst c limit s.declared e cause) k

  -- ---- what is checked

  -- the sentence that is checked is too high
  abbrev pub ChecksTooDeep : CommandTree → Type 0
  ChecksTooDeep Check = IsTooDeep [] (sentence s)
  ChecksTooDeep (Choose sort) = ⊥
  ChecksTooDeep Ignored = ⊥
  ChecksTooDeep (Declare x) = ⊥
  ChecksTooDeep (Assert e) = ⊥
  ChecksTooDeep (Values xs) = ⊥
  ChecksTooDeep Exit = ⊥

  -- ---- values

  -- values are asked for, and what is kept is so
  abbrev pub OfValues : (Kept → List (List ℕ) → Type 0) → CommandTree → Type 0
  OfValues P (Values xs) = P s.kept xs
  OfValues P (Choose sort) = ⊥
  OfValues P Ignored = ⊥
  OfValues P (Declare x) = ⊥
  OfValues P (Assert e) = ⊥
  OfValues P Check = ⊥
  OfValues P Exit = ⊥

  -- the line of the values is past the limit
  abbrev pub HasLongLine : Kept → List (List ℕ) → Type 0
  HasLongLine (state.Values vs) xs = text_limit < length (values_text s.declared vs xs)
  HasLongLine state.Nothing xs = ⊥
  HasLongLine state.TooLarge xs = ⊥

  -- ---- causes

  -- The cause applies to a command that is read.
  abbrev pub IsCause : SmtError → CommandTree → Type 0
  IsCause error.Lexical k = ⊥
  IsCause error.Nesting k = ⊥
  IsCause error.Syntax k = ⊥
  IsCause error.Mode k = IsOutOfTurn k
  IsCause error.Declared k = DeclaresAgain k
  IsCause error.Undeclared k = NamesUndeclared k
  IsCause error.Sort k = IsOfOtherSort k
  IsCause error.Nodes k = OfAssertion (λ c e. MeansTooMany c limit s.declared e) k
  IsCause error.Nonlinear k = Meets static.Nonlinear k
  IsCause error.Division k = Meets static.Division k
  IsCause error.Depth k = Meets static.Depth k ⊎ ChecksTooDeep k
  IsCause error.Overflow k = Meets static.Overflow k ⊎ OfValues (λ kept xs. kept ≡ state.TooLarge) k
  IsCause error.Text k = OfValues HasLongLine k
  IsCause error.Memory k = ⊥

  -- none of these causes applies
  abbrev pub HasNone : List SmtError → CommandTree → Type 0
  HasNone ds k = EachOf (λ d. ¬ (IsCause d k)) ds

  -- no cause applies
  abbrev pub IsAccepted : CommandTree → Type 0
  IsAccepted k = HasNone order k

  -- the cause applies, and none that comes before it
  pub record IsFirst (e : SmtError) (k : CommandTree) : Type 0 where
    pub applies : IsCause e k
    pub first : HasNone (before e) k
