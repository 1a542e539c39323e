-- What a statement is answered with in a state, and the state after it.
use Rattle.std.specs.Prelude.{◌≡◌, ◌⊎◌, ◌≤◌, ℕ, List, [], length, Bool, true, false, Some, None, Result, Ok, Err}
use Rattle.std.specs.List.{fold}
use Rattle.logic_meaning.specs.Tree.{Tree, tree_distinct}
use Rattle.language_meaning.specs.Statements.{ActionTree, Empty, Ignored, Finish, Choose, Say, Assign, Assume, Retract, StatementTree}
use Rattle.language_meaning.specs.Trees.{FormulaTrees}
use Rattle.language_meaning.specs.Holes.{Nests}
use Rattle.language_meaning.specs.Statement.{Spells, Unread}
use Rattle.language_meaning.specs.declared.token.ReadError.TheVariants as reading
use Rattle.logic_meaning.specs.Writing.{text_limit}
use Rattle.program_meaning.specs.declared.limit.TheConstants.{MOST_SUBFORMULAS}
use Rattle.program_meaning.specs.declared.line.Line.{Line}
use Rattle.program_meaning.specs.declared.line.Line.TheVariants as line
use Rattle.program_meaning.specs.declared.line.StatementError.{StatementError}
use Rattle.program_meaning.specs.declared.line.StatementError.TheVariants as error
use Rattle.program_meaning.specs.Words.{context_text}
use Rattle.program_meaning.specs.State.{State, with_names, with_bound, with_standing, with_answers, theory_of, chosen}
use Rattle.program_meaning.specs.Standing.{grown, standing_text}
use Rattle.program_meaning.specs.Meaning.{Meaning, Answer, OfFormula, OfText, MayGive, text_variables, meaning, assumption_meaning}
use Rattle.program_meaning.specs.Uses.{formula_line}
use Rattle.program_meaning.specs.Causes.{IsFirst, IsAccepted}
use Rattle.program_meaning.specs.Inside.{GivesAll, SomeStops}
use Rattle.logic_meaning.specs.Names.{with_name}

-- the line is this text, where it is printed, and then it is within the limit of a line
abbrev pub IsLine : Bool → List ℕ → Line → Type 0
IsLine printed text line.Nothing = printed ≡ false
IsLine printed text (line.Printed bytes) = (printed ≡ true) × (bytes.items ≡ text) × (length text ≤ text_limit)
IsLine printed text line.Finished = ⊥

-- ---- commands

-- The text that a command answers with under a limit of nodes, in a state in which its variables have their numbers. The names are those after the answer.
abbrev pub Tells : Answer → State → ℕ → List (List ℕ) → List ℕ → Type 0
Tells (OfFormula a) s limit names text = (t : Tree) × MayGive (OfFormula a) s limit t × (text ≡ formula_line None names t)
Tells (OfText tells) s limit names text = tells s limit text

-- No cause of a refusal applies to a command, and it is answered with the line of such a text. The state after it has the names after the answer.
pub record AnswersSaid (m : Meaning) (s : State) (limit : ℕ) (printed : Bool) (answer : Line) (next : State) : Type 0 where
  pub accepted : IsAccepted m s limit (record { target = None; printed = printed })
  pub names : List (List ℕ)
  pub named : m.names s names
  pub text : List ℕ
  pub told : Tells m.answer s limit names text
  pub line : IsLine printed text answer
  pub after : next ≡ with_names s names

-- the same of an assignment, which binds the formula of its line; it has no more distinct subformulas than a bound formula may have
pub record AnswersAssignment (m : Meaning) (s : State) (limit : ℕ) (printed : Bool) (x : List ℕ) (answer : Line) (next : State) : Type 0 where
  pub accepted : IsAccepted m s limit (record { target = Some x; printed = printed })
  pub formula : Tree
  pub allowed : MayGive m.answer s limit formula
  pub names : List (List ℕ)
  pub named : m.names s names
  pub line : IsLine printed (formula_line (Some x) names formula) answer
  pub small : tree_distinct formula ≤ MOST_SUBFORMULAS
  pub binds : next ≡ with_bound (with_names s names) x formula

-- No cause of a refusal applies to the assumptions, and the line is that of the standing ones with these behind them, which are the standing ones in the state after it.
pub record AnswersAssumptions (given : FormulaTrees) (s : State) (limit : ℕ) (printed : Bool) (answer : Line) (next : State) : Type 0 where
  pub said : AnswersSaid (assumption_meaning given) s limit printed answer s
  pub after : next ≡ with_standing s (grown s given)

-- ---- statements

-- the variables of a statement in the order of the text, where these commands stand inside its formulas
abbrev pub statement_variables : Nests → ActionTree → List (List ℕ)
statement_variables ns Empty = []
statement_variables ns Ignored = []
statement_variables ns Finish = []
statement_variables ns (Choose setting) = []
statement_variables ns (Say c) = text_variables ns (meaning c)
statement_variables ns (Assign x c) = text_variables ns (meaning c)
statement_variables ns (Assume given) = text_variables ns (assumption_meaning given)
statement_variables ns Retract = []

-- the state with the new variables of the statement after its names
abbrev pub with_variables : Nests → ActionTree → State → State
with_variables ns a s = with_names s (fold with_name s.names (statement_variables ns a))

-- The commands inside the statement are answered, where its variables have their numbers. The state that is reached has their answers and the names after them.
pub record IsReached (t : StatementTree) (s : State) (limit : ℕ) (reached : State) : Type 0 where
  pub answers : List Tree
  pub names : List (List ℕ)
  pub given : GivesAll t.inner (with_variables t.inner t.action s) limit answers names
  pub is : reached ≡ with_answers (with_names s names) answers

-- The line of an accepted statement, and the state after it. The statement is looked at in a state with the answers of the commands inside it, in which its variables have
-- their numbers.
abbrev pub Answers : State → ℕ → Bool → ActionTree → Line → State → Type 0
Answers s limit printed Empty answer next = (answer ≡ line.Nothing) × (next ≡ s)
Answers s limit printed Ignored answer next = (answer ≡ line.Nothing) × (next ≡ s)
Answers s limit printed Finish answer next = (answer ≡ line.Finished) × (next ≡ s)
Answers s limit printed (Choose setting) answer next = IsLine printed (context_text (theory_of setting)) answer × (next ≡ chosen s (theory_of setting))
Answers s limit printed (Say c) answer next = AnswersSaid (meaning c) s limit printed answer next
Answers s limit printed (Assign x c) answer next = AnswersAssignment (meaning c) s limit printed x answer next
Answers s limit printed (Assume given) answer next = AnswersAssumptions given s limit printed answer next
Answers s limit printed Retract answer next = IsLine printed (standing_text s.names []) answer × (next ≡ with_standing s [])

-- the word with which the statement is refused, by itself
abbrev pub RefusesAction : State → ℕ → Bool → ActionTree → StatementError → Type 0
RefusesAction s limit printed Empty e = ⊥
RefusesAction s limit printed Ignored e = ⊥
RefusesAction s limit printed Finish e = ⊥
RefusesAction s limit printed (Choose setting) e = ⊥
RefusesAction s limit printed (Say c) e = IsFirst (meaning c) s limit (record { target = None; printed = printed }) e
RefusesAction s limit printed (Assign x c) e = IsFirst (meaning c) s limit (record { target = Some x; printed = printed }) e
RefusesAction s limit printed (Assume given) e = IsFirst (assumption_meaning given) s limit (record { target = None; printed = printed }) e
RefusesAction s limit printed Retract e = ⊥

-- a command inside the statement is refused with the word, or each is answered and the statement is refused by itself
abbrev pub RefusesStatement : State → ℕ → StatementTree → StatementError → Type 0
RefusesStatement s limit t e = SomeStops t.inner (with_variables t.inner t.action s) limit e ⊎ ((reached : State) × IsReached t s limit reached × RefusesAction reached limit t.printed t.action e)

-- ---- pieces

-- The bytes of a piece spell a statement, the commands inside it are answered, and it is answered with the line. Their answers are given up after it.
pub record IsAnswer (s : State) (limit : ℕ) (piece : List ℕ) (answer : Line) (next : State) : Type 0 where
  pub statement : StatementTree
  pub spelled : Spells piece statement
  pub state : State
  pub reached : IsReached statement s limit state
  pub after : State
  pub answered : Answers state limit statement.printed statement.action answer after
  pub left : next ≡ with_answers after []

-- the bytes spell a statement that is refused with the word
pub record SpellsRefused (s : State) (limit : ℕ) (piece : List ℕ) (e : StatementError) : Type 0 where
  pub statement : StatementTree
  pub spelled : Spells piece statement
  pub refused : RefusesStatement s limit statement e

-- Why a piece is refused. A refusal changes nothing; of want of memory nothing is said.
abbrev pub IsRefused : State → ℕ → List ℕ → State → StatementError → Type 0
IsRefused s limit piece next error.Long = (next ≡ s) × Unread piece reading.Long
IsRefused s limit piece next error.Lexical = (next ≡ s) × Unread piece reading.Lexical
IsRefused s limit piece next error.Nesting = (next ≡ s) × Unread piece reading.Nesting
IsRefused s limit piece next error.Syntax = (next ≡ s) × Unread piece reading.Syntax
IsRefused s limit piece next error.Unbound = (next ≡ s) × SpellsRefused s limit piece error.Unbound
IsRefused s limit piece next error.FormulaAsTerm = (next ≡ s) × SpellsRefused s limit piece error.FormulaAsTerm
IsRefused s limit piece next error.Nonlinear = (next ≡ s) × SpellsRefused s limit piece error.Nonlinear
IsRefused s limit piece next error.Division = (next ≡ s) × SpellsRefused s limit piece error.Division
IsRefused s limit piece next error.CongruenceContext = (next ≡ s) × SpellsRefused s limit piece error.CongruenceContext
IsRefused s limit piece next error.Context = (next ≡ s) × SpellsRefused s limit piece error.Context
IsRefused s limit piece next error.Modulus = (next ≡ s) × SpellsRefused s limit piece error.Modulus
IsRefused s limit piece next error.Depth = (next ≡ s) × SpellsRefused s limit piece error.Depth
IsRefused s limit piece next error.Point = (next ≡ s) × SpellsRefused s limit piece error.Point
IsRefused s limit piece next error.Unvalued = (next ≡ s) × SpellsRefused s limit piece error.Unvalued
IsRefused s limit piece next error.Quantified = (next ≡ s) × SpellsRefused s limit piece error.Quantified
IsRefused s limit piece next error.Overflow = (next ≡ s) × SpellsRefused s limit piece error.Overflow
IsRefused s limit piece next error.Nodes = (next ≡ s) × SpellsRefused s limit piece error.Nodes
IsRefused s limit piece next error.Bindings = (next ≡ s) × SpellsRefused s limit piece error.Bindings
IsRefused s limit piece next error.Text = (next ≡ s) × SpellsRefused s limit piece error.Text
IsRefused s limit piece next error.Memory = Unit {0}

-- What a piece is answered with in a state, under a limit of nodes, and the state after it.
abbrev pub Reply : State → ℕ → List ℕ → Result Line StatementError → State → Type 0
Reply s limit piece (Ok answer) next = IsAnswer s limit piece answer next
Reply s limit piece (Err e) next = IsRefused s limit piece next e
