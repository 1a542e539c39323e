-- What a session answers where it is given the text of a formula.
use Rattle.std.specs.Prelude.{◌≡◌, ◌≤◌, ℕ, List, [], ◌++◌, length, codes, true, Result, Ok, Err}
use Rattle.std.specs.declared.alloc.Global.{Global}
use Rattle.std.specs.declared.vec.Vec.{Vec}
use Rattle.logic_meaning.specs.Every.{Every}
use Rattle.logic_meaning.specs.Sizes.{height}
use Rattle.logic_meaning.specs.Tree.{Tree}
use Rattle.language_meaning.specs.Trees.{FormulaTree}
use Rattle.language_meaning.specs.Holes.{alone}
use Rattle.language_meaning.specs.Statements.{CommandTree, Echo, Nnf, Pnf, Dnf, Cnf, Simpl, Qe, Qea, Holds, Sample, Grid, Certify, Check, Least, Say}
use Rattle.language_meaning.specs.Causes.{most_height}
use Rattle.language_meaning.specs.Statement.{Spells, IsDeep}
use Rattle.language_meaning.specs.declared.limit.TheConstants.{BYTE_LIMIT}
use Rattle.logic_meaning.specs.Text.{tree_text}
use Rattle.logic_meaning.specs.Numbers.{IsAtomInLimit}
use Rattle.round_trip.specs.Round.{AreVariables, IsReadable, line_text, printed_echo}
use Rattle.program_meaning.specs.declared.line.Line.{Line}
use Rattle.program_meaning.specs.declared.line.Line.TheVariants as line
use Rattle.program_meaning.specs.declared.line.StatementError.{StatementError}
use Rattle.program_meaning.specs.declared.line.StatementError.TheVariants as error
use Rattle.program_meaning.specs.State.{State}
use Rattle.program_meaning.specs.Meaning.{meaning, MayGive}
use Rattle.session_state.specs.Numbered.{numbered}
use Rattle.session_state.specs.FormulaGiven.{GivesFormula}
use Rattle.session_state.specs.Keeping.{IsSessionFormula}
use Rattle.program_meaning.specs.Reply.{Reply}

-- Nothing is bound, no name has two numbers, and each name is one that a script can write. No answers of commands inside a formula are kept.
pub record IsBare (s : State) : Type 0 where
  pub names : AreVariables s.names
  pub unbound : s.bound ≡ []
  pub settled : s.answers ≡ []

-- a formula as the session has it, with numbers within the limit, and no higher than a resolved formula may be
pub record IsOwnFormula (s : State) (t : Tree) : Type 0 where
  pub formula : IsSessionFormula s.context (length s.names) t
  pub numbers : Every IsAtomInLimit t
  pub low : height t ≤ most_height

-- the line with this text is printed, and the state stays; or memory ran out
abbrev pub IsSameLine : State → List ℕ → Result Line StatementError → State → Type 0
IsSameLine s text (Ok (line.Printed bytes)) next = (bytes.items ≡ text) × (next ≡ s)
IsSameLine s text (Err error.Memory) next = Unit {0}
IsSameLine s text _ next = ⊥

-- in this state the piece is answered with the line of this text, and with nothing else but want of memory
pub record IsAnsweredBy (s : State) (limit : ℕ) (piece text : List ℕ) : Type 0 where
  pub answered : (bytes : Vec ℕ Global) → bytes.items ≡ text → Reply s limit piece (Ok (line.Printed bytes)) s
  pub only : (result : Result Line StatementError) (next : State) → Reply s limit piece result next → IsSameLine s text result next

-- The text of a formula as the session has it, with ; behind it, is answered with the same text, where the reader takes it
-- and nothing is bound.
abbrev pub TextIsAnswered : Type 0
TextIsAnswered = (s : State) (limit : ℕ) (t : Tree) → IsBare s → IsOwnFormula s t → IsReadable s.names t → IsAnsweredBy s limit (line_text s.names t) (tree_text s.names t)

-- ---- which states and formulas these are

-- After a statement that is answered the names are ones that a script can write, where they were before.
abbrev pub NamesStayWritable : Type 0
NamesStayWritable = (s : State) (limit : ℕ) (piece : List ℕ) (answer : Line) (next : State) → AreVariables s.names → Reply s limit piece (Ok answer) next → AreVariables next.names

-- the command asks for the formula as it is
abbrev pub IsEcho : CommandTree → Type 0
IsEcho (Echo f) = Unit {0}
IsEcho (Nnf f) = ⊥
IsEcho (Pnf f) = ⊥
IsEcho (Dnf f) = ⊥
IsEcho (Cnf f) = ⊥
IsEcho (Simpl f given) = ⊥
IsEcho (Qe f given) = ⊥
IsEcho (Qea f given) = ⊥
IsEcho (Holds f es) = ⊥
IsEcho (Sample f es) = ⊥
IsEcho (Grid f axes) = ⊥
IsEcho (Certify written) = ⊥
IsEcho (Check written ms) = ⊥
IsEcho (Least written target) = ⊥

-- The text is that of a formula which the command may give in the state s, in which its variables have their numbers. In the state after it the formula is one as the
-- session has it, and the text has its names. It is no higher than a resolved formula may be where the command asks for the formula as it is. Where it is so low, and the
-- text no longer and no deeper than the reader takes it, the text is answered with itself.
pub record IsPrinted (s : State) (limit : ℕ) (c : CommandTree) (text : List ℕ) (next : State) : Type 0 where
  pub tree : Tree
  pub given : MayGive (meaning c).answer s limit tree
  pub text_is : text ≡ tree_text next.names tree
  pub formula : IsSessionFormula next.context (length next.names) tree
  pub low : IsEcho c → height tree ≤ most_height
  pub answered : height tree ≤ most_height → length (text ++ codes ";") ≤ BYTE_LIMIT → ¬ (IsDeep (text ++ codes ";")) → (more : ℕ) → IsAnsweredBy next more (text ++ codes ";") text

-- What each formula command, inside which no other stands, prints in a state in which nothing is bound is such a text, and the state after it is again one in
-- which nothing is bound.
abbrev pub PrintedIsFormula : Type 0
PrintedIsFormula =
    (s : State) (limit : ℕ) (piece : List ℕ) (c : CommandTree) (bytes : Vec ℕ Global) (next : State) → IsBare s → GivesFormula (meaning c).answer →
    Spells piece (record { action = Say c; printed = true; inner = alone }) → Reply s limit piece (Ok (line.Printed bytes)) next →
    IsBare next × IsPrinted (numbered (meaning c) s) limit c bytes.items next

-- So a line that a formula prints is answered with the same line in the state after it, where it is no longer and no deeper
-- than the reader takes it.
abbrev pub EchoIsAnswered : Type 0
EchoIsAnswered =
    (s : State) (limit : ℕ) (piece : List ℕ) (f : FormulaTree) (bytes : Vec ℕ Global) (next : State) → IsBare s →
    Spells piece (printed_echo f) → Reply s limit piece (Ok (line.Printed bytes)) next →
    length (bytes.items ++ codes ";") ≤ BYTE_LIMIT → ¬ (IsDeep (bytes.items ++ codes ";")) →
    (more : ℕ) → IsAnsweredBy next more (bytes.items ++ codes ";") bytes.items
