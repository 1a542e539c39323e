-- What a command is answered with, and the state after it.
use Rattle.std.specs.Prelude.{◌≡◌, ℕ, List, [], ◌∷◌, ◌++◌, Some, Result, Ok, Err}
use Rattle.exact_numbers.specs.Frac.{Frac}
use Rattle.logic_meaning.specs.Context.{Context}
use Rattle.language_meaning.specs.Trees.{FormulaTree}
use Rattle.smt_language.specs.declared.command.Sort.{Sort}
use Rattle.smt_language.specs.declared.names.SortedName.{SortedName}
use Rattle.smt_language.specs.Trees.{ExpressionTree, CommandTree, Choose, Ignored, Declare, Assert, Check, Values, Exit}
use Rattle.smt_language.specs.Spells.{Spells, IsUnread}
use Rattle.smt_language.specs.declared.read_error.ReadError.{ReadError}
use Rattle.smt_language.specs.Asserted.{MeansWithin}
use Rattle.program_meaning.specs.declared.smt_error.SmtError.{SmtError}
use Rattle.program_meaning.specs.declared.smt_error.SmtError.TheVariants as error
use Rattle.program_meaning.specs.declared.smt_reply.SmtReply.{SmtReply}
use Rattle.program_meaning.specs.declared.smt_reply.SmtReply.TheVariants as reply
use Rattle.program_meaning.specs.SmtCauses.{IsAccepted, IsFirst}
use Rattle.program_meaning.specs.Checks.{Checks}
use Rattle.program_meaning.specs.SmtState.{State, Kept, theory_of}
use Rattle.program_meaning.specs.SmtState as state
use Rattle.program_meaning.specs.Texts.{values_text}
use Rattle.program_meaning.specs.SmtWords.{of_reading}

-- the reply is this line
abbrev pub Prints : SmtReply → List ℕ → Type 0
Prints (reply.Printed text) line = text.items ≡ line
Prints reply.Nothing line = ⊥
Prints reply.Finished line = ⊥

-- An accepted command is answered so, and leaves this state. What changes the state leaves no values.
pub data Answers (s : State) (limit : ℕ) : CommandTree → SmtReply → State → Type 0 where
  chooses : {sort : Sort} → Answers s limit (Choose sort) reply.Nothing (record s { logic = Some (theory_of sort) })
  ignores : Answers s limit Ignored reply.Nothing s
  declares : {x : SortedName} → Answers s limit (Declare x) reply.Nothing (record s { declared = s.declared ++ x.name ∷ []; kept = state.Nothing })
  asserts : {e : ExpressionTree} {c : Context} {f : FormulaTree} → s.logic ≡ Some c → MeansWithin c limit s.declared e f → Answers s limit (Assert e) reply.Nothing (record s { asserted = s.asserted ++ f ∷ []; kept = state.Nothing })
  checks : {c : Context} {r : SmtReply} {line : List ℕ} {kept : Kept} → s.logic ≡ Some c → Checks c s limit line kept → Prints r line → Answers s limit Check r (record s { kept = kept })
  values : {xs : List (List ℕ)} {r : SmtReply} {vs : List Frac} → s.kept ≡ state.Values vs → Prints r (values_text s.declared vs xs) → Answers s limit (Values xs) r s
  exits : Answers s limit Exit reply.Finished s

-- The bytes of a command are answered so, and leave this state. A refusal changes nothing.
pub data Replies (s : State) (limit : ℕ) (bytes : List ℕ) : Result SmtReply SmtError → State → Type 0 where
  unread : (cause : ReadError) → IsUnread bytes cause → Replies s limit bytes (Err (of_reading cause)) s
  refused : {command : CommandTree} (cause : SmtError) → Spells bytes command → IsFirst s limit cause command → Replies s limit bytes (Err cause) s
  answered : {command : CommandTree} {r : SmtReply} {next : State} → Spells bytes command → IsAccepted s limit command → Answers s limit command r next → Replies s limit bytes (Ok r) next
  out_of_memory : Replies s limit bytes (Err error.Memory) s
