-- A script of statements that are never refused is unrefused.
use Rattle.std.proofs.Common.{ℕ, Bool, false, List}
use Rattle.std.specs.List.{AllByRecursion}
use Rattle.language_meaning.specs.Statements.{StatementTree}
use Rattle.language_meaning.specs.Pieces.{IsPiece}
use Rattle.redlog_tokens.proofs.Cutting.{none_or_piece}
use Rattle.program_meaning.specs.State.{State}
use Rattle.session_commands.specs.Accepted.{IsNeverRefused}
use Rattle.program_meaning.specs.Run.{AnswersPiece, RunTo, begin, on, piece_bytes}
use Rattle.program_meaning.specs.Unrefused.{IsUnrefusedPiece}
use Rattle.redlog_run.specs.WithoutFormulas as script
use Rattle.redlog_run.specs.WithoutFormulas.{SpellsFrom}
use Rattle.redlog_run.specs.Accepted.{NeverRefusedIsUnrefused}
use Rattle.redlog_run.proofs.Choices.{spells_again, goes_on_again}
use Rattle.redlog_run.proofs.Ending.{spells_no_finish}

-- such statements are spelled from this place on
record Goes (text : List ℕ) (from : ℕ) : Type 0 where
  statements : List StatementTree
  spelled : SpellsFrom text from statements
  accepted : AllByRecursion IsNeverRefused statements

module _ (limit : ℕ) (text : List ℕ) where
  module _ {from start end : ℕ} (p : IsPiece text from start end) where
    after_piece : {s next : State} {lines : List ℕ} {refusal : Bool} {ts : List StatementTree} → AnswersPiece s limit (piece_bytes text start end) start false lines refusal next → SpellsFrom text from ts → AllByRecursion IsNeverRefused ts
        → Goes text end
    after_piece a (script.over none) w = absurd (none_or_piece text from start end none p)
    after_piece {s = s} a (script.last {t = t} q h finish) w =
        absurd (spells_no_finish s limit (piece_bytes text start end) start a (t, spells_again text q p t h, finish))
    after_piece a (script.then {ts = ts} q h other rest) w = record { statements = ts; spelled = goes_on_again text q p ts rest; accepted = w.1 }

    piece_spelled : {ts : List StatementTree} → SpellsFrom text from ts → AllByRecursion IsNeverRefused ts → (s : State) → IsUnrefusedPiece s limit (piece_bytes text start end)
    piece_spelled (script.over none) w s = absurd (none_or_piece text from start end none p)
    piece_spelled (script.last {t = t} q h finish) w s = record { statement = t; spelled = spells_again text q p t h; unrefused = w.0 s limit }
    piece_spelled (script.then {t = t} q h other rest) w s = record { statement = t; spelled = spells_again text q p t h; unrefused = w.0 s limit }

  goes_to : {to : ℕ} {s : State} {lines : List ℕ} {refusal : Bool} → Goes text 0 → RunTo limit text to s lines refusal → Goes text to
  goes_to g begin = g
  goes_to g (on r p a e f) = let before = goes_to g r in after_piece p a before.spelled before.accepted

pub never_refused : NeverRefusedIsUnrefused
never_refused text ts h w limit = λ to start end s lines r p.
    let g = goes_to limit text (record { statements = ts; spelled = h; accepted = w }) r in
    piece_spelled limit text p g.spelled g.accepted s
