-- What the pieces of a script add to the lines, one after another.
use Rattle.std.proofs.Common.{◌≡◌, ◌≢◌, sym, ap, ◌∙◌, subst, refl, ℕ, List, [], ◌++◌, Bool, true, false, ◌||◌, Ok, Err, append_assoc, append-nil}
use Rattle.std.specs.declared.alloc.Global.{Global}
use Rattle.std.specs.declared.vec.Vec.{Vec}
use Rattle.language_meaning.specs.Pieces.{HasNoTokenFrom, IsPiece}
use Rattle.program_meaning.specs.declared.line.Line.{Line}
use Rattle.program_meaning.specs.declared.line.Line.TheVariants as line
use Rattle.program_meaning.specs.declared.line.StatementError.{StatementError}
use Rattle.program_meaning.specs.declared.line.StatementError.TheVariants as error
use Rattle.program_meaning.specs.Words.{word_of}
use Rattle.program_meaning.specs.State.{State}
use Rattle.program_meaning.specs.Reply.{Reply}
use Rattle.program_meaning.specs.Lines.{refusal_line, lines_of}
use Rattle.program_meaning.specs.Run.{finished, answered, refused, Run, over, last, then, piece_bytes}
use Rattle.redlog_run.specs.Adding.{Adds}

or_false : (b : Bool) → b ≡ (b || false)
or_false true = refl
or_false false = refl

or_true : (b : Bool) → true ≡ (b || true)
or_true true = refl
or_true false = refl

or_assoc : (a b c : Bool) → (a || (b || c)) ≡ ((a || b) || c)
or_assoc true b c = refl
or_assoc false b c = refl

module _ (s : State) (limit : ℕ) (piece : List ℕ) (offset : ℕ) (next : State) (lines : List ℕ) (refusal : Bool) where
  pub adds_finished : Reply s limit piece (Ok line.Finished) next → Adds s limit piece offset true next lines refusal lines refusal
  adds_finished r = record { added = []; is_refused = false; answer = finished r; lines_are = sym (append-nil lines); refusal_is = or_false refusal }

  pub adds_line : (answer : Line) (all : List ℕ) (some : Bool) → answer ≢ line.Finished → Reply s limit piece (Ok answer) next → all ≡ lines ++ lines_of answer → some ≡ refusal
      → Adds s limit piece offset false next lines refusal all some
  adds_line answer all some other r e f = record { added = lines_of answer; is_refused = false; answer = answered answer other r; lines_are = e; refusal_is = f ∙ or_false refusal }

  pub adds_refusal : (cause : StatementError) (all : List ℕ) (some : Bool) → cause ≢ error.Memory → Reply s limit piece (Err cause) next → all ≡ lines ++ refusal_line (word_of cause) offset → some ≡ true
      → Adds s limit piece offset false next lines refusal all some
  adds_refusal cause all some other r e f = record { added = refusal_line (word_of cause) offset; is_refused = true; answer = refused cause other r; lines_are = e; refusal_is = f ∙ or_true refusal }

-- what is answered from here on, after these lines, is an answer to the whole
pub record Continues (limit : ℕ) (script : List ℕ) (first : State) (from : ℕ) (s : State) (lines : List ℕ) (refusal : Bool) : Type 0 where
  pub whole : (rest : List ℕ) (more : Bool) → Run limit script from s rest more → Run limit script 0 first (lines ++ rest) (refusal || more)

module _ (limit : ℕ) (script : List ℕ) (first : State) where
  pub begins : (s : State) → s ≡ first → Continues limit script first 0 s [] false
  begins s e = record { whole = λ rest more r. subst (λ (t : State). Run limit script 0 t rest more) e r }

  module _ (from : ℕ) (s : State) (lines : List ℕ) (refusal : Bool) (c : Continues limit script first from s lines refusal) where
    whole_is : (added : List ℕ) (more : Bool) (all : List ℕ) (some : Bool) → all ≡ lines ++ added → some ≡ (refusal || more) → Run limit script from s added more → Run limit script 0 first all some
    whole_is added more all some e f r =
        subst (λ (ls : List ℕ). Run limit script 0 first ls some) (sym e) (subst (λ (b : Bool). Run limit script 0 first (lines ++ added) b) (sym f) (c.whole added more r))

    -- no token is left
    pub ends : HasNoTokenFrom script from → Run limit script 0 first lines refusal
    ends none = whole_is [] false lines refusal (sym (append-nil lines)) (or_false refusal) (over none)

    module _ (start end : ℕ) (piece : IsPiece script from start end) (next : State) (all : List ℕ) (some : Bool) where
      -- the piece ends the script
      pub stops : Adds s limit (piece_bytes script start end) start true next lines refusal all some → Run limit script 0 first all some
      stops a = whole_is a.added a.is_refused all some a.lines_are a.refusal_is (last piece a.answer)

      -- the script goes on after the piece
      pub goes_on : Adds s limit (piece_bytes script start end) start false next lines refusal all some → Continues limit script first end next all some
      goes_on a = record {
        whole = λ rest more r.
            whole_is (a.added ++ rest) (a.is_refused || more) (all ++ rest) (some || more)
            (ap (λ ls. ls ++ rest) a.lines_are ∙ append_assoc lines a.added rest)
            (ap (λ b. b || more) a.refusal_is ∙ sym (or_assoc refusal a.is_refused more))
            (then piece a.answer r refl refl);
      }

-- these lines do not end a script
pub nothing_goes_on : line.Nothing ≢ line.Finished
nothing_goes_on e = absurd (cc)

pub printed_goes_on : (text : Vec ℕ Global) → line.Printed text ≢ line.Finished
printed_goes_on text e = absurd (cc)
