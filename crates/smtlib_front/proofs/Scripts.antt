-- A script is answered command by command.
use Rattle.std.proofs.Common.{◌≡◌, ◌∙◌, inr, ℕ, suc, ◌+◌, ◌<◌, ◌≤◌, Bool, true, false, ◌||◌, List, [], ◌∷◌, ◌++◌, length, take, drop, slice_index_or, refl, sym, ap, subst, append_assoc, add-one, drop-cons}
use Rattle.std.proofs.lemmas.List.{take-append-drop, take_all}
use Rattle.std.proofs.Math.Seq.{take-suc}
use Rattle.std.specs.Prelude.{Option, Ok, Err}
use Rattle.program_meaning.specs.Streams.{Took}
use Rattle.qe_io.specs.declared.stop.AnswerStop.{AnswerStop}
use Rattle.qe_io.specs.declared.stop.AnswerStop.TheVariants as answer
use Rattle.qe_io.proofs.Joined.{took_joined, took_none, front_after}
use Rattle.smt_language.specs.declared.token.SmtCut.{SmtCut}
use Rattle.smt_language.specs.Commands.{AreCommands}
use Rattle.program_meaning.specs.SmtRun.{RunTo, begin, answered, refused, all, ended, SmtRunSo, bytes_of}
use Rattle.program_meaning.specs.SmtState.{State, first_state}
use Rattle.smtlib_front.specs.Represents.{Represents}
use Rattle.smtlib_front.specs.Seen.{Seen}
use Rattle.smtlib_front.specs.SmtAnswersSteps.{Adds, IsAdded, IsLast, AnswersSo, AnswersScript}
use Rattle.smtlib_front.specs.SmtAnswersSteps as steps
use Rattle.smtlib_front.proofs.SmtAnswersPlaces.{LiesIn, command_lies}

pub or_false : (b : Bool) → b ≡ (b || false)
or_false true = refl
or_false false = refl

pub or_true : (b : Bool) → true ≡ (b || true)
or_true true = refl
or_true false = refl

-- the commands in front, and what one more adds
runs_on : (limit : ℕ) (script : List ℕ) (front : List SmtCut) (cut : SmtCut) (s next : State) (lines more : List ℕ) (refusal added : Bool) → RunTo limit script front s lines refusal
    → Adds s limit (bytes_of script cut) cut.start more added next → RunTo limit script (front ++ cut ∷ []) next (lines ++ more) (refusal || added)
runs_on limit script front cut s next lines more refusal added runs (steps.answered r other replies) =
    subst (RunTo limit script (front ++ cut ∷ []) next (lines ++ more)) (or_false refusal) (answered cut r runs other replies)
runs_on limit script front cut s next lines more refusal added runs (steps.refused cause other replies) =
    subst (RunTo limit script (front ++ cut ∷ []) next (lines ++ more)) (or_true refusal) (refused cut cause runs other replies)

-- the commands before this place are answered, and their lines were written
pub record Answering (limit : ℕ) (script : List ℕ) (cuts : List SmtCut) (i : ℕ) (wrote after : Option (List ℕ)) (m : Seen) (refusal : Bool) : Type 0 where
  pub state : State
  pub lines : List ℕ
  pub runs : RunTo limit script (take i cuts) state lines refusal
  pub took : Took wrote after lines
  pub represents : Represents m state

-- before the first command
pub begins : (limit : ℕ) (script : List ℕ) (cuts : List SmtCut) (wrote : Option (List ℕ)) (m : Seen) → Represents m first_state → Answering limit script cuts 0 wrote wrote m false
begins limit script cuts wrote m represents = record { state = first_state; lines = []; runs = begin; took = took_none wrote; represents = represents }

-- the command at a place
abbrev pub cut_at : List SmtCut → ℕ → SmtCut
cut_at cuts i = slice_index_or cuts i (record { start = 0; end = 0 })

split_at : (cuts : List SmtCut) (i : ℕ) → i < length cuts → cuts ≡ take i cuts ++ cut_at cuts i ∷ drop (suc i) cuts
split_at cuts i inside = sym (take-append-drop i cuts) ∙ ap (λ (rest : List SmtCut). take i cuts ++ rest) (drop-cons cuts i (record { start = 0; end = 0 }) inside)

front_more : (cuts : List SmtCut) (i : ℕ) → i < length cuts → take (i + 1) cuts ≡ take i cuts ++ cut_at cuts i ∷ []
front_more cuts i inside = ap (λ (n : ℕ). take n cuts) (add-one i) ∙ take-suc cuts i (record { start = 0; end = 0 }) inside

-- the places of the command at a place
pub lies_here : (script : List ℕ) (cuts : List SmtCut) (i : ℕ) → AreCommands script cuts → i < length cuts → LiesIn (length script) (cut_at cuts i)
lies_here script cuts i are inside = command_lies script (take i cuts) (drop (suc i) cuts) (cut_at cuts i) (subst (AreCommands script) (split_at cuts i inside) are)

module _ (limit : ℕ) (script : List ℕ) (cuts : List SmtCut) (i : ℕ) (are : AreCommands script cuts) (wrote now after : Option (List ℕ)) (m later : Seen) (refusal : Bool) (a : Answering limit script cuts i wrote now m refusal) where
  runs_so : SmtRunSo limit script a.lines
  runs_so = record { front = take i cuts; rest = drop i cuts; are = subst (AreCommands script) (sym (take-append-drop i cuts)) are; state = a.state; refusal = refusal; runs = a.runs }

  -- all commands are answered
  pub whole_answers : length cuts ≤ i → AnswersScript limit script wrote now (Ok refusal)
  whole_answers past = (
    a.lines,
    record { cuts = cuts; are = are; answers = all (subst (λ (cs : List SmtCut). RunTo limit script cs a.state a.lines refusal) (take_all i cuts past) a.runs) },
    a.took,
  )

  module _ (inside : i < length cuts) where
    -- one more
    pub goes_on : (added : Bool) → IsAdded a.state limit (bytes_of script (cut_at cuts i)) (cut_at cuts i).start now after later added → Answering limit script cuts (i + 1) wrote after later (refusal || added)
    goes_on added b = record {
      state = b.next;
      lines = a.lines ++ b.lines;
      runs = subst (λ (cs : List SmtCut). RunTo limit script cs b.next (a.lines ++ b.lines) (refusal || added)) (sym (front_more cuts i inside))
          (runs_on limit script (take i cuts) (cut_at cuts i) a.state b.next a.lines b.lines refusal added a.runs b.adds);
      took = took_joined wrote now after a.lines b.lines a.took b.took;
      represents = b.represents;
    }

    -- the command ends the script
    pub last_answers : IsLast a.state limit (bytes_of script (cut_at cuts i)) now after → AnswersScript limit script wrote after (Ok refusal)
    last_answers l = (
      a.lines,
      record {
        cuts = cuts;
        are = are;
        answers = ended (record {
          front = take i cuts;
          last = cut_at cuts i;
          rest = drop (suc i) cuts;
          cut = split_at cuts i inside;
          state = a.state;
          next = l.next;
          before = a.runs;
          ends = l.ends;
        });
      },
      subst (λ (w : Option (List ℕ)). Took wrote w a.lines) (sym l.unwritten) a.took,
    )

    -- the lines stop
    pub stopped_answers : (stop : AnswerStop) → AnswersSo a.state limit (bytes_of script (cut_at cuts i)) (cut_at cuts i).start now after later (Err stop) → AnswersScript limit script wrote after (Err stop)
    stopped_answers answer.Memory e = inr (a.lines, runs_so, subst (λ (w : Option (List ℕ)). Took wrote w a.lines) (sym e) a.took)
    stopped_answers answer.Write f = (
      a.lines ++ f.lines,
      record {
        front = take i cuts ++ cut_at cuts i ∷ [];
        rest = drop (suc i) cuts;
        are = subst (AreCommands script) (split_at cuts i inside ∙ sym (append_assoc (take i cuts) (cut_at cuts i ∷ []) (drop (suc i) cuts))) are;
        state = f.next;
        refusal = refusal || f.refusal;
        runs = runs_on limit script (take i cuts) (cut_at cuts i) a.state f.next a.lines f.lines refusal f.refusal a.runs f.adds;
      },
      front_after wrote now after a.lines f.lines a.took f.took,
    )
