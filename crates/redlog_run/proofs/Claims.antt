-- What holds of the program, from what holds of its steps.
use Rattle.std.proofs.Common.{◌≡◌, ◌≢◌, inl, inr, ℕ, ◌+◌, ◌-◌, ◌<◌, ◌≤◌, Bool, true, false, List, [], ◌++◌, length, take, drop, refl, sym, ap, ◌∙◌, subst, append-nil, append_assoc, arith, length-append, length-drop}
use Rattle.std.proofs.lemmas.List.{take-append-drop, take_all, length-take-le}
use Rattle.std.specs.Prelude.{◌⊎◌, Option, Some, None, Result, Ok, Err}
use Rattle.std.specs.declared.alloc.Global.{Global}
use Rattle.std.specs.declared.string.String.{String}
use Rattle.program_meaning.specs.declared.options.Language.{Language}
use Rattle.program_meaning.specs.declared.options.Language.TheVariants.{Redlog, SmtLib}
use Rattle.program_meaning.specs.declared.options.Options.{Options}
use Rattle.program_meaning.specs.CommandWords.{Spells}
use Rattle.redlog_run.proofs.Spelling.{words_spell_once}
use Rattle.program_meaning.specs.Generated.{generated}
use Rattle.program_meaning.specs.Streams.{Gave, IsAtEnd, Took, Rose}
use Rattle.redlog_tokens.proofs.Following.{still_open}
use Rattle.program_meaning.specs.State.{first_state}
use Rattle.session_commands.specs.Seen.{state_in}
use Rattle.redlog_run.specs.declared.answer.Answering.{Answering}
use Rattle.qe_io.specs.declared.stop.AnswerStop.{AnswerStop}
use Rattle.qe_io.specs.declared.stop.AnswerStop.TheVariants as answer
use Rattle.qe_io.specs.declared.stop.StreamStop.{StreamStop}
use Rattle.qe_io.specs.declared.stop.StreamStop.TheVariants as streams
use Rattle.program_meaning.specs.declared.status.Status.{Status}
use Rattle.program_meaning.specs.declared.status.Status.TheVariants as status
use Rattle.program_meaning.specs.Claim.{Claim}
use Rattle.redlog_run.specs.ClaimUnder.{ClaimUnder}
use Rattle.program_meaning.specs.Ends.{Ends, ends, HasFailed, TookFront}
use Rattle.program_meaning.specs.Outcome.{script_limit, read_size, node_limit, Given, IsWhole, Answered, OutcomeOfSource, OutcomeOfSmt, outcome_of, completes_of, Faults}
use Rattle.program_meaning.specs.Run.{RunOf, begin, RunsSo, RunsAll, IsEndedWith}
use Rattle.qe_io.specs.Stops.{AnswerCause}
use Rattle.redlog_run.specs.Script.{IsWritten, Part, EndsIn, AnswersBytes, AnswersLast, stream_status}
use Rattle.redlog_run.specs.Steps.{ClaimOfSource, ClaimOfSmt, ClaimOfGenerated}
use Rattle.qe_io.proofs.Joined.{gave_none, took_none, gave_joined, still_at_end}
use Rattle.redlog_run.proofs.Reaching.{too_long}
use Rattle.redlog_run.proofs.Unrefused.{unrefused_scripts}
use Rattle.smtlib_front.specs.Stops.{SmtOutcome, SmtFaults}
use Rattle.smtlib_front.proofs.Unrefused.{unrefused_source, not_too_long}

-- ---- a script of the source

-- the source gave bytes, the pieces that end in them were answered and their lines written, and there is room for so many more
pub record Reading (limit : ℕ) (left later wrote after : Option (List ℕ)) (room : ℕ) (a : Answering) : Type 0 where
  pub given : List ℕ
  pub gave : Gave left later given
  pub count : length given + room ≡ script_limit
  pub written : IsWritten limit given wrote after a

-- a read gave bytes after others
module _ (left mid later : Option (List ℕ)) (before read : List ℕ) (few : ℕ) (first : Gave left mid before) (next : Gave mid later read) where
  pub gave_parts : Gave left later (before ++ (take few read ++ drop few read))
  gave_parts = subst (λ xs. Gave left later (before ++ xs)) (sym (take-append-drop few read)) (gave_joined left mid later before read first next)

-- a read gave nothing
pub gave_end : (left mid later : Option (List ℕ)) (given : List ℕ) → Gave left mid given → Gave mid later [] → IsAtEnd mid → Gave left later given × IsAtEnd later
gave_end left mid later given first next end = (subst (Gave left later) (append-nil given) (gave_joined left mid later given [] first next), still_at_end mid later [] next end refl)

-- the number of bytes that are taken of a read
pub record IsFew (room count few : ℕ) (into : List ℕ) : Type 0 where
  pub of_read : few ≤ count
  pub of_room : few ≤ room
  pub least : few < count → few ≡ room
  pub read : count ≤ length into
  pub small : length into ≤ read_size

pub length_few : (room count few : ℕ) (into : List ℕ) → IsFew room count few into → length (take few (take count into)) ≡ few
length_few room count few into h =
    let all : length (take count into) ≡ count = length-take-le count into h.read in
    length-take-le few (take count into) (omega (arith, all, h.of_read))

-- what is taken is within the limit, and of one read
pub within_few : (given into : List ℕ) (room count few : ℕ) → length given + room ≡ script_limit → IsFew room count few into → length (given ++ take few (take count into)) ≤ script_limit
within_few given into room count few e h = omega (arith, e, h.of_room, length-append given (take few (take count into)), length_few room count few into h)

pub one_read_few : (into : List ℕ) (room count few : ℕ) → IsFew room count few into → length (take few (take count into) ++ drop few (take count into)) ≤ read_size
one_read_few into room count few h = omega (arith, ap length (take-append-drop few (take count into)), length-take-le count into h.read, h.read, h.small)

-- all of a read was taken
pub reading_more : (limit : ℕ) (left mid later wrote now after : Option (List ℕ)) (room count few : ℕ) (into : List ℕ) (a b : Answering) (r : Reading limit left mid wrote now room a) → Gave mid later (take count into) → IsFew room count few into
    → count ≤ few → IsWritten limit (r.given ++ take few (take count into)) wrote after b → Reading limit left later wrote after (room - few) b
reading_more limit left mid later wrote now after room count few into a b r next h all written =
    let size = length_few room count few into h in
    let same : take few (take count into) ≡ take count into = take_all few (take count into) (omega (arith, all, length-take-le count into h.read)) in
    record {
      given = r.given ++ take few (take count into);
      gave = subst (λ xs. Gave left later (r.given ++ xs)) (sym same) (gave_joined left mid later r.given (take count into) r.gave next);
      count = omega (arith, r.count, size, h.of_room, length-append r.given (take few (take count into)));
      written = written;
    }

-- there is room for no more
pub full_few : (given into : List ℕ) (room count few : ℕ) → length given + room ≡ script_limit → IsFew room count few into → few < count → length (given ++ take few (take count into)) ≡ script_limit
full_few given into room count few e h less = omega (arith, e, h.least less, length-append given (take few (take count into)), length_few room count few into h)

pub some_ahead : (into : List ℕ) (room count few : ℕ) → IsFew room count few into → few < count → 0 < length (drop few (take count into))
some_ahead into room count few h less = omega (arith, less, length-drop few (take count into), length-take-le count into h.read)

-- the bytes of a read, of which these in front were taken
module _ (before bytes rest : List ℕ) (left later : Option (List ℕ)) (reads counted : ℕ) (wrote after : Option (List ℕ)) (writes failed : ℕ) where
  abbrev pub given_in : (p : Part bytes) → Gave left later (before ++ (bytes ++ rest)) → length (before ++ bytes) ≤ script_limit → length (bytes ++ rest) ≤ read_size → Given (ends left reads wrote writes) (ends later counted after failed)
  given_in p gave within few =
      let parts : (before ++ p.front) ++ (p.rest ++ rest) ≡ before ++ (bytes ++ rest) =
      append_assoc before p.front (p.rest ++ rest) ∙ ap (λ xs. before ++ xs) (sym (append_assoc p.front p.rest rest) ∙ ap (λ xs. xs ++ rest) (sym p.whole)) in
      let size : length bytes ≡ length p.front + length p.rest = ap length p.whole ∙ length-append p.front p.rest in
      record {
        script = before ++ p.front;
        ahead = p.rest ++ rest;
        gave = subst (Gave left later) (sym parts) gave;
        within = omega (arith, within, size, length-append before bytes, length-append before p.front);
        one_read = omega (arith, few, size, length-append bytes rest, length-append p.rest rest);
      }

-- all bytes are taken
abbrev pub all_front : (bytes : List ℕ) → Part bytes
all_front bytes = record { front = bytes; rest = []; whole = sym (append-nil bytes) }

module _ (limit : ℕ) (left later : Option (List ℕ)) (reads counted : ℕ) (wrote after : Option (List ℕ)) (writes failed : ℕ) where
  -- with an answer that is a refusal a script of a source that tells it has a cause of one
  refused_whole : (given : Given (ends left reads wrote writes) (ends later counted after failed)) (lines whole : List ℕ)
      → IsWhole limit (ends later counted after failed) given.script given.ahead lines true ⊎ IsEndedWith script_limit limit given.script lines true → left ≡ Some whole → RunOf limit whole lines true
  refused_whole given lines whole (inl w) e =
      let gave = subst (λ from. Gave from later (given.script ++ given.ahead)) e given.gave in
      let none : gave.0 ≡ [] = subst IsAtEnd gave.2 w.at_end in
      let same : whole ≡ given.script = gave.1 ∙ ap (λ xs. (given.script ++ given.ahead) ++ xs) none ∙ append-nil (given.script ++ given.ahead) ∙ ap (λ xs. given.script ++ xs) w.none_ahead ∙ append-nil given.script in
      subst (λ xs. RunOf limit xs lines true) (sym same) w.answered
  refused_whole given lines whole (inr d) e =
      let gave = subst (λ from. Gave from later (given.script ++ given.ahead)) e given.gave in
      subst (λ xs. RunOf limit xs lines true) (sym (gave.1 ∙ append_assoc given.script given.ahead gave.0)) (d.answers (given.ahead ++ gave.0))

  -- it was answered
  pub answered_claim : (refusal : Bool) (lines : List ℕ) → Answered limit (ends left reads wrote writes) (ends later counted after failed) lines refusal → Took wrote after lines → counted ≡ reads → failed ≡ writes
      → ClaimOfSource limit (ends left reads wrote writes) (ends later counted after failed) (stream_status (Ok refusal))
  answered_claim false lines a took r w = record { faults = (r, w); outcome = (lines, a, took); complete = λ sound whole e h u. inl refl }
  answered_claim true lines a took r w = record {
    faults = (r, w);
    outcome = (lines, a, took);
    complete = λ sound whole e h u. absurd (unrefused_scripts limit whole u (lines, refused_whole a.given lines whole a.answered e));
  }

  pub unread_claim : (room : ℕ) (a : Answering) → Reading limit left later wrote after room a → a.splitter.whole ≡ false → Rose reads counted → failed ≡ writes
      → ClaimOfSource limit (ends left reads wrote writes) (ends later counted after failed) status.ReadFault
  unread_claim room a g quiet rose w =
      let stands = g.written.stands in
      record {
        faults = (rose, w);
        outcome = (
          g.written.lines,
          record {
            given = record { script = g.given; ahead = []; gave = subst (Gave left later) (sym (append-nil g.given)) g.gave; within = omega (arith, g.count); one_read = omega arith };
            none_ahead = refl;
            answered = record { to = stands.to; state = state_in a.session; refusal = a.answers.refused; runs = stands.runs; no_more = still_open g.given stands.to a.splitter stands.follows quiet };
          },
          g.written.took,
        );
        complete = λ sound. absurd (sound (inl rose));
      }

  -- there is no room for all bytes of a read
  pub long_claim : (a : Answering) (given : Given (ends left reads wrote writes) (ends later counted after failed)) → length given.script ≡ script_limit → 0 < length given.ahead → IsWritten limit given.script wrote after a
      → a.splitter.whole ≡ false → counted ≡ reads → failed ≡ writes → ClaimOfSource limit (ends left reads wrote writes) (ends later counted after failed) status.ScriptLong
  long_claim a given full some written quiet r w =
      let stands = written.stands in
      let all : RunsAll limit given.script written.lines =
      record { to = stands.to; state = state_in a.session; refusal = a.answers.refused; runs = stands.runs; no_more = still_open given.script stands.to a.splitter stands.follows quiet } in
      record {
        faults = (r, w);
        outcome = (written.lines, record { given = given; full = full; too_long = too_long script_limit limit given.script given.ahead written.lines full some all; answered = all }, written.took);
        complete = λ sound whole e h u.
            let gave = subst (λ from. Gave from later (given.script ++ given.ahead)) e given.gave in
            absurd (omega (arith, h, full, some, ap length gave.1, length-append (given.script ++ given.ahead) gave.0, length-append given.script given.ahead));
      }

  -- memory ran out
  pub memory_claim : (given : Given (ends left reads wrote writes) (ends later counted after failed)) (lines : List ℕ) → RunsSo limit given.script lines → Took wrote after lines → counted ≡ reads → failed ≡ writes
      → ClaimOfSource limit (ends left reads wrote writes) (ends later counted after failed) status.Memory
  memory_claim given lines runs took r w = record { faults = (r, w); outcome = (lines, record { given = given; answered = runs }, took); complete = λ sound whole e h u. inr refl }

  -- a write failed
  pub unwritten_claim : (given : Given (ends left reads wrote writes) (ends later counted after failed)) (lines : List ℕ)
      → RunsSo limit given.script lines ⊎ ((refusal : Bool) × IsWhole limit (ends later counted after failed) given.script given.ahead lines refusal) → TookFront wrote after lines → counted ≡ reads → Rose writes failed
      → ClaimOfSource limit (ends left reads wrote writes) (ends later counted after failed) status.WriteFault
  unwritten_claim given lines runs took r w = record { faults = (r, w); outcome = (lines, record { given = given; answered = runs }, took); complete = λ sound. absurd (sound (inr w)) }

  -- what becomes of the bytes of a read where they are the last that are looked at
  module _ (before bytes rest : List ℕ) (gave : Gave left later (before ++ (bytes ++ rest))) (within : length (before ++ bytes) ≤ script_limit) (few : length (bytes ++ rest) ≤ read_size) (r : counted ≡ reads) where
    pub ended_claim : (refusal : Bool) → EndsIn limit before bytes wrote after refusal → failed ≡ writes → ClaimOfSource limit (ends left reads wrote writes) (ends later counted after failed) (stream_status (Ok refusal))
    ended_claim refusal e w =
        let given = given_in before bytes rest left later reads counted wrote after writes failed e.part gave within few in
        answered_claim refusal e.lines (record { given = given; answered = inr (e.ended.ends script_limit given.within) }) e.took r w

    pub stopped_claim : (stop : AnswerStop) (a : Answering) → AnswersBytes limit before bytes wrote after a (Err stop) → AnswerCause writes failed stop
        → ClaimOfSource limit (ends left reads wrote writes) (ends later counted after failed) (stream_status (Err (streams.Answer stop)))
    stopped_claim answer.Memory a e w = memory_claim (given_in before bytes rest left later reads counted wrote after writes failed e.part gave within few) e.lines e.runs e.took r w
    stopped_claim answer.Write a e w = unwritten_claim (given_in before bytes rest left later reads counted wrote after writes failed e.part gave within few) e.lines (inl e.runs) e.took r w

    pub past_claim : (a : Answering) → length (before ++ bytes) ≡ script_limit → 0 < length rest → IsWritten limit (before ++ bytes) wrote after a → a.splitter.whole ≡ false → failed ≡ writes
        → ClaimOfSource limit (ends left reads wrote writes) (ends later counted after failed) status.ScriptLong
    past_claim a full some written quiet w = long_claim a (given_in before bytes rest left later reads counted wrote after writes failed (all_front bytes) gave within few) full some written quiet r w

  -- the last bytes of the source
  module _ (script : List ℕ) (gave : Gave left later script) (end : IsAtEnd later) (within : length script ≤ script_limit) (r : counted ≡ reads) where
    abbrev given_all : Given (ends left reads wrote writes) (ends later counted after failed)
    given_all = record { script = script; ahead = []; gave = subst (Gave left later) (sym (append-nil script)) gave; within = within; one_read = omega arith }

    whole_as : (refusal : Bool) (lines : List ℕ) → RunOf limit script lines refusal → IsWhole limit (ends later counted after failed) script [] lines refusal
    whole_as refusal lines h = record { none_ahead = refl; at_end = end; answered = h }

    pub whole_claim : (refusal : Bool) → AnswersLast limit script wrote after (Ok refusal) → failed ≡ writes → ClaimOfSource limit (ends left reads wrote writes) (ends later counted after failed) (stream_status (Ok refusal))
    whole_claim refusal e w = answered_claim refusal e.0 (record { given = given_all; answered = inl (whole_as refusal e.0 e.1) }) e.2 r w

    pub last_claim : (stop : AnswerStop) → AnswersLast limit script wrote after (Err stop) → AnswerCause writes failed stop → ClaimOfSource limit (ends left reads wrote writes) (ends later counted after failed) (stream_status (Err (streams.Answer stop)))
    last_claim answer.Memory e w = memory_claim given_all e.0 e.1 e.2 r w
    last_claim answer.Write e w = unwritten_claim given_all e.0 (inr ((e.1).0, whole_as ((e.1).0) e.0 ((e.1).1))) e.2 r w

-- ---- under options

-- the limit, the language and the number are those of the options
module _ (options : Options) (before after : Ends) (s : Status) {limit : ℕ} {language : Language} {generate : Option ℕ} (same : limit ≡ node_limit options) (l : options.language ≡ language) (e : options.generate ≡ generate) where
  outcome_under : outcome_of limit language generate before after s → outcome_of (node_limit options) options.language options.generate before after s
  outcome_under o =
      subst (λ k. outcome_of (node_limit options) k options.generate before after s) (sym l)
      (subst (λ n. outcome_of (node_limit options) language n before after s) (sym e) (subst (λ m. outcome_of m language generate before after s) same o))

module _ (options : Options) (before : Ends) (s : Status) {limit : ℕ} {language : Language} {generate : Option ℕ} (same : limit ≡ node_limit options) (l : options.language ≡ language) (e : options.generate ≡ generate) where
  completes_under : completes_of limit language generate before s → completes_of (node_limit options) options.language options.generate before s
  completes_under o =
      subst (λ k. completes_of (node_limit options) k options.generate before s) (sym l)
      (subst (λ n. completes_of (node_limit options) language n before s) (sym e) (subst (λ m. completes_of m language generate before s) same o))

-- ---- a generated script

module _ (options : Options) (left : Option (List ℕ)) (reads : ℕ) (wrote after : Option (List ℕ)) (writes later limit n : ℕ) where
  abbrev IsClaimed : Status → Type 0
  IsClaimed s =
      Faults (ends left reads wrote writes) (ends left reads after later) s × outcome_of limit Redlog (Some n) (ends left reads wrote writes) (ends left reads after later) s ×
      (¬ (HasFailed (ends left reads wrote writes) (ends left reads after later)) → completes_of limit Redlog (Some n) (ends left reads wrote writes) s)

  claimed : (s : Status) → ClaimOfGenerated limit n wrote after writes later s → IsClaimed s
  claimed status.Done c = ((refl, c.1), (refl, c.0), λ sound u. inl refl)
  claimed status.Refused c = ((refl, c.1), (refl, c.0), λ sound u. absurd (unrefused_scripts limit (generated n) u (c.0.0, c.0.1)))
  claimed status.WriteFault c = ((refl, c.1), (refl, c.0), λ sound. absurd (sound (inr c.1)))
  claimed status.Memory c = ((refl, c.1), (refl, c.0), λ sound u. inr refl)
  claimed status.Usage c = absurd c
  claimed status.ReadFault c = absurd c
  claimed status.ScriptLong c = absurd c

  unused : (s : Status) → ClaimOfGenerated limit n wrote after writes later s → s ≢ status.Usage
  unused s c e = subst (ClaimOfGenerated limit n wrote after writes later) e c

  pub under_generated : (s : Status) → limit ≡ node_limit options → options.language ≡ Redlog → options.generate ≡ Some n → ClaimOfGenerated limit n wrote after writes later s
      → ClaimUnder options (ends left reads wrote writes) (ends left reads after later) s
  under_generated s same l e c =
      let k = claimed s c in
      let before = ends left reads wrote writes in
      let now = ends left reads after later in
      record {
        used = unused s c;
        faults = k.0;
        outcome = outcome_under options before now s same l e k.1;
        complete = λ sound. completes_under options before s same l e (k.2 sound);
      }

-- ---- a script in SMT-LIB

-- by the end of its answers
pub smt_claim : (limit : ℕ) (before after : Ends) (r : Result Bool StreamStop) → SmtOutcome limit before after r → SmtFaults before after r → ClaimOfSmt limit before after (stream_status r)
smt_claim limit before after (Ok false) o f = record { faults = f; outcome = o; complete = λ sound script e h u. inl refl }
smt_claim limit before after (Ok true) o f = record { faults = f; outcome = o; complete = λ sound script e h u. absurd (unrefused_source limit before after script e u o) }
smt_claim limit before after (Err streams.Read) o f = record { faults = f; outcome = o; complete = λ sound. absurd (sound (inl f.0)) }
smt_claim limit before after (Err streams.Long) o f = record { faults = f; outcome = o; complete = λ sound script e h u. absurd (not_too_long before after script e h o) }
smt_claim limit before after (Err (streams.Answer answer.Memory)) o f = record { faults = f; outcome = o; complete = λ sound script e h u. inr refl }
smt_claim limit before after (Err (streams.Answer answer.Write)) o f = record { faults = f; outcome = o; complete = λ sound. absurd (sound (inr f.1)) }

-- ---- the options

source_used : (limit : ℕ) (before after : Ends) (s : Status) → OutcomeOfSource limit before after s → s ≢ status.Usage
source_used limit before after s h e = subst (OutcomeOfSource limit before after) e h

smt_used : (limit : ℕ) (before after : Ends) (s : Status) → OutcomeOfSmt limit before after s → s ≢ status.Usage
smt_used limit before after s h e = subst (OutcomeOfSmt limit before after) e h

pub under_source : (options : Options) (limit : ℕ) (before after : Ends) (s : Status) → limit ≡ node_limit options → options.language ≡ Redlog → options.generate ≡ None → ClaimOfSource limit before after s
    → ClaimUnder options before after s
under_source options limit before after s same l e c = record {
  used = source_used limit before after s c.outcome;
  faults = c.faults;
  outcome = outcome_under options before after s same l e c.outcome;
  complete = λ sound. completes_under options before s same l e (c.complete sound);
}

pub under_smt : (options : Options) (limit : ℕ) (before after : Ends) (s : Status) → limit ≡ node_limit options → options.language ≡ SmtLib → ClaimOfSmt limit before after s → ClaimUnder options before after s
under_smt options limit before after s same l c = record {
  used = smt_used limit before after s c.outcome;
  faults = c.faults;
  outcome = outcome_under options before after s same l refl c.outcome;
  complete = λ sound. completes_under options before s same l refl (c.complete sound);
}

-- ---- the words

-- what holds under the options that were found holds under each that the words give
for_each : (words : List (String Global)) (found : Options) → Spells words found → (P : Options → Type 0) → P found → (options : Options) → Spells words options → P options
for_each words found h P p options k = subst P (words_spell_once words found options h k) p

pub claim_under : (words : List (String Global)) (found : Options) (before after : Ends) (s : Status) → Spells words found → ClaimUnder found before after s → Claim words before after s
claim_under words found before after s h c = record {
  usage = (λ e. absurd (c.used e), λ none. absurd (none (found, h)));
  unused = λ e. absurd (c.used e);
  faults = c.faults;
  outcome = for_each words found h (λ o. outcome_of (node_limit o) o.language o.generate before after s) c.outcome;
  complete = λ sound. for_each words found h (λ o. completes_of (node_limit o) o.language o.generate before s) (c.complete sound);
}

unwritten : (limit : ℕ) (l : Language) (o : Option ℕ) (e : Ends) → outcome_of limit l o e e status.Memory
unwritten limit SmtLib o e = inl (record { given = record { bytes = []; gave = gave_none e.left; within = omega arith }; unwritten = refl })
unwritten limit Redlog None e = (
  [],
  record {
    given = record { script = []; ahead = []; gave = gave_none e.left; within = omega arith; one_read = omega arith };
    answered = record { to = 0; within = omega arith; state = first_state; refusal = false; runs = λ more. begin };
  },
  took_none e.wrote,
)
unwritten limit Redlog (Some n) e = (refl, refl)

out_of_memory : (limit : ℕ) (l : Language) (o : Option ℕ) (e : Ends) → completes_of limit l o e status.Memory
out_of_memory limit SmtLib o e = λ script same h u. inr refl
out_of_memory limit Redlog None e = λ script same h u. inr refl
out_of_memory limit Redlog (Some n) e = λ u. inr refl

pub claim_memory : (words : List (String Global)) (e : Ends) → (options : Options) × Spells words options → Claim words e e status.Memory
claim_memory words e some = record {
  usage = (λ u. absurd (cc), λ none. absurd (none some));
  unused = λ u. absurd (cc);
  faults = (refl, refl);
  outcome = λ options k. unwritten (node_limit options) options.language options.generate e;
  complete = λ sound options k. out_of_memory (node_limit options) options.language options.generate e;
}
