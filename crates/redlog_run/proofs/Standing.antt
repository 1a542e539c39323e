-- What stands after each step of a script that is answered while it is read.
use Rattle.std.proofs.Common.{◌≡◌, ℕ, ◌+◌, ◌-◌, Bool, true, false, List, [], ◌++◌, length, take, drop, refl, sym, ap, ◌∙◌, subst, append-nil, append_assoc, arith, take-add, length-append, inl, inr, ◌≤◌, Option, None}
use Rattle.std.proofs.lemmas.List.{take-append-drop, take_all}
use Rattle.std.specs.declared.alloc.Global.{Global}
use Rattle.std.specs.declared.vec.Vec.{Vec}
use Rattle.smtlib_front.specs.FromEngineAnswers.{Limits}
use Rattle.redlog_tokens.specs.declared.splitter.Cut.{Cut}
use Rattle.redlog_tokens.specs.Pieces.{Held, Follows, HasBytes, CutsOff, IsLast}
use Rattle.language_meaning.specs.Pieces.{HasNoTokenFrom}
use Rattle.program_meaning.specs.State.{State, first_state}
use Rattle.session_commands.specs.Seen.{Seen, state_in}
use Rattle.redlog_run.specs.declared.answer.Answers.{Answers}
use Rattle.redlog_run.specs.declared.answer.Answering.{Answering}
use Rattle.redlog_run.specs.declared.lines.Lines.{Lines}
use Rattle.program_meaning.specs.declared.line.StatementError.TheVariants as error
use Rattle.program_meaning.specs.Words.{word_of}
use Rattle.program_meaning.specs.Lines.{refusal_line}
use Rattle.program_meaning.specs.Run.{AnswersPiece, finished, RunOf, RunTo, begin, RunsTo, RunsSo}
use Rattle.redlog_run.specs.Adding.{Adds}
use Rattle.program_meaning.specs.Streams.{Took}
use Rattle.program_meaning.specs.Ends.{TookFront}
use Rattle.redlog_run.specs.Script.{Stands, IsEnded, StandsOrEnds, IsWritten, HoldsOrWrote, Part, EndsIn, RunsOut, FailsIn}
use Rattle.qe_io.proofs.Joined.{rest_whole, took_joined, front_after}
use Rattle.redlog_run.proofs.Replies.{adds_refusal}
use Rattle.redlog_run.proofs.Reaching.{runs_longer, runs_on, run_stops, run_whole, run_over}

-- nothing has come
pub stands_first : (limit : ℕ) (a : Answering) → Follows [] 0 a.splitter → state_in a.session ≡ first_state → a.answers.refused ≡ false → a.session.limits.nodes ≡ limit → Stands limit [] [] a
stands_first limit a follows first quiet limits = record {
  to = 0;
  follows = follows;
  runs = λ more. subst (λ b. RunTo limit more 0 (state_in a.session) [] b) (sym quiet) (subst (λ s. RunTo limit more 0 s [] false) (sym first) begin);
  limits = limits;
}

-- the splitter was fed more bytes
pub stands_fed : (limit : ℕ) (bytes more lines : List ℕ) (a : Answering) (fed : Held) → ((old : List ℕ) (from : ℕ) → Follows old from a.splitter → Follows (old ++ more) from fed) → Stands limit bytes lines a
    → Stands limit (bytes ++ more) lines (record a { splitter = fed })
stands_fed limit bytes more lines a fed follows h = record {
  to = h.to;
  follows = follows bytes h.to h.follows;
  runs = runs_longer limit bytes more h.to (state_in a.session) lines a.answers.refused h.runs;
  limits = h.limits;
}

-- the lines are held elsewhere
pub stands_with : (limit : ℕ) (bytes lines : List ℕ) (a : Answering) (answers : Answers) → answers.refused ≡ a.answers.refused → Stands limit bytes lines a → Stands limit bytes lines (record a { answers = answers })
stands_with limit bytes lines a answers same h = record {
  to = h.to;
  follows = h.follows;
  runs = subst (λ b. RunsTo limit bytes h.to (state_in a.session) lines b) (sym same) h.runs;
  limits = h.limits;
}

-- no line is held
pub none_held : (limit : ℕ) (bytes lines : List ℕ) (a : Answering) → a.answers.lines.items ≡ [] → Stands limit bytes lines a → Stands limit bytes (lines ++ a.answers.lines.items) a
none_held limit bytes lines a quiet h = subst (λ xs. Stands limit bytes xs a) (sym (ap (λ xs. lines ++ xs) quiet ∙ append-nil lines)) h

-- the lines of the pieces so far
pub runs_so : (limit : ℕ) (bytes lines : List ℕ) (a : Answering) → Stands limit bytes lines a → RunsSo limit bytes lines
runs_so limit bytes lines a h = record { to = h.to; within = h.follows.within; state = state_in a.session; refusal = a.answers.refused; runs = h.runs }

-- lines in front of those that a piece adds to
adds_after : (written : List ℕ) (s next : State) (limit : ℕ) (piece : List ℕ) (offset : ℕ) (b : Bool) (lines all : List ℕ) (refusal some : Bool) → Adds s limit piece offset b next lines refusal all some
    → Adds s limit piece offset b next (written ++ lines) refusal (written ++ all) some
adds_after written s next limit piece offset b lines all refusal some d = record {
  added = d.added;
  is_refused = d.is_refused;
  answer = d.answer;
  lines_are = ap (λ xs. written ++ xs) d.lines_are ∙ sym (append_assoc written lines d.added);
  refusal_is = d.refusal_is;
}

no_lines : {s next : State} {limit : ℕ} {piece : List ℕ} {offset : ℕ} {lines : List ℕ} {refusal : Bool} → AnswersPiece s limit piece offset true lines refusal next → lines ≡ []
no_lines (finished r) = refl

-- a statement that ends the script has no line
no_line_at_end : {s next : State} {limit : ℕ} {piece : List ℕ} {offset : ℕ} {lines all : List ℕ} {refusal some : Bool} → Adds s limit piece offset true next lines refusal all some → all ≡ lines
no_line_at_end {lines = lines} d = d.lines_are ∙ ap (λ xs. lines ++ xs) (no_lines d.answer) ∙ append-nil lines

-- a piece past the limit is refused
pub adds_long : (s : State) (limit : ℕ) (piece : List ℕ) (offset : ℕ) (bytes : Option (Vec ℕ Global)) (lines all : List ℕ) (refusal some : Bool) → bytes ≡ None → HasBytes piece bytes
    → all ≡ lines ++ refusal_line (word_of error.Long) offset → some ≡ true → Adds s limit piece offset false s lines refusal all some
adds_long s limit piece offset bytes lines all refusal some none has e f =
    adds_refusal s limit piece offset s lines refusal error.Long all some (λ k. absurd (cc)) (refl, subst (HasBytes piece) none has) e f

-- what a cut adds, by the bytes of its piece
abbrev pub AddsCut : Seen → Seen → Option (Vec ℕ Global) → ℕ → Bool → Answers → Answers → Type 0
AddsCut old new bytes offset b before after =
    (piece : List ℕ) → HasBytes piece bytes → Adds (state_in old) old.limits.nodes piece offset b (state_in new) before.lines.items before.refused after.lines.items after.refused

module _ (limit : ℕ) (bytes written : List ℕ) (a : Answering) (h : Stands limit bytes (written ++ a.answers.lines.items) a)
    (session : Seen) (answers : Answers) (cut : Cut) (b : Bool) (d : AddsCut a.session session cut.bytes cut.offset b a.answers answers) (same : session.limits ≡ a.session.limits) where
  added : (has : HasBytes (drop cut.offset bytes) cut.bytes) → Adds (state_in a.session) limit (drop cut.offset bytes) cut.offset b (state_in session) (written ++ a.answers.lines.items) a.answers.refused (written ++ answers.lines.items) answers.refused
  added has =
      subst (λ n. Adds (state_in a.session) n (drop cut.offset bytes) cut.offset b (state_in session) (written ++ a.answers.lines.items) a.answers.refused (written ++ answers.lines.items) answers.refused) h.limits
      (adds_after written (state_in a.session) (state_in session) a.session.limits.nodes (drop cut.offset bytes) cut.offset b a.answers.lines.items answers.lines.items a.answers.refused answers.refused (d (drop cut.offset bytes) has))

  as_known : (e : Bool) → b ≡ e → Adds (state_in a.session) limit (drop cut.offset bytes) cut.offset b (state_in session) (written ++ a.answers.lines.items) a.answers.refused (written ++ answers.lines.items) answers.refused
      → Adds (state_in a.session) limit (drop cut.offset bytes) cut.offset e (state_in session) (written ++ a.answers.lines.items) a.answers.refused (written ++ answers.lines.items) answers.refused
  as_known e same adds = subst (λ x. Adds (state_in a.session) limit (drop cut.offset bytes) cut.offset x (state_in session) (written ++ a.answers.lines.items) a.answers.refused (written ++ answers.lines.items) answers.refused) same adds

  cut_by : (fed : Held) (counted : Lines) → CutsOff bytes h.to cut → Follows bytes (length bytes) fed → (e : Bool) → b ≡ e → StandsOrEnds e limit bytes (written ++ answers.lines.items) (record { alloc = a.alloc; session = session; splitter = fed; answers = answers; lines = counted })
  cut_by fed counted c f true e = record {
    ends = run_stops limit bytes h.to (state_in a.session) (written ++ a.answers.lines.items) a.answers.refused h.runs cut.offset c.begins (state_in session) (written ++ answers.lines.items) answers.refused c.piece (as_known true e (added c.bytes));
    runs = record {
      to = h.to;
      within = h.follows.within;
      state = state_in a.session;
      refusal = a.answers.refused;
      runs = subst (λ xs. RunsTo limit bytes h.to (state_in a.session) xs a.answers.refused) (sym (no_line_at_end (as_known true e (added c.bytes)))) h.runs;
    };
  }
  cut_by fed counted c f false e = record {
    to = length bytes;
    follows = f;
    runs = runs_on limit bytes h.to (state_in a.session) (written ++ a.answers.lines.items) a.answers.refused h.runs cut.offset c.begins (state_in session) (written ++ answers.lines.items) answers.refused c.piece
        (as_known false e (added c.bytes));
    limits = ap (λ (l : Limits). l.nodes) same ∙ h.limits;
  }

  -- a cut was answered
  pub stands_cut : (fed : Held) (counted : Lines) → CutsOff bytes h.to cut → Follows bytes (length bytes) fed → StandsOrEnds b limit bytes (written ++ answers.lines.items) (record { alloc = a.alloc; session = session; splitter = fed; answers = answers; lines = counted })
  stands_cut fed counted c f = cut_by fed counted c f b refl

  -- the last cut was answered
  pub last_cut : IsLast bytes h.to cut → RunOf limit bytes (written ++ answers.lines.items) answers.refused
  last_cut c =
      run_whole limit bytes h.to (state_in a.session) (written ++ a.answers.lines.items) a.answers.refused h.runs cut.offset c.begins (state_in session) (written ++ answers.lines.items) answers.refused b c.piece (added c.bytes)

-- there is none
pub last_none : (limit : ℕ) (bytes lines : List ℕ) (a : Answering) (h : Stands limit bytes lines a) → HasNoTokenFrom bytes h.to → RunOf limit bytes lines a.answers.refused
last_none limit bytes lines a h none = run_over limit bytes h.to (state_in a.session) lines a.answers.refused h.runs none

-- ---- bytes of which some are taken

-- one step more
pub taken_next : (bytes : List ℕ) (taken n : ℕ) → take taken bytes ++ take n (take (length bytes - taken) (drop taken bytes)) ≡ take (taken + n) bytes
taken_next bytes taken n = ap (λ xs. take taken bytes ++ take n xs) (rest_whole bytes taken) ∙ sym (take-add taken n bytes)

after_taken : (before bytes : List ℕ) (taken n : ℕ) → (before ++ take taken bytes) ++ take n (take (length bytes - taken) (drop taken bytes)) ≡ before ++ take (taken + n) bytes
after_taken before bytes taken n = append_assoc before (take taken bytes) (take n (take (length bytes - taken) (drop taken bytes))) ∙ ap (λ xs. before ++ xs) (taken_next bytes taken n)

-- a statement among the bytes that were taken ends the script
pub ended_run : (limit : ℕ) (script lines : List ℕ) (taken n : ℕ) (refusal : Bool) → IsEnded limit (take taken script ++ take n (take (length script - taken) (drop taken script))) lines refusal → RunOf limit script lines refusal
ended_run limit script lines taken n refusal e =
    let h = subst (λ xs. IsEnded limit xs lines refusal) (taken_next script taken n) e in
    subst (λ xs. RunOf limit xs lines refusal) (take-append-drop (taken + n) script) ((h.ends (length (take (taken + n) script)) (omega arith)).answers (drop (taken + n) script))

abbrev pub front_of : (bytes : List ℕ) (n : ℕ) → Part bytes
front_of bytes n = record { front = take n bytes; rest = drop n bytes; whole = sym (take-append-drop n bytes) }

-- more bytes come after
so_longer : (limit : ℕ) (bytes more lines : List ℕ) → RunsSo limit bytes lines → RunsSo limit (bytes ++ more) lines
so_longer limit bytes more lines r = record {
  to = r.to;
  within = omega (arith, r.within, length-append bytes more);
  state = r.state;
  refusal = r.refusal;
  runs = runs_longer limit bytes more r.to r.state lines r.refusal r.runs;
}

-- the lines of some pieces in front were written onto what the sink had taken first, and those of the others are held
pub record IsHeld (limit : ℕ) (bytes : List ℕ) (first now : Option (List ℕ)) (a : Answering) : Type 0 where
  pub written : List ℕ
  pub stands : Stands limit bytes (written ++ a.answers.lines.items) a
  pub runs : RunsSo limit bytes written
  pub took : Took first now written

-- before the first of the bytes all lines were written
pub held_first : (limit : ℕ) (before bytes : List ℕ) (first now : Option (List ℕ)) (a : Answering) → a.answers.lines.items ≡ [] → IsWritten limit before first now a → IsHeld limit (before ++ take 0 bytes) first now a
held_first limit before bytes first now a quiet h = subst (λ xs. IsHeld limit xs first now a) (sym (append-nil before)) (record {
  written = h.lines;
  stands = none_held limit before h.lines a quiet h.stands;
  runs = runs_so limit before h.lines a h.stands;
  took = h.took;
})

-- behind the last of them they are all written
pub held_last : (limit : ℕ) (before bytes : List ℕ) (taken : ℕ) (first now later : Option (List ℕ)) (a : Answering) (answers : Answers) → length bytes ≤ taken → answers.refused ≡ a.answers.refused
    → Took now later a.answers.lines.items → IsHeld limit (before ++ take taken bytes) first now a → IsWritten limit (before ++ bytes) first later (record a { answers = answers })
held_last limit before bytes taken first now later a answers past same took h = subst (λ xs. IsWritten limit (before ++ xs) first later (record a { answers = answers })) (take_all taken bytes past) (record {
  lines = h.written ++ a.answers.lines.items;
  stands = stands_with limit (before ++ take taken bytes) (h.written ++ a.answers.lines.items) a answers same h.stands;
  took = took_joined first now later h.written a.answers.lines.items h.took took;
})

module _ (limit : ℕ) (before bytes : List ℕ) (taken n : ℕ) (first now : Option (List ℕ)) (a : Answering) (h : IsHeld limit (before ++ take taken bytes) first now a) where
  -- memory runs out
  pub runs_out : RunsOut limit before bytes first now
  runs_out = record { part = front_of bytes taken; lines = h.written; runs = h.runs; took = h.took }

  -- the write of the last lines fails
  pub fails_last : (later : Option (List ℕ)) → TookFront now later a.answers.lines.items → FailsIn limit before bytes first later
  fails_last later front = record {
    part = front_of bytes taken;
    lines = h.written ++ a.answers.lines.items;
    runs = runs_so limit (before ++ take taken bytes) (h.written ++ a.answers.lines.items) a h.stands;
    took = front_after first now later h.written a.answers.lines.items h.took front;
  }

  module _ (next : Answering) (b : Bool)
      (step : (limit : ℕ) (given written : List ℕ) → Stands limit given (written ++ a.answers.lines.items) a
      → StandsOrEnds b limit (given ++ take n (take (length bytes - taken) (drop taken bytes))) (written ++ next.answers.lines.items) next) where
    stepped : StandsOrEnds b limit (before ++ take (taken + n) bytes) (h.written ++ next.answers.lines.items) next
    stepped =
        subst (λ xs. StandsOrEnds b limit xs (h.written ++ next.answers.lines.items) next) (after_taken before bytes taken n)
        (step limit (before ++ take taken bytes) h.written h.stands)

    -- the same, where it is known whether the script ended
    stepped_so : (x : Bool) → b ≡ x → StandsOrEnds x limit (before ++ take (taken + n) bytes) (h.written ++ next.answers.lines.items) next
    stepped_so x e = subst (λ y. StandsOrEnds y limit (before ++ take (taken + n) bytes) (h.written ++ next.answers.lines.items) next) e stepped

    -- the script goes on, and the lines are held or were written
    pub goes_on_held : (answers : Answers) (later : Option (List ℕ)) → b ≡ false → answers.refused ≡ next.answers.refused → HoldsOrWrote now later next.answers answers
        → IsHeld limit (before ++ take (taken + n) bytes) first later (record next { answers = answers })
    goes_on_held answers later on same (inl held) = record {
      written = h.written;
      stands = stands_with limit (before ++ take (taken + n) bytes) (h.written ++ answers.lines.items) next answers same
          (subst (λ (x : Answers). Stands limit (before ++ take (taken + n) bytes) (h.written ++ x.lines.items) next) (sym held.1) (stepped_so false on));
      runs = subst (λ xs. RunsSo limit xs h.written) (after_taken before bytes taken n)
          (so_longer limit (before ++ take taken bytes) (take n (take (length bytes - taken) (drop taken bytes))) h.written h.runs);
      took = subst (λ x. Took first x h.written) (sym held.0) h.took;
    }
    goes_on_held answers later on same (inr wrote) = record {
      written = h.written ++ next.answers.lines.items;
      stands = stands_with limit (before ++ take (taken + n) bytes) ((h.written ++ next.answers.lines.items) ++ answers.lines.items) next answers same
          (subst (λ xs. Stands limit (before ++ take (taken + n) bytes) xs next) (sym (ap (λ xs. (h.written ++ next.answers.lines.items) ++ xs) wrote.1 ∙ append-nil (h.written ++ next.answers.lines.items))) (stepped_so false on));
      runs = runs_so limit (before ++ take (taken + n) bytes) (h.written ++ next.answers.lines.items) next (stepped_so false on);
      took = took_joined first now later h.written next.answers.lines.items h.took wrote.0;
    }

    pub ends_written : (answers : Answers) (later : Option (List ℕ)) → b ≡ true → answers.refused ≡ next.answers.refused → Took now later next.answers.lines.items → EndsIn limit before bytes first later answers.refused
    ends_written answers later over same took = record {
      part = front_of bytes (taken + n);
      lines = h.written ++ next.answers.lines.items;
      ended = subst (IsEnded limit (before ++ take (taken + n) bytes) (h.written ++ next.answers.lines.items)) (sym same) (stepped_so true over);
      took = took_joined first now later h.written next.answers.lines.items h.took took;
    }

    so_by : (x : Bool) → b ≡ x → RunsSo limit (before ++ take (taken + n) bytes) (h.written ++ next.answers.lines.items)
    so_by true e = let k = stepped_so true e in k.runs
    so_by false e = runs_so limit (before ++ take (taken + n) bytes) (h.written ++ next.answers.lines.items) next (stepped_so false e)

    -- the write of lines fails
    pub fails_in : (later : Option (List ℕ)) → TookFront now later next.answers.lines.items → FailsIn limit before bytes first later
    fails_in later front = record {
      part = front_of bytes (taken + n);
      lines = h.written ++ next.answers.lines.items;
      runs = so_by b refl;
      took = front_after first now later h.written next.answers.lines.items h.took front;
    }
