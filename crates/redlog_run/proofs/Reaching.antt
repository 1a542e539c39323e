-- What is answered piece after piece, up to a place of the script.
use Rattle.std.proofs.Common.{◌≡◌, ℕ, ◌-◌, ◌<◌, ◌≤◌, Bool, true, false, List, [], ◌∷◌, ◌++◌, length, take, drop, refl, sym, ap, ◌∙◌, subst, append-nil, append_assoc, arith, length-append, length-drop}
use Rattle.std.proofs.Math.Seq.{take-append_seam}
use Rattle.std.proofs.lemmas.List.{drop-append-le, drop_all}
use Rattle.language_meaning.specs.Pieces.{HasNoTokenFrom, IsPiece}
use Rattle.language_meaning.specs.Lexing.{Lexes, over}
use Rattle.redlog_tokens.proofs.Places.{piece_within}
use Rattle.program_meaning.specs.State.{State, first_state}
use Rattle.program_meaning.specs.Run.{RunOf, RunTo, begin, on, RunsTo, RunsAll, piece_bytes, HasEnd, here, later, IsEndedWith, IsTooLong}
use Rattle.redlog_run.specs.Adding.{Adds}
use Rattle.redlog_run.proofs.Ending.{spells_finish, spells_no_finish, end_after}
use Rattle.redlog_run.proofs.Replies.{Continues, begins, ends, stops, goes_on}

module _ (limit : ℕ) (script : List ℕ) where
  -- what is answered from there on is an answer to the whole
  pub continues : {to : ℕ} {s : State} {lines : List ℕ} {refusal : Bool} → RunTo limit script to s lines refusal → Continues limit script first_state to s lines refusal
  continues begin = begins limit script first_state first_state refl
  continues (on {to = to} {start = start} {end = end} {s = s} {next = next} {lines = lines} {more = more} {all = all} {refusal = refusal} {refused = refused} {some = some} r p a e f) =
      goes_on limit script first_state to s lines refusal (continues r) start end p next all some (record { added = more; is_refused = refused; answer = a; lines_are = e; refusal_is = f })

  pub run_within : {to : ℕ} {s : State} {lines : List ℕ} {refusal : Bool} → RunTo limit script to s lines refusal → to ≤ length script
  run_within begin = omega arith
  run_within (on {to = to} {start = start} {end = end} r p a e f) = piece_within script to start end (run_within r) p

  module _ (longest : ℕ) where
    -- the pieces up to there end no script, so a statement that ends it comes later
    end_later : {to : ℕ} {s : State} {lines : List ℕ} {refusal : Bool} → RunTo limit script to s lines refusal → HasEnd longest script 0 → HasEnd longest script to
    end_later begin h = h
    end_later (on {to = to} {start = start} {end = end} {s = s} r p a e f) h =
        end_after longest script to start end p (spells_no_finish s limit (piece_bytes script start end) start a) (end_later r h)

    end_earlier : {to : ℕ} {s : State} {lines : List ℕ} {refusal : Bool} → length script ≤ longest → RunTo limit script to s lines refusal → HasEnd longest script to → HasEnd longest script 0
    end_earlier small begin h = h
    end_earlier small (on {to = to} {start = start} {end = end} {s = s} r p a e f) h =
        let within = piece_within script to start end (run_within r) p in
        end_earlier small r (later p (omega (arith, within, small)) (spells_no_finish s limit (piece_bytes script start end) start a) h)

    none_there : (to : ℕ) → ((start end : ℕ) → IsPiece script to start end → longest < end) → HasEnd longest script to → ⊥
    none_there to past (here {start = start} {end = end} p h f) = let k = past start end p in omega (arith, k, h)
    none_there to past (later {start = start} {end = end} p h n more) = let k = past start end p in omega (arith, k, h)

    -- no piece ends within the limit, so no statement ends the script there
    unended : {to : ℕ} {s : State} {lines : List ℕ} {refusal : Bool} → RunTo limit script to s lines refusal → ((start end : ℕ) → IsPiece script to start end → longest < end) → HasEnd longest script 0 → ⊥
    unended {to = to} r past h = none_there to past (end_later r h)

-- no token is left at the end of a script
pub none_at_end : (script : List ℕ) → HasNoTokenFrom script (length script)
none_at_end script = subst (λ xs. Lexes xs (length script) []) (sym (drop_all (length script) script (omega arith))) over

-- the bytes of a piece that ends with these
pub bytes_of_cut : (bytes more : List ℕ) (start : ℕ) → start < length bytes → piece_bytes (bytes ++ more) start (length bytes) ≡ drop start bytes
bytes_of_cut bytes more start h =
    let size : length (drop start bytes) ≡ length bytes - start = length-drop start bytes in
    ap (take (length bytes - start)) (drop-append-le start bytes more (omega (arith, h))) ∙ ap (λ n. take n (drop start bytes ++ more)) (sym size) ∙ take-append_seam (drop start bytes) more

pub runs_here : (limit : ℕ) (bytes : List ℕ) (to : ℕ) (s : State) (lines : List ℕ) (refusal : Bool) → RunsTo limit bytes to s lines refusal → RunTo limit bytes to s lines refusal
runs_here limit bytes to s lines refusal r = subst (λ xs. RunTo limit xs to s lines refusal) (append-nil bytes) (r [])

-- where more bytes come after
pub runs_longer : (limit : ℕ) (bytes more : List ℕ) (to : ℕ) (s : State) (lines : List ℕ) (refusal : Bool) → RunsTo limit bytes to s lines refusal → RunsTo limit (bytes ++ more) to s lines refusal
runs_longer limit bytes more to s lines refusal r = λ rest. subst (λ xs. RunTo limit xs to s lines refusal) (sym (append_assoc bytes more rest)) (r (more ++ rest))

-- a script is too long whose pieces within the limit end it nowhere
pub too_long : (longest limit : ℕ) (bytes ahead lines : List ℕ) → length bytes ≡ longest → 0 < length ahead → RunsAll limit bytes lines → IsTooLong longest (bytes ++ ahead)
too_long longest limit bytes [] lines full some r = absurd (omega arith)
too_long longest limit bytes (b ∷ ahead) lines full some r = record {
  long = omega (arith, full, length-append bytes (b ∷ ahead));
  unended = λ h. unended limit (bytes ++ b ∷ ahead) longest (r.runs (b ∷ ahead)) (λ start end p. omega (arith, r.no_more b ahead start end p, full)) h;
}

-- ---- one more piece

module _ (limit : ℕ) (bytes : List ℕ) (to : ℕ) (s : State) (lines : List ℕ) (refusal : Bool) (r : RunsTo limit bytes to s lines refusal)
    (start : ℕ) (inside : start < length bytes) (next : State) (all : List ℕ) (some : Bool) where
  adds_here : (more : List ℕ) (b : Bool) → Adds s limit (drop start bytes) start b next lines refusal all some
      → Adds s limit (piece_bytes (bytes ++ more) start (length bytes)) start b next lines refusal all some
  adds_here more b d = subst (λ xs. Adds s limit xs start b next lines refusal all some) (sym (bytes_of_cut bytes more start inside)) d

  pub runs_on : ((more : List ℕ) → IsPiece (bytes ++ more) to start (length bytes)) → Adds s limit (drop start bytes) start false next lines refusal all some → RunsTo limit bytes (length bytes) next all some
  runs_on p d = λ more. let k = adds_here more false d in on (r more) (p more) k.answer k.lines_are k.refusal_is

  pub run_stops : ((more : List ℕ) → IsPiece (bytes ++ more) to start (length bytes)) → Adds s limit (drop start bytes) start true next lines refusal all some
      → (longest : ℕ) → length bytes ≤ longest → IsEndedWith longest limit bytes all some
  run_stops p d longest small =
      let piece = subst (λ xs. IsPiece xs to start (length bytes)) (append-nil bytes) (p []) in
      let last = subst (λ xs. Adds s limit (piece_bytes xs start (length bytes)) start true next lines refusal all some) (append-nil bytes) (adds_here [] true d) in
      record {
        has_end = end_earlier limit bytes longest small (runs_here limit bytes to s lines refusal r) (here piece small (spells_finish s limit (piece_bytes bytes start (length bytes)) start last.answer));
        answers = λ more. stops limit (bytes ++ more) first_state to s lines refusal (continues limit (bytes ++ more) (r more)) start (length bytes) (p more) next all some (adds_here more true d);
      }

  -- the last piece
  pub run_whole : (b : Bool) → IsPiece bytes to start (length bytes) → Adds s limit (drop start bytes) start b next lines refusal all some → RunOf limit bytes all some
  run_whole b p d = whole_by b (subst (λ xs. Adds s limit (piece_bytes xs start (length bytes)) start b next lines refusal all some) (append-nil bytes) (adds_here [] b d))
    where
      before : Continues limit bytes first_state to s lines refusal
      before = continues limit bytes (runs_here limit bytes to s lines refusal r)

      whole_by : (b : Bool) → Adds s limit (piece_bytes bytes start (length bytes)) start b next lines refusal all some → RunOf limit bytes all some
      whole_by true k = stops limit bytes first_state to s lines refusal before start (length bytes) p next all some k
      whole_by false k =
          let after = goes_on limit bytes first_state to s lines refusal before start (length bytes) p next all some k in
          ends limit bytes first_state (length bytes) next all some after (none_at_end bytes)

-- no piece is left
pub run_over : (limit : ℕ) (bytes : List ℕ) (to : ℕ) (s : State) (lines : List ℕ) (refusal : Bool) → RunsTo limit bytes to s lines refusal → HasNoTokenFrom bytes to → RunOf limit bytes lines refusal
run_over limit bytes to s lines refusal r none = ends limit bytes first_state to s lines refusal (continues limit bytes (runs_here limit bytes to s lines refusal r)) none
