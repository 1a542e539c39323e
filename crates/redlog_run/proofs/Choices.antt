-- A script whose statements have no formula has exactly one run.
use Rattle.std.proofs.Common.{◌≡◌, ◌≢◌, ℕ, ◌<◌, ◌≤◌, ◌^◌, Bool, true, false, ◌||◌, codes, List, [], ◌∷◌, ◌++◌, length, refl, sym, ap, ◌∙◌, subst, append-nil, arith, if◌then◌else◌}
use Rattle.std.specs.List.{AllByRecursion, fold}
use Rattle.std.specs.declared.alloc.Global.{Global}
use Rattle.std.specs.declared.vec.Vec.{Vec}
use denote.RawPtr.{null_ptr}
use Rattle.logic_meaning.specs.Context.{Context, Fields, Integers}
use Rattle.language_meaning.specs.Holes.{alone}
use Rattle.logic_meaning.specs.Names.{with_name}
use Rattle.language_meaning.specs.Statements.{ActionTree, Empty, Ignored, Finish, Choose, Say, Assign, Assume, Retract, StatementTree}
use Rattle.language_meaning.specs.Pieces.{IsPiece}
use Rattle.language_meaning.specs.Statement.{Spells}
use Rattle.redlog_tokens.proofs.Cutting.{none_or_piece, same_piece}
use Rattle.redlog_reader.proofs.Whole.{spells_once}
use Rattle.program_meaning.specs.declared.line.Line.{Line}
use Rattle.program_meaning.specs.declared.line.Line.TheVariants as line
use Rattle.program_meaning.specs.declared.line.StatementError.{StatementError}
use Rattle.program_meaning.specs.Words.{context_text}
use Rattle.program_meaning.specs.State.{State, with_standing, with_answers, theory_of, chosen, first_state}
use Rattle.program_meaning.specs.Reply.{IsLine, statement_variables, IsReached, Answers, RefusesAction}
use Rattle.program_meaning.specs.Lines.{newline, lines_of}
use Rattle.program_meaning.specs.Run as run
use Rattle.program_meaning.specs.Run.{AnswersPiece, finished, answered, refused, Run, piece_bytes}
use Rattle.redlog_run.proofs.Unrefused.{plain_state, never, action_refused}
use Rattle.redlog_run.proofs.BareStatements.{spelled_alone}
use Rattle.redlog_run.specs.WithoutFormulas as script
use Rattle.redlog_run.specs.WithoutFormulas.{SpellsFrom, IsWithoutFormula, choice_line, choice_lines, IsAnsweredOnlyWith, EndingIsAnswered, ChoicesAreAnswered, NoneIsRefused}

-- a text as a value of the program
abbrev text_of : (bytes : List ℕ) → length bytes < 2 ^ 63 → Vec ℕ Global
text_of bytes h = record { ptr = null_ptr; len = length bytes; cap = length bytes; alloc = record { memory = record { seal = tt } }; items = bytes; ok = (refl, omega arith); small = h }

context_small : (c : Context) → length (context_text c) < 2 ^ 63
context_small Fields = omega arith
context_small Integers = omega arith

-- it is within the limit of a line
context_short : (c : Context) → length (context_text c) ≤ 33554432
context_short Fields = omega arith
context_short Integers = omega arith

-- the statement ends the script
abbrev ends : ActionTree → Bool
ends Finish = true
ends Empty = false
ends Ignored = false
ends (Choose setting) = false
ends (Say c) = false
ends (Assign x c) = false
ends (Assume given) = false
ends Retract = false

ends_at : (a : ActionTree) → ends a ≡ true → a ≡ Finish
ends_at Finish e = refl
ends_at Empty e = absurd (cc)
ends_at Ignored e = absurd (cc)
ends_at (Choose setting) e = absurd (cc)
ends_at (Say c) e = absurd (cc)
ends_at (Assign x c) e = absurd (cc)
ends_at (Assume given) e = absurd (cc)
ends_at Retract e = absurd (cc)

goes_on : (a : ActionTree) → ¬ (a ≡ Finish) → ends a ≡ false
goes_on Finish h = absurd (h refl)
goes_on Empty h = refl
goes_on Ignored h = refl
goes_on (Choose setting) h = refl
goes_on (Say c) h = refl
goes_on (Assign x c) h = refl
goes_on (Assume given) h = refl
goes_on Retract h = refl

-- the line with a text
chosen_line : (printed : Bool) (text : List ℕ) (answer : Line) → IsLine printed text answer → lines_of answer ≡ (if printed then text ++ newline else [])
chosen_line printed text line.Nothing e = sym (ap (λ (b : Bool). if b then text ++ newline else []) e)
chosen_line printed text (line.Printed bytes) e = ap (λ (xs : List ℕ). xs ++ newline) e.1 ∙ sym (ap (λ (b : Bool). if b then text ++ newline else []) e.0)
chosen_line printed text line.Finished e = absurd e

-- ---- one piece

-- it adds the line of the statement, is no refusal, and ends the script where the statement does
record IsChoice (t : StatementTree) (ending : Bool) (lines : List ℕ) (refusal : Bool) : Type 0 where
  ending_is : ending ≡ ends t.action
  lines_are : lines ≡ choice_line t.printed t.action
  unrefused : refusal ≡ false

-- the state in which such a statement leaves a state
abbrev moved : State → ActionTree → State
moved s (Choose setting) = chosen s (theory_of setting)
moved s Empty = s
moved s Ignored = s
moved s Finish = s
moved s (Say c) = s
moved s (Assign x c) = s
moved s (Assume given) = s
moved s Retract = with_standing s []

-- the state after it, which has no answers of commands inside
abbrev after : State → ActionTree → State
after s a = with_answers (moved (with_answers s []) a) []

module _ (s : State) (limit : ℕ) (printed : Bool) where
  finishing : (a : ActionTree) (next : State) → IsWithoutFormula a → Answers s limit printed a line.Finished next → a ≡ Finish
  finishing Empty next w r = let e = r.0 in absurd (cc)
  finishing Ignored next w r = let e = r.0 in absurd (cc)
  finishing Finish next w r = refl
  finishing (Choose setting) next w r = absurd r.0
  finishing (Say c) next w r = absurd w
  finishing (Assign x c) next w r = absurd w
  finishing (Assume given) next w r = absurd w
  finishing Retract next w r = absurd r.0

  silent : (a : ActionTree) (answer : Line) (next : State) → IsWithoutFormula a → answer ≢ line.Finished → Answers s limit printed a answer next → (false ≡ ends a) × (lines_of answer ≡ choice_line printed a)
  silent Empty answer next w other r = (refl, ap lines_of r.0)
  silent Ignored answer next w other r = (refl, ap lines_of r.0)
  silent Finish answer next w other r = absurd (other r.0)
  silent (Choose setting) answer next w other r = (refl, chosen_line printed (context_text (theory_of setting)) answer r.0)
  silent (Say c) answer next w other r = absurd w
  silent (Assign x c) answer next w other r = absurd w
  silent (Assume given) answer next w other r = absurd w
  silent Retract answer next w other r = (refl, chosen_line printed (codes "{}") answer r.0)

  no_refusal : (a : ActionTree) (e : StatementError) → IsWithoutFormula a → RefusesAction s limit printed a e → ⊥
  no_refusal Empty e w r = r
  no_refusal Ignored e w r = r
  no_refusal Finish e w r = r
  no_refusal (Choose setting) e w r = r
  no_refusal (Say c) e w r = absurd w
  no_refusal (Assign x c) e w r = absurd w
  no_refusal (Assume given) e w r = absurd w
  no_refusal Retract e w r = r

module _ (s : State) (limit : ℕ) (piece : List ℕ) (offset : ℕ) (t : StatementTree) (h : Spells piece t) (w : IsWithoutFormula t.action) where
  -- the piece spells no other statement
  same : (u : StatementTree) → Spells piece u → u ≡ t
  same u k = spells_once piece u t k h

  -- each answer to the piece is this one
  choice : {ending : Bool} {lines : List ℕ} {refusal : Bool} {next : State} → AnswersPiece s limit piece offset ending lines refusal next → IsChoice t ending lines refusal
  choice {next = next} (finished r) =
      let a = subst (λ (u : StatementTree). Answers r.state limit u.printed u.action line.Finished r.after) (same r.statement r.spelled) r.answered in
      let finish : t.action ≡ Finish = finishing r.state limit t.printed t.action r.after w a in
      record { ending_is = sym (ap ends finish); lines_are = sym (ap (choice_line t.printed) finish); unrefused = refl }
  choice {next = next} (answered answer other r) =
      let a = subst (λ (u : StatementTree). Answers r.state limit u.printed u.action answer r.after) (same r.statement r.spelled) r.answered in
      let q = silent r.state limit t.printed t.action answer r.after w other a in
      record { ending_is = q.0; lines_are = q.1; unrefused = refl }
  choice {next = next} (refused e other r) = absurd (never s limit piece t h (λ d more k. no_refusal (plain_state t.action s) limit t.printed t.action d w (action_refused s limit t d (spelled_alone piece t h w) k)) e next other r)

-- a statement inside which no command stands
abbrev plain : Bool → ActionTree → StatementTree
plain printed a = record { action = a; printed = printed; inner = alone }

-- and there is one
module _ (s : State) (limit : ℕ) (piece : List ℕ) (offset : ℕ) where
  no_variables : (a : ActionTree) → IsWithoutFormula a → statement_variables alone a ≡ []
  no_variables Empty w = refl
  no_variables Ignored w = refl
  no_variables Finish w = refl
  no_variables (Choose setting) w = refl
  no_variables (Say c) w = absurd w
  no_variables (Assign x c) w = absurd w
  no_variables (Assume given) w = absurd w
  no_variables Retract w = refl

  -- no command is answered before it
  abbrev before : State
  before = with_answers s []

  reached : (printed : Bool) (a : ActionTree) → IsWithoutFormula a → IsReached (plain printed a) s limit before
  reached printed a w = record { answers = []; names = s.names; given = (refl, sym (ap (fold with_name s.names) (no_variables a w))); is = refl }

  line_said : (printed : Bool) (text : List ℕ) (a : ActionTree) → IsWithoutFormula a → length text < 2 ^ 63 → length text ≤ 33554432 → Spells piece (plain printed a)
      → ((answer : Line) → IsLine printed text answer → Answers before limit printed a answer (moved before a)) → AnswersPiece s limit piece offset false (if printed then text ++ newline else []) false (after s a)
  line_said true text a w small short h answers =
      let bytes = line.Printed (text_of text small) in
      answered bytes (λ e. absurd (cc)) (record { statement = plain true a; spelled = h; state = before; reached = reached true a w; after = moved before a; answered = answers bytes (refl, refl, short); left = refl })
  line_said false text a w small short h answers =
      answered line.Nothing (λ e. absurd (cc)) (record { statement = plain false a; spelled = h; state = before; reached = reached false a w; after = moved before a; answered = answers line.Nothing refl; left = refl })

  nothing_said : (printed : Bool) (a : ActionTree) → IsWithoutFormula a → Spells piece (plain printed a) → Answers before limit printed a line.Nothing (moved before a) → AnswersPiece s limit piece offset false [] false (after s a)
  nothing_said printed a w h answers =
      answered line.Nothing (λ e. absurd (cc)) (record { statement = plain printed a; spelled = h; state = before; reached = reached printed a w; after = moved before a; answered = answers; left = refl })

  made : (printed : Bool) (a : ActionTree) → Spells piece (plain printed a) → IsWithoutFormula a → AnswersPiece s limit piece offset (ends a) (choice_line printed a) false (after s a)
  made printed Empty h w = nothing_said printed Empty w h (refl, refl)
  made printed Ignored h w = nothing_said printed Ignored w h (refl, refl)
  made printed Finish h w =
      finished (record { statement = plain printed Finish; spelled = h; state = before; reached = reached printed Finish w; after = before; answered = (refl, refl); left = refl })
  made printed (Choose setting) h w =
      let c = theory_of setting in line_said printed (context_text c) (Choose setting) w (context_small c) (context_short c) h (λ answer l. (l, refl))
  made printed (Say c) h w = absurd w
  made printed (Assign x c) h w = absurd w
  made printed (Assume given) h w = absurd w
  made printed Retract h w = line_said printed (codes "{}") Retract w (omega arith) (omega arith) h (λ answer l. (l, refl))

-- ---- all pieces

-- one piece stands there, so what is said of it is said of each
module _ (text : List ℕ) {from start end start2 end2 : ℕ} (p : IsPiece text from start end) (q : IsPiece text from start2 end2) where
  pub spells_again : (t : StatementTree) → Spells (piece_bytes text start end) t → Spells (piece_bytes text start2 end2) t
  spells_again t h =
      let e = same_piece text from start end start2 end2 p q in
      subst (λ (b : ℕ). Spells (piece_bytes text b end2) t) e.0 (subst (λ (b : ℕ). Spells (piece_bytes text start b) t) e.1 h)

  pub goes_on_again : (ts : List StatementTree) → SpellsFrom text end ts → SpellsFrom text end2 ts
  goes_on_again ts h = subst (λ (b : ℕ). SpellsFrom text b ts) (same_piece text from start end start2 end2 p q).1 h

abbrev AreWithoutFormulas : List StatementTree → Type 0
AreWithoutFormulas ts = AllByRecursion (λ (t : StatementTree). IsWithoutFormula t.action) ts

spelled_plainly : (piece : List ℕ) (t : StatementTree) → Spells piece t → IsWithoutFormula t.action → Spells piece (plain t.printed t.action)
spelled_plainly piece t h w = subst (λ n. Spells piece (record { action = t.action; printed = t.printed; inner = n })) (spelled_alone piece t h w) h

module _ (limit : ℕ) (text : List ℕ) where
  ending_as : (s : State) (piece : List ℕ) (offset : ℕ) (t : StatementTree) (b : Bool) → ends t.action ≡ b → Spells piece t → IsWithoutFormula t.action
      → AnswersPiece s limit piece offset b (choice_line t.printed t.action) false (after s t.action)
  ending_as s piece offset t b e h w =
      subst (λ (b : Bool). AnswersPiece s limit piece offset b (choice_line t.printed t.action) false (after s t.action)) e (made s limit piece offset t.printed t.action (spelled_plainly piece t h w) w)

  one_run : (s : State) {from : ℕ} {ts : List StatementTree} → SpellsFrom text from ts → AreWithoutFormulas ts → Run limit text from s (choice_lines ts) false
  one_run s (script.over none) w = run.over none
  one_run s {from = from} (script.last {start = start} {end = end} {t = t} piece h finish) w =
      subst (λ (ls : List ℕ). Run limit text from s ls false) (sym (append-nil (choice_line t.printed t.action)))
      (run.last piece (ending_as s (piece_bytes text start end) start t true (ap ends finish) h w.0))
  one_run s (script.then {start = start} {end = end} {t = t} piece h other rest) w =
      run.then piece (ending_as s (piece_bytes text start end) start t false (goes_on t.action other) h w.0) (one_run (after s t.action) rest w.1) refl refl

  no_other : {s : State} {from : ℕ} {ts : List StatementTree} {others : List ℕ} {refusal : Bool} → SpellsFrom text from ts → AreWithoutFormulas ts → Run limit text from s others refusal
      → (others ≡ choice_lines ts) × (refusal ≡ false)
  no_other (script.over none) w (run.over _) = (refl, refl)
  no_other {from = from} (script.over none) w (run.last {start = start} {end = end} piece a) = absurd (none_or_piece text from start end none piece)
  no_other {from = from} (script.over none) w (run.then {start = start} {end = end} piece a r e f) = absurd (none_or_piece text from start end none piece)
  no_other {from = from} (script.last {start = start} {end = end} piece h finish) w (run.over none) = absurd (none_or_piece text from start end none piece)
  no_other {s = s} (script.last {t = t} piece h finish) w (run.last {start = start} {end = end} piece2 a) =
      let c = choice s limit (piece_bytes text start end) start t (spells_again text piece piece2 t h) w.0 a in
      (c.lines_are ∙ sym (append-nil (choice_line t.printed t.action)), c.unrefused)
  no_other {s = s} (script.last {t = t} piece h finish) w (run.then {start = start} {end = end} piece2 a r e f) =
      let c = choice s limit (piece_bytes text start end) start t (spells_again text piece piece2 t h) w.0 a in
      let wrong : false ≡ true = c.ending_is ∙ ap ends finish in
      absurd (cc)
  no_other {from = from} (script.then {start = start} {end = end} piece h other rest) w (run.over none) = absurd (none_or_piece text from start end none piece)
  no_other {s = s} (script.then {t = t} piece h other rest) w (run.last {start = start} {end = end} piece2 a) =
      let c = choice s limit (piece_bytes text start end) start t (spells_again text piece piece2 t h) w.0 a in
      let wrong : true ≡ false = c.ending_is ∙ goes_on t.action other in
      absurd (cc)
  no_other {s = s} (script.then {t = t} {ts = ts} piece h other rest) w (run.then {start = start} {end = end} {lines = lines} {rest = later} {refusal = refusal} {more = more} piece2 a r e f) =
      let c = choice s limit (piece_bytes text start end) start t (spells_again text piece piece2 t h) w.0 a in
      let d = no_other (goes_on_again text piece piece2 ts rest) w.1 r in (
        e ∙ ap (λ (ls : List ℕ). ls ++ later) c.lines_are ∙ ap (λ (ls : List ℕ). choice_line t.printed t.action ++ ls) d.0,
        f ∙ ap (λ (b : Bool). b || more) c.unrefused ∙ d.1,
      )

-- ---- what is proved

pub choices_are_answered : ChoicesAreAnswered
choices_are_answered text ts h w = record { answered = λ limit. one_run limit text first_state h w; only = λ limit others refusal r. no_other limit text h w r }

ends_without_formula : (a : ActionTree) → a ≡ Finish → IsWithoutFormula a
ends_without_formula a e = subst IsWithoutFormula (sym e) tt

pub ending_is_answered : EndingIsAnswered
ending_is_answered text start end t piece h finish =
    let lines : choice_lines (t ∷ []) ≡ [] = append-nil (choice_line t.printed t.action) ∙ ap (choice_line t.printed) finish in
    subst (IsAnsweredOnlyWith text) lines (choices_are_answered text (t ∷ []) (script.last piece h finish) (ends_without_formula t.action finish, tt))

pub none_is_refused : NoneIsRefused
none_is_refused text lines a limit r = let wrong : true ≡ false = (a.only limit r.0 true r.1).1 in absurd (cc)
