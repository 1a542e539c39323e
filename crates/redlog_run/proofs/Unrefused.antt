-- A piece that spells a statement which has no cause of a refusal is not refused.
use Rattle.std.proofs.Common.{◌≡◌, ◌≢◌, ⊎_elim, ℕ, Bool, true, false, ◌||◌, List, [], ◌++◌, refl, ap, ap₂, ◌∙◌, subst}
use Rattle.std.specs.Prelude.{Err}
use Rattle.logic_meaning.specs.Tree.{Tree}
use Rattle.language_meaning.specs.Holes.{Nests, alone}
use Rattle.language_meaning.specs.Statements.{ActionTree, StatementTree}
use Rattle.language_meaning.specs.Statement.{Spells}
use Rattle.language_meaning.specs.declared.token.ReadError.TheVariants as reading
use Rattle.redlog_reader.proofs.Whole.{spells_once, not_unread}
use Rattle.program_meaning.specs.declared.line.StatementError.{StatementError}
use Rattle.program_meaning.specs.declared.line.StatementError.TheVariants as error
use Rattle.program_meaning.specs.State.{State, with_names, with_answers}
use Rattle.program_meaning.specs.Inside.{GivesAll, SomeStops}
use Rattle.program_meaning.specs.Reply.{with_variables, IsReached, RefusesAction, RefusesStatement, SpellsRefused, Reply}
use Rattle.program_meaning.specs.Run.{AnswersPiece, finished, answered, refused, Run, over, last, then, RunTo, begin, on, piece_bytes}
use Rattle.program_meaning.specs.Unrefused.{IsUnrefusedPiece, IsUnrefused}
use Rattle.redlog_run.specs.NoRefusal.{UnrefusedScriptsHaveNoRefusal}

-- ---- statements inside which no command stands

-- the state in which the variables of such a statement have their numbers, without answers
abbrev pub plain_state : ActionTree → State → State
plain_state a s = with_answers (with_variables alone a s) []

none_given : (ns : Nests) (a : ActionTree) (s : State) (limit : ℕ) (answers : List Tree) (names : List (List ℕ)) → ns ≡ alone → GivesAll ns (with_variables ns a s) limit answers names
    → (answers ≡ []) × (names ≡ (with_variables alone a s).names)
none_given ns a s limit answers names plain h = subst (λ (ms : Nests). GivesAll ms (with_variables ms a s) limit answers names) plain h

-- it is the one that is reached
pub plain_reached : (s : State) (limit : ℕ) (t : StatementTree) (reached : State) → t.inner ≡ alone → IsReached t s limit reached → reached ≡ plain_state t.action s
plain_reached s limit t reached plain r =
    let none = none_given t.inner t.action s limit r.answers r.names plain r.given in
    r.is ∙ ap₂ (λ ns ts. with_answers (with_names s ns) ts) none.1 none.0

none_stops : (ns : Nests) (a : ActionTree) (s : State) (limit : ℕ) (e : StatementError) → ns ≡ alone → SomeStops ns (with_variables ns a s) limit e → ⊥
none_stops ns a s limit e plain h = subst (λ (ms : Nests). SomeStops ms (with_variables ms a s) limit e) plain h

-- so the statement is refused for its action
pub action_refused : (s : State) (limit : ℕ) (t : StatementTree) (e : StatementError) → t.inner ≡ alone → RefusesStatement s limit t e → RefusesAction (plain_state t.action s) limit t.printed t.action e
action_refused s limit t e plain r =
    ⊎_elim (λ k. absurd (none_stops t.inner t.action s limit e plain k))
    (λ k. subst (λ (z : State). RefusesAction z limit t.printed t.action e) (plain_reached s limit t k.0 plain k.1) k.2) r

module _ (s : State) (limit : ℕ) (piece : List ℕ) (t : StatementTree) (h : Spells piece t)
    (none : (e : StatementError) → e ≢ error.Memory → RefusesStatement s limit t e → ⊥) where
  refused_never : (e : StatementError) → e ≢ error.Memory → SpellsRefused s limit piece e → ⊥
  refused_never e other r = none e other (subst (λ (u : StatementTree). RefusesStatement s limit u e) (spells_once piece r.statement t r.spelled h) r.refused)

  pub never : (e : StatementError) (next : State) → e ≢ error.Memory → Reply s limit piece (Err e) next → ⊥
  never error.Long next other r = not_unread piece t reading.Long (λ p. absurd (cc)) h r.1
  never error.Lexical next other r = not_unread piece t reading.Lexical (λ p. absurd (cc)) h r.1
  never error.Nesting next other r = not_unread piece t reading.Nesting (λ p. absurd (cc)) h r.1
  never error.Syntax next other r = not_unread piece t reading.Syntax (λ p. absurd (cc)) h r.1
  never error.Memory next other r = other refl
  never e next other r = refused_never e other r.1

-- ---- whole scripts

-- a piece that may not be refused is not refused
piece_unrefused : (s : State) (limit : ℕ) (piece : List ℕ) (offset : ℕ) {ending refusal : Bool} {lines : List ℕ} {next : State} → IsUnrefusedPiece s limit piece → AnswersPiece s limit piece offset ending lines refusal next → refusal ≡ false
piece_unrefused s limit piece offset u (finished r) = refl
piece_unrefused s limit piece offset u (answered line other r) = refl
piece_unrefused s limit piece offset {next = next} u (refused cause other r) = absurd (never s limit piece u.statement u.spelled u.unrefused cause next other r)

module _ (limit : ℕ) (script : List ℕ) (u : IsUnrefused limit script) where
  run_unrefused : {from : ℕ} {s : State} {before rest : List ℕ} {refusal : Bool} → RunTo limit script from s before false → Run limit script from s rest refusal → refusal ≡ false
  run_unrefused t (over none) = refl
  run_unrefused {from = from} {s = s} {before = before} t (last {start = start} {end = end} p a) =
      piece_unrefused s limit (piece_bytes script start end) start (u from start end s before t p) a
  run_unrefused {from = from} {s = s} {before = before} t (then {start = start} {end = end} {next = next} {lines = lines} {refusal = refusal} {more = more} p a r e f) =
      let fine = piece_unrefused s limit (piece_bytes script start end) start (u from start end s before t p) a in
      let further : RunTo limit script end next (before ++ lines) false = on t p (subst (λ b. AnswersPiece s limit (piece_bytes script start end) start false lines b next) fine a) refl refl in
      f ∙ ap (λ b. b || more) fine ∙ run_unrefused further r

-- a script of such pieces has no run with a refusal
pub unrefused_scripts : UnrefusedScriptsHaveNoRefusal
unrefused_scripts limit script u r = let wrong : true ≡ false = run_unrefused limit script u begin r.1 in absurd (cc)
