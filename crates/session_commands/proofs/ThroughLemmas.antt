-- A statement, by way of the commands inside it.
use Rattle.std.specs.Prelude.{Result, Ok, Err, IfOk, IfErr}
use Rattle.std.proofs.Common.{◌≡◌, inl, inr, ℕ, List, [], map, length, take, sym, ap, ◌∙◌, subst}
use Rattle.std.specs.declared.alloc.Global.{Global}
use Rattle.std.specs.declared.vec.Vec.{Vec}
use Rattle.formula_resolving.proofs.Numbered.{grows_then}
use Rattle.formula_store.specs.declared.id.FormulaId.{FormulaId}
use Rattle.formula_store.specs.Nodes.{tree}
use Rattle.language_meaning.specs.Holes.{alone}
use Rattle.written_syntax.specs.declared.statement.Statement.{Statement}
use Rattle.written_syntax.specs.StatementSyntaxCodeTrees.{whole_action, statement_tree}
use Rattle.program_meaning.specs.declared.line.Line.{Line}
use Rattle.program_meaning.specs.declared.line.StatementError.{StatementError}
use Rattle.program_meaning.specs.State.{State, with_answers}
use Rattle.program_meaning.specs.Inside.{GivesAll, SomeStops}
use Rattle.program_meaning.specs.Reply.{with_variables, IsReached, Answers, RefusesAction}
use Rattle.form_commands.specs.FromEngineAnswers.{Limits}
use Rattle.form_commands.specs.Replies.{IsStopped}
use Rattle.session_state.specs.declared.state.SessionState.{SessionState}
use Rattle.session_state.specs.Keeping.{state_of, IsSessionState}
use Rattle.session_state.specs.Growth.{GrowsState}
use Rattle.session_state.proofs.StateLemmas.{back_session, back_state}
use Rattle.session_commands.specs.Asking.{asked_action, IsWritten}
use Rattle.session_commands.specs.Seen.{state_in}
use Rattle.session_commands.specs.Inner.{AreAnswered, AreStopped}
use Rattle.session_commands.specs.Through.{IsAnsweredThrough, IsStatementAnswer, IsStatementStopped, LeavesState}
use Rattle.session_commands.proofs.AskedLemmas.{IsActedAs, acted_as}
use Rattle.session_commands.proofs.InnerSteps.{answering}

-- ---- what is answered, and what is refused

module _ (t : Statement) (w : IsWritten t.action) (s : State) (limit : ℕ) where
  acted : IsActedAs t.action
  acted = acted_as t.action w

  pub stopped_inside : (e : StatementError) → AreStopped t.action s limit e → IsStatementStopped t s limit e
  stopped_inside e h other = inl (subst (λ a. SomeStops (whole_action t.action).inner (with_variables (whole_action t.action).inner a s) limit e) (sym acted.tree) (h other))

  module _ (mid : State) (h : AreAnswered t.action s limit mid) where
    abbrev there : State
    there = with_variables alone (asked_action t.action) mid

    is_reached : IsReached (statement_tree t) s limit there
    is_reached = record {
      answers = mid.answers;
      names = there.names;
      given = subst (λ a. GivesAll (whole_action t.action).inner (with_variables (whole_action t.action).inner a s) limit mid.answers there.names) (sym acted.tree) h.given;
      is = h.is;
    }

    pub answered_through : (r : Result Line StatementError) (next : State) → IfOk r (λ line. Answers there limit t.printed (asked_action t.action) line next) → IfOk r (λ line. IsAnsweredThrough t s limit line next)
    answered_through (Ok line) next a = record { state = there; reached = is_reached; answered = subst (λ b. Answers there limit t.printed b line next) (sym acted.tree) a }
    answered_through (Err e) next a = tt

    pub stopped_through : (r : Result Line StatementError) → IfErr r (IsStopped there limit t.printed (asked_action t.action)) → IfErr r (IsStatementStopped t s limit)
    stopped_through (Ok line) h = tt
    stopped_through (Err e) h = λ other. inr (there, is_reached, subst (λ b. RefusesAction there limit t.printed b e) (sym acted.tree) (h other))

-- ---- the session's state

pub leaves_then : (first second third : SessionState) → LeavesState first second → GrowsState second third → LeavesState first third
leaves_then first second third l g = record {
  context = g.context ∙ l.context;
  names = grows_then first.names second.names third.names l.names g.names;
  bindings = g.bindings ∙ l.bindings;
  standing = g.standing ∙ l.standing;
  store = record { is = λ id h. g.store.is id (l.store.is id h); same = λ id h. g.store.same id (l.store.is id h) ∙ l.store.same id h };
}

pub grows_leaves : (old new : SessionState) → GrowsState old new → LeavesState old new
grows_leaves old new g = record { context = g.context; names = g.names; bindings = g.bindings; standing = g.standing; store = g.store }

-- the answers given up
module _ (mid : SessionState) (none : Vec FormulaId Global) (empty : none.items ≡ []) where
  pub cleared_state : state_of (answering mid none) ≡ with_answers (state_of mid) []
  cleared_state = ap (λ ids. with_answers (state_of mid) (map (tree mid.store) ids)) empty

  pub statement_answer : (t : Statement) (s : State) (limit : ℕ) (r : Result Line StatementError) → IfOk r (λ line. IsAnsweredThrough t s limit line (state_of mid)) → IfOk r (λ line. IsStatementAnswer t s limit line (state_of (answering mid none)))
  statement_answer t s limit (Ok line) h = record { after = state_of mid; through = h; left = cleared_state }
  statement_answer t s limit (Err e) h = tt

  -- and the new names
  module _ (old : SessionState) (settled : old.answers.items ≡ []) (l : LeavesState old mid) where
    grown : GrowsState old (answering mid none)
    grown = record { context = l.context; names = l.names; bindings = l.bindings; standing = l.standing; answers = empty ∙ sym settled; store = l.store }

    module _ (names : List (List ℕ)) (is : names ≡ take (length old.names) mid.names) (h : IsSessionState old) where
      abbrev left : List (List ℕ) → SessionState
      left ns = record { alloc = mid.alloc; context = mid.context; names = ns; bindings = mid.bindings; standing = mid.standing; answers = none; store = mid.store; kept = mid.kept }

      pub left_session : IsSessionState (left names)
      left_session = subst (λ ns. IsSessionState (left ns)) (sym is) (back_session old (answering mid none) grown h)

      pub left_state : state_of (left names) ≡ state_of old
      left_state = ap (λ ns. state_of (left ns)) is ∙ back_state old (answering mid none) grown h

-- ---- what is seen of the session

pub seen_state : (d : SessionState) (limits : Limits) → d.answers.items ≡ [] → state_of d ≡ state_in (record { context = d.context; names = d.names; bindings = d.bindings; standing = d.standing; formulas = d.store; limits = limits })
seen_state d limits settled = ap (λ ids. with_answers (state_of d) (map (tree d.store) ids)) settled
