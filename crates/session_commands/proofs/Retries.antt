-- The reference elimination after a condition by cases that is too large.
use Rattle.std.proofs.Common.{◌≡◌, ⊎_elim, ℕ, List, Bool, Option, Some, None, refl, sym, subst}
use Rattle.std.specs.Prelude.{MatchOption, Result, IfOk, IfErr, OnErr}
use Rattle.language_meaning.specs.Resolving.{BoundTrees}
use Rattle.language_meaning.specs.Trees.{FormulaTree}
use Rattle.program_meaning.specs.Causes.{HasNoRoom}
use Rattle.program_meaning.specs.declared.line.Line.{Line}
use Rattle.program_meaning.specs.declared.line.StatementError.{StatementError}
use Rattle.program_meaning.specs.State.{State}
use Rattle.program_meaning.specs.Uses.{Use}
use Rattle.form_commands.specs.declared.way.Way.TheVariants as way
use Rattle.session_state.specs.declared.state.SessionState.{SessionState}
use Rattle.session_state.specs.Growth.{KeepsState, GrowsState}
use Rattle.session_state.specs.Keeping.{state_of, IsSessionState}
use Rattle.session_state.proofs.StateLemmas.{same_state, same_session, keeps_then_grows}
use Rattle.session_commands.specs.declared.formulas.FormCommand.{FormCommand}
use Rattle.session_commands.specs.declared.formulas.FormCommand.TheVariants as wanted
use Rattle.form_commands.specs.Replies.{use_of, Refuses, IsFormulaAnswer}
use Rattle.session_commands.specs.Steps.{command_of, plain_of, IsFirstAttempt, IsByCases, IsForSize, IsUnfit, IsUnspared, MayAsk, AttemptRefuses, KeepsWhereEliminated}
use Rattle.session_commands.proofs.GivenSteps.{if_err, on_err}

-- the same command, the other way
same_command : (w : FormCommand) (f : FormulaTree) → command_of (plain_of w) f ≡ command_of w f
same_command wanted.Resolved f = refl
same_command wanted.NegationNormal f = refl
same_command wanted.Prenex f = refl
same_command (wanted.Distributed clauses) f = refl
same_command (wanted.Simplified given) f = refl
same_command (wanted.Eliminated found given) f = refl

-- a first attempt asks for nothing
ask_first : (s : State) (limit : ℕ) (u : Use) (w : FormCommand) (f : FormulaTree) → IsFirstAttempt w → MayAsk s limit u w f
ask_first s limit u wanted.Resolved f h = tt
ask_first s limit u wanted.NegationNormal f h = tt
ask_first s limit u wanted.Prenex f h = tt
ask_first s limit u (wanted.Distributed clauses) f h = tt
ask_first s limit u (wanted.Simplified given) f h = tt
ask_first s limit u (wanted.Eliminated way.ByCases given) f h = tt
ask_first s limit u (wanted.Eliminated way.ByReference given) f h = absurd h

-- a condition by cases is asked again by the reference, of which nothing is unfit
again_kept : (w : FormCommand) (old new : SessionState) → IsByCases w → KeepsWhereEliminated w old new → KeepsState old new
again_kept wanted.Resolved old new x k = absurd x
again_kept wanted.NegationNormal old new x k = absurd x
again_kept wanted.Prenex old new x k = absurd x
again_kept (wanted.Distributed clauses) old new x k = absurd x
again_kept (wanted.Simplified given) old new x k = absurd x
again_kept (wanted.Eliminated way.ByCases given) old new x k = k
again_kept (wanted.Eliminated way.ByReference given) old new x k = absurd x

again_asks : (w : FormCommand) (s : State) (limit : ℕ) (u : Use) (f : FormulaTree) → IsByCases w → IsUnspared s limit u w f → MayAsk s limit u (plain_of w) f
again_asks wanted.Resolved s limit u f x n = absurd x
again_asks wanted.NegationNormal s limit u f x n = absurd x
again_asks wanted.Prenex s limit u f x n = absurd x
again_asks (wanted.Distributed clauses) s limit u f x n = absurd x
again_asks (wanted.Simplified given) s limit u f x n = absurd x
again_asks (wanted.Eliminated way.ByCases given) s limit u f x n = n
again_asks (wanted.Eliminated way.ByReference given) s limit u f x n = absurd x

again_fits : (w : FormCommand) → IsByCases w → ¬ (IsByCases (plain_of w))
again_fits wanted.Resolved x = absurd x
again_fits wanted.NegationNormal x = absurd x
again_fits wanted.Prenex x = absurd x
again_fits (wanted.Distributed clauses) x = absurd x
again_fits (wanted.Simplified given) x = absurd x
again_fits (wanted.Eliminated way.ByCases given) x = λ y. y
again_fits (wanted.Eliminated way.ByReference given) x = absurd x

-- a condition for which there is room is unfit where it is refused for its size
pub found_again : (w : FormCommand) (bound : BoundTrees) (target : Option (List ℕ)) (e : StatementError) → IsForSize e → ¬ (HasNoRoom bound target)
    → (o : Option FormCommand) → MatchOption o (¬ (IsByCases w)) (λ plain. (plain ≡ plain_of w) × IsByCases w) → MatchOption o (¬ (IsUnfit bound target w e)) (λ plain. (plain ≡ plain_of w) × IsUnfit bound target w e)
found_again w bound target e size room None h = λ x. h x.0
found_again w bound target e size room (Some plain) h = (h.0, (h.1, size, room))

module _ (w : FormCommand) (f : FormulaTree) (limit : ℕ) (target : Option (List ℕ)) (printed : Bool) (state later : SessionState) (h : IsSessionState state) (e : StatementError)
    (first : IsFirstAttempt w) (refused : AttemptRefuses (state_of state) limit (use_of target printed) w f e) (kept : KeepsWhereEliminated w state later) where
  abbrev u : Use
  u = use_of target printed

  unfit_there : IsUnfit (state_of state).bound target w e → IsUnfit (state_of later).bound target w e
  unfit_there x = subst (λ (s : State). IsUnfit s.bound target w e) (sym (same_state state later h.ids (again_kept w state later x.0 kept))) x

  -- where the condition is not unfit the command is refused
  pub settled : ¬ (IsUnfit (state_of later).bound target w e) → Refuses (state_of state) limit u (command_of w f) e
  settled fit = ⊎_elim (λ x. absurd (fit (unfit_there x.0))) (λ r. r.1) (refused (ask_first (state_of state) limit u w f first))

  module _ (plain : FormCommand) (is : plain ≡ plain_of w) (x : IsUnfit (state_of later).bound target w e) where
    still : KeepsState state later
    still = again_kept w state later x.0 kept

    same : state_of later ≡ state_of state
    same = same_state state later h.ids still

    command : command_of plain f ≡ command_of w f
    command = subst (λ p. command_of p f ≡ command_of w f) (sym is) (same_command w f)

    pub again_session : IsSessionState later
    again_session = same_session state later h still

    x_here : IsUnfit (state_of state).bound target w e
    x_here = subst (λ (s : State). IsUnfit s.bound target w e) same x

    unspared : IsUnspared (state_of state) limit u w f
    unspared = ⊎_elim (λ y. y.1) (λ r. absurd (r.0 x_here)) (refused (ask_first (state_of state) limit u w f first))

    pub again_answered : (r : Result Line StatementError) (last : SessionState) → IfOk r (λ line. IsFormulaAnswer (state_of later) limit u (command_of plain f) line (state_of last))
        → IfOk r (λ line. IsFormulaAnswer (state_of state) limit u (command_of w f) line (state_of last))
    again_answered r last a = subst (λ s. IfOk r (λ line. IsFormulaAnswer s limit u (command_of w f) line (state_of last))) same (subst (λ d. IfOk r (λ line. IsFormulaAnswer (state_of later) limit u d line (state_of last))) command a)

    refused_again : (d : StatementError) → AttemptRefuses (state_of later) limit u plain f d → Refuses (state_of state) limit u (command_of w f) d
    refused_again d a =
        let b = subst (λ p. AttemptRefuses (state_of later) limit u p f d) is a in
        let b2 = subst (λ s. AttemptRefuses s limit u (plain_of w) f d) same b in
        subst (λ y. Refuses (state_of state) limit u y d) (same_command w f)
        (⊎_elim (λ y. absurd (again_fits w x.0 y.0.0)) (λ r. r.1) (b2 (again_asks w (state_of state) limit u f x.0 unspared)))

    pub again_refused : (r : Result Line StatementError) → IfErr r (AttemptRefuses (state_of later) limit u plain f) → IfErr r (Refuses (state_of state) limit u (command_of w f))
    again_refused r a = if_err r refused_again a

    pub again_grown : (r : Result Line StatementError) (last : SessionState) → OnErr r (GrowsState later last) → OnErr r (GrowsState state last)
    again_grown r last g = on_err r (keeps_then_grows state later last still) g
