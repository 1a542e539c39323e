-- Statements that end a script.
use Rattle.std.proofs.Common.{◌≡◌, ℕ, Bool, true, false, List, refl, sym, ap, ◌∙◌, subst}
use Rattle.language_meaning.specs.Statements.{ActionTree, Empty, Ignored, Finish, Choose, Say, Assign, Assume, Retract, StatementTree}
use Rattle.language_meaning.specs.Pieces.{IsPiece}
use Rattle.redlog_tokens.proofs.Cutting.{same_piece}
use Rattle.redlog_reader.proofs.Whole.{spells_once}
use Rattle.program_meaning.specs.declared.line.Line.{Line}
use Rattle.program_meaning.specs.declared.line.Line.TheVariants as line
use Rattle.program_meaning.specs.declared.line.StatementError.{StatementError}
use Rattle.program_meaning.specs.State.{State}
use Rattle.program_meaning.specs.Reply.{Answers, RefusesAction}
use Rattle.program_meaning.specs.Run.{AnswersPiece, finished, answered, refused, piece_bytes, SpellsFinish, HasEnd, here, later}
use Rattle.redlog_run.specs.WithoutFormulas.{IsWithoutFormula}
use Rattle.redlog_run.proofs.Unrefused.{plain_state, never, action_refused}
use Rattle.redlog_run.proofs.BareStatements.{spelled_alone}

-- ---- what a piece spells that ends a script or doesn't

finishes : (s : State) (limit : ℕ) (printed : Bool) (a : ActionTree) (next : State) → Answers s limit printed a line.Finished next → a ≡ Finish
finishes s limit printed Empty next r = let e = r.0 in absurd (cc)
finishes s limit printed Ignored next r = let e = r.0 in absurd (cc)
finishes s limit printed Finish next r = refl
finishes s limit printed (Choose setting) next r = absurd r.0
finishes s limit printed (Say c) next r = absurd r.line
finishes s limit printed (Assign x c) next r = absurd r.line
finishes s limit printed (Assume given) next r = absurd r.said.line
finishes s limit printed Retract next r = absurd r.0

only_finished : (s : State) (limit : ℕ) (printed : Bool) (a : ActionTree) (answer : Line) (next : State) → a ≡ Finish → Answers s limit printed a answer next → answer ≡ line.Finished
only_finished s limit printed a answer next e r = (subst (λ b. Answers s limit printed b answer next) e r).0

unrefused : (s : State) (limit : ℕ) (printed : Bool) (a : ActionTree) (e : StatementError) → a ≡ Finish → RefusesAction s limit printed a e → ⊥
unrefused s limit printed a e same r = subst (λ b. RefusesAction s limit printed b e) same r

module _ (s : State) (limit : ℕ) (piece : List ℕ) (offset : ℕ) where
  pub spells_finish : {lines : List ℕ} {refusal : Bool} {next : State} → AnswersPiece s limit piece offset true lines refusal next → SpellsFinish piece
  spells_finish {next = next} (finished r) = (r.statement, r.spelled, finishes r.state limit r.statement.printed r.statement.action r.after r.answered)

  pub spells_no_finish : {lines : List ℕ} {refusal : Bool} {next : State} → AnswersPiece s limit piece offset false lines refusal next → ¬ (SpellsFinish piece)
  spells_no_finish {next = next} (answered answer other r) f =
      let same : r.statement ≡ f.0 = spells_once piece r.statement f.0 r.spelled f.1 in
      other (only_finished r.state limit r.statement.printed r.statement.action answer r.after (ap (λ (t : StatementTree). t.action) same ∙ f.2) r.answered)
  spells_no_finish {next = next} (refused cause other r) f =
      let plain = spelled_alone piece f.0 f.1 (subst IsWithoutFormula (sym f.2) tt) in
      never s limit piece f.0 f.1 (λ d more k. unrefused (plain_state (f.0).action s) limit (f.0).printed (f.0).action d f.2 (action_refused s limit f.0 d plain k)) cause next other r

-- ---- ends of a script

module _ (longest : ℕ) (script : List ℕ) (from start end : ℕ) (p : IsPiece script from start end) where
  -- the piece ends no script, so one that ends it comes later
  pub end_after : ¬ (SpellsFinish (piece_bytes script start end)) → HasEnd longest script from → HasEnd longest script end
  end_after n (here {start = start2} {end = end2} q k f) =
      let e = same_piece script from start2 end2 start end q p in
      absurd (n (subst (λ b. SpellsFinish (piece_bytes script start b)) e.1 (subst (λ a. SpellsFinish (piece_bytes script a end2)) e.0 f)))
  end_after n (later {start = start2} {end = end2} q k m more) = subst (λ b. HasEnd longest script b) (same_piece script from start2 end2 start end q p).1 more
