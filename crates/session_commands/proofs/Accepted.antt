-- The statement `true` has no cause of a refusal.
use Rattle.std.proofs.Common.{◌≡◌, ⊎_elim, ℕ, Bool, length, ap, arith}
use Rattle.std.specs.Prelude.{None}
use Rattle.logic_meaning.specs.Context.{Context, Fields, Integers}
use Rattle.logic_meaning.specs.Formula.{Yes}
use Rattle.logic_meaning.specs.Tree.{Tree}
use Rattle.language_meaning.specs.Statements.{Echo}
use Rattle.language_meaning.specs.Causes.{CongruenceInFields}
use Rattle.logic_meaning.specs.Text.{tree_text}
use Rattle.program_meaning.specs.declared.line.StatementError.{StatementError}
use Rattle.program_meaning.specs.declared.line.StatementError.TheVariants as error
use Rattle.program_meaning.specs.State.{State}
use Rattle.program_meaning.specs.Meaning.{Meaning, meaning}
use Rattle.program_meaning.specs.Causes.{IsFirst, HasLongLine, IsCause, MayBeCause}
use Rattle.form_commands.specs.Replies.{use_of}
use Rattle.session_commands.specs.Accepted.{TruthIsNeverRefused}

abbrev of_true : Meaning
of_true = meaning (Echo Yes)

module _ (s : State) (limit : ℕ) (printed : Bool) where
  no_congruence : (c : Context) → CongruenceInFields c Yes → ⊥
  no_congruence Fields h = h
  no_congruence Integers h = h

  -- the line has four bytes
  true_is_short : HasLongLine of_true s (use_of None printed) → ⊥
  true_is_short l = let short : length (tree_text l.names l.formula) ≡ 4 = ap (λ (t : Tree). length (tree_text l.names t)) l.determined in absurd (omega (arith, l.long))

  no_cause : (e : StatementError) → IsCause of_true s limit (use_of None printed) e → ⊥
  no_cause error.Long h = h
  no_cause error.Lexical h = h
  no_cause error.Nesting h = h
  no_cause error.Syntax h = h
  no_cause error.Unbound h = ⊎_elim (λ k. k) (λ k. k) h
  no_cause error.FormulaAsTerm h = ⊎_elim (λ k. ⊎_elim (λ l. l) (λ l. l) k) (λ k. k) h
  no_cause error.Nonlinear h = ⊎_elim (λ k. k) (λ k. k) h
  no_cause error.Division h = ⊎_elim (λ k. k) (λ k. k) h
  no_cause error.CongruenceContext h = ⊎_elim (no_congruence s.context) (λ k. k) h
  no_cause error.Context h = h
  no_cause error.Modulus h = ⊎_elim (λ k. k) (λ k. k) h
  no_cause error.Depth h = ⊎_elim (λ k. absurd (omega arith)) (λ k. k) h
  no_cause error.Point h = h
  no_cause error.Unvalued h = h
  no_cause error.Quantified h = h
  no_cause error.Overflow h = ⊎_elim (λ k. ⊎_elim (λ l. ⊎_elim (λ n. n) (λ n. n) l) (λ l. l) k) (λ k. k) h
  no_cause error.Nodes h = h
  no_cause error.Bindings h = ⊎_elim (λ k. k) (λ k. absurd k.2) h
  no_cause error.Text h = ⊎_elim true_is_short (λ k. k) h.1
  no_cause error.Memory h = h

  no_other : (e : StatementError) → MayBeCause of_true s limit (use_of None printed) e → ⊥
  no_other error.Overflow h = h.1
  no_other error.Nodes h = h.1
  no_other error.Bindings h = absurd h.2
  no_other error.Text h = ⊎_elim (λ k. absurd k.1) (λ k. k) h.2
  no_other _ h = h

pub truth_is_never_refused : TruthIsNeverRefused
truth_is_never_refused printed s limit e other r =
    ⊎_elim (λ stop. stop) (λ k. let h : IsFirst of_true k.0 limit (use_of None printed) e = k.2 in ⊎_elim (no_cause k.0 limit printed e) (no_other k.0 limit printed e) h.applies) r
