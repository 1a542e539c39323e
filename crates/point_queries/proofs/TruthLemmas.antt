-- The truth at a point, and why it is refused.
use Rattle.std.proofs.Common.{◌≡◌, inl, inr, ℕ, List, [], ◌∷◌, Bool, true, false, IsTrue, ◌↔◌, None, sym, subst, refl}
use Rattle.std.proofs.lemmas.Bool.{false≢true}
use Rattle.std.specs.List.{IsDistinct}
use Rattle.logic_meaning.specs.Context.{Context}
use Rattle.logic_meaning.specs.Point.{Point, Of}
use Rattle.logic_meaning.specs.Tree.{Tree, TrueAt}
use Rattle.normal_atoms.specs.declared.atoms.Context as atoms
use Rattle.normal_atoms.specs.Atoms.{context_of}
use Rattle.form_commands.specs.FromEngineAnswers.{Limits}
use Rattle.language_meaning.specs.declared.entries.PointEntry.{PointEntry}
use Rattle.language_meaning.specs.Point.{IsPointOf}
use Rattle.language_meaning.specs.Statements.{Holds}
use Rattle.language_meaning.specs.Trees.{FormulaTree}
use Rattle.language_meaning.specs.Value.{NamedPoint, same_name}
use Rattle.language_meaning.specs.Resolving.{at_names, resolve}
use Rattle.formula_store.specs.Truths.{Tells}
use Rattle.logic_meaning.specs.Sample.{reference_at}
use Rattle.reference_engine.specs.declared.measured.Measured.{Measured}
use Rattle.reference_engine.specs.declared.measured.Measured.TheVariants as measured
use Rattle.reference_engine.specs.Told.{StopsWith}
use Rattle.program_meaning.specs.declared.line.StatementError.{StatementError}
use Rattle.program_meaning.specs.declared.line.StatementError.TheVariants as error
use Rattle.program_meaning.specs.State.{State, known}
use Rattle.form_commands.specs.Replies.{use_of}
use Rattle.form_commands.specs.Refusals.{measured_refusal}
use Rattle.form_commands.specs.Reading.{HasNumbers, IsReadable}
use Rattle.point_queries.specs.Asked.{AcceptsBoth}
use Rattle.program_meaning.specs.Meaning.{meaning}
use Rattle.program_meaning.specs.Causes.{HasNone}
use Rattle.program_meaning.specs.Words.{before}
use Rattle.program_meaning.specs.Points.{IsQuantified, IsTruth}
use Rattle.form_commands.proofs.CauseLemmas.{none_before}
use Rattle.point_queries.specs.Truths.{RefusesTruth, ValueStop, EliminationStop}
use Rattle.form_commands.proofs.ReadTruth.{truth_as_written}

module _ (s : State) (f : FormulaTree) (es : List PointEntry) (p : NamedPoint) (meant : IsPointOf es p) where
  -- ---- refusals

  module _ (clear : AcceptsBoth s f es) (limit : ℕ) where
    before_overflow : (printed : Bool) → HasNone (meaning (Holds f es)) s limit (use_of None printed) (before error.Overflow)
    before_overflow printed = none_before (meaning (Holds f es)) s limit (use_of None printed) error.Overflow (error.Overflow ∷ error.Nodes ∷ error.Bindings ∷ error.Text ∷ []) refl (clear limit printed).0

    before_nodes : (printed : Bool) → HasNone (meaning (Holds f es)) s limit (use_of None printed) (before error.Nodes)
    before_nodes printed = none_before (meaning (Holds f es)) s limit (use_of None printed) error.Nodes (error.Nodes ∷ error.Bindings ∷ error.Text ∷ []) refl (clear limit printed).0

    pub truth_passes : ¬ (IsQuantified (known s) f) → (e : StatementError) → ValueStop (resolve s.context (known s) s.names f) (at_names s.names p) e → RefusesTruth s limit f es e
    truth_passes free e (inl h) =
        subst (RefusesTruth s limit f es) (sym h.0)
        (λ printed other. record { applies = inr (λ k. k, inl (free, record { point = p; meant = meant; passes = h.1 })); first = before_overflow printed })
    truth_passes free e (inr h) = λ printed other. absurd (other h)

    pub elimination_stops : IsQuantified (known s) f → (e : StatementError) → EliminationStop s.context limit (resolve s.context (known s) s.names f) (at_names s.names p) e → RefusesTruth s limit f es e
    elimination_stops quantified e h = subst (RefusesTruth s limit f es) (sym h.1) (each h.0 h.2)
      where
        each : (d : Measured) → StopsWith d (reference_at s.context limit (at_names s.names p) (resolve s.context (known s) s.names f)) → RefusesTruth s limit f es (measured_refusal d)
        each measured.Overflow k = λ printed other. record { applies = inr (λ x. x, inr (quantified, (p, meant, k))); first = before_overflow printed }
        each measured.Nodes k = λ printed other. record { applies = inr (λ x. x, (quantified, (p, meant, k))); first = before_nodes printed }
        each measured.Memory k = λ printed other. absurd (other refl)

  -- ---- the truth

  pub is_truth : HasNumbers s.names f → (b : Bool) → IsDistinct same_name s.names → IsReadable s f → Of s.context p
      → (IsTrue b ↔ TrueAt s.context (resolve s.context (known s) s.names f) (at_names s.names p)) → IsTruth s f es b
  is_truth numbers b distinct readable of told =
      let same = truth_as_written s f numbers distinct readable p of in
      record { point = p; meant = meant; truth = (λ h. same.1 (told.0 h), λ h. told.1 (same.0 h)) }

-- the truth that is told in both theories is told in each
pub told_in : (c : Context) (b : Bool) (t : Tree) (q : Point ℕ) → Tells b t q → IsTrue b ↔ TrueAt c t q
told_in c true t q h = (λ _. h c, λ _. refl)
told_in c false t q h = (λ e. absurd (false≢true e), λ k. absurd (h c k))

module _ (t : Tree) (p q : Point ℕ) (same : p ≡ q) (c d : atoms.Context) (is : d ≡ c) where
  -- an engine for the theory of the state tells the truth in it
  pub truth_there : (b : Bool) → (IsTrue b ↔ TrueAt (context_of d) t p) → IsTrue b ↔ TrueAt (context_of c) t q
  truth_there b h = subst (λ (x : atoms.Context). IsTrue b ↔ TrueAt (context_of x) t q) is (subst (λ r. IsTrue b ↔ TrueAt (context_of d) t r) same h)

  -- and what stops the reference there refuses it
  pub truth_stopped : (l m : Limits) → m ≡ l → (e : Measured) → StopsWith e (reference_at (context_of d) m.nodes p t) → (x : StatementError) → x ≡ measured_refusal e → EliminationStop (context_of c) l.nodes t q x
  truth_stopped l m limits e h x word =
      let there = subst (λ (y : Limits). StopsWith e (reference_at (context_of d) y.nodes q t)) limits (subst (λ r. StopsWith e (reference_at (context_of d) m.nodes r t)) same h) in
      (e, word, subst (λ (y : atoms.Context). StopsWith e (reference_at (context_of y) l.nodes q t)) is there)
