-- The sample at a point, and why it is refused.
use Rattle.std.proofs.Common.{◌↔◌, inr, ℕ, ◌<◌, List, [], ◌∷◌, Bool, None, Some, Option, subst, sym, refl}
use Rattle.std.specs.List.{IsDistinct}
use Rattle.logic_meaning.specs.Context.{Context}
use Rattle.logic_meaning.specs.Every.{Every}
use Rattle.logic_meaning.specs.Point.{Point, Of}
use Rattle.logic_meaning.specs.Some.{EachOf}
use Rattle.logic_meaning.specs.Tree.{Tree, TrueAt}
use Rattle.logic_meaning.specs.NormalForm.{IsNormal}
use Rattle.logic_meaning.specs.Cases.{case_sign, case_formula}
use Rattle.elimination_theory.proofs.CasesExact.{says}
use Rattle.reference_engine.specs.declared.measured.Measured.{Measured}
use Rattle.reference_engine.specs.declared.measured.Measured.TheVariants as measured
use Rattle.reference_engine.specs.Told.{StopsWith}
use Rattle.logic_meaning.specs.ReferenceSample.{reference_sample}
use Rattle.sample_reference.specs.TrueSample.{IsTrueSample}
use Rattle.std.specs.declared.vec.Vec.{Vec}
use Rattle.std.specs.declared.alloc.Global.{Global}
use Rattle.exact_numbers.specs.declared.fraction.Fraction.{Fraction}
use Rattle.logic_meaning.specs.declared.form.VarId.{VarId}
use Rattle.sample_reference.specs.Seen.{values_of, sample_of}
use Rattle.logic_meaning.specs.Values.{Value, value_names}
use Rattle.redlog_printer.specs.Within.{AreValuesWithin}
use Rattle.language_meaning.specs.declared.entries.PointEntry.{PointEntry}
use Rattle.language_meaning.specs.Point.{IsPointOf}
use Rattle.language_meaning.specs.Statements.{Sample}
use Rattle.language_meaning.specs.Trees.{FormulaTree}
use Rattle.language_meaning.specs.Value.{NamedPoint, same_name}
use Rattle.language_meaning.specs.Resolving.{at_names, resolve}
use Rattle.program_meaning.specs.declared.line.StatementError.{StatementError}
use Rattle.program_meaning.specs.declared.line.StatementError.TheVariants as error
use Rattle.program_meaning.specs.State.{State, known}
use Rattle.form_commands.specs.Replies.{use_of}
use Rattle.form_commands.specs.Refusals.{measured_refusal}
use Rattle.form_commands.specs.Reading.{HasNumbers, IsReadable}
use Rattle.point_queries.specs.Asked.{AcceptsBoth}
use Rattle.program_meaning.specs.Meaning.{meaning}
use Rattle.program_meaning.specs.Causes.{HasNone}
use Rattle.program_meaning.specs.Words.{before}
use Rattle.program_meaning.specs.FormulaAnswers.{negation_normal_of}
use Rattle.session_state.specs.Keeping.{IsSessionFormula}
use Rattle.program_meaning.specs.Samples.{HasSample, IsSample, IsValueInLimit}
use Rattle.point_queries.specs.SampleSteps.{RefusesSample, SampleStop, IsSampleWithin}
use Rattle.form_commands.proofs.CauseLemmas.{none_before}
use Rattle.form_commands.proofs.CaseLemmas.{block_below, turned_says, turned_along}
use Rattle.form_commands.proofs.ReadTruth.{truth_as_written}

-- ---- the names of the values

values_within : (n : ℕ) (values : List Value) → EachOf (λ x. x < n) (value_names values) → AreValuesWithin n values
values_within n [] h = tt
values_within n (v ∷ vs) h = (h.0, values_within n vs h.1)

pub sample_within : (c : Context) (n : ℕ) (t : Tree) (q : Point ℕ) → IsSessionFormula c n t → (sample : Option (List Value)) → IsTrueSample c t q sample → IsSampleWithin n sample
sample_within c n t q own None h = tt
sample_within c n t q own (Some values) h = values_within n values (subst (EachOf (λ x. x < n)) (sym h.names) (block_below c n t own))

-- the program's values are within the limit
values_in_limit : (vs : List (VarId × Fraction)) → EachOf IsValueInLimit (values_of vs)
values_in_limit [] = tt
values_in_limit (v ∷ vs) = ((v.1.numerator_within, v.1.denominator_within), values_in_limit vs)

module _ (s : State) (f : FormulaTree) (es : List PointEntry) (p : NamedPoint) where
  abbrev t : Tree
  t = resolve s.context (known s) s.names f

  abbrev q : Point ℕ
  q = at_names s.names p

  -- ---- refusals

  module _ (meant : IsPointOf es p) (clear : AcceptsBoth s f es) (limit : ℕ) where
    before_overflow : (printed : Bool) → HasNone (meaning (Sample f es)) s limit (use_of None printed) (before error.Overflow)
    before_overflow printed = none_before (meaning (Sample f es)) s limit (use_of None printed) error.Overflow (error.Overflow ∷ error.Nodes ∷ error.Bindings ∷ error.Text ∷ []) refl (clear limit printed).1

    before_nodes : (printed : Bool) → HasNone (meaning (Sample f es)) s limit (use_of None printed) (before error.Nodes)
    before_nodes printed = none_before (meaning (Sample f es)) s limit (use_of None printed) error.Nodes (error.Nodes ∷ error.Bindings ∷ error.Text ∷ []) refl (clear limit printed).1

    pub sample_stops : (e : StatementError) → SampleStop s.context limit t q e → RefusesSample s limit f es e
    sample_stops e h = subst (RefusesSample s limit f es) (sym h.1) (each h.0 h.2)
      where
        each : (d : Measured) → StopsWith d (reference_sample s.context limit q t) → RefusesSample s limit f es (measured_refusal d)
        each measured.Overflow k = λ printed other. record { applies = inr (λ x. x, (p, meant, k)); first = before_overflow printed }
        each measured.Nodes k = λ printed other. record { applies = inr (λ x. x, (p, meant, k)); first = before_nodes printed }
        each measured.Memory k = λ printed other. absurd (other refl)

  -- ---- the sample

  module _ (numbers : HasNumbers s.names f) (distinct : IsDistinct same_name s.names) (readable : IsReadable s f) (of : Of s.context p) (normal : Every (IsNormal s.context) t) where
    -- there is a sample where the formula whose cases are asked is true
    there : HasSample s f p ↔ TrueAt s.context (case_formula t) q
    there =
        let sign = case_sign (negation_normal_of s f) in
        let a = turned_along sign _ _ (truth_as_written s f numbers distinct readable p of) in
        let b = turned_says s.context sign t (case_formula t) q of (says s.context t sign (case_formula t) normal (λ r o. (λ h. h, λ h. h))) in
        (λ x. b.0 (a.0 x), λ x. a.1 (b.1 x))

    pub sample_is : (o : Option (Vec (VarId × Fraction) Global)) → IsTrueSample s.context t q (sample_of o) → IsSample s f p (sample_of o)
    sample_is None h = λ k. h (there.0 k)
    sample_is (Some values) h = record { there = there.1 h.asked; in_order = h.names; each = h.each; numbers = values_in_limit values.items; exact = h.matrix }
