-- From step to step of what is found of a target.
use Rattle.std.proofs.Common.{◌≡◌, inr, ℕ, ◌*◌, [], Bool, true, false, Option, Some, None, sym, ap, ◌∙◌, subst, refl, nat_eq, unsigned_abs, if◌then◌else◌, arith}
use Rattle.std.proofs.Math.IntN.{pos, ◌*ℤ◌}
use Rattle.std.specs.declared.vec.Vec.{Vec}
use Rattle.std.specs.declared.alloc.Global.{Global}
use Rattle.exact_numbers.specs.Frac.{Frac}
use Rattle.exact_numbers.specs.declared.fraction.Fraction.{Fraction}
use Rattle.exact_numbers.proofs.Ring.{mul_zero}
use Rattle.logic_meaning.specs.Context.{Fields}
use Rattle.logic_meaning.specs.Every.{Every}
use Rattle.logic_meaning.specs.Point.{Point, Of, move}
use Rattle.logic_meaning.specs.Tree.{Tree}
use Rattle.normal_atoms.specs.declared.atoms.Context as atoms
use Rattle.normal_atoms.specs.Atoms.{context_of}
use Rattle.logic_meaning.specs.NormalForm.{IsNormal}
use Rattle.form_commands.specs.FromEngineAnswers.{Limits}
use Rattle.logic_meaning.specs.declared.form.VarId.{VarId}
use Rattle.linear_forms.specs.Values.{Numbers, number_at, point_of}
use Rattle.logic_meaning.specs.ReferenceSample.{reference_sample}
use Rattle.sample_reference.specs.TrueSample.{IsTrueSample}
use Rattle.sample_reference.specs.Seen.{sample_of, values_of}
use Rattle.sample_reference.proofs.SamePoints.{abs_above}
use Rattle.linear_theory.specs.Answer.{IsAnswer, least_of}
use Rattle.logic_meaning.specs.LeastFraction.{IsLeastFraction}
use Rattle.linear_opt.specs.declared.least.Least.{Least}
use Rattle.linear_opt.specs.Least as opt
use Rattle.reference_engine.specs.declared.measured.Measured.{Measured}
use Rattle.reference_engine.specs.Told.{StopsWith}
use Rattle.program_meaning.specs.declared.line.StatementError.{StatementError}
use Rattle.form_commands.specs.Refusals.{measured_refusal}
use Rattle.session_state.specs.declared.state.SessionState.{SessionState}
use Rattle.formula_store.specs.declared.id.FormulaId.{FormulaId}
use Rattle.formula_store.specs.Nodes.{tree}
use Rattle.formula_laws.proofs.SamePoint.{point_same}
use Rattle.least_search.specs.Found.{at_value}
use Rattle.constraint_queries.specs.Found.{IsWeakProblem, IsConditionOf, FoundStop}
use Rattle.constraint_queries.proofs.Conditions.{asked_true, condition_answers}

-- ---- the point

-- the point of the target's value alone
pub value_point : (z : ℕ) (v : Frac) (start new : Numbers) → start ≡ record { entries = []; denominator = v.denominator } → ((x : ℕ) → number_at new x ≡ (if nat_eq z x then v.numerator else number_at start x))
    → new.denominator ≡ start.denominator → point_of new ≡ at_value z v
unfolding move
value_point z v start new is put below = point_same (number_at new) (at_value z v).at (unsigned_abs new.denominator) (at_value z v).below (λ x. put x ∙ go x (nat_eq z x)) (ap unsigned_abs (below ∙ ap (λ (s : Numbers). s.denominator) is) ∙ one_times (unsigned_abs v.denominator))
  where
    go : (x : ℕ) (b : Bool) → (if b then v.numerator else number_at start x) ≡ (if b then v.numerator else pos (unsigned_abs v.denominator) *ℤ pos 0)
    go x true = refl
    go x false = ap (λ (s : Numbers). number_at s x) is ∙ sym (mul_zero (pos (unsigned_abs v.denominator)))

    one_times : (n : ℕ) → n ≡ 1 * n
    one_times n = omega arith

pub value_positive : (z : ℕ) (v : Frac) (f : Tree) → IsLeastFraction z f v → Of Fields (at_value z v)
unfolding move
value_positive z v f h = let p = abs_above v.denominator h.proper in omega arith

-- ---- the sample there

module _ (z : ℕ) (f : Tree) (v : Frac) (least : IsLeastFraction z f v) (p : Point ℕ) (same : p ≡ at_value z v) (c d : atoms.Context) (is : d ≡ c) (fields : context_of c ≡ Fields) where
  pub value_there : Of (context_of d) p
  value_there = subst (λ k. Of k p) (sym (ap context_of is ∙ fields)) (subst (Of Fields) (sym same) (value_positive z v f least))

  pub normal_there : Every (IsNormal Fields) f → Every (IsNormal (context_of d)) f
  normal_there n = subst (λ k. Every (IsNormal k) f) (sym (ap context_of is ∙ fields)) n

  sample_here : (o : Option (Vec (VarId × Fraction) Global)) → IsTrueSample (context_of d) f p (sample_of o) → IsTrueSample Fields f (at_value z v) (sample_of o)
  sample_here o h = subst (λ k. IsTrueSample k f (at_value z v) (sample_of o)) (ap context_of is ∙ fields) (subst (λ q. IsTrueSample (context_of d) f q (sample_of o)) same h)

  -- the sample that an engine for the theory of the state gives
  pub sample_found : (o : Option (Vec (VarId × Fraction) Global)) (s : Vec (VarId × Fraction) Global) → o ≡ Some s → IsTrueSample (context_of d) f p (sample_of o)
      → IsLeastFraction z f v × IsTrueSample Fields f (at_value z v) (Some (values_of s.items))
  sample_found o s e h = (least, subst (λ (x : Option (Vec (VarId × Fraction) Global)). IsTrueSample Fields f (at_value z v) (sample_of x)) e (sample_here o h))

  -- there is one
  pub sample_is_there : IsWeakProblem f → Every (IsNormal Fields) f → (o : Option (Vec (VarId × Fraction) Global)) → o ≡ None → IsTrueSample (context_of d) f p (sample_of o) → ⊥
  sample_is_there weak normal o e h =
      let none : IsTrueSample Fields f (at_value z v) None = subst (λ (x : Option (Vec (VarId × Fraction) Global)). IsTrueSample Fields f (at_value z v) (sample_of x)) e (sample_here o h) in
      none (asked_true f weak normal (at_value z v) (value_positive z v f least) least.least.holds)

  -- and what stops it stops the search
  pub sample_stops : (l m : Limits) → m ≡ l → (e : Measured) → StopsWith e (reference_sample (context_of d) m.nodes p f) → (x : StatementError) → x ≡ measured_refusal e → FoundStop l.nodes z f x
  sample_stops l m limits e h x word =
      let there = subst (λ (y : Limits). StopsWith e (reference_sample (context_of d) y.nodes (at_value z v) f)) limits (subst (λ r. StopsWith e (reference_sample (context_of d) m.nodes r f)) same h) in
      inr (v, least, e, word, subst (λ k. StopsWith e (reference_sample k l.nodes (at_value z v) f)) (ap context_of is ∙ fields) there)

-- ---- the answer by the condition

pub least_found : (z : ℕ) (f : Tree) → IsWeakProblem f → (after : SessionState) (id : FormulaId) → IsConditionOf f after id → (l m : Least) → opt.found_of l ≡ least_of z (tree after.store id) → l ≡ m → IsAnswer z f (opt.found_of m)
least_found z f weak after id h l m computed is = subst (λ (x : Least). IsAnswer z f (opt.found_of x)) is (subst (IsAnswer z f) (sym computed) (condition_answers z f weak after id h))
