-- The reference elimination of a formula, of its negation normal form, and of its case matrix.
use Rattle.std.proofs.Common.{◌≡◌, ◌⊎◌, inl, inr, ℕ, List, [], Some, ap, ◌∙◌, sym, subst}
use Rattle.std.specs.Prelude.{Result, Ok, Err, IfErr}
use Rattle.logic_meaning.specs.Context.{Context}
use Rattle.logic_meaning.specs.Every.{Every}
use Rattle.logic_meaning.specs.Measured.{Outcome, stopped, done, then_of, pay}
use Rattle.logic_meaning.specs.Measured as stop
use Rattle.logic_meaning.specs.Sizes.{nodes}
use Rattle.logic_meaning.specs.Tree.{Tree}
use Rattle.logic_meaning.specs.NormalForm.{IsNormal}
use Rattle.logic_meaning.specs.Cases.{Case, case_sign, cases_of, case_matrix, reference_cases}
use Rattle.logic_meaning.specs.Reference.{normal_tree, branches, reference}
use Rattle.reference_engine.specs.declared.measured.Measured.{Measured}
use Rattle.reference_engine.specs.Told.{StopsWith}
use Rattle.reference_engine.specs.declared.measured.Measured.TheVariants as measured
use Rattle.reference_engine.proofs.FormAgain.{normal_tree_again}
use Rattle.branch_rounds.specs.declared.error.RoundError.{RoundError}
use Rattle.branch_rounds.specs.declared.error.RoundError.TheVariants as round
use Rattle.case_theory.specs.Fallback.{stop_of, IsDone}
use Rattle.case_theory.proofs.Fallback.{stops_one, matrix_done}

pub err_map : {T E : Type 0} {P Q : E → Type 0} (r : Result T E) → ((e : E) → P e → Q e) → IfErr r P → IfErr r Q
err_map (Ok x) f h = tt
err_map (Err e) f h = f e h

-- neither limit is want of memory
pub no_limit : (e : RoundError) → (e ≡ round.Overflow) ⊎ (e ≡ round.Nodes) → e ≡ round.Memory → ⊥
no_limit e (inl o) m = let no : round.Overflow ≡ round.Memory = sym o ∙ m in cc
no_limit e (inr o) m = let no : round.Nodes ≡ round.Memory = sym o ∙ m in cc

-- two that stop with one word
pub stopped_so : {A B : Type 0} (s : stop.Stop) (o : Outcome A) (p : Outcome B) → stop_of o ≡ stop_of p → o ≡ stopped s → p ≡ stopped s
stopped_so s (stopped t) (stopped u) e h = ap stopped (one (sym e ∙ ap stop_of h))
  where
    one : {x y : stop.Stop} → Some x ≡ Some y → x ≡ y
    one e = cc (e)
stopped_so s (stopped t) (done b) e h = absurd (cc (e))
stopped_so s (done a) p e h = absurd (cc (h))

not_stopped : {A : Type 0} {s : stop.Stop} (o : Outcome A) → IsDone o → o ≡ stopped s → ⊥
not_stopped (stopped t) d h = d
not_stopped (done a) d h = cc (h)

module _ (c : Context) (limit : ℕ) where
  is_done : (f : Tree) → Every (IsNormal c) f → (r : List Case × ℕ) → reference_cases c limit f ≡ done r → IsDone (reference c limit (case_matrix f))
  is_done f n r same = matrix_done c limit f n (subst IsDone (sym same) tt)

  -- the cases of a formula with this negation normal form, from where its nodes are counted
  abbrev from_form : Tree → Outcome (Unit {0} × ℕ) → Outcome (List Case × ℕ)
  from_form g o = then_of (then_of o (λ r. branches c limit [] (case_sign g) g r.1)) (λ r. done (cases_of r.0, r.1))

  pub cases_along : (f g : Tree) → g ≡ normal_tree f → reference_cases c limit g ≡ reference_cases c limit f
  cases_along f g e = ap (λ h. from_form h (pay limit (nodes h) 0)) (ap normal_tree e ∙ normal_tree_again f)

  -- what stops the count stops the cases
  pub paid_stops : (f : Tree) (e : Measured) → StopsWith e (pay limit (nodes (normal_tree f)) 0) → StopsWith e (reference_cases c limit f)
  paid_stops f measured.Overflow h = ap (from_form (normal_tree f)) h
  paid_stops f measured.Nodes h = ap (from_form (normal_tree f)) h
  paid_stops f measured.Memory h = tt

  -- what stops the cases stops the formula
  pub formula_stops : (f : Tree) (e : Measured) → StopsWith e (reference_cases c limit f) → StopsWith e (reference c limit f)
  formula_stops f measured.Overflow h = stopped_so stop.Overflow (reference_cases c limit f) (reference c limit f) (stops_one c limit f) h
  formula_stops f measured.Nodes h = stopped_so stop.Nodes (reference_cases c limit f) (reference c limit f) (stops_one c limit f) h
  formula_stops f measured.Memory h = tt

  -- where it gives cases nothing stops the matrix
  pub matrix_stops : (f : Tree) → Every (IsNormal c) f → (r : List Case × ℕ) → reference_cases c limit f ≡ done r → (e : Measured) → StopsWith e (reference c limit (case_matrix f)) → StopsWith e (reference c limit f)
  matrix_stops f n r same measured.Overflow h = absurd (not_stopped (reference c limit (case_matrix f)) (is_done f n r same) h)
  matrix_stops f n r same measured.Nodes h = absurd (not_stopped (reference c limit (case_matrix f)) (is_done f n r same) h)
  matrix_stops f n r same measured.Memory h = tt
