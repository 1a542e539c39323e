-- Constraints are met where they are true as they are written.
use Rattle.std.proofs.Common.{◌≡◌, ◌↔◌, ℕ, sym, subst, refl}
use Rattle.logic_meaning.specs.Context.{Fields}
use Rattle.logic_meaning.specs.Formula.{none, also}
use Rattle.logic_meaning.specs.Point.{Point, Of}
use Rattle.formula_laws.specs.Points.{AgreeOn}
use Rattle.logic_meaning.specs.Tree.{TrueAt, IsFree}
use Rattle.formula_laws.proofs.FreeNames.{tree_agrees}
use Rattle.language_meaning.specs.Trees.{FormulaTree, FormulaTrees}
use Rattle.language_meaning.specs.Value as written
use Rattle.written_syntax.specs.ConstraintLists.{AreConstraints}
use Rattle.language_meaning.specs.Resolving.{at_names, resolve, bound_truth}
use Rattle.resolved_formulas.proofs.PlaceLaws.{at_place}
use Rattle.linear_theory.specs.Meeting.{MeetsAll}
use Rattle.program_meaning.specs.Assumptions.{AllTrueAt}
use Rattle.program_meaning.specs.Certificates.{constraints_of}
use Rattle.program_meaning.specs.Places.{by_names}
use Rattle.program_meaning.specs.State.{State, known}
use Rattle.session_state.specs.Keeping.{IsSound}
use Rattle.session_state.proofs.NameLemmas.{variables_in_names}
use Rattle.form_commands.specs.Reading.{HasNumbers, IsReadable, AreNumbered, AreReadable}
use Rattle.form_commands.proofs.ReadTruth.{truth_as_written}
use Rattle.constraint_queries.proofs.CauseSteps.{IsComparison, comparison}
use Rattle.least_search.proofs.Constraints.{meets_constraint}
use Rattle.constraint_queries.proofs.ConstraintTrees.{resolved_bound}
use Rattle.constraint_queries.proofs.ConstraintNames.{free_named}

module _ (s : State) (sound : IsSound s) (fields : s.context ≡ Fields) (p : Point ℕ) (of : Of Fields p) where
  of_theory : Of s.context p
  of_theory = subst (λ c. Of c p) (sym fields) of

  -- a comparison as it is written, at the point of the names, has the truth of what it is read as
  named_truth : (f : FormulaTree) → IsComparison f → HasNumbers s.names f → IsReadable s f
      → written.TrueAt (bound_truth s.context (known s) s.names) s.context f (by_names s.names p) ↔ TrueAt s.context (resolve s.context (known s) s.names f) p
  named_truth f h number readable =
      let t = resolve s.context (known s) s.names f in
      let there = at_names s.names (by_names s.names p) in
      let agree : AgreeOn (IsFree t) there p = record {
        same_below = refl;
        same_at = λ n free. let r = free_named s f h number readable n free in subst (λ m. there.at m ≡ p.at m) r.2 (at_place s.names (by_names s.names p) r.0 (variables_in_names f s.names number r.0 r.1));
      } in
      let by_number = tree_agrees s.context t there p agree in
      let by_name = truth_as_written s f number sound.names_once readable (by_names s.names p) of_theory in
      (λ k. by_number.0 (by_name.0 k), λ k. by_name.1 (by_number.1 k))

  pub true_where_met : (written : FormulaTrees) → AreNumbered s.names written → AreConstraints written → AreReadable s written → AllTrueAt s written (by_names s.names p) ↔ MeetsAll p (constraints_of s written)
  true_where_met none numbers constraints readable = (λ k. k, λ k. k)
  true_where_met (also g gs) numbers constraints readable =
      let h = comparison g constraints.0 in
      let one = named_truth g h numbers.0 readable.0 in
      let met = meets_constraint s.context (resolve s.context (known s) s.names g) (resolved_bound s g fields h) p of in
      let rest = true_where_met gs numbers.1 constraints.1 readable.1 in
      (λ k. (met.0 (one.0 k.0), rest.0 k.1), λ k. (one.1 (met.1 k.0), rest.1 k.1))
