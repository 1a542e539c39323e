-- The truth of a formula as it is written, at a point of numbered names, is that of the resolved formula.
use Rattle.std.proofs.Common.{◌≡◌, ◌↔◌, inl, inr, ℕ, zero, suc, ◌<◌, length, List, [], ◌∷◌, Some, ap, ◌∙◌, refl, arith}
use Rattle.std.proofs.Math.IntN.{pos}
use Rattle.std.specs.Prelude.{unwrap_or, option_map, slice_get}
use Rattle.std.specs.List.{IsDistinct}
use Rattle.logic_meaning.specs.Point.{Point, Of}
use Rattle.formula_laws.specs.Points.{AgreeOn}
use Rattle.logic_meaning.specs.Tree.{TrueAt, IsFree}
use Rattle.formula_laws.proofs.FreeNames.{tree_agrees}
use Rattle.language_meaning.specs.Trees.{FormulaTree}
use Rattle.language_meaning.specs.Value.{same_name}
use Rattle.language_meaning.specs.Value as written
use Rattle.written_syntax.specs.Valued.{IsIn}
use Rattle.language_meaning.specs.Resolving.{at_names, resolve, bound_truth}
use Rattle.logic_meaning.specs.Names.{place}
use Rattle.resolved_formulas.proofs.PlaceLaws.{slice_place, one_place}
use Rattle.program_meaning.specs.State.{State, known}
use Rattle.program_meaning.specs.Places.{by_names}
use Rattle.session_state.specs.Keeping.{IsSound}
use Rattle.session_state.specs.Scripted.{IsScripted}
use Rattle.form_commands.proofs.EliminatedLemmas.{free_below}
use Rattle.form_commands.specs.Reading.{HasNumbers, IsReadable}
use Rattle.form_commands.proofs.ReadLemmas.{readable_formula}
use Rattle.form_commands.proofs.ReadTruth.{truth_as_written}

-- each number below the length of the list is that of a name
name_at : (names : List (List ℕ)) (n : ℕ) → n < length names → (x : List ℕ) × (slice_get names n ≡ Some x) × IsIn x names
name_at [] n h = absurd (omega arith)
name_at (y ∷ ys) zero h = (y, refl, inl refl)
name_at (y ∷ ys) (suc n) h = let r = name_at ys n (omega arith) in (r.0, r.1, inr r.2)

-- the point of its names has the number of the point there
pub number_stays : (names : List (List ℕ)) (q : Point ℕ) (n : ℕ) → IsDistinct same_name names → n < length names → (at_names names (by_names names q)).at n ≡ q.at n
number_stays names q n distinct h =
    let r = name_at names n h in
    let same : place names r.0 ≡ n = one_place names (place names r.0) n r.0 distinct (slice_place names r.0 r.2) r.1 in
    ap (λ o. unwrap_or (option_map (λ x. q.at (place names x)) o) (pos 0)) r.1 ∙ ap q.at same

-- A formula whose names are numbered, at a point of the theory: what is written has the truth of what is read.
pub named_truth : (s : State) (f : FormulaTree) → HasNumbers s.names f → IsSound s → IsScripted f → IsReadable s f → (q : Point ℕ) → Of s.context q
    → written.TrueAt (bound_truth s.context (known s) s.names) s.context f (by_names s.names q) ↔ TrueAt s.context (resolve s.context (known s) s.names f) q
named_truth s f numbers sound proper readable q of =
    let t = resolve s.context (known s) s.names f in
    let within = (readable_formula f s numbers sound proper.proper readable).within in
    let agree : AgreeOn (IsFree t) (at_names s.names (by_names s.names q)) q =
    record { same_below = refl; same_at = λ n free. number_stays s.names q n sound.names_once (free_below (length s.names) n t within.atoms free) } in
    let by_number = tree_agrees s.context t (at_names s.names (by_names s.names q)) q agree in
    let by_name = truth_as_written s f numbers sound.names_once readable (by_names s.names q) of in
    (λ h. by_number.0 (by_name.0 h), λ h. by_name.1 (by_number.1 h))
