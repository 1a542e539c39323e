-- What is read has the truth of what is written.
use Rattle.std.proofs.Common.{◌↔◌, subst}
use Rattle.std.specs.List.{IsDistinct}
use Rattle.logic_meaning.specs.Point.{Of}
use Rattle.logic_meaning.specs.Tree.{TrueAt}
use Rattle.language_meaning.specs.Trees.{FormulaTree}
use Rattle.language_meaning.specs.Value.{NamedPoint, same_name}
use Rattle.language_meaning.specs.Value as written
use Rattle.language_meaning.specs.Resolving.{at_names, resolve, bound_truth}
use Rattle.resolved_formulas.proofs.ResolvedTruth.{resolving_keeps_truth}
use Rattle.program_meaning.specs.State.{State, known}
use Rattle.form_commands.specs.Reading.{HasNumbers, IsReadable}

-- the resolved formula has the truth of the written one
pub truth_as_written : (s : State) (f : FormulaTree) → HasNumbers s.names f → IsDistinct same_name s.names → IsReadable s f → (p : NamedPoint) → Of s.context p
    → written.TrueAt (bound_truth s.context (known s) s.names) s.context f p ↔ TrueAt s.context (resolve s.context (known s) s.names f) (at_names s.names p)
truth_as_written s f numbers distinct readable p of =
    subst (λ ns. written.TrueAt (bound_truth s.context (known s) ns) s.context f p ↔ TrueAt s.context (resolve s.context (known s) ns f) (at_names ns p)) numbers
    (resolving_keeps_truth s.context (known s) s.names f distinct readable p of)
