-- What a verdict says of a formula without free names that begins with `ex` of the first names.
use Rattle.std.specs.Prelude.{◌≡◌, ℕ, map}
use Rattle.exact_numbers.specs.Fraction.{frac_of}
use Rattle.logic_meaning.specs.Context.{Context}
use Rattle.logic_meaning.specs.Measured.{Stop, stopped}
use Rattle.logic_meaning.specs.Tree.{Tree, TrueAt}
use Rattle.logic_meaning.specs.Reference.{reference}
use Rattle.logic_meaning.specs.ReferenceSample.{reference_sample}
use Rattle.logic_meaning.specs.Values.{origin}
use Rattle.sample_reference.specs.Leading.{under_names, AreWitnesses}
use Rattle.engine_answers.specs.declared.verdict.Verdict.{Verdict}
use Rattle.engine_answers.specs.declared.verdict.Verdict.TheVariants.{False, True, TrueAlone, Unknown}

-- the reference elimination stops at a limit
abbrev pub EliminationStops : Context → ℕ → Tree → Type 0
EliminationStops c limit f = (e : Stop) × (reference c limit f ≡ stopped e)

-- the reference sample of a formula without free names stops at a limit
abbrev pub SampleStops : Context → ℕ → Tree → Type 0
SampleStops c limit f = (e : Stop) × (reference_sample c limit origin f ≡ stopped e)

-- The formula under so many names is false, or true with these values of them; or it is true and the reference gives no sample of it
-- within the limits; or the reference does not eliminate its quantifiers within the limits.
abbrev pub Decides : Context → ℕ → ℕ → Tree → Verdict → Type 0
Decides c limit count body False = ¬ (TrueAt c (under_names 0 count body) origin)
Decides c limit count body (True values) = TrueAt c (under_names 0 count body) origin × AreWitnesses c count body (map frac_of values.items)
Decides c limit count body TrueAlone = TrueAt c (under_names 0 count body) origin × SampleStops c limit (under_names 0 count body)
Decides c limit count body Unknown = EliminationStops c limit (under_names 0 count body)
