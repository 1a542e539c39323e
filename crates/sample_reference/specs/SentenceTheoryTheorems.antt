-- What is proved of formulas that begin with `ex` of the first names.
use Rattle.std.specs.Prelude.{◌≡◌, ◌⊎◌, ◌<◌, ℕ, List, Option, Some, None}
use Rattle.logic_meaning.specs.Context.{Context}
use Rattle.logic_meaning.specs.Every.{Every}
use Rattle.logic_meaning.specs.Formula.{Yes, No}
use Rattle.logic_meaning.specs.Tree.{Tree, TrueAt, IsFree}
use Rattle.logic_meaning.specs.NormalForm.{IsNormal}
use Rattle.elimination_theory.specs.Theorems.{IsTidy}
use Rattle.sample_reference.specs.TrueSample.{IsTrueSample}
use Rattle.logic_meaning.specs.Values.{Value, origin}
use Rattle.sample_reference.specs.Leading.{under_names, AreWitnesses, first_values}

-- a sample of the formula under names: it is true and the first values are witnesses, or there are none and it is false
abbrev pub WitnessesOrNone : Context → ℕ → Tree → Option (List Value) → Type 0
WitnessesOrNone c count f (Some values) = TrueAt c (under_names 0 count f) origin × AreWitnesses c count f (first_values count values)
WitnessesOrNone c count f None = ¬ (TrueAt c (under_names 0 count f) origin)

-- The sample of a formula that begins with `ex` of the first names, one at least, has their values first. The leading block may be longer.
abbrev pub SampleGivesWitnesses : Context → Type 0
SampleGivesWitnesses c = (count : ℕ) (f : Tree) (sample : Option (List Value)) → 0 < count → Every (IsNormal c) f →
    IsTrueSample c (under_names 0 count f) origin sample → WitnessesOrNone c count f sample

-- A tidy formula without free names is a constant: a normal atom has a name.
abbrev pub ClosedTidyIsConstant : Context → Type 0
ClosedTidyIsConstant c = (f : Tree) → IsTidy c f → ((y : ℕ) → ¬ (IsFree f y)) → (f ≡ Yes) ⊎ (f ≡ No)
