-- The answers of merging and of deciding, as statements on the sets.
use Rattle.std.specs.Prelude.{Bool, true, false, Option, Some, None}
use Rattle.logic_meaning.specs.Context.{Context}
use Rattle.logic_meaning.specs.Atom as meant
use Rattle.logic_meaning.specs.declared.junction.Junction.{Junction}
use Rattle.logic_meaning.specs.declared.junction.Junction.TheVariants.{Conjunction, Disjunction}
use Rattle.linear_forms.specs.Combinations.{IsLinear}
use Rattle.normal_atoms.specs.Atoms.{atom_of, IsWellFormed}
use Rattle.normal_atoms.specs.declared.answers.Merged.{Merged}
use Rattle.normal_atoms.specs.declared.answers.Merged.TheVariants.{True, False, One, Keep}
use Rattle.logic_meaning.specs.Merging.{Settles, MergesInto, IsKept, Implies, Excludes}

-- the answer for the intersection or the union of two atoms' sets: an intersection is never everything, a union never empty
abbrev pub IsMerging : Context → Junction → meant.Atom → meant.Atom → Merged → Type 0
IsMerging c Conjunction a b True = ⊥
IsMerging c Disjunction a b True = Settles c Disjunction a b
IsMerging c Conjunction a b False = Settles c Conjunction a b
IsMerging c Disjunction a b False = ⊥
IsMerging c j a b (One e) = MergesInto c j a b (atom_of e) × IsWellFormed e × IsLinear (meant.form_of (atom_of e))
IsMerging c j a b Keep = IsKept c j a b

-- whether the second atom follows from the first, or its negation does; None where neither
abbrev pub IsDecision : Context → meant.Atom → meant.Atom → Option Bool → Type 0
IsDecision c a b (Some true) = Implies c a b
IsDecision c a b (Some false) = Excludes c a b
IsDecision c a b None = (¬ (Implies c a b)) × (¬ (Excludes c a b))
