-- Which names stand in a formula after elimination.
use Rattle.std.specs.Prelude.{ℕ, ◌≡◌, ◌⊎◌}
use Rattle.logic_meaning.specs.Context.{Fields, Integers}
use Rattle.logic_meaning.specs.Formula.{Ex}
use Rattle.logic_meaning.specs.Some.{SomeOf}
use Rattle.logic_meaning.specs.Plain.{IsPlain}
use Rattle.logic_meaning.specs.Answer.{Place, PlaceMentions}
use Rattle.logic_meaning.specs.Tree.{Tree, IsFree}
use Rattle.formula_laws.specs.Equivalence.{InContext}
use Rattle.logic_meaning.specs.declared.side.Side.{Side}
use Rattle.logic_meaning.specs.FieldsPoints.{field_points}
use Rattle.logic_meaning.specs.FieldsSubstitution.{IsFieldPlace}
use Rattle.elimination_theory.specs.FieldsTrees.{field_substitution}
use Rattle.elimination_theory.specs.Elimination.{field_elimination, integer_elimination}
use Rattle.elimination_theory.specs.IntegersPointTrees.{integer_points}
use Rattle.elimination_theory.specs.IntegersTrees.{guarded_substitution}
use Rattle.logic_meaning.specs.IntegerPlace.{IsIntegerPlace}

-- a name of f other than x, or a name of the place
abbrev pub IsNameOf : ℕ → Place → Tree → ℕ → Type 0
IsNameOf x s f y = (¬ (x ≡ y) × IsFree f y) ⊎ PlaceMentions s y

-- With x at a place a formula has its own other names and those of the place alone, in both theories.
abbrev pub SubstitutionKeepsNames : Type 0
SubstitutionKeepsNames = (x : ℕ) (s : Place) (f : Tree) (y : ℕ) → IsPlain f →
    (IsFieldPlace s → InContext Fields f → IsFree (field_substitution x s f) y → IsNameOf x s f y)
    × (IsIntegerPlace s → IsFree (guarded_substitution x s f) y → IsNameOf x s f y)

-- The test points of x have names of the formula other than x alone, in both theories.
abbrev pub PointsHaveNamesOfFormula : Type 0
PointsHaveNamesOfFormula = (side : Side) (x : ℕ) (f : Tree) (s : Place) (y : ℕ) → IsPlain f → PlaceMentions s y →
    (SomeOf (λ t. t ≡ s) (field_points side x f) → IsFree (Ex x f) y)
    × (SomeOf (λ t. t ≡ s) (integer_points side x f) → IsFree (Ex x f) y)

-- What elimination makes of ex(x, f) has free names of ex(x, f) alone, in both theories.
abbrev pub EliminationKeepsNames : Type 0
EliminationKeepsNames = (side : Side) (x : ℕ) (f : Tree) (y : ℕ) → IsPlain f →
    (InContext Fields f → IsFree (field_elimination side x f) y → IsFree (Ex x f) y)
    × (InContext Integers f → IsFree (integer_elimination side x f) y → IsFree (Ex x f) y)
