-- The theorems of elimination over the ordered fields, as statements.
use Rattle.std.specs.Prelude.{ℕ, ◌↔◌}
use Rattle.logic_meaning.specs.Context.{Fields}
use Rattle.logic_meaning.specs.Point.{Point, Of}
use Rattle.logic_meaning.specs.Formula.{Ex, One}
use Rattle.logic_meaning.specs.Some.{SomeOf}
use Rattle.logic_meaning.specs.Plain.{IsPlain}
use Rattle.logic_meaning.specs.Atom.{Atom}
use Rattle.formula_laws.specs.TheoryAtoms.{AtomIn}
use Rattle.logic_meaning.specs.Answer.{Place, Holds}
use Rattle.logic_meaning.specs.Tree.{Tree, TrueAt}
use Rattle.formula_laws.specs.Equivalence.{InContext}
use Rattle.logic_meaning.specs.declared.side.Side.{Side}
use Rattle.elimination_theory.specs.AtPlace.{at_place}
use Rattle.logic_meaning.specs.FieldsPoints.{field_points}
use Rattle.logic_meaning.specs.FieldsSubstitution.{field_atom, IsFieldPlace}
use Rattle.elimination_theory.specs.FieldsTrees.{field_substitution}

-- An atom's substitution is true exactly where the place makes the atom true.
abbrev pub FieldAtomIsExact : Type 0
FieldAtomIsExact = (x : ℕ) (s : Place) (a : Atom) (p : Point ℕ) → IsFieldPlace s → AtomIn Fields a → Of Fields p →
    Holds Fields (at_place x s) (One a) p ↔ TrueAt Fields (field_atom x s a) p

-- The substitution into a formula built by and and or is true exactly where the place makes the formula true.
abbrev pub FieldSubstitutionIsExact : Type 0
FieldSubstitutionIsExact = (x : ℕ) (s : Place) (f : Tree) (p : Point ℕ) → IsFieldPlace s → IsPlain f → InContext Fields f → Of Fields p →
    Holds Fields (at_place x s) f p ↔ TrueAt Fields (field_substitution x s f) p

-- ex(x, f) is true exactly where some test point of the side makes f true, for f built by and and or.
abbrev pub FieldTestPointsSuffice : Type 0
FieldTestPointsSuffice = (side : Side) (x : ℕ) (f : Tree) (p : Point ℕ) → IsPlain f → InContext Fields f → Of Fields p →
    TrueAt Fields (Ex x f) p ↔ SomeOf (λ s. Holds Fields (at_place x s) f p) (field_points side x f)
