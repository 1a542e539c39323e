-- The points at which a name has to be put: those of a side, 0 for a name that stands nowhere, the root of an equation.
use Rattle.std.specs.Prelude.{◌≡◌, ◌⊎◌, ℕ, ◌↔◌, List, [], ◌∷◌}
use Rattle.logic_meaning.specs.Context.{Context}
use Rattle.logic_meaning.specs.Point.{Point, Of}
use Rattle.logic_meaning.specs.Formula.{Yes, No, One, Not, And, Or, Impl, Repl, Equiv, Ex, All, none, also}
use Rattle.logic_meaning.specs.Form.{Form}
use Rattle.logic_meaning.specs.Atom.{Atom, Compare, Equals}
use Rattle.logic_meaning.specs.Plain.{IsPlain}
use Rattle.logic_meaning.specs.Some.{SomeOf, Among, EachOf}
use Rattle.logic_meaning.specs.Answer.{Place, PlaceMentions}
use Rattle.logic_meaning.specs.Tree.{Tree, Trees, TrueAt, IsFree}
use Rattle.formula_laws.specs.Equivalence.{InContext}
use Rattle.logic_meaning.specs.declared.side.Side.{Side}
use Rattle.logic_meaning.specs.Atoms.{atoms_of}
use Rattle.logic_meaning.specs.BothTheories.{test_points}
use Rattle.elimination_theory.specs.Places.{IsPlaceFor, substitution}
use Rattle.logic_meaning.specs.Answers.{zero_place}
use Rattle.logic_meaning.specs.Roots.{IsRoot}

-- the place suits the formula, and has free names of ex(x, f) alone
pub record IsPointFor (c : Context) (x : ℕ) (f : Tree) (s : Place) : Type 0 where
  pub suits : IsPlaceFor c x s f
  pub names : (y : ℕ) → PlaceMentions s y → IsFree (Ex x f) y

-- each is such a place, and ex(x, f) is true exactly where the substitution at some of them is
pub record ArePointsFor (c : Context) (x : ℕ) (f : Tree) (points : List Place) : Type 0 where
  pub each : EachOf (IsPointFor c x f) points
  pub exact : (p : Point ℕ) → Of c p → TrueAt c (Ex x f) p ↔ SomeOf (λ s. TrueAt c (substitution c x s f) p) points

-- The test points of a side are, in whatever order the atoms of the formula are listed.
abbrev pub SidePointsSuffice : Context → Type 0
SidePointsSuffice c = (side : Side) (x : ℕ) (f : Tree) (atoms : List Atom) → IsPlain f → InContext c f → ((a : Atom) → Among atoms a ↔ Among (atoms_of f) a) →
    ArePointsFor c x f (test_points c side x atoms)

-- 0 is enough for a name that does not stand in the formula.
abbrev pub ZeroSuffices : Context → Type 0
ZeroSuffices c = (x : ℕ) (f : Tree) → IsPlain f → InContext c f → ¬ (IsFree f x) → ArePointsFor c x f (zero_place ∷ [])

abbrev mutual
  -- the atom is the formula, or one of the members that an and joins
  pub IsConjunct : Atom → Tree → Type 0
  IsConjunct a Yes = ⊥
  IsConjunct a No = ⊥
  IsConjunct a (One b) = b ≡ a
  IsConjunct a (Not f) = ⊥
  IsConjunct a (And fs) = IsConjunctOfSome a fs
  IsConjunct a (Or fs) = ⊥
  IsConjunct a (Impl f g) = ⊥
  IsConjunct a (Repl f g) = ⊥
  IsConjunct a (Equiv f g) = ⊥
  IsConjunct a (Ex x f) = ⊥
  IsConjunct a (All x f) = ⊥

  pub IsConjunctOfSome : Atom → Trees → Type 0
  IsConjunctOfSome a none = ⊥
  IsConjunctOfSome a (also f fs) = IsConjunct a f ⊎ IsConjunctOfSome a fs

-- The root of a conjoined equation is enough, in both theories: over the integers its guard says that it is a whole number.
abbrev pub RootSuffices : Context → Type 0
RootSuffices c = (x : ℕ) (f : Tree) (e : Form) (s : Place) → IsPlain f → InContext c f → IsConjunct (Compare Equals e) f → IsRoot c x e s → ArePointsFor c x f (s ∷ [])
