-- The formula x > a and x < b, worked through: its test points, their substitutions, and why epsilon is needed.
use Rattle.std.specs.Prelude.{◌≡◌, ℕ, ℤ, pos, negsuc, [], ◌∷◌, if◌then◌else◌, nat_eq}
use Rattle.logic_meaning.specs.Context.{Fields}
use Rattle.logic_meaning.specs.Point.{Point}
use Rattle.logic_meaning.specs.Formula.{Yes, No, One, And, Ex}
use Rattle.logic_meaning.specs.Form.{Form, Term}
use Rattle.logic_meaning.specs.Atom.{Compare, Below, Above, AtLeast}
use Rattle.logic_meaning.specs.NegationNormal.{both}
use Rattle.logic_meaning.specs.Answer.{Exact, AboveBy, BelowBy, MinusInfinity, PlusInfinity, Holds}
use Rattle.logic_meaning.specs.Tree.{Tree, TrueAt}
use Rattle.logic_meaning.specs.declared.side.Side.TheVariants.{Lower, Upper}
use Rattle.logic_meaning.specs.FieldsPoints.{field_points}
use Rattle.elimination_theory.specs.FieldsTrees.{field_substitution}
use Rattle.elimination_theory.specs.AtPlace.{at_place}

-- times * name
abbrev pub multiple_of : ℤ → ℕ → Term
multiple_of a x = record { times = a; name = x }

-- the form of one name
abbrev pub named : ℕ → Form
named x = record { terms = multiple_of (pos 1) x ∷ []; constant = pos 0 }

-- the form x - y
abbrev pub difference : ℕ → ℕ → Form
difference x y = record { terms = multiple_of (pos 1) x ∷ multiple_of (negsuc 0) y ∷ []; constant = pos 0 }

-- x > a and x < b, where x, a and b are the names 0, 1 and 2
abbrev pub open_interval : Tree
open_interval = And (both (One (Compare Above (difference 0 1))) (One (Compare Below (difference 0 2))))

-- the lower side has minus infinity and a + epsilon, the upper side infinity and b - epsilon
abbrev pub OpenIntervalPoints : Type 0
OpenIntervalPoints = (field_points Lower 0 open_interval ≡ MinusInfinity ∷ AboveBy (named 1) 1 ∷ []) × (field_points Upper 0 open_interval ≡ PlusInfinity ∷ BelowBy (named 2) 1 ∷ [])

-- at minus infinity the first comparison is false; at a + epsilon the second becomes a - b < 0
abbrev pub OpenIntervalSubstitutions : Type 0
OpenIntervalSubstitutions =
    (field_substitution 0 MinusInfinity open_interval ≡ And (both No Yes))
    × (field_substitution 0 (AboveBy (named 1) 1) open_interval ≡ And (both (One (Compare AtLeast (difference 1 1))) (One (Compare Below (difference 1 2)))))

-- a = 0 and b = 1, all others 0
abbrev pub unit_interval : Point ℕ
unit_interval = record { at = λ x. if nat_eq x 2 then pos 1 else pos 0; below = 1 }

-- without epsilon the test points are not enough: at a = 0 and b = 1 neither minus infinity nor a itself will do
abbrev pub EpsilonIsNeeded : Type 0
EpsilonIsNeeded =
    TrueAt Fields (Ex 0 open_interval) unit_interval
    × ¬ (Holds Fields (at_place 0 MinusInfinity) open_interval unit_interval)
    × ¬ (Holds Fields (at_place 0 (Exact (named 1) 1)) open_interval unit_interval)
