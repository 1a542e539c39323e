-- Two sentences decided: one tells the theories apart.
use Rattle.std.specs.Prelude.{ℕ, pos, negsuc, [], ◌∷◌}
use Rattle.logic_meaning.specs.Context.{Context, Fields, Integers}
use Rattle.logic_meaning.specs.Point.{Point, Of}
use Rattle.logic_meaning.specs.Formula.{One, Ex, All}
use Rattle.logic_meaning.specs.Atom.{Compare, Equals, Above}
use Rattle.logic_meaning.specs.Tree.{Tree, TrueAt}
use Rattle.elimination_theory.specs.FieldsExample.{multiple_of, difference}

-- ex(x, 2 * x = 1)
abbrev pub some_half : Tree
some_half = Ex 0 (One (Compare Equals (record { terms = multiple_of (pos 2) 0 ∷ []; constant = negsuc 0 })))

-- true over the rational numbers and false over the whole ones
abbrev pub SomeHalfIsDecided : Type 0
SomeHalfIsDecided = ((p : Point ℕ) → Of Fields p → TrueAt Fields some_half p) × ((p : Point ℕ) → Of Integers p → ¬ (TrueAt Integers some_half p))

-- all(a, ex(x, x > a))
abbrev pub none_greatest : Tree
none_greatest = All 1 (Ex 0 (One (Compare Above (difference 0 1))))

-- true in both
abbrev pub NoneGreatestIsTrue : Type 0
NoneGreatestIsTrue = (c : Context) (p : Point ℕ) → Of c p → TrueAt c none_greatest p
