-- Truths of formulas without quantifiers, as a table has them.
use Rattle.std.specs.Prelude.{◌≡◌, ℕ, ℤ, pos, Bool, true, false}
use Rattle.logic_meaning.specs.Context.{Context}
use Rattle.logic_meaning.specs.Point.{Point}
use Rattle.logic_meaning.specs.Form.{Form}
use Rattle.logic_meaning.specs.Formula.{One}
use Rattle.logic_meaning.specs.Atom.{Atom, Congruent, form_of}
use Rattle.logic_meaning.specs.Some.{Among}
use Rattle.logic_meaning.specs.Sizes.{subtrees}
use Rattle.logic_meaning.specs.Tree.{Tree, TrueAt}
use Rattle.formula_tree.specs.FromLinearForms.{Numbers, number_at}
use Rattle.logic_meaning.specs.Terms.{ValuePasses}

-- the truth is that of the formula at the point, in both theories
abbrev pub Tells : Bool → Tree → Point ℕ → Type 0
Tells true f p = (c : Context) → TrueAt c f p
Tells false f p = (c : Context) → ¬ (TrueAt c f p)

-- a number formed for the value of some atom of the formula passes the limit
abbrev pub SomeAtomPasses : Tree → Numbers → Type 0
SomeAtomPasses f at = (a : Atom) × Among (subtrees f) (One a) × ValuePasses (form_of a) (number_at at) at.denominator

-- the denominator is 1 where the formula has a congruence
abbrev pub IsWholeWhereAsked : Tree → ℤ → Type 0
IsWholeWhereAsked f denominator = (holds : Bool) (n : ℕ) (e : Form) → Among (subtrees f) (One (Congruent holds n e)) → denominator ≡ pos 1
