-- Trees of a theory, and when two have one truth at all its points.
use Rattle.std.specs.Prelude.{ℕ, ◌↔◌}
use Rattle.logic_meaning.specs.Context.{Context}
use Rattle.logic_meaning.specs.Point.{Point, Of}
use Rattle.logic_meaning.specs.Formula.{Ex, All, none, also}
use Rattle.logic_meaning.specs.Atom.{Atom, Says}
use Rattle.formula_laws.specs.TheoryAtoms.{AtomIn, opposite}
use Rattle.logic_meaning.specs.Every.{Every}
use Rattle.logic_meaning.specs.NegationNormal.{normal_form, normal_form_of_not}
use Rattle.logic_meaning.specs.Tree.{Tree, Trees, TrueAt}

-- each atom of the tree is one of the theory
abbrev pub InContext : Context → Tree → Type 0
InContext c f = Every (AtomIn c) f

-- the two trees are true at the same points of the theory
abbrev pub Equivalent : Context → Tree → Tree → Type 0
Equivalent c f g = (p : Point ℕ) → Of c p → TrueAt c f p ↔ TrueAt c g p

-- member by member
abbrev pub AreEquivalent : Context → Trees → Trees → Type 0
AreEquivalent c none none = Unit {0}
AreEquivalent c (also f fs) (also g gs) = Equivalent c f g × AreEquivalent c fs gs
AreEquivalent c _ _ = ⊥

-- ex(x, f) for each member f
abbrev pub each_ex : ℕ → Trees → Trees
each_ex x none = none
each_ex x (also f fs) = also (Ex x f) (each_ex x fs)

-- all(x, f) for each member f
abbrev pub each_all : ℕ → Trees → Trees
each_all x none = none
each_all x (also f fs) = also (All x f) (each_all x fs)

-- the second atom is true at the points of the theory where the first is not
abbrev pub IsNegation : Context → Atom → Atom → Type 0
IsNegation c a b = (p : Point ℕ) → Of c p → Says b p ↔ ¬ (Says a p)

-- the negation normal form of a tree, and of its negation
abbrev pub negation_normal : Tree → Tree
negation_normal f = normal_form opposite f

abbrev pub negated : Tree → Tree
negated f = normal_form_of_not opposite f
