-- What elimination says of truth itself.
use Rattle.std.specs.Prelude.{ℕ, ◌⊎◌, ◌↔◌}
use Rattle.logic_meaning.specs.Context.{Context, Fields}
use Rattle.logic_meaning.specs.Point.{Point, Of}
use Rattle.logic_meaning.specs.Formula.{Ex, All, Not, none, also}
use Rattle.logic_meaning.specs.Plain.{IsPlain}
use Rattle.logic_meaning.specs.Every.{Every}
use Rattle.logic_meaning.specs.Atom.{Atom}
use Rattle.formula_laws.specs.TheoryAtoms.{AtomIn, opposite}
use Rattle.logic_meaning.specs.NegationNormal.{normal_form, normal_form_of_not}
use Rattle.logic_meaning.specs.Tree.{Tree, Trees, TrueAt, IsFree}
use Rattle.formula_laws.specs.Equivalence.{InContext, Equivalent, IsNegation}
use Rattle.logic_meaning.specs.declared.side.Side.{Side}
use Rattle.elimination_theory.specs.Elimination.{field_elimination}

-- g is equivalent to f, is built by and and or alone, and has no other free names
pub record IsEliminated (c : Context) (f g : Tree) : Type 0 where
  pub is_plain : IsPlain g
  pub in_context : InContext c g
  pub equivalent : Equivalent c f g
  pub names : (y : ℕ) → IsFree g y → IsFree f y

-- member by member
abbrev pub AreEliminated : Context → Trees → Trees → Type 0
AreEliminated c none none = Unit {0}
AreEliminated c (also f fs) (also g gs) = IsEliminated c f g × AreEliminated c fs gs
AreEliminated c _ _ = ⊥

-- one quantifier over a formula built by and and or can be eliminated
abbrev pub QuantifierIsEliminated : Context → Type 0
QuantifierIsEliminated c = (x : ℕ) (f : Tree) → IsPlain f → InContext c f → (g : Tree) × IsEliminated c (Ex x f) g

-- every formula is true or not, at every point of the theory
abbrev pub TruthIsDecided : Context → Type 0
TruthIsDecided c = (f : Tree) (p : Point ℕ) → InContext c f → Of c p → TrueAt c f p ⊎ ¬ (TrueAt c f p)

-- every formula has an equivalent without quantifiers, over its own free names
abbrev pub QuantifiersAreEliminated : Context → Type 0
QuantifiersAreEliminated c = (f : Tree) → InContext c f → (g : Tree) × IsEliminated c f g

-- The lifting from one quantifier to all: where one over a formula built by and and or can be eliminated, so can all, and truth
-- is decided.
abbrev pub OneQuantifierSuffices : Context → Type 0
OneQuantifierSuffices c = QuantifierIsEliminated c → QuantifiersAreEliminated c × TruthIsDecided c

-- The negation normal form is true where the formula is, and that of the negation where the formula is not, whatever atom
-- is taken as the negation of an atom.
abbrev pub NegationNormalFormKeepsTruth : Context → Type 0
NegationNormalFormKeepsTruth c = (opposite : Atom → Atom) (f : Tree) (p : Point ℕ) → InContext c f → Every (λ a. IsNegation c a (opposite a)) f → Of c p →
    (TrueAt c f p ↔ TrueAt c (normal_form opposite f) p) × (¬ (TrueAt c f p) ↔ TrueAt c (normal_form_of_not opposite f) p)

-- the opposite of an atom is a negation of it
abbrev pub OppositeIsNegation : Context → Type 0
OppositeIsNegation c = (a : Atom) → AtomIn c a → IsNegation c a (opposite a)

-- all is the negation of ex of the negation
abbrev pub AllIsNotExNot : Context → Type 0
AllIsNotExNot c = (x : ℕ) (f : Tree) (p : Point ℕ) → InContext c f → Of c p → TrueAt c (All x f) p ↔ TrueAt c (Not (Ex x (Not f))) p

-- ex(x, f) is equivalent to the disjunction over its test points
abbrev pub FieldEliminationIsExact : Type 0
FieldEliminationIsExact = (side : Side) (x : ℕ) (f : Tree) → IsPlain f → InContext Fields f → Equivalent Fields (Ex x f) (field_elimination side x f)
