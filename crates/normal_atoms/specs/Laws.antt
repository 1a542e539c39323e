-- What is proved of normal forms and of their negation, as statements that the functions of this crate promise.
use Rattle.std.specs.Prelude.{◌≡◌, ◌⊎◌, ℕ, ◌↔◌}
use Rattle.linear_forms.specs.FromFormulaLaws.{AtomIn, InContext, IsNegation, Equivalent}
use Rattle.logic_meaning.specs.Context.{Context}
use Rattle.logic_meaning.specs.Formula.{One}
use Rattle.logic_meaning.specs.Point.{Point, Of}
use Rattle.logic_meaning.specs.Atom.{Atom, Says, Mentions}
use Rattle.logic_meaning.specs.Every.{Every}
use Rattle.logic_meaning.specs.Plain.{IsAtomic}
use Rattle.logic_meaning.specs.Tree.{IsFree}
use Rattle.logic_meaning.specs.NormalForm.{normal_atom, negated_normal, IsNormal}

-- the normal form of an atom of the theory has its truth at every point of the theory
abbrev pub NormalFormKeepsTruth : Type 0
NormalFormKeepsTruth = (c : Context) (a : Atom) → AtomIn c a → Equivalent c (One a) (normal_atom c a)

-- it brings no name
abbrev pub NormalFormBringsNoName : Type 0
NormalFormBringsNoName = (c : Context) (a : Atom) → AtomIn c a → (x : ℕ) → IsFree (normal_atom c a) x → Mentions a x

-- it is a constant or an atom of the theory, in normal form
abbrev pub NormalFormIsNormal : Type 0
NormalFormIsNormal = (c : Context) (a : Atom) → AtomIn c a → IsAtomic (normal_atom c a) × InContext c (normal_atom c a) × Every (IsNormal c) (normal_atom c a)

-- a normal atom is its own normal form; so atoms of one normal form have one set of points
abbrev pub NormalAtomStays : Type 0
NormalAtomStays = (c : Context) (a : Atom) → IsNormal c a → AtomIn c a × (normal_atom c a ≡ One a)

-- the negation has the opposite truth
abbrev pub NegationIsOpposite : Type 0
NegationIsOpposite = (c : Context) (a : Atom) → AtomIn c a → IsNegation c a (negated_normal a)

-- the negation stays in the theory and has the same names
abbrev pub NegationKeepsNames : Type 0
NegationKeepsNames = (c : Context) (a : Atom) → AtomIn c a → AtomIn c (negated_normal a) × ((x : ℕ) → Mentions (negated_normal a) x ↔ Mentions a x)

-- the negation of a normal atom is normal, and its negation is the atom itself
abbrev pub NegationOfNormalIsNormal : Type 0
NegationOfNormalIsNormal = (c : Context) (a : Atom) → IsNormal c a → IsNormal c (negated_normal a) × (negated_normal (negated_normal a) ≡ a)

-- an atom of the theory is true or not at each point of the theory
abbrev pub AtomsAreDecided : Type 0
AtomsAreDecided = (c : Context) (a : Atom) → AtomIn c a → (p : Point ℕ) → Of c p → Says a p ⊎ (¬ (Says a p))
