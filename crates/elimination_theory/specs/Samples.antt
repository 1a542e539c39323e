-- Samples of answers found one after the other. The sample of an answer is taken in its branch with the values found so far
-- put in and its atoms in normal form: over the integers normal form moves critical values.
use Rattle.std.specs.Prelude.{◌≡◌, ℕ, ℤ, pos, ◌*ℤ◌, List, [], ◌∷◌, nat_eq}
use Rattle.logic_meaning.specs.Context.{Context, Fields, Integers, Allowed}
use Rattle.logic_meaning.specs.Point.{Point, Of, move}
use Rattle.logic_meaning.specs.Every.{Every}
use Rattle.logic_meaning.specs.Form.{Form, coefficient, without, value}
use Rattle.logic_meaning.specs.Atom.{Atom, Compare, Congruent}
use Rattle.formula_laws.specs.TheoryAtoms.{AtomIn}
use Rattle.logic_meaning.specs.Replaced.{replaced}
use Rattle.logic_meaning.specs.Answer.{Place}
use Rattle.logic_meaning.specs.Tree.{Tree, TrueAt}
use Rattle.elimination_theory.specs.FieldsSamples.{IsFieldSample}
use Rattle.elimination_theory.specs.IntegersSample.{IsIntegerSample}
use Rattle.elimination_theory.specs.IntegersTheorems.{IsPeriodOf}
use Rattle.elimination_theory.specs.StepTheorems.{IsNormaliser}
use Rattle.logic_meaning.specs.Answers.{Step}
use Rattle.elimination_theory.specs.AnswersTheorems.{Lead}

-- the form with the numbers of the point for all names but x, times the point's denominator
unfoldable pub form_with : ℕ → Point ℕ → Form → Form
form_with x p f = record { terms = record { times = pos p.below *ℤ coefficient x f; name = x } ∷ []; constant = value (without x f) p }

-- an atom with these numbers; over the integers the denominator is 1, so that the modulus stays
abbrev pub atom_with : ℕ → Point ℕ → Atom → Atom
atom_with x p (Compare r f) = Compare r (form_with x p f)
atom_with x p (Congruent holds n f) = Congruent holds n (form_with x p f)

-- a formula with these numbers, each atom in normal form
abbrev pub tree_with : (Atom → Tree) → ℕ → Point ℕ → Tree → Tree
tree_with by x p f = replaced (λ a. by (atom_with x p a)) (λ y. y) f

-- k/m, over the point's denominator, is the sample of the place
abbrev pub IsSample : Context → ℕ → Place → Tree → Point ℕ → ℤ → ℕ → Type 0
IsSample Fields x s f p k m = IsFieldSample x f p s k m
IsSample Integers x s f p k m = IsIntegerSample x s f p k

-- q is p with each name of the steps at its sample, one after the other
abbrev pub AreSamples : Context → (Atom → Tree) → List Step → Point ℕ → Point ℕ → Type 0
AreSamples c by [] p q = p ≡ q
AreSamples c by (s ∷ rest) p q = (k : ℤ) × (m : ℕ) × Allowed c m
    × IsSample c s.name s.place (tree_with by s.name p s.branch) p k m
    × AreSamples c by rest (move nat_eq p s.name k m) q

-- a period of an atom of the integers is one of its normal form
abbrev pub KeepsPeriods : Context → (Atom → Tree) → Type 0
KeepsPeriods Fields by = Unit {0}
KeepsPeriods Integers by = (a : Atom) (x : ℕ) (q : ℤ) → AtomIn Integers a → IsPeriodOf x q a → Every (IsPeriodOf x q) (by a)

-- Where the last branch is true, the first formula is true at the samples,
abbrev pub SamplesAreTrue : Context → Type 0
SamplesAreTrue c = (by : Atom → Tree) (steps : List Step) (f g : Tree) (p q : Point ℕ) → IsNormaliser c by → KeepsPeriods c by → Lead c steps f g → Of c p →
    TrueAt c g p → AreSamples c by steps p q → TrueAt c f q

-- and there are samples.
abbrev pub SamplesExist : Context → Type 0
SamplesExist c = (by : Atom → Tree) (steps : List Step) (f g : Tree) (p : Point ℕ) → IsNormaliser c by → KeepsPeriods c by → Lead c steps f g → Of c p →
    TrueAt c g p → (q : Point ℕ) × Of c q × AreSamples c by steps p q
