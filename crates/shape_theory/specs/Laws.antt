-- What is proved of simplification, as statements that the functions of this crate promise.
use Rattle.std.specs.Prelude.{ℕ, ◌<◌, ◌≤◌, List}
use Rattle.logic_meaning.specs.Every.{EveryBound}
use Rattle.logic_meaning.specs.Shape.{IsQuantifierFree}
use Rattle.logic_meaning.specs.Context.{Context}
use Rattle.logic_meaning.specs.Atom.{Atom}
use Rattle.logic_meaning.specs.Tree.{Tree, IsFree}
use Rattle.logic_meaning.specs.Sizes.{nodes}
use Rattle.logic_meaning.specs.Measure.{size, atom_measure}
use Rattle.logic_meaning.specs.Trees.{IsReduced}
use Rattle.shape_theory.specs.Simplifiable.{IsSimplifiable, AreAssumable, EquivalentUnder, simplified_under}

-- the simplified formula has the truth of the formula wherever the assumptions are true
abbrev pub SimplifyingKeepsTruth : Type 0
SimplifyingKeepsTruth = (c : Context) (ks : List Atom) (f : Tree) → AreAssumable c ks → IsSimplifiable c f → EquivalentUnder c ks (simplified_under c ks f) f

-- it is Reduced under them
abbrev pub SimplifiedIsReduced : Type 0
SimplifiedIsReduced = (c : Context) (ks : List Atom) (f : Tree) → AreAssumable c ks → IsSimplifiable c f → IsReduced c (simplified_under c ks f) ks

-- it can be simplified again, and has no name that is not free in the formula
abbrev pub SimplifyingKeepsShape : Type 0
SimplifyingKeepsShape = (c : Context) (ks : List Atom) (f : Tree) → IsSimplifiable c f → IsSimplifiable c (simplified_under c ks f)

abbrev pub SimplifyingBringsNoName : Type 0
SimplifyingBringsNoName = (c : Context) (ks : List Atom) (f : Tree) → IsSimplifiable c f → (x : ℕ) → IsFree (simplified_under c ks f) x → IsFree f x

-- it quantifies no other names: what each quantified name of the formula has, each of it has too
abbrev pub SimplifyingQuantifiesNoName : Type 0
SimplifyingQuantifiesNoName = (c : Context) (ks : List Atom) (f : Tree) (n : ℕ) → EveryBound (λ x. x < n) f → EveryBound (λ x. x < n) (simplified_under c ks f)

-- without quantifiers it stays without
abbrev pub SimplifyingBringsNoQuantifier : Type 0
SimplifyingBringsNoQuantifier = (c : Context) (ks : List Atom) (f : Tree) → IsSimplifiable c f → IsQuantifierFree f → IsQuantifierFree (simplified_under c ks f)

-- it has no more nodes, and no more places of atoms
abbrev pub SimplifyingBringsNoNode : Type 0
SimplifyingBringsNoNode = (c : Context) (ks : List Atom) (f : Tree) → IsSimplifiable c f → nodes (simplified_under c ks f) ≤ nodes f

abbrev pub SimplifyingBringsNoAtom : Type 0
SimplifyingBringsNoAtom = (c : Context) (ks : List Atom) (f : Tree) → IsSimplifiable c f → size atom_measure (simplified_under c ks f) ≤ size atom_measure f
