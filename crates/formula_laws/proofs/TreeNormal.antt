-- The plain opposite of atoms, and the negation normal form by it.
use Rattle.std.proofs.Common.{ℕ}
use Rattle.logic_meaning.specs.Context.{Context, Fields, Integers}
use Rattle.logic_meaning.specs.Atom.{Atom, Compare, Congruent, Mentions}
use Rattle.formula_laws.specs.TheoryAtoms.{AtomIn, opposite}
use Rattle.logic_meaning.specs.Tree.{Tree, IsFree}
use Rattle.formula_laws.specs.Equivalence.{negation_normal, negated}
use Rattle.formula_laws.proofs.EachAtom.{every_all}
use Rattle.formula_laws.proofs.NormalShape.{normal_form_brings}

pub opposite_in : (c : Context) (a : Atom) → AtomIn c a → AtomIn c (opposite a)
opposite_in c (Compare r f) h = tt
opposite_in Fields (Congruent holds n f) h = h
opposite_in Integers (Congruent holds n f) h = h

opposite_mentions : (a : Atom) (x : ℕ) → Mentions (opposite a) x → Mentions a x
opposite_mentions (Compare r f) x t = t
opposite_mentions (Congruent holds n f) x t = t

-- the negation normal form brings no name
pub tree_normal_free : (f : Tree) (x : ℕ) → (IsFree (negation_normal f) x → IsFree f x) × (IsFree (negated f) x → IsFree f x)
tree_normal_free f x = normal_form_brings opposite Mentions x f (every_all _ (λ a. opposite_mentions a x) f)
