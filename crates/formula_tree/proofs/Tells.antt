-- Two shapes with one tree are one shape, where the trees of their ids tell the ids apart.
use Rattle.std.proofs.Common.{◌≡◌, List, [], ◌∷◌, refl, ap}
use Rattle.std.specs.Prelude.{map}
use Rattle.std.specs.List.{AllByRecursion}
use Rattle.logic_meaning.specs.Tree.{Tree}
use Rattle.normal_atoms.specs.declared.atoms.Atom.{Atom}
use Rattle.normal_atoms.specs.Atoms.{atom_of, IsWellFormed}
use Rattle.formula_tree.specs.declared.shape.Shape.{Shape}
use Rattle.formula_tree.specs.declared.shape.Shape.TheVariants as shape
use Rattle.formula_tree.specs.Trees.{members}
use Rattle.formula_tree.specs.Shapes.{tree_over, AllIds, IsProperShape}

-- R: what the ids of the second shape are
module _ {Id : Type 0} (t : Id → Tree) (R : Id → Type 0) where
  pub members_tell : (ids more : List Id) → AllByRecursion (λ a. (b : Id) → R b → t a ≡ t b → a ≡ b) ids → AllByRecursion R more → members (map t ids) ≡ members (map t more) → ids ≡ more
  members_tell [] [] h k e = refl
  members_tell [] (b ∷ bs) h k e = cc
  members_tell (a ∷ rest) [] h k e = cc
  members_tell (a ∷ rest) (b ∷ bs) h k e =
      let first : t a ≡ t b = cc in
      let others : members (map t rest) ≡ members (map t bs) = cc in
      λ i. (h.0 b k.0 first i) ∷ (members_tell rest bs h.1 k.1 others i)

  -- two shapes with one tree are one shape, where their ids with one tree are one id
  pub over_tells : (atoms : (a b : Atom) → IsWellFormed a → IsWellFormed b → atom_of a ≡ atom_of b → a ≡ b)
      (s r : Shape Id) → IsProperShape s → IsProperShape r → AllIds (λ a. (b : Id) → R b → t a ≡ t b → a ≡ b) s → AllIds R r → tree_over t s ≡ tree_over t r → s ≡ r
  over_tells atoms shape.True shape.True p q h k e = refl
  over_tells atoms shape.False shape.False p q h k e = refl
  over_tells atoms (shape.One a) (shape.One b) p q h k e = ap shape.One (atoms a b p q cc)
  over_tells atoms (shape.And fs) (shape.And gs) p q h k e = ap shape.And (members_tell fs gs h k cc)
  over_tells atoms (shape.Or fs) (shape.Or gs) p q h k e = ap shape.Or (members_tell fs gs h k cc)
  over_tells atoms (shape.Not f) (shape.Not g) p q h k e = ap shape.Not (h g k cc)
  over_tells atoms (shape.Impl f g) (shape.Impl f2 g2) p q h k e = λ i. shape.Impl (h.0 f2 k.0 (cc) i) (h.1 g2 k.1 (cc) i)
  over_tells atoms (shape.Repl f g) (shape.Repl f2 g2) p q h k e = λ i. shape.Repl (h.0 f2 k.0 (cc) i) (h.1 g2 k.1 (cc) i)
  over_tells atoms (shape.Equiv f g) (shape.Equiv f2 g2) p q h k e = λ i. shape.Equiv (h.0 f2 k.0 (cc) i) (h.1 g2 k.1 (cc) i)
  over_tells atoms (shape.Ex x f) (shape.Ex y g) p q h k e = let n : x.number ≡ y.number = cc in λ i. shape.Ex (record { number = n i }) (h g k (cc) i)
  over_tells atoms (shape.All x f) (shape.All y g) p q h k e = let n : x.number ≡ y.number = cc in λ i. shape.All (record { number = n i }) (h g k (cc) i)
  over_tells atoms s r p q h k e = cc
