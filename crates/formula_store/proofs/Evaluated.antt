-- The truth of a node from those of its members, shape by shape.
use Rattle.std.proofs.Common.{◌≡◌, ℕ, Bool, true, false, List, Some, slice_get, refl, sym, ap, ◌∙◌, subst, ◌↔◌, IsTrue, inl}
use Rattle.std.specs.Prelude.{ℤ, unsigned_abs}
use Rattle.std.specs.Bool.{beq}
use Rattle.logic_meaning.specs.Point.{Point}
use Rattle.logic_meaning.specs.Formula.{Equiv, One}
use Rattle.logic_meaning.specs.Atom.{Congruent}
use Rattle.logic_meaning.specs.Sizes.{subtrees}
use Rattle.formula_tree.specs.FromNormalAtoms.{Atom as Code, atom_of, IsAskedWhole}
use Rattle.formula_tree.specs.FromNormalAtoms.atom_variants as atom
use Rattle.logic_meaning.specs.Some.{Among}
use Rattle.logic_meaning.specs.Tree.{Tree}
use Rattle.formula_tree.specs.declared.shape.Shape.{Shape}
use Rattle.formula_tree.specs.Shapes.{AllIds, tree_over}
use Rattle.formula_store.specs.declared.id.FormulaId.{FormulaId}
use Rattle.formula_store.specs.Nodes.{tree}
use Rattle.formula_store.specs.Truths.{Tells, IsWholeWhereAsked}
use Rattle.formula_store.proofs.Told.{equiv_tells, same_truths}

-- the node's shape is s, and its members have their truths
module _ (nodes : List (Shape FormulaId)) (p : Point ℕ) (marks : FormulaId → Bool) (id : FormulaId) (n s : Shape FormulaId) (here : slice_get nodes id.number ≡ Some n) (t : tree nodes id ≡ tree_over (tree nodes) n) (is : n ≡ s)
    (told : (m : Shape FormulaId) → slice_get nodes id.number ≡ Some m → AllIds (λ k. Tells (marks k) (tree nodes k) p) m) where
  pub arm_told : AllIds (λ k. Tells (marks k) (tree nodes k) p) s
  arm_told = told s (here ∙ ap Some is)

  pub arm_tells : (b : Bool) → Tells b (tree_over (tree nodes) s) p → Tells b (tree nodes id) p
  arm_tells b h = subst (λ f. Tells b f p) (sym (t ∙ ap (tree_over (tree nodes)) is)) h

equal_test : (a b : Bool) → IsTrue (beq a b) ↔ (a ≡ b)
equal_test a b = (λ e. same_truths a b e, λ e. subst (λ x. beq a x ≡ true) e (alike a))
  where
    alike : (a : Bool) → beq a a ≡ true
    alike true = refl
    alike false = refl

pub beq_tells : (a b : Bool) (f g : Tree) (p : Point ℕ) → Tells a f p → Tells b g p → Tells (beq a b) (Equiv f g) p
beq_tells a b f g p h k = equiv_tells a b (beq a b) f g p (equal_test a b) h k

-- an atom is asked at whole numbers where its formula is
pub asked_whole : (a : Code) (f : Tree) (d : ℤ) → f ≡ One (atom_of a) → IsWholeWhereAsked f d → IsAskedWhole a d
asked_whole (atom.Compare r e) f d h w = tt
asked_whole (atom.Congruent holds m e) f d h w = w holds (unsigned_abs m) e (subst (λ g. Among (subtrees g) (One (Congruent holds (unsigned_abs m) e))) (sym h) (inl refl))
