-- The first equation among some formulas.
use Rattle.std.proofs.Common.{◌≡◌, ℕ, suc, zero, Option, Some, None, List, refl, ap, ◌⊎◌, inl, inr, ⊎_elim}
use Rattle.std.proofs.Math.IntN.{ℤ, pos, negsuc}
use Rattle.logic_meaning.specs.Formula.{Yes, No, One, Not, And, Or, Impl, Repl, Equiv, Ex, All, none, also}
use Rattle.logic_meaning.specs.Form.{Form, coefficient}
use Rattle.logic_meaning.specs.Atom.{Atom, Compare, Congruent, Equals, Differs, Below, AtMost, Above, AtLeast}
use Rattle.logic_meaning.specs.Tree.{Tree, Trees}
use Rattle.logic_meaning.specs.Substitution.{where_zero}
use Rattle.normal_atoms.specs.declared.atoms.Atom.TheVariants as atom
use Rattle.normal_atoms.specs.declared.atoms.Rel.TheVariants as rel
use Rattle.formula_tree.specs.declared.shape.Shape.{Shape}
use Rattle.formula_tree.specs.declared.shape.Shape.TheVariants as shape
use Rattle.formula_tree.specs.Shapes.{tree_over}
use Rattle.case_theory.specs.Points.{IsConjunct, IsConjunctOfSome}
use Rattle.logic_meaning.specs.Direct.{equation_of, first_of_two, first_equation}
use Rattle.branch_points.specs.Chosen.{conjuncts}

-- ---- it is a conjunct

where_some : (z : ℤ) (d e : Form) → where_zero z None (Some d) ≡ Some e → d ≡ e
where_some (pos zero) d e h = cc
where_some (pos (suc n)) d e h = cc
where_some (negsuc n) d e h = cc

equation_is : (x : ℕ) (a : Atom) (e : Form) → equation_of x a ≡ Some e → a ≡ Compare Equals e
equation_is x (Compare Equals d) e h = ap (Compare Equals) (where_some (coefficient x d) d e h)
equation_is x (Compare Differs d) e h = cc
equation_is x (Compare Below d) e h = cc
equation_is x (Compare AtMost d) e h = cc
equation_is x (Compare Above d) e h = cc
equation_is x (Compare AtLeast d) e h = cc
equation_is x (Congruent holds n d) e h = cc

two_either : (o u : Option Form) (e : Form) → first_of_two o u ≡ Some e → (o ≡ Some e) ⊎ (u ≡ Some e)
two_either None u e h = inr h
two_either (Some d) u e h = inl h

member_is : (x : ℕ) (fs : Trees) (e : Form) → first_equation x fs ≡ Some e → IsConjunctOfSome (Compare Equals e) fs
member_is x none e h = cc
member_is x (also (One a) fs) e h = ⊎_elim (λ i. inl (equation_is x a e i)) (λ i. inr (member_is x fs e i)) (two_either (equation_of x a) (first_equation x fs) e h)
member_is x (also Yes fs) e h = inr (member_is x fs e h)
member_is x (also No fs) e h = inr (member_is x fs e h)
member_is x (also (Not f) fs) e h = inr (member_is x fs e h)
member_is x (also (And gs) fs) e h = inr (member_is x fs e h)
member_is x (also (Or gs) fs) e h = inr (member_is x fs e h)
member_is x (also (Impl f g) fs) e h = inr (member_is x fs e h)
member_is x (also (Repl f g) fs) e h = inr (member_is x fs e h)
member_is x (also (Equiv f g) fs) e h = inr (member_is x fs e h)
member_is x (also (Ex y f) fs) e h = inr (member_is x fs e h)
member_is x (also (All y f) fs) e h = inr (member_is x fs e h)

alone_is : (a : Atom) (f : Tree) → IsConjunctOfSome a (also f none) → IsConjunct a f
alone_is a f i = ⊎_elim (λ j. j) absurd i

pub conjunct_is : (x : ℕ) (f : Tree) (e : Form) → first_equation x (conjuncts f) ≡ Some e → IsConjunct (Compare Equals e) f
conjunct_is x Yes e h = alone_is (Compare Equals e) Yes (member_is x (also Yes none) e h)
conjunct_is x No e h = alone_is (Compare Equals e) No (member_is x (also No none) e h)
conjunct_is x (One a) e h = alone_is (Compare Equals e) (One a) (member_is x (also (One a) none) e h)
conjunct_is x (Not f) e h = alone_is (Compare Equals e) (Not f) (member_is x (also (Not f) none) e h)
conjunct_is x (And fs) e h = member_is x fs e h
conjunct_is x (Or fs) e h = alone_is (Compare Equals e) (Or fs) (member_is x (also (Or fs) none) e h)
conjunct_is x (Impl f g) e h = alone_is (Compare Equals e) (Impl f g) (member_is x (also (Impl f g) none) e h)
conjunct_is x (Repl f g) e h = alone_is (Compare Equals e) (Repl f g) (member_is x (also (Repl f g) none) e h)
conjunct_is x (Equiv f g) e h = alone_is (Compare Equals e) (Equiv f g) (member_is x (also (Equiv f g) none) e h)
conjunct_is x (Ex y f) e h = alone_is (Compare Equals e) (Ex y f) (member_is x (also (Ex y f) none) e h)
conjunct_is x (All y f) e h = alone_is (Compare Equals e) (All y f) (member_is x (also (All y f) none) e h)

-- a shape that is no conjunction is its own only conjunct
pub alone_in : {Id : Type 0} (t : Id → Tree) (s : Shape Id) → ((ids : List Id) → ¬ (s ≡ shape.And ids)) → conjuncts (tree_over t s) ≡ also (tree_over t s) none
alone_in t (shape.And ids) h = absurd (h ids refl)
alone_in t shape.True h = refl
alone_in t shape.False h = refl
alone_in t (shape.One a) h = refl
alone_in t (shape.Or ids) h = refl
alone_in t (shape.Not f) h = refl
alone_in t (shape.Impl f g) h = refl
alone_in t (shape.Repl f g) h = refl
alone_in t (shape.Equiv f g) h = refl
alone_in t (shape.Ex y f) h = refl
alone_in t (shape.All y f) h = refl

-- ---- one shape

zero_none : (z : ℤ) (d : Form) → z ≡ pos 0 → where_zero z None (Some d) ≡ None
zero_none (pos zero) d e = refl
zero_none (pos (suc n)) d e = cc
zero_none (negsuc n) d e = cc

pub other_some : (z : ℤ) (d : Form) → ¬ (z ≡ pos 0) → where_zero z None (Some d) ≡ Some d
other_some (pos zero) d n = absurd (n refl)
other_some (pos (suc k)) d n = refl
other_some (negsuc k) d n = refl

abbrev pub equation_shape : {Id : Type 0} → Form → Shape Id
equation_shape e = shape.One (atom.Compare rel.Equal e)

module _ {Id : Type 0} (t : Id → Tree) where
  -- a shape that is no equation
  pub no_equation : (s : Shape Id) (x : ℕ) → ((e : Form) → ¬ (s ≡ equation_shape e)) → first_equation x (also (tree_over t s) none) ≡ None
  no_equation (shape.One (atom.Compare rel.Equal e)) x h = absurd (h e refl)
  no_equation (shape.One (atom.Compare rel.Differs e)) x h = refl
  no_equation (shape.One (atom.Compare rel.Less e)) x h = refl
  no_equation (shape.One (atom.Compare rel.AtMost e)) x h = refl
  no_equation (shape.One (atom.Compare rel.Greater e)) x h = refl
  no_equation (shape.One (atom.Compare rel.AtLeast e)) x h = refl
  no_equation (shape.One (atom.Congruent holds m e)) x h = refl
  no_equation shape.True x h = refl
  no_equation shape.False x h = refl
  no_equation (shape.And ids) x h = refl
  no_equation (shape.Or ids) x h = refl
  no_equation (shape.Not f) x h = refl
  no_equation (shape.Impl f g) x h = refl
  no_equation (shape.Repl f g) x h = refl
  no_equation (shape.Equiv f g) x h = refl
  no_equation (shape.Ex y f) x h = refl
  no_equation (shape.All y f) x h = refl

  -- an equation without the name
  pub other_equation : (e : Form) (x : ℕ) → coefficient x e ≡ pos 0 → first_equation x (also (tree_over t (equation_shape e)) none) ≡ None
  other_equation e x z = ap (λ o. first_of_two o None) (zero_none (coefficient x e) e z)
