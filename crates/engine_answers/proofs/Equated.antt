-- Equations among the conjuncts of a formula of a store.
use Rattle.std.proofs.Common.{◌≡◌, ◌↔◌, ◌+◌, ℕ, zero, suc, ◌<◌, Some, List, [], ◌∷◌, drop, length, get_or, map, inl, inr, refl, subst, arith}
use Rattle.std.specs.List.{AllByRecursion}
use Rattle.logic_meaning.specs.Atom.{Compare, Congruent, Equals, Differs, Below, AtMost, Above, AtLeast}
use Rattle.logic_meaning.specs.Direct.{first_equation}
use Rattle.logic_meaning.specs.Form.{Form}
use Rattle.logic_meaning.specs.Formula.{Yes, No, One, Not, And, Or, Impl, Repl, Equiv, Ex, All, none, also}
use Rattle.logic_meaning.specs.Some.{SomeOf}
use Rattle.logic_meaning.specs.Tree.{Tree, Trees}
use Rattle.normal_atoms.specs.declared.atoms.Atom.TheVariants as atom
use Rattle.normal_atoms.specs.declared.atoms.Rel.TheVariants as rel
use Rattle.formula_tree.specs.declared.shape.Shape.{Shape}
use Rattle.formula_tree.specs.declared.shape.Shape.TheVariants as shape
use Rattle.formula_tree.specs.Shapes.{tree_over}
use Rattle.formula_tree.specs.Trees.{members}
use Rattle.branch_rounds.specs.FromBranchPoints.{conjuncts}
use Rattle.engine_answers.specs.Equations.{IsEquation, HasEquation}

-- the first equation in a name is one
pub equation_there : (x : ℕ) (fs : Trees) (e : Form) → first_equation x fs ≡ Some e → HasEquation fs
equation_there x none e i = cc
equation_there x (also (One (Compare Equals d)) fs) e i = inl (d, refl)
equation_there x (also (One (Compare Differs d)) fs) e i = inr (equation_there x fs e i)
equation_there x (also (One (Compare Below d)) fs) e i = inr (equation_there x fs e i)
equation_there x (also (One (Compare AtMost d)) fs) e i = inr (equation_there x fs e i)
equation_there x (also (One (Compare Above d)) fs) e i = inr (equation_there x fs e i)
equation_there x (also (One (Compare AtLeast d)) fs) e i = inr (equation_there x fs e i)
equation_there x (also (One (Congruent holds n d)) fs) e i = inr (equation_there x fs e i)
equation_there x (also Yes fs) e i = inr (equation_there x fs e i)
equation_there x (also No fs) e i = inr (equation_there x fs e i)
equation_there x (also (Not f) fs) e i = inr (equation_there x fs e i)
equation_there x (also (And gs) fs) e i = inr (equation_there x fs e i)
equation_there x (also (Or gs) fs) e i = inr (equation_there x fs e i)
equation_there x (also (Impl f g) fs) e i = inr (equation_there x fs e i)
equation_there x (also (Repl f g) fs) e i = inr (equation_there x fs e i)
equation_there x (also (Equiv f g) fs) e i = inr (equation_there x fs e i)
equation_there x (also (Ex y f) fs) e i = inr (equation_there x fs e i)
equation_there x (also (All y f) fs) e i = inr (equation_there x fs e i)

-- one with this place
pub some_there : {X : Type 0} (P : X → Type 0) (xs : List X) (i : ℕ) (d : X) → i < length xs → P (get_or xs i d) → SomeOf P xs
some_there P [] i d l h = absurd (omega arith)
some_there P (x ∷ xs) zero d l h = inl h
some_there P (x ∷ xs) (suc i) d l h = inr (some_there P xs i d (omega arith) h)

-- one behind this place, where it is not the one there
some_behind : {X : Type 0} (P : X → Type 0) (xs : List X) (i : ℕ) (d : X) → i < length xs → ¬ (P (get_or xs i d)) → SomeOf P (drop i xs) → SomeOf P (drop (suc i) xs)
some_behind P [] i d l n s = absurd (omega arith)
some_behind P (x ∷ xs) zero d l n (inl h) = absurd (n h)
some_behind P (x ∷ xs) zero d l n (inr s) = s
some_behind P (x ∷ xs) (suc i) d l n s = some_behind P xs i d (omega arith) n s

pub some_further : {X : Type 0} (P : X → Type 0) (xs : List X) (i : ℕ) (d : X) → i < length xs → ¬ (P (get_or xs i d)) → SomeOf P (drop i xs) → SomeOf P (drop (i + 1) xs)
some_further P xs i d l n s = let next : suc i ≡ i + 1 = omega arith in subst (λ k. SomeOf P (drop k xs)) next (some_behind P xs i d l n s)

all_behind : {X : Type 0} (P : X → Type 0) (xs : List X) (i : ℕ) → AllByRecursion P (drop i xs) → AllByRecursion P (drop (suc i) xs)
all_behind P [] zero h = h
all_behind P [] (suc i) h = h
all_behind P (x ∷ xs) zero h = h.1
all_behind P (x ∷ xs) (suc i) h = all_behind P xs i h

pub all_further : {X : Type 0} (P : X → Type 0) (xs : List X) (i : ℕ) → AllByRecursion P (drop i xs) → AllByRecursion P (drop (i + 1) xs)
all_further P xs i h = let next : suc i ≡ i + 1 = omega arith in subst (λ k. AllByRecursion P (drop k xs)) next (all_behind P xs i h)

-- one of the members is an equation
module _ {X : Type 0} (t : X → Tree) where
  pub some_equation : (ids : List X) → SomeOf (λ id. IsEquation (t id)) ids → HasEquation (members (map t ids))
  some_equation [] h = absurd h
  some_equation (id ∷ ids) (inl e) = inl e
  some_equation (id ∷ ids) (inr s) = inr (some_equation ids s)

  pub equation_among : (ids : List X) → HasEquation (members (map t ids)) → SomeOf (λ id. IsEquation (t id)) ids
  equation_among [] h = absurd h
  equation_among (id ∷ ids) (inl e) = inl e
  equation_among (id ∷ ids) (inr s) = inr (equation_among ids s)

-- ---- one shape

module _ {Id : Type 0} (t : Id → Tree) where
  -- one that is no conjunction has itself as a conjunct
  pub alone_equation : (s : Shape Id) → ((ids : List Id) → ¬ (s ≡ shape.And ids)) → IsEquation (tree_over t s) ↔ HasEquation (conjuncts (tree_over t s))
  alone_equation (shape.And ids) h = absurd (h ids refl)
  alone_equation shape.True h = (inl, λ u. elim u [ inl e ↦ e | inr a ↦ absurd a ])
  alone_equation shape.False h = (inl, λ u. elim u [ inl e ↦ e | inr a ↦ absurd a ])
  alone_equation (shape.One a) h = (inl, λ u. elim u [ inl e ↦ e | inr a ↦ absurd a ])
  alone_equation (shape.Or ids) h = (inl, λ u. elim u [ inl e ↦ e | inr a ↦ absurd a ])
  alone_equation (shape.Not f) h = (inl, λ u. elim u [ inl e ↦ e | inr a ↦ absurd a ])
  alone_equation (shape.Impl f g) h = (inl, λ u. elim u [ inl e ↦ e | inr a ↦ absurd a ])
  alone_equation (shape.Repl f g) h = (inl, λ u. elim u [ inl e ↦ e | inr a ↦ absurd a ])
  alone_equation (shape.Equiv f g) h = (inl, λ u. elim u [ inl e ↦ e | inr a ↦ absurd a ])
  alone_equation (shape.Ex y f) h = (inl, λ u. elim u [ inl e ↦ e | inr a ↦ absurd a ])
  alone_equation (shape.All y f) h = (inl, λ u. elim u [ inl e ↦ e | inr a ↦ absurd a ])

  -- only an equation is one
  pub no_equation : (s : Shape Id) → ((e : Form) → ¬ (s ≡ shape.One (atom.Compare rel.Equal e))) → ¬ (IsEquation (tree_over t s))
  no_equation (shape.One (atom.Compare rel.Equal e)) h i = h e refl
  no_equation (shape.One (atom.Compare rel.Differs e)) h i = let k = i.1 in absurd (cc (k))
  no_equation (shape.One (atom.Compare rel.Less e)) h i = let k = i.1 in absurd (cc (k))
  no_equation (shape.One (atom.Compare rel.AtMost e)) h i = let k = i.1 in absurd (cc (k))
  no_equation (shape.One (atom.Compare rel.Greater e)) h i = let k = i.1 in absurd (cc (k))
  no_equation (shape.One (atom.Compare rel.AtLeast e)) h i = let k = i.1 in absurd (cc (k))
  no_equation (shape.One (atom.Congruent holds m e)) h i = let k = i.1 in absurd (cc (k))
  no_equation shape.True h i = let k = i.1 in absurd (cc (k))
  no_equation shape.False h i = let k = i.1 in absurd (cc (k))
  no_equation (shape.And ids) h i = let k = i.1 in absurd (cc (k))
  no_equation (shape.Or ids) h i = let k = i.1 in absurd (cc (k))
  no_equation (shape.Not f) h i = let k = i.1 in absurd (cc (k))
  no_equation (shape.Impl f g) h i = let k = i.1 in absurd (cc (k))
  no_equation (shape.Repl f g) h i = let k = i.1 in absurd (cc (k))
  no_equation (shape.Equiv f g) h i = let k = i.1 in absurd (cc (k))
  no_equation (shape.Ex y f) h i = let k = i.1 in absurd (cc (k))
  no_equation (shape.All y f) h i = let k = i.1 in absurd (cc (k))
