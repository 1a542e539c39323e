-- A formula with a name at a place, at each way to make one.
use Rattle.std.proofs.Common.{◌≡◌, ℕ, Bool, true, false, ◌&&◌, List, [], ◌∷◌, ◌++◌, refl, sym, ap, ◌∙◌, subst}
use Rattle.logic_meaning.specs.Shape.{quantified}
use Rattle.logic_meaning.specs.declared.quantifier.Quantifier.TheVariants.{Exists, ForAll}
use Rattle.logic_meaning.specs.declared.junction.Junction.TheVariants.{Conjunction, Disjunction}
use Rattle.logic_meaning.specs.Context.{Context}
use Rattle.logic_meaning.specs.Formula.{none, also}
use Rattle.logic_meaning.specs.Fold.{joined, append, folded, fold_list}
use Rattle.logic_meaning.specs.Every.{EveryOf}
use Rattle.formula_laws.specs.TheoryAtoms.{AtomIn}
use Rattle.logic_meaning.specs.Answer.{Place}
use Rattle.logic_meaning.specs.Tree.{Tree, Trees}
use Rattle.formula_laws.specs.Equivalence.{InContext}
use Rattle.logic_meaning.specs.Atoms.{atoms_in, atoms_in_all}
use Rattle.logic_meaning.specs.Limits.{each}
use Rattle.logic_meaning.specs.StopLimits.{atom_within}
use Rattle.normal_atoms.specs.Atoms.{tree_of}
use Rattle.normal_atoms.specs.declared.atoms.Normal.{Normal}
use Rattle.logic_meaning.specs.NormalForm.{constant_tree}
use Rattle.normal_atoms.specs.declared.atoms.Normal.TheVariants as normal
use Rattle.logic_meaning.specs.declared.junction.Junction.{Junction}
use Rattle.logic_meaning.specs.declared.quantifier.Quantifier.{Quantifier}
use Rattle.nnf_trees.specs.declared.nnf.Nnf.{Nnf}
use Rattle.nnf_trees.specs.Nnfs.{nnf_of}
use Rattle.nnf_trees.proofs.Pieces.{Formulas_of, lists_joined, append_none, append_thrice}
use Rattle.test_points.specs.declared.error.PointError.{PointError}
use Rattle.test_points.specs.declared.error.PointError.TheVariants.{Overflow, Nodes, Memory}
use Rattle.nnf_trees.specs.Placed.{put, put_all, all_within, each_within, Fails}

pub each_append : {X : Type 0} (test : X → Bool) (xs ys : List X) → each test (xs ++ ys) ≡ (each test xs && each test ys)
each_append test [] ys = refl
each_append test (x ∷ xs) ys = go (test x) (each test (xs ++ ys)) (each test xs) (each test ys) (each_append test xs ys)
  where
    go : (b all first second : Bool) → all ≡ (first && second) → (b && all) ≡ ((b && first) && second)
    go true all first second h = h
    go false all first second h = refl

pub and_true : (b : Bool) → (b && true) ≡ b
and_true true = refl
and_true false = refl

pub and_known : (a b : Bool) → a ≡ true → (a && b) ≡ b
and_known a b e = ap (λ c. c && b) e

-- the error passes on
pub fails_along : (e : PointError) (a b : Bool) → a ≡ b → Fails e a → Fails e b
fails_along e a b h = subst (Fails e) h

pub fails_first : (e : PointError) (a b : Bool) → Fails e a → Fails e (a && b)
fails_first Overflow a b h = ap (λ c. c && b) h
fails_first Nodes a b h = h
fails_first Memory a b h = tt

-- a normal form is folded
pub normal_folded : (n : Normal) → folded (tree_of n) ≡ tree_of n
normal_folded normal.True = refl
normal_folded normal.False = refl
normal_folded (normal.One a) = refl

module _ (c : Context) (x : ℕ) (s : Place) where
  pub put_constant : (b : Bool) → put c x s (constant_tree b) ≡ constant_tree b
  put_constant true = refl
  put_constant false = refl

  pub constant_within : (b : Bool) → all_within c x s (constant_tree b) ≡ true
  constant_within true = refl
  constant_within false = refl

  pub put_joined : (j : Junction) (fs : Trees) → put c x s (joined j fs) ≡ fold_list j (put_all c x s fs)
  put_joined Conjunction fs = refl
  put_joined Disjunction fs = refl

  pub joined_within : (j : Junction) (fs : Trees) → all_within c x s (joined j fs) ≡ each_within c x s fs
  joined_within Conjunction fs = refl
  joined_within Disjunction fs = refl

  pub put_quantified : (q : Quantifier) (y : ℕ) (f : Tree) → put c x s (quantified q y f) ≡ quantified q y (put c x s f)
  put_quantified Exists y f = refl
  put_quantified ForAll y f = refl

  pub quantified_within : (q : Quantifier) (y : ℕ) (f : Tree) → all_within c x s (quantified q y f) ≡ all_within c x s f
  quantified_within Exists y f = refl
  quantified_within ForAll y f = refl

  pub also_within : (f : Tree) (fs : Trees) → each_within c x s (also f fs) ≡ (all_within c x s f && each_within c x s fs)
  also_within f fs = each_append (atom_within c x s) (atoms_in f) (atoms_in_all fs)

  -- one member more is made
  pub one_put : (made made2 : List Nnf) (g : Nnf) (f : Tree) (rest all : Trees) → append (Formulas_of made) (put_all c x s (also f rest)) ≡ all → nnf_of g ≡ put c x s f → made2 ≡ made ++ g ∷ []
      → append (Formulas_of made2) (put_all c x s rest) ≡ all
  one_put made made2 g f rest all h e m =
      ap (λ xs. append (Formulas_of xs) (put_all c x s rest)) m ∙ ap (λ fs. append fs (put_all c x s rest)) (lists_joined made (g ∷ [])) ∙ append_thrice (Formulas_of made) (also (nnf_of g) none) (put_all c x s rest)
      ∙ ap (append (Formulas_of made)) (ap (λ t. also t (put_all c x s rest)) e) ∙ h

  pub all_put : (made : List Nnf) (rest all : Trees) → append (Formulas_of made) (put_all c x s rest) ≡ all → rest ≡ none → Formulas_of made ≡ all
  all_put made rest all h e = sym (append_none (Formulas_of made)) ∙ ap (append (Formulas_of made)) (sym (ap (put_all c x s) e)) ∙ h

-- which atoms stand in a formula of one layer
pub in_joined : (c : Context) (j : Junction) (fs : Trees) → InContext c (joined j fs) → EveryOf (AtomIn c) fs
in_joined c Conjunction fs h = h
in_joined c Disjunction fs h = h

pub in_quantified : (c : Context) (q : Quantifier) (y : ℕ) (f : Tree) → InContext c (quantified q y f) → InContext c f
in_quantified c Exists y f h = h
in_quantified c ForAll y f h = h

-- a formula with a name at a place, at each way to make one
pub ruleset puts = (put_constant, constant_within, put_joined, joined_within, put_quantified, quantified_within)
