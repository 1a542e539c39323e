-- The branches of a formula that is ready are formulas of the theory.
use Rattle.std.proofs.Common.{◌≡◌, ℕ, Bool, List, [], ◌∷◌, sym, subst}
use Rattle.logic_meaning.specs.Shape.{quantified}
use Rattle.logic_meaning.specs.declared.quantifier.Quantifier.TheVariants.{Exists, ForAll}
use Rattle.logic_meaning.specs.declared.junction.Junction.TheVariants.{Conjunction, Disjunction}
use Rattle.logic_meaning.specs.Context.{Context}
use Rattle.logic_meaning.specs.Every.{Every, EveryOf}
use Rattle.logic_meaning.specs.Fold.{joined}
use Rattle.logic_meaning.specs.Some.{EachOf}
use Rattle.formula_laws.specs.TheoryAtoms.{AtomIn}
use Rattle.logic_meaning.specs.Tree.{Tree, Trees}
use Rattle.formula_laws.proofs.NormalShape.{normal_form_shape}
use Rattle.logic_meaning.specs.NormalForm.{IsNormal, negated_normal}
use Rattle.logic_meaning.specs.Measured.{done, Outcome}
use Rattle.formula_laws.specs.Giving.{Gives}
use Rattle.logic_meaning.specs.Reference.{Branch, branch_trees, branches, normal_tree}
use Rattle.elimination_theory.proofs.Always.{gives_then}
use Rattle.elimination_theory.proofs.Branches.{IsBranch}
use Rattle.elimination_theory.proofs.Sound.{Good, branches_are, normal_normal_tree}
use Rattle.elimination_theory.proofs.Tidy.{tidy_in}
use Rattle.logic_meaning.specs.declared.junction.Junction.{Junction}
use Rattle.logic_meaning.specs.declared.quantifier.Quantifier.{Quantifier}
use Rattle.reference_engine.specs.Told.{seen}
use Rattle.reference_engine.specs.Ready.{IsReady, AreReady}

branches_in : (c : Context) (matrix : Tree) (names : List ℕ) (bs : List Branch) → EachOf (IsBranch c matrix names) bs → EveryOf (AtomIn c) (branch_trees bs)
branches_in c matrix names [] h = tt
branches_in c matrix names (b ∷ bs) h = (tidy_in c b.tree h.0.tidy, branches_in c matrix names bs h.1)

-- the branches are formulas of the theory
pub branches_inside : (c : Context) (limit : ℕ) (names : List ℕ) (sign : Bool) (f : Tree) (cost after : ℕ) (ts : Trees) → IsReady c f → seen (branches c limit names sign f cost) ≡ done (ts, after) → EveryOf (AtomIn c) ts
branches_inside c limit names sign f cost after ts h e =
    subst (Gives (λ (r : Trees × ℕ). EveryOf (AtomIn c) r.0)) e
    (gives_then (λ (r : List Branch × ℕ). Good c limit names sign f r.0) (λ (r : Trees × ℕ). EveryOf (AtomIn c) r.0) (branches c limit names sign f cost) _ (branches_are c limit names sign f h.0 h.1 cost)
    (λ r g. branches_in c _ _ r.0 g.each))

-- ---- the parts of a formula that is ready

pub joined_ready : (c : Context) (j : Junction) (fs : Trees) → IsReady c (joined j fs) → AreReady c fs
joined_ready c Conjunction fs h = h
joined_ready c Disjunction fs h = h

pub quantified_ready : (c : Context) (q : Quantifier) (x : ℕ) (f : Tree) → IsReady c (quantified q x f) → IsReady c f
quantified_ready c Exists x f h = h
quantified_ready c ForAll x f h = h

-- the negation normal form of a formula over normal atoms is ready
pub form_ready : (c : Context) (limit : ℕ) (f : Tree) → Every (IsNormal c) f → IsReady c (normal_tree f)
form_ready c limit f h = ((normal_form_shape negated_normal f).0, normal_normal_tree c limit f h)
