-- Formulas that a block without a branch shows never to be true together.
use Rattle.std.proofs.Common.{◌≡◌, ℕ, List, [], ◌∷◌, ◌++◌, map, sym, subst, ◌∙◌, inl, inr, nat_eq}
use Rattle.logic_meaning.specs.Context.{Context}
use Rattle.logic_meaning.specs.Point.{Point, Of, move}
use Rattle.logic_meaning.specs.Atom.{Atom, Says}
use Rattle.logic_meaning.specs.Formula.{One, And, No}
use Rattle.logic_meaning.specs.Fold.{fold_list}
use Rattle.logic_meaning.specs.declared.junction.Junction.TheVariants.{Conjunction}
use Rattle.logic_meaning.specs.Some.{EachOf, SomeOf, Among}
use Rattle.logic_meaning.specs.Tree.{Tree, TrueAt}
use Rattle.formula_laws.proofs.Fold.{fold_list_true}
use Rattle.normal_atoms.specs.Atoms.{context_of, atom_of}
use Rattle.formula_tree.specs.declared.shape.Shape.{Shape}
use Rattle.formula_tree.specs.Trees.{members}
use Rattle.formula_store.specs.declared.id.FormulaId.{FormulaId}
use Rattle.formula_store.specs.Nodes.{tree}
use Rattle.case_theory.specs.Block.{ex_all, Somewhere}
use Rattle.case_theory.specs.PutThrough.{AreTrue}
use Rattle.case_theory.specs.Pending.{Pending}
use Rattle.case_theory.proofs.Block.{somewhere_more, somewhere_nowhere, block_somewhere}
use Rattle.branch_rounds.specs.declared.work.Work.{Work}
use Rattle.branch_rounds.specs.Branches.{Seen, AllStand, AreBranchesOf}
use Rattle.short_answers.specs.Asking.{NeverTogether, assumptions}

-- a true formula is true under each block of ex
pub true_in_block : (c : Context) (names : List ℕ) (f : Tree) (p : Point ℕ) → Of c p → TrueAt c f p → TrueAt c (ex_all names f) p
true_in_block c names f p o t = (block_somewhere c names f p o).1 (somewhere_more c (Among []) (Among names) f p (λ y h. absurd h) ((somewhere_nowhere c f p o).1 t))

-- of branches that are false none is true somewhere
none_somewhere : (c : Context) (nodes : List (Shape FormulaId)) (bs : List Seen) (ps : List Pending) (p : Point ℕ) → AllStand nodes bs ps → EachOf (λ (b : Seen). tree nodes b.formula ≡ No) bs →
    SomeOf (λ (d : Pending). Somewhere c (Among d.left) d.tree p) ps → ⊥
none_somewhere c nodes [] [] p s e h = h
none_somewhere c nodes [] (d ∷ ps) p s e h = absurd s
none_somewhere c nodes (b ∷ bs) [] p s e h = h
none_somewhere c nodes (b ∷ bs) (d ∷ ps) p s e (inl h) = subst (λ f. TrueAt c f h.0) (sym s.0.formula ∙ e.0) h.3
none_somewhere c nodes (b ∷ bs) (d ∷ ps) p s e (inr h) = none_somewhere c nodes bs ps p s.1 e.1 h

-- a matrix whose branches are false is true nowhere
pub matrix_never : (w : Work) (matrix : Tree) (names : List ℕ) (nodes : List (Shape FormulaId)) (bs : List Seen) → AreBranchesOf w matrix names nodes bs → EachOf (λ (b : Seen). tree nodes b.formula ≡ No) bs →
    (p : Point ℕ) → Of (context_of w.context) p → AreTrue (map atom_of w.assumed.now) p → ¬ (TrueAt (context_of w.context) matrix p)
matrix_never w matrix names nodes bs are e p o k t =
    let c = context_of w.context in
    let d = are.pending in
    none_somewhere c nodes bs d.meant p d.stand e ((d.pending.together p o k).0 (true_in_block c names matrix p o t))

module _ (c : Context) (p : Point ℕ) where
  pub each_joined : (fs gs : List Tree) → EachOf (λ f. TrueAt c f p) fs → EachOf (λ f. TrueAt c f p) gs → EachOf (λ f. TrueAt c f p) (fs ++ gs)
  each_joined [] gs h k = k
  each_joined (f ∷ fs) gs h k = (h.0, each_joined fs gs h.1 k)

  assumptions_true : (ks : List Atom) → AreTrue ks p → EachOf (λ f. TrueAt c f p) (map (λ (a : Atom). One a) ks)
  assumptions_true [] h = tt
  assumptions_true (k ∷ ks) h = (h.0, assumptions_true ks h.1)

  pub all_true : (fs : List Tree) → EachOf (λ f. TrueAt c f p) fs → TrueAt c (And (members fs)) p
  all_true [] h = tt
  all_true (f ∷ fs) h = (h.0, all_true fs h.1)

-- the folded conjunction of the assumptions and the formulas is true nowhere, so the formulas are never true together
pub never_together : (w : Work) (c : Context) (fs all : List Tree) (matrix : Tree) → all ≡ assumptions w ++ fs → matrix ≡ fold_list Conjunction (members all) → ((p : Point ℕ) → Of c p → ¬ (TrueAt c matrix p)) →
    NeverTogether c (map atom_of w.assumed.now) fs
never_together w c fs all matrix e m never p o k h =
    let both = each_joined c p (assumptions w) fs (assumptions_true c p (map atom_of w.assumed.now) k) h in
    let whole = all_true c p all (subst (EachOf (λ f. TrueAt c f p)) (sym e) both) in
    never p o (subst (λ f. TrueAt c f p) (sym m) ((fold_list_true Says (move nat_eq) c Conjunction (members all) p).0 whole))
