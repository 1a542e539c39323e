-- Case trees without the cases that others cover.
use Rattle.std.proofs.Common.{◌≡◌, ℕ, All as Each, Bool, true, false, List, [], ◌∷◌, map, refl, ap, ◌∙◌, sym, subst, inl, inr}
use Rattle.logic_meaning.specs.Atom.{Atom}
use Rattle.logic_meaning.specs.Context.{Context}
use Rattle.logic_meaning.specs.Formula.{Not, Or}
use Rattle.logic_meaning.specs.Point.{Point}
use Rattle.logic_meaning.specs.Some.{EachOf}
use Rattle.logic_meaning.specs.Tree.{Tree, TrueAt}
use Rattle.elimination_theory.proofs.SomeListed.{each_map}
use Rattle.logic_meaning.specs.AnswerParts.{guards_of}
use Rattle.std.specs.declared.alloc.Global.{Global}
use Rattle.std.specs.declared.vec.Vec.{Vec}
use Rattle.logic_meaning.specs.Cases.{case_names, case_sign}
use Rattle.logic_meaning.specs.Reference.{normal_tree}
use Rattle.logic_meaning.specs.declared.form.VarId.{VarId}
use Rattle.shape_theory.specs.Simplifiable.{EquivalentUnder}
use Rattle.normal_atoms.specs.declared.atoms.Atom as code_atom
use Rattle.normal_atoms.specs.Atoms.{atom_of}
use Rattle.logic_meaning.specs.NormalForm.{IsNormal}
use Rattle.formula_tree.specs.declared.shape.Shape.{Shape}
use Rattle.formula_tree.specs.Makers.{Keeps}
use Rattle.formula_store.specs.declared.id.FormulaId.{FormulaId}
use Rattle.formula_store.specs.Nodes.{tree, IsId}
use Rattle.test_points.specs.Points.{answer_of, IsTestPoint}
use Rattle.case_theory.specs.CaseTree.{without_all, IsCaseUnder, SaysUnder, IsCaseTree}
use Rattle.case_theory.proofs.Under.{under_then}
use Rattle.case_theory.proofs.Without.{without_all_each}
use Rattle.branch_rounds.specs.Branches.{numbers}
use Rattle.branch_pruning.specs.FromAtomPruning.{marked}
use Rattle.branch_pruning.specs.Pruned.{SomeTrue, AreCovering}
use Rattle.branch_rounds.proofs.Thinned.{each_marked, some_marked}
use Rattle.short_answers.specs.Asking.{IsTidyId}
use Rattle.engine_answers.specs.Assumed.{lacking}
use Rattle.engine_answers.specs.declared.case_tree.Case.{Case}
use Rattle.engine_answers.specs.declared.case_tree.CaseTree.{CaseTree}
use Rattle.engine_answers.specs.CaseTrees.{case_seen, cases_seen, IsCaseTreeOf}
use Rattle.engine_answers.specs.Thinned.{IsThinnedTree}
use Rattle.engine_answers.proofs.Lacking.{lacking_is}

-- what is marked of the images are the images of what is marked
marked_images : {X Y : Type 0} (g : X → Y) (marks : List Bool) (xs : List X) → map g (marked marks xs) ≡ marked marks (map g xs)
marked_images g [] xs = refl
marked_images g (b ∷ bs) [] = refl
marked_images g (true ∷ bs) (x ∷ xs) = ap (◌∷◌ (g x)) (marked_images g bs xs)
marked_images g (false ∷ bs) (x ∷ xs) = marked_images g bs xs

pub trees_of_guards : (nodes : List (Shape FormulaId)) (ks : List Case) → map (tree nodes) (map (λ (k : Case). k.guard) ks) ≡ map (λ (k : Case). tree nodes k.guard) ks
trees_of_guards nodes [] = refl
trees_of_guards nodes (k ∷ ks) = ap (◌∷◌ (tree nodes k.guard)) (trees_of_guards nodes ks)

module _ (c : Context) where
  -- where g says of f what it does, so does each formula with its truth
  says_then : (us : List Atom) (sign : Bool) (f g h : Tree) → SaysUnder c us sign f g → EquivalentUnder c us g h → SaysUnder c us sign f h
  says_then us true f g h s e = under_then c us f g h s e
  says_then us false f g h s e = under_then c us (Not f) g h s e

  module _ (nodes : List (Shape FormulaId)) where
    abbrev guard_trees : List Case → List Tree
    guard_trees ks = map (λ (k : Case). tree nodes k.guard) ks

    -- the disjunction of the guards is true where some guard is
    some_guard : (ks : List Case) (p : Point ℕ) → TrueAt c (Or (guards_of (cases_seen nodes ks))) p → SomeTrue c (guard_trees ks) p
    some_guard [] p t = t
    some_guard (k ∷ ks) p (inl t) = inl t
    some_guard (k ∷ ks) p (inr t) = inr (some_guard ks p t)

    of_guard : (ks : List Case) (p : Point ℕ) → SomeTrue c (guard_trees ks) p → TrueAt c (Or (guards_of (cases_seen nodes ks))) p
    of_guard [] p t = t
    of_guard (k ∷ ks) p (inl t) = inl t
    of_guard (k ∷ ks) p (inr t) = inr (of_guard ks p t)

    -- the guards that are marked say what all say
    marked_say : (us : List Atom) (marks : List Bool) (ks : List Case) → AreCovering c us (guard_trees ks) marks →
        EquivalentUnder c us (Or (guards_of (cases_seen nodes ks))) (Or (guards_of (cases_seen nodes (marked marks ks))))
    marked_say us marks ks h p o u =
        let same = marked_images (λ (k : Case). tree nodes k.guard) marks ks in (
          λ t. of_guard (marked marks ks) p (subst (λ gs. SomeTrue c gs p) (sym same) (h.cover p o u (some_guard ks p t))),
          λ t. of_guard ks p (some_marked (λ f. TrueAt c f p) marks (guard_trees ks) (subst (λ gs. SomeTrue c gs p) same (some_guard (marked marks ks) p t))),
        )

    module _ (ks us : List Atom) (f : Tree) (same : us ≡ without_all (case_names f) ks) where
      marked_tree : (matrix : Tree) (marks : List Bool) (items : List Case) → AreCovering c us (guard_trees items) marks → IsCaseTree c ks f matrix (cases_seen nodes items) → IsCaseTree c ks f matrix (cases_seen nodes (marked marks items))
      marked_tree matrix marks items cover h =
          let vs = without_all (case_names f) ks in
          let covers : AreCovering c vs (guard_trees items) marks = subst (λ (ls : List Atom). AreCovering c ls (guard_trees items) marks) same cover in
          record {
            means = h.means;
            tidy = h.tidy;
            each = subst (EachOf (IsCaseUnder c vs f matrix (case_names f))) (sym (marked_images (case_seen nodes) marks items)) (each_marked (IsCaseUnder c vs f matrix (case_names f)) marks (cases_seen nodes items) h.each);
            together = says_then vs (case_sign (normal_tree f)) f (Or (guards_of (cases_seen nodes items))) (Or (guards_of (cases_seen nodes (marked marks items)))) h.together (marked_say vs marks items covers);
          }

      -- what is left of a case tree is one of the same formula
      pub thinned_tree : (old new : CaseTree) → IsCaseTreeOf c ks f nodes old → IsThinnedTree c us nodes old new → IsCaseTreeOf c ks f nodes new
      thinned_tree old new h t = record {
        universal = t.universal ∙ h.universal;
        block = ap (λ (b : Vec VarId Global). map (λ (x : VarId). x.number) b.items) t.block ∙ h.block;
        matrix = subst (IsId nodes) (sym t.matrix) h.matrix;
        guards = subst (EachOf (λ (k : Case). IsId nodes k.guard)) (sym t.cases) (each_marked (λ (k : Case). IsId nodes k.guard) t.marks old.cases.items h.guards);
        points = subst (EachOf (λ (k : Case). Each IsTestPoint k.answers.items)) (sym t.cases) (each_marked (λ (k : Case). Each IsTestPoint k.answers.items) t.marks old.cases.items h.points);
        cases = subst (λ (m : FormulaId). IsCaseTree c ks f (tree nodes m) (cases_seen nodes new.cases.items)) (sym t.matrix)
            (subst (λ (items : List Case). IsCaseTree c ks f (tree nodes old.matrix) (cases_seen nodes items)) (sym t.cases) (marked_tree (tree nodes old.matrix) t.marks old.cases.items t.cover h.cases));
      }

    -- the guards of a case tree are tidy
    pub tidy_guards : (ks : List Atom) (f : Tree) (t : CaseTree) → IsCaseTreeOf c ks f nodes t → EachOf (λ (k : Case). IsTidyId c nodes k.guard) t.cases.items
    tidy_guards ks f t h = go t.cases.items h.guards h.cases.each
      where
        go : (items : List Case) → EachOf (λ (k : Case). IsId nodes k.guard) items → EachOf (IsCaseUnder c (without_all (case_names f) ks) f (tree nodes t.matrix) (case_names f)) (cases_seen nodes items) →
            EachOf (λ (k : Case). IsTidyId c nodes k.guard) items
        go [] is each = tt
        go (k ∷ items) is each = (record { is = is.0; tidy = each.0.tidy }, go items is.1 each.1)

  -- a case tree stays one where the formulas of the store stay
  module _ (old new : List (Shape FormulaId)) (kept : Keeps (IsId old) (tree old) (IsId new) (tree new)) where
    seen_kept : (items : List Case) → EachOf (λ (k : Case). IsId old k.guard) items → cases_seen new items ≡ cases_seen old items
    seen_kept [] is = refl
    seen_kept (k ∷ items) is = λ i. record { guard = kept.same k.guard is.0 i; answers = map answer_of k.answers.items } ∷ seen_kept items is.1 i

    pub tree_kept : (ks : List Atom) (f : Tree) (t : CaseTree) → IsCaseTreeOf c ks f old t → IsCaseTreeOf c ks f new t
    tree_kept ks f t h = record {
      universal = h.universal;
      block = h.block;
      matrix = kept.is t.matrix h.matrix;
      guards = each_map (λ (k : Case). IsId old k.guard) (λ (k : Case). IsId new k.guard) (λ k i. kept.is k.guard i) t.cases.items h.guards;
      points = h.points;
      cases = subst (λ (m : Tree). IsCaseTree c ks f m (cases_seen new t.cases.items)) (sym (kept.same t.matrix h.matrix))
          (subst (IsCaseTree c ks f (tree old t.matrix)) (sym (seen_kept t.cases.items h.guards)) h.cases);
    }

-- what covers formulas, told of the same formulas under the same atoms
pub covers_so : (c d : Context) (ks ls : List Atom) (fs gs : List Tree) (marks : List Bool) → c ≡ d → ks ≡ ls → fs ≡ gs → AreCovering c ks fs marks → AreCovering d ls gs marks
covers_so c d ks ls fs gs marks e k f h =
    subst (λ (x : Context). AreCovering x ls gs marks) e (subst (λ (xs : List Atom). AreCovering c xs gs marks) k (subst (λ (xs : List Tree). AreCovering c ks xs marks) f h))

-- the atoms without some names are normal where all are
pub lacking_normal : (c : Context) (names : List VarId) (ks : List code_atom.Atom) → EachOf (IsNormal c) (map atom_of ks) → EachOf (IsNormal c) (map atom_of (lacking names ks))
lacking_normal c names ks h = subst (EachOf (IsNormal c)) (sym (lacking_is names ks)) (without_all_each (IsNormal c) (numbers names) (map atom_of ks) h)

-- the atoms without the names of the block
pub lacking_block : (ks : List code_atom.Atom) (f : Tree) (block : List VarId) → map (λ (x : VarId). x.number) block ≡ case_names f → map atom_of (lacking block ks) ≡ without_all (case_names f) (map atom_of ks)
lacking_block ks f block e = lacking_is block ks ∙ ap (λ (xs : List ℕ). without_all xs (map atom_of ks)) e
