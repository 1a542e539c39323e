-- The branches of the leading block, and the cases of the reference elimination, as case trees over the formulas of a store.
use Rattle.std.proofs.Common.{◌≡◌, ℕ, not, List, [], ◌∷◌, All as Each, map, reverse, refl, ap, ◌∙◌, sym, subst}
use Rattle.std.proofs.lemmas.List.Elements.{All-from_recursion}
use mathlib.Core.List.{reverse-cons}
use Rattle.std.specs.List.{AllByRecursion}
use Rattle.std.specs.declared.vec.Vec.{Vec}
use Rattle.std.specs.declared.alloc.Global.{Global}
use Rattle.logic_meaning.specs.Atom as meant
use Rattle.logic_meaning.specs.Every.{Every}
use Rattle.logic_meaning.specs.Measured.{done}
use Rattle.formula_laws.specs.Giving.{Gives}
use Rattle.logic_meaning.specs.Some.{EachOf}
use Rattle.logic_meaning.specs.Tree.{Tree}
use Rattle.elimination_theory.proofs.SomeListed.{each_append, each_map}
use Rattle.logic_meaning.specs.Cases as reference
use Rattle.logic_meaning.specs.Cases.{case_matrix, case_names, reference_cases}
use Rattle.elimination_theory.specs.Theorems.{IsAnswerTo}
use Rattle.normal_atoms.specs.Atoms.{context_of, atom_of}
use Rattle.logic_meaning.specs.NormalForm.{IsNormal}
use Rattle.formula_tree.specs.declared.shape.Shape.{Shape}
use Rattle.formula_tree.specs.Makers.{Keeps}
use Rattle.formula_store.specs.declared.id.FormulaId.{FormulaId}
use Rattle.formula_store.specs.Nodes.{tree, IsId}
use Rattle.test_points.specs.declared.points.TestPoint.{TestPoint}
use Rattle.test_points.specs.Points.{answer_of, IsTestPoint}
use Rattle.case_theory.specs.CaseTree.{without_all, IsCaseTree}
use Rattle.case_theory.specs.Worked.{IsWorked}
use Rattle.case_theory.proofs.Fallback.{reference_tree}
use Rattle.engine_answers.specs.declared.block.LeadingBlock.{LeadingBlock}
use Rattle.engine_answers.specs.Blocks.{is_asked, IsLeadingBlock}
use Rattle.branch_rounds.specs.declared.work.Work.{Work}
use Rattle.branch_rounds.specs.Branches.{Seen, IsOpen, AreBranchesOf, numbers}
use Rattle.branch_rounds.specs.Cases.{case_of}
use Rattle.branch_rounds.specs.Worked.{IsWorkedTo}
use Rattle.branch_rounds.proofs.Ended.{branches_are_cases}
use Rattle.engine_answers.specs.InnerBlocksBlocks.{IsUnder}
use Rattle.engine_answers.specs.declared.case_tree.Case.{Case}
use Rattle.engine_answers.specs.CaseTrees.{case_seen, cases_seen, IsCaseTreeOf}
use Rattle.engine_answers.specs.declared.task.Task.{Task}
use Rattle.engine_answers.specs.Listed.{told_case, told_branch, AreShared}
use Rattle.engine_answers.proofs.WorkingFacts.{whole_work}

-- ---- lists under a function

pub to_mapped : {X Y : Type 0} (P : Y → Type 0) (f : X → Y) (xs : List X) → EachOf (λ x. P (f x)) xs → EachOf P (map f xs)
to_mapped P f [] h = tt
to_mapped P f (x ∷ xs) h = (h.0, to_mapped P f xs h.1)

from_mapped : {X Y : Type 0} (P : Y → Type 0) (f : X → Y) (xs : List X) → EachOf P (map f xs) → EachOf (λ x. P (f x)) xs
from_mapped P f [] h = tt
from_mapped P f (x ∷ xs) h = (h.0, from_mapped P f xs h.1)

each_reversed : {X : Type 0} (P : X → Type 0) (xs : List X) → EachOf P xs → EachOf P (reverse xs)
each_reversed P [] h = tt
each_reversed P (x ∷ xs) h = subst (EachOf P) (sym (reverse-cons x xs)) (each_append P (reverse xs) (x ∷ []) (each_reversed P xs h.1) (h.0, tt))

by_recursion : {X : Type 0} (P : X → Type 0) (xs : List X) → EachOf P xs → AllByRecursion P xs
by_recursion P [] h = tt
by_recursion P (x ∷ xs) h = (h.0, by_recursion P xs h.1)

-- ---- cases and branches as a guard and answers

abbrev told_as : List (Shape FormulaId) → FormulaId × List TestPoint → reference.Case
told_as nodes q = record { guard = tree nodes q.0; answers = map answer_of q.1 }

cases_told : (nodes : List (Shape FormulaId)) (ks : List Case) → map (told_as nodes) (map told_case ks) ≡ cases_seen nodes ks
cases_told nodes [] = refl
cases_told nodes (k ∷ ks) = ap (◌∷◌ (case_seen nodes k)) (cases_told nodes ks)

branches_told : (nodes : List (Shape FormulaId)) (bs : List Seen) → map (told_as nodes) (map told_branch bs) ≡ map (case_of nodes) bs
branches_told nodes [] = refl
branches_told nodes (b ∷ bs) = ap (◌∷◌ (case_of nodes b)) (branches_told nodes bs)

module _ (t : Task) (f : Tree) (n : Every (IsNormal (context_of t.context)) f) (one two nodes : List (Shape FormulaId)) (block : LeadingBlock) (b : IsLeadingBlock f one block)
    (m : FormulaId) (kept : Keeps (IsId two) (tree two) (IsId nodes) (tree nodes)) (cases : Vec Case Global) where
  abbrev theory : List meant.Atom
  theory = map atom_of t.theory.now

  -- the branches of the leading block, over what the matrix was worked on to under the members of the theory without its names
  module _ (u : Work) (under : IsUnder (whole_work t) (numbers block.names.items) u) (worked : IsWorkedTo (context_of u.context) (map atom_of u.assumed.now) (tree one block.matrix) two m)
      (bs : List Seen) (are : AreBranchesOf u (tree two m) (numbers block.names.items) nodes bs) (told : map told_case cases.items ≡ map told_branch bs) where
    each_told : (P : FormulaId × List TestPoint → Type 0) → ((d : Seen) → IsOpen u nodes d → P (told_branch d)) → EachOf (λ (k : Case). P (told_case k)) cases.items
    each_told P gives =
        from_mapped P told_case cases.items (subst (EachOf P) (sym told) (to_mapped P told_branch bs (each_map (IsOpen u nodes) (λ (d : Seen). P (told_branch d)) gives bs are.are_open)))

    matrix_there : IsWorked (context_of u.context) (map atom_of u.assumed.now) (case_matrix f) (tree nodes m)
    matrix_there =
        let c = context_of u.context in
        let ks = map atom_of u.assumed.now in
        subst (IsWorked c ks (case_matrix f)) (sym (kept.same m worked.is)) (subst (λ g. IsWorked c ks g (tree two m)) b.matrix.same worked.worked)

    tree_of_cases : IsCaseTree (context_of t.context) theory f (tree nodes m) (map (case_of nodes) bs)
    tree_of_cases =
        subst (λ d. IsCaseTree (context_of d) theory f (tree nodes m) (map (case_of nodes) bs)) under.context
        (branches_are_cases u theory f nodes m bs (subst (λ d. Every (IsNormal (context_of d)) f) (sym under.context) n) (under.assumed ∙ ap (λ xs. without_all xs theory) b.names) matrix_there
        (subst (λ xs. AreBranchesOf u (tree nodes m) xs nodes bs) b.names (subst (λ g. AreBranchesOf u g (numbers block.names.items) nodes bs) (sym (kept.same m worked.is)) are)))

    pub tree_of_branches : IsCaseTreeOf (context_of t.context) (map atom_of t.theory.now) f nodes (record { universal = not (is_asked block.quantifier); block = block.names; matrix = m; cases = cases })
    tree_of_branches = record {
      universal = ap not b.quantifier;
      block = b.names;
      matrix = kept.is m worked.is;
      guards = each_told (λ q. IsId nodes q.0) (λ d o. o.is);
      points = each_told (λ q. Each IsTestPoint q.1) (λ d o. All-from_recursion IsTestPoint (reverse d.points) (by_recursion IsTestPoint (reverse d.points) (each_reversed IsTestPoint d.points o.points)));
      cases = subst (IsCaseTree (context_of t.context) theory f (tree nodes m)) (sym (sym (cases_told nodes cases.items) ∙ ap (map (told_as nodes)) told ∙ branches_told nodes bs)) tree_of_cases;
    }

  -- the cases of the reference elimination, over what it makes of the matrix
  module _ (made : IsId two m) (exact : IsAnswerTo (context_of t.context) (tree one block.matrix) (tree two m)) (limit cost : ℕ) (listed : List reference.Case)
      (same : reference_cases (context_of t.context) limit f ≡ done (listed, cost)) (shared : AreShared nodes listed cases.items) where
    answer_there : IsAnswerTo (context_of t.context) (case_matrix f) (tree nodes m)
    answer_there = subst (IsAnswerTo (context_of t.context) (case_matrix f)) (sym (kept.same m made)) (subst (λ g. IsAnswerTo (context_of t.context) g (tree two m)) b.matrix.same exact)

    pub tree_of_leaves : IsCaseTreeOf (context_of t.context) (map atom_of t.theory.now) f nodes (record { universal = not (is_asked block.quantifier); block = block.names; matrix = m; cases = cases })
    tree_of_leaves =
        let c = context_of t.context in
        record {
          universal = ap not b.quantifier;
          block = b.names;
          matrix = kept.is m made;
          guards = shared.guards;
          points = shared.points;
          cases = subst (IsCaseTree c theory f (tree nodes m)) (sym shared.same)
              (subst (Gives (λ (r : List reference.Case × ℕ). IsCaseTree c theory f (tree nodes m) r.0)) same (reference_tree c limit theory f (tree nodes m) n answer_there.tidy answer_there.eliminated.equivalent));
        }
