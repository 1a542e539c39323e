-- Branches with no name left are cases.
use Rattle.std.proofs.Common.{◌≡◌, List, [], ◌∷◌, map, refl, sym, ap, ◌∙◌, subst}
use Rattle.logic_meaning.specs.Atom.{Atom}
use Rattle.logic_meaning.specs.Some.{EachOf}
use Rattle.logic_meaning.specs.Cases.{case_matrix, case_names}
use Rattle.normal_atoms.specs.Atoms.{context_of}
use Rattle.formula_tree.specs.declared.shape.Shape.{Shape}
use Rattle.formula_store.specs.declared.id.FormulaId.{FormulaId}
use Rattle.formula_store.specs.Nodes.{tree}
use Rattle.case_theory.specs.CaseTree.{IsCaseTree}
use Rattle.case_theory.specs.Pending.{Pending, ArePending, AreEnded, cases_of_pending}
use Rattle.case_theory.specs.Worked.{IsWorked}
use Rattle.case_theory.proofs.Ends.{pending_ends}
use Rattle.branch_rounds.specs.declared.work.Work.{Work}
use Rattle.branch_rounds.specs.Branches.{Seen, AllStand, numbers}
use Rattle.branch_rounds.specs.Cases.{case_of, BranchesAreCases}

module _ (nodes : List (Shape FormulaId)) where
  all_end : (bs : List Seen) (ps : List Pending) → AllStand nodes bs ps → EachOf (λ (b : Seen). b.left ≡ []) bs → AreEnded ps
  all_end [] [] h e = tt
  all_end [] (p ∷ ps) h e = absurd h
  all_end (b ∷ bs) [] h e = absurd h
  all_end (b ∷ bs) (p ∷ ps) h e = (sym h.0.left ∙ ap numbers e.0, all_end bs ps h.1 e.1)

  same_cases : (bs : List Seen) (ps : List Pending) → AllStand nodes bs ps → map (case_of nodes) bs ≡ cases_of_pending ps
  same_cases [] [] h = refl
  same_cases [] (p ∷ ps) h = absurd h
  same_cases (b ∷ bs) [] h = absurd h
  same_cases (b ∷ bs) (p ∷ ps) h = λ i. record { guard = h.0.formula i; answers = h.0.answers i } ∷ same_cases bs ps h.1 i

pub branches_are_cases : (w : Work) → BranchesAreCases w
branches_are_cases w theory f nodes matrix bs n same worked h =
    let c = context_of w.context in
    let p = h.pending in
    subst (IsCaseTree c theory f (tree nodes matrix)) (sym (same_cases nodes bs p.meant p.stand))
    (pending_ends c theory f (tree nodes matrix) p.meant n (subst (λ (ks : List Atom). IsWorked c ks (case_matrix f) (tree nodes matrix)) same worked)
    (subst (λ (ks : List Atom). ArePending c ks (tree nodes matrix) (case_names f) p.meant) same p.pending) (all_end nodes bs p.meant p.stand h.ended))
