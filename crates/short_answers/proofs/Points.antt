-- The points of a branch are of its theory.
use Rattle.std.proofs.Common.{◌≡◌, ℕ, List, [], ◌∷◌, map, reverse, sym, subst, inl, inr}
use Rattle.logic_meaning.specs.Atom.{Atom}
use Rattle.logic_meaning.specs.Context.{Context}
use Rattle.logic_meaning.specs.Some.{EachOf, SomeOf}
use Rattle.logic_meaning.specs.Answer.{Answer}
use Rattle.logic_meaning.specs.Answers.{Step, answers_of}
use Rattle.logic_meaning.specs.BothTheories.{IsPlaceIn}
use Rattle.logic_meaning.specs.Tree.{Tree}
use Rattle.elimination_theory.proofs.BothSubstitutions.{place_in}
use Rattle.normal_atoms.specs.Atoms.{context_of, atom_of}
use Rattle.formula_tree.specs.declared.shape.Shape.{Shape}
use Rattle.formula_store.specs.declared.id.FormulaId.{FormulaId}
use Rattle.test_points.specs.declared.points.TestPoint.{TestPoint}
use Rattle.test_points.specs.Points.{answer_of, IsTestPoint}
use Rattle.virtual_subst.specs.Shared.{IsAtPlace}
use Rattle.normal_atoms.specs.declared.atoms.Context as code
use Rattle.case_theory.specs.Under.{LeadUnder}
use Rattle.case_theory.specs.Pending.{Pending, IsPending}
use Rattle.branch_rounds.specs.declared.work.Work.{Work}
use Rattle.branch_rounds.specs.Branches.{Seen, AllStand, IsOpen, AreBranchesOf}
use Rattle.short_answers.proofs.Adding.{each_reversed}

lead_places : (c : Context) (ks : List Atom) (steps : List Step) (f g : Tree) → LeadUnder c ks steps f g → EachOf (λ (a : Answer). IsPlaceIn c a.place) (answers_of steps)
lead_places c ks [] f g h = tt
lead_places c ks (s ∷ rest) f g h = (place_in c s.name s.place s.branch h.1.suits, lead_places c ks rest f s.branch h.0)

at_places : (c : code.Context) (ts : List TestPoint) → EachOf IsTestPoint ts → EachOf (λ (a : Answer). IsPlaceIn (context_of c) a.place) (map answer_of ts) → EachOf (IsAtPlace c) ts
at_places c [] h k = tt
at_places c (t ∷ ts) h k = (record { test_point = h.0; place = k.0 }, at_places c ts h.1 k.1)

module _ (w : Work) (nodes : List (Shape FormulaId)) (matrix : Tree) where
  some_points : (bs : List Seen) (ps : List Pending) (points : List TestPoint) → EachOf (IsOpen w nodes) bs → AllStand nodes bs ps → (block : List ℕ) → EachOf (IsPending (context_of w.context) (map atom_of w.assumed.now) matrix block) ps →
      SomeOf (λ (b : Seen). points ≡ reverse b.points) bs → EachOf (IsAtPlace w.context) points
  some_points [] ps points o s block e h = absurd h
  some_points (b ∷ bs) [] points o s block e h = absurd s
  some_points (b ∷ bs) (p ∷ ps) points o s block e (inl h) =
      let c = context_of w.context in
      subst (EachOf (IsAtPlace w.context)) (sym h)
      (at_places w.context (reverse b.points) (each_reversed IsTestPoint b.points o.0.points)
      (subst (EachOf (λ (a : Answer). IsPlaceIn c a.place)) (sym s.0.answers) (lead_places c (map atom_of w.assumed.now) p.steps matrix p.tree e.0.lead)))
  some_points (b ∷ bs) (p ∷ ps) points o s block e (inr h) = some_points bs ps points o.1 s.1 block e.1 h

  pub branch_points_are : (names : List ℕ) (bs : List Seen) (points : List TestPoint) → AreBranchesOf w matrix names nodes bs → SomeOf (λ (b : Seen). points ≡ reverse b.points) bs → EachOf (IsAtPlace w.context) points
  branch_points_are names bs points are h = some_points bs are.pending.meant points are.are_open are.pending.stand names are.pending.pending.each h
