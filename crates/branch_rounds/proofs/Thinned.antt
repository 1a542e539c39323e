-- Branches with no name left, of which some cover the others.
use Rattle.std.proofs.Common.{◌≡◌, ◌≤◌, ℕ, List, [], ◌∷◌, length, map, refl, sym, ap, ◌∙◌, subst, arith, inl, inr, ◌↔◌}
use Rattle.std.specs.Prelude.{Bool, true, false}
use Rattle.logic_meaning.specs.Answer.{Place}
use Rattle.logic_meaning.specs.Context.{Context}
use Rattle.logic_meaning.specs.Point.{Point, Of}
use Rattle.logic_meaning.specs.Some.{SomeOf, EachOf, Among}
use Rattle.logic_meaning.specs.Tree.{Tree, TrueAt}
use Rattle.formula_laws.proofs.Iff.{both_ways}
use Rattle.normal_atoms.specs.Atoms.{context_of, atom_of}
use Rattle.formula_tree.specs.declared.shape.Shape.{Shape}
use Rattle.formula_store.specs.declared.id.FormulaId.{FormulaId}
use Rattle.formula_store.specs.Nodes.{tree, IsId}
use Rattle.branch_pruning.specs.FromAtomPruning.{marked}
use Rattle.branch_pruning.specs.Pruned.{SomeTrue}
use Rattle.case_theory.specs.Block.{Somewhere}
use Rattle.case_theory.specs.Pending.{Pending}
use Rattle.case_theory.proofs.Block.{somewhere_nowhere}
use Rattle.branch_rounds.specs.declared.work.Work.{Work}
use Rattle.branch_rounds.specs.Branches.{Seen, IsOpen, AllStand, AreBranchesOf, numbers}
use Rattle.branch_rounds.specs.Rounds.{IsLeftAlone}
use Rattle.branch_rounds.specs.Thinned.{AreThinned}

-- ---- elements that are marked

pub each_marked : {X : Type 0} (P : X → Type 0) (marks : List Bool) (xs : List X) → EachOf P xs → EachOf P (marked marks xs)
each_marked P [] xs h = tt
each_marked P (b ∷ bs) [] h = tt
each_marked P (true ∷ bs) (x ∷ xs) h = (h.0, each_marked P bs xs h.1)
each_marked P (false ∷ bs) (x ∷ xs) h = each_marked P bs xs h.1

pub some_marked : {X : Type 0} (P : X → Type 0) (marks : List Bool) (xs : List X) → SomeOf P (marked marks xs) → SomeOf P xs
some_marked P [] xs h = absurd h
some_marked P (b ∷ bs) [] h = absurd h
some_marked P (true ∷ bs) (x ∷ xs) (inl h) = inl h
some_marked P (true ∷ bs) (x ∷ xs) (inr h) = inr (some_marked P bs xs h)
some_marked P (false ∷ bs) (x ∷ xs) h = inr (some_marked P bs xs h)

pub few_marked : {X : Type 0} (marks : List Bool) (xs : List X) → length (marked marks xs) ≤ length xs
few_marked [] xs = omega arith
few_marked (b ∷ bs) [] = omega arith
few_marked (true ∷ bs) (x ∷ xs) = let h = few_marked bs xs in omega (arith, h)
few_marked (false ∷ bs) (x ∷ xs) = let h = few_marked bs xs in omega (arith, h)

pub marked_none : {X : Type 0} (marks : List Bool) → marked {X = X} marks [] ≡ []
marked_none [] = refl
marked_none (b ∷ bs) = refl

-- ---- branches

module _ (c : Context) (nodes : List (Shape FormulaId)) where
  stand_marked : (marks : List Bool) (bs : List Seen) (ps : List Pending) → AllStand nodes bs ps → AllStand nodes (marked marks bs) (marked marks ps)
  stand_marked [] bs ps h = tt
  stand_marked (m ∷ ms) [] [] h = tt
  stand_marked (m ∷ ms) [] (p ∷ ps) h = absurd h
  stand_marked (m ∷ ms) (b ∷ bs) [] h = absurd h
  stand_marked (true ∷ ms) (b ∷ bs) (p ∷ ps) h = (h.0, stand_marked ms bs ps h.1)
  stand_marked (false ∷ ms) (b ∷ bs) (p ∷ ps) h = stand_marked ms bs ps h.1

  -- a branch with no name left is true somewhere exactly where its formula is
  here : (b : Seen) (p : Pending) (at : Point ℕ) → Of c at → tree nodes b.formula ≡ p.tree → numbers b.left ≡ p.left → b.left ≡ [] → Somewhere c (Among p.left) p.tree at ↔ TrueAt c (tree nodes b.formula) at
  here b p at o t l e =
      subst (λ f. Somewhere c (Among p.left) p.tree at ↔ TrueAt c f at) (sym t)
      (subst (λ (left : List ℕ). Somewhere c (Among left) p.tree at ↔ TrueAt c p.tree at) (sym (ap numbers e) ∙ l) (somewhere_nowhere c p.tree at o))

  forth : (bs : List Seen) (ps : List Pending) (at : Point ℕ) → Of c at → AllStand nodes bs ps → EachOf (λ (b : Seen). b.left ≡ []) bs → SomeOf (λ (p : Pending). Somewhere c (Among p.left) p.tree at) ps →
      SomeTrue c (map (λ (b : Seen). tree nodes b.formula) bs) at
  forth [] [] at o h e u = absurd u
  forth [] (p ∷ ps) at o h e u = absurd h
  forth (b ∷ bs) [] at o h e u = absurd u
  forth (b ∷ bs) (p ∷ ps) at o h e (inl u) = inl ((here b p at o h.0.formula h.0.left e.0).0 u)
  forth (b ∷ bs) (p ∷ ps) at o h e (inr u) = inr (forth bs ps at o h.1 e.1 u)

  back : (marks : List Bool) (bs : List Seen) (ps : List Pending) (at : Point ℕ) → Of c at → AllStand nodes bs ps → EachOf (λ (b : Seen). b.left ≡ []) bs →
      SomeTrue c (marked marks (map (λ (b : Seen). tree nodes b.formula) bs)) at → SomeOf (λ (p : Pending). Somewhere c (Among p.left) p.tree at) (marked marks ps)
  back [] bs ps at o h e u = absurd u
  back (m ∷ ms) [] [] at o h e u = absurd u
  back (m ∷ ms) [] (p ∷ ps) at o h e u = absurd h
  back (m ∷ ms) (b ∷ bs) [] at o h e u = absurd h
  back (true ∷ ms) (b ∷ bs) (p ∷ ps) at o h e (inl u) = inl ((here b p at o h.0.formula h.0.left e.0).1 u)
  back (true ∷ ms) (b ∷ bs) (p ∷ ps) at o h e (inr u) = inr (back ms bs ps at o h.1 e.1 u)
  back (false ∷ ms) (b ∷ bs) (p ∷ ps) at o h e u = back ms bs ps at o h.1 e.1 u

-- their formulas are among those of the store
pub each_id : (w : Work) (nodes : List (Shape FormulaId)) (bs : List Seen) → EachOf (IsOpen w nodes) bs → EachOf (λ (b : Seen). IsId nodes b.formula) bs
each_id w nodes [] h = tt
each_id w nodes (b ∷ bs) h = (h.0.is, each_id w nodes bs h.1)

pub each_formula : (nodes : List (Shape FormulaId)) (bs : List Seen) → EachOf (λ (b : Seen). IsId nodes b.formula) bs → EachOf (IsId nodes) (map (λ (b : Seen). b.formula) bs)
each_formula nodes [] h = tt
each_formula nodes (b ∷ bs) h = (h.0, each_formula nodes bs h.1)

pub trees_of : (nodes : List (Shape FormulaId)) (bs : List Seen) → map (tree nodes) (map (λ (b : Seen). b.formula) bs) ≡ map (λ (b : Seen). tree nodes b.formula) bs
trees_of nodes [] = refl
trees_of nodes (b ∷ bs) = ap (λ fs. tree nodes b.formula ∷ fs) (trees_of nodes bs)

-- what is left of them stands for the same block
pub branches_thinned : (w : Work) (matrix : Tree) (block : List ℕ) (nodes : List (Shape FormulaId)) (old new : List Seen) → AreBranchesOf w matrix block nodes old → AreThinned w nodes old new → AreBranchesOf w matrix block nodes new
branches_thinned w matrix block nodes old new h t =
    let c = context_of w.context in
    let ks = map atom_of w.assumed.now in
    let p = h.pending in
    subst (AreBranchesOf w matrix block nodes) (sym t.is) (record {
      are_open = each_marked (IsOpen w nodes) t.marks old h.are_open;
      pending = record {
        meant = marked t.marks p.meant;
        stand = stand_marked c nodes t.marks old p.meant p.stand;
        pending = record {
          lack = p.pending.lack;
          each = each_marked _ t.marks p.meant p.pending.each;
          together = λ at o u. both_ways (p.pending.together at o u) (
            λ s. back c nodes t.marks old p.meant at o p.stand h.ended (t.cover.cover at o u (forth c nodes old p.meant at o p.stand h.ended s)),
            some_marked _ t.marks p.meant,
          );
        };
      };
      ended = each_marked (λ (b : Seen). b.left ≡ []) t.marks old h.ended;
    })

pub alone_thinned : (c : Context) (x : ℕ) (s : Place) (f : Tree) (w : Work) (nodes : List (Shape FormulaId)) (old new : List Seen) → IsLeftAlone c x s f nodes old → AreThinned w nodes old new → IsLeftAlone c x s f nodes new
alone_thinned c x s f w nodes old new h t =
    subst (IsLeftAlone c x s f nodes) (sym t.is) (record {
      few = let a = few_marked t.marks old in let b = h.few in omega (arith, a, b);
      no_larger = each_marked _ t.marks old h.no_larger;
    })
