-- A block over a formula that was worked on under the assumptions without its names, and its branches.
use Rattle.std.proofs.Common.{◌≡◌, ℕ, Bool, true, false, List, [], ◌∷◌, map, refl, ap, sym, subst, ◌∙◌}
use Rattle.logic_meaning.specs.Atom as meant
use Rattle.logic_meaning.specs.Context as meaning
use Rattle.logic_meaning.specs.Context.{Context}
use Rattle.logic_meaning.specs.Every.{Every}
use Rattle.logic_meaning.specs.Fold.{fold_list}
use Rattle.logic_meaning.specs.Formula.{also}
use Rattle.logic_meaning.specs.declared.junction.Junction.TheVariants.{Disjunction}
use Rattle.logic_meaning.specs.Some.{EachOf}
use Rattle.logic_meaning.specs.Tree.{Tree}
use Rattle.normal_atoms.specs.Atoms.{context_of, atom_of}
use Rattle.logic_meaning.specs.NormalForm.{IsNormal}
use Rattle.elimination_theory.proofs.SomeListed.{each_map}
use Rattle.logic_meaning.specs.Reference.{turned}
use Rattle.elimination_theory.specs.Theorems.{IsTidy}
use Rattle.elimination_theory.proofs.Tidy.{AreTidy, tidy_fold_list, tidy_turned}
use Rattle.formula_tree.specs.declared.shape.Shape.{Shape}
use Rattle.formula_tree.specs.Trees.{members}
use Rattle.formula_store.specs.declared.id.FormulaId.{FormulaId}
use Rattle.formula_store.specs.Nodes.{tree, IsId}
use Rattle.case_theory.specs.Block.{ex_all}
use Rattle.case_theory.specs.CaseTree.{without_all}
use Rattle.case_theory.specs.Pending.{Pending, ArePending, AreEnded, pending_trees}
use Rattle.case_theory.specs.Under.{Lack}
use Rattle.case_theory.specs.Worked.{IsWorked}
use Rattle.case_theory.proofs.Ends.{block_worked}
use Rattle.case_theory.proofs.Worked.{working_goes_on}
use Rattle.engine_answers.specs.Blocks.{is_asked}
use Rattle.branch_rounds.specs.declared.work.Work.{Work}
use Rattle.branch_rounds.specs.Branches.{Seen, IsOpen, AllStand, AreBranchesOf, numbers}
use Rattle.engine_answers.specs.declared.inner_blocks_block.Block.{Block}
use Rattle.narrowed_blocks.specs.Narrowing.{IsNarrowed}
use Rattle.engine_answers.specs.InnerBlocksBlocks.{IsBlock, IsBlockOver}
use Rattle.engine_answers.proofs.FewerNames.{without_all_same, left_lack, narrowed_worked}
use Rattle.engine_answers.proofs.Under.{under_lack}

-- ---- a formula or its negation

-- where a formula is worked on, so is its negation, and back
forth : (c : Context) (ks : List meant.Atom) (b : Bool) (f g : Tree) → Every (IsNormal c) f → IsWorked c ks f g → IsWorked c ks (turned b f) (turned b g)
forth c ks true f g n w = w
forth c ks false f g n w = (working_goes_on c ks).forth f g n w

pub back : (c : Context) (ks : List meant.Atom) (b : Bool) (f g : Tree) → Every (IsNormal c) f → IsWorked c ks (turned b f) g → IsWorked c ks f (turned b g)
back c ks true f g n w = w
back c ks false f g n w = (working_goes_on c ks).back f g n w

pub turned_tidy : (c : Context) (b : Bool) (f : Tree) → IsTidy c f → IsTidy c (turned b f)
turned_tidy c true f t = t
turned_tidy c false f t = tidy_turned c f t

-- ---- branches

module _ (nodes : List (Shape FormulaId)) where
  all_end : (bs : List Seen) (ps : List Pending) → AllStand nodes bs ps → EachOf (λ (b : Seen). b.left ≡ []) bs → AreEnded ps
  all_end [] [] h e = tt
  all_end [] (p ∷ ps) h e = absurd h
  all_end (b ∷ bs) [] h e = absurd h
  all_end (b ∷ bs) (p ∷ ps) h e = (sym h.0.left ∙ ap numbers e.0, all_end bs ps h.1 e.1)

  all_left : (bs : List Seen) (ps : List Pending) → AllStand nodes bs ps → members (map (λ (d : Seen). tree nodes d.formula) bs) ≡ pending_trees ps
  all_left [] [] h = refl
  all_left [] (p ∷ ps) h = absurd h
  all_left (b ∷ bs) [] h = absurd h
  all_left (b ∷ bs) (p ∷ ps) h = λ i. also (h.0.formula i) (all_left bs ps h.1 i)

  module _ (w : Work) where
    pub left_ids : (bs : List Seen) → EachOf (IsOpen w nodes) bs → EachOf (λ (d : Seen). IsId nodes d.formula) bs
    left_ids bs h = each_map (IsOpen w nodes) (λ (d : Seen). IsId nodes d.formula) (λ d o. o.is) bs h

    left_tidy : (bs : List Seen) → EachOf (IsOpen w nodes) bs → AreTidy (context_of w.context) (members (map (λ (d : Seen). tree nodes d.formula) bs))
    left_tidy [] h = tt
    left_tidy (b ∷ bs) h = (h.0.tidy, left_tidy bs h.1)

    pub together_tidy : (bs : List Seen) → EachOf (IsOpen w nodes) bs → IsTidy (context_of w.context) (fold_list Disjunction (members (map (λ (d : Seen). tree nodes d.formula) bs)))
    together_tidy bs h = tidy_fold_list (context_of w.context) Disjunction (members (map (λ (d : Seen). tree nodes d.formula) bs)) (left_tidy bs h)

    block_joined : (ks : List meant.Atom) (block : List ℕ) (f g : Tree) (bs : List Seen) → map atom_of w.assumed.now ≡ without_all block ks → IsWorked (context_of w.context) (without_all block ks) f g →
        AreBranchesOf w g block nodes bs → IsWorked (context_of w.context) ks (ex_all block f) (fold_list Disjunction (members (map (λ (d : Seen). tree nodes d.formula) bs)))
    block_joined ks block f g bs same worked h =
        let c = context_of w.context in
        let p = h.pending in
        subst (λ ts. IsWorked c ks (ex_all block f) (fold_list Disjunction ts)) (sym (all_left bs p.meant p.stand))
        (block_worked c ks block f g p.meant worked (subst (λ (ls : List meant.Atom). ArePending c ls g block p.meant) same p.pending) (all_end bs p.meant p.stand h.ended))

-- ---- the block

module _ (b : Block) where
  abbrev c : meaning.Context
  c = context_of b.work.now.context

  abbrev ks : List meant.Atom
  ks = map atom_of b.work.now.assumed.now

  abbrev us : List meant.Atom
  us = map atom_of b.under.now.assumed.now

  abbrev block : List ℕ
  block = numbers b.names.now

  abbrev sign : Bool
  sign = is_asked b.quantifier

  module _ (h : IsBlock b) where
    -- under the block the assumptions have none of its names
    pub under_has_none : EachOf (Lack us) block
    under_has_none = under_lack b.work.now b.under.now b.names.now h.under

    module _ (g : Tree) (left : List ℕ) (nodes : List (Shape FormulaId)) (bs : List Seen) (are : AreBranchesOf b.under.now g left nodes bs) (t s : Tree)
        (joined : t ≡ fold_list Disjunction (members (map (λ (d : Seen). tree nodes d.formula) bs))) (small : IsWorked c ks t s) where
      -- what is made of the branches of what is left of it is what the block is worked on to
      pub block_short : (f m : Tree) → IsNarrowed c us m block g left → IsWorked c us f m → IsWorked c ks (ex_all block f) s
      block_short f m narrowed worked =
          let there = context_of b.under.now.context in
          let same : there ≡ c = ap context_of h.under.context in
          let branches = fold_list Disjunction (members (map (λ (d : Seen). tree nodes d.formula) bs)) in
          let lacks = left_lack c us block left m g narrowed under_has_none in
          let itself : IsWorked there (without_all left us) g g = (working_goes_on there (without_all left us)).itself g (subst (λ k. IsTidy k g) (sym same) narrowed.tidy) in
          let over_left : IsWorked c us (ex_all left g) branches = subst (λ k. IsWorked k us (ex_all left g) branches) same (block_joined nodes b.under.now us left g g bs (sym (without_all_same left us lacks)) itself are) in
          let over_block = narrowed_worked c us block left m g narrowed under_has_none f worked branches over_left in
          let all = (working_goes_on c ks).more_atoms block (ex_all block f) branches (subst (λ ls. IsWorked c ls (ex_all block f) branches) h.under.assumed over_block) in
          (working_goes_on c ks).further (ex_all block f) t s (subst (IsWorked c ks (ex_all block f)) (sym joined) all) small

  module _ (g m s r : Tree) (made : m ≡ turned sign g) (short : (f : Tree) → IsWorked c us f m → IsWorked c ks (ex_all block f) s) (closed : r ≡ turned sign s) where
    -- a block of the other quantifier is turned round
    pub block_closed : (f inner : Tree) → IsBlockOver c b.quantifier block f inner → IsWorked c us inner g → IsWorked c ks f r
    block_closed f inner over worked =
        let matrix : IsWorked c us (turned sign inner) m = subst (IsWorked c us (turned sign inner)) (sym made) (forth c us sign inner g over.inner_normal worked) in
        let whole = subst (λ e. IsWorked c ks e s) over.whole (short (turned sign inner) matrix) in
        subst (IsWorked c ks f) (sym closed) (back c ks sign f s over.normal whole)
