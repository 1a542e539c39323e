-- What branches stand for, as the store grows and as lists are put together.
use Rattle.std.proofs.Common.{◌≡◌, List, [], ◌∷◌, ◌++◌, refl, sym, ap, ◌∙◌, subst, inl, inr, ⊎_elim}
use Rattle.logic_meaning.specs.Some.{SomeOf, EachOf}
use Rattle.elimination_theory.specs.Theorems.{IsTidy}
use Rattle.normal_atoms.specs.Atoms.{context_of}
use Rattle.formula_tree.specs.declared.shape.Shape.{Shape}
use Rattle.formula_tree.specs.Makers.{Keeps}
use Rattle.formula_store.specs.declared.id.FormulaId.{FormulaId}
use Rattle.formula_store.specs.Nodes.{tree, IsId}
use Rattle.case_theory.specs.Pending.{Pending}
use Rattle.branch_rounds.specs.declared.work.Work.{Work}
use Rattle.branch_rounds.specs.Branches.{Seen, IsOpen, StandsFor, AllStand}

module _ (old new : List (Shape FormulaId)) (k : Keeps (IsId old) (tree old) (IsId new) (tree new)) where
  pub open_kept : (w : Work) (b : Seen) → IsOpen w old b → IsOpen w new b
  open_kept w b h = record { is = k.is b.formula h.is; tidy = subst (IsTidy (context_of w.context)) (sym (k.same b.formula h.is)) h.tidy; points = h.points; once = h.once }

  pub all_open_kept : (w : Work) (bs : List Seen) → EachOf (IsOpen w old) bs → EachOf (IsOpen w new) bs
  all_open_kept w [] h = tt
  all_open_kept w (b ∷ bs) h = (open_kept w b h.0, all_open_kept w bs h.1)

  pub stands_kept : (b : Seen) (p : Pending) → IsId old b.formula → StandsFor old b p → StandsFor new b p
  stands_kept b p i h = record { formula = k.same b.formula i ∙ h.formula; answers = h.answers; left = h.left }

  pub all_stand_kept : (w : Work) (bs : List Seen) (ps : List Pending) → EachOf (IsOpen w old) bs → AllStand old bs ps → AllStand new bs ps
  all_stand_kept w [] [] o h = tt
  all_stand_kept w [] (p ∷ ps) o h = absurd h
  all_stand_kept w (b ∷ bs) [] o h = absurd h
  all_stand_kept w (b ∷ bs) (p ∷ ps) o h = (stands_kept b p o.0.is h.0, all_stand_kept w bs ps o.1 h.1)

module _ (nodes : List (Shape FormulaId)) where
  pub stand_together : (cs bs : List Seen) (ps qs : List Pending) → AllStand nodes cs ps → AllStand nodes bs qs → AllStand nodes (cs ++ bs) (ps ++ qs)
  stand_together [] bs [] qs h k = k
  stand_together [] bs (p ∷ ps) qs h k = absurd h
  stand_together (c ∷ cs) bs [] qs h k = absurd h
  stand_together (c ∷ cs) bs (p ∷ ps) qs h k = (h.0, stand_together cs bs ps qs h.1 k)

  -- what the front and the rest of a list stand for
  pub record Split (cs bs : List Seen) (ps : List Pending) : Type 0 where
    pub front : List Pending
    pub rest : List Pending
    pub is : ps ≡ front ++ rest
    pub fronts : AllStand nodes cs front
    pub rests : AllStand nodes bs rest

  pub stand_apart : (cs bs : List Seen) (ps : List Pending) → AllStand nodes (cs ++ bs) ps → Split cs bs ps
  stand_apart [] bs ps h = record { front = []; rest = ps; is = refl; fronts = tt; rests = h }
  stand_apart (c ∷ cs) bs [] h = absurd h
  stand_apart (c ∷ cs) bs (p ∷ ps) h =
      let s = stand_apart cs bs ps h.1 in
      record { front = p ∷ s.front; rest = s.rest; is = ap (λ qs. p ∷ qs) s.is; fronts = (h.0, s.fronts); rests = s.rests }

  -- what the first of a list stands for
  pub record First (b : Seen) (bs : List Seen) (ps : List Pending) : Type 0 where
    pub first : Pending
    pub rest : List Pending
    pub is : ps ≡ first ∷ rest
    pub stands : StandsFor nodes b first
    pub rests : AllStand nodes bs rest

  pub stand_first : (b : Seen) (bs : List Seen) (ps : List Pending) → AllStand nodes (b ∷ bs) ps → First b bs ps
  stand_first b bs [] h = absurd h
  stand_first b bs (p ∷ ps) h = record { first = p; rest = ps; is = refl; stands = h.0; rests = h.1 }

  -- a branch with P stands for one with Q, where each that it may stand for has
  pub some_stands : (P : Seen → Type 0) (Q : Pending → Type 0) → ((b : Seen) (p : Pending) → StandsFor nodes b p → P b → Q p) → (bs : List Seen) (ps : List Pending) → AllStand nodes bs ps → SomeOf P bs → SomeOf Q ps
  some_stands P Q f [] [] h s = absurd s
  some_stands P Q f [] (p ∷ ps) h s = absurd h
  some_stands P Q f (b ∷ bs) [] h s = absurd h
  some_stands P Q f (b ∷ bs) (p ∷ ps) h s = ⊎_elim (λ u. inl (f b p h.0 u)) (λ u. inr (some_stands P Q f bs ps h.1 u)) s
