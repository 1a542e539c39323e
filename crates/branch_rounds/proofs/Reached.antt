-- Where branches are true somewhere, and which others are there as they are worked on.
use Rattle.std.proofs.Common.{◌≡◌, ℕ, ◌<◌, ◌≤◌, List, [], ◌∷◌, ◌++◌, map, length, refl, sym, ap, subst, arith, inl, inr, ⊎_elim}
use Rattle.logic_meaning.specs.Context.{Context}
use Rattle.logic_meaning.specs.Point.{Point, Of}
use Rattle.logic_meaning.specs.Some.{Among, SomeOf, EachOf}
use Rattle.logic_meaning.specs.Tree.{Tree, TrueAt}
use Rattle.formula_laws.proofs.Iff.{both_ways}
use Rattle.formula_laws.proofs.Listed.{some_among, among_some, among_left, among_right, among_append}
use Rattle.elimination_theory.proofs.SomeListed.{some_map, some_left, some_right, some_either, each_among}
use Rattle.normal_atoms.specs.Atoms.{context_of, atom_of}
use Rattle.formula_tree.specs.declared.shape.Shape.{Shape}
use Rattle.formula_tree.specs.Makers.{Keeps}
use Rattle.formula_store.specs.declared.id.FormulaId.{FormulaId}
use Rattle.formula_store.specs.Nodes.{tree, IsId}
use Rattle.case_theory.specs.PutThrough.{AreTrue}
use Rattle.case_theory.specs.Under.{Lack}
use Rattle.case_theory.specs.Block.{Somewhere}
use Rattle.case_theory.specs.Worked.{IsNeverUnder}
use Rattle.case_theory.specs.Pending.{Pending, IsPending, eliminated, children}
use Rattle.case_theory.proofs.Pending.{atoms_elsewhere, replaced_by}
use Rattle.branch_rounds.specs.declared.work.Work.{Work}
use Rattle.branch_rounds.specs.Branches.{Seen, IsOpen, IsAlike, StandsFor, AllStand, ArePendingOf, numbers}
use Rattle.branch_rounds.specs.Rounds.{IsStep}
use Rattle.branch_rounds.proofs.Standing.{some_stands}

-- the branch is true where its names that are left may move
abbrev pub IsSomewhere : Context → List (Shape FormulaId) → Point ℕ → Seen → Type 0
IsSomewhere c nodes at b = Somewhere c (Among (numbers b.left)) (tree nodes b.formula) at

-- what is pending is true there too
abbrev pub IsTrueFor : Context → Point ℕ → Pending → Type 0
IsTrueFor c at p = Somewhere c (Among p.left) p.tree at

-- an element of some others
pub moved : {X : Type 0} (P : X → Type 0) (xs ys : List X) → ((x : X) → Among xs x → Among ys x) → SomeOf P xs → SomeOf P ys
moved P xs ys h s = let f = some_among P xs s in among_some P ys f.0 (h f.0 f.1) f.2

module _ (c : Context) (nodes : List (Shape FormulaId)) (at : Point ℕ) where
  pub stands_somewhere : (b : Seen) (p : Pending) → StandsFor nodes b p → IsSomewhere c nodes at b → IsTrueFor c at p
  stands_somewhere b p h s = subst (λ f. Somewhere c (Among p.left) f at) h.formula (subst (λ (l : List ℕ). Somewhere c (Among l) (tree nodes b.formula) at) h.left s)

  pub somewhere_seen : (b : Seen) (p : Pending) → StandsFor nodes b p → IsTrueFor c at p → IsSomewhere c nodes at b
  somewhere_seen b p h s = subst (λ (l : List ℕ). Somewhere c (Among l) (tree nodes b.formula) at) (sym h.left) (subst (λ f. Somewhere c (Among p.left) f at) (sym h.formula) s)

  pub some_meant : (bs : List Seen) (ps : List Pending) → AllStand nodes bs ps → SomeOf (IsSomewhere c nodes at) bs → SomeOf (IsTrueFor c at) ps
  some_meant bs ps h s = some_stands nodes (IsSomewhere c nodes at) (IsTrueFor c at) stands_somewhere bs ps h s

  pub some_seen : (bs : List Seen) (ps : List Pending) → AllStand nodes bs ps → SomeOf (IsTrueFor c at) ps → SomeOf (IsSomewhere c nodes at) bs
  some_seen [] [] h s = absurd s
  some_seen [] (p ∷ ps) h s = absurd h
  some_seen (b ∷ bs) [] h s = absurd s
  some_seen (b ∷ bs) (p ∷ ps) h s = ⊎_elim (λ u. inl (somewhere_seen b p h.0 u)) (λ u. inr (some_seen bs ps h.1 u)) s

-- as the store grows
module _ (c : Context) (old new : List (Shape FormulaId)) (k : Keeps (IsId old) (tree old) (IsId new) (tree new)) (at : Point ℕ) (b : Seen) (is : IsId old b.formula) where
  pub somewhere_later : IsSomewhere c old at b → IsSomewhere c new at b
  somewhere_later s = subst (λ f. Somewhere c (Among (numbers b.left)) f at) (sym (k.same b.formula is)) s

  pub somewhere_before : IsSomewhere c new at b → IsSomewhere c old at b
  somewhere_before s = subst (λ f. Somewhere c (Among (numbers b.left)) f at) (k.same b.formula is) s

module _ (w : Work) (matrix : Tree) (block : List ℕ) where
  abbrev IsLead : Pending → Type 0
  IsLead p = IsPending (context_of w.context) (map atom_of w.assumed.now) matrix block p

  abbrev HaveLack : Type 0
  HaveLack = EachOf (Lack (map atom_of w.assumed.now)) block

  -- the assumptions lack each name that is left
  lacks : (p : Pending) → HaveLack → IsLead p → (y : ℕ) → Among p.left y → Lack (map atom_of w.assumed.now) y
  lacks p l is y m = each_among (Lack (map atom_of w.assumed.now)) block y l ((is.share.same y).0 (among_right (eliminated p) p.left y m))

  -- a branch that leads from the matrix
  pub record IsMeant (nodes : List (Shape FormulaId)) (b : Seen) : Type 0 where
    pub meant : Pending
    pub stands : StandsFor nodes b meant
    pub is : IsLead meant

  each_meant : (nodes : List (Shape FormulaId)) (bs : List Seen) (ps : List Pending) → AllStand nodes bs ps → EachOf IsLead ps → (b : Seen) → Among bs b → IsMeant nodes b
  each_meant nodes [] ps h e b m = absurd m
  each_meant nodes (d ∷ bs) [] h e b m = absurd h
  each_meant nodes (d ∷ bs) (p ∷ ps) h e b m = ⊎_elim (λ i. record { meant = p; stands = subst (λ (q : Seen). StandsFor nodes q p) i h.0; is = e.0 }) (λ n. each_meant nodes bs ps h.1 e.1 b n) m

  pub is_meant : (nodes : List (Shape FormulaId)) (bs : List Seen) → ArePendingOf w matrix block nodes bs → (b : Seen) → Among bs b → IsMeant nodes b
  is_meant nodes bs a b m = each_meant nodes bs a.meant a.stand a.pending.each b m

  -- what is never true is true nowhere
  pub never_somewhere : (nodes : List (Shape FormulaId)) (b : Seen) → HaveLack → IsMeant nodes b → IsNeverUnder (context_of w.context) (map atom_of w.assumed.now) (tree nodes b.formula) →
      (at : Point ℕ) → Of (context_of w.context) at → AreTrue (map atom_of w.assumed.now) at → ¬ (IsSomewhere (context_of w.context) nodes at b)
  never_somewhere nodes b l m n at o t s =
      let p = m.meant in
      let u = stands_somewhere (context_of w.context) nodes at b p m.stands s in
      n u.0 u.1 (atoms_elsewhere (context_of w.context) (Among p.left) (map atom_of w.assumed.now) at u.0 o u.1 u.2 (λ y i. lacks p l m.is y i) t) (subst (λ f. TrueAt (context_of w.context) f u.0) (sym m.stands.formula) u.3)

  -- where a branch is true somewhere, some branch of its step is
  pub step_reaches : (old new : List (Shape FormulaId)) (b : Seen) (bs : List Seen) → HaveLack → IsMeant old b → IsStep w old b new bs →
      (at : Point ℕ) → Of (context_of w.context) at → AreTrue (map atom_of w.assumed.now) at → IsSomewhere (context_of w.context) old at b → SomeOf (IsSomewhere (context_of w.context) new at) bs
  step_reaches old new b bs l m step at o t s =
      let p = m.meant in
      let g = step.goes_on p m.stands in
      some_seen (context_of w.context) new at bs (children g.name p g.rest g.results) g.stand
      ((replaced_by (context_of w.context) (map atom_of w.assumed.now) p (lacks p l m.is) g.name g.rest g.listed g.is_rest g.points g.suffice g.results g.are at o t).0 (stands_somewhere (context_of w.context) old at b p m.stands s))

  -- ---- the same branches, in another order

  module _ (nodes : List (Shape FormulaId)) where
    chosen : (cs : List Seen) → ((b : Seen) → Among cs b → IsMeant nodes b) → List Pending
    chosen [] f = []
    chosen (d ∷ cs) f = (f d (inl refl)).meant ∷ chosen cs (λ b m. f b (inr m))

    chosen_stand : (cs : List Seen) (f : (b : Seen) → Among cs b → IsMeant nodes b) → AllStand nodes cs (chosen cs f)
    unfolding chosen
    chosen_stand [] f = tt
    chosen_stand (d ∷ cs) f = ((f d (inl refl)).stands, chosen_stand cs (λ b m. f b (inr m)))

    chosen_each : (cs : List Seen) (f : (b : Seen) → Among cs b → IsMeant nodes b) → EachOf IsLead (chosen cs f)
    unfolding chosen
    chosen_each [] f = tt
    chosen_each (d ∷ cs) f = ((f d (inl refl)).is, chosen_each cs (λ b m. f b (inr m)))

    pub same_pending : (bs cs : List Seen) → ((b : Seen) → Among bs b → Among cs b) → ((b : Seen) → Among cs b → Among bs b) → ArePendingOf w matrix block nodes bs → ArePendingOf w matrix block nodes cs
    same_pending bs cs forth back a =
        let f = λ (b : Seen) (m : Among cs b). is_meant nodes bs a b (back b m) in
        let stand = chosen_stand cs f in
        record {
          meant = chosen cs f;
          stand = stand;
          pending = record {
            lack = a.pending.lack;
            each = chosen_each cs f;
            together = λ at o t. both_ways (a.pending.together at o t) (
              λ s. some_meant (context_of w.context) nodes at cs (chosen cs f) stand (moved (IsSomewhere (context_of w.context) nodes at) bs cs forth (some_seen (context_of w.context) nodes at bs a.meant a.stand s)),
              λ s. some_meant (context_of w.context) nodes at bs a.meant a.stand (moved (IsSomewhere (context_of w.context) nodes at) cs bs back (some_seen (context_of w.context) nodes at cs (chosen cs f) stand s)),
            );
          };
        }

-- ---- which branches are reached

module _ (w : Work) where
  -- where d is true somewhere, one of the branches is that has no more names left, or fewer
  abbrev pub IsReached : List (Shape FormulaId) → Seen → List (Shape FormulaId) → List Seen → Type 0
  IsReached old d new bs =
      (at : Point ℕ) → Of (context_of w.context) at → AreTrue (map atom_of w.assumed.now) at → IsSomewhere (context_of w.context) old at d →
      SomeOf (λ (e : Seen). (length e.left ≤ length d.left) × IsSomewhere (context_of w.context) new at e) bs

  abbrev pub AreReached : List (Shape FormulaId) → List Seen → List (Shape FormulaId) → List Seen → Type 0
  AreReached old bs new cs = (d : Seen) → Among bs d → IsReached old d new cs

  -- a branch that was worked on before: where it is true somewhere, one of the branches is that has fewer names left
  pub record IsPast (nodes : List (Shape FormulaId)) (bs : List Seen) (d : Seen) : Type 0 where
    pub is : IsId nodes d.formula
    pub replaced : (at : Point ℕ) → Of (context_of w.context) at → AreTrue (map atom_of w.assumed.now) at → IsSomewhere (context_of w.context) nodes at d →
        SomeOf (λ (e : Seen). (length e.left < length d.left) × IsSomewhere (context_of w.context) nodes at e) bs

  module _ (old new : List (Shape FormulaId)) (k : Keeps (IsId old) (tree old) (IsId new) (tree new)) (bs cs : List Seen) (r : AreReached old bs new cs) where
    past_goes : (d : Seen) → IsPast old bs d → IsPast new cs d
    past_goes d h = record {
      is = k.is d.formula h.is;
      replaced = λ at o t s.
          let e = some_among (λ (e : Seen). (length e.left < length d.left) × IsSomewhere (context_of w.context) old at e) bs (h.replaced at o t (somewhere_before (context_of w.context) old new k at d h.is s)) in
          some_map (λ (x : Seen). (length x.left ≤ length e.0.left) × IsSomewhere (context_of w.context) new at x) (λ (x : Seen). (length x.left < length d.left) × IsSomewhere (context_of w.context) new at x) cs
          (λ x u. (omega (arith, u.0, e.2.0), u.1)) (r e.0 e.1 at o t e.2.1);
    }

    pub all_past_go : (past : List Seen) → EachOf (IsPast old bs) past → EachOf (IsPast new cs) past
    all_past_go [] h = tt
    all_past_go (d ∷ past) h = (past_goes d h.0, all_past_go past h.1)

  -- a branch reaches itself
  pub here_reached : (old new : List (Shape FormulaId)) → Keeps (IsId old) (tree old) (IsId new) (tree new) → (bs : List Seen) (d : Seen) → IsId old d.formula → Among bs d → IsReached old d new bs
  here_reached old new k bs d is m at o t s =
      among_some (λ (e : Seen). (length e.left ≤ length d.left) × IsSomewhere (context_of w.context) new at e) bs d m (omega arith, somewhere_later (context_of w.context) old new k at d is s)

  -- as the store grows, and where the branches are among others
  pub all_reached : (old new : List (Shape FormulaId)) → Keeps (IsId old) (tree old) (IsId new) (tree new) → (bs cs : List Seen) → EachOf (IsOpen w old) bs → ((b : Seen) → Among bs b → Among cs b) → AreReached old bs new cs
  all_reached old new k bs cs o h d m = here_reached old new k cs d (each_among (IsOpen w old) bs d o m).is (h d m)

  -- where one of them is replaced by others
  pub others_reached : (old new : List (Shape FormulaId)) → Keeps (IsId old) (tree old) (IsId new) (tree new) → (front : List Seen) (b : Seen) (next ended : List Seen) → EachOf (IsOpen w old) (front ++ b ∷ ended) →
      IsReached old b new (front ++ (next ++ ended)) → AreReached old (front ++ b ∷ ended) new (front ++ (next ++ ended))
  others_reached old new k front b next ended o h d m =
      ⊎_elim (λ n. here_reached old new k (front ++ (next ++ ended)) d (each_among (IsOpen w old) (front ++ b ∷ ended) d o m).is (among_left front (next ++ ended) d n))
      (⊎_elim (λ e. subst (λ (q : Seen). IsReached old q new (front ++ (next ++ ended))) e h)
      (λ n. here_reached old new k (front ++ (next ++ ended)) d (each_among (IsOpen w old) (front ++ b ∷ ended) d o m).is (among_right front (next ++ ended) d (among_right next ended d n))))
      (among_append front (b ∷ ended) d m)

  -- a branch like one that was worked on before reaches one of the others
  pub past_reached : (nodes : List (Shape FormulaId)) (front : List Seen) (b : Seen) (ended past : List Seen) → EachOf (IsPast nodes (front ++ b ∷ ended)) past → SomeOf (IsAlike b) past → IsReached nodes b nodes (front ++ ended)
  past_reached nodes front b ended past h there at o t s =
      let c = context_of w.context in
      let f = some_among (IsAlike b) past there in
      let d = f.0 in
      let alike : IsAlike b d = f.2 in
      let s2 : IsSomewhere c nodes at d = subst (λ i. Somewhere c (Among (numbers d.left)) (tree nodes i) at) (sym alike.0) (subst (λ l. Somewhere c (Among (numbers l)) (tree nodes b.formula) at) (sym alike.1) s) in
      let many : length d.left ≡ length b.left = ap length alike.1 in
      let some = (each_among (IsPast nodes (front ++ b ∷ ended)) past d h f.1).replaced at o t s2 in
      let P = λ (e : Seen). (length e.left < length d.left) × IsSomewhere c nodes at e in
      some_map P (λ (e : Seen). (length e.left ≤ length b.left) × IsSomewhere c nodes at e) (front ++ ended) (λ e u. (omega (arith, u.0, many), u.1))
      (⊎_elim (some_left P front ended) (⊎_elim (λ u. absurd (omega (arith, u.0, many))) (some_right P front ended)) (some_either P front (b ∷ ended) some))
