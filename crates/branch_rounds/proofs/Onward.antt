-- The branches of a block as they are worked on one after the other.
use Rattle.std.proofs.Common.{◌≡◌, ℕ, suc, ◌<◌, ◌≤◌, List, [], ◌∷◌, ◌++◌, map, length, refl, sym, ap, ◌∙◌, subst, arith, inl, inr, ⊎_elim, append_assoc}
use Rattle.logic_meaning.specs.Point.{Point, Of}
use Rattle.logic_meaning.specs.Some.{Among, SomeOf, EachOf}
use Rattle.logic_meaning.specs.Tree.{Tree}
use Rattle.formula_laws.proofs.Listed.{some_among, among_some, among_left, among_right, among_append}
use Rattle.elimination_theory.proofs.SomeListed.{some_map, some_left, some_right, each_among, each_append, each_left, each_right}
use Rattle.normal_atoms.specs.Atoms.{context_of, atom_of}
use Rattle.formula_tree.specs.declared.shape.Shape.{Shape}
use Rattle.formula_tree.specs.Makers.{Keeps}
use Rattle.formula_store.specs.declared.id.FormulaId.{FormulaId}
use Rattle.formula_store.specs.Nodes.{tree, IsId}
use Rattle.case_theory.specs.PutThrough.{AreTrue}
use Rattle.case_theory.proofs.Lists.{each_from}
use Rattle.branch_rounds.specs.declared.work.Work.{Work}
use Rattle.branch_rounds.specs.Branches.{Seen, IsOpen, IsAlike, ArePendingOf, AreBranchesOf}
use Rattle.branch_rounds.specs.Rounds.{IsStep, IsSettled}
use Rattle.branch_rounds.specs.Turns.{ArePutOn, IsPassedOver, IsTurn}
use Rattle.branch_rounds.proofs.Standing.{all_open_kept, all_stand_kept}
use Rattle.branch_rounds.proofs.EachRound.{each_is}
use Rattle.branch_rounds.proofs.Going.{one_goes, one_may_go, only_true}
use Rattle.branch_rounds.proofs.Reached.{IsSomewhere, somewhere_seen, somewhere_before, some_meant, is_meant, never_somewhere, step_reaches, same_pending, IsReached, IsPast, all_past_go, all_reached, others_reached, past_reached}

-- the others stay where one list is put in place of another
put_in : {X : Type 0} (front xs ys rest : List X) → ((x : X) → Among xs x → Among ys x) → (x : X) → Among (front ++ (xs ++ rest)) x → Among (front ++ (ys ++ rest)) x
put_in front xs ys rest h x m =
    ⊎_elim (among_left front (ys ++ rest) x)
    (λ n. among_right front (ys ++ rest) x (⊎_elim (λ i. among_left ys rest x (h x i)) (among_right ys rest x) (among_append xs rest x n)))
    (among_append front (xs ++ rest) x m)

module _ (w : Work) (matrix : Tree) (block : List ℕ) where
  -- What is told of the branches that are still worked on, of those that ended, and of those that were worked on before.
  pub record AreOnward (nodes : List (Shape FormulaId)) (all past : List Seen) : Type 0 where
    pub are_open : EachOf (IsOpen w nodes) all
    pub pending : ArePendingOf w matrix block nodes all
    pub before : EachOf (IsPast w nodes all) past

  -- as the store grows
  pub later : (old new : List (Shape FormulaId)) → Keeps (IsId old) (tree old) (IsId new) (tree new) → (all past : List Seen) → AreOnward old all past → AreOnward new all past
  later old new k all past h = record {
    are_open = all_open_kept old new k w all h.are_open;
    pending = record { meant = h.pending.meant; stand = all_stand_kept old new k w all h.pending.meant h.are_open h.pending.stand; pending = h.pending.pending };
    before = all_past_go w old new k all all (all_reached w old new k all all h.are_open (λ b m. m)) past h.before;
  }

  module _ (nodes : List (Shape FormulaId)) where
    stays : Keeps (IsId nodes) (tree nodes) (IsId nodes) (tree nodes)
    stays = record { is = λ id h. h; same = λ id h. refl }

    -- in another order
    pub reordered : (all others past : List Seen) → ((b : Seen) → Among all b → Among others b) → ((b : Seen) → Among others b → Among all b) → AreOnward nodes all past → AreOnward nodes others past
    reordered all others past forth back h = record {
      are_open = each_from (IsOpen w nodes) others (λ b m. each_among (IsOpen w nodes) all b h.are_open (back b m));
      pending = same_pending w matrix block nodes all others forth back h.pending;
      before = all_past_go w nodes nodes stays all others (all_reached w nodes nodes stays all others h.are_open forth) past h.before;
    }

    -- one goes that reaches some of the others
    gone : (front : List Seen) (b : Seen) (rest past : List Seen) → IsReached w nodes b nodes (front ++ rest) → AreOnward nodes (front ++ b ∷ rest) past → AreOnward nodes (front ++ rest) past
    gone front b rest past r h = record {
      are_open = each_append (IsOpen w nodes) front rest (each_left (IsOpen w nodes) front (b ∷ rest) h.are_open) (each_right (IsOpen w nodes) front (b ∷ rest) h.are_open).1;
      pending = one_may_go w matrix block nodes front rest b
          (λ p others k all at o t s.
          some_meant (context_of w.context) nodes at (front ++ rest) others all
          (some_map (λ (e : Seen). (length e.left ≤ length b.left) × IsSomewhere (context_of w.context) nodes at e) (IsSomewhere (context_of w.context) nodes at) (front ++ rest) (λ e u. u.1)
          (r at o t (somewhere_seen (context_of w.context) nodes at b p k s)))) h.pending;
      before = all_past_go w nodes nodes stays (front ++ b ∷ rest) (front ++ rest) (others_reached w nodes nodes stays front b [] rest h.are_open r) past h.before;
    }

    -- one that is passed over
    pub passed : (front : List Seen) (b : Seen) (rest past : List Seen) → IsPassedOver w nodes past b → AreOnward nodes (front ++ b ∷ rest) past → AreOnward nodes (front ++ rest) past
    passed front b rest past over h =
        gone front b rest past
        (⊎_elim (λ there. past_reached w nodes front b rest past h.before there)
        (λ never at o t s. absurd (never_somewhere w matrix block nodes b h.pending.pending.lack (is_meant w matrix block nodes (front ++ b ∷ rest) h.pending b (among_right front (b ∷ rest) b (inl refl))) never at o t s)) over) h

  module _ (old new : List (Shape FormulaId)) (k : Keeps (IsId old) (tree old) (IsId new) (tree new)) (front : List Seen) (b : Seen) (next rest : List Seen) (step : IsStep w old b new next) where
    -- the branches of its step are where it is, with fewer names left
    fewer_reached : ArePendingOf w matrix block old (front ++ b ∷ rest) → (at : Point ℕ) → Of (context_of w.context) at → AreTrue (map atom_of w.assumed.now) at → IsSomewhere (context_of w.context) old at b →
        SomeOf (λ (e : Seen). (length e.left < length b.left) × IsSomewhere (context_of w.context) new at e) (front ++ (next ++ rest))
    fewer_reached a at o t s =
        let c = context_of w.context in
        let P = λ (e : Seen). (length e.left < length b.left) × IsSomewhere c new at e in
        let f = some_among (IsSomewhere c new at) next
        (step_reaches w matrix block old new b next a.pending.lack (is_meant w matrix block old (front ++ b ∷ rest) a b (among_right front (b ∷ rest) b (inl refl))) step at o t s) in
        let few : suc (length f.0.left) ≡ length b.left = each_among (λ (e : Seen). suc (length e.left) ≡ length b.left) next f.0 step.fewer f.1 in
        some_right P front (next ++ rest) (some_left P next rest (among_some P next f.0 f.1 (omega (arith, few), f.2)))

    -- one that becomes those of its step, and one like it is remembered
    pub worked_on : (past : List Seen) (d : Seen) → IsAlike b d → AreOnward old (front ++ b ∷ rest) past → AreOnward new (front ++ (next ++ rest)) (past ++ d ∷ [])
    worked_on past d alike h =
        let c = context_of w.context in
        let of_front = each_left (IsOpen w old) front (b ∷ rest) h.are_open in
        let of_rest = each_right (IsOpen w old) front (b ∷ rest) h.are_open in
        let reach : IsReached w old b new (front ++ (next ++ rest)) =
        λ at o t s. some_map (λ (e : Seen). (length e.left < length b.left) × IsSomewhere c new at e) (λ (e : Seen). (length e.left ≤ length b.left) × IsSomewhere c new at e) (front ++ (next ++ rest))
        (λ e u. (omega (arith, u.0), u.1)) (fewer_reached h.pending at o t s) in
        let many : length d.left ≡ length b.left = ap length alike.1 in
        let is : IsId old d.formula = subst (IsId old) (sym alike.0) of_rest.0.is in
        record {
          are_open = each_append (IsOpen w new) front (next ++ rest) (all_open_kept old new k w front of_front) (each_append (IsOpen w new) next rest step.are_open (all_open_kept old new k w rest of_rest.1));
          pending = one_goes w matrix block old new k front rest b next of_front of_rest.1 step h.pending;
          before = each_append (IsPast w new (front ++ (next ++ rest))) past (d ∷ [])
              (all_past_go w old new k (front ++ b ∷ rest) (front ++ (next ++ rest)) (others_reached w old new k front b next rest h.are_open reach) past h.before) (
                record {
                  is = k.is d.formula is;
                  replaced = λ at o t s.
                      let s2 = somewhere_before c old new k at d is s in
                      some_map (λ (e : Seen). (length e.left < length b.left) × IsSomewhere c new at e) (λ (e : Seen). (length e.left < length d.left) × IsSomewhere c new at e) (front ++ (next ++ rest))
                      (λ e u. (omega (arith, u.0, many), u.1))
                      (fewer_reached h.pending at o t (like_there at s2));
                },
                tt,
              );
        }
      where
        like_there : (at : Point ℕ) → IsSomewhere (context_of w.context) old at d → IsSomewhere (context_of w.context) old at b
        like_there at s = subst (λ i. IsSomewhere (context_of w.context) old at (record { formula = i; points = b.points; left = b.left })) alike.0
            (subst (λ l. IsSomewhere (context_of w.context) old at (record { formula = d.formula; points = b.points; left = l })) alike.1 s)

  -- ---- the last of those that are worked on

  module _ (front : List Seen) (b : Seen) (ended past : List Seen) where
    taken : (nodes : List (Shape FormulaId)) → AreOnward nodes ((front ++ b ∷ []) ++ ended) past → AreOnward nodes (front ++ b ∷ ended) past
    taken nodes h = subst (λ l. AreOnward nodes l past) (append_assoc front (b ∷ []) ended) h

    pub taken_open : (nodes : List (Shape FormulaId)) → EachOf (IsOpen w nodes) ((front ++ b ∷ []) ++ ended) → IsOpen w nodes b
    taken_open nodes h = (each_right (IsOpen w nodes) front (b ∷ []) (each_left (IsOpen w nodes) (front ++ b ∷ []) ended h)).0

    -- no name is left in it
    pub it_ended : (nodes : List (Shape FormulaId)) → AreOnward nodes ((front ++ b ∷ []) ++ ended) past → AreOnward nodes (front ++ (ended ++ b ∷ [])) past
    it_ended nodes h =
        reordered nodes (front ++ b ∷ ended) (front ++ (ended ++ b ∷ [])) past
        (λ x m. ⊎_elim (among_left front (ended ++ b ∷ []) x) (λ n. among_right front (ended ++ b ∷ []) x (⊎_elim (λ e. among_right ended (b ∷ []) x (inl e)) (among_left ended (b ∷ []) x) n)) (among_append front (b ∷ ended) x m))
        (λ x m. ⊎_elim (among_left front (b ∷ ended) x)
        (λ n. among_right front (b ∷ ended) x (⊎_elim (λ i. inr i) (⊎_elim (λ e. inl e) absurd) (among_append ended (b ∷ []) x n))) (among_append front (ended ++ b ∷ []) x m))
        (taken nodes h)

    module _ (old new : List (Shape FormulaId)) (k : Keeps (IsId old) (tree old) (IsId new) (tree new)) (next since : List Seen) (turn : IsTurn w old past b new since next) (h : AreOnward old ((front ++ b ∷ []) ++ ended) past) where
      -- it becomes those that come of it
      after_turn : AreOnward new (front ++ (next ++ ended)) since
      after_turn =
          ⊎_elim
          (λ p. subst (λ l. AreOnward new (front ++ (l ++ ended)) since) (sym p.0) (subst (AreOnward new (front ++ ended)) (sym p.1) (later old new k (front ++ ended) past (passed old front b ended past p.2 (taken old h)))))
          (λ p. subst (AreOnward new (front ++ (next ++ ended))) (sym p.0.1) (worked_on old new k front b next ended p.1 past p.0.0 p.0.2 (taken old h)))
          turn

      -- which are worked on next
      pub turned : (ahead : List Seen) → ArePutOn front next ahead → AreOnward new (ahead ++ ended) since
      turned ahead put =
          subst (λ l. AreOnward new l since) (sym (ap (λ l. l ++ ended) put.is ∙ append_assoc front put.top ended))
          (reordered new (front ++ (next ++ ended)) (front ++ (put.top ++ ended)) since (put_in front next put.top ended (λ x m. (put.same x).1 m)) (put_in front put.top next ended (λ x m. (put.same x).0 m)) after_turn)

      -- one that is true stands alone
      pub alone : IsSettled new next → AreOnward new (next ++ []) []
      alone s =
          let a = subst (λ l. AreOnward new (front ++ (l ++ ended)) since) s.1 after_turn in
          subst (λ l. AreOnward new (l ++ []) []) (sym s.1) (record {
            are_open = ((each_right (IsOpen w new) front (s.0 ∷ ended) a.are_open).0, tt);
            pending = only_true w matrix block new front ended s.0 s.2 a.pending;
            before = tt;
          })

  -- ---- all of them ended

  pub all_ended : (nodes : List (Shape FormulaId)) (ahead ended past : List Seen) → ahead ≡ [] → EachOf (λ (b : Seen). b.left ≡ []) ended → AreOnward nodes (ahead ++ ended) past → AreBranchesOf w matrix block nodes ended
  all_ended nodes ahead ended past e n h =
      let a = subst (λ l. AreOnward nodes (l ++ ended) past) e h in
      record { are_open = a.are_open; pending = a.pending; ended = n }

-- what comes of a branch are formulas of the nodes
pub turn_ids : (w : Work) (old new : List (Shape FormulaId)) (past since : List Seen) (b : Seen) (next : List Seen) → IsTurn w old past b new since next → EachOf (λ (d : Seen). IsId new d.formula) next
turn_ids w old new past since b next t = ⊎_elim (λ p. subst (EachOf (λ (d : Seen). IsId new d.formula)) (sym p.0) tt) (λ p. each_is w new next p.1.are_open) t
