-- A branch that becomes others, or goes, in the list of all.
use Rattle.std.proofs.Common.{◌≡◌, ℕ, List, [], ◌∷◌, ◌++◌, map, refl, sym, ap, ◌∙◌, subst, append_assoc, inl, inr, ⊎_elim}
use Rattle.logic_meaning.specs.Some.{Among, SomeOf, EachOf}
use Rattle.logic_meaning.specs.Formula.{Yes}
use Rattle.logic_meaning.specs.Tree.{Tree}
use Rattle.elimination_theory.proofs.SomeListed.{some_left, some_right}
use Rattle.normal_atoms.specs.Atoms.{context_of, atom_of}
use Rattle.formula_tree.specs.declared.shape.Shape.{Shape}
use Rattle.formula_tree.specs.Makers.{Keeps}
use Rattle.formula_store.specs.declared.id.FormulaId.{FormulaId}
use Rattle.formula_store.specs.Nodes.{tree, IsId}
use Rattle.case_theory.specs.Pending.{Pending, ArePending, IsCovered, children}
use Rattle.case_theory.proofs.Pending.{pending_goes_on, covered_goes, other_covers}
use Rattle.branch_rounds.specs.declared.work.Work.{Work}
use Rattle.branch_rounds.specs.Branches.{Seen, IsOpen, IsAlike, StandsFor, AllStand, ArePendingOf, numbers}
use Rattle.branch_rounds.specs.Rounds.{IsStep, IsSpreadOver}
use Rattle.branch_rounds.proofs.Standing.{all_stand_kept, stand_together, stand_apart, stand_first, some_stands}

-- one of the list that has P
found_in : {X : Type 0} (P : X → Type 0) (xs : List X) → SomeOf P xs → (x : X) × Among xs x × P x
found_in P [] s = absurd s
found_in P (x ∷ xs) s = ⊎_elim (λ h. (x, inl refl, h)) (λ h. let f = found_in P xs h in (f.0, inr f.1, f.2)) s

module _ (w : Work) (matrix : Tree) (block : List ℕ) where
  -- the steps of one branch, before the others that are to come
  pub one_goes : (old new : List (Shape FormulaId)) → Keeps (IsId old) (tree old) (IsId new) (tree new) → (made rest : List Seen) (b : Seen) (bs : List Seen) → EachOf (IsOpen w old) made → EachOf (IsOpen w old) rest →
      IsStep w old b new bs → ArePendingOf w matrix block old (made ++ b ∷ rest) → ArePendingOf w matrix block new (made ++ (bs ++ rest))
  one_goes old new k made rest b bs om or step a =
      let s = stand_apart old made (b ∷ rest) a.meant a.stand in
      let f = stand_first old b rest s.rest s.rests in
      let p = f.first in
      let c = step.goes_on p f.stands in
      let are : ArePending (context_of w.context) (map atom_of w.assumed.now) matrix block (s.front ++ p ∷ f.rest) =
      subst (ArePending (context_of w.context) (map atom_of w.assumed.now) matrix block) (s.is ∙ ap (λ qs. s.front ++ qs) f.is) a.pending in
      record {
        meant = s.front ++ (children c.name p c.rest c.results ++ f.rest);
        stand = stand_together new made (bs ++ rest) s.front (children c.name p c.rest c.results ++ f.rest) (all_stand_kept old new k w made s.front om s.fronts)
            (stand_together new bs rest (children c.name p c.rest c.results) f.rest c.stand (all_stand_kept old new k w rest f.rest or f.rests));
        pending = subst (ArePending (context_of w.context) (map atom_of w.assumed.now) matrix block) (append_assoc s.front (children c.name p c.rest c.results) f.rest)
            (pending_goes_on (context_of w.context) (map atom_of w.assumed.now) matrix block s.front p f.rest c.name c.rest c.points c.results are c.listed c.is_rest c.suffice c.are);
      }

  module _ (nodes : List (Shape FormulaId)) where
    -- a branch may go where each that it stands for is covered by those of the others
    pub one_may_go : (made rest : List Seen) (d : Seen) →
        ((p : Pending) (others : List Pending) → StandsFor nodes d p → AllStand nodes (made ++ rest) others → IsCovered (context_of w.context) (map atom_of w.assumed.now) p others) →
        ArePendingOf w matrix block nodes (made ++ d ∷ rest) → ArePendingOf w matrix block nodes (made ++ rest)
    one_may_go made rest d covered a =
        let s = stand_apart nodes made (d ∷ rest) a.meant a.stand in
        let f = stand_first nodes d rest s.rest s.rests in
        let others = stand_together nodes made rest s.front f.rest s.fronts f.rests in
        let are : ArePending (context_of w.context) (map atom_of w.assumed.now) matrix block (s.front ++ f.first ∷ f.rest) =
        subst (ArePending (context_of w.context) (map atom_of w.assumed.now) matrix block) (s.is ∙ ap (λ qs. s.front ++ qs) f.is) a.pending in
        record {
          meant = s.front ++ f.rest;
          stand = others;
          pending = covered_goes (context_of w.context) (map atom_of w.assumed.now) matrix block s.front f.first f.rest are (covered f.first (s.front ++ f.rest) f.stands others);
        }

    -- one that stands there already goes
    again_goes : (made rest : List Seen) (d : Seen) → SomeOf (IsAlike d) made → ArePendingOf w matrix block nodes (made ++ d ∷ rest) → ArePendingOf w matrix block nodes (made ++ rest)
    again_goes made rest d there a =
        one_may_go made rest d
        (λ p others h hs.
        let q = found_in (λ (q : Pending). (q.tree ≡ p.tree) × (q.left ≡ p.left)) others
        (some_stands nodes (IsAlike d) (λ (q : Pending). (q.tree ≡ p.tree) × (q.left ≡ p.left))
        (λ e q k u. (sym k.formula ∙ ap (tree nodes) u.0 ∙ h.formula, sym k.left ∙ ap numbers u.1 ∙ h.left)) (made ++ rest) others hs
        (some_left (IsAlike d) made rest there)) in
        (other_covers (context_of w.context) (map atom_of w.assumed.now) p others q.0 q.1).equal q.2.0 (λ y m. subst (λ l. Among l y) (sym q.2.1) m))
        a

    -- any goes beside one that is true
    beside_true_goes : (made rest : List Seen) (d : Seen) → SomeOf (λ (e : Seen). tree nodes e.formula ≡ Yes) (made ++ rest) → ArePendingOf w matrix block nodes (made ++ d ∷ rest) → ArePendingOf w matrix block nodes (made ++ rest)
    beside_true_goes made rest d there a =
        one_may_go made rest d
        (λ p others h hs.
        let q = found_in (λ (q : Pending). q.tree ≡ Yes) others
        (some_stands nodes (λ (e : Seen). tree nodes e.formula ≡ Yes) (λ (q : Pending). q.tree ≡ Yes) (λ e q k u. sym k.formula ∙ u) (made ++ rest) others hs there) in
        (other_covers (context_of w.context) (map atom_of w.assumed.now) p others q.0 q.1).true_one q.2)
        a

    -- so the branches of one step can be put behind those that are made, each unless it is there
    pub all_spread : (made new rest bs : List Seen) → IsSpreadOver made bs new → ArePendingOf w matrix block nodes (made ++ (bs ++ rest)) → ArePendingOf w matrix block nodes (new ++ rest)
    all_spread made new rest [] h a = subst (λ l. ArePendingOf w matrix block nodes (l ++ rest)) (sym h) a
    all_spread made new rest (b ∷ bs) h a =
        all_spread h.0 new rest bs h.2
        (⊎_elim (λ e. subst (ArePendingOf w matrix block nodes) (sym (ap (λ l. l ++ (bs ++ rest)) e ∙ append_assoc made (b ∷ []) (bs ++ rest))) a)
        (λ e. subst (λ l. ArePendingOf w matrix block nodes (l ++ (bs ++ rest))) (sym e.0) (again_goes made (bs ++ rest) b e.1 a)) h.1)

    -- and one that is true can stand for all
    front_goes : (made rest : List Seen) (b : Seen) → tree nodes b.formula ≡ Yes → ArePendingOf w matrix block nodes (made ++ b ∷ rest) → ArePendingOf w matrix block nodes (b ∷ rest)
    front_goes [] rest b t a = a
    front_goes (d ∷ made) rest b t a =
        front_goes made rest b t (beside_true_goes [] (made ++ b ∷ rest) d (some_right (λ (e : Seen). tree nodes e.formula ≡ Yes) made (b ∷ rest) (inl t)) a)

    rest_goes : (rest : List Seen) (b : Seen) → tree nodes b.formula ≡ Yes → ArePendingOf w matrix block nodes (b ∷ rest) → ArePendingOf w matrix block nodes (b ∷ [])
    rest_goes [] b t a = a
    rest_goes (d ∷ rest) b t a = rest_goes rest b t (beside_true_goes (b ∷ []) rest d (inl t) a)

    pub only_true : (made rest : List Seen) (b : Seen) → tree nodes b.formula ≡ Yes → ArePendingOf w matrix block nodes (made ++ b ∷ rest) → ArePendingOf w matrix block nodes (b ∷ [])
    only_true made rest b t a = rest_goes rest b t (front_goes made rest b t a)
