-- The pass keeps truth at the points where the atoms that it is given are true.
use Rattle.std.proofs.Common.{◌≡◌, ℕ, Bool, true, false, nat_eq, refl, subst, ◌⊎◌, inl, inr, ⊎_elim, ◌↔◌, Option, None, Some, List, [], ◌∷◌, eqb-true}
use Rattle.std.specs.Prelude.{◌||◌, if◌then◌else◌}
use Rattle.std.proofs.Math.IntN.{ℤ, pos}
use Rattle.logic_meaning.specs.Context.{Context, Allowed}
use Rattle.logic_meaning.specs.Formula.{Formula, Formulas, Yes, No, One, Not, And, Or, Impl, Repl, Equiv, Ex, All, none, also}
use Rattle.logic_meaning.specs.Truth.{True}
use Rattle.logic_meaning.specs.Every.{Free}
use Rattle.logic_meaning.specs.Some.{EachOf}
use Rattle.logic_meaning.specs.Sizes.{same_formula}
use Rattle.logic_meaning.specs.Fold.{joined, neutral, absorbing, append, pieces_of, from_pieces}
use Rattle.logic_meaning.specs.declared.junction.Junction.{Junction}
use Rattle.logic_meaning.specs.declared.junction.Junction.TheVariants.{Conjunction, Disjunction}
use Rattle.formula_laws.proofs.Iff.{both_ways, turn_round}
use Rattle.formula_laws.proofs.Equivalence.{one_allowed}
use Rattle.formula_laws.proofs.Sizes.{formula_same}
use Rattle.logic_meaning.specs.Merging.{Joined}
use Rattle.normal_atoms.specs.Computed.{Merging, Settled, Into, Kept}
use Rattle.logic_meaning.specs.AtomKit.{without, tells, beside}
use Rattle.shape_theory.specs.Kit.{Kit}
use Rattle.shape_theory.specs.Orderly.{IsOrderly, AreOrderly}
use Rattle.shape_theory.specs.Pass.{Parts, Closed, Open, settles, first_answer, close, opened, closed_if, atom_or, pushed_unless, where_merged, decided, with_one, by_decision, with_atom, has, with_other, with_piece, with_pieces, with_member, with_atom_first, with_atoms, with_passed, known, is_free, quantified, pass, others}
use Rattle.logic_meaning.specs.AtomsFirst.{ones}
use Rattle.shape_theory.proofs.FreeTests.{NamesTold, not_free}
use Rattle.shape_theory.proofs.Keeps.{Any, MergesWithin, HasAtom, IsWithin, AreWithin, PartsWithin, PiecesWithin, FreeIn, wider, piece_within, split_within, atom_first_within, passed_within, atoms_within, pass_within, first, rest, start}
use Rattle.shape_theory.proofs.Joining.{Nothing, Settling, same, along_right, along_left, group, swap, exchange, again, nothing_more, settled_left, settled_right}

-- Q, or its negation
abbrev pub SaysSo : Bool → Type 0 → Type 0
SaysSo true Q = Q
SaysSo false Q = ¬ Q

module _ {A P : Type 0} (kit : Kit A) (Holds : A → Type 0) (Mentions : A → ℕ → Type 0) (says : A → P → Type 0) (move : P → ℕ → ℤ → ℕ → P) (c : Context) (OfTheory : P → Type 0) where
  -- what the functions of atoms owe to truth, for atoms with Holds at the points of the theory
  pub record Truthful : Type 0 where
    pub told : (a : A) → Holds a → (p : P) → OfTheory p → says a p ⊎ (¬ (says a p))
    pub decides : (k a : A) (b : Bool) → Holds k → Holds a → kit.decides k a ≡ Some b → (p : P) → OfTheory p → says k p → SaysSo b (says a p)
    pub stays : (a : A) → Holds a → Holds (kit.opposite a)
    pub opposite : (a : A) → Holds a → (p : P) → OfTheory p → ¬ (says a p) → says (kit.opposite a) p
    pub settled : (j : Junction) (a b : A) → Holds a → Holds b → kit.merge j a b ≡ Settled → (p : P) → OfTheory p → Joined j (says a p) (says b p) ↔ Settling j
    pub into : (j : Junction) (a b d : A) → Holds a → Holds b → kit.merge j a b ≡ Into d → (p : P) → OfTheory p → says d p ↔ Joined j (says a p) (says b p)
    pub moved : (p : P) (x : ℕ) (k : ℤ) (m : ℕ) → OfTheory p → Allowed c m → OfTheory (move p x k m)
    pub steady : (a : A) (x : ℕ) → kit.contains a x ≡ false → (p : P) (k : ℤ) (m : ℕ) → OfTheory p → Allowed c m → says a p → says a (move p x k m)
    pub unused : (f : Formula A ℕ) (x : ℕ) → ¬ (Free Mentions f x) → (p : P) (k : ℤ) (m : ℕ) → OfTheory p → Allowed c m → True says move c f p ↔ True says move c f (move p x k m)
    pub same : (a b : A) → kit.same a b ≡ true → a ≡ b

  module _ (within : MergesWithin kit Holds Mentions) (names : NamesTold kit Mentions) (laws : Truthful) where
    abbrev T : Formula A ℕ → P → Type 0
    T f p = True says move c f p

    abbrev Hold : List A → Type 0
    Hold us = EachOf (HasAtom kit Holds Mentions within names Any) us

    -- the list on the way as a formula
    abbrev formula_of : Junction → Parts A → Formula A ℕ
    formula_of j Closed = absorbing j
    formula_of j (Open us gs) = joined j (ones us gs)

    -- ---- constants and members

    also_true : (j : Junction) (f : Formula A ℕ) (fs : Formulas A ℕ) (p : P) → T (joined j (also f fs)) p ↔ Joined j (T f p) (T (joined j fs) p)
    also_true Conjunction f fs p = same
    also_true Disjunction f fs p = same

    absorbing_true : (j : Junction) (p : P) → T (absorbing j) p ↔ Settling j
    absorbing_true Conjunction p = same
    absorbing_true Disjunction p = same

    neutral_true : (j : Junction) (p : P) → T (neutral j) p ↔ Nothing j
    neutral_true Conjunction p = same
    neutral_true Disjunction p = same

    none_true : (j : Junction) (p : P) → T (joined j none) p ↔ Nothing j
    none_true Conjunction p = same
    none_true Disjunction p = same

    settled_constant : (j : Junction) (b : Bool) (Q : Type 0) → SaysSo b Q → settles j b ≡ true → Q ↔ Settling j
    settled_constant Conjunction true Q h e = absurd (cc (e))
    settled_constant Conjunction false Q h e = (h, λ t. absurd t)
    settled_constant Disjunction true Q h e = (λ q. tt, λ t. h)
    settled_constant Disjunction false Q h e = absurd (cc (e))

    idle_constant : (j : Junction) (b : Bool) (Q : Type 0) → SaysSo b Q → settles j b ≡ false → Q ↔ Nothing j
    idle_constant Conjunction true Q h e = (λ q. tt, λ t. h)
    idle_constant Conjunction false Q h e = absurd (cc (e))
    idle_constant Disjunction true Q h e = absurd (cc (e))
    idle_constant Disjunction false Q h e = (h, λ t. absurd t)

    -- ---- an atom more

    module _ (p : P) (o : OfTheory p) where
      -- b and a joined before the rest X
      regroup : (j : Junction) (a b : A) (X : Type 0) → Joined j (Joined j (says b p) (says a p)) X ↔ Joined j (says a p) (Joined j (says b p) X)
      regroup j a b X = both_ways (group j (says b p) (says a p) X) (exchange j (says b p) (says a p) X)

      merged_true : (j : Junction) (a b : A) (bs : List A) (gs : Formulas A ℕ) → Holds a → Holds b → (m : Merging A) → kit.merge j b a ≡ m → (r : Option (List A))
          → T (formula_of j (opened r gs)) p ↔ Joined j (says a p) (T (joined j (ones bs gs)) p)
          → T (formula_of j (opened (where_merged m b bs r) gs)) p ↔ Joined j (says a p) (Joined j (says b p) (T (joined j (ones bs gs)) p))
      merged_true j a b bs gs h k Settled e r i =
          both_ways (absorbing_true j p) (both_ways (settled_left j _ (T (joined j (ones bs gs)) p) (laws.settled j b a k h e p o)) (regroup j a b (T (joined j (ones bs gs)) p)))
      merged_true j a b bs gs h k (Into d) e r i =
          both_ways (also_true j (One d) (ones bs gs) p) (both_ways (along_left j (T (joined j (ones bs gs)) p) (laws.into j b a d k h e p o)) (regroup j a b (T (joined j (ones bs gs)) p)))
      merged_true j a b bs gs h k Kept e None i =
          both_ways (absorbing_true j p)
          (both_ways (settled_right j (says b p) _ (both_ways (turn_round i) (absorbing_true j p))) (exchange j (says b p) (says a p) (T (joined j (ones bs gs)) p)))
      merged_true j a b bs gs h k Kept e (Some cs) i =
          both_ways (also_true j (One b) (ones cs gs) p) (both_ways (along_right j (says b p) i) (exchange j (says b p) (says a p) (T (joined j (ones bs gs)) p)))

      one_true : (j : Junction) (a : A) (us : List A) (gs : Formulas A ℕ) → Holds a → Hold us → T (formula_of j (opened (with_one kit j a us) gs)) p ↔ Joined j (says a p) (T (joined j (ones us gs)) p)
      one_true j a [] gs h k = also_true j (One a) gs p
      one_true j a (b ∷ bs) gs h k =
          both_ways (merged_true j a b bs gs h k.0.holds (kit.merge j b a) refl (with_one kit j a bs) (one_true j a bs gs h k.1)) (along_right j (says a p) (turn_round (also_true j (One b) (ones bs gs) p)))

      constant_true : (j : Junction) (a : A) (b : Bool) (us : List A) (gs : Formulas A ℕ) → SaysSo b (says a p) → (t : Bool) → settles j b ≡ t → T (formula_of j (closed_if t us gs)) p ↔ Joined j (says a p) (T (joined j (ones us gs)) p)
      constant_true j a b us gs h true e = both_ways (absorbing_true j p) (settled_left j (says a p) _ (settled_constant j b (says a p) h e))
      constant_true j a b us gs h false e = nothing_more j (says a p) _ (idle_constant j b (says a p) h e)

      -- ---- what the known atoms decide

      abbrev Known : List A → Type 0
      Known ks = EachOf (λ k. says k p) ks

      abbrev DecidedSo : Option Bool → A → Type 0
      DecidedSo None a = Unit {0}
      DecidedSo (Some b) a = SaysSo b (says a p)

      first_so : (a : A) (u v : Option Bool) → DecidedSo u a → DecidedSo v a → DecidedSo (first_answer u v) a
      first_so a (Some b) v h k = h
      first_so a None v h k = k

      one_so : (k a : A) (u : Option Bool) → Holds k → Holds a → says k p → kit.decides k a ≡ u → DecidedSo u a
      one_so k a None h i t e = tt
      one_so k a (Some b) h i t e = laws.decides k a b h i e p o t

      decided_so : (ks : List A) (a : A) → EachOf Holds ks → Holds a → Known ks → DecidedSo (decided kit ks a) a
      decided_so [] a h i t = tt
      decided_so (k ∷ ks) a h i t = first_so a (kit.decides k a) (decided kit ks a) (one_so k a (kit.decides k a) h.0 i t.0 refl) (decided_so ks a h.1 i t.1)

      decision_true : (j : Junction) (a : A) (us : List A) (gs : Formulas A ℕ) → Holds a → Hold us → (u : Option Bool) → DecidedSo u a → T (formula_of j (by_decision kit u j a us gs)) p ↔ Joined j (says a p) (T (joined j (ones us gs)) p)
      decision_true j a us gs h k (Some b) t = constant_true j a b us gs t (settles j b) refl
      decision_true j a us gs h k None t = one_true j a us gs h k

      -- ---- members

      settled_more : (j : Junction) (Q : Type 0) → T (absorbing j) p ↔ Joined j Q (T (absorbing j) p)
      settled_more j Q = both_ways (absorbing_true j p) (settled_right j Q _ (absorbing_true j p))

      -- a member before the others
      lifted : (j : Junction) (Q : Type 0) (us : List A) (gs hs : Formulas A ℕ) → T (joined j hs) p ↔ Joined j Q (T (joined j gs) p) → T (joined j (ones us hs)) p ↔ Joined j Q (T (joined j (ones us gs)) p)
      lifted j Q [] gs hs i = i
      lifted j Q (a ∷ us) gs hs i =
          both_ways (also_true j (One a) (ones us hs) p)
          (both_ways (along_right j (says a p) (lifted j Q us gs hs i)) (both_ways (exchange j (says a p) Q (T (joined j (ones us gs)) p)) (along_right j Q (turn_round (also_true j (One a) (ones us gs) p)))))

      last_true : (j : Junction) (f : Formula A ℕ) (gs : Formulas A ℕ) → T (joined j (append gs (also f none))) p ↔ Joined j (T f p) (T (joined j gs) p)
      last_true j f none = also_true j f none p
      last_true j f (also g gs) =
          both_ways (also_true j g (append gs (also f none)) p)
          (both_ways (along_right j (T g p) (last_true j f gs)) (both_ways (exchange j (T g p) (T f p) (T (joined j gs) p)) (along_right j (T f p) (turn_round (also_true j g gs p)))))

      there_true : (j : Junction) (f : Formula A ℕ) (gs : Formulas A ℕ) → has kit gs f ≡ true → T (joined j gs) p ↔ Joined j (T f p) (T (joined j gs) p)
      there_true j f none e = absurd (cc (e))
      there_true j f (also g gs) e = split (λ k. there_true j f gs k) (same_formula kit.same nat_eq g f) refl e
        where
          split : (has kit gs f ≡ true → T (joined j gs) p ↔ Joined j (T f p) (T (joined j gs) p)) → (t : Bool) → same_formula kit.same nat_eq g f ≡ t → (t || has kit gs f) ≡ true
              → T (joined j (also g gs)) p ↔ Joined j (T f p) (T (joined j (also g gs)) p)
          split i true h k =
              let e = formula_same kit.same nat_eq laws.same (λ x y q. eqb-true x y q) g f h in
              let F : Formula A ℕ → Type 0 = λ u. T (joined j (also g gs)) p ↔ Joined j (T u p) (T (joined j (also g gs)) p) in
              subst F e
              (both_ways (also_true j g gs p) (both_ways (again j (T g p) (T (joined j gs) p)) (along_right j (T g p) (turn_round (also_true j g gs p)))))
          split i false h k =
              both_ways (also_true j g gs p)
              (both_ways (along_right j (T g p) (i k)) (both_ways (exchange j (T g p) (T f p) (T (joined j gs) p)) (along_right j (T f p) (turn_round (also_true j g gs p)))))

      pushed_true : (j : Junction) (f : Formula A ℕ) (gs : Formulas A ℕ) (b : Bool) → has kit gs f ≡ b → T (joined j (pushed_unless b f gs)) p ↔ Joined j (T f p) (T (joined j gs) p)
      pushed_true j f gs true e = there_true j f gs e
      pushed_true j f gs false e = last_true j f gs

      abbrev Within : Parts A → Type 0
      Within s = PartsWithin kit Holds Mentions within names Any s

      other_true : (j : Junction) (f : Formula A ℕ) (s : Parts A) → T (formula_of j (with_other kit f s)) p ↔ Joined j (T f p) (T (formula_of j s) p)
      other_true j f Closed = settled_more j (T f p)
      other_true j f (Open us gs) = lifted j (T f p) us gs (pushed_unless (has kit gs f) f gs) (pushed_true j f gs (has kit gs f) refl)

      module _ (ks : List A) (hold : EachOf Holds ks) (known_true : Known ks) where
        atom_true : (j : Junction) (a : A) (s : Parts A) → Holds a → Within s → T (formula_of j (with_atom kit j ks a s)) p ↔ Joined j (says a p) (T (formula_of j s) p)
        atom_true j a Closed h k = settled_more j (says a p)
        atom_true j a (Open us gs) h k = decision_true j a us gs h k.0 (decided kit ks a) (decided_so ks a hold h known_true)

        piece_true : (j : Junction) (f : Formula A ℕ) (s : Parts A) → IsOrderly Holds f → Within s → T (formula_of j (with_piece kit j ks f s)) p ↔ Joined j (T f p) (T (formula_of j s) p)
        piece_true j (One a) s h k = atom_true j a s h k
        piece_true j f s h k = other_true j f s

        pieces_true : (j : Junction) (fs : Formulas A ℕ) (s : Parts A) → AreWithin kit Holds Mentions within names Any fs → Within s → T (formula_of j (with_pieces kit j ks fs s)) p ↔ Joined j (T (joined j fs) p) (T (formula_of j s) p)
        pieces_true j none s h k = nothing_more j (T (joined j none) p) (T (formula_of j s) p) (none_true j p)
        pieces_true j (also f fs) s h k =
            let g = first kit Holds Mentions within names Any f fs h in
            let X = T (formula_of j s) p in
            let J = T (joined j fs) p in
            both_ways (pieces_true j fs (with_piece kit j ks f s) (rest kit Holds Mentions within names Any f fs h) (piece_within kit Holds Mentions within names Any j ks f s g k))
            (both_ways (along_right j J (piece_true j f s g.orderly k))
            (both_ways (exchange j J (T f p) X) (both_ways (turn_round (group j (T f p) J X)) (along_left j X (turn_round (also_true j f fs p))))))

        -- what the pieces of a formula say of it
        abbrev PiecesSo : Junction → Option (Formulas A ℕ) → Type 0 → Type 0
        PiecesSo j None Q = Q ↔ Settling j
        PiecesSo j (Some fs) Q = Q ↔ T (joined j fs) p

        alone_both : {Q : Type 0} → Q ↔ (Q × Unit {0})
        alone_both = (λ t. (t, tt), λ t. t.0)

        alone_either : {Q : Type 0} → Q ↔ (Q ⊎ ⊥)
        alone_either = (λ t. inl t, ⊎_elim (λ t. t) absurd)

        split_so : (j : Junction) (f : Formula A ℕ) → PiecesSo j (pieces_of j f) (T f p)
        split_so Conjunction Yes = same
        split_so Conjunction No = same
        split_so Conjunction (And fs) = same
        split_so Conjunction f = alone_both
        split_so Disjunction Yes = same
        split_so Disjunction No = same
        split_so Disjunction (Or fs) = same
        split_so Disjunction f = alone_either

        member_true : (j : Junction) (u : Option (Formulas A ℕ)) (Q : Type 0) (s : Parts A) → PiecesSo j u Q → PiecesWithin kit Holds Mentions within names Any u → Within s → T (formula_of j (with_member kit j ks u s)) p ↔ Joined j Q (T (formula_of j s) p)
        member_true j None Q s e h k = both_ways (absorbing_true j p) (settled_left j Q _ e)
        member_true j (Some fs) Q s e h k = both_ways (pieces_true j fs s h k) (along_left j (T (formula_of j s) p) (turn_round e))

        -- the truth of a list's atoms, and of its other members
        abbrev with_atom_say : Junction → Formula A ℕ → Type 0 → Type 0
        with_atom_say j (One a) Q = Joined j (says a p) Q
        with_atom_say j f Q = Q

        abbrev with_other_say : Junction → Formula A ℕ → Type 0 → Type 0
        with_other_say j (One a) Q = Q
        with_other_say j f Q = Joined j (T f p) Q

        abbrev AtomsSay : Junction → Formulas A ℕ → Type 0
        AtomsSay j none = Nothing j
        AtomsSay j (also f fs) = with_atom_say j f (AtomsSay j fs)

        abbrev OthersSay : Junction → Formulas A ℕ → Type 0
        OthersSay j none = Nothing j
        OthersSay j (also f fs) = with_other_say j f (OthersSay j fs)

        parted_more : (j : Junction) (f : Formula A ℕ) (Q R : Type 0) → Joined j (T f p) (Joined j Q R) ↔ Joined j (with_other_say j f Q) (with_atom_say j f R)
        parted_more j (One a) Q R = exchange j (says a p) Q R
        parted_more j f Q R = turn_round (group j (T f p) Q R)

        parted : (j : Junction) (fs : Formulas A ℕ) → T (joined j fs) p ↔ Joined j (OthersSay j fs) (AtomsSay j fs)
        parted j none = both_ways (none_true j p) (nothing_more j (Nothing j) (Nothing j) same)
        parted j (also f fs) = both_ways (also_true j f fs p) (both_ways (along_right j (T f p) (parted j fs)) (parted_more j f (OthersSay j fs) (AtomsSay j fs)))

        atom_first_true : (j : Junction) (f : Formula A ℕ) (s : Parts A) → IsOrderly Holds f → Within s → T (formula_of j (with_atom_first kit j ks f s)) p ↔ with_atom_say j f (T (formula_of j s) p)
        atom_first_true j (One a) s h k = atom_true j a s h k
        atom_first_true j f s h k = same

        atom_moves : (j : Junction) (f : Formula A ℕ) (Q R : Type 0) → Joined j Q (with_atom_say j f R) ↔ Joined j (with_atom_say j f Q) R
        atom_moves j (One a) Q R = both_ways (exchange j Q (says a p) R) (turn_round (group j (says a p) Q R))
        atom_moves j f Q R = same

        atoms_true : (j : Junction) (fs : Formulas A ℕ) (s : Parts A) → AreWithin kit Holds Mentions within names Any fs → Within s → T (formula_of j (with_atoms kit j ks fs s)) p ↔ Joined j (AtomsSay j fs) (T (formula_of j s) p)
        atoms_true j none s h k = nothing_more j (Nothing j) (T (formula_of j s) p) same
        atoms_true j (also f fs) s h k =
            let g = first kit Holds Mentions within names Any f fs h in
            both_ways (atoms_true j fs (with_atom_first kit j ks f s) (rest kit Holds Mentions within names Any f fs h) (atom_first_within kit Holds Mentions within names Any j ks f s g k))
            (both_ways (along_right j (AtomsSay j fs) (atom_first_true j f s g.orderly k)) (atom_moves j f (AtomsSay j fs) (T (formula_of j s) p)))

        other_moves : (j : Junction) (f : Formula A ℕ) (Q R : Type 0) → Joined j Q (with_other_say j f R) ↔ Joined j (with_other_say j f Q) R
        other_moves j (One a) Q R = same
        other_moves j f Q R = both_ways (exchange j Q (T f p) R) (turn_round (group j (T f p) Q R))

        -- a member that was passed has its truth, or the list is settled without it
        passed_true : (j : Junction) (f g : Formula A ℕ) (s : Parts A) → (T g p ↔ T f p) ⊎ (T (formula_of j s) p ↔ Settling j) → IsWithin kit Holds Mentions within names Any g → Within s
            → T (formula_of j (with_passed kit j ks f g s)) p ↔ with_other_say j f (T (formula_of j s) p)
        passed_true j (One a) g s e h k = same
        passed_true j f g s e h k =
            both_ways (member_true j (pieces_of j g) (T g p) s (split_so j g) (split_within kit Holds Mentions within names Any j g h) k)
            (⊎_elim (λ i. along_left j (T (formula_of j s) p) i) (λ i. both_ways (turn_round (settled_right j (T g p) _ i)) (settled_right j (T f p) _ i)) e)

        tells_or : (j : Junction) (a : A) → Holds a → says (tells kit.opposite j a) p ⊎ (says a p ↔ Settling j)
        tells_or Conjunction a h = ⊎_elim (λ t. inl t) (λ n. inr (n, λ t. absurd t)) (laws.told a h p o)
        tells_or Disjunction a h = ⊎_elim (λ t. inr (λ u. tt, λ u. t)) (λ n. inl (laws.opposite a h p o n)) (laws.told a h p o)

        beside_known : (j : Junction) (us : List A) (gs : Formulas A ℕ) → Hold us → Known (beside kit.opposite j us ks) ⊎ (T (joined j (ones us gs)) p ↔ Settling j)
        beside_known j [] gs h = inl known_true
        beside_known j (a ∷ us) gs h =
            ⊎_elim
            (λ t. ⊎_elim (λ u. inl (t, u)) (λ i. inr (both_ways (also_true j (One a) (ones us gs) p) (turn_round (settled_right j (says a p) _ i)))) (beside_known j us gs h.1))
            (λ i. inr (both_ways (also_true j (One a) (ones us gs) p) (turn_round (settled_left j (says a p) _ i))))
            (tells_or j a h.0.holds)

        known_or : (j : Junction) (s : Parts A) → Within s → Known (known kit j s ks) ⊎ (T (formula_of j s) p ↔ Settling j)
        known_or j Closed k = inr (absorbing_true j p)
        known_or j (Open us gs) k = beside_known j us gs k.0

      from_true : (j : Junction) (fs : Formulas A ℕ) → T (from_pieces j (Some fs)) p ↔ T (joined j fs) p
      from_true j none = both_ways (neutral_true j p) (turn_round (none_true j p))
      from_true Conjunction (also f none) = (λ t. (t, tt), λ t. t.0)
      from_true Disjunction (also f none) = (λ t. inl t, ⊎_elim (λ t. t) absurd)
      from_true j (also f (also g fs)) = same

      close_true : (j : Junction) (s : Parts A) → T (close j s) p ↔ T (formula_of j s) p
      close_true j Closed = same
      close_true j (Open us gs) = from_true j (ones us gs)

      atom_or_true : (a : A) (u : Option Bool) → DecidedSo u a → T (atom_or a u) p ↔ says a p
      atom_or_true a (Some true) h = (λ t. h, λ t. tt)
      atom_or_true a (Some false) h = (λ t. absurd t, λ t. h t)
      atom_or_true a None h = same

    -- ---- the pass

    holds_tells : (j : Junction) (a : A) → Holds a → Holds (tells kit.opposite j a)
    holds_tells Conjunction a h = h
    holds_tells Disjunction a h = laws.stays a h

    holds_beside : (j : Junction) (us ks : List A) → Hold us → EachOf Holds ks → EachOf Holds (beside kit.opposite j us ks)
    holds_beside j [] ks h k = k
    holds_beside j (a ∷ us) ks h k = (holds_tells j a h.0.holds, holds_beside j us ks h.1 k)

    holds_known : (j : Junction) (s : Parts A) (ks : List A) → PartsWithin kit Holds Mentions within names Any s → EachOf Holds ks → EachOf Holds (known kit j s ks)
    holds_known j Closed ks h k = k
    holds_known j (Open us gs) ks h k = holds_beside j us ks h.0 k

    holds_without : (x : ℕ) (ks : List A) → EachOf Holds ks → EachOf Holds (without kit.contains x ks)
    holds_without x [] h = tt
    holds_without x (k ∷ ks) h = split (kit.contains k x) (holds_without x ks h.1)
      where
        split : (b : Bool) → EachOf Holds (without kit.contains x ks) → EachOf Holds (if b then without kit.contains x ks else k ∷ without kit.contains x ks)
        split true i = i
        split false i = (h.0, i)

    known_without : (p : P) (x : ℕ) (k : ℤ) (m : ℕ) (ks : List A) → OfTheory p → Allowed c m → EachOf (λ a. says a p) ks → EachOf (λ a. says a (move p x k m)) (without kit.contains x ks)
    known_without p x k m [] o l h = tt
    known_without p x k m (a ∷ ks) o l h = split (kit.contains a x) refl (known_without p x k m ks o l h.1)
      where
        split : (b : Bool) → kit.contains a x ≡ b → EachOf (λ a. says a (move p x k m)) (without kit.contains x ks) → EachOf (λ a. says a (move p x k m)) (if b then without kit.contains x ks else a ∷ without kit.contains x ks)
        split true e i = i
        split false e i = (laws.steady a x e p k m o l h.0, i)

    -- the name may be moved in a quantified formula; where it is not free the quantifier goes
    ex_true : (x : ℕ) (f g : Formula A ℕ) (p : P) → OfTheory p → ((k : ℤ) (m : ℕ) → Allowed c m → T g (move p x k m) ↔ T f (move p x k m)) → (b : Bool) → is_free kit x g ≡ b → T (quantified (Ex x) b g) p ↔ T (Ex x f) p
    ex_true x f g p o i true e = (λ t. (t.0, t.1, t.2, (i t.0 t.1 t.2).0 t.3), λ t. (t.0, t.1, t.2, (i t.0 t.1 t.2).1 t.3))
    ex_true x f g p o i false e =
        let u = laws.unused g x (not_free kit Mentions names x g e) p in (
          λ t. (pos 0, 1, one_allowed c, (i (pos 0) 1 (one_allowed c)).0 ((u (pos 0) 1 o (one_allowed c)).0 t)),
          λ t. (u t.0 t.1 o t.2).1 ((i t.0 t.1 t.2).1 t.3),
        )

    all_true : (x : ℕ) (f g : Formula A ℕ) (p : P) → OfTheory p → ((k : ℤ) (m : ℕ) → Allowed c m → T g (move p x k m) ↔ T f (move p x k m)) → (b : Bool) → is_free kit x g ≡ b → T (quantified (All x) b g) p ↔ T (All x f) p
    all_true x f g p o i true e = (λ t k m l. (i k m l).0 (t k m l), λ t k m l. (i k m l).1 (t k m l))
    all_true x f g p o i false e =
        let u = laws.unused g x (not_free kit Mentions names x g e) p in (
          λ t k m l. (i k m l).0 ((u k m o l).0 t),
          λ t. (u (pos 0) 1 o (one_allowed c)).1 ((i (pos 0) 1 (one_allowed c)).1 (t (pos 0) 1 (one_allowed c))),
        )

    any_within : (f g : Formula A ℕ) → IsWithin kit Holds Mentions within names (FreeIn kit Holds Mentions within names f) g → IsWithin kit Holds Mentions within names Any g
    any_within f g h = wider kit Holds Mentions within names (FreeIn kit Holds Mentions within names f) Any g (λ x t. tt) h

    -- the members of a list: first the atoms, then the others
    members_true : (j : Junction) (fs : Formulas A ℕ) (ks : List A) (p : P) (o : OfTheory p) → AreOrderly Holds fs → (h : EachOf Holds ks) (t : EachOf (λ k. says k p) ks)
        → ((s : Parts A) → PartsWithin kit Holds Mentions within names Any s → T (formula_of j (others kit fs j ks s)) p ↔ Joined j (OthersSay p o ks h t j fs) (T (formula_of j s) p))
        → T (close j (others kit fs j ks (with_atoms kit j ks fs (Open [] none)))) p ↔ T (joined j fs) p
    members_true j fs ks p o d h t i =
        let s = with_atoms kit j ks fs (Open [] none) in
        let w : AreWithin kit Holds Mentions within names Any fs = record { orderly = d; names = λ x u. tt } in
        let z : PartsWithin kit Holds Mentions within names Any (Open [] none) = start kit Holds Mentions within names Any in
        both_ways (close_true p o j (others kit fs j ks s))
        (both_ways (i s (atoms_within kit Holds Mentions within names Any j ks fs (Open [] none) w z))
        (both_ways (along_right j (OthersSay p o ks h t j fs) (both_ways (atoms_true p o ks h t j fs (Open [] none) w z) (both_ways (swap j (AtomsSay p o ks h t j fs) (T (joined j none) p)) (turn_round (nothing_more j (T (joined j none) p) (AtomsSay p o ks h t j fs) (none_true j p))))))
        (turn_round (parted p o ks h t j fs))))

    mutual
      pub pass_true : (f : Formula A ℕ) (ks : List A) (p : P) → OfTheory p → IsOrderly Holds f → EachOf Holds ks → EachOf (λ k. says k p) ks → T (pass kit f ks) p ↔ T f p
      pass_true Yes ks p o d h t = same
      pass_true No ks p o d h t = same
      pass_true (One a) ks p o d h t = atom_or_true p o a (decided kit ks a) (decided_so p o ks a h d t)
      pass_true (Not f) ks p o d h t = absurd d
      pass_true (And fs) ks p o d h t = members_true Conjunction fs ks p o d.1 h t (λ s w. others_true fs Conjunction ks s p o d.1 h t w)
      pass_true (Or fs) ks p o d h t = members_true Disjunction fs ks p o d.1 h t (λ s w. others_true fs Disjunction ks s p o d.1 h t w)
      pass_true (Impl f g) ks p o d h t = absurd d
      pass_true (Repl f g) ks p o d h t = absurd d
      pass_true (Equiv f g) ks p o d h t = absurd d
      pass_true (Ex x f) ks p o d h t =
          ex_true x f (pass kit f (without kit.contains x ks)) p o
          (λ k m l. pass_true f (without kit.contains x ks) (move p x k m) (laws.moved p x k m o l) d (holds_without x ks h) (known_without p x k m ks o l t))
          (is_free kit x (pass kit f (without kit.contains x ks))) refl
      pass_true (All x f) ks p o d h t =
          all_true x f (pass kit f (without kit.contains x ks)) p o
          (λ k m l. pass_true f (without kit.contains x ks) (move p x k m) (laws.moved p x k m o l) d (holds_without x ks h) (known_without p x k m ks o l t))
          (is_free kit x (pass kit f (without kit.contains x ks))) refl

      others_true : (fs : Formulas A ℕ) (j : Junction) (ks : List A) (s : Parts A) (p : P) (o : OfTheory p) → AreOrderly Holds fs → (h : EachOf Holds ks) (t : EachOf (λ k. says k p) ks) → PartsWithin kit Holds Mentions within names Any s
          → T (formula_of j (others kit fs j ks s)) p ↔ Joined j (OthersSay p o ks h t j fs) (T (formula_of j s) p)
      others_true none j ks s p o d h t w = nothing_more j (Nothing j) (T (formula_of j s) p) same
      others_true (also f fs) j ks s p o d h t w =
          let q = known kit j s ks in
          let g = pass kit f q in
          let v = any_within f g (pass_within kit Holds Mentions within names f q d.0) in
          let e : (T g p ↔ T f p) ⊎ (T (formula_of j s) p ↔ Settling j) = ⊎_elim (λ k. inl (pass_true f q p o d.0 (holds_known j s ks w h) k)) (λ k. inr k) (known_or p o ks h t j s w) in
          both_ways (others_true fs j ks (with_passed kit j ks f g s) p o d.1 h t (passed_within kit Holds Mentions within names Any j ks f g s v w))
          (both_ways (along_right j (OthersSay p o ks h t j fs) (passed_true p o ks h t j f g s e v w)) (other_moves p o ks h t j f (OthersSay p o ks h t j fs) (T (formula_of j s) p)))
