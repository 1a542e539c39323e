-- Where the pass takes no node away, its formula is Reduced.
use Rattle.std.proofs.Common.{◌≡◌, ℕ, ◌+◌, ◌≤◌, ◌<◌, Bool, true, false, nat_eq, refl, sym, subst, ap, ◌∙◌, arith, Option, None, Some, List, [], ◌∷◌, ◌++◌, eq-eqb}
use Rattle.std.specs.Prelude.{◌||◌}
use Rattle.logic_meaning.specs.Formula.{Formula, Formulas, Yes, No, One, Not, And, Or, Impl, Repl, Equiv, Ex, All, none, also}
use Rattle.logic_meaning.specs.Every.{Free}
use Rattle.logic_meaning.specs.Some.{EachOf}
use Rattle.logic_meaning.specs.Sizes.{same_formula}
use Rattle.logic_meaning.specs.Fold.{joined, neutral, absorbing, append, pieces_of, from_pieces}
use Rattle.logic_meaning.specs.declared.junction.Junction.{Junction}
use Rattle.logic_meaning.specs.declared.junction.Junction.TheVariants.{Conjunction, Disjunction}
use Rattle.formula_laws.proofs.Sizes.{formula_alike}
use Rattle.normal_atoms.specs.Computed.{Merging, Settled, Into, Kept}
use Rattle.logic_meaning.specs.AtomKit.{without, beside}
use Rattle.shape_theory.specs.Kit.{Kit}
use Rattle.logic_meaning.specs.Members.{AreTwo}
use Rattle.logic_meaning.specs.Reduced.{atoms_of, MayStand, under, HasNone, AreDifferent, AreKept, IsUndecided, ReducedInside, MembersReduced, Reduced}
use Rattle.shape_theory.specs.Orderly.{IsOrderly, AreOrderly}
use Rattle.logic_meaning.specs.Measure.{size, members_size}
use Rattle.shape_theory.specs.NodeMeasure.{node_measure}
use Rattle.shape_theory.specs.Pass.{Parts, Closed, Open, first_answer, close, opened, settles, atom_or, pushed_unless, where_merged, decided, with_one, by_decision, with_atom, has, with_other, with_member, with_atom_first, with_atoms, with_passed, known, is_free, quantified, pass, others}
use Rattle.logic_meaning.specs.AtomsFirst.{ones}
use Rattle.shape_theory.proofs.FreeTests.{NamesTold, told_free}
use Rattle.shape_theory.proofs.Keeps.{Any, MergesWithin, HasAtom, IsWithin, AreWithin, PartsWithin, split_within, atom_first_within, passed_within, first, rest, start}
use Rattle.shape_theory.proofs.Sizes.{cost, total, atoms_total, weight, members_is, ones_is, closed_if_size, atom_cost, atoms_cost, other_cost, others_cost, costs, atom_first_size, atoms_size, last_size, pieces_cost, inner_cost, member_size, passed_size, least, least_members, passed_any, begun, all_orderly, begun_within, begun_size, IsNoLarger, pass_smaller, others_smaller}
use Rattle.shape_theory.proofs.Nodes.{node_laws, member_nodes}

-- no atom
abbrev NoAtom : {A : Type 0} → Formula A ℕ → Type 0
NoAtom (One a) = ⊥
NoAtom f = Unit {0}

module _ {A : Type 0} (kit : Kit A) (P : A → Type 0) (Mentions : A → ℕ → Type 0) (within : MergesWithin kit P Mentions) (names : NamesTold kit Mentions)
    (self : (j : Junction) (a : A) → P a → ¬ (kit.merge j a a ≡ Kept)) (alike : (a : A) → kit.same a a ≡ true) where
  abbrev pub Keeps : Junction → A → A → Type 0
  Keeps j a b = kit.merge j a b ≡ Kept

  abbrev pub Undecided : A → A → Type 0
  Undecided k a = kit.decides k a ≡ None

  abbrev Within : Parts A → Type 0
  Within s = PartsWithin kit P Mentions within names Any s

  abbrev w : Junction → Parts A → ℕ
  w j s = weight kit P Mentions within names node_measure 1 (node_laws kit P) j s

  abbrev nodes_of : Formula A ℕ → ℕ
  nodes_of f = size node_measure f

  -- ---- an atom that takes no node away comes last

  record Placed (j : Junction) (a : A) (us : List A) (r : Option (List A)) : Type 0 where
    is : r ≡ Some (us ++ a ∷ [])
    apart : EachOf (λ b. Keeps j b a) us

  placed_more : (j : Junction) (a b : A) (bs : List A) (gs : Formulas A ℕ) (u : Merging A) → kit.merge j b a ≡ u → (r : Option (List A))
      → (w j (opened r gs) ≡ 1 + (atoms_total kit P Mentions within names node_measure 1 (node_laws kit P) j bs + total kit P Mentions within names node_measure 1 (node_laws kit P) j gs) → Placed j a bs r)
      → w j (opened (where_merged u b bs r) gs) ≡ 1 + ((1 + atoms_total kit P Mentions within names node_measure 1 (node_laws kit P) j bs) + total kit P Mentions within names node_measure 1 (node_laws kit P) j gs) → Placed j a (b ∷ bs) (where_merged u b bs r)
  placed_more j a b bs gs Settled e r i t = absurd (omega arith)
  placed_more j a b bs gs (Into d) e r i t = absurd (omega arith)
  placed_more j a b bs gs Kept e None i t = absurd (omega arith)
  placed_more j a b bs gs Kept e (Some cs) i t =
      let h = i (omega arith) in
      let q : cs ≡ bs ++ a ∷ [] = let k = h.is in cc in
      record { is = ap (λ xs. Some (b ∷ xs)) q; apart = (e, h.apart) }

  one_placed : (j : Junction) (a : A) (us : List A) (gs : Formulas A ℕ) → w j (opened (with_one kit j a us) gs) ≡ 1 + (atoms_total kit P Mentions within names node_measure 1 (node_laws kit P) j us + total kit P Mentions within names node_measure 1 (node_laws kit P) j gs) → Placed j a us (with_one kit j a us)
  one_placed j a [] gs t = record { is = refl; apart = tt }
  one_placed j a (b ∷ bs) gs t = placed_more j a b bs gs (kit.merge j b a) refl (with_one kit j a bs) (λ e. one_placed j a bs gs e) t

  none_decides : (ks : List A) (a : A) → decided kit ks a ≡ None → IsUndecided Keeps Undecided kit.opposite kit.contains Mentions ks a
  none_decides [] a e = tt
  none_decides (k ∷ ks) a e = split (kit.decides k a) refl e (λ q. none_decides ks a q)
    where
      split : (o : Option Bool) → kit.decides k a ≡ o → first_answer o (decided kit ks a) ≡ None → (decided kit ks a ≡ None → IsUndecided Keeps Undecided kit.opposite kit.contains Mentions ks a) → Undecided k a × IsUndecided Keeps Undecided kit.opposite kit.contains Mentions ks a
      split (Some b) h q i = absurd (cc (q))
      split None h q i = (h, i q)

  record AtomPlaced (j : Junction) (ks : List A) (a : A) (us : List A) (gs : Formulas A ℕ) (s : Parts A) : Type 0 where
    is : s ≡ Open (us ++ a ∷ []) gs
    apart : EachOf (λ b. Keeps j b a) us
    undecided : IsUndecided Keeps Undecided kit.opposite kit.contains Mentions ks a

  atom_placed : (j : Junction) (ks : List A) (a : A) (us : List A) (gs : Formulas A ℕ) (o : Option Bool) → decided kit ks a ≡ o → w j (by_decision kit o j a us gs) ≡ 1 + (atoms_total kit P Mentions within names node_measure 1 (node_laws kit P) j us + total kit P Mentions within names node_measure 1 (node_laws kit P) j gs) → AtomPlaced j ks a us gs (by_decision kit o j a us gs)
  atom_placed j ks a us gs (Some b) e t = let h = closed_if_size kit P Mentions within names node_measure 1 (node_laws kit P) j (settles j b) us gs in absurd (omega arith)
  atom_placed j ks a us gs None e t =
      let h = one_placed j a us gs t in
      record { is = ap (λ r. opened r gs) h.is; apart = h.apart; undecided = none_decides ks a e }

  -- ---- the atoms of a list

  record GoodAtoms (j : Junction) (ks us : List A) : Type 0 where
    kept : AreKept Keeps Undecided kit.opposite kit.contains Mentions j us
    undecided : EachOf (λ a. IsUndecided Keeps Undecided kit.opposite kit.contains Mentions ks a) us

  each_last : (F : A → Type 0) (us : List A) (a : A) → EachOf F us → F a → EachOf F (us ++ a ∷ [])
  each_last F [] a h k = (k, tt)
  each_last F (u ∷ us) a h k = (h.0, each_last F us a h.1 k)

  kept_last : (j : Junction) (us : List A) (a : A) → AreKept Keeps Undecided kit.opposite kit.contains Mentions j us → EachOf (λ b. Keeps j b a) us → AreKept Keeps Undecided kit.opposite kit.contains Mentions j (us ++ a ∷ [])
  kept_last j [] a h k = (tt, tt)
  kept_last j (u ∷ us) a h k = (each_last (Keeps j u) us a h.0 k.0, kept_last j us a h.1 k.1)

  good_last : (j : Junction) (ks us : List A) (a : A) → GoodAtoms j ks us → EachOf (λ b. Keeps j b a) us → IsUndecided Keeps Undecided kit.opposite kit.contains Mentions ks a → GoodAtoms j ks (us ++ a ∷ [])
  good_last j ks us a h k l = record { kept = kept_last j us a h.kept k; undecided = each_last (λ b. IsUndecided Keeps Undecided kit.opposite kit.contains Mentions ks b) us a h.undecided l }

  record Begun (j : Junction) (ks : List A) (s : Parts A) : Type 0 where
    atoms : List A
    is : s ≡ Open atoms none
    good : GoodAtoms j ks atoms

  atom_begun : (j : Junction) (ks : List A) (a : A) (s : Parts A) → Begun j ks s → w j (with_atom kit j ks a s) ≡ 1 + w j s → Begun j ks (with_atom kit j ks a s)
  atom_begun j ks a s b =
      let G : Parts A → Type 0 = λ z. w j (with_atom kit j ks a z) ≡ 1 + w j z → Begun j ks (with_atom kit j ks a z) in
      subst G (sym b.is)
      (λ t. let h = atom_placed j ks a b.atoms none (decided kit ks a) refl t in record { atoms = b.atoms ++ a ∷ []; is = h.is; good = good_last j ks b.atoms a b.good h.apart h.undecided })

  first_begun : (j : Junction) (ks : List A) (f : Formula A ℕ) (s : Parts A) → Begun j ks s → w j (with_atom_first kit j ks f s) ≡ atom_cost kit P Mentions within names node_measure 1 (node_laws kit P) j f + w j s → Begun j ks (with_atom_first kit j ks f s)
  first_begun j ks (One a) s b t = atom_begun j ks a s b t
  first_begun j ks f s b t = b

  all_begun : (j : Junction) (ks : List A) (fs : Formulas A ℕ) (s : Parts A) → AreWithin kit P Mentions within names Any fs → Within s → Begun j ks s → w j (with_atoms kit j ks fs s) ≡ atoms_cost kit P Mentions within names node_measure 1 (node_laws kit P) j fs + w j s → Begun j ks (with_atoms kit j ks fs s)
  all_begun j ks none s h k b t = b
  all_begun j ks (also f fs) s h k b t =
      let g = first kit P Mentions within names Any f fs h in
      let z = with_atom_first kit j ks f s in
      let v = atom_first_within kit P Mentions within names Any j ks f s g k in
      let i = atom_first_size kit P Mentions within names node_measure 1 (node_laws kit P) j ks f s g.orderly k in
      let l = atoms_size kit P Mentions within names node_measure 1 (node_laws kit P) j ks fs z (rest kit P Mentions within names Any f fs h) v in
      all_begun j ks fs z (rest kit P Mentions within names Any f fs h) v (first_begun j ks f s b (omega arith)) (omega arith)

  -- ---- the other members

  abbrev Suits : Junction → List A → Formulas A ℕ → Type 0
  Suits j ls none = Unit {0}
  Suits j ls (also g gs) = NoAtom g × MayStand j g × ReducedInside Keeps Undecided kit.opposite kit.contains Mentions g ls × Suits j ls gs

  record Good (j : Junction) (ks : List A) (s : Parts A) : Type 0 where
    atoms : List A
    members : Formulas A ℕ
    is : s ≡ Open atoms members
    good : GoodAtoms j ks atoms
    suits : Suits j (beside kit.opposite j atoms ks) members
    different : AreDifferent members

  suits_last : (j : Junction) (ls : List A) (gs : Formulas A ℕ) (g : Formula A ℕ) → Suits j ls gs → NoAtom g → MayStand j g → ReducedInside Keeps Undecided kit.opposite kit.contains Mentions g ls → Suits j ls (append gs (also g none))
  suits_last j ls none g h n m r = (n, m, r, tt)
  suits_last j ls (also f gs) g h n m r = (h.0, h.1, h.2, suits_last j ls gs g h.3 n m r)

  none_last : (f : Formula A ℕ) (gs : Formulas A ℕ) (g : Formula A ℕ) → HasNone f gs → ¬ (f ≡ g) → HasNone f (append gs (also g none))
  none_last f none g h n = (n, tt)
  none_last f (also d gs) g h n = (h.0, none_last f gs g h.1 n)

  differ : (f g : Formula A ℕ) → same_formula kit.same nat_eq f g ≡ false → ¬ (f ≡ g)
  differ f g e q =
      let k = formula_alike kit.same nat_eq alike (λ x. eq-eqb x x refl) f in
      let v : true ≡ false = sym k ∙ ap (same_formula kit.same nat_eq f) q ∙ e in
      absurd (cc (v))

  neither : (a b : Bool) → (a || b) ≡ false → (a ≡ false) × (b ≡ false)
  neither true b e = absurd (cc (e))
  neither false b e = (refl, e)

  different_last : (gs : Formulas A ℕ) (g : Formula A ℕ) → AreDifferent gs → has kit gs g ≡ false → AreDifferent (append gs (also g none))
  different_last none g h e = (tt, tt)
  different_last (also f gs) g h e =
      let k = neither (same_formula kit.same nat_eq f g) (has kit gs g) e in
      (none_last f gs g h.0 (differ f g k.0), different_last gs g h.1 k.1)

  -- what becomes of a member: it gives less than it costs, is an atom, or stays as it is
  data Kind (j : Junction) (g : Formula A ℕ) : Type 0 where
    Less : pieces_cost kit P Mentions within names node_measure 1 (node_laws kit P) j (pieces_of j g) < cost kit P Mentions within names node_measure 1 (node_laws kit P) j g → Kind j g
    IsAtom : (a : A) → g ≡ One a → Kind j g
    Stays : NoAtom g → MayStand j g → ((ks : List A) (s : Parts A) → with_member kit j ks (pieces_of j g) s ≡ with_other kit g s) → Kind j g

  kind : (j : Junction) (g : Formula A ℕ) → Kind j g
  kind Conjunction Yes = Less (omega arith)
  kind Conjunction No = Less (omega arith)
  kind Conjunction (One a) = IsAtom a refl
  kind Conjunction (And fs) = Less (let h = inner_cost kit P Mentions within names node_measure 1 (node_laws kit P) Conjunction fs in omega arith)
  kind Conjunction (Not f) = Stays tt tt (λ ks s. refl)
  kind Conjunction (Or fs) = Stays tt tt (λ ks s. refl)
  kind Conjunction (Impl f g) = Stays tt tt (λ ks s. refl)
  kind Conjunction (Repl f g) = Stays tt tt (λ ks s. refl)
  kind Conjunction (Equiv f g) = Stays tt tt (λ ks s. refl)
  kind Conjunction (Ex x f) = Stays tt tt (λ ks s. refl)
  kind Conjunction (All x f) = Stays tt tt (λ ks s. refl)
  kind Disjunction Yes = Less (omega arith)
  kind Disjunction No = Less (omega arith)
  kind Disjunction (One a) = IsAtom a refl
  kind Disjunction (Or fs) = Less (let h = inner_cost kit P Mentions within names node_measure 1 (node_laws kit P) Disjunction fs in omega arith)
  kind Disjunction (Not f) = Stays tt tt (λ ks s. refl)
  kind Disjunction (And fs) = Stays tt tt (λ ks s. refl)
  kind Disjunction (Impl f g) = Stays tt tt (λ ks s. refl)
  kind Disjunction (Repl f g) = Stays tt tt (λ ks s. refl)
  kind Disjunction (Equiv f g) = Stays tt tt (λ ks s. refl)
  kind Disjunction (Ex x f) = Stays tt tt (λ ks s. refl)
  kind Disjunction (All x f) = Stays tt tt (λ ks s. refl)

  -- a Reduced formula that may stand in a list
  standing : (j : Junction) (g : Formula A ℕ) (ls : List A) → MayStand j g → Reduced Keeps Undecided kit.opposite kit.contains Mentions g ls → ReducedInside Keeps Undecided kit.opposite kit.contains Mentions g ls
  standing Conjunction Yes ls m r = absurd m
  standing Disjunction Yes ls m r = absurd m
  standing Conjunction No ls m r = absurd m
  standing Disjunction No ls m r = absurd m
  standing j g ls m r = r

  pushed_good : (j : Junction) (ks : List A) (f g : Formula A ℕ) (us : List A) (gs : Formulas A ℕ) → GoodAtoms j ks us → Suits j (beside kit.opposite j us ks) gs → AreDifferent gs → NoAtom g → MayStand j g
      → cost kit P Mentions within names node_measure 1 (node_laws kit P) j g ≤ cost kit P Mentions within names node_measure 1 (node_laws kit P) j f → 1 ≤ cost kit P Mentions within names node_measure 1 (node_laws kit P) j g → (cost kit P Mentions within names node_measure 1 (node_laws kit P) j g ≡ cost kit P Mentions within names node_measure 1 (node_laws kit P) j f → Reduced Keeps Undecided kit.opposite kit.contains Mentions g (beside kit.opposite j us ks))
      → (b : Bool) → has kit gs g ≡ b → w j (Open us (pushed_unless b g gs)) ≡ cost kit P Mentions within names node_measure 1 (node_laws kit P) j f + (atoms_total kit P Mentions within names node_measure 1 (node_laws kit P) j us + total kit P Mentions within names node_measure 1 (node_laws kit P) j gs) → Good j ks (Open us (pushed_unless b g gs))
  pushed_good j ks f g us gs h k l n m c d r true e t = absurd (omega arith)
  pushed_good j ks f g us gs h k l n m c d r false e t =
      let i = last_size kit P Mentions within names node_measure 1 (node_laws kit P) j g gs in
      record {
        atoms = us;
        members = append gs (also g none);
        is = refl;
        good = h;
        suits = suits_last j (beside kit.opposite j us ks) gs g k n m (standing j g (beside kit.opposite j us ks) m (r (omega arith)));
        different = different_last gs g l e;
      }

  other_good : (j : Junction) (ks : List A) (f g : Formula A ℕ) (s : Parts A) → Good j ks s → NoAtom g → MayStand j g → cost kit P Mentions within names node_measure 1 (node_laws kit P) j g ≤ cost kit P Mentions within names node_measure 1 (node_laws kit P) j f → 1 ≤ cost kit P Mentions within names node_measure 1 (node_laws kit P) j g → (cost kit P Mentions within names node_measure 1 (node_laws kit P) j g ≡ cost kit P Mentions within names node_measure 1 (node_laws kit P) j f → Reduced Keeps Undecided kit.opposite kit.contains Mentions g (known kit j s ks))
      → w j (with_other kit g s) ≡ cost kit P Mentions within names node_measure 1 (node_laws kit P) j f + w j s → Good j ks (with_other kit g s)
  other_good j ks f g s b n m c d =
      let G : Parts A → Type 0 = λ z. (cost kit P Mentions within names node_measure 1 (node_laws kit P) j g ≡ cost kit P Mentions within names node_measure 1 (node_laws kit P) j f → Reduced Keeps Undecided kit.opposite kit.contains Mentions g (known kit j z ks)) → w j (with_other kit g z) ≡ cost kit P Mentions within names node_measure 1 (node_laws kit P) j f + w j z → Good j ks (with_other kit g z) in
      subst G (sym b.is) (λ r t. pushed_good j ks f g b.atoms b.members b.good b.suits b.different n m c d r (has kit b.members g) refl t)

  member_good : (j : Junction) (ks : List A) (f g : Formula A ℕ) (s : Parts A) → Good j ks s → IsWithin kit P Mentions within names Any g → Within s → cost kit P Mentions within names node_measure 1 (node_laws kit P) j g ≤ cost kit P Mentions within names node_measure 1 (node_laws kit P) j f → 1 ≤ cost kit P Mentions within names node_measure 1 (node_laws kit P) j g → ((a : A) → g ≡ One a → 2 ≤ cost kit P Mentions within names node_measure 1 (node_laws kit P) j f) → (cost kit P Mentions within names node_measure 1 (node_laws kit P) j g ≡ cost kit P Mentions within names node_measure 1 (node_laws kit P) j f → Reduced Keeps Undecided kit.opposite kit.contains Mentions g (known kit j s ks)) → Kind j g
      → w j (with_member kit j ks (pieces_of j g) s) ≡ cost kit P Mentions within names node_measure 1 (node_laws kit P) j f + w j s → Good j ks (with_member kit j ks (pieces_of j g) s)
  member_good j ks f g s b v k c d u r (Less l) t = let i = member_size kit P Mentions within names node_measure 1 (node_laws kit P) j ks (pieces_of j g) s (split_within kit P Mentions within names Any j g v) k in absurd (omega arith)
  member_good j ks f g s b v k c d u r (IsAtom a e) t =
      let i = member_size kit P Mentions within names node_measure 1 (node_laws kit P) j ks (pieces_of j g) s (split_within kit P Mentions within names Any j g v) k in
      let l : pieces_cost kit P Mentions within names node_measure 1 (node_laws kit P) j (pieces_of j g) ≡ 1 = ap (λ z. pieces_cost kit P Mentions within names node_measure 1 (node_laws kit P) j (pieces_of j z)) e ∙ atom_alone j a in
      let q = u a e in
      absurd (omega arith)
    where
      atom_alone : (j : Junction) (a : A) → pieces_cost kit P Mentions within names node_measure 1 (node_laws kit P) j (pieces_of j (One a)) ≡ 1
      atom_alone Conjunction a = refl
      atom_alone Disjunction a = refl
  member_good j ks f g s b v k c d u r (Stays n m e) t =
      let q = e ks s in
      subst (Good j ks) (sym q) (other_good j ks f g s b n m c d r (ap (w j) (sym q) ∙ t))

  -- atoms stand in the list already
  abbrev AtomOr : Formula A ℕ → Type 0 → Type 0
  AtomOr (One a) Q = Unit {0}
  AtomOr f Q = Q

  passed_good : (j : Junction) (ks : List A) (f g : Formula A ℕ) (s : Parts A) → Good j ks s → IsWithin kit P Mentions within names Any g → Within s → cost kit P Mentions within names node_measure 1 (node_laws kit P) j g ≤ cost kit P Mentions within names node_measure 1 (node_laws kit P) j f → 1 ≤ cost kit P Mentions within names node_measure 1 (node_laws kit P) j g → AtomOr f ((a : A) → g ≡ One a → 2 ≤ cost kit P Mentions within names node_measure 1 (node_laws kit P) j f) → (cost kit P Mentions within names node_measure 1 (node_laws kit P) j g ≡ cost kit P Mentions within names node_measure 1 (node_laws kit P) j f → Reduced Keeps Undecided kit.opposite kit.contains Mentions g (known kit j s ks))
      → w j (with_passed kit j ks f g s) ≡ other_cost kit P Mentions within names node_measure 1 (node_laws kit P) j f + w j s → Good j ks (with_passed kit j ks f g s)
  passed_good j ks (One a) g s b v k c d u r t = b
  passed_good j ks f g s b v k c d u r t = member_good j ks f g s b v k c d u r (kind j g) t

  -- ---- the list closed

  record IsList (j : Junction) (ks : List A) (fs : Formulas A ℕ) : Type 0 where
    different : AreDifferent fs
    kept : AreKept Keeps Undecided kit.opposite kit.contains Mentions j (atoms_of fs)
    members : MembersReduced Keeps Undecided kit.opposite kit.contains Mentions fs j ks (beside kit.opposite j (atoms_of fs) ks)

  no_atoms : (j : Junction) (ls : List A) (gs : Formulas A ℕ) → Suits j ls gs → atoms_of gs ≡ []
  no_atoms j ls none h = refl
  no_atoms j ls (also g gs) h = split g h.0 (no_atoms j ls gs h.3)
    where
      split : (f : Formula A ℕ) → NoAtom f → atoms_of gs ≡ [] → atoms_of (also f gs) ≡ []
      split (One a) n e = absurd n
      split f n e = e

  all_atoms : (j : Junction) (ls us : List A) (gs : Formulas A ℕ) → Suits j ls gs → atoms_of (ones us gs) ≡ us
  all_atoms j ls [] gs h = no_atoms j ls gs h
  all_atoms j ls (a ∷ us) gs h = ap (λ xs. a ∷ xs) (all_atoms j ls us gs h)

  atom_differs : (j : Junction) (ls : List A) (a : A) (gs : Formulas A ℕ) → Suits j ls gs → HasNone (One a) gs
  atom_differs j ls a none h = tt
  atom_differs j ls a (also g gs) h = (λ e. subst NoAtom (sym e) h.0, atom_differs j ls a gs h.3)

  atoms_differ : (j : Junction) (ls : List A) (a : A) → P a → (us : List A) (gs : Formulas A ℕ) → EachOf (Keeps j a) us → Suits j ls gs → HasNone (One a) (ones us gs)
  atoms_differ j ls a p [] gs k h = atom_differs j ls a gs h
  atoms_differ j ls a p (u ∷ us) gs k h = (λ e. let q : a ≡ u = cc in self j a p (subst (Keeps j a) (sym q) k.0), atoms_differ j ls a p us gs k.1 h)

  all_different : (j : Junction) (ls us : List A) (gs : Formulas A ℕ) → EachOf P us → AreKept Keeps Undecided kit.opposite kit.contains Mentions j us → Suits j ls gs → AreDifferent gs → AreDifferent (ones us gs)
  all_different j ls [] gs p k h d = d
  all_different j ls (a ∷ us) gs p k h d = (atoms_differ j ls a p.0 us gs k.0 h, all_different j ls us gs p.1 k.1 h d)

  may_atom : (j : Junction) (a : A) → MayStand j (One a)
  may_atom Conjunction a = tt
  may_atom Disjunction a = tt

  under_other : (g : Formula A ℕ) (ks ls : List A) → NoAtom g → ReducedInside Keeps Undecided kit.opposite kit.contains Mentions g ls → ReducedInside Keeps Undecided kit.opposite kit.contains Mentions g (under g ks ls)
  under_other (One a) ks ls n r = absurd n
  under_other g ks ls n r = r

  others_reduced : (j : Junction) (ks ls : List A) (gs : Formulas A ℕ) → Suits j ls gs → MembersReduced Keeps Undecided kit.opposite kit.contains Mentions gs j ks ls
  others_reduced j ks ls none h = tt
  others_reduced j ks ls (also g gs) h = (h.1, under_other g ks ls h.0 h.2, others_reduced j ks ls gs h.3)

  all_reduced : (j : Junction) (ks ls us : List A) (gs : Formulas A ℕ) → EachOf (λ a. IsUndecided Keeps Undecided kit.opposite kit.contains Mentions ks a) us → Suits j ls gs → MembersReduced Keeps Undecided kit.opposite kit.contains Mentions (ones us gs) j ks ls
  all_reduced j ks ls [] gs u h = others_reduced j ks ls gs h
  all_reduced j ks ls (a ∷ us) gs u h = (may_atom j a, u.0, all_reduced j ks ls us gs u.1 h)

  is_list : (j : Junction) (ks us : List A) (gs : Formulas A ℕ) → EachOf P us → GoodAtoms j ks us → Suits j (beside kit.opposite j us ks) gs → AreDifferent gs → IsList j ks (ones us gs)
  is_list j ks us gs p h k d =
      let ls = beside kit.opposite j us ks in
      let e = all_atoms j ls us gs k in
      record {
        different = all_different j ls us gs p h.kept k d;
        kept = subst (AreKept Keeps Undecided kit.opposite kit.contains Mentions j) (sym e) h.kept;
        members = subst (λ z. MembersReduced Keeps Undecided kit.opposite kit.contains Mentions (ones us gs) j ks (beside kit.opposite j z ks)) (sym e) (all_reduced j ks ls us gs h.undecided k);
      }

  constant_size : (j : Junction) → (nodes_of (neutral j) ≡ 1) × (nodes_of (absorbing j) ≡ 1)
  constant_size Conjunction = (refl, refl)
  constant_size Disjunction = (refl, refl)

  joined_size : (j : Junction) (fs : Formulas A ℕ) → nodes_of (joined j fs) ≡ 1 + members_size node_measure fs j
  joined_size Conjunction fs = refl
  joined_size Disjunction fs = refl

  -- the list has lost none of its n nodes
  from_tight : (j : Junction) (fs : Formulas A ℕ) (n : ℕ) → total kit P Mentions within names node_measure 1 (node_laws kit P) j fs ≤ n → 2 ≤ n → nodes_of (from_pieces j (Some fs)) ≡ 1 + n → total kit P Mentions within names node_measure 1 (node_laws kit P) j fs ≡ n
  from_tight j none n h l e = let k = (constant_size j).0 in absurd (omega arith)
  from_tight j (also f none) n h l e = let k = member_nodes f (nodes_of f) in absurd (omega arith)
  from_tight j (also f (also g fs)) n h l e = let k = joined_size j (also f (also g fs)) in let i = members_is kit P Mentions within names node_measure 1 (node_laws kit P) j f (also g fs) in omega arith

  close_tight : (j : Junction) (s : Parts A) (n : ℕ) → w j s ≤ n → 2 ≤ n → nodes_of (close j s) ≡ 1 + n → w j s ≡ n
  close_tight j Closed n h l e = let k = (constant_size j).1 in absurd (omega arith)
  close_tight j (Open us gs) n h l e = let k = ones_is kit P Mentions within names node_measure 1 (node_laws kit P) j us gs in let i = from_tight j (ones us gs) n (omega arith) l e in omega arith

  list_is : (j : Junction) (ks : List A) (f g : Formula A ℕ) (fs : Formulas A ℕ) → IsList j ks (also f (also g fs)) → ReducedInside Keeps Undecided kit.opposite kit.contains Mentions (joined j (also f (also g fs))) ks
  list_is Conjunction ks f g fs h = (tt, h.different, h.kept, h.members)
  list_is Disjunction ks f g fs h = (tt, h.different, h.kept, h.members)

  from_reduced : (j : Junction) (ks : List A) (fs : Formulas A ℕ) (n : ℕ) → total kit P Mentions within names node_measure 1 (node_laws kit P) j fs ≤ n → 2 ≤ n → nodes_of (from_pieces j (Some fs)) ≡ 1 + n → IsList j ks fs → ReducedInside Keeps Undecided kit.opposite kit.contains Mentions (from_pieces j (Some fs)) ks
  from_reduced j ks none n h l e i = let k = (constant_size j).0 in absurd (omega arith)
  from_reduced j ks (also f none) n h l e i = let k = member_nodes f (nodes_of f) in absurd (omega arith)
  from_reduced j ks (also f (also g fs)) n h l e i = list_is j ks f g fs i

  atoms_hold : (us : List A) → EachOf (HasAtom kit P Mentions within names Any) us → EachOf P us
  atoms_hold [] h = tt
  atoms_hold (a ∷ us) h = (h.0.holds, atoms_hold us h.1)

  close_reduced : (j : Junction) (ks : List A) (s : Parts A) (n : ℕ) → Within s → w j s ≤ n → 2 ≤ n → nodes_of (close j s) ≡ 1 + n → Good j ks s → ReducedInside Keeps Undecided kit.opposite kit.contains Mentions (close j s) ks
  close_reduced j ks s n v h l e b =
      let G : Parts A → Type 0 = λ z. Within z → w j z ≤ n → nodes_of (close j z) ≡ 1 + n → ReducedInside Keeps Undecided kit.opposite kit.contains Mentions (close j z) ks in
      subst G (sym b.is)
      (λ v h e. let k = ones_is kit P Mentions within names node_measure 1 (node_laws kit P) j b.atoms b.members in from_reduced j ks (ones b.atoms b.members) n (omega arith) l e (is_list j ks b.atoms b.members (atoms_hold b.atoms v.0) b.good b.suits b.different))
      v h e

  -- ---- the pass

  begun_good : (j : Junction) (ks : List A) (s : Parts A) → Begun j ks s → Good j ks s
  begun_good j ks s b = record { atoms = b.atoms; members = none; is = b.is; good = b.good; suits = tt; different = tt }

  empty_begun : (j : Junction) (ks : List A) → Begun j ks (Open [] none)
  empty_begun j ks = record { atoms = []; is = refl; good = record { kept = tt; undecided = tt } }

  two_members : (fs : Formulas A ℕ) (j : Junction) → AreTwo fs → AreOrderly P fs → 2 ≤ members_size node_measure fs j
  two_members fs j t h = let k = least_members kit P Mentions within names node_measure 1 (node_laws kit P) fs j t h in omega arith

  -- an atom comes of a formula with two nodes at least, unless it was one
  shrunk : (f : Formula A ℕ) (ks : List A) (j : Junction) → IsOrderly P f → AtomOr f ((a : A) → pass kit f ks ≡ One a → 2 ≤ cost kit P Mentions within names node_measure 1 (node_laws kit P) j f)
  shrunk Yes ks j h = λ a e. absurd (cc (e))
  shrunk No ks j h = λ a e. absurd (cc (e))
  shrunk (One b) ks j h = tt
  shrunk (Not f) ks j h = absurd h
  shrunk (And fs) ks j h = λ a e. let k = two_members fs Conjunction h.0 h.1 in omega arith
  shrunk (Or fs) ks j h = λ a e. let k = two_members fs Disjunction h.0 h.1 in omega arith
  shrunk (Impl f g) ks j h = absurd h
  shrunk (Repl f g) ks j h = absurd h
  shrunk (Equiv f g) ks j h = absurd h
  shrunk (Ex x f) ks j h = λ a e. let k = least kit P Mentions within names node_measure 1 (node_laws kit P) f h in omega arith
  shrunk (All x f) ks j h = λ a e. let k = least kit P Mentions within names node_measure 1 (node_laws kit P) f h in omega arith

  decided_reduced : (a : A) (ks : List A) (o : Option Bool) → decided kit ks a ≡ o → Reduced Keeps Undecided kit.opposite kit.contains Mentions (atom_or a o) ks
  decided_reduced a ks (Some true) e = tt
  decided_reduced a ks (Some false) e = tt
  decided_reduced a ks None e = none_decides ks a e

  -- a formula with a free name is no constant
  free_inside : (g : Formula A ℕ) (x : ℕ) (ls : List A) → Free Mentions g x → Reduced Keeps Undecided kit.opposite kit.contains Mentions g ls → ReducedInside Keeps Undecided kit.opposite kit.contains Mentions g ls
  free_inside Yes x ls h r = absurd h
  free_inside No x ls h r = absurd h
  free_inside g x ls h r = r

  ex_reduced : (x : ℕ) (f g : Formula A ℕ) (ks : List A) → IsNoLarger kit P Mentions within names node_measure 1 (node_laws kit P) g f → (nodes_of g ≡ nodes_of f → Reduced Keeps Undecided kit.opposite kit.contains Mentions g (without kit.contains x ks)) → (b : Bool) → is_free kit x g ≡ b → nodes_of (quantified (Ex x) b g) ≡ 1 + nodes_of f → Reduced Keeps Undecided kit.opposite kit.contains Mentions (quantified (Ex x) b g) ks
  ex_reduced x f g ks l i true e t = let k = told_free kit Mentions names x g e in (k, free_inside g x (without kit.contains x ks) k (i (omega arith)))
  ex_reduced x f g ks l i false e t = let k = l.alone in absurd (omega arith)

  all_quantified_reduced : (x : ℕ) (f g : Formula A ℕ) (ks : List A) → IsNoLarger kit P Mentions within names node_measure 1 (node_laws kit P) g f → (nodes_of g ≡ nodes_of f → Reduced Keeps Undecided kit.opposite kit.contains Mentions g (without kit.contains x ks)) → (b : Bool) → is_free kit x g ≡ b → nodes_of (quantified (All x) b g) ≡ 1 + nodes_of f → Reduced Keeps Undecided kit.opposite kit.contains Mentions (quantified (All x) b g) ks
  all_quantified_reduced x f g ks l i true e t = let k = told_free kit Mentions names x g e in (k, free_inside g x (without kit.contains x ks) k (i (omega arith)))
  all_quantified_reduced x f g ks l i false e t = let k = l.alone in absurd (omega arith)

  inside_is : (g : Formula A ℕ) (ks : List A) → ReducedInside Keeps Undecided kit.opposite kit.contains Mentions g ks → Reduced Keeps Undecided kit.opposite kit.contains Mentions g ks
  inside_is Yes ks h = absurd h
  inside_is No ks h = absurd h
  inside_is g ks h = h

  list_reduced : (j : Junction) (fs : Formulas A ℕ) (ks : List A) → AreTwo fs → AreOrderly P fs → Within (others kit fs j ks (begun kit P Mentions within names node_measure 1 (node_laws kit P) j ks fs))
      → (Good j ks (begun kit P Mentions within names node_measure 1 (node_laws kit P) j ks fs) → w j (others kit fs j ks (begun kit P Mentions within names node_measure 1 (node_laws kit P) j ks fs)) ≡ others_cost kit P Mentions within names node_measure 1 (node_laws kit P) j fs + w j (begun kit P Mentions within names node_measure 1 (node_laws kit P) j ks fs) → Good j ks (others kit fs j ks (begun kit P Mentions within names node_measure 1 (node_laws kit P) j ks fs)))
      → nodes_of (close j (others kit fs j ks (begun kit P Mentions within names node_measure 1 (node_laws kit P) j ks fs))) ≡ 1 + members_size node_measure fs j → Reduced Keeps Undecided kit.opposite kit.contains Mentions (close j (others kit fs j ks (begun kit P Mentions within names node_measure 1 (node_laws kit P) j ks fs))) ks
  list_reduced j fs ks t h v i e =
      let s = begun kit P Mentions within names node_measure 1 (node_laws kit P) j ks fs in
      let z = others kit fs j ks s in
      let n = members_size node_measure fs j in
      let a = begun_size kit P Mentions within names node_measure 1 (node_laws kit P) j ks fs h in
      let b = others_smaller kit P Mentions within names node_measure 1 (node_laws kit P) fs j ks s h (begun_within kit P Mentions within names node_measure 1 (node_laws kit P) j ks fs h) in
      let d = costs kit P Mentions within names node_measure 1 (node_laws kit P) j fs in
      let q = inner_cost kit P Mentions within names node_measure 1 (node_laws kit P) j fs in
      let l = two_members fs j t h in
      let m : w j z ≤ n = omega arith in
      let u : w j z ≡ n = close_tight j z n m l e in
      let g = all_begun j ks fs (Open [] none) (all_orderly kit P Mentions within names node_measure 1 (node_laws kit P) fs h) (start kit P Mentions within names Any) (empty_begun j ks) (omega arith) in
      inside_is (close j z) ks (close_reduced j ks z n v m l e (i (begun_good j ks s g) (omega arith)))

  others_within : (fs : Formulas A ℕ) (j : Junction) (ks : List A) (s : Parts A) → AreOrderly P fs → Within s → Within (others kit fs j ks s)
  others_within none j ks s h k = k
  others_within (also f fs) j ks s h k =
      let q = known kit j s ks in
      others_within fs j ks (with_passed kit j ks f (pass kit f q) s) h.1 (passed_within kit P Mentions within names Any j ks f (pass kit f q) s (passed_any kit P Mentions within names node_measure 1 (node_laws kit P) f q h.0) k)

  mutual
    pub pass_reduced : (f : Formula A ℕ) (ks : List A) → IsOrderly P f → size node_measure (pass kit f ks) ≡ size node_measure f → Reduced Keeps Undecided kit.opposite kit.contains Mentions (pass kit f ks) ks
    pass_reduced Yes ks h e = tt
    pass_reduced No ks h e = tt
    pass_reduced (One a) ks h e = decided_reduced a ks (decided kit ks a) refl
    pass_reduced (Not f) ks h e = absurd h
    pass_reduced (And fs) ks h e =
        list_reduced Conjunction fs ks h.0 h.1 (others_within fs Conjunction ks (begun kit P Mentions within names node_measure 1 (node_laws kit P) Conjunction ks fs) h.1 (begun_within kit P Mentions within names node_measure 1 (node_laws kit P) Conjunction ks fs h.1))
        (λ g t. others_good fs Conjunction ks (begun kit P Mentions within names node_measure 1 (node_laws kit P) Conjunction ks fs) h.1 (begun_within kit P Mentions within names node_measure 1 (node_laws kit P) Conjunction ks fs h.1) g t) e
    pass_reduced (Or fs) ks h e =
        list_reduced Disjunction fs ks h.0 h.1 (others_within fs Disjunction ks (begun kit P Mentions within names node_measure 1 (node_laws kit P) Disjunction ks fs) h.1 (begun_within kit P Mentions within names node_measure 1 (node_laws kit P) Disjunction ks fs h.1))
        (λ g t. others_good fs Disjunction ks (begun kit P Mentions within names node_measure 1 (node_laws kit P) Disjunction ks fs) h.1 (begun_within kit P Mentions within names node_measure 1 (node_laws kit P) Disjunction ks fs h.1) g t) e
    pass_reduced (Impl f g) ks h e = absurd h
    pass_reduced (Repl f g) ks h e = absurd h
    pass_reduced (Equiv f g) ks h e = absurd h
    pass_reduced (Ex x f) ks h e =
        let q = without kit.contains x ks in
        ex_reduced x f (pass kit f q) ks (pass_smaller kit P Mentions within names node_measure 1 (node_laws kit P) f q h) (λ t. pass_reduced f q h t) (is_free kit x (pass kit f q)) refl e
    pass_reduced (All x f) ks h e =
        let q = without kit.contains x ks in
        all_quantified_reduced x f (pass kit f q) ks (pass_smaller kit P Mentions within names node_measure 1 (node_laws kit P) f q h) (λ t. pass_reduced f q h t) (is_free kit x (pass kit f q)) refl e

    others_good : (fs : Formulas A ℕ) (j : Junction) (ks : List A) (s : Parts A) → AreOrderly P fs → Within s → Good j ks s → w j (others kit fs j ks s) ≡ others_cost kit P Mentions within names node_measure 1 (node_laws kit P) j fs + w j s → Good j ks (others kit fs j ks s)
    others_good none j ks s h k b t = b
    others_good (also f fs) j ks s h k b t =
        let q = known kit j s ks in
        let g = pass kit f q in
        let v = passed_any kit P Mentions within names node_measure 1 (node_laws kit P) f q h.0 in
        let z = with_passed kit j ks f g s in
        let y = passed_within kit P Mentions within names Any j ks f g s v k in
        let a = others_smaller kit P Mentions within names node_measure 1 (node_laws kit P) fs j ks z h.1 y in
        let l = (pass_smaller kit P Mentions within names node_measure 1 (node_laws kit P) f q h.0).inside in
        let i = passed_size kit P Mentions within names node_measure 1 (node_laws kit P) j ks f g s v k l in
        let m = least kit P Mentions within names node_measure 1 (node_laws kit P) g v.orderly in
        let c = member_nodes g (nodes_of g) in
        let d = member_nodes f (nodes_of f) in
        others_good fs j ks z h.1 y (passed_good j ks f g s b v k (omega arith) (omega arith) (shrunk f q j h.0) (λ e. pass_reduced f q h.0 (omega arith)) (omega arith)) (omega arith)
