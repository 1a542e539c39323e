-- The pass makes no formula larger.
use Rattle.std.proofs.Common.{◌≡◌, ℕ, ◌+◌, ◌≤◌, zero-add, Bool, true, false, refl, sym, arith, Option, None, Some, List, [], ◌∷◌}
use Rattle.logic_meaning.specs.Formula.{Formula, Formulas, Yes, No, One, Not, And, Or, Impl, Repl, Equiv, Ex, All, none, also}
use Rattle.logic_meaning.specs.Some.{EachOf}
use Rattle.logic_meaning.specs.Fold.{joined, neutral, absorbing, append, pieces_of, from_pieces}
use Rattle.logic_meaning.specs.declared.junction.Junction.{Junction}
use Rattle.logic_meaning.specs.declared.junction.Junction.TheVariants.{Conjunction, Disjunction}
use Rattle.logic_meaning.specs.declared.quantifier.Quantifier.{Quantifier}
use Rattle.logic_meaning.specs.declared.quantifier.Quantifier.TheVariants.{Exists, ForAll}
use Rattle.normal_atoms.specs.Computed.{Merging, Settled, Into, Kept}
use Rattle.logic_meaning.specs.AtomKit.{without}
use Rattle.shape_theory.specs.Kit.{Kit}
use Rattle.logic_meaning.specs.Members.{AreTwo}
use Rattle.shape_theory.specs.Orderly.{IsOrderly, AreOrderly}
use Rattle.logic_meaning.specs.Measure.{Measure, as_member, size, members_size, more_size}
use Rattle.shape_theory.specs.Pass.{Parts, Closed, Open, settles, constant, close, opened, closed_if, atom_or, pushed_unless, where_merged, decided, with_one, by_decision, with_atom, has, with_other, with_piece, with_pieces, with_member, with_atom_first, with_atoms, with_passed, known, is_free, quantified, pass, others}
use Rattle.logic_meaning.specs.AtomsFirst.{ones}
use Rattle.shape_theory.proofs.FreeTests.{NamesTold}
use Rattle.shape_theory.proofs.Keeps.{Any, MergesWithin, HasAtom, IsWithin, AreWithin, PartsWithin, PiecesWithin, FreeIn, wider, piece_within, split_within, atom_first_within, passed_within, atoms_within, pass_within, first, rest, start}

-- a constant is no larger than an atom or a list, a merged atom no larger than the two, and brackets than a quantifier
pub record MeasureLaws {A : Type 0} (kit : Kit A) (P : A → Type 0) (m : Measure A) (low : ℕ) : Type 0 where
  pub low_yes : low ≤ m.yes
  pub low_no : low ≤ m.no
  pub constant_atom : (b : Bool) (a : A) → P a → size m (constant b) ≤ m.atom a
  pub constant_list : (b : Bool) (j : Junction) → size m (constant b) ≤ m.head + (low + (m.gap j + low))
  pub into : (j : Junction) (a b d : A) → P a → P b → kit.merge j a b ≡ Into d → m.atom d ≤ m.atom a + (m.gap j + m.atom b)
  pub around : (q : Quantifier) (x : ℕ) → m.brackets ≤ m.quantifier q x

module _ {A : Type 0} (kit : Kit A) (P : A → Type 0) (Mentions : A → ℕ → Type 0) (within : MergesWithin kit P Mentions) (names : NamesTold kit Mentions) (m : Measure A) (low : ℕ) (laws : MeasureLaws kit P m low) where
  abbrev Hold : List A → Type 0
  Hold us = EachOf (HasAtom kit P Mentions within names Any) us

  abbrev Within : Parts A → Type 0
  Within s = PartsWithin kit P Mentions within names Any s

  -- a member with what stands before it
  abbrev pub cost : Junction → Formula A ℕ → ℕ
  cost j f = m.gap j + as_member m f (size m f)

  abbrev pub total : Junction → Formulas A ℕ → ℕ
  total j none = 0
  total j (also f fs) = cost j f + total j fs

  abbrev pub atoms_total : Junction → List A → ℕ
  atoms_total j [] = 0
  atoms_total j (a ∷ us) = (m.gap j + m.atom a) + atoms_total j us

  abbrev pub weight : Junction → Parts A → ℕ
  weight j Closed = 0
  weight j (Open us gs) = atoms_total j us + total j gs

  more_is : (j : Junction) (fs : Formulas A ℕ) → more_size m fs j ≡ total j fs
  more_is j none = refl
  more_is j (also f fs) = let h = more_is j fs in omega arith

  pub members_is : (j : Junction) (f : Formula A ℕ) (fs : Formulas A ℕ) → m.gap j + members_size m (also f fs) j ≡ total j (also f fs)
  members_is j f fs = let h = more_is j fs in omega arith

  pub ones_is : (j : Junction) (us : List A) (gs : Formulas A ℕ) → total j (ones us gs) ≡ atoms_total j us + total j gs
  ones_is j [] gs = omega arith
  ones_is j (a ∷ us) gs = let h = ones_is j us gs in omega arith

  joined_is : (j : Junction) (fs : Formulas A ℕ) → size m (joined j fs) ≡ m.head + members_size m fs j
  joined_is Conjunction fs = refl
  joined_is Disjunction fs = refl

  pub member_most : (f : Formula A ℕ) → as_member m f (size m f) ≤ m.brackets + size m f
  member_most Yes = omega arith
  member_most No = omega arith
  member_most (One a) = omega arith
  member_most (Not f) = omega arith
  member_most (And fs) = omega arith
  member_most (Or fs) = omega arith
  member_most (Impl f g) = omega arith
  member_most (Repl f g) = omega arith
  member_most (Equiv f g) = omega arith
  member_most (Ex x f) = omega arith
  member_most (All x f) = omega arith

  pub member_least : (f : Formula A ℕ) → size m f ≤ as_member m f (size m f)
  member_least Yes = omega arith
  member_least No = omega arith
  member_least (One a) = omega arith
  member_least (Not f) = omega arith
  member_least (And fs) = omega arith
  member_least (Or fs) = omega arith
  member_least (Impl f g) = omega arith
  member_least (Repl f g) = omega arith
  member_least (Equiv f g) = omega arith
  member_least (Ex x f) = omega arith
  member_least (All x f) = omega arith

  -- ---- an atom more

  merged_size : (j : Junction) (a b : A) (bs : List A) (gs : Formulas A ℕ) → P a → P b → (u : Merging A) → kit.merge j b a ≡ u → (r : Option (List A))
      → weight j (opened r gs) ≤ (m.gap j + m.atom a) + (atoms_total j bs + total j gs)
      → weight j (opened (where_merged u b bs r) gs) ≤ (m.gap j + m.atom a) + ((m.gap j + m.atom b) + atoms_total j bs + total j gs)
  merged_size j a b bs gs h k Settled e r i = omega arith
  merged_size j a b bs gs h k (Into d) e r i = let t = laws.into j b a d k h e in omega arith
  merged_size j a b bs gs h k Kept e None i = omega arith
  merged_size j a b bs gs h k Kept e (Some cs) i = omega arith

  one_size : (j : Junction) (a : A) (us : List A) (gs : Formulas A ℕ) → P a → Hold us → weight j (opened (with_one kit j a us) gs) ≤ (m.gap j + m.atom a) + (atoms_total j us + total j gs)
  one_size j a [] gs h k = omega arith
  one_size j a (b ∷ bs) gs h k = merged_size j a b bs gs h k.0.holds (kit.merge j b a) refl (with_one kit j a bs) (one_size j a bs gs h k.1)

  pub closed_if_size : (j : Junction) (b : Bool) (us : List A) (gs : Formulas A ℕ) → weight j (closed_if b us gs) ≤ atoms_total j us + total j gs
  closed_if_size j true us gs = omega arith
  closed_if_size j false us gs = omega arith

  decision_size : (o : Option Bool) (j : Junction) (a : A) (us : List A) (gs : Formulas A ℕ) → P a → Hold us → weight j (by_decision kit o j a us gs) ≤ (m.gap j + m.atom a) + (atoms_total j us + total j gs)
  decision_size (Some b) j a us gs h k = let t = closed_if_size j (settles j b) us gs in omega arith
  decision_size None j a us gs h k = one_size j a us gs h k

  pub atom_size : (j : Junction) (ks : List A) (a : A) (s : Parts A) → P a → Within s → weight j (with_atom kit j ks a s) ≤ (m.gap j + m.atom a) + weight j s
  atom_size j ks a Closed h k = omega arith
  atom_size j ks a (Open us gs) h k = decision_size (decided kit ks a) j a us gs h k.0

  abbrev pub atom_cost : Junction → Formula A ℕ → ℕ
  atom_cost j (One a) = m.gap j + m.atom a
  atom_cost j f = 0

  -- the atoms among the members, and the other members
  abbrev pub atoms_cost : Junction → Formulas A ℕ → ℕ
  atoms_cost j none = 0
  atoms_cost j (also f fs) = atom_cost j f + atoms_cost j fs

  abbrev pub other_cost : Junction → Formula A ℕ → ℕ
  other_cost j (One a) = 0
  other_cost j f = cost j f

  abbrev pub others_cost : Junction → Formulas A ℕ → ℕ
  others_cost j none = 0
  others_cost j (also f fs) = other_cost j f + others_cost j fs

  one_cost : (j : Junction) (f : Formula A ℕ) → cost j f ≡ atom_cost j f + other_cost j f
  one_cost j (One a) = omega arith
  one_cost j f = sym (zero-add _)

  pub costs : (j : Junction) (fs : Formulas A ℕ) → total j fs ≡ atoms_cost j fs + others_cost j fs
  costs j none = refl
  costs j (also f fs) = let h = costs j fs in let k = one_cost j f in omega arith

  pub atom_first_size : (j : Junction) (ks : List A) (f : Formula A ℕ) (s : Parts A) → IsOrderly P f → Within s → weight j (with_atom_first kit j ks f s) ≤ atom_cost j f + weight j s
  atom_first_size j ks (One a) s h k = atom_size j ks a s h k
  atom_first_size j ks f s h k = at_least 0 (weight j s)
    where
      at_least : (n k : ℕ) → k ≤ n + k
      at_least n k = omega arith

  pub atoms_size : (j : Junction) (ks : List A) (fs : Formulas A ℕ) (s : Parts A) → AreWithin kit P Mentions within names Any fs → Within s → weight j (with_atoms kit j ks fs s) ≤ atoms_cost j fs + weight j s
  atoms_size j ks none s h k = omega arith
  atoms_size j ks (also f fs) s h k =
      let g = first kit P Mentions within names Any f fs h in
      let t = atoms_size j ks fs (with_atom_first kit j ks f s) (rest kit P Mentions within names Any f fs h) (atom_first_within kit P Mentions within names Any j ks f s g k) in
      let i = atom_first_size j ks f s g.orderly k in
      omega arith

  -- ---- another member more

  pub last_size : (j : Junction) (f : Formula A ℕ) (gs : Formulas A ℕ) → total j (append gs (also f none)) ≡ cost j f + total j gs
  last_size j f none = refl
  last_size j f (also g gs) = let h = last_size j f gs in omega arith

  pub pushed_size : (j : Junction) (b : Bool) (f : Formula A ℕ) (gs : Formulas A ℕ) → total j (pushed_unless b f gs) ≤ cost j f + total j gs
  pushed_size j true f gs = omega arith
  pushed_size j false f gs = let h = last_size j f gs in omega arith

  pub other_size : (j : Junction) (f : Formula A ℕ) (s : Parts A) → weight j (with_other kit f s) ≤ cost j f + weight j s
  other_size j f Closed = omega arith
  other_size j f (Open us gs) = let h = pushed_size j (has kit gs f) f gs in omega arith

  piece_size : (j : Junction) (ks : List A) (f : Formula A ℕ) (s : Parts A) → IsOrderly P f → Within s → weight j (with_piece kit j ks f s) ≤ cost j f + weight j s
  piece_size j ks (One a) s h k = atom_size j ks a s h k
  piece_size j ks f s h k = other_size j f s

  pub pieces_size : (j : Junction) (ks : List A) (fs : Formulas A ℕ) (s : Parts A) → AreWithin kit P Mentions within names Any fs → Within s → weight j (with_pieces kit j ks fs s) ≤ total j fs + weight j s
  pieces_size j ks none s h k = omega arith
  pieces_size j ks (also f fs) s h k =
      let g = first kit P Mentions within names Any f fs h in
      let t = pieces_size j ks fs (with_piece kit j ks f s) (rest kit P Mentions within names Any f fs h) (piece_within kit P Mentions within names Any j ks f s g k) in
      let i = piece_size j ks f s g.orderly k in
      omega arith

  abbrev pub pieces_cost : Junction → Option (Formulas A ℕ) → ℕ
  pieces_cost j None = 0
  pieces_cost j (Some fs) = total j fs

  -- the members of a list cost no more than the list with what stands before it
  pub inner_cost : (j : Junction) (fs : Formulas A ℕ) → total j fs ≤ m.gap j + members_size m fs j
  inner_cost j none = omega arith
  inner_cost j (also f fs) = let h = members_is j f fs in omega arith

  alone_cost : (j : Junction) (f : Formula A ℕ) → total j (also f none) ≤ cost j f
  alone_cost j f = omega arith

  pub split_cost : (j : Junction) (f : Formula A ℕ) → pieces_cost j (pieces_of j f) ≤ cost j f
  split_cost Conjunction Yes = omega arith
  split_cost Conjunction No = omega arith
  split_cost Conjunction (And fs) = let h = inner_cost Conjunction fs in omega arith
  split_cost Conjunction f = alone_cost Conjunction f
  split_cost Disjunction Yes = omega arith
  split_cost Disjunction No = omega arith
  split_cost Disjunction (Or fs) = let h = inner_cost Disjunction fs in omega arith
  split_cost Disjunction f = alone_cost Disjunction f

  pub member_size : (j : Junction) (ks : List A) (o : Option (Formulas A ℕ)) (s : Parts A) → PiecesWithin kit P Mentions within names Any o → Within s → weight j (with_member kit j ks o s) ≤ pieces_cost j o + weight j s
  member_size j ks None s h k = omega arith
  member_size j ks (Some fs) s h k = pieces_size j ks fs s h k

  member_cost : (j : Junction) (ks : List A) (f g : Formula A ℕ) (s : Parts A) → IsWithin kit P Mentions within names Any g → Within s → as_member m g (size m g) ≤ as_member m f (size m f) → weight j (with_member kit j ks (pieces_of j g) s) ≤ cost j f + weight j s
  member_cost j ks f g s h k l =
      let t = member_size j ks (pieces_of j g) s (split_within kit P Mentions within names Any j g h) k in
      let i = split_cost j g in
      omega arith

  pub passed_size : (j : Junction) (ks : List A) (f g : Formula A ℕ) (s : Parts A) → IsWithin kit P Mentions within names Any g → Within s → as_member m g (size m g) ≤ as_member m f (size m f) → weight j (with_passed kit j ks f g s) ≤ other_cost j f + weight j s
  passed_size j ks (One a) g s h k l = omega arith
  passed_size j ks f g s h k l = member_cost j ks f g s h k l

  -- ---- the list closed

  mutual
    pub least : (f : Formula A ℕ) → IsOrderly P f → low ≤ size m f
    least Yes h = laws.low_yes
    least No h = laws.low_no
    least (One a) h = let i = laws.low_yes in let k = laws.constant_atom true a h in omega arith
    least (Not f) h = absurd h
    least (And fs) h = let i = least_members fs Conjunction h.0 h.1 in omega arith
    least (Or fs) h = let i = least_members fs Disjunction h.0 h.1 in omega arith
    least (Impl f g) h = absurd h
    least (Repl f g) h = absurd h
    least (Equiv f g) h = absurd h
    least (Ex x f) h = let i = least f h in omega arith
    least (All x f) h = let i = least f h in omega arith

    pub least_members : (fs : Formulas A ℕ) (j : Junction) → AreTwo fs → AreOrderly P fs → low + (m.gap j + low) ≤ members_size m fs j
    least_members none j t h = absurd t
    least_members (also f none) j t h = absurd t
    least_members (also f (also g fs)) j t h =
        let a = least f h.0 in let b = least g h.1.0 in let k = member_least f in let l = member_least g in
        omega arith

  neutral_size : (j : Junction) → size m (neutral j) ≤ m.head + (low + (m.gap j + low))
  neutral_size Conjunction = laws.constant_list true Conjunction
  neutral_size Disjunction = laws.constant_list false Disjunction

  absorbing_size : (j : Junction) → size m (absorbing j) ≤ m.head + (low + (m.gap j + low))
  absorbing_size Conjunction = laws.constant_list false Conjunction
  absorbing_size Disjunction = laws.constant_list true Disjunction

  -- n: the size of the members that the list had, with what stood between them
  from_size : (j : Junction) (fs : Formulas A ℕ) (n : ℕ) → total j fs ≤ m.gap j + n → low + (m.gap j + low) ≤ n → size m (from_pieces j (Some fs)) ≤ m.head + n
  from_size j none n h l = let k = neutral_size j in omega arith
  from_size j (also f none) n h l = let k = member_least f in omega arith
  from_size j (also f (also g fs)) n h l = let k = joined_is j (also f (also g fs)) in let i = members_is j f (also g fs) in omega arith

  pub close_size : (j : Junction) (s : Parts A) (n : ℕ) → weight j s ≤ m.gap j + n → low + (m.gap j + low) ≤ n → size m (close j s) ≤ m.head + n
  close_size j Closed n h l = let k = absorbing_size j in omega arith
  close_size j (Open us gs) n h l = let k = ones_is j us gs in from_size j (ones us gs) n (omega arith) l

  -- ---- the pass

  -- no larger, alone and as a member
  pub record IsNoLarger (g f : Formula A ℕ) : Type 0 where
    pub alone : size m g ≤ size m f
    pub inside : as_member m g (size m g) ≤ as_member m f (size m f)

  no_larger : (f : Formula A ℕ) → IsNoLarger f f
  no_larger f = record { alone = omega arith; inside = omega arith }

  decided_smaller : (a : A) (o : Option Bool) → P a → IsNoLarger (atom_or a o) (One a)
  decided_smaller a (Some true) h = record { alone = laws.constant_atom true a h; inside = laws.constant_atom true a h }
  decided_smaller a (Some false) h = record { alone = laws.constant_atom false a h; inside = laws.constant_atom false a h }
  decided_smaller a None h = no_larger (One a)

  ex_smaller : (x : ℕ) (f g : Formula A ℕ) (b : Bool) → IsNoLarger g f → IsNoLarger (quantified (Ex x) b g) (Ex x f)
  ex_smaller x f g true h = let k = h.alone in record { alone = omega arith; inside = omega arith }
  ex_smaller x f g false h = let k = h.alone in let i = laws.around Exists x in let l = member_most g in record { alone = omega arith; inside = omega arith }

  all_smaller : (x : ℕ) (f g : Formula A ℕ) (b : Bool) → IsNoLarger g f → IsNoLarger (quantified (All x) b g) (All x f)
  all_smaller x f g true h = let k = h.alone in record { alone = omega arith; inside = omega arith }
  all_smaller x f g false h = let k = h.alone in let i = laws.around ForAll x in let l = member_most g in record { alone = omega arith; inside = omega arith }

  any_within : (f g : Formula A ℕ) → IsWithin kit P Mentions within names (FreeIn kit P Mentions within names f) g → IsWithin kit P Mentions within names Any g
  any_within f g h = wider kit P Mentions within names (FreeIn kit P Mentions within names f) Any g (λ x t. tt) h

  pub passed_any : (f : Formula A ℕ) (ks : List A) → IsOrderly P f → IsWithin kit P Mentions within names Any (pass kit f ks)
  passed_any f ks h = any_within f (pass kit f ks) (pass_within kit P Mentions within names f ks h)

  -- the atoms of a list joined to the empty one
  abbrev pub begun : Junction → List A → Formulas A ℕ → Parts A
  begun j ks fs = with_atoms kit j ks fs (Open [] none)

  pub all_orderly : (fs : Formulas A ℕ) → AreOrderly P fs → AreWithin kit P Mentions within names Any fs
  all_orderly fs h = record { orderly = h; names = λ x t. tt }

  pub begun_within : (j : Junction) (ks : List A) (fs : Formulas A ℕ) → AreOrderly P fs → Within (begun j ks fs)
  begun_within j ks fs h = atoms_within kit P Mentions within names Any j ks fs (Open [] none) (all_orderly fs h) (start kit P Mentions within names Any)

  pub begun_size : (j : Junction) (ks : List A) (fs : Formulas A ℕ) → AreOrderly P fs → weight j (begun j ks fs) ≤ atoms_cost j fs
  begun_size j ks fs h = let t = atoms_size j ks fs (Open [] none) (all_orderly fs h) (start kit P Mentions within names Any) in omega arith

  list_smaller : (j : Junction) (fs : Formulas A ℕ) (ks : List A) → AreTwo fs → AreOrderly P fs → (weight j (others kit fs j ks (begun j ks fs)) ≤ others_cost j fs + weight j (begun j ks fs)) → size m (close j (others kit fs j ks (begun j ks fs))) ≤ m.head + members_size m fs j
  list_smaller j fs ks t h i =
      let a = begun_size j ks fs h in let b = costs j fs in let d = inner_cost j fs in
      close_size j (others kit fs j ks (begun j ks fs)) (members_size m fs j) (omega arith) (least_members fs j t h)

  mutual
    pub pass_smaller : (f : Formula A ℕ) (ks : List A) → IsOrderly P f → IsNoLarger (pass kit f ks) f
    pass_smaller Yes ks h = no_larger Yes
    pass_smaller No ks h = no_larger No
    pass_smaller (One a) ks h = decided_smaller a (decided kit ks a) h
    pass_smaller (Not f) ks h = absurd h
    pass_smaller (And fs) ks h =
        let k = list_smaller Conjunction fs ks h.0 h.1 (others_smaller fs Conjunction ks (begun Conjunction ks fs) h.1 (begun_within Conjunction ks fs h.1)) in
        let i = member_most (pass kit (And fs) ks) in
        record { alone = k; inside = omega arith }
    pass_smaller (Or fs) ks h =
        let k = list_smaller Disjunction fs ks h.0 h.1 (others_smaller fs Disjunction ks (begun Disjunction ks fs) h.1 (begun_within Disjunction ks fs h.1)) in
        let i = member_most (pass kit (Or fs) ks) in
        record { alone = k; inside = omega arith }
    pass_smaller (Impl f g) ks h = absurd h
    pass_smaller (Repl f g) ks h = absurd h
    pass_smaller (Equiv f g) ks h = absurd h
    pass_smaller (Ex x f) ks h = ex_smaller x f (pass kit f (without kit.contains x ks)) (is_free kit x (pass kit f (without kit.contains x ks))) (pass_smaller f (without kit.contains x ks) h)
    pass_smaller (All x f) ks h = all_smaller x f (pass kit f (without kit.contains x ks)) (is_free kit x (pass kit f (without kit.contains x ks))) (pass_smaller f (without kit.contains x ks) h)

    pub others_smaller : (fs : Formulas A ℕ) (j : Junction) (ks : List A) (s : Parts A) → AreOrderly P fs → Within s → weight j (others kit fs j ks s) ≤ others_cost j fs + weight j s
    others_smaller none j ks s h k = omega arith
    others_smaller (also f fs) j ks s h k =
        let q = known kit j s ks in
        let g = passed_any f q h.0 in
        let t = others_smaller fs j ks (with_passed kit j ks f (pass kit f q) s) h.1 (passed_within kit P Mentions within names Any j ks f (pass kit f q) s g k) in
        let i = passed_size j ks f (pass kit f q) s g k (pass_smaller f q h.0).inside in
        omega arith
