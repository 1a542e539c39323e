-- Simplification quantifies no name that the formula does not quantify.
use Rattle.std.proofs.Common.{ℕ, Bool, true, false, List, [], ◌∷◌, Option, Some, None}
use Rattle.logic_meaning.specs.Formula.{Formula, Formulas, Yes, No, One, Not, And, Or, Impl, Repl, Equiv, Ex, All, none, also}
use Rattle.logic_meaning.specs.Every.{EveryBound, EveryBoundOf}
use Rattle.logic_meaning.specs.Fold.{append, pieces_of, from_pieces}
use Rattle.logic_meaning.specs.declared.junction.Junction.{Junction}
use Rattle.logic_meaning.specs.declared.junction.Junction.TheVariants.{Conjunction, Disjunction}
use Rattle.logic_meaning.specs.Shape.{IsQuantifierFree, AreQuantifierFree}
use Rattle.logic_meaning.specs.Sizes.{nodes}
use Rattle.shape_theory.specs.Orderly.{IsOrderly, AreOrderly}
use Rattle.logic_meaning.specs.AtomKit.{without}
use Rattle.shape_theory.specs.Kit.{Kit}
use Rattle.shape_theory.specs.Pass.{Parts, Closed, Open, close, opened, closed_if, settles, atom_or, constant, pushed_unless, decided, with_one, by_decision, with_atom, has, with_other, with_piece, with_pieces, with_member, with_atom_first, with_atoms, with_passed, known, is_free, quantified, pass, others, simplified}
use Rattle.logic_meaning.specs.AtomsFirst.{ones}
use Rattle.shape_theory.proofs.Simplified.{repeated_keeps}

-- ---- without quantifiers no name is quantified, and the other way round

module _ {A : Type 0} where
  mutual
    pub free_bound : (f : Formula A ℕ) → IsQuantifierFree f → EveryBound (λ x. ⊥) f
    free_bound Yes h = tt
    free_bound No h = tt
    free_bound (One a) h = tt
    free_bound (Not f) h = free_bound f h
    free_bound (And fs) h = all_free_bound fs h
    free_bound (Or fs) h = all_free_bound fs h
    free_bound (Impl f g) h = (free_bound f h.0, free_bound g h.1)
    free_bound (Repl f g) h = (free_bound f h.0, free_bound g h.1)
    free_bound (Equiv f g) h = (free_bound f h.0, free_bound g h.1)
    free_bound (Ex x f) h = absurd h
    free_bound (All x f) h = absurd h

    all_free_bound : (fs : Formulas A ℕ) → AreQuantifierFree fs → EveryBoundOf (λ x. ⊥) fs
    all_free_bound none h = tt
    all_free_bound (also f fs) h = (free_bound f h.0, all_free_bound fs h.1)

  module _ (P : A → Type 0) where
    mutual
      pub orderly_free : (f : Formula A ℕ) → IsOrderly P f → EveryBound (λ x. ⊥) f → IsQuantifierFree f
      orderly_free Yes o h = tt
      orderly_free No o h = tt
      orderly_free (One a) o h = tt
      orderly_free (Not f) o h = absurd o
      orderly_free (And fs) o h = all_orderly_free fs o.1 h
      orderly_free (Or fs) o h = all_orderly_free fs o.1 h
      orderly_free (Impl f g) o h = absurd o
      orderly_free (Repl f g) o h = absurd o
      orderly_free (Equiv f g) o h = absurd o
      orderly_free (Ex x f) o h = absurd h.0
      orderly_free (All x f) o h = absurd h.0

      all_orderly_free : (fs : Formulas A ℕ) → AreOrderly P fs → EveryBoundOf (λ x. ⊥) fs → AreQuantifierFree fs
      all_orderly_free none o h = tt
      all_orderly_free (also f fs) o h = (orderly_free f o.0 h.0, all_orderly_free fs o.1 h.1)

module _ {A : Type 0} (kit : Kit A) (K : ℕ → Type 0) where
  abbrev Bound : Formula A ℕ → Type 0
  Bound f = EveryBound K f

  abbrev AllBound : Formulas A ℕ → Type 0
  AllBound fs = EveryBoundOf K fs

  abbrev PartsBound : Parts A → Type 0
  PartsBound Closed = Unit {0}
  PartsBound (Open us gs) = AllBound gs

  abbrev PiecesBound : Option (Formulas A ℕ) → Type 0
  PiecesBound None = Unit {0}
  PiecesBound (Some fs) = AllBound fs

  constant_bound : (b : Bool) → Bound (constant b)
  constant_bound true = tt
  constant_bound false = tt

  atom_or_bound : (a : A) (o : Option Bool) → Bound (atom_or a o)
  atom_or_bound a None = tt
  atom_or_bound a (Some b) = constant_bound b

  -- ---- a list closed

  ones_bound : (us : List A) (gs : Formulas A ℕ) → AllBound gs → AllBound (ones us gs)
  ones_bound [] gs h = h
  ones_bound (a ∷ us) gs h = (tt, ones_bound us gs h)

  from_bound : (j : Junction) (fs : Formulas A ℕ) → AllBound fs → Bound (from_pieces j (Some fs))
  from_bound Conjunction none h = tt
  from_bound Disjunction none h = tt
  from_bound Conjunction (also f none) h = h.0
  from_bound Disjunction (also f none) h = h.0
  from_bound Conjunction (also f (also g gs)) h = h
  from_bound Disjunction (also f (also g gs)) h = h

  close_bound : (j : Junction) (s : Parts A) → PartsBound s → Bound (close j s)
  close_bound Conjunction Closed h = tt
  close_bound Disjunction Closed h = tt
  close_bound Conjunction (Open us gs) h = from_bound Conjunction (ones us gs) (ones_bound us gs h)
  close_bound Disjunction (Open us gs) h = from_bound Disjunction (ones us gs) (ones_bound us gs h)

  -- ---- a member more

  opened_bound : (o : Option (List A)) (gs : Formulas A ℕ) → AllBound gs → PartsBound (opened o gs)
  opened_bound None gs h = tt
  opened_bound (Some us) gs h = h

  closed_if_bound : (b : Bool) (us : List A) (gs : Formulas A ℕ) → AllBound gs → PartsBound (closed_if b us gs)
  closed_if_bound true us gs h = tt
  closed_if_bound false us gs h = h

  decision_bound : (o : Option Bool) (j : Junction) (a : A) (us : List A) (gs : Formulas A ℕ) → AllBound gs → PartsBound (by_decision kit o j a us gs)
  decision_bound (Some b) j a us gs h = closed_if_bound (settles j b) us gs h
  decision_bound None j a us gs h = opened_bound (with_one kit j a us) gs h

  atom_bound : (j : Junction) (ks : List A) (a : A) (s : Parts A) → PartsBound s → PartsBound (with_atom kit j ks a s)
  atom_bound j ks a Closed h = tt
  atom_bound j ks a (Open us gs) h = decision_bound (decided kit ks a) j a us gs h

  append_bound : (fs gs : Formulas A ℕ) → AllBound fs → AllBound gs → AllBound (append fs gs)
  append_bound none gs h k = k
  append_bound (also f fs) gs h k = (h.0, append_bound fs gs h.1 k)

  pushed_bound : (b : Bool) (f : Formula A ℕ) (gs : Formulas A ℕ) → Bound f → AllBound gs → AllBound (pushed_unless b f gs)
  pushed_bound true f gs h k = k
  pushed_bound false f gs h k = append_bound gs (also f none) k (h, tt)

  other_bound : (f : Formula A ℕ) (s : Parts A) → Bound f → PartsBound s → PartsBound (with_other kit f s)
  other_bound f Closed h k = tt
  other_bound f (Open us gs) h k = pushed_bound (has kit gs f) f gs h k

  piece_bound : (j : Junction) (ks : List A) (f : Formula A ℕ) (s : Parts A) → Bound f → PartsBound s → PartsBound (with_piece kit j ks f s)
  piece_bound j ks (One a) s h k = atom_bound j ks a s k
  piece_bound j ks f s h k = other_bound f s h k

  pieces_bound : (j : Junction) (ks : List A) (fs : Formulas A ℕ) (s : Parts A) → AllBound fs → PartsBound s → PartsBound (with_pieces kit j ks fs s)
  pieces_bound j ks none s h k = k
  pieces_bound j ks (also f fs) s h k = pieces_bound j ks fs (with_piece kit j ks f s) h.1 (piece_bound j ks f s h.0 k)

  pieces_hold : (j : Junction) (f : Formula A ℕ) → Bound f → PiecesBound (pieces_of j f)
  pieces_hold Conjunction Yes h = tt
  pieces_hold Conjunction No h = tt
  pieces_hold Conjunction (And fs) h = h
  pieces_hold Conjunction f h = (h, tt)
  pieces_hold Disjunction Yes h = tt
  pieces_hold Disjunction No h = tt
  pieces_hold Disjunction (Or fs) h = h
  pieces_hold Disjunction f h = (h, tt)

  member_bound : (j : Junction) (ks : List A) (o : Option (Formulas A ℕ)) (s : Parts A) → PiecesBound o → PartsBound s → PartsBound (with_member kit j ks o s)
  member_bound j ks None s h k = tt
  member_bound j ks (Some fs) s h k = pieces_bound j ks fs s h k

  first_bound : (j : Junction) (ks : List A) (f : Formula A ℕ) (s : Parts A) → PartsBound s → PartsBound (with_atom_first kit j ks f s)
  first_bound j ks (One a) s k = atom_bound j ks a s k
  first_bound j ks f s k = k

  firsts_bound : (j : Junction) (ks : List A) (fs : Formulas A ℕ) (s : Parts A) → PartsBound s → PartsBound (with_atoms kit j ks fs s)
  firsts_bound j ks none s k = k
  firsts_bound j ks (also f fs) s k = firsts_bound j ks fs (with_atom_first kit j ks f s) (first_bound j ks f s k)

  passed_bound : (j : Junction) (ks : List A) (f g : Formula A ℕ) (s : Parts A) → Bound g → PartsBound s → PartsBound (with_passed kit j ks f g s)
  passed_bound j ks (One a) g s h k = k
  passed_bound j ks f g s h k = member_bound j ks (pieces_of j g) s (pieces_hold j g h) k

  quantified_bound : (q : Formula A ℕ → Formula A ℕ) (b : Bool) (f : Formula A ℕ) → (Bound f → Bound (q f)) → Bound f → Bound (quantified q b f)
  quantified_bound q true f h k = h k
  quantified_bound q false f h k = k

  -- ---- the pass

  mutual
    pub pass_bound : (f : Formula A ℕ) (ks : List A) → Bound f → Bound (pass kit f ks)
    pass_bound Yes ks h = tt
    pass_bound No ks h = tt
    pass_bound (One a) ks h = atom_or_bound a (decided kit ks a)
    pass_bound (Not f) ks h = h
    pass_bound (And fs) ks h = close_bound Conjunction _ (others_bound fs Conjunction ks (with_atoms kit Conjunction ks fs (Open [] none)) h (firsts_bound Conjunction ks fs (Open [] none) tt))
    pass_bound (Or fs) ks h = close_bound Disjunction _ (others_bound fs Disjunction ks (with_atoms kit Disjunction ks fs (Open [] none)) h (firsts_bound Disjunction ks fs (Open [] none) tt))
    pass_bound (Impl f g) ks h = h
    pass_bound (Repl f g) ks h = h
    pass_bound (Equiv f g) ks h = h
    pass_bound (Ex x f) ks h =
        let g = pass kit f (without kit.contains x ks) in
        quantified_bound (Ex x) (is_free kit x g) g (λ k. (h.0, k)) (pass_bound f (without kit.contains x ks) h.1)
    pass_bound (All x f) ks h =
        let g = pass kit f (without kit.contains x ks) in
        quantified_bound (All x) (is_free kit x g) g (λ k. (h.0, k)) (pass_bound f (without kit.contains x ks) h.1)

    others_bound : (fs : Formulas A ℕ) (j : Junction) (ks : List A) (s : Parts A) → AllBound fs → PartsBound s → PartsBound (others kit fs j ks s)
    others_bound none j ks s h k = k
    others_bound (also f fs) j ks s h k =
        let g = pass kit f (known kit j s ks) in
        others_bound fs j ks (with_passed kit j ks f g s) h.1 (passed_bound j ks f g s (pass_bound f (known kit j s ks) h.0) k)

  pub simplified_bound : (f : Formula A ℕ) (ks : List A) → Bound f → Bound (simplified kit f ks)
  simplified_bound f ks h = repeated_keeps kit ks Bound (λ g k. pass_bound g ks k) (nodes f) f h
