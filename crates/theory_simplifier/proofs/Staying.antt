-- A list of atoms of which none merges with one before it stays as it is where nothing is known.
use Rattle.std.proofs.Common.{◌≡◌, ℕ, zero, suc, ◌+◌, ◌<◌, ◌≤◌, Bool, true, false, nat_eq, not, cond, refl, sym, ap, ◌∙◌, subst, Option, Some, None, List, [], ◌∷◌, ◌++◌, length, drop, map, slice_get, arith, eq-eqb, ⊎_elim}
use Rattle.std.proofs.Math.IntN.{ℤ, pos}
use Rattle.std.specs.Prelude.{if◌then◌else◌, option_map}
use Rattle.std.specs.Ordering.{int_eq}
use Rattle.std.specs.Cmp.{unsigned_Decides}
use Rattle.std.proofs.lemmas.Bool.{cases_eq}
use Rattle.std.proofs.lemmas.List.{append-nil, append_assoc}
use Rattle.exact_numbers.specs.Divides.{content_of}
use Rattle.logic_meaning.specs.Context.{Context}
use Rattle.logic_meaning.specs.Some.{EachOf}
use Rattle.logic_meaning.specs.Form.{Term}
use Rattle.logic_meaning.specs.Formula.{One, And, Or, none, also}
use Rattle.logic_meaning.specs.Fold.{joined, from_pieces}
use Rattle.logic_meaning.specs.Members.{AreTwo}
use Rattle.logic_meaning.specs.Atom.{Atom, Compare, Congruent}
use Rattle.logic_meaning.specs.Tree.{Tree, Trees}
use Rattle.logic_meaning.specs.declared.junction.Junction.{Junction}
use Rattle.logic_meaning.specs.declared.junction.Junction.TheVariants.{Conjunction, Disjunction}
use Rattle.logic_meaning.specs.declared.form.VarId.{VarId}
use Rattle.linear_forms.specs.Linear.{term_of}
use Rattle.logic_meaning.specs.Terms.{coefficients}
use Rattle.logic_meaning.specs.Reduction.{quotients}
use Rattle.normal_atoms.specs.Computed.{IsNormalWithin, Kept, merged}
use Rattle.shape_theory.specs.AtomKit.{atom_kit}
use Rattle.shape_theory.specs.Orderly.{AreOrderly}
use Rattle.shape_theory.specs.Pass.{Parts, Open, close, opened, with_atoms, others, pass}
use Rattle.logic_meaning.specs.AtomsFirst.{ones}
use Rattle.shape_theory.specs.Simplifiable.{IsSimplifiable}
use Rattle.formula_tree.specs.Trees.{members}
use Rattle.theory_simplifier.specs.Parts.{one_tree}
use Rattle.theory_simplifier.specs.VariableParts.{part_of, mixed}
use Rattle.formula_tree.specs.declared.shape.Shape.{Shape}
use Rattle.formula_store.specs.declared.id.FormulaId.{FormulaId}
use Rattle.formula_store.specs.Nodes.{tree, IsId}
use Rattle.theory_simplifier.specs.Unchanged.{key_from, key_of, NoneMerges, AreTaken, IsSeen, AreSeen}
use Rattle.theory_simplifier.proofs.Partners.{with_last}
use Rattle.theory_simplifier.proofs.SameParts.{kept_apart}

-- ---- the number of an atom's names is that of its variable part

key_quotients : (d : ℤ) (ts : List Term) (k : ℕ) → key_from k (quotients d ts) ≡ key_from k ts
key_quotients d [] k = refl
key_quotients d (t ∷ ts) k = key_quotients d ts (mixed k t.name)

key_divided : (ts : List Term) (b : Bool) (d : ℤ) → key_from 0 (if b then ts else quotients d ts) ≡ key_from 0 ts
key_divided ts true d = refl
key_divided ts false d = key_quotients d ts 0

key_part : (a : Atom) → key_from 0 (part_of a).terms ≡ key_of a
key_part (Compare r f) = key_divided f.terms (int_eq (content_of (coefficients f.terms)) (pos 0)) (content_of (coefficients f.terms))
key_part (Congruent b m f) = refl

other_parts : (a b : Atom) → ¬ (key_of b ≡ key_of a) → ¬ (part_of b ≡ part_of a)
other_parts a b h e = h (sym (key_part b) ∙ ap (λ p. key_from 0 p.terms) e ∙ key_part a)

-- ---- the names of a form, one after another

pub drop_next : (ts : List Term) (i : ℕ) (t : Term) → slice_get ts i ≡ Some t → drop i ts ≡ t ∷ drop (suc i) ts
drop_next [] i t e = absurd (cc (e))
drop_next (x ∷ ts) zero t e = let h : x ≡ t = cc (e) in ap (λ y. y ∷ ts) h
drop_next (x ∷ ts) (suc i) t e = drop_next ts i t e

pub key_next : (ts : List Term) (i : ℕ) (t : Term) (k whole : ℕ) → slice_get ts i ≡ Some t → key_from k (drop i ts) ≡ whole → key_from (mixed k t.name) (drop (i + 1) ts) ≡ whole
key_next ts i t k whole e h =
    let n : i + 1 ≡ suc i = omega arith in
    ap (λ m. key_from (mixed k t.name) (drop m ts)) n ∙ sym (ap (key_from k) (drop_next ts i t e)) ∙ h

-- the same as the program reads the term
pub key_read : (ts : List Term) (i : ℕ) (o : Option (VarId × ℤ)) (p : VarId × ℤ) (k whole : ℕ) → o ≡ Some p → option_map term_of o ≡ slice_get ts i → key_from k (drop i ts) ≡ whole → key_from (mixed k p.0.number) (drop (i + 1) ts) ≡ whole
key_read ts i o p k whole e r h = key_next ts i (term_of p) k whole (sym r ∙ ap (option_map term_of) e) h

pub key_begins : (ts : List Term) → key_from 0 (drop 0 ts) ≡ key_from 0 ts
key_begins [] = refl
key_begins (t ∷ ts) = refl

pub drop_all : (ts : List Term) (i : ℕ) → length ts ≤ i → drop i ts ≡ []
drop_all [] zero h = refl
drop_all [] (suc i) h = refl
drop_all (t ∷ ts) zero h = absurd (omega arith)
drop_all (t ∷ ts) (suc i) h = drop_all ts i (omega arith)

pub key_ends : (ts : List Term) (i : ℕ) (k whole : ℕ) → length ts ≤ i → key_from k (drop i ts) ≡ whole → k ≡ whole
key_ends ts i k whole l h = sym (ap (key_from k) (drop_all ts i l)) ∙ h

term_there : (ts : List Term) (i : ℕ) → i < length ts → ¬ (slice_get ts i ≡ None)
term_there [] i l e = absurd (omega arith)
term_there (t ∷ ts) zero l e = cc (e)
term_there (t ∷ ts) (suc i) l e = term_there ts i (omega arith) e

pub no_term : (o : Option (VarId × ℤ)) (ts : List Term) (i : ℕ) → ((p : VarId × ℤ) → ¬ (o ≡ Some p)) → option_map term_of o ≡ slice_get ts i → ¬ (i < length ts)
no_term None ts i n e h = term_there ts i h (sym e)
no_term (Some p) ts i n e h = n p refl

-- ---- atoms that are apart

module _ {X : Type 0} where
  module _ (P : X → Type 0) where
    pub each_before : (xs : List X) (y : X) → EachOf P (xs ++ y ∷ []) → EachOf P xs × P y
    each_before [] y h = (tt, h.0)
    each_before (x ∷ xs) y h = let r = each_before xs y h.1 in ((h.0, r.0), r.1)

    each_snoc : (xs : List X) (y : X) → EachOf P xs → P y → EachOf P (xs ++ y ∷ [])
    each_snoc [] y h p = (p, tt)
    each_snoc (x ∷ xs) y h p = (h.0, each_snoc xs y h.1 p)

map_snoc : (us : List Atom) (a : Atom) → map one_tree (us ++ a ∷ []) ≡ map one_tree us ++ One a ∷ []
map_snoc [] a = refl
map_snoc (u ∷ us) a = ap (λ fs. One u ∷ fs) (map_snoc us a)

module _ (c : Context) (j : Junction) where
  -- one more that merges with none
  none_more : (us vs : List Atom) (a : Atom) → NoneMerges c j us vs → EachOf (λ b. merged c j b a ≡ Kept) (us ++ vs) → NoneMerges c j us (vs ++ a ∷ [])
  none_more us [] a h k = (subst (EachOf (λ b. merged c j b a ≡ Kept)) (append-nil us) k, tt)
  none_more us (v ∷ vs) a h k = (h.0, none_more (us ++ v ∷ []) vs a h.1 (subst (EachOf (λ b. merged c j b a ≡ Kept)) (sym (append_assoc us (v ∷ []) vs)) k))

  -- ---- what a pass makes of them

  taken : (us vs : List Atom) → NoneMerges c j us vs → with_atoms (atom_kit c) j [] (members (map one_tree vs)) (Open us none) ≡ Open (us ++ vs) none
  taken us [] h = ap (λ xs. Open xs none) (sym (append-nil us))
  taken us (a ∷ vs) h =
      ap (λ r. with_atoms (atom_kit c) j [] (members (map one_tree vs)) (opened r none)) (with_last c j a us h.0)
      ∙ taken (us ++ a ∷ []) vs h.1 ∙ ap (λ xs. Open xs none) (append_assoc us (a ∷ []) vs)

  passed_over : (vs : List Atom) (s : Parts Atom) → others (atom_kit c) (members (map one_tree vs)) j [] s ≡ s
  passed_over [] s = refl
  passed_over (a ∷ vs) s = passed_over vs s

  listed : (us : List Atom) → ones us none ≡ members (map one_tree us)
  listed [] = refl
  listed (a ∷ us) = ap (also (One a)) (listed us)

  two_joined : (fs : Trees) → AreTwo fs → from_pieces j (Some fs) ≡ joined j fs
  two_joined none h = absurd h
  two_joined (also f none) h = absurd h
  two_joined (also f (also g fs)) h = refl

  abbrev passed_list : Trees → Tree
  passed_list fs = close j (others (atom_kit c) fs j [] (with_atoms (atom_kit c) j [] fs (Open [] none)))

  atoms_stay : (us : List Atom) → AreTwo (members (map one_tree us)) → NoneMerges c j [] us → joined j (members (map one_tree us)) ≡ passed_list (members (map one_tree us))
  atoms_stay us two h =
      let fs = members (map one_tree us) in
      sym (ap (close j) (passed_over us (with_atoms (atom_kit c) j [] fs (Open [] none)) ∙ taken [] us h) ∙ ap (λ gs. from_pieces j (Some gs)) (listed us) ∙ two_joined fs two)

  list_stays : (fs : List Tree) → AreTaken c j fs → AreTwo (members fs) → AreOrderly (IsNormalWithin c) (members fs) → joined j (members fs) ≡ passed_list (members fs)
  list_stays fs t two n =
      let P : List Tree → Type 0 = λ gs. AreTwo (members gs) × AreOrderly (IsNormalWithin c) (members gs) in
      let h : P (map one_tree t.atoms) = subst P t.ones (two, n) in
      subst (λ gs. joined j (members gs) ≡ passed_list (members gs)) (sym t.ones) (atoms_stay t.atoms h.0 t.apart)

pub and_stays : (c : Context) (f : Tree) (fs : List Tree) (ks : List Atom) → f ≡ And (members fs) → ks ≡ [] → AreTaken c Conjunction fs → IsSimplifiable c f → f ≡ pass (atom_kit c) f ks
and_stays c f fs ks e n t h =
    let k : IsSimplifiable c (And (members fs)) = subst (IsSimplifiable c) e h in
    e ∙ list_stays c Conjunction fs t k.0 k.1 ∙ (λ i. pass (atom_kit c) (sym e i) (sym n i))

pub or_stays : (c : Context) (f : Tree) (fs : List Tree) (ks : List Atom) → f ≡ Or (members fs) → ks ≡ [] → AreTaken c Disjunction fs → IsSimplifiable c f → f ≡ pass (atom_kit c) f ks
or_stays c f fs ks e n t h =
    let k : IsSimplifiable c (Or (members fs)) = subst (IsSimplifiable c) e h in
    e ∙ list_stays c Disjunction fs t k.0 k.1 ∙ (λ i. pass (atom_kit c) (sym e i) (sym n i))

-- ---- formulas that are looked at one after another

pub not_false : (b : Bool) → not b ≡ true → b ≡ false
not_false true e = absurd (cc (e))
not_false false e = refl

same_key : (k : ℕ) → nat_eq k k ≡ true
same_key k = eq-eqb k k refl

pub none_seen : (c : Context) (j : Junction) (nodes : List (Shape FormulaId)) (first : ℕ → Option FormulaId) (second : ℕ → Bool) → ((k : ℕ) → first k ≡ None) → AreSeen c j nodes [] first second
none_seen c j nodes first second n = record { taken = record { atoms = []; ones = refl; apart = tt }; normal = tt; seen = tt; firsts = λ k x e. let w = n k in absurd (cc) }

module _ (c : Context) (j : Junction) (nodes : List (Shape FormulaId)) (fs : List Tree) (first : ℕ → Option FormulaId) (second : ℕ → Bool) (a : Atom) (n : IsNormalWithin c a) (h : AreSeen c j nodes fs first second) where
  -- an atom merges with none that was seen, if with none of its names
  kept_beside : (us : List Atom) → EachOf (IsNormalWithin c) us → EachOf (IsSeen nodes first second) us → ((b : Atom) → IsSeen nodes first second b → key_of b ≡ key_of a → merged c j b a ≡ Kept) →
      EachOf (λ b. merged c j b a ≡ Kept) us
  kept_beside [] m s f = tt
  kept_beside (b ∷ us) m s f = (⊎_elim (λ e. f b s.0 e) (λ ne. sym (kept_apart c b a m.0.normal n.normal (other_parts a b ne) j)) (cases_eq (key_of b) (key_of a)), kept_beside us m.1 s.1 f)

  abbrev more_taken : ((b : Atom) → IsSeen nodes first second b → key_of b ≡ key_of a → merged c j b a ≡ Kept) → AreTaken c j (fs ++ One a ∷ [])
  more_taken f = record {
    atoms = h.taken.atoms ++ a ∷ [];
    ones = ap (λ gs. gs ++ One a ∷ []) h.taken.ones ∙ sym (map_snoc h.taken.atoms a);
    apart = none_more c j [] h.taken.atoms a h.taken.apart (kept_beside h.taken.atoms h.normal h.seen f);
  }

  module _ (x : FormulaId) (first2 : ℕ → Option FormulaId) (none : first (key_of a) ≡ None) (put : (q : ℕ) → first2 q ≡ cond (nat_eq (key_of a) q) (Some x) (first q)) (one : tree nodes x ≡ One a) where
    here : first2 (key_of a) ≡ Some x
    here = put (key_of a) ∙ ap (λ t. cond t (Some x) (first (key_of a))) (same_key (key_of a))

    elsewhere : (q : ℕ) (t : Bool) → nat_eq (key_of a) q ≡ t → ¬ (first q ≡ None) → first2 q ≡ first q
    elsewhere q true e s = absurd (s (ap first (sym ((unsigned_Decides (key_of a) q).0 e)) ∙ none))
    elsewhere q false e s = put q ∙ ap (λ t. cond t (Some x) (first q)) e

    still_first : (us : List Atom) → EachOf (IsSeen nodes first second) us → EachOf (IsSeen nodes first2 second) us
    still_first [] s = tt
    still_first (b ∷ us) s =
        let same = elsewhere (key_of b) (nat_eq (key_of a) (key_of b)) refl s.0.0 in
        ((λ e. s.0.0 (sym same ∙ e), λ w y e. s.0.1 w y (sym same ∙ e)), still_first us s.1)

    firsts_more : (k : ℕ) (y : FormulaId) (t : Bool) → nat_eq (key_of a) k ≡ t → IsId nodes x × IsSimplifiable c (tree nodes x) → first2 k ≡ Some y → IsId nodes y × IsSimplifiable c (tree nodes y)
    firsts_more k y true e p f =
        let was : Some x ≡ Some y = sym (ap (λ t. cond t (Some x) (first k)) e) ∙ sym (put k) ∙ f in
        let is : x ≡ y = cc (was) in subst (λ (z : FormulaId). IsId nodes z × IsSimplifiable c (tree nodes z)) is p
    firsts_more k y false e p f = h.firsts k y (sym (ap (λ t. cond t (Some x) (first k)) e) ∙ sym (put k) ∙ f)

    -- the first with its names
    pub first_seen : IsId nodes x × IsSimplifiable c (tree nodes x) → AreSeen c j nodes (fs ++ One a ∷ []) first2 second
    first_seen p = record {
      taken = more_taken (λ b s e. absurd (s.0 (ap first e ∙ none)));
      normal = each_snoc (IsNormalWithin c) h.taken.atoms a h.normal n;
      seen = each_snoc (IsSeen nodes first2 second) h.taken.atoms a (still_first h.taken.atoms h.seen)
          (λ e. let w : Some x ≡ None = sym here ∙ e in absurd (cc (w)), λ w y e. let s : Some x ≡ Some y = sym here ∙ e in let is : x ≡ y = cc (s) in subst (λ (z : FormulaId). tree nodes z ≡ One a) is one);
      firsts = λ k y f. firsts_more k y (nat_eq (key_of a) k) refl p f;
    }

  module _ (x : FormulaId) (second2 : ℕ → Bool) (found : first (key_of a) ≡ Some x) (new : second (key_of a) ≡ false) (put : (q : ℕ) → second2 q ≡ cond (nat_eq (key_of a) q) true (second q)) where
    was_alone : (q : ℕ) (t : Bool) → nat_eq (key_of a) q ≡ t → second2 q ≡ false → second q ≡ false
    was_alone q true e w = let k : true ≡ false = sym (put q ∙ ap (λ t. cond t true (second q)) e) ∙ w in absurd (cc (k))
    was_alone q false e w = sym (put q ∙ ap (λ t. cond t true (second q)) e) ∙ w

    still_second : (us : List Atom) → EachOf (IsSeen nodes first second) us → EachOf (IsSeen nodes first second2) us
    still_second [] s = tt
    still_second (b ∷ us) s = ((s.0.0, λ w y e. s.0.1 (was_alone (key_of b) (nat_eq (key_of a) (key_of b)) refl w) y e), still_second us s.1)

    -- the second with its names
    pub second_seen : ((b : Atom) → tree nodes x ≡ One b → merged c j b a ≡ Kept) → AreSeen c j nodes (fs ++ One a ∷ []) first second2
    second_seen keeps = record {
      taken = more_taken (λ b s e. keeps b (s.1 (ap second e ∙ new) x (ap first e ∙ found)));
      normal = each_snoc (IsNormalWithin c) h.taken.atoms a h.normal n;
      seen = each_snoc (IsSeen nodes first second2) h.taken.atoms a (still_second h.taken.atoms h.seen)
          (λ e. let w : Some x ≡ None = sym found ∙ e in absurd (cc (w)), λ w y e. let k : true ≡ false = sym (put (key_of a) ∙ ap (λ t. cond t true (second (key_of a))) (same_key (key_of a))) ∙ w in absurd (cc (k)));
      firsts = h.firsts;
    }
