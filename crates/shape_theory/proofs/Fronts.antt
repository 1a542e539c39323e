-- A formula in which no quantified name of a member stands in another member has the truth and the free names of the formula
-- with its quantifiers in front.
use Rattle.std.proofs.Common.{◌≡◌, ℕ, ◌⊎◌, inl, inr, ⊎_elim, ◌↔◌, List, [], ◌∷◌, ◌++◌, ap, sym, subst, refl, nat_eq}
use Rattle.std.proofs.Math.IntN.{pos}
use Rattle.logic_meaning.specs.Context.{Context}
use Rattle.logic_meaning.specs.Point.{Point, Of, move}
use Rattle.logic_meaning.specs.Formula.{Yes, No, One, Not, And, Or, Impl, Repl, Equiv, Ex, All, none, also}
use Rattle.logic_meaning.specs.Fold.{joined}
use Rattle.logic_meaning.specs.declared.junction.Junction.{Junction}
use Rattle.logic_meaning.specs.declared.junction.Junction.TheVariants.{Conjunction, Disjunction}
use Rattle.logic_meaning.specs.Plain.{IsNegationNormal, AreNegationNormal}
use Rattle.logic_meaning.specs.declared.quantifier.Quantifier.{Quantifier}
use Rattle.logic_meaning.specs.declared.quantifier.Quantifier.TheVariants.{Exists, ForAll}
use Rattle.logic_meaning.specs.Atom.{Mentions}
use Rattle.formula_laws.specs.TheoryAtoms.{AtomIn}
use Rattle.logic_meaning.specs.Every.{EveryOf, EveryBound, EveryBoundOf, FreeInSome}
use Rattle.logic_meaning.specs.Some.{EachOf}
use Rattle.logic_meaning.specs.Tree.{Tree, Trees, TrueAt, IsFree}
use Rattle.formula_laws.specs.Equivalence.{InContext, Equivalent}
use Rattle.formula_laws.proofs.Equivalence.{absent_moved, one_allowed, congruence}
use Rattle.formula_laws.proofs.TreeReplacing.{moved_of}
use Rattle.elimination_theory.proofs.BothTheories.{decided}
use Rattle.logic_meaning.specs.Blocks.{other_kind, in_first, joined_blocks, blocks, blocks_of, matrix, matrices}
use Rattle.logic_meaning.specs.Front.{quantified, block, prefixed}

-- both, or one of them
abbrev pub Joins : Junction → Type 0 → Type 0 → Type 0
Joins Conjunction P Q = P × Q
Joins Disjunction P Q = P ⊎ Q

-- h is true where f and g are joined, and has the names of both
pub record IsJoin (c : Context) (j : Junction) (f g h : Tree) : Type 0 where
  pub truth : (p : Point ℕ) → Of c p → TrueAt c h p ↔ Joins j (TrueAt c f p) (TrueAt c g p)
  pub names : (x : ℕ) → IsFree h x ↔ (IsFree f x ⊎ IsFree g x)
  pub first : InContext c f
  pub second : InContext c g

-- the two have one truth and the same free names
pub record IsSame (c : Context) (f g : Tree) : Type 0 where
  pub truth : Equivalent c f g
  pub names : (x : ℕ) → IsFree f x ↔ IsFree g x

joins_turn : (j : Junction) (P Q : Type 0) → Joins j P Q → Joins j Q P
joins_turn Conjunction P Q h = (h.1, h.0)
joins_turn Disjunction P Q h = ⊎_elim inr inl h

turned_join : (c : Context) (j : Junction) (f g h : Tree) → IsJoin c j f g h → IsJoin c j g f h
turned_join c j f g h i = record {
  truth = λ p o. let e = i.truth p o in (λ t. joins_turn j _ _ (e.0 t), λ t. e.1 (joins_turn j _ _ t));
  names = λ x. let e = i.names x in (λ t. ⊎_elim inr inl (e.0 t), λ t. e.1 (⊎_elim inr inl t));
  first = i.second;
  second = i.first;
}

-- ---- quantifiers

quantified_free : (q : Quantifier) (x : ℕ) (f : Tree) (y : ℕ) → IsFree (quantified q x f) y ↔ (¬ (x ≡ y) × IsFree f y)
quantified_free Exists x f y = (λ t. t, λ t. t)
quantified_free ForAll x f y = (λ t. t, λ t. t)

quantified_in : (c : Context) (q : Quantifier) (x : ℕ) (f : Tree) → InContext c f → InContext c (quantified q x f)
quantified_in c Exists x f i = i
quantified_in c ForAll x f i = i

same_quantified : (c : Context) (q : Quantifier) (x : ℕ) (f g : Tree) → IsSame c f g → IsSame c (quantified q x f) (quantified q x g)
same_quantified c Exists x f g s = record {
  truth = (congruence c).of_ex x f g s.truth;
  names = λ y. (λ t. (t.0, (s.names y).0 t.1), λ t. (t.0, (s.names y).1 t.1));
}
same_quantified c ForAll x f g s = record {
  truth = (congruence c).of_all x f g s.truth;
  names = λ y. (λ t. (t.0, (s.names y).0 t.1), λ t. (t.0, (s.names y).1 t.1));
}

-- one quantifier goes in front, where its name does not stand in the other part
pulled_truth : (c : Context) (j : Junction) (q : Quantifier) (x : ℕ) (f g h : Tree) → IsJoin c j f g h → ¬ (IsFree g x) → (p : Point ℕ) → Of c p →
    TrueAt c (quantified q x h) p ↔ Joins j (TrueAt c (quantified q x f) p) (TrueAt c g p)
pulled_truth c Conjunction Exists x f g h i n p o = (
  λ t. let u = (i.truth (move nat_eq p x t.0 t.1) (moved_of c p x t.0 t.1 o t.2)).0 t.3 in ((t.0, t.1, t.2, u.0), (absent_moved c g p x t.0 t.1 n t.2).1 u.1),
  λ t. let k = t.0.0 in let m = t.0.1 in let a = t.0.2 in (k, m, a, (i.truth (move nat_eq p x k m) (moved_of c p x k m o a)).1 (t.0.3, (absent_moved c g p x k m n a).0 t.1)),
)
pulled_truth c Disjunction Exists x f g h i n p o = (
  λ t. ⊎_elim (λ u. inl (t.0, t.1, t.2, u)) (λ u. inr ((absent_moved c g p x t.0 t.1 n t.2).1 u)) ((i.truth (move nat_eq p x t.0 t.1) (moved_of c p x t.0 t.1 o t.2)).0 t.3),
  ⊎_elim (λ t. (t.0, t.1, t.2, (i.truth (move nat_eq p x t.0 t.1) (moved_of c p x t.0 t.1 o t.2)).1 (inl t.3)))
      (λ t. let a = one_allowed c in (pos 0, 1, a, (i.truth (move nat_eq p x (pos 0) 1) (moved_of c p x (pos 0) 1 o a)).1 (inr ((absent_moved c g p x (pos 0) 1 n a).0 t)))),
)
pulled_truth c Conjunction ForAll x f g h i n p o = (
  λ t. (
    λ k m a. ((i.truth (move nat_eq p x k m) (moved_of c p x k m o a)).0 (t k m a)).0,
    let a = one_allowed c in (absent_moved c g p x (pos 0) 1 n a).1 ((i.truth (move nat_eq p x (pos 0) 1) (moved_of c p x (pos 0) 1 o a)).0 (t (pos 0) 1 a)).1,
  ),
  λ t k m a. (i.truth (move nat_eq p x k m) (moved_of c p x k m o a)).1 (t.0 k m a, (absent_moved c g p x k m n a).0 t.1),
)
pulled_truth c Disjunction ForAll x f g h i n p o = (
  λ t. ⊎_elim inr (λ u. inl (λ k m a. ⊎_elim (λ v. v) (λ v. absurd (u ((absent_moved c g p x k m n a).1 v))) ((i.truth (move nat_eq p x k m) (moved_of c p x k m o a)).0 (t k m a)))) (decided c g p i.second o),
  ⊎_elim (λ t k m a. (i.truth (move nat_eq p x k m) (moved_of c p x k m o a)).1 (inl (t k m a)))
      (λ t k m a. (i.truth (move nat_eq p x k m) (moved_of c p x k m o a)).1 (inr ((absent_moved c g p x k m n a).0 t))),
)

pulled : (c : Context) (j : Junction) (q : Quantifier) (x : ℕ) (f g h : Tree) → IsJoin c j f g h → ¬ (IsFree g x) → IsJoin c j (quantified q x f) g (quantified q x h)
pulled c j q x f g h i n = record {
  truth = pulled_truth c j q x f g h i n;
  names = λ y. let a = quantified_free q x h y in let b = quantified_free q x f y in let e = i.names y in (
    λ t. ⊎_elim (λ u. inl (b.1 ((a.0 t).0, u))) inr (e.0 (a.0 t).1),
    ⊎_elim (λ t. a.1 ((b.0 t).0, e.1 (inl (b.0 t).1))) (λ t. a.1 (λ s. n (subst (λ z. IsFree g z) (sym s) t), e.1 (inr t))),
  );
  first = quantified_in c q x f i.first;
  second = i.second;
}

-- ---- blocks and prefixes

block_pulled : (c : Context) (j : Junction) (q : Quantifier) (xs : List ℕ) (f g h : Tree) → IsJoin c j f g h → EachOf (λ x. ¬ (IsFree g x)) xs → IsJoin c j (block q xs f) g (block q xs h)
block_pulled c j q [] f g h i n = i
block_pulled c j q (x ∷ xs) f g h i n = pulled c j q x (block q xs f) g (block q xs h) (block_pulled c j q xs f g h i n.1) n.0

prefix_pulled : (c : Context) (j : Junction) (q : Quantifier) (bs : List (List ℕ)) (f g h : Tree) → IsJoin c j f g h → EachOf (EachOf (λ x. ¬ (IsFree g x))) bs →
    IsJoin c j (prefixed q bs f) g (prefixed q bs h)
prefix_pulled c j q [] f g h i n = i
prefix_pulled c j q (b ∷ bs) f g h i n =
    block_pulled c j q b (prefixed (other_kind q) bs f) g (prefixed (other_kind q) bs h) (prefix_pulled c j (other_kind q) bs f g h i n.1) n.0

block_free : (q : Quantifier) (xs : List ℕ) (f : Tree) (y : ℕ) → IsFree (block q xs f) y → IsFree f y
block_free q [] f y t = t
block_free q (x ∷ xs) f y t = block_free q xs f y ((quantified_free q x (block q xs f) y).0 t).1

prefix_free : (q : Quantifier) (bs : List (List ℕ)) (f : Tree) (y : ℕ) → IsFree (prefixed q bs f) y → IsFree f y
prefix_free q [] f y t = t
prefix_free q (b ∷ bs) f y t = prefix_free (other_kind q) bs f y (block_free q b (prefixed (other_kind q) bs f) y t)

each_fewer : (P Q : ℕ → Type 0) → ((x : ℕ) → P x → Q x) → (xs : List ℕ) → EachOf P xs → EachOf Q xs
each_fewer P Q f [] h = tt
each_fewer P Q f (x ∷ xs) h = (f x h.0, each_fewer P Q f xs h.1)

fewer_each : (P Q : ℕ → Type 0) → ((x : ℕ) → P x → Q x) → (bs : List (List ℕ)) → EachOf (EachOf P) bs → EachOf (EachOf Q) bs
fewer_each P Q f [] h = tt
fewer_each P Q f (b ∷ bs) h = (each_fewer P Q f b h.0, fewer_each P Q f bs h.1)

block_append : (q : Quantifier) (xs ys : List ℕ) (f : Tree) → block q (xs ++ ys) f ≡ block q xs (block q ys f)
block_append q [] ys f = refl
block_append q (x ∷ xs) ys f = ap (quantified q x) (block_append q xs ys f)

-- two prefixes go in front together, where no name of the one stands behind the other
prefixes_joined : (c : Context) (j : Junction) (q : Quantifier) (bs cs : List (List ℕ)) (f g h : Tree) → IsJoin c j f g h →
    EachOf (EachOf (λ x. ¬ (IsFree g x))) bs → EachOf (EachOf (λ x. ¬ (IsFree f x))) cs → IsJoin c j (prefixed q bs f) (prefixed q cs g) (prefixed q (joined_blocks bs cs) h)
prefixes_joined c j q [] cs f g h i m n = turned_join c j (prefixed q cs g) f (prefixed q cs h) (prefix_pulled c j q cs g f h (turned_join c j f g h i) n)
prefixes_joined c j q (b ∷ bs) [] f g h i m n = prefix_pulled c j q (b ∷ bs) f g h i m
prefixes_joined c j q (b ∷ bs) (d ∷ ds) f g h i m n =
    let r = other_kind q in
    let f1 = prefixed r bs f in let g1 = prefixed r ds g in let h1 = prefixed r (joined_blocks bs ds) h in
    let k = prefixes_joined c j r bs ds f g h i m.1 n.1 in
    let right = block_pulled c j q d g1 f1 h1 (turned_join c j f1 g1 h1 k)
    (each_fewer (λ x. ¬ (IsFree f x)) (λ x. ¬ (IsFree f1 x)) (λ x u t. u (prefix_free r bs f x t)) d n.0) in
    let left = block_pulled c j q b f1 (block q d g1) (block q d h1) (turned_join c j (block q d g1) f1 (block q d h1) right)
    (each_fewer (λ x. ¬ (IsFree g x)) (λ x. ¬ (IsFree (block q d g1) x)) (λ x u t. u (prefix_free r ds g x (block_free q d g1 x t))) b m.0) in
    subst (λ z. IsJoin c j (block q b f1) (block q d g1) z) (sym (block_append q b d h1)) left

-- ---- formulas

abbrev mutual
  -- no quantified name of a member stands in the matrix of another
  pub IsApart : Tree → Type 0
  IsApart Yes = Unit {0}
  IsApart No = Unit {0}
  IsApart (One a) = Unit {0}
  IsApart (Not f) = Unit {0}
  IsApart (And fs) = AreApart fs
  IsApart (Or fs) = AreApart fs
  IsApart (Impl f g) = Unit {0}
  IsApart (Repl f g) = Unit {0}
  IsApart (Equiv f g) = Unit {0}
  IsApart (Ex x f) = IsApart f
  IsApart (All x f) = IsApart f

  pub AreApart : Trees → Type 0
  AreApart none = Unit {0}
  AreApart (also f fs) = IsApart f × AreApart fs × EveryBound (λ x. ¬ (FreeInSome Mentions (matrices fs) x)) f × EveryBoundOf (λ x. ¬ (IsFree (matrix f) x)) fs

module _ (K : ℕ → Type 0) where
  first_each : (x : ℕ) (bs : List (List ℕ)) → K x → EachOf (EachOf K) bs → EachOf (EachOf K) (in_first x bs)
  first_each x [] k h = ((k, tt), tt)
  first_each x (b ∷ bs) k h = ((k, h.0), h.1)

  append_each : (xs ys : List ℕ) → EachOf K xs → EachOf K ys → EachOf K (xs ++ ys)
  append_each [] ys h k = k
  append_each (x ∷ xs) ys h k = (h.0, append_each xs ys h.1 k)

  joined_each : (bs cs : List (List ℕ)) → EachOf (EachOf K) bs → EachOf (EachOf K) cs → EachOf (EachOf K) (joined_blocks bs cs)
  joined_each [] cs h k = k
  joined_each (b ∷ bs) [] h k = h
  joined_each (b ∷ bs) (d ∷ ds) h k = (append_each b d h.0 k.0, joined_each bs ds h.1 k.1)

  mutual
    -- the names of the blocks are those that are quantified
    pub blocks_each : (f : Tree) (q : Quantifier) → EveryBound K f → EachOf (EachOf K) (blocks f q)
    blocks_each Yes q h = tt
    blocks_each No q h = tt
    blocks_each (One a) q h = tt
    blocks_each (Not f) q h = tt
    blocks_each (And fs) q h = blocks_of_each fs q h
    blocks_each (Or fs) q h = blocks_of_each fs q h
    blocks_each (Impl f g) q h = tt
    blocks_each (Repl f g) q h = tt
    blocks_each (Equiv f g) q h = tt
    blocks_each (Ex x f) Exists h = first_each x (blocks f Exists) h.0 (blocks_each f Exists h.1)
    blocks_each (Ex x f) ForAll h = (tt, first_each x (blocks f Exists) h.0 (blocks_each f Exists h.1))
    blocks_each (All x f) Exists h = (tt, first_each x (blocks f ForAll) h.0 (blocks_each f ForAll h.1))
    blocks_each (All x f) ForAll h = first_each x (blocks f ForAll) h.0 (blocks_each f ForAll h.1)

    blocks_of_each : (fs : Trees) (q : Quantifier) → EveryBoundOf K fs → EachOf (EachOf K) (blocks_of fs q)
    blocks_of_each none q h = tt
    blocks_of_each (also f fs) q h = joined_each (blocks f q) (blocks_of fs q) (blocks_each f q h.0) (blocks_of_each fs q h.1)

module _ (c : Context) where
  mutual
    pub matrix_in : (f : Tree) → InContext c f → InContext c (matrix f)
    matrix_in Yes i = i
    matrix_in No i = i
    matrix_in (One a) i = i
    matrix_in (Not f) i = i
    matrix_in (And fs) i = matrices_in fs i
    matrix_in (Or fs) i = matrices_in fs i
    matrix_in (Impl f g) i = i
    matrix_in (Repl f g) i = i
    matrix_in (Equiv f g) i = i
    matrix_in (Ex x f) i = matrix_in f i
    matrix_in (All x f) i = matrix_in f i

    matrices_in : (fs : Trees) → EveryOf (AtomIn c) fs → EveryOf (AtomIn c) (matrices fs)
    matrices_in none i = tt
    matrices_in (also f fs) i = (matrix_in f i.0, matrices_in fs i.1)

  joined_in : (j : Junction) (fs : Trees) → EveryOf (AtomIn c) fs → InContext c (joined j fs)
  joined_in Conjunction fs i = i
  joined_in Disjunction fs i = i

  -- the first member and the others
  member_joins : (j : Junction) (f : Tree) (fs : Trees) → InContext c f → EveryOf (AtomIn c) fs → IsJoin c j f (joined j fs) (joined j (also f fs))
  member_joins Conjunction f fs h k = record { truth = λ p o. (λ t. t, λ t. t); names = λ x. (λ t. t, λ t. t); first = h; second = k }
  member_joins Disjunction f fs h k = record { truth = λ p o. (λ t. t, λ t. t); names = λ x. (λ t. t, λ t. t); first = h; second = k }

  joined_free : (j : Junction) (fs : Trees) (x : ℕ) → IsFree (joined j fs) x → FreeInSome Mentions fs x
  joined_free Conjunction fs x t = t
  joined_free Disjunction fs x t = t

  same_joined : (j : Junction) (f g h f1 g1 h1 : Tree) → IsJoin c j f g h → IsJoin c j f1 g1 h1 → IsSame c f f1 → IsSame c g g1 → IsSame c h h1
  same_joined Conjunction f g h f1 g1 h1 i k s u = record {
    truth = λ p o. (
      λ t. let w = (i.truth p o).0 t in (k.truth p o).1 ((s.truth p o).0 w.0, (u.truth p o).0 w.1),
      λ t. let w = (k.truth p o).0 t in (i.truth p o).1 ((s.truth p o).1 w.0, (u.truth p o).1 w.1),
    );
    names = λ x. (
      λ t. (k.names x).1 (⊎_elim (λ v. inl ((s.names x).0 v)) (λ v. inr ((u.names x).0 v)) ((i.names x).0 t)),
      λ t. (i.names x).1 (⊎_elim (λ v. inl ((s.names x).1 v)) (λ v. inr ((u.names x).1 v)) ((k.names x).0 t)),
    );
  }
  same_joined Disjunction f g h f1 g1 h1 i k s u = record {
    truth = λ p o. (
      λ t. (k.truth p o).1 (⊎_elim (λ v. inl ((s.truth p o).0 v)) (λ v. inr ((u.truth p o).0 v)) ((i.truth p o).0 t)),
      λ t. (i.truth p o).1 (⊎_elim (λ v. inl ((s.truth p o).1 v)) (λ v. inr ((u.truth p o).1 v)) ((k.truth p o).0 t)),
    );
    names = λ x. (
      λ t. (k.names x).1 (⊎_elim (λ v. inl ((s.names x).0 v)) (λ v. inr ((u.names x).0 v)) ((i.names x).0 t)),
      λ t. (i.names x).1 (⊎_elim (λ v. inl ((s.names x).1 v)) (λ v. inr ((u.names x).1 v)) ((k.names x).0 t)),
    );
  }

  same_self : (f : Tree) → IsSame c f f
  same_self f = record { truth = λ p o. (λ t. t, λ t. t); names = λ x. (λ t. t, λ t. t) }

  -- a quantifier before all others
  first_prefixed : (q : Quantifier) (x : ℕ) (bs : List (List ℕ)) (f : Tree) → quantified q x (prefixed q bs f) ≡ prefixed q (in_first x bs) f
  first_prefixed q x [] f = refl
  first_prefixed q x (b ∷ bs) f = refl

  quantifier_front : (q : Quantifier) (x : ℕ) (bs : List (List ℕ)) (f g : Tree) → IsSame c f (prefixed q bs g) → IsSame c (quantified q x f) (prefixed q (in_first x bs) g)
  quantifier_front q x bs f g s = subst (λ h. IsSame c (quantified q x f) h) (first_prefixed q x bs g) (same_quantified c q x f (prefixed q bs g) s)

  mutual
    pub front_same : (f : Tree) (q : Quantifier) → IsNegationNormal f → InContext c f → IsApart f → IsSame c f (prefixed q (blocks f q) (matrix f))
    front_same Yes q n i a = same_self Yes
    front_same No q n i a = same_self No
    front_same (One b) q n i a = same_self (One b)
    front_same (Not f) q n i a = absurd n
    front_same (And fs) q n i a = fronts_same Conjunction fs q n i a
    front_same (Or fs) q n i a = fronts_same Disjunction fs q n i a
    front_same (Impl f g) q n i a = absurd n
    front_same (Repl f g) q n i a = absurd n
    front_same (Equiv f g) q n i a = absurd n
    front_same (Ex x f) Exists n i a = quantifier_front Exists x (blocks f Exists) f (matrix f) (front_same f Exists n i a)
    front_same (Ex x f) ForAll n i a = quantifier_front Exists x (blocks f Exists) f (matrix f) (front_same f Exists n i a)
    front_same (All x f) Exists n i a = quantifier_front ForAll x (blocks f ForAll) f (matrix f) (front_same f ForAll n i a)
    front_same (All x f) ForAll n i a = quantifier_front ForAll x (blocks f ForAll) f (matrix f) (front_same f ForAll n i a)

    fronts_same : (j : Junction) (fs : Trees) (q : Quantifier) → AreNegationNormal fs → EveryOf (AtomIn c) fs → AreApart fs →
        IsSame c (joined j fs) (prefixed q (blocks_of fs q) (joined j (matrices fs)))
    fronts_same j none q n i a = same_self (joined j none)
    fronts_same j (also f fs) q n i a =
        let m = joined j (matrices fs) in
        let behind = prefixes_joined c j q (blocks f q) (blocks_of fs q) (matrix f) m (joined j (matrices (also f fs))) (member_joins j (matrix f) (matrices fs) (matrix_in f i.0) (matrices_in fs i.1))
        (fewer_each (λ x. ¬ (FreeInSome Mentions (matrices fs) x)) (λ x. ¬ (IsFree m x)) (λ x u t. u (joined_free j (matrices fs) x t)) (blocks f q) (blocks_each (λ x. ¬ (FreeInSome Mentions (matrices fs) x)) f q a.2))
        (blocks_of_each (λ x. ¬ (IsFree (matrix f) x)) fs q a.3) in
        same_joined j f (joined j fs) (joined j (also f fs)) (prefixed q (blocks f q) (matrix f)) (prefixed q (blocks_of fs q) m) (prefixed q (joined_blocks (blocks f q) (blocks_of fs q)) (joined j (matrices (also f fs))))
        (member_joins j f fs i.0 i.1) behind (front_same f q n.0 i.0 a.0) (fronts_same j fs q n.1 i.1 a.1)
