-- Folding keeps truth, atoms and shape, and brings no names and no nodes.
use Rattle.std.proofs.Common.{◌≡◌, ℕ, suc, ◌+◌, ◌≤◌, refl, arith, ◌⊎◌, inl, inr, ⊎_elim, ◌↔◌, Option, None, Some}
use Rattle.std.proofs.Math.IntN.{ℤ}
use Rattle.logic_meaning.specs.Context.{Context}
use Rattle.logic_meaning.specs.Formula.{Formula, Formulas, Yes, No, One, Not, And, Or, Impl, Repl, Equiv, Ex, All, none, also}
use Rattle.logic_meaning.specs.Truth.{True, AllTrue, SomeTrue}
use Rattle.logic_meaning.specs.Every.{Every, EveryOf, Free, FreeInSome}
use Rattle.logic_meaning.specs.Plain.{IsPlain, ArePlain}
use Rattle.logic_meaning.specs.Sizes.{nodes, all_nodes}
use Rattle.logic_meaning.specs.Fold.{joined, neutral, absorbing, append, pieces_of, put_together, all_pieces, from_pieces, fold_list, folded, all_folded}
use Rattle.logic_meaning.specs.declared.junction.Junction.{Junction}
use Rattle.logic_meaning.specs.declared.junction.Junction.TheVariants.{Conjunction, Disjunction}
use Rattle.formula_laws.proofs.Iff.{both_ways, pair_iff, either_iff}

module _ {A N : Type 0} where
  -- the pieces joined, where a piece that decides the whole stands for it
  abbrev pub whole : Junction → Option (Formulas A N) → Formula A N
  whole j None = absorbing j
  whole j (Some fs) = joined j fs

-- ---- truth

module _ {A N P : Type 0} (says : A → P → Type 0) (move : P → N → ℤ → ℕ → P) (c : Context) where
  -- both, or one of them
  abbrev Joins : Junction → Type 0 → Type 0 → Type 0
  Joins Conjunction Q R = Q × R
  Joins Disjunction Q R = Q ⊎ R

  joins_iff : (j : Junction) {Q R S T : Type 0} → Q ↔ S → R ↔ T → Joins j Q R ↔ Joins j S T
  joins_iff Conjunction d e = pair_iff d e
  joins_iff Disjunction d e = either_iff d e

  append_all : (fs gs : Formulas A N) (p : P) → AllTrue says move c (append fs gs) p ↔ (AllTrue says move c fs p × AllTrue says move c gs p)
  append_all none gs p = (λ t. (tt, t), λ t. t.1)
  append_all (also f fs) gs p = let i = append_all fs gs p in (λ t. let u = i.0 t.1 in ((t.0, u.0), u.1), λ t. (t.0.0, i.1 (t.0.1, t.1)))

  append_some : (fs gs : Formulas A N) (p : P) → SomeTrue says move c (append fs gs) p ↔ (SomeTrue says move c fs p ⊎ SomeTrue says move c gs p)
  append_some none gs p = (λ t. inr t, ⊎_elim absurd (λ t. t))
  append_some (also f fs) gs p =
      let i = append_some fs gs p in (
        ⊎_elim (λ t. inl (inl t)) (λ t. ⊎_elim (λ u. inl (inr u)) (λ u. inr u) (i.0 t)),
        ⊎_elim (⊎_elim (λ t. inl t) (λ t. inr (i.1 (inl t)))) (λ t. inr (i.1 (inr t))),
      )

  together_true : (j : Junction) (o u : Option (Formulas A N)) (p : P) → True says move c (whole j (put_together o u)) p ↔ Joins j (True says move c (whole j o) p) (True says move c (whole j u) p)
  together_true Conjunction None u p = (λ t. absurd t, λ t. t.0)
  together_true Conjunction (Some fs) None p = (λ t. absurd t, λ t. t.1)
  together_true Conjunction (Some fs) (Some gs) p = append_all fs gs p
  together_true Disjunction None u p = (λ t. inl tt, λ t. tt)
  together_true Disjunction (Some fs) None p = (λ t. inr tt, λ t. tt)
  together_true Disjunction (Some fs) (Some gs) p = append_some fs gs p

  alone_all : {Q : Type 0} → (Q × Unit {0}) ↔ Q
  alone_all = (λ t. t.0, λ t. (t, tt))

  alone_some : {Q : Type 0} → (Q ⊎ ⊥) ↔ Q
  alone_some = (⊎_elim (λ t. t) absurd, λ t. inl t)

  piece_true : (j : Junction) (f : Formula A N) (p : P) → True says move c (whole j (pieces_of j f)) p ↔ True says move c f p
  piece_true Conjunction Yes p = (λ t. t, λ t. t)
  piece_true Conjunction No p = (λ t. t, λ t. t)
  piece_true Conjunction (And fs) p = (λ t. t, λ t. t)
  piece_true Conjunction f p = alone_all
  piece_true Disjunction Yes p = (λ t. t, λ t. t)
  piece_true Disjunction No p = (λ t. t, λ t. t)
  piece_true Disjunction (Or fs) p = (λ t. t, λ t. t)
  piece_true Disjunction f p = alone_some

  nothing_true : (j : Junction) (p : P) → True says move c (joined j none) p ↔ True says move c (neutral j) p
  nothing_true Conjunction p = (λ t. t, λ t. t)
  nothing_true Disjunction p = (λ t. t, λ t. t)

  one_true : (j : Junction) (f : Formula A N) (p : P) → True says move c (joined j (also f none)) p ↔ True says move c f p
  one_true Conjunction f p = alone_all
  one_true Disjunction f p = alone_some

  also_true : (j : Junction) (f : Formula A N) (fs : Formulas A N) (p : P) → True says move c (joined j (also f fs)) p ↔ Joins j (True says move c f p) (True says move c (joined j fs) p)
  also_true Conjunction f fs p = (λ t. t, λ t. t)
  also_true Disjunction f fs p = (λ t. t, λ t. t)

  start_true : (j : Junction) (p : P) → True says move c (joined j none) p ↔ True says move c (whole j (Some none)) p
  start_true Conjunction p = (λ t. t, λ t. t)
  start_true Disjunction p = (λ t. t, λ t. t)

  pieces_true : (j : Junction) (fs : Formulas A N) (p : P) → True says move c (joined j fs) p ↔ True says move c (whole j (all_pieces j fs)) p
  pieces_true j none p = start_true j p
  pieces_true j (also f fs) p =
      let i = piece_true j f p in
      both_ways (also_true j f fs p) (both_ways (joins_iff j (i.1, i.0) (pieces_true j fs p)) (let k = together_true j (pieces_of j f) (all_pieces j fs) p in (k.1, k.0)))

  joined_true : (j : Junction) (o : Option (Formulas A N)) (p : P) → True says move c (whole j o) p ↔ True says move c (from_pieces j o) p
  joined_true j None p = (λ t. t, λ t. t)
  joined_true j (Some none) p = nothing_true j p
  joined_true j (Some (also f none)) p = one_true j f p
  joined_true j (Some (also f (also g gs))) p = (λ t. t, λ t. t)

  pub fold_list_true : (j : Junction) (fs : Formulas A N) (p : P) → True says move c (joined j fs) p ↔ True says move c (fold_list j fs) p
  fold_list_true j fs p = both_ways (pieces_true j fs p) (joined_true j (all_pieces j fs) p)

  mutual
    pub folded_true : (f : Formula A N) (p : P) → True says move c f p ↔ True says move c (folded f) p
    folded_true Yes p = (λ t. t, λ t. t)
    folded_true No p = (λ t. t, λ t. t)
    folded_true (One a) p = (λ t. t, λ t. t)
    folded_true (Not f) p = let i = folded_true f p in (λ n t. n (i.1 t), λ n t. n (i.0 t))
    folded_true (And fs) p = both_ways (all_folded_true fs p) (fold_list_true Conjunction (all_folded fs) p)
    folded_true (Or fs) p = both_ways (some_folded_true fs p) (fold_list_true Disjunction (all_folded fs) p)
    folded_true (Impl f g) p = let i = folded_true f p in let j = folded_true g p in (λ t u. j.0 (t (i.1 u)), λ t u. j.1 (t (i.0 u)))
    folded_true (Repl f g) p = let i = folded_true f p in let j = folded_true g p in (λ t u. i.0 (t (j.1 u)), λ t u. i.1 (t (j.0 u)))
    folded_true (Equiv f g) p =
        let i = folded_true f p in let j = folded_true g p in
        (λ t. (λ u. j.0 (t.0 (i.1 u)), λ u. i.0 (t.1 (j.1 u))), λ t. (λ u. j.1 (t.0 (i.0 u)), λ u. i.1 (t.1 (j.0 u))))
    folded_true (Ex x f) p = (
      λ t. (t.0, t.1, t.2, (folded_true f (move p x t.0 t.1)).0 t.3),
      λ t. (t.0, t.1, t.2, (folded_true f (move p x t.0 t.1)).1 t.3),
    )
    folded_true (All x f) p = (λ t k m a. (folded_true f (move p x k m)).0 (t k m a), λ t k m a. (folded_true f (move p x k m)).1 (t k m a))

    all_folded_true : (fs : Formulas A N) (p : P) → AllTrue says move c fs p ↔ AllTrue says move c (all_folded fs) p
    all_folded_true none p = (λ t. t, λ t. t)
    all_folded_true (also f fs) p = pair_iff (folded_true f p) (all_folded_true fs p)

    some_folded_true : (fs : Formulas A N) (p : P) → SomeTrue says move c fs p ↔ SomeTrue says move c (all_folded fs) p
    some_folded_true none p = (λ t. t, λ t. t)
    some_folded_true (also f fs) p = either_iff (folded_true f p) (some_folded_true fs p)

-- ---- what each member has: H of formulas, which a joined list has where each member has it

-- a fact that passes between a joined list and its members
pub record IsOfMembers {A N : Type 0} (H : Formula A N → Type 0) (Hs : Formulas A N → Type 0) : Type 0 where
  pub constants : H Yes × H No
  pub split : (j : Junction) (fs : Formulas A N) → H (joined j fs) → Hs fs
  pub join : (j : Junction) (fs : Formulas A N) → Hs fs → H (joined j fs)
  pub nothing : Hs none
  pub first : (f : Formula A N) (fs : Formulas A N) → Hs (also f fs) → H f × Hs fs
  pub one_more : (f : Formula A N) (fs : Formulas A N) → H f → Hs fs → Hs (also f fs)

module _ {A N : Type 0} (H : Formula A N → Type 0) (Hs : Formulas A N → Type 0) (laws : IsOfMembers H Hs) where
  abbrev HasPieces : Option (Formulas A N) → Type 0
  HasPieces None = Unit {0}
  HasPieces (Some fs) = Hs fs

  has_append : (fs gs : Formulas A N) → Hs fs → Hs gs → Hs (append fs gs)
  has_append none gs h k = k
  has_append (also f fs) gs h k = let i = laws.first f fs h in laws.one_more f (append fs gs) i.0 (has_append fs gs i.1 k)

  has_together : (o u : Option (Formulas A N)) → HasPieces o → HasPieces u → HasPieces (put_together o u)
  has_together None u h k = tt
  has_together (Some fs) None h k = tt
  has_together (Some fs) (Some gs) h k = has_append fs gs h k

  has_pieces : (j : Junction) (f : Formula A N) → H f → HasPieces (pieces_of j f)
  has_pieces Conjunction Yes h = laws.nothing
  has_pieces Conjunction No h = tt
  has_pieces Conjunction (And fs) h = laws.split Conjunction fs h
  has_pieces Conjunction f h = laws.one_more f none h laws.nothing
  has_pieces Disjunction Yes h = tt
  has_pieces Disjunction No h = laws.nothing
  has_pieces Disjunction (Or fs) h = laws.split Disjunction fs h
  has_pieces Disjunction f h = laws.one_more f none h laws.nothing

  has_all_pieces : (j : Junction) (fs : Formulas A N) → Hs fs → HasPieces (all_pieces j fs)
  has_all_pieces j none h = laws.nothing
  has_all_pieces j (also f fs) h = let i = laws.first f fs h in has_together (pieces_of j f) (all_pieces j fs) (has_pieces j f i.0) (has_all_pieces j fs i.1)

  has_constant : (j : Junction) → H (neutral j) × H (absorbing j)
  has_constant Conjunction = laws.constants
  has_constant Disjunction = (laws.constants.1, laws.constants.0)

  has_from_pieces : (j : Junction) (o : Option (Formulas A N)) → HasPieces o → H (from_pieces j o)
  has_from_pieces j None h = (has_constant j).1
  has_from_pieces j (Some none) h = (has_constant j).0
  has_from_pieces j (Some (also f none)) h = (laws.first f none h).0
  has_from_pieces j (Some (also f (also g gs))) h = laws.join j (also f (also g gs)) h

  -- what each member has, the folded list has
  pub fold_list_has : (j : Junction) (fs : Formulas A N) → Hs fs → H (fold_list j fs)
  fold_list_has j fs h = has_from_pieces j (all_pieces j fs) (has_all_pieces j fs h)

module _ {A N : Type 0} where
  pub plain_of_members : IsOfMembers {A = A} {N = N} IsPlain ArePlain
  plain_of_members = record {
    constants = (tt, tt);
    split = split;
    join = join;
    nothing = tt;
    first = λ f fs h. h;
    one_more = λ f fs h k. (h, k);
  }
    where
      split : (j : Junction) (fs : Formulas A N) → IsPlain (joined j fs) → ArePlain fs
      split Conjunction fs h = h
      split Disjunction fs h = h

      join : (j : Junction) (fs : Formulas A N) → ArePlain fs → IsPlain (joined j fs)
      join Conjunction fs h = h
      join Disjunction fs h = h

  pub every_of_members : (P : A → Type 0) → IsOfMembers {A = A} {N = N} (Every P) (EveryOf P)
  every_of_members P = record {
    constants = (tt, tt);
    split = split;
    join = join;
    nothing = tt;
    first = λ f fs h. h;
    one_more = λ f fs h k. (h, k);
  }
    where
      split : (j : Junction) (fs : Formulas A N) → Every P (joined j fs) → EveryOf P fs
      split Conjunction fs h = h
      split Disjunction fs h = h

      join : (j : Junction) (fs : Formulas A N) → EveryOf P fs → Every P (joined j fs)
      join Conjunction fs h = h
      join Disjunction fs h = h

  -- a consequence of a name's being free
  pub free_of_members : (mentions : A → N → Type 0) (x : N) (C : Type 0) → IsOfMembers {A = A} {N = N} (λ f. Free mentions f x → C) (λ fs. FreeInSome mentions fs x → C)
  free_of_members mentions x C = record {
    constants = (λ t. absurd t, λ t. absurd t);
    split = split;
    join = join;
    nothing = λ t. absurd t;
    first = λ f fs h. (λ t. h (inl t), λ t. h (inr t));
    one_more = λ f fs h k. ⊎_elim h k;
  }
    where
      split : (j : Junction) (fs : Formulas A N) → (Free mentions (joined j fs) x → C) → FreeInSome mentions fs x → C
      split Conjunction fs h = h
      split Disjunction fs h = h

      join : (j : Junction) (fs : Formulas A N) → (FreeInSome mentions fs x → C) → Free mentions (joined j fs) x → C
      join Conjunction fs h = h
      join Disjunction fs h = h

  mutual
    pub folded_plain : (f : Formula A N) → IsPlain f → IsPlain (folded f)
    folded_plain Yes h = h
    folded_plain No h = h
    folded_plain (One a) h = h
    folded_plain (Not f) h = absurd h
    folded_plain (And fs) h = fold_list_has IsPlain ArePlain plain_of_members Conjunction (all_folded fs) (all_folded_plain fs h)
    folded_plain (Or fs) h = fold_list_has IsPlain ArePlain plain_of_members Disjunction (all_folded fs) (all_folded_plain fs h)
    folded_plain (Impl f g) h = absurd h
    folded_plain (Repl f g) h = absurd h
    folded_plain (Equiv f g) h = absurd h
    folded_plain (Ex x f) h = absurd h
    folded_plain (All x f) h = absurd h

    all_folded_plain : (fs : Formulas A N) → ArePlain fs → ArePlain (all_folded fs)
    all_folded_plain none h = h
    all_folded_plain (also f fs) h = (folded_plain f h.0, all_folded_plain fs h.1)

  module _ (P : A → Type 0) where
    mutual
      pub folded_every : (f : Formula A N) → Every P f → Every P (folded f)
      folded_every Yes h = h
      folded_every No h = h
      folded_every (One a) h = h
      folded_every (Not f) h = folded_every f h
      folded_every (And fs) h = fold_list_has (Every P) (EveryOf P) (every_of_members P) Conjunction (all_folded fs) (all_folded_every fs h)
      folded_every (Or fs) h = fold_list_has (Every P) (EveryOf P) (every_of_members P) Disjunction (all_folded fs) (all_folded_every fs h)
      folded_every (Impl f g) h = (folded_every f h.0, folded_every g h.1)
      folded_every (Repl f g) h = (folded_every f h.0, folded_every g h.1)
      folded_every (Equiv f g) h = (folded_every f h.0, folded_every g h.1)
      folded_every (Ex x f) h = folded_every f h
      folded_every (All x f) h = folded_every f h

      all_folded_every : (fs : Formulas A N) → EveryOf P fs → EveryOf P (all_folded fs)
      all_folded_every none h = h
      all_folded_every (also f fs) h = (folded_every f h.0, all_folded_every fs h.1)

  module _ (mentions : A → N → Type 0) (x : N) where
    mutual
      -- no name is new
      pub folded_free : (f : Formula A N) → Free mentions (folded f) x → Free mentions f x
      folded_free Yes t = t
      folded_free No t = t
      folded_free (One a) t = t
      folded_free (Not f) t = folded_free f t
      folded_free (And fs) t = fold_list_has (λ f. Free mentions f x → FreeInSome mentions fs x) (λ gs. FreeInSome mentions gs x → FreeInSome mentions fs x) (free_of_members mentions x (FreeInSome mentions fs x)) Conjunction (all_folded fs) (some_folded_free fs) t
      folded_free (Or fs) t = fold_list_has (λ f. Free mentions f x → FreeInSome mentions fs x) (λ gs. FreeInSome mentions gs x → FreeInSome mentions fs x) (free_of_members mentions x (FreeInSome mentions fs x)) Disjunction (all_folded fs) (some_folded_free fs) t
      folded_free (Impl f g) t = ⊎_elim (λ u. inl (folded_free f u)) (λ u. inr (folded_free g u)) t
      folded_free (Repl f g) t = ⊎_elim (λ u. inl (folded_free f u)) (λ u. inr (folded_free g u)) t
      folded_free (Equiv f g) t = ⊎_elim (λ u. inl (folded_free f u)) (λ u. inr (folded_free g u)) t
      folded_free (Ex y f) t = (t.0, folded_free f t.1)
      folded_free (All y f) t = (t.0, folded_free f t.1)

      some_folded_free : (fs : Formulas A N) → FreeInSome mentions (all_folded fs) x → FreeInSome mentions fs x
      some_folded_free none t = t
      some_folded_free (also f fs) t = ⊎_elim (λ u. inl (folded_free f u)) (λ u. inr (some_folded_free fs u)) t

  -- ---- nodes

  abbrev pieces_nodes : Option (Formulas A N) → ℕ
  pieces_nodes None = 0
  pieces_nodes (Some fs) = all_nodes fs

  append_nodes : (fs gs : Formulas A N) → all_nodes (append fs gs) ≡ all_nodes fs + all_nodes gs
  append_nodes none gs = omega arith
  append_nodes (also f fs) gs = let h = append_nodes fs gs in omega arith

  together_nodes : (o u : Option (Formulas A N)) → pieces_nodes (put_together o u) ≤ pieces_nodes o + pieces_nodes u
  together_nodes None u = omega arith
  together_nodes (Some fs) None = omega arith
  together_nodes (Some fs) (Some gs) = let h = append_nodes fs gs in omega arith

  alone_nodes : (f : Formula A N) → nodes f + 0 ≤ nodes f
  alone_nodes f = omega arith

  piece_nodes : (j : Junction) (f : Formula A N) → pieces_nodes (pieces_of j f) ≤ nodes f
  piece_nodes Conjunction Yes = omega arith
  piece_nodes Conjunction No = omega arith
  piece_nodes Conjunction (And fs) = omega arith
  piece_nodes Conjunction f = alone_nodes f
  piece_nodes Disjunction Yes = omega arith
  piece_nodes Disjunction No = omega arith
  piece_nodes Disjunction (Or fs) = omega arith
  piece_nodes Disjunction f = alone_nodes f

  all_pieces_nodes : (j : Junction) (fs : Formulas A N) → pieces_nodes (all_pieces j fs) ≤ all_nodes fs
  all_pieces_nodes j none = omega arith
  all_pieces_nodes j (also f fs) =
      let h = together_nodes (pieces_of j f) (all_pieces j fs) in let i = piece_nodes j f in let k = all_pieces_nodes j fs in
      omega arith

  joined_nodes : (j : Junction) (fs : Formulas A N) → nodes (joined j fs) ≡ suc (all_nodes fs)
  joined_nodes Conjunction fs = refl
  joined_nodes Disjunction fs = refl

  from_pieces_nodes : (j : Junction) (o : Option (Formulas A N)) → nodes (from_pieces j o) ≤ suc (pieces_nodes o)
  from_pieces_nodes Conjunction None = omega arith
  from_pieces_nodes Disjunction None = omega arith
  from_pieces_nodes Conjunction (Some none) = omega arith
  from_pieces_nodes Disjunction (Some none) = omega arith
  from_pieces_nodes j (Some (also f none)) = omega arith
  from_pieces_nodes j (Some (also f (also g gs))) = let h = joined_nodes j (also f (also g gs)) in omega arith

  pub fold_list_nodes : (j : Junction) (fs : Formulas A N) → nodes (fold_list j fs) ≤ suc (all_nodes fs)
  fold_list_nodes j fs = let h = from_pieces_nodes j (all_pieces j fs) in let i = all_pieces_nodes j fs in omega arith

  mutual
    -- no node is new
    pub folded_nodes : (f : Formula A N) → nodes (folded f) ≤ nodes f
    folded_nodes Yes = omega arith
    folded_nodes No = omega arith
    folded_nodes (One a) = omega arith
    folded_nodes (Not f) = let h = folded_nodes f in omega arith
    folded_nodes (And fs) = let h = fold_list_nodes Conjunction (all_folded fs) in let i = all_folded_nodes fs in omega arith
    folded_nodes (Or fs) = let h = fold_list_nodes Disjunction (all_folded fs) in let i = all_folded_nodes fs in omega arith
    folded_nodes (Impl f g) = let h = folded_nodes f in let i = folded_nodes g in omega arith
    folded_nodes (Repl f g) = let h = folded_nodes f in let i = folded_nodes g in omega arith
    folded_nodes (Equiv f g) = let h = folded_nodes f in let i = folded_nodes g in omega arith
    folded_nodes (Ex x f) = let h = folded_nodes f in omega arith
    folded_nodes (All x f) = let h = folded_nodes f in omega arith

    all_folded_nodes : (fs : Formulas A N) → all_nodes (all_folded fs) ≤ all_nodes fs
    all_folded_nodes none = omega arith
    all_folded_nodes (also f fs) = let h = folded_nodes f in let i = all_folded_nodes fs in omega arith
