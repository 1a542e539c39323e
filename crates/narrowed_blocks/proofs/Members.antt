-- The members of a conjunction, one more at a time.
use Rattle.std.proofs.Common.{◌≡◌, ℕ, List, [], ◌∷◌, ◌++◌, refl, sym, ap, subst, ◌∙◌, inl, inr, ⊎_elim, ◌⊎◌, ◌↔◌, map}
use Rattle.std.specs.Prelude.{Result, Ok, Err, IfOk}
use Rattle.std.specs.List.{AllByRecursion}
use Rattle.std.proofs.lemmas.List.{map-append}
use Rattle.logic_meaning.specs.Context.{Context}
use Rattle.logic_meaning.specs.Every.{EveryOf, FreeInSome}
use Rattle.logic_meaning.specs.Formula.{One, And}
use Rattle.logic_meaning.specs.Plain.{ArePlain}
use Rattle.logic_meaning.specs.Point.{Point}
use Rattle.logic_meaning.specs.Some.{SomeOf, EachOf}
use Rattle.logic_meaning.specs.Atom as meant
use Rattle.logic_meaning.specs.Atom.{Mentions, Says}
use Rattle.logic_meaning.specs.NormalForm.{IsNormal}
use Rattle.logic_meaning.specs.Tree.{Tree, Trees, TrueAt, IsFree}
use Rattle.elimination_theory.specs.Theorems.{IsTidy, AreBranching}
use Rattle.elimination_theory.proofs.SomeListed.{each_append, each_left, each_right, some_either}
use Rattle.normal_atoms.specs.declared.atoms.Atom.{Atom}
use Rattle.normal_atoms.specs.Atoms.{atom_of, IsWellFormed}
use Rattle.formula_tree.specs.declared.shape.Shape.{Shape}
use Rattle.formula_tree.specs.Trees.{members}
use Rattle.formula_store.specs.declared.id.FormulaId.{FormulaId}
use Rattle.formula_store.specs.Nodes.{tree, IsId}
use Rattle.narrowed_blocks.specs.declared.conjunction.Conjunction.{Conjunction}
use Rattle.narrowed_blocks.specs.Conjunctions.{AreMembersOf, IsConjunctionOf, IsAdded}
use Rattle.narrowed_blocks.specs.Narrowing.{listed, IsNameOf}
use Rattle.narrowed_blocks.proofs.Listed.{listed_true}

-- what every value has that is returned
pub ok_gives : {A E : Type 0} (P Q : A → Type 0) → ((a : A) → P a → Q a) → (r : Result A E) → IfOk r P → IfOk r Q
ok_gives P Q gives (Ok a) h = gives a h
ok_gives P Q gives (Err e) h = h

-- ---- one more at the end

-- P of each, and of the last
all_last : {X : Type 0} (P : X → Type 0) (xs : List X) (x : X) → AllByRecursion P xs → P x → AllByRecursion P (xs ++ x ∷ [])
all_last P [] x h k = (k, tt)
all_last P (y ∷ xs) x h k = (h.0, all_last P xs x h.1 k)

-- all are true where the first ones are and the last
all_true_last : (c : Context) (p : Point ℕ) (ts : List Tree) (t : Tree) → TrueAt c (And (members (ts ++ t ∷ []))) p ↔ (TrueAt c (And (members ts)) p × TrueAt c t p)
all_true_last c p [] t = (λ h. (tt, h.0), λ h. (h.1, tt))
all_true_last c p (s ∷ ts) t = let i = all_true_last c p ts t in (λ h. let r = i.0 h.1 in ((h.0, r.0), r.1), λ h. (h.0.0, i.1 (h.0.1, h.1)))

-- a free name of one is one of the first ones or of the last
pub free_last : (ts : List Tree) (t : Tree) (y : ℕ) → FreeInSome Mentions (members (ts ++ t ∷ [])) y → FreeInSome Mentions (members ts) y ⊎ IsFree t y
free_last [] t y (inl h) = inr h
free_last [] t y (inr h) = absurd h
free_last (s ∷ ts) t y (inl h) = inl (inl h)
free_last (s ∷ ts) t y (inr h) = ⊎_elim (λ m. inl (inr m)) (λ m. inr m) (free_last ts t y h)

-- and the other way round
last_free : (ts : List Tree) (t : Tree) (y : ℕ) → FreeInSome Mentions (members ts) y ⊎ IsFree t y → FreeInSome Mentions (members (ts ++ t ∷ [])) y
last_free [] t y (inl h) = absurd h
last_free [] t y (inr h) = inl h
last_free (s ∷ ts) t y (inl (inl h)) = inl h
last_free (s ∷ ts) t y (inl (inr h)) = inr (last_free ts t y (inl h))
last_free (s ∷ ts) t y (inr h) = inr (last_free ts t y (inr h))

-- ---- members as lists

module _ (nodes : List (Shape FormulaId)) where
  -- the atoms and the others are those of the formulas
  record Members (ts : List Tree) (atoms : List Atom) (others : List FormulaId) : Type 0 where
    pub well_formed : AllByRecursion IsWellFormed atoms
    pub ids : EachOf (IsId nodes) others
    pub same : (c : Context) (p : Point ℕ) → TrueAt c (And (members ts)) p ↔ TrueAt c (And (listed (map atom_of atoms) (members (map (tree nodes) others)))) p
    pub names : (y : ℕ) → IsNameOf (map atom_of atoms) (members (map (tree nodes) others)) y → FreeInSome Mentions (members ts) y
    pub tidy : (c : Context) → EachOf (IsTidy c) ts → EachOf (IsNormal c) (map atom_of atoms) × EachOf (λ (id : FormulaId). IsTidy c (tree nodes id)) others

  -- these lists are those of the conjunction
  of_members : (ts : List Tree) (k : Conjunction) → Members ts k.atoms.items k.others.items → AreMembersOf ts nodes k
  of_members ts k m = record { well_formed = m.well_formed; ids = m.ids; same = m.same; names = m.names; tidy = m.tidy }

  module _ (ts : List Tree) (k : Conjunction) (are : AreMembersOf ts nodes k) (t : Tree) where
    -- the atoms so far
    abbrev atoms : List meant.Atom
    atoms = map atom_of k.atoms.items

    -- the others so far
    abbrev trees : List Tree
    trees = map (tree nodes) k.others.items

    -- the same as members
    abbrev others : Trees
    others = members trees

    -- an atom more
    with_atom : (a : Atom) → t ≡ One (atom_of a) → IsWellFormed a → Members (ts ++ t ∷ []) (k.atoms.items ++ a ∷ []) k.others.items
    with_atom a e w = record {
      well_formed = all_last IsWellFormed k.atoms.items a are.well_formed w;
      ids = are.ids;
      same = λ c p. subst (λ (us : List meant.Atom). TrueAt c (And (members (ts ++ t ∷ []))) p ↔ TrueAt c (And (listed us others)) p) (sym more) (
        λ h. let r = (all_true_last c p ts t).0 h in
            let q = (listed_true c atoms others p).0 ((are.same c p).0 r.0) in
            (listed_true c (atoms ++ atom_of a ∷ []) others p).1 (each_append (λ (v : meant.Atom). Says v p) atoms (atom_of a ∷ []) q.0 (subst (λ (f : Tree). TrueAt c f p) e r.1, tt), q.1),
        λ h. let q = (listed_true c (atoms ++ atom_of a ∷ []) others p).0 h in
            (all_true_last c p ts t).1 (
              (are.same c p).1 ((listed_true c atoms others p).1 (each_left (λ (v : meant.Atom). Says v p) atoms (atom_of a ∷ []) q.0, q.1)),
              subst (λ (f : Tree). TrueAt c f p) (sym e) (each_right (λ (v : meant.Atom). Says v p) atoms (atom_of a ∷ []) q.0).0,
            ),
      );
      names = λ y h. last_free ts t y (name y (subst (λ (us : List meant.Atom). IsNameOf us others y) more h));
      tidy = λ c h.
          let r = are.tidy c (each_left (IsTidy c) ts (t ∷ []) h) in
          let n = subst (IsTidy c) e (each_right (IsTidy c) ts (t ∷ []) h).0 in
          (subst (EachOf (IsNormal c)) (sym more) (each_append (IsNormal c) atoms (atom_of a ∷ []) r.0 (n.normal, tt)), r.1);
    }
      where
        more : map atom_of (k.atoms.items ++ a ∷ []) ≡ atoms ++ atom_of a ∷ []
        more = map-append atom_of k.atoms.items (a ∷ [])

        name : (y : ℕ) → IsNameOf (atoms ++ atom_of a ∷ []) others y → FreeInSome Mentions (members ts) y ⊎ IsFree t y
        name y (inl s) = ⊎_elim (λ m. inl (are.names y (inl m))) last (some_either (λ (v : meant.Atom). Mentions v y) atoms (atom_of a ∷ []) s)
          where
            last : SomeOf (λ (v : meant.Atom). Mentions v y) (atom_of a ∷ []) → FreeInSome Mentions (members ts) y ⊎ IsFree t y
            last (inl m) = inr (subst (λ (f : Tree). IsFree f y) (sym e) m)
            last (inr m) = absurd m
        name y (inr s) = inl (are.names y (inr s))

    -- another formula more
    with_other : (id : FormulaId) → t ≡ tree nodes id → IsId nodes id → Members (ts ++ t ∷ []) k.atoms.items (k.others.items ++ id ∷ [])
    with_other id e i = record {
      well_formed = are.well_formed;
      ids = each_append (IsId nodes) k.others.items (id ∷ []) are.ids (i, tt);
      same = λ c p. subst (λ (fs : List Tree). TrueAt c (And (members (ts ++ t ∷ []))) p ↔ TrueAt c (And (listed atoms (members fs))) p) (sym more) (
        λ h. let r = (all_true_last c p ts t).0 h in
            let q = (listed_true c atoms others p).0 ((are.same c p).0 r.0) in
            (listed_true c atoms (members (trees ++ t ∷ [])) p).1 (q.0, (all_true_last c p trees t).1 (q.1, r.1)),
        λ h. let q = (listed_true c atoms (members (trees ++ t ∷ [])) p).0 h in
            let r = (all_true_last c p trees t).0 q.1 in
            (all_true_last c p ts t).1 ((are.same c p).1 ((listed_true c atoms others p).1 (q.0, r.0)), r.1),
      );
      names = λ y h. last_free ts t y (name y (subst (λ (fs : List Tree). IsNameOf atoms (members fs) y) more h));
      tidy = λ c h.
          let r = are.tidy c (each_left (IsTidy c) ts (t ∷ []) h) in
          (r.0, each_append (λ (o : FormulaId). IsTidy c (tree nodes o)) k.others.items (id ∷ []) r.1 (subst (IsTidy c) e (each_right (IsTidy c) ts (t ∷ []) h).0, tt));
    }
      where
        more : map (tree nodes) (k.others.items ++ id ∷ []) ≡ trees ++ t ∷ []
        more = map-append (tree nodes) k.others.items (id ∷ []) ∙ ap (λ (f : Tree). trees ++ f ∷ []) (sym e)

        name : (y : ℕ) → IsNameOf atoms (members (trees ++ t ∷ [])) y → FreeInSome Mentions (members ts) y ⊎ IsFree t y
        name y (inl s) = inl (are.names y (inl s))
        name y (inr s) = ⊎_elim (λ m. inl (are.names y (inr m))) (λ m. inr m) (free_last trees t y s)

  -- a member more
  pub added : (ts : List Tree) (id : FormulaId) (old new : Conjunction) → AreMembersOf ts nodes old → IsId nodes id → IsAdded nodes id old new → AreMembersOf (ts ++ tree nodes id ∷ []) nodes new
  added ts id old new are i (inl w) = of_members (ts ++ tree nodes id ∷ []) new (
      subst (λ (us : List Atom). Members (ts ++ tree nodes id ∷ []) us new.others.items) (sym w.atoms)
      (subst (λ (os : List FormulaId). Members (ts ++ tree nodes id ∷ []) (old.atoms.items ++ w.atom ∷ []) os) (sym w.others) (with_atom ts old are (tree nodes id) w.atom w.is w.well_formed)))
  added ts id old new are i (inr w) = of_members (ts ++ tree nodes id ∷ []) new (
      subst (λ (us : List Atom). Members (ts ++ tree nodes id ∷ []) us new.others.items) (sym w.atoms)
      (subst (λ (os : List FormulaId). Members (ts ++ tree nodes id ∷ []) old.atoms.items os) (sym w.others) (with_other ts old are (tree nodes id) id refl i)))

  -- no members yet
  pub none_yet : (k : Conjunction) → k.atoms.items ≡ [] → k.others.items ≡ [] → AreMembersOf [] nodes k
  none_yet k e f = of_members [] k (
      subst (λ (us : List Atom). Members [] us k.others.items) (sym e)
      (subst (λ (os : List FormulaId). Members [] [] os) (sym f) (record { well_formed = tt; ids = tt; same = λ c p. (λ h. h, λ h. h); names = λ y. ⊎_elim (λ h. h) (λ h. h); tidy = λ c h. (tt, tt) })))

  -- ---- of one formula

  -- the members of a tidy conjunction are tidy
  tidy_members : (c : Context) (ts : List Tree) → ArePlain (members ts) → EveryOf (IsNormal c) (members ts) → AreBranching (members ts) → EachOf (IsTidy c) ts
  tidy_members c [] p n b = tt
  tidy_members c (t ∷ ts) p n b = (record { is_plain = p.0; normal = n.0; two_members = b.1 }, tidy_members c ts p.1 n.1 b.2)

  -- the members of a conjunction
  pub of_conjunction : (f : Tree) (ts : List Tree) (k : Conjunction) → f ≡ And (members ts) → AreMembersOf ts nodes k → IsConjunctionOf f nodes k
  of_conjunction f ts k e are = subst (λ (g : Tree). IsConjunctionOf g nodes k) (sym e) (record {
    well_formed = are.well_formed;
    ids = are.ids;
    same = are.same;
    names = are.names;
    tidy = λ c t. are.tidy c (tidy_members c ts t.is_plain t.normal t.two_members.1);
  })

  -- a formula alone
  pub of_one : (f : Tree) (k : Conjunction) → AreMembersOf (f ∷ []) nodes k → IsConjunctionOf f nodes k
  of_one f k are = record {
    well_formed = are.well_formed;
    ids = are.ids;
    same = λ c p. let i = are.same c p in (λ h. i.0 (h, tt), λ h. (i.1 h).0);
    names = λ y h. ⊎_elim (λ m. m) (λ m. absurd m) (are.names y h);
    tidy = λ c t. are.tidy c (t, tt);
  }
