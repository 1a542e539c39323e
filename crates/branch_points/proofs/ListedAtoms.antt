-- The atoms of the distinct subformulas of a formula are its atoms, each once.
use Rattle.std.proofs.Common.{◌≡◌, ℕ, ◌+◌, ◌<◌, ◌≤◌, List, [], ◌∷◌, ◌++◌, Some, slice_get, map, flat_map, length, length-append, get_or, drop, take, refl, ap, ap₂, sym, ◌∙◌, subst, arith, lit≤, inl, inr, ⊎_elim, ◌↔◌, add-one, drop-cons, append-nil}
use Rattle.std.specs.List.{AllByRecursion}
use Rattle.std.proofs.lemmas.Grind.{flat_map-append}
use Rattle.std.proofs.lemmas.List.{map-append, take_more, take_all}
use Rattle.std.proofs.lemmas.List.Elements.{All-from_recursion}
use Rattle.std.proofs.lemmas.Option.{slice_get-get_or, get_or_from_slice_get}
use Rattle.logic_meaning.specs.Formula.{Yes, No, One, Not, And, Or, Impl, Repl, Equiv, Ex, All, none, also}
use Rattle.logic_meaning.specs.Some.{Among, EachOf}
use Rattle.formula_laws.specs.StandsOnce.{StandsOnce}
use Rattle.logic_meaning.specs.Same.{same_atom}
use Rattle.logic_meaning.specs.Sizes.{subtrees, all_subtrees}
use Rattle.logic_meaning.specs.Atom.{Atom}
use Rattle.logic_meaning.specs.Tree.{Tree, Trees}
use Rattle.formula_laws.proofs.Listed.{among_left, among_right, among_append, among_flat_map, flat_map_among, among_distinct, distinct_among}
use Rattle.formula_laws.proofs.Same.{atom_same}
use Rattle.logic_meaning.specs.Atoms.{atoms_in, atoms_in_all, atoms_of}
use Rattle.elimination_theory.proofs.SomeListed.{each_append}
use Rattle.normal_atoms.specs.declared.atoms.Atom as code
use Rattle.normal_atoms.specs.Atoms.{atom_of, IsWellFormed}
use Rattle.formula_tree.specs.declared.shape.Shape.{Shape}
use Rattle.formula_tree.specs.declared.shape.Shape.TheVariants as shape
use Rattle.formula_tree.specs.Shapes.{tree_over, IsProperShape}
use Rattle.formula_store.specs.declared.id.FormulaId.{FormulaId}
use Rattle.formula_store.specs.Nodes.{tree, IsId}
use Rattle.formula_store.specs.Order.{Rises, RisesFrom, IsOrder}
use Rattle.formula_store.proofs.Same.{same_tree}
use Rattle.formula_store.proofs.Trees.{node_tree_below}
use Rattle.formula_store.proofs.Before.{at_least_from}
use Rattle.formula_store.proofs.Counted.{within_subtree, subtree_found, within_id, each_within}
use Rattle.case_theory.proofs.Lists.{once_more}
use Rattle.branch_points.specs.Chosen.{shape_atoms, listed_atoms, AreAtomsOf}

-- ---- atoms and subtrees

mutual
  -- an atom of the formula is a subtree,
  atom_subtree : (f : Tree) (a : Atom) → Among (atoms_in f) a → Among (subtrees f) (One a)
  atom_subtree Yes a m = absurd m
  atom_subtree No a m = absurd m
  atom_subtree (One b) a (inl e) = inl (ap One e)
  atom_subtree (One b) a (inr m) = absurd m
  atom_subtree (Not f) a m = inr (atom_subtree f a m)
  atom_subtree (And fs) a m = inr (atom_subtrees fs a m)
  atom_subtree (Or fs) a m = inr (atom_subtrees fs a m)
  atom_subtree (Impl f g) a m = inr (⊎_elim (λ k. among_left (subtrees f) (subtrees g) (One a) (atom_subtree f a k)) (λ k. among_right (subtrees f) (subtrees g) (One a) (atom_subtree g a k)) (among_append (atoms_in f) (atoms_in g) a m))
  atom_subtree (Repl f g) a m = inr (⊎_elim (λ k. among_left (subtrees f) (subtrees g) (One a) (atom_subtree f a k)) (λ k. among_right (subtrees f) (subtrees g) (One a) (atom_subtree g a k)) (among_append (atoms_in f) (atoms_in g) a m))
  atom_subtree (Equiv f g) a m = inr (⊎_elim (λ k. among_left (subtrees f) (subtrees g) (One a) (atom_subtree f a k)) (λ k. among_right (subtrees f) (subtrees g) (One a) (atom_subtree g a k)) (among_append (atoms_in f) (atoms_in g) a m))
  atom_subtree (Ex x f) a m = inr (atom_subtree f a m)
  atom_subtree (All x f) a m = inr (atom_subtree f a m)

  atom_subtrees : (fs : Trees) (a : Atom) → Among (atoms_in_all fs) a → Among (all_subtrees fs) (One a)
  atom_subtrees none a m = absurd m
  atom_subtrees (also f fs) a m = ⊎_elim (λ k. among_left (subtrees f) (all_subtrees fs) (One a) (atom_subtree f a k)) (λ k. among_right (subtrees f) (all_subtrees fs) (One a) (atom_subtrees fs a k)) (among_append (atoms_in f) (atoms_in_all fs) a m)

mutual
  -- and a subtree that is an atom is one of the formula
  subtree_atom : (f : Tree) (a : Atom) → Among (subtrees f) (One a) → Among (atoms_in f) a
  subtree_atom Yes a (inl e) = cc
  subtree_atom Yes a (inr m) = absurd m
  subtree_atom No a (inl e) = cc
  subtree_atom No a (inr m) = absurd m
  subtree_atom (One b) a (inl e) = inl (cc)
  subtree_atom (One b) a (inr m) = absurd m
  subtree_atom (Not f) a (inl e) = cc
  subtree_atom (Not f) a (inr m) = subtree_atom f a m
  subtree_atom (And fs) a (inl e) = cc
  subtree_atom (And fs) a (inr m) = subtree_atoms fs a m
  subtree_atom (Or fs) a (inl e) = cc
  subtree_atom (Or fs) a (inr m) = subtree_atoms fs a m
  subtree_atom (Impl f g) a (inl e) = cc
  subtree_atom (Impl f g) a (inr m) = ⊎_elim (λ k. among_left (atoms_in f) (atoms_in g) a (subtree_atom f a k)) (λ k. among_right (atoms_in f) (atoms_in g) a (subtree_atom g a k)) (among_append (subtrees f) (subtrees g) (One a) m)
  subtree_atom (Repl f g) a (inl e) = cc
  subtree_atom (Repl f g) a (inr m) = ⊎_elim (λ k. among_left (atoms_in f) (atoms_in g) a (subtree_atom f a k)) (λ k. among_right (atoms_in f) (atoms_in g) a (subtree_atom g a k)) (among_append (subtrees f) (subtrees g) (One a) m)
  subtree_atom (Equiv f g) a (inl e) = cc
  subtree_atom (Equiv f g) a (inr m) = ⊎_elim (λ k. among_left (atoms_in f) (atoms_in g) a (subtree_atom f a k)) (λ k. among_right (atoms_in f) (atoms_in g) a (subtree_atom g a k)) (among_append (subtrees f) (subtrees g) (One a) m)
  subtree_atom (Ex x f) a (inl e) = cc
  subtree_atom (Ex x f) a (inr m) = subtree_atom f a m
  subtree_atom (All x f) a (inl e) = cc
  subtree_atom (All x f) a (inr m) = subtree_atom f a m

  subtree_atoms : (fs : Trees) (a : Atom) → Among (all_subtrees fs) (One a) → Among (atoms_in_all fs) a
  subtree_atoms none a m = absurd m
  subtree_atoms (also f fs) a m = ⊎_elim (λ k. among_left (atoms_in f) (atoms_in_all fs) a (subtree_atom f a k)) (λ k. among_right (atoms_in f) (atoms_in_all fs) a (subtree_atoms fs a k)) (among_append (subtrees f) (all_subtrees fs) (One a) m)

-- ---- the atoms of some nodes

-- the formula as an atom, if it is one
abbrev pub own_atom : Tree → List Atom
own_atom (One a) = a ∷ []
own_atom Yes = []
own_atom No = []
own_atom (Not f) = []
own_atom (And fs) = []
own_atom (Or fs) = []
own_atom (Impl f g) = []
own_atom (Repl f g) = []
own_atom (Equiv f g) = []
own_atom (Ex x f) = []
own_atom (All x f) = []

abbrev pub atoms_at : List (Shape FormulaId) → List FormulaId → List Atom
atoms_at nodes ids = flat_map (λ id. own_atom (tree nodes id)) ids

-- a shape has the atom of its tree
shape_own : {Id : Type 0} (t : Id → Tree) (s : Shape Id) → map atom_of (shape_atoms s) ≡ own_atom (tree_over t s)
shape_own t shape.True = refl
shape_own t shape.False = refl
shape_own t (shape.One a) = refl
shape_own t (shape.And ids) = refl
shape_own t (shape.Or ids) = refl
shape_own t (shape.Not f) = refl
shape_own t (shape.Impl f g) = refl
shape_own t (shape.Repl f g) = refl
shape_own t (shape.Equiv f g) = refl
shape_own t (shape.Ex x f) = refl
shape_own t (shape.All x f) = refl

own_is : (f : Tree) (a : Atom) → Among (own_atom f) a → f ≡ One a
own_is (One b) a (inl e) = ap One e
own_is (One b) a (inr m) = absurd m
own_is Yes a m = absurd m
own_is No a m = absurd m
own_is (Not f) a m = absurd m
own_is (And fs) a m = absurd m
own_is (Or fs) a m = absurd m
own_is (Impl f g) a m = absurd m
own_is (Repl f g) a m = absurd m
own_is (Equiv f g) a m = absurd m
own_is (Ex x f) a m = absurd m
own_is (All x f) a m = absurd m

module _ (nodes : List (Shape FormulaId)) where
  listed_id : (ids : List FormulaId) (a : Atom) → Among (atoms_at nodes ids) a → (x : FormulaId) × Among ids x × (tree nodes x ≡ One a)
  listed_id ids a m = let r = flat_map_among (λ id. own_atom (tree nodes id)) ids a m in (r.0, r.1, own_is (tree nodes r.0) a r.2)

  id_listed : (ids : List FormulaId) (x : FormulaId) (a : Atom) → Among ids x → tree nodes x ≡ One a → Among (atoms_at nodes ids) a
  id_listed ids x a m e = among_flat_map (λ id. own_atom (tree nodes id)) ids x a m (subst (λ (f : Tree). Among (own_atom f) a) (sym e) (inl refl))

  module _ (i : FormulaId) (ids : List FormulaId) (h : IsId nodes i) (all : (x : FormulaId) → Among ids x → IsId nodes x) (above : (x : FormulaId) → Among ids x → i.number < x.number) (o : StandsOnce (atoms_at nodes ids)) where
    head_once : (f : Tree) → tree nodes i ≡ f → StandsOnce (own_atom f ++ atoms_at nodes ids)
    head_once (One a) e =
        once_more a (atoms_at nodes ids) (λ m.
        let r = listed_id ids a m in
        let same : r.0 ≡ i = same_tree nodes r.0 i (all r.0 r.1) h (r.2 ∙ sym e) in
        let number = ap (λ (y : FormulaId). y.number) same in
        let k = above r.0 r.1 in
        omega arith) o
    head_once Yes e = o
    head_once No e = o
    head_once (Not f) e = o
    head_once (And fs) e = o
    head_once (Or fs) e = o
    head_once (Impl f g) e = o
    head_once (Repl f g) e = o
    head_once (Equiv f g) e = o
    head_once (Ex x f) e = o
    head_once (All x f) e = o

  once_from : (k : ℕ) (ids : List FormulaId) → RisesFrom k ids → ((x : FormulaId) → Among ids x → IsId nodes x) → StandsOnce (atoms_at nodes ids)
  once_from k [] r all = tt
  once_from k (i ∷ ids) r all =
      head_once i ids (all i (inl refl)) (λ x m. all x (inr m)) (λ x m. at_least_from i.number ids x r.1 m) (once_from i.number ids r.1 (λ x m. all x (inr m))) (tree nodes i) refl

  once : (ids : List FormulaId) → Rises ids → ((x : FormulaId) → Among ids x → IsId nodes x) → StandsOnce (atoms_at nodes ids)
  once [] r all = tt
  once (i ∷ ids) r all =
      head_once i ids (all i (inl refl)) (λ x m. all x (inr m)) (λ x m. at_least_from i.number ids x r m) (once_from i.number ids r (λ x m. all x (inr m))) (tree nodes i) refl

  module _ (root : FormulaId) (ids : List FormulaId) (h : IsId nodes root) (o : IsOrder nodes (root ∷ []) ids) where
    order_once : StandsOnce (atoms_at nodes ids)
    order_once = once ids o.rises (λ x m. within_id nodes h.are root x h (each_within nodes h.are root ids o.only x m))

    -- and they are those of the formula
    pub order_same : (a : Atom) → Among (atoms_at nodes ids) a ↔ Among (atoms_of (tree nodes root)) a
    order_same a = (
      λ m.
          let r = listed_id ids a m in
          let w = within_subtree nodes h.are root r.0 (each_within nodes h.are root ids o.only r.0 r.1) in
          among_distinct same_atom atom_same (atoms_in (tree nodes root)) a (subtree_atom (tree nodes root) a (subst (λ (g : Tree). Among (subtrees (tree nodes root)) g) r.2 w)),
      λ m.
          let q = subtree_found nodes h.are root h (One a) (atom_subtree (tree nodes root) a (distinct_among same_atom (atoms_in (tree nodes root)) a m)) in
          id_listed ids q.id a (o.all q.id (inl q.stands)) q.same,
    )

-- ---- the atoms that are listed

-- the node of an id gives its tree
node_tree : (nodes : List (Shape FormulaId)) (id : FormulaId) → IsId nodes id → tree nodes id ≡ tree_over (tree nodes) (get_or nodes id.number shape.True)
node_tree nodes id h =
    let at = slice_get-get_or nodes id.number shape.True h.below in
    node_tree_below nodes id.number (get_or nodes id.number shape.True) (h.are.below id.number (get_or nodes id.number shape.True) at) at

shape_well : {Id : Type 0} (s : Shape Id) → IsProperShape s → EachOf IsWellFormed (shape_atoms s)
shape_well (shape.One a) h = (h, tt)
shape_well shape.True h = tt
shape_well shape.False h = tt
shape_well (shape.And ids) h = tt
shape_well (shape.Or ids) h = tt
shape_well (shape.Not f) h = tt
shape_well (shape.Impl f g) h = tt
shape_well (shape.Repl f g) h = tt
shape_well (shape.Equiv f g) h = tt
shape_well (shape.Ex x f) h = tt
shape_well (shape.All x f) h = tt

listed_well : (nodes : List (Shape FormulaId)) (ids : List FormulaId) → AllByRecursion (IsId nodes) ids → EachOf IsWellFormed (listed_atoms nodes ids)
listed_well nodes [] h = tt
listed_well nodes (i ∷ ids) h =
    let at = slice_get-get_or nodes i.number shape.True h.0.below in
    each_append IsWellFormed (shape_atoms (get_or nodes i.number shape.True)) (listed_atoms nodes ids)
    (shape_well (get_or nodes i.number shape.True) (h.0.are.proper i.number (get_or nodes i.number shape.True) at)) (listed_well nodes ids h.1)

listed_same : (nodes : List (Shape FormulaId)) (ids : List FormulaId) → AllByRecursion (IsId nodes) ids → map atom_of (listed_atoms nodes ids) ≡ atoms_at nodes ids
listed_same nodes [] h = refl
listed_same nodes (i ∷ ids) h =
    map-append atom_of (shape_atoms (get_or nodes i.number shape.True)) (listed_atoms nodes ids)
    ∙ ap₂ (λ (l m : List Atom). l ++ m) (shape_own (tree nodes) (get_or nodes i.number shape.True) ∙ ap own_atom (sym (node_tree nodes i h.0))) (listed_same nodes ids h.1)

each_from : (P : FormulaId → Type 0) (ids : List FormulaId) → ((x : FormulaId) → Among ids x → P x) → AllByRecursion P ids
each_from P [] h = tt
each_from P (i ∷ ids) h = (h i (inl refl), each_from P ids (λ x m. h x (inr m)))

module _ (nodes : List (Shape FormulaId)) (root : FormulaId) (ids : List FormulaId) (h : IsId nodes root) (o : IsOrder nodes (root ∷ []) ids) where
  -- the subformulas of a formula are ids,
  pub listed_ids : AllByRecursion (IsId nodes) ids
  listed_ids = each_from (IsId nodes) ids (λ x m. within_id nodes h.are root x h (each_within nodes h.are root ids o.only x m))

  -- and their atoms those of the formula
  pub listed_are : AreAtomsOf (tree nodes root) (listed_atoms nodes ids)
  listed_are =
      let e = listed_same nodes ids listed_ids in
      record {
        well_formed = All-from_recursion IsWellFormed (listed_atoms nodes ids) (listed_well nodes ids listed_ids);
        once = subst StandsOnce (sym e) (order_once nodes root ids h o);
        same = subst (λ (l : List Atom). (a : Atom) → Among l a ↔ Among (atoms_of (tree nodes root)) a) (sym e) (order_same nodes root ids h o);
      }

-- ---- one subformula after another

-- the atom of a subformula comes before those of the subformulas after it
pub atoms_from : (nodes : List (Shape FormulaId)) (ids : List FormulaId) (i : ℕ) (d : FormulaId) (s : Shape FormulaId) → i < length ids → tree nodes (get_or ids i d) ≡ tree_over (tree nodes) s →
    map atom_of (shape_atoms s) ++ atoms_at nodes (drop (i + 1) ids) ≡ atoms_at nodes (drop i ids)
atoms_from nodes ids i d s h t =
    let split : drop i ids ≡ get_or ids i d ∷ drop (i + 1) ids = rw (add-one, drop-cons ids i d) refl in
    let own : map atom_of (shape_atoms s) ≡ own_atom (tree nodes (get_or ids i d)) = shape_own (tree nodes) s ∙ ap own_atom (sym t) in
    ap (λ (l : List Atom). l ++ atoms_at nodes (drop (i + 1) ids)) own ∙ ap (atoms_at nodes) (sym split)

pub listed_more : (nodes : List (Shape FormulaId)) (ids : List FormulaId) (i : ℕ) (d : FormulaId) (s : Shape FormulaId) → i < length ids → slice_get nodes (get_or ids i d).number ≡ Some s →
    listed_atoms nodes (take (i + 1) ids) ≡ listed_atoms nodes (take i ids) ++ shape_atoms s
listed_more nodes ids i d s h at =
    let f : FormulaId → List code.Atom = λ id. shape_atoms (get_or nodes id.number shape.True) in
    let node : get_or nodes (get_or ids i d).number shape.True ≡ s = get_or_from_slice_get nodes (get_or ids i d).number s shape.True at in
    ap (flat_map f) (take_more ids i d h) ∙ flat_map-append f (take i ids) (get_or ids i d ∷ [])
    ∙ ap (λ (l : List code.Atom). flat_map f (take i ids) ++ l) (append-nil (f (get_or ids i d)) ∙ ap shape_atoms node)

pub listed_all : (nodes : List (Shape FormulaId)) (ids : List FormulaId) (i : ℕ) → length ids ≤ i → listed_atoms nodes (take i ids) ≡ listed_atoms nodes ids
listed_all nodes ids i h = ap (listed_atoms nodes) (take_all i ids h)

-- there are no more atoms than formulas
shape_one : {Id : Type 0} (s : Shape Id) → length (shape_atoms s) ≤ 1
shape_one (shape.One a) = lit≤ tt
shape_one shape.True = lit≤ tt
shape_one shape.False = lit≤ tt
shape_one (shape.And ids) = lit≤ tt
shape_one (shape.Or ids) = lit≤ tt
shape_one (shape.Not f) = lit≤ tt
shape_one (shape.Impl f g) = lit≤ tt
shape_one (shape.Repl f g) = lit≤ tt
shape_one (shape.Equiv f g) = lit≤ tt
shape_one (shape.Ex x f) = lit≤ tt
shape_one (shape.All x f) = lit≤ tt

pub listed_few : (nodes : List (Shape FormulaId)) (ids : List FormulaId) → length (listed_atoms nodes ids) ≤ length ids
listed_few nodes [] = omega arith
listed_few nodes (i ∷ ids) =
    let one = shape_one (get_or nodes i.number shape.True) in
    let rest = listed_few nodes ids in
    let both = length-append (shape_atoms (get_or nodes i.number shape.True)) (listed_atoms nodes ids) in omega arith
