-- The critical values of a formula of a store, from one distinct subformula after the other.
use Rattle.std.proofs.Common.{◌≡◌, ℕ, ◌+◌, ◌<◌, ◌≤◌, Bool, true, false, ◌&&◌, List, [], ◌∷◌, ◌++◌, map, length, get_or, drop, Option, Some, None, ◌↔◌, refl, sym, ap, ◌∙◌, subst, arith, inl, inr, append-nil}
use Rattle.std.specs.Prelude.{option_map}
use Rattle.std.proofs.Math.ListN.{drop_of_length-le}
use Rattle.std.proofs.lemmas.Grind.{flat_map-append}
use Rattle.exact_numbers.specs.declared.fraction.Fraction.{Fraction}
use Rattle.exact_numbers.specs.Frac.{Frac}
use Rattle.exact_numbers.specs.Fraction.{frac_of}
use Rattle.logic_meaning.specs.Context.{Context}
use Rattle.logic_meaning.specs.Formula.{Yes, No, One, Not, And, Or, Impl, Repl, Equiv, Ex, All, none, also}
use Rattle.logic_meaning.specs.Some.{Among, EachOf}
use Rattle.logic_meaning.specs.Atom.{Atom}
use Rattle.formula_laws.specs.TheoryAtoms.{AtomIn}
use Rattle.logic_meaning.specs.Limits.{each}
use Rattle.logic_meaning.specs.Point.{Point}
use Rattle.logic_meaning.specs.Plain.{IsPlain, ArePlain}
use Rattle.logic_meaning.specs.Tree.{Tree, Trees}
use Rattle.formula_laws.specs.Equivalence.{InContext}
use Rattle.formula_laws.proofs.Iff.{both_ways, turn_round}
use Rattle.formula_laws.proofs.Listed.{among_flat_map, flat_map_among}
use Rattle.logic_meaning.specs.declared.side.Side.{Side}
use Rattle.logic_meaning.specs.Atoms.{atoms_in, atoms_in_all, atoms_of}
use Rattle.elimination_theory.proofs.SomeListed.{each_among, each_right, atoms_of_every}
use Rattle.logic_meaning.specs.PutIn.{atom_put, tree_put, trees_put, tree_put_within, trees_put_within}
use Rattle.logic_meaning.specs.NormalForm.{normal_atom}
use Rattle.normal_atoms.specs.Atoms.{atom_of, context_of}
use Rattle.formula_tree.specs.declared.shape.Shape.{Shape}
use Rattle.formula_tree.specs.Shapes.{tree_over}
use Rattle.formula_store.specs.declared.id.FormulaId.{FormulaId}
use Rattle.formula_store.specs.Nodes.{tree, IsId}
use Rattle.formula_store.specs.Order.{IsOrder}
use Rattle.linear_forms.specs.Values.{point_of}
use Rattle.test_points.specs.declared.error.PointError.{PointError}
use Rattle.test_points.specs.declared.error.PointError.TheVariants.{Overflow, Nodes, Memory}
use Rattle.test_points.proofs.Ended.{first_false}
use Rattle.nnf_trees.specs.Placed.{Fails}
use Rattle.nnf_trees.proofs.PutLaws.{and_known, each_append}
use Rattle.reference_engine.specs.Put.{atom_put_within}
use Rattle.branch_rounds.specs.FromBranchPoints.{shape_atoms}
use Rattle.branch_rounds.proofs.FromBranchPoints.{atoms_at, atoms_from, order_same}
use Rattle.logic_meaning.specs.Calculated.{criticals, least_with, past}
use Rattle.sample_reference.proofs.CriticalSets.{once_same}
use Rattle.sample_reference.proofs.Tracing.{each_true}
use Rattle.case_theory.proofs.Lists.{each_from}
use Rattle.plain_samples.specs.Told.{Lacks}
use Rattle.plain_samples.specs.Roots.{least_among, IsNextCritical}
use Rattle.plain_samples.proofs.Leasts.{among_append, next_among, next_refused}
use Rattle.engine_answers.specs.declared.search.Search.{Search}
use Rattle.engine_answers.specs.Searches.{atoms_put, IsLeastWith}

-- ---- a plain formula with the point put in

module _ (c : Context) (p : Point ℕ) (x : ℕ) where
  abbrev Within : Atom → Bool
  Within = atom_put_within c p (x ∷ [])

  put_append : (atoms more : List Atom) → atoms_put c p x (atoms ++ more) ≡ atoms_put c p x atoms ++ atoms_put c p x more
  put_append atoms more = flat_map-append (λ a. atoms_in (normal_atom c (atom_put p (x ∷ []) a))) atoms more

  mutual
    -- its atoms are those of its atoms,
    plain_atoms : (f : Tree) → IsPlain f → atoms_in (tree_put c p (x ∷ []) f) ≡ atoms_put c p x (atoms_in f)
    plain_atoms Yes h = refl
    plain_atoms No h = refl
    plain_atoms (One a) h = sym (append-nil (atoms_in (normal_atom c (atom_put p (x ∷ []) a))))
    plain_atoms (And fs) h = all_atoms fs h
    plain_atoms (Or fs) h = all_atoms fs h
    plain_atoms (Not f) h = absurd h
    plain_atoms (Impl f g) h = absurd h
    plain_atoms (Repl f g) h = absurd h
    plain_atoms (Equiv f g) h = absurd h
    plain_atoms (Ex y f) h = absurd h
    plain_atoms (All y f) h = absurd h

    all_atoms : (fs : Trees) → ArePlain fs → atoms_in_all (trees_put c p (x ∷ []) fs) ≡ atoms_put c p x (atoms_in_all fs)
    all_atoms none h = refl
    all_atoms (also f fs) h =
        ap (λ l. l ++ atoms_in_all (trees_put c p (x ∷ []) fs)) (plain_atoms f h.0) ∙ ap (λ l. atoms_put c p x (atoms_in f) ++ l) (all_atoms fs h.1) ∙ sym (put_append (atoms_in f) (atoms_in_all fs))

  and_right : (a : Bool) → a ≡ (a && true)
  and_right true = refl
  and_right false = refl

  mutual
    -- and it is within the limit where each of these is
    plain_within : (f : Tree) → IsPlain f → tree_put_within c p (x ∷ []) f ≡ each Within (atoms_in f)
    plain_within Yes h = refl
    plain_within No h = refl
    plain_within (One a) h = and_right (Within a)
    plain_within (And fs) h = all_plain_within fs h
    plain_within (Or fs) h = all_plain_within fs h
    plain_within (Not f) h = absurd h
    plain_within (Impl f g) h = absurd h
    plain_within (Repl f g) h = absurd h
    plain_within (Equiv f g) h = absurd h
    plain_within (Ex y f) h = absurd h
    plain_within (All y f) h = absurd h

    all_plain_within : (fs : Trees) → ArePlain fs → trees_put_within c p (x ∷ []) fs ≡ each Within (atoms_in_all fs)
    all_plain_within none h = refl
    all_plain_within (also f fs) h =
        ap (λ b. b && trees_put_within c p (x ∷ []) fs) (plain_within f h.0) ∙ ap (λ b. each Within (atoms_in f) && b) (all_plain_within fs h.1) ∙ sym (each_append Within (atoms_in f) (atoms_in_all fs))

  -- ---- lists with the same atoms

  put_covered : (xs ys : List Atom) → ((a : Atom) → Among xs a → Among ys a) → (b : Atom) → Among (atoms_put c p x xs) b → Among (atoms_put c p x ys) b
  put_covered xs ys h b m =
      let g : Atom → List Atom = λ a. atoms_in (normal_atom c (atom_put p (x ∷ []) a)) in
      let r = flat_map_among g xs b m in among_flat_map g ys r.0 b (h r.0 r.1) r.2

each_so : {X : Type 0} (test : X → Bool) (xs : List X) → ((a : X) → Among xs a → test a ≡ true) → each test xs ≡ true
each_so test [] h = refl
each_so test (a ∷ xs) h = and_known (test a) (each test xs) (h a (inl refl)) ∙ each_so test xs (λ b m. h b (inr m))

each_covered : {X : Type 0} (test : X → Bool) (xs ys : List X) → ((a : X) → Among xs a → Among ys a) → each test ys ≡ true → each test xs ≡ true
each_covered test xs ys h e = each_so test xs (λ a m. each_among (λ b. test b ≡ true) ys a (each_true test ys e) (h a m))

each_same : {X : Type 0} (test : X → Bool) (xs ys : List X) → ((a : X) → Among xs a ↔ Among ys a) → each test xs ≡ each test ys
each_same test xs ys h = go (each test xs) (each test ys) refl refl
  where
    go : (a b : Bool) → each test xs ≡ a → each test ys ≡ b → each test xs ≡ each test ys
    go true b e f = e ∙ sym (each_covered test ys xs (λ a. (h a).1) e)
    go false true e f = each_covered test xs ys (λ a. (h a).0) f ∙ sym f
    go false false e f = e ∙ sym f

-- ---- the atoms of the nodes

module _ (nodes : List (Shape FormulaId)) (root : FormulaId) (ids : List FormulaId) (h : IsId nodes root) (o : IsOrder nodes (root ∷ []) ids) where
  -- the atom of a node comes before those of the nodes after it
  pub node_atoms : (i : ℕ) (d : FormulaId) (s : Shape FormulaId) → i < length ids → tree nodes (get_or ids i d) ≡ tree_over (tree nodes) s → map atom_of (shape_atoms s) ++ atoms_at nodes (drop (i + 1) ids) ≡ atoms_at nodes (drop i ids)
  node_atoms i d s n t = atoms_from nodes ids i d s n t

  -- the atoms of the nodes are those of the formula
  pub same_atoms : (a : Atom) → Among (atoms_at nodes ids) a ↔ Among (atoms_of (tree nodes root)) a
  same_atoms = order_same nodes root ids h o

  pub atoms_inside : (c : Context) → InContext c (tree nodes root) → EachOf (AtomIn c) (atoms_at nodes ids)
  atoms_inside c inside = each_from (AtomIn c) (atoms_at nodes ids) (λ a m. each_among (AtomIn c) (atoms_of (tree nodes root)) a (atoms_of_every (AtomIn c) (tree nodes root) inside) ((same_atoms a).0 m))

  -- at each place of the formula
  places_same : (a : Atom) → Among (atoms_at nodes ids) a ↔ Among (atoms_in (tree nodes root)) a
  places_same a = both_ways (same_atoms a) (turn_round (once_same (tree nodes root) a))

  module _ (c : Context) (p : Point ℕ) (x : ℕ) (plain : IsPlain (tree nodes root)) where
    within_same : tree_put_within c p (x ∷ []) (tree nodes root) ≡ each (Within c p x) (atoms_at nodes ids)
    within_same = plain_within c p x (tree nodes root) plain ∙ sym (each_same (Within c p x) (atoms_at nodes ids) (atoms_in (tree nodes root)) places_same)

    put_same : (b : Atom) → Among (atoms_put c p x (atoms_at nodes ids)) b ↔ Among (atoms_in (tree_put c p (x ∷ []) (tree nodes root))) b
    put_same b =
        subst (λ (l : List Atom). Among (atoms_put c p x (atoms_at nodes ids)) b ↔ Among l b) (sym (plain_atoms c p x (tree nodes root) plain))
        (put_covered c p x (atoms_at nodes ids) (atoms_in (tree nodes root)) (λ a. (places_same a).0) b, put_covered c p x (atoms_in (tree nodes root)) (atoms_at nodes ids) (λ a. (places_same a).1) b)

    pub listed_found : (side : Side) (bound : Option Frac) (w : Option Fraction) → each (Within c p x) (atoms_at nodes ids) ≡ true →
        option_map frac_of w ≡ least_among side x bound None (atoms_put c p x (atoms_at nodes ids)) → IsNextCritical side bound (criticals c x (tree nodes root) p) w
    listed_found side bound w t e = next_among c side x (tree nodes root) p bound w (atoms_put c p x (atoms_at nodes ids)) (within_same ∙ t) put_same e

    pub listed_refused : each (Within c p x) (atoms_at nodes ids) ≡ false → criticals c x (tree nodes root) p ≡ None
    listed_refused e = next_refused c x (tree nodes root) p (within_same ∙ e)

-- ---- one atom after the other

module _ (s : Search) where
  abbrev passes : Atom → Bool
  passes = Within (context_of s.context) (point_of s.at.now) s.x.number

  abbrev least_of : Option Frac → List Atom → Option Frac
  least_of before atoms = least_among s.side s.x.number (option_map frac_of s.bound) before (atoms_put (context_of s.context) (point_of s.at.now) s.x.number atoms)

  nothing_past : (bound : Option Frac) → past bound [] ≡ []
  nothing_past None = refl
  nothing_past (Some b) = refl

  -- the least so far, with the atoms left, is that of all
  pub record IsSearched (all rest : List Atom) (w : Option Fraction) : Type 0 where
    pub left : least_of (option_map frac_of w) rest ≡ least_of None all
    pub within : each passes rest ≡ each passes all
    pub inside : EachOf (AtomIn (context_of s.context)) rest

  pub searched_first : (all : List Atom) → EachOf (AtomIn (context_of s.context)) all → IsSearched all all None
  searched_first all h = record { left = refl; within = refl; inside = h }

  least_append : (before : Option Frac) (own rest : List Atom) → least_of before (own ++ rest) ≡ least_of (least_of before own) rest
  least_append before own rest =
      let c = context_of s.context in
      let p = point_of s.at.now in
      ap (least_among s.side s.x.number (option_map frac_of s.bound) before) (put_append c p s.x.number own rest)
      ∙ among_append s.side s.x.number (option_map frac_of s.bound) before (atoms_put c p s.x.number own) (atoms_put c p s.x.number rest)

  pub searched_more : (all own rest : List Atom) (w v : Option Fraction) → IsSearched all (own ++ rest) w → IsLeastWith s (option_map frac_of w) own v → IsSearched all rest v
  searched_more all own rest w v h k = record {
    left = ap (λ o. least_of o rest) k.least ∙ sym (least_append (option_map frac_of w) own rest) ∙ h.left;
    within = sym (and_known (each passes own) (each passes rest) k.within) ∙ sym (each_append passes own rest) ∙ h.within;
    inside = each_right (AtomIn (context_of s.context)) own rest h.inside;
  }

  pub searched_stops : (all own rest : List Atom) (w : Option Fraction) → IsSearched all (own ++ rest) w → each passes own ≡ false → each passes all ≡ false
  searched_stops all own rest w h e = sym h.within ∙ each_append passes own rest ∙ first_false (each passes own) (each passes rest) e

  module _ (nodes : List (Shape FormulaId)) (root : FormulaId) (ids : List FormulaId) (h : IsId nodes root) (o : IsOrder nodes (root ∷ []) ids) (plain : IsPlain (tree nodes root)) where
    pub searched_last : (i : ℕ) (w : Option Fraction) → length ids ≤ i → IsSearched (atoms_at nodes ids) (atoms_at nodes (drop i ids)) w →
        IsNextCritical s.side (option_map frac_of s.bound) (criticals (context_of s.context) s.x.number (tree nodes root) (point_of s.at.now)) w
    searched_last i w past k =
        let over : drop i ids ≡ [] = drop_of_length-le ids past in
        listed_found nodes root ids h o (context_of s.context) (point_of s.at.now) s.x.number plain s.side (option_map frac_of s.bound) w
        (sym k.within ∙ ap (λ l. each passes (atoms_at nodes l)) over) (sym (ap (least_with (option_map frac_of w)) (nothing_past (option_map frac_of s.bound))) ∙ ap (λ l. least_of (option_map frac_of w) (atoms_at nodes l)) (sym over) ∙ k.left)

    pub searched_fails : (e : PointError) → Fails e (each passes (atoms_at nodes ids)) → Lacks e (criticals (context_of s.context) s.x.number (tree nodes root) (point_of s.at.now))
    searched_fails Overflow f = listed_refused nodes root ids h o (context_of s.context) (point_of s.at.now) s.x.number plain f
    searched_fails Nodes f = f
    searched_fails Memory f = tt

  -- the error at the atoms of one node
  pub fails_there : (all own rest : List Atom) (w : Option Fraction) (e : PointError) → IsSearched all (own ++ rest) w → Fails e (each passes own) → Fails e (each passes all)
  fails_there all own rest w Overflow h f = searched_stops all own rest w h f
  fails_there all own rest w Nodes h f = f
  fails_there all own rest w Memory h f = tt
