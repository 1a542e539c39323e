-- Conjunctions of atoms, one atom after another.
use Rattle.std.proofs.Common.{◌≡◌, ℕ, zero, suc, ◌+◌, ◌≤◌, ◌<◌, ◌↔◌, List, [], ◌∷◌, ◌++◌, length, map, take, get_or, refl, sym, ap, subst, ◌∙◌, arith}
use Rattle.std.proofs.lemmas.List.{map-append, take_more, take_all, length-map}
use Rattle.std.specs.List.{Contains}
use Rattle.logic_meaning.specs.Context.{Context}
use Rattle.logic_meaning.specs.Point.{Point}
use Rattle.logic_meaning.specs.Formula.{And}
use Rattle.logic_meaning.specs.Atom.{Atom, Says}
use Rattle.logic_meaning.specs.Tree.{Tree, TrueAt}
use Rattle.formula_tree.specs.Trees.{members}
use Rattle.formula_store.specs.declared.id.FormulaId.{FormulaId}
use Rattle.atom_pruning.specs.declared.rows.AtomRows.{AtomRows}
use Rattle.atom_pruning.specs.Rows.{AreRowsOf, AreRows}
use Rattle.atom_pruning.specs.Kept.{AllSay, Imply}
use Rattle.branch_pruning.specs.declared.conjunction.Conjunction.{Conjunction}
use Rattle.branch_pruning.specs.Cuts.{said}
use Rattle.branch_pruning.specs.Compared.{atoms_of, SaysAll, Implies}
use Rattle.branch_pruning.proofs.Conjunctions.{says_joined}
use Rattle.branch_pruning.proofs.Walking.{rows_length}

says_parts : (us vs : List Atom) (p : Point ℕ) → AllSay (us ++ vs) p → AllSay us p × AllSay vs p
says_parts [] vs p h = (tt, h)
says_parts (u ∷ us) vs p h = let r = says_parts us vs p h.1 in ((h.0, r.0), r.1)

module _ (tree : FormulaId → Tree) where
  true_joined : (c : Context) (p : Point ℕ) (xs ys : List FormulaId) → TrueAt c (And (members (map tree (xs ++ ys)))) p ↔ (TrueAt c (And (members (map tree xs))) p × TrueAt c (And (members (map tree ys))) p)
  true_joined c p [] ys = (λ t. (tt, t), λ t. t.1)
  true_joined c p (x ∷ xs) ys = let r = true_joined c p xs ys in (λ t. let k = r.0 t.1 in ((t.0, k.0), k.1), λ t. (t.0.0, r.1 (t.0.1, t.1)))

  atoms_joined : (xs ys : List FormulaId) → atoms_of tree (xs ++ ys) ≡ atoms_of tree xs ++ atoms_of tree ys
  atoms_joined xs ys = ap (map said) (map-append tree xs ys) ∙ map-append said (map tree xs) (map tree ys)

  says_then : (xs : List FormulaId) (y : FormulaId) → SaysAll (And (members (map tree xs))) (atoms_of tree xs) → SaysAll (tree y) (atoms_of tree (y ∷ [])) → SaysAll (And (members (map tree (xs ++ y ∷ [])))) (atoms_of tree (xs ++ y ∷ []))
  says_then xs y h k c p =
      let r = true_joined c p xs (y ∷ []) in
      let e = atoms_joined xs (y ∷ []) in (
        λ t. subst (λ us. AllSay us p) (sym e) (let q = r.0 t in says_joined (atoms_of tree xs) (atoms_of tree (y ∷ [])) p ((h c p).0 q.0) ((k c p).0 q.1.0)),
        λ s. let q = says_parts (atoms_of tree xs) (atoms_of tree (y ∷ [])) p (subst (λ us. AllSay us p) e s) in r.1 ((h c p).1 q.0, ((k c p).1 q.1, tt)),
      )

  -- one atom more
  pub says_more : (ids : List FormulaId) (i : ℕ) (d : FormulaId) → i < length ids → SaysAll (And (members (map tree (take i ids)))) (atoms_of tree (take i ids)) → SaysAll (tree (get_or ids i d)) (atoms_of tree (get_or ids i d ∷ [])) →
      SaysAll (And (members (map tree (take (i + 1) ids)))) (atoms_of tree (take (i + 1) ids))
  says_more ids i d l h k = subst (λ xs. SaysAll (And (members (map tree xs))) (atoms_of tree xs)) (sym (take_more ids i d l)) (says_then (take i ids) (get_or ids i d) h k)

  pub says_whole : (ids : List FormulaId) (i : ℕ) → length ids ≤ i → SaysAll (And (members (map tree (take i ids)))) (atoms_of tree (take i ids)) → SaysAll (And (members (map tree ids))) (atoms_of tree ids)
  says_whole ids i l h = subst (λ xs. SaysAll (And (members (map tree xs))) (atoms_of tree xs)) (take_all i ids l) h

  -- an atom of a conjunction is true where all are
  says_at : (ids : List FormulaId) (k : ℕ) (d : FormulaId) (p : Point ℕ) → k < length ids → AllSay (atoms_of tree ids) p → Says (said (tree (get_or ids k d))) p
  says_at [] k d p l s = absurd (omega arith)
  says_at (x ∷ ids) zero d p l s = s.0
  says_at (x ∷ ids) (suc k) d p l s = says_at ids k d p (omega arith) s.1

  says_one : (ids : List FormulaId) (id : FormulaId) (p : Point ℕ) → Contains ids id → AllSay (atoms_of tree ids) p → Says (said (tree id)) p
  says_one ids id p h s = subst (λ x. Says (said (tree x)) p) h.2 (says_at ids h.0 id p h.1 s)

rows_at : (c : Context) (us : List Atom) (rows : List AtomRows) (i : ℕ) (d : Atom) (e : AtomRows) → i < length rows → AreRows c us rows → AreRowsOf c (get_or us i d) (get_or rows i e)
rows_at c [] [] i d e l h = absurd (omega arith)
rows_at c [] (r ∷ rows) i d e l h = absurd h
rows_at c (u ∷ us) [] i d e l h = absurd h
rows_at c (u ∷ us) (r ∷ rows) zero d e l h = h.0
rows_at c (u ∷ us) (r ∷ rows) (suc i) d e l h = rows_at c us rows i d e (omega arith) h.1

get_or-atoms : (tree : FormulaId → Tree) (ids : List FormulaId) (i : ℕ) (d : FormulaId) → get_or (atoms_of tree ids) i (said (tree d)) ≡ said (tree (get_or ids i d))
get_or-atoms tree [] i d = refl
get_or-atoms tree (x ∷ ids) zero d = refl
get_or-atoms tree (x ∷ ids) (suc i) d = get_or-atoms tree ids i d

-- ---- what is shown of the first so many atoms of another conjunction

abbrev pub ImpliesFirst : List AtomRows → Conjunction → Conjunction → ℕ → Type 0
ImpliesFirst rows k l n =
    (c : Context) (ks : List Atom) (tree : FormulaId → Tree) → AreRows c ks rows → AreRows c (atoms_of tree k.ids.items) k.rows.items → AreRows c (atoms_of tree l.ids.items) l.rows.items →
    Imply c ks (atoms_of tree k.ids.items) (atoms_of tree (take n l.ids.items))

-- the multipliers show it of an atom with these rows
abbrev pub ShowsOne : List AtomRows → Conjunction → AtomRows → Type 0
ShowsOne rows k r = (c : Context) (ks gs us : List Atom) → AreRows c ks rows → AreRows c gs k.rows.items → AreRows c us (r ∷ []) → Imply c ks gs us

module _ (rows : List AtomRows) (k l : Conjunction) (n : ℕ) (id : FormulaId) (r : AtomRows) (in_ids : n < length l.ids.items) (in_rows : n < length l.rows.items) (is_id : id ≡ get_or l.ids.items n id) (is_row : r ≡ get_or l.rows.items n r) (so_far : ImpliesFirst rows k l n) where
  more : ((c : Context) (ks : List Atom) (tree : FormulaId → Tree) → AreRows c ks rows → AreRows c (atoms_of tree k.ids.items) k.rows.items → AreRows c (atoms_of tree l.ids.items) l.rows.items → Imply c ks (atoms_of tree k.ids.items) (said (tree id) ∷ [])) →
      ImpliesFirst rows k l (n + 1)
  more h c ks tree a b d p o s g =
      let longer : atoms_of tree (take (n + 1) l.ids.items) ≡ atoms_of tree (take n l.ids.items) ++ said (tree id) ∷ [] =
      ap (atoms_of tree) (take_more l.ids.items n id in_ids ∙ ap (λ x. take n l.ids.items ++ x ∷ []) (sym is_id)) ∙ atoms_joined tree (take n l.ids.items) (id ∷ []) in
      subst (λ us. AllSay us p) (sym longer) (says_joined (atoms_of tree (take n l.ids.items)) (said (tree id) ∷ []) p (so_far c ks tree a b d p o s g) (h c ks tree a b d p o s g))

  -- the atom is one of the given
  pub member_more : Contains k.ids.items id → ImpliesFirst rows k l (n + 1)
  member_more m = more (λ c ks tree a b d p o s g. (says_one tree k.ids.items id p m g, tt))

  -- or it is shown
  pub shown_more : ShowsOne rows k r → ImpliesFirst rows k l (n + 1)
  shown_more h = more (λ c ks tree a b d.
      let one : AreRowsOf c (said (tree id)) r =
      subst (λ q. AreRowsOf c (said (tree id)) q) (sym is_row) (subst (λ u. AreRowsOf c u (get_or l.rows.items n r)) (get_or-atoms tree l.ids.items n id ∙ ap (λ x. said (tree x)) (sym is_id))
      (rows_at c (atoms_of tree l.ids.items) l.rows.items n (said (tree id)) r in_rows d)) in
      h c ks (atoms_of tree k.ids.items) (said (tree id) ∷ []) a b (one, tt))

-- it is shown of all
pub shown_all : (rows : List AtomRows) (k l : Conjunction) (n : ℕ) → ((tree : FormulaId → Tree) (c : Context) → AreRows c (atoms_of tree l.ids.items) l.rows.items → length l.ids.items ≤ n) → ImpliesFirst rows k l n → Implies rows k l
shown_all rows k l n e h c ks tree a b d p o s g = subst (λ xs. AllSay (atoms_of tree xs) p) (take_all n l.ids.items (e tree c d)) (h c ks tree a b d p o s g)

-- there are as many rows as atoms
pub as_many : (c : Context) (tree : FormulaId → Tree) (ids : List FormulaId) (rows : List AtomRows) → AreRows c (atoms_of tree ids) rows → length rows ≡ length ids
as_many c tree ids rows h = rows_length c (atoms_of tree ids) rows h ∙ length-map (map tree ids) said ∙ length-map ids tree
