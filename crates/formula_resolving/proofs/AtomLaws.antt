-- What is read of an atom.
use Rattle.std.proofs.Common.{◌≡◌, inl, inr, ⊎_elim, ℕ, Bool, true, false, List, [], ◌∷◌, Option, Some, None, refl, subst, sym, ap, ◌∙◌}
use Rattle.std.specs.Prelude.{◌↔◌, MatchOption, option_map, unwrap_or, if◌then◌else◌}
use Rattle.logic_meaning.specs.Context.{Context, Fields, Integers}
use Rattle.logic_meaning.specs.Formula.{Yes, No, One}
use Rattle.logic_meaning.specs.Tree.{Tree}
use Rattle.logic_meaning.specs.Sizes.{height}
use Rattle.normal_atoms.specs.declared.atoms.Normal.{Normal}
use Rattle.normal_atoms.specs.declared.atoms.Normal.TheVariants as normal
use Rattle.normal_atoms.specs.Atoms.{tree_of, IsWellFormedNormal}
use Rattle.language_meaning.specs.declared.tree.Relation.{Relation}
use Rattle.language_meaning.specs.Value.{same_name}
use Rattle.language_meaning.specs.Trees.{TermTree, WrittenAtom, Compare, Cong, Ncong, Bound}
use Rattle.written_atoms.specs.declared.read.ReadAtom.{ReadAtom}
use Rattle.written_atoms.specs.Read.{IsRead, IsUnread, congruence_tree}
use Rattle.formula_tree.specs.declared.shape.Shape.{Shape}
use Rattle.formula_tree.specs.Shapes.{tree_over, IsProperShape}
use Rattle.logic_meaning.specs.Bindings.{bound_to}
use Rattle.formula_tree.specs.Makers.{IsMade}
use Rattle.language_meaning.specs.Causes.{HasNoTree, IsCongruence, atom_in_place}
use Rattle.language_meaning.specs.Resolving.{BoundTrees, resolved_atom}
use Rattle.logic_meaning.specs.Names.{place}
use Rattle.language_meaning.specs.declared.static_error.StaticError.{StaticError}
use Rattle.language_meaning.specs.declared.static_error.StaticError.TheVariants.{Unbound, FormulaAsTerm, Nonlinear, Division, CongruenceContext, Modulus, Depth, Overflow, Memory}
use Rattle.formula_resolving.specs.declared.causes.Causes.{Causes}
use Rattle.formula_resolving.specs.declared.parts.Part.{Part}
use Rattle.formula_resolving.specs.BoundIds.{AreIds, trees_bound}
use Rattle.formula_resolving.specs.MetCauses.{flag, no_causes, IsRefused, CongruenceIn, StandsIn, is_fields, atom_causes}
use Rattle.formula_resolving.specs.Heights.{told}
use Rattle.formula_resolving.specs.Connectives.{normal_shape}
use Rattle.formula_resolving.specs.Parts.{IsPart, IsFinished}
use Rattle.formula_resolving.proofs.PartLaws.{some_same, finished_part}

never : (P : Type 0) → (¬ P) → (false ≡ true) ↔ P
never P n = (λ e. absurd (cc), λ p. absurd (n p))

-- ---- names of formulas

name_no_congruence : (c : Context) (x : List ℕ) → ¬ (CongruenceIn c (Bound x))
name_no_congruence Fields x h = h
name_no_congruence Integers x h = h

name_told : (c : Context) (bound : BoundTrees) (number : List ℕ → ℕ) (x : List ℕ) (b : Bool) → (b ≡ true) ↔ (bound_to bound x ≡ None) → (e : StaticError)
    → (flag (record no_causes { unbound = b }) e ≡ true) ↔ StandsIn c bound number e (Bound x)
name_told c bound number x b h Unbound = h
name_told c bound number x b h FormulaAsTerm = never _ (λ n. n)
name_told c bound number x b h Nonlinear = never _ (λ n. n)
name_told c bound number x b h Division = never _ (λ n. n)
name_told c bound number x b h CongruenceContext = never _ (name_no_congruence c x)
name_told c bound number x b h Modulus = never _ (λ n. n)
name_told c bound number x b h Depth = never _ (λ n. n)
name_told c bound number x b h Overflow = never _ (⊎_elim (λ n. n) (λ n. n))
name_told c bound number x b h Memory = never _ (λ n. n)

module _ {Id : Type 0} (tree : Id → Tree) where
  -- the tree of what is bound
  pub bound_tree : (bound : List (List ℕ × Id)) (x : List ℕ) → bound_to (trees_bound tree bound) x ≡ option_map tree (bound_to bound x)
  bound_tree [] x = refl
  bound_tree (b ∷ bs) x = go (same_name x b.0) (bound_tree bs x)
    where
      go : (t : Bool) → bound_to (trees_bound tree bs) x ≡ option_map tree (bound_to bs x) → (if t then Some (tree b.1) else bound_to (trees_bound tree bs) x) ≡ option_map tree (if t then Some b.1 else bound_to bs x)
      go true r = refl
      go false r = r

module _ {Id : Type 0} (is_id : Id → Type 0) (tree : Id → Tree) where
  -- what is bound is an id
  pub bound_id : (bound : List (List ℕ × Id)) (x : List ℕ) (id : Id) → AreIds is_id bound → bound_to bound x ≡ Some id → is_id id
  bound_id [] x id h e = absurd (cc)
  bound_id (b ∷ bs) x id h e = go (same_name x b.0) e (bound_id bs x id h.1)
    where
      go : (t : Bool) → (if t then Some b.1 else bound_to bs x) ≡ Some id → (bound_to bs x ≡ Some id → is_id id) → is_id id
      go true f r = subst is_id (some_same f) h.0
      go false f r = r f

  module _ (bound : BoundTrees) (x : List ℕ) (c : Context) (names : List (List ℕ)) where
    -- the name stands for the formula of an id
    pub name_there : (id : Id) (k : Causes) (h : ℕ) → is_id id → bound_to bound x ≡ Some (tree id) → k ≡ no_causes → h ≡ told (height (tree id))
        → IsPart c bound names is_id tree (One (Bound x)) (record { causes = k; height = h; id = Some id })
    name_there id k h is t none high = record {
      causes = subst (λ (j : Causes). (d : StaticError) → (flag j d ≡ true) ↔ StandsIn c bound (place names) d (Bound x)) (sym none)
          (name_told c bound (place names) x false (never _ (λ n. let m = sym t ∙ n in absurd (cc))));
      built = record {
        height = high ∙ ap (λ o. told (height (unwrap_or o Yes))) (sym t);
        made = λ i f. subst (λ (j : Id). IsMade is_id tree j (unwrap_or (bound_to bound x) No)) (some_same f) (record { is = is; same = ap (λ o. unwrap_or o No) (sym t) });
        left_out = λ f. absurd (cc);
      };
    }

    -- nothing is bound to the name
    pub name_away : (k : Causes) → bound_to bound x ≡ None → k ≡ record no_causes { unbound = true } → IsPart c bound names is_id tree (One (Bound x)) (record { causes = k; height = 1; id = None })
    name_away k t one = record {
      causes = subst (λ (j : Causes). (d : StaticError) → (flag j d ≡ true) ↔ StandsIn c bound (place names) d (Bound x)) (sym one)
          (name_told c bound (place names) x true (λ i. t, λ i. refl));
      built = record {
        height = ap (λ o. told (height (unwrap_or o Yes))) (sym t);
        made = λ i f. absurd (cc);
        left_out = λ f. inl (Unbound, ap (λ j. flag j Unbound) one);
      };
    }

-- ---- comparisons and congruences

-- the shape of a normal atom is proper
pub shape_proper : {Id : Type 0} (o : Option Normal) (x : Shape Id) → ((n : Normal) → o ≡ Some n → IsWellFormedNormal n) → normal_shape o ≡ Some x → IsProperShape x
shape_proper None x h e = absurd (cc)
shape_proper (Some normal.True) x h e = subst IsProperShape (some_same e) tt
shape_proper (Some normal.False) x h e = subst IsProperShape (some_same e) tt
shape_proper (Some (normal.One a)) x h e = subst IsProperShape (some_same e) (h (normal.One a) refl)

pub read_proper : (c : Context) (bound : BoundTrees) (number : List ℕ → ℕ) (a : WrittenAtom) (r : ReadAtom) → IsRead c bound number a r → (n : Normal) → r.normal ≡ Some n → IsWellFormedNormal n
read_proper c bound number a r h n e = (subst (λ o. MatchOption o (IsUnread c a r.causes) (λ n. IsWellFormedNormal n × (tree_of n ≡ resolved_atom c bound number a))) e h.normal).0

module _ (c : Context) (bound : BoundTrees) (names : List (List ℕ)) (a : WrittenAtom) (r : ReadAtom) (b : Bool)
    (h : IsRead c bound (place names) a r) (known : (b ≡ true) ↔ CongruenceIn c a) (no_name : ¬ (HasNoTree bound a)) where
  atom_told : (e : StaticError) → (flag (atom_causes r.causes b) e ≡ true) ↔ StandsIn c bound (place names) e a
  atom_told Unbound = never _ no_name
  atom_told FormulaAsTerm = never _ (λ n. n)
  atom_told Nonlinear = h.nonlinear
  atom_told Division = h.division
  atom_told CongruenceContext = known
  atom_told Modulus = h.modulus
  atom_told Depth = never _ (λ n. n)
  atom_told Overflow = h.overflow
  atom_told Memory = never _ (λ n. n)

  in_fields : (c ≡ Fields) × IsCongruence a → CongruenceIn c a
  in_fields i = subst (λ d. CongruenceIn d a) (sym i.0) i.1

  unread_refused : IsUnread c a r.causes → IsRefused (atom_causes r.causes b) 1
  unread_refused (inl (inl i)) = inl (Nonlinear, i)
  unread_refused (inl (inr (inl i))) = inl (Division, i)
  unread_refused (inl (inr (inr (inl i)))) = inl (Modulus, i)
  unread_refused (inl (inr (inr (inr i)))) = inl (Overflow, i)
  unread_refused (inr i) = inl (CongruenceContext, known.1 (in_fields i))

  module _ {Id : Type 0} (is_id : Id → Type 0) (old tree : Id → Tree) where
    atom_part : (p : Part Id) → atom_in_place bound a ≡ Yes → IsFinished is_id old tree (atom_causes r.causes b) 1 (normal_shape r.normal) p → IsPart c bound names is_id tree (One a) p
    atom_part p high w = finished_part c bound names is_id old tree (atom_causes r.causes b) 1 (normal_shape r.normal) p (One a) w atom_told (ap (λ t. told (height t)) (sym high)) (λ x e n. shaped r.normal h.normal x e) (out r.normal h.normal)
      where
        shaped : (o : Option Normal) → MatchOption o (IsUnread c a r.causes) (λ n. IsWellFormedNormal n × (tree_of n ≡ resolved_atom c bound (place names) a)) → (x : Shape Id) → normal_shape o ≡ Some x → tree_over old x ≡ resolved_atom c bound (place names) a
        shaped None m x e = absurd (cc)
        shaped (Some normal.True) m x e = subst (λ y. tree_over old y ≡ resolved_atom c bound (place names) a) (some_same e) m.1
        shaped (Some normal.False) m x e = subst (λ y. tree_over old y ≡ resolved_atom c bound (place names) a) (some_same e) m.1
        shaped (Some (normal.One k)) m x e = subst (λ y. tree_over old y ≡ resolved_atom c bound (place names) a) (some_same e) m.1

        out : (o : Option Normal) → MatchOption o (IsUnread c a r.causes) (λ n. IsWellFormedNormal n × (tree_of n ≡ resolved_atom c bound (place names) a)) → normal_shape {Id = Id} o ≡ None → IsRefused (atom_causes r.causes b) 1
        out None m e = unread_refused m
        out (Some normal.True) m e = absurd (cc)
        out (Some normal.False) m e = absurd (cc)
        out (Some (normal.One k)) m e = absurd (cc)

no_comparison : (c : Context) (bound : BoundTrees) (rel : Relation) (s t : TermTree) → (false ≡ true) ↔ CongruenceIn c (Compare rel s t)
no_comparison Fields bound rel s t = never _ (λ n. n)
no_comparison Integers bound rel s t = never _ (λ n. n)

known_congruence : (c : Context) (b : Bool) (s t m : TermTree) → (is_fields c ≡ true) ↔ CongruenceIn c (congruence_tree b s t m)
known_congruence Fields true s t m = (λ e. tt, λ i. refl)
known_congruence Fields false s t m = (λ e. tt, λ i. refl)
known_congruence Integers true s t m = never _ (λ n. n)
known_congruence Integers false s t m = never _ (λ n. n)

module _ (c : Context) (bound : BoundTrees) (names : List (List ℕ)) {Id : Type 0} (is_id : Id → Type 0) (old tree : Id → Tree) where
  pub compare_part : (rel : Relation) (s t : TermTree) (r : ReadAtom) (p : Part Id) → IsRead c bound (place names) (Compare rel s t) r → IsFinished is_id old tree (atom_causes r.causes false) 1 (normal_shape r.normal) p
      → IsPart c bound names is_id tree (One (Compare rel s t)) p
  compare_part rel s t r p h w = atom_part c bound names (Compare rel s t) r false h (no_comparison c bound rel s t) (λ n. n) is_id old tree p refl w

  pub congruence_part : (b : Bool) (s t m : TermTree) (r : ReadAtom) (p : Part Id) → IsRead c bound (place names) (congruence_tree b s t m) r → IsFinished is_id old tree (atom_causes r.causes (is_fields c)) 1 (normal_shape r.normal) p
      → IsPart c bound names is_id tree (One (congruence_tree b s t m)) p
  congruence_part true s t m r p h w = atom_part c bound names (Cong s t m) r (is_fields c) h (known_congruence c true s t m) (λ n. n) is_id old tree p refl w
  congruence_part false s t m r p h w = atom_part c bound names (Ncong s t m) r (is_fields c) h (known_congruence c false s t m) (λ n. n) is_id old tree p refl w
