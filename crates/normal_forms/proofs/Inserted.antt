-- An atom put into an inner list, step by step.
use Rattle.std.proofs.Common.{◌≡◌, ℕ, zero, suc, ◌+◌, ◌<◌, Option, None, Some, List, [], ◌∷◌, ◌++◌, length, take, drop, get_or, refl, sym, ap, ◌∙◌, subst, arith}
use Rattle.std.specs.Prelude.{remove}
use Rattle.std.specs.List.{AllByRecursion}
use Rattle.std.proofs.lemmas.List.{length-map, map-append, take_more}
use Rattle.logic_meaning.specs.Context.{Context}
use Rattle.logic_meaning.specs.Some.{EachOf}
use Rattle.logic_meaning.specs.Formula.{One}
use Rattle.logic_meaning.specs.Atom.{Atom}
use Rattle.logic_meaning.specs.declared.junction.Junction.{Junction}
use Rattle.normal_atoms.specs.Computed.{IsNormalWithin}
use Rattle.formula_tree.specs.declared.shape.Shape.{Shape}
use Rattle.formula_tree.specs.Makers.{IsMade, Keeps}
use Rattle.formula_store.specs.declared.id.FormulaId.{FormulaId}
use Rattle.formula_store.specs.Nodes.{tree, IsId}
use Rattle.formula_store.proofs.Marked.{all_joined, all_at}
use Rattle.shape_theory.specs.Kit.{Kit}
use Rattle.shape_theory.specs.AtomKit.{atom_kit}
use Rattle.shape_theory.specs.Lines.{Alone, Void, Meets, resolved, partner, insert, insert_into, insert_all}
use Rattle.shape_theory.proofs.Inserting.{IsPartner, partner_is}
use Rattle.shape_theory.proofs.CleanFormsTreeLaws.{normal_lightly}
use Rattle.normal_forms.specs.Atoms.{atom_at, IsAtomId, AreAtomIds, atoms, IsLineIf}
use Rattle.normal_forms.proofs.Grown.{made_atom, made_is, atom_stays, ids_stay, atoms_stay, keeps_then}

-- ---- lists of atoms

module _ {A : Type 0} (kit : Kit A) (j : Junction) where
  pub inserted_alone : (a : A) (us : List A) → partner kit j a us ≡ Alone → insert_into kit j a (Some us) ≡ Some (us ++ a ∷ [])
  inserted_alone a [] e = refl
  inserted_alone a (u ∷ us) e = ap (λ m. resolved m a (u ∷ us) (insert kit j (length us))) e

  pub inserted_void : (a : A) (us : List A) → partner kit j a us ≡ Void → insert_into kit j a (Some us) ≡ None
  inserted_void a [] e = absurd (cc (e))
  inserted_void a (u ∷ us) e = ap (λ m. resolved m a (u ∷ us) (insert kit j (length us))) e

  pub inserted_met : (a d : A) (us cs : List A) → length us ≡ suc (length cs) → partner kit j a us ≡ Meets d cs → insert_into kit j a (Some us) ≡ insert_into kit j d (Some cs)
  inserted_met a d [] cs l e = absurd (cc (e))
  inserted_met a d (u ∷ us) cs l e =
      let n : length us ≡ length cs = omega arith in
      ap (λ m. resolved m a (u ∷ us) (insert kit j (length us))) e ∙ ap (λ (k : ℕ). insert kit j k d cs) n

  pub all_none : (us : List A) → insert_all kit j None us ≡ None
  all_none [] = refl
  all_none (u ∷ us) = all_none us

  pub all_then : (o : Option (List A)) (us vs : List A) → insert_all kit j o (us ++ vs) ≡ insert_all kit j (insert_all kit j o us) vs
  all_then o [] vs = refl
  all_then o (u ∷ us) vs = all_then (insert_into kit j u o) us vs

-- ---- ids

take_drop : (i : ℕ) (us : List FormulaId) → take i us ++ drop i us ≡ us
take_drop zero us = refl
take_drop (suc i) [] = refl
take_drop (suc i) (u ∷ us) = ap (λ t. u ∷ t) (take_drop i us)

removed : (us : List FormulaId) (i : ℕ) → i < length us → length us ≡ suc (length (remove us i))
removed [] i h = absurd (omega arith)
removed (u ∷ us) zero h = refl
removed (u ∷ us) (suc i) h = let k = removed us i (omega arith) in omega arith

all_removed : (P : FormulaId → Type 0) (us : List FormulaId) (i : ℕ) → i < length us → AllByRecursion P us → AllByRecursion P (remove us i)
all_removed P [] i l h = absurd (omega arith)
all_removed P (u ∷ us) zero l h = h.1
all_removed P (u ∷ us) (suc i) l h = (h.0, all_removed P us i (omega arith) h.1)

module _ (c : Context) (j : Junction) where
  each_normal : (nodes : List (Shape FormulaId)) (us : List FormulaId) → AreAtomIds c nodes us → EachOf (IsNormalWithin c) (atoms nodes us)
  each_normal nodes [] h = tt
  each_normal nodes (u ∷ us) h = (h.0.normal, each_normal nodes us h.1)

  -- the state of putting an atom in: what is left to do gives what was to be done
  pub record Puts (old nodes : List (Shape FormulaId)) (line0 line : List FormulaId) (atom0 atom : FormulaId) : Type 0 where
    pub kept : Keeps (IsId old) (tree old) (IsId nodes) (tree nodes)
    pub line_is : AreAtomIds c nodes line
    pub atom_is : IsAtomId c nodes atom
    pub same : insert_into (atom_kit c) j (atom_at nodes atom) (Some (atoms nodes line)) ≡ insert_into (atom_kit c) j (atom_at old atom0) (Some (atoms old line0))

  module _ (old nodes : List (Shape FormulaId)) (line0 line : List FormulaId) (atom0 atom : FormulaId) (h : Puts old nodes line0 line atom0 atom) where
    -- the merged atom goes in
    pub puts_merged : (new : List (Shape FormulaId)) (i : ℕ) (made : FormulaId) (d : Atom) → i < length line → partner (atom_kit c) j (atom_at nodes atom) (atoms nodes line) ≡ Meets d (atoms nodes (remove line i))
        → Keeps (IsId nodes) (tree nodes) (IsId new) (tree new) → IsMade (IsId new) (tree new) made (One d) → Puts old new line0 (remove line i) atom0 made
    puts_merged new i made d l e k m =
        let left = all_removed (IsAtomId c nodes) line i l h.line_is in
        let becomes = subst (IsPartner (atom_kit c) j (IsNormalWithin c) (λ a. 1) (normal_lightly c j) (atom_at nodes atom) (atoms nodes line)) e
        (partner_is (atom_kit c) j (IsNormalWithin c) (λ a. 1) (normal_lightly c j) (atom_at nodes atom) (atoms nodes line) h.atom_is.normal (each_normal nodes line h.line_is)) in
        let longer : length (atoms nodes line) ≡ suc (length (atoms nodes (remove line i))) =
        length-map line (atom_at nodes) ∙ removed line i l ∙ ap suc (sym (length-map (remove line i) (atom_at nodes))) in
        record {
          kept = keeps_then old nodes new h.kept k;
          line_is = ids_stay c nodes new k (remove line i) left;
          atom_is = made_atom c new made d m becomes.made;
          same = ap (λ a. insert_into (atom_kit c) j a (Some (atoms new (remove line i)))) (made_is new made d m)
              ∙ ap (λ us. insert_into (atom_kit c) j d (Some us)) (atoms_stay c nodes new k (remove line i) left)
              ∙ sym (inserted_met (atom_kit c) j (atom_at nodes atom) d (atoms nodes line) (atoms nodes (remove line i)) longer e)
              ∙ h.same;
        }

    pub puts_alone : partner (atom_kit c) j (atom_at nodes atom) (atoms nodes line) ≡ Alone
        → IsLineIf c nodes (insert_into (atom_kit c) j (atom_at old atom0) (Some (atoms old line0))) (Some (line ++ atom ∷ []))
    puts_alone e =
        subst (λ o. IsLineIf c nodes o (Some (line ++ atom ∷ []))) (sym (inserted_alone (atom_kit c) j (atom_at nodes atom) (atoms nodes line) e) ∙ h.same)
        (record { are = all_joined (IsAtomId c nodes) line (atom ∷ []) h.line_is (h.atom_is, tt); same = map-append (atom_at nodes) line (atom ∷ []) })

    pub puts_void : partner (atom_kit c) j (atom_at nodes atom) (atoms nodes line) ≡ Void
        → IsLineIf c nodes (insert_into (atom_kit c) j (atom_at old atom0) (Some (atoms old line0))) None
    puts_void e = subst (λ o. IsLineIf c nodes o None) (sym (inserted_void (atom_kit c) j (atom_at nodes atom) (atoms nodes line) e) ∙ h.same) tt

  -- ---- the atoms of a list one after another

  pub some_of : (nodes : List (Shape FormulaId)) (o : Option (List Atom)) (ids : List FormulaId) → IsLineIf c nodes o (Some ids) → o ≡ Some (atoms nodes ids)
  some_of nodes None ids h = absurd h
  some_of nodes (Some us) ids h = ap Some (sym h.same)

  pub none_of : (nodes : List (Shape FormulaId)) (o : Option (List Atom)) → IsLineIf c nodes o None → o ≡ None
  none_of nodes None h = refl
  none_of nodes (Some us) h = absurd h

  pub all_step : (old nodes new : List (Shape FormulaId)) (o : Option (List Atom)) (others : List FormulaId) (i : ℕ) (d : FormulaId) (longer : List FormulaId) → i < length others → AreAtomIds c old others → Keeps (IsId old) (tree old) (IsId nodes) (tree nodes)
      → IsLineIf c nodes (insert_all (atom_kit c) j o (atoms old (take i others))) (Some longer) → (r : Option (List FormulaId)) → IsLineIf c new (insert_into (atom_kit c) j (atom_at nodes (get_or others i d)) (Some (atoms nodes longer))) r
      → IsLineIf c new (insert_all (atom_kit c) j o (atoms old (take (i + 1) others))) r
  all_step old nodes new o others i d longer l h k s r t =
      let one_more : atoms old (take (i + 1) others) ≡ atoms old (take i others) ++ atom_at old (get_or others i d) ∷ [] =
      ap (atoms old) (take_more others i d l) ∙ map-append (atom_at old) (take i others) (get_or others i d ∷ []) in
      let e : insert_all (atom_kit c) j o (atoms old (take (i + 1) others)) ≡ insert_into (atom_kit c) j (atom_at nodes (get_or others i d)) (Some (atoms nodes longer)) =
      ap (insert_all (atom_kit c) j o) one_more ∙ all_then (atom_kit c) j o (atoms old (take i others)) (atom_at old (get_or others i d) ∷ [])
      ∙ ap (insert_into (atom_kit c) j (atom_at old (get_or others i d))) (some_of nodes (insert_all (atom_kit c) j o (atoms old (take i others))) longer s)
      ∙ ap (λ a. insert_into (atom_kit c) j a (Some (atoms nodes longer))) (sym (atom_stays c old nodes k (get_or others i d) (all_at (IsAtomId c old) others i d l h))) in
      subst (λ p. IsLineIf c new p r) (sym e) t

  pub all_void : (old new : List (Shape FormulaId)) (o : Option (List Atom)) (others : List FormulaId) (i : ℕ) → IsLineIf c new (insert_all (atom_kit c) j o (atoms old (take i others))) None → IsLineIf c new (insert_all (atom_kit c) j o (atoms old others)) None
  all_void old new o others i h =
      let whole : atoms old others ≡ atoms old (take i others) ++ atoms old (drop i others) = ap (atoms old) (sym (take_drop i others)) ∙ map-append (atom_at old) (take i others) (drop i others) in
      let e : insert_all (atom_kit c) j o (atoms old others) ≡ None =
      ap (insert_all (atom_kit c) j o) whole ∙ all_then (atom_kit c) j o (atoms old (take i others)) (atoms old (drop i others))
      ∙ ap (λ p. insert_all (atom_kit c) j p (atoms old (drop i others))) (none_of new (insert_all (atom_kit c) j o (atoms old (take i others))) h) ∙ all_none (atom_kit c) j (atoms old (drop i others)) in
      subst (λ p. IsLineIf c new p None) (sym e) tt
