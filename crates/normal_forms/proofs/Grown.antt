-- Lists of atoms stay as formulas are added to the store.
use Rattle.std.proofs.Common.{◌≡◌, List, [], ◌∷◌, refl, sym, ap, ◌∙◌, subst}
use Rattle.logic_meaning.specs.Context.{Context}
use Rattle.logic_meaning.specs.Formula.{One}
use Rattle.logic_meaning.specs.Atom.{Atom}
use Rattle.normal_atoms.specs.Computed.{IsNormalWithin}
use Rattle.formula_tree.specs.declared.shape.Shape.{Shape}
use Rattle.formula_tree.specs.Makers.{IsMade, Keeps}
use Rattle.formula_store.specs.declared.id.FormulaId.{FormulaId}
use Rattle.formula_store.specs.Nodes.{tree, IsId}
use Rattle.normal_forms.specs.Atoms.{atom_in, atom_at, IsAtomId, AreAtomIds, atoms, AreLineIds, lines, IsLine, AreLines}

module _ (a b c : List (Shape FormulaId)) where
  pub keeps_then : Keeps (IsId a) (tree a) (IsId b) (tree b) → Keeps (IsId b) (tree b) (IsId c) (tree c) → Keeps (IsId a) (tree a) (IsId c) (tree c)
  keeps_then h k = record {
    is = λ id i. k.is id (h.is id i);
    same = λ id i. k.same id (h.is id i) ∙ h.same id i;
  }

pub keeps_itself : (a : List (Shape FormulaId)) → Keeps (IsId a) (tree a) (IsId a) (tree a)
keeps_itself a = record { is = λ id i. i; same = λ id i. refl }

-- the id of a new atom
pub made_atom : (c : Context) (nodes : List (Shape FormulaId)) (id : FormulaId) (a : Atom) → IsMade (IsId nodes) (tree nodes) id (One a) → IsNormalWithin c a → IsAtomId c nodes id
made_atom c nodes id a m n =
    let e : atom_at nodes id ≡ a = ap atom_in m.same in
    record { is = m.is; one = m.same ∙ ap One (sym e); normal = subst (IsNormalWithin c) (sym e) n }

pub made_is : (nodes : List (Shape FormulaId)) (id : FormulaId) (a : Atom) → IsMade (IsId nodes) (tree nodes) id (One a) → atom_at nodes id ≡ a
made_is nodes id a m = ap atom_in m.same

module _ (c : Context) (old new : List (Shape FormulaId)) (k : Keeps (IsId old) (tree old) (IsId new) (tree new)) where
  pub atom_stays : (id : FormulaId) → IsAtomId c old id → atom_at new id ≡ atom_at old id
  atom_stays id h = ap atom_in (k.same id h.is)

  pub atom_id_stays : (id : FormulaId) → IsAtomId c old id → IsAtomId c new id
  atom_id_stays id h =
      let e = atom_stays id h in
      record { is = k.is id h.is; one = k.same id h.is ∙ h.one ∙ ap One (sym e); normal = subst (IsNormalWithin c) (sym e) h.normal }

  pub ids_stay : (us : List FormulaId) → AreAtomIds c old us → AreAtomIds c new us
  ids_stay [] h = tt
  ids_stay (u ∷ us) h = (atom_id_stays u h.0, ids_stay us h.1)

  pub atoms_stay : (us : List FormulaId) → AreAtomIds c old us → atoms new us ≡ atoms old us
  atoms_stay [] h = refl
  atoms_stay (u ∷ us) h = λ i. atom_stays u h.0 i ∷ atoms_stay us h.1 i

  pub line_ids_stay : (ls : List (List FormulaId)) → AreLineIds c old ls → AreLineIds c new ls
  line_ids_stay [] h = tt
  line_ids_stay (us ∷ ls) h = (ids_stay us h.0, line_ids_stay ls h.1)

  pub lines_stay : (ls : List (List FormulaId)) → AreLineIds c old ls → lines new ls ≡ lines old ls
  lines_stay [] h = refl
  lines_stay (us ∷ ls) h = λ i. atoms_stay us h.0 i ∷ lines_stay ls h.1 i

  pub line_stays : (us : List Atom) (ids : List FormulaId) → IsLine c old us ids → IsLine c new us ids
  line_stays us ids h = record { are = ids_stay ids h.are; same = atoms_stay ids h.are ∙ h.same }

  pub are_lines_stay : (ls : List (List Atom)) (ids : List (List FormulaId)) → AreLines c old ls ids → AreLines c new ls ids
  are_lines_stay ls ids h = record { are = line_ids_stay ids h.are; same = lines_stay ids h.are ∙ h.same }
