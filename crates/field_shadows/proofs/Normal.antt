-- One atom more brought to normal form.
use Rattle.std.proofs.Common.{◌≡◌, inl, ℕ, List, [], ◌∷◌, ◌++◌, map, append_assoc, ap, sym, ◌∙◌, subst}
use Rattle.std.specs.List.{AllByRecursion}
use Rattle.std.proofs.lemmas.List.{map-append}
use Rattle.logic_meaning.specs.Context.{Fields}
use Rattle.logic_meaning.specs.Point.{Point, Of}
use Rattle.logic_meaning.specs.Some.{EachOf}
use Rattle.logic_meaning.specs.Formula.{Yes, No, One}
use Rattle.logic_meaning.specs.Atom.{Atom, Says, Mentions}
use Rattle.logic_meaning.specs.Every.{Every}
use Rattle.logic_meaning.specs.Tree.{Tree, TrueAt, IsFree}
use Rattle.logic_meaning.specs.NormalForm.{normal_atom, IsNormal}
use Rattle.formula_laws.specs.TheoryAtoms.{AtomIn}
use Rattle.formula_laws.proofs.Listed.{among_some}
use Rattle.linear_theory.proofs.Lists.{each_from}
use Rattle.elimination_theory.proofs.SomeListed.{each_append, each_left, each_right, each_map, some_left, some_right}
use Rattle.normal_atoms.specs.declared.atoms.Atom.{Atom as Written}
use Rattle.normal_atoms.specs.Atoms.{atom_of, IsWellFormed}
use Rattle.normal_atoms.proofs.NormalLaws.{normal_truth, normal_names, normal_normal}
use Rattle.case_theory.specs.PutThrough.{AreTrue}
use Rattle.field_shadows.specs.Normalised.{HasOnlyNamesOf, AreNormalised}
use Rattle.field_shadows.proofs.Listing.{append_nothing}
use Rattle.field_shadows.proofs.Steps.{each_by_recursion, by_recursion_each}

pub normalised_first : (vs : List Written) → EachOf (IsNormal Fields) (map atom_of vs) → AllByRecursion IsWellFormed vs → AreNormalised (map atom_of vs ++ []) vs
normalised_first vs normal formed =
    subst (λ us. AreNormalised us vs) (sym (append_nothing (map atom_of vs)))
    (record {
      same = λ p o. (λ h. h, λ h. h);
      names = each_from (HasOnlyNamesOf (map atom_of vs)) (map atom_of vs) (λ v m y n. among_some (λ (u : Atom). Mentions u y) (map atom_of vs) v m n);
      normal = normal;
      well_formed = formed;
    })

names_more : (us : List Atom) (a : Atom) (vs : List Atom) → EachOf (HasOnlyNamesOf us) vs → EachOf (HasOnlyNamesOf (us ++ a ∷ [])) vs
names_more us a vs h = each_map (HasOnlyNamesOf us) (HasOnlyNamesOf (us ++ a ∷ [])) (λ v k y n. some_left (λ (u : Atom). Mentions u y) us (a ∷ []) (k y n)) vs h

module _ (us : List Atom) (vs : List Written) (before : AreNormalised us vs) (a : Atom) (i : AtomIn Fields a) where
  -- an atom that is always true
  pub true_more : Yes ≡ normal_atom Fields a → AreNormalised (us ++ a ∷ []) vs
  true_more e = record {
    same = λ p o. (
      λ h.
          each_append (λ (u : Atom). Says u p) us (a ∷ []) ((before.same p o).0 h) ((normal_truth Fields a i p o).1 (subst (λ (t : Tree). TrueAt Fields t p) e tt), tt),
      λ h. (before.same p o).1 (each_left (λ (u : Atom). Says u p) us (a ∷ []) h),
    );
    names = names_more us a (map atom_of vs) before.names;
    normal = before.normal;
    well_formed = before.well_formed;
  }

  -- one with a normal form
  pub one_more : (w : Written) → One (atom_of w) ≡ normal_atom Fields a → IsWellFormed w → AreNormalised (us ++ a ∷ []) (vs ++ w ∷ [])
  one_more w e formed =
      let m = map-append atom_of vs (w ∷ []) in
      record {
        same = λ p o. (
          λ h.
              let k = subst (λ (xs : List Atom). AreTrue xs p) m h in
              each_append (λ (u : Atom). Says u p) us (a ∷ []) ((before.same p o).0 (each_left (λ (u : Atom). Says u p) (map atom_of vs) (atom_of w ∷ []) k))
              ((normal_truth Fields a i p o).1 (subst (λ (t : Tree). TrueAt Fields t p) e (each_right (λ (u : Atom). Says u p) (map atom_of vs) (atom_of w ∷ []) k).0), tt),
          λ h.
              subst (λ (xs : List Atom). AreTrue xs p) (sym m)
              (each_append (λ (u : Atom). Says u p) (map atom_of vs) (atom_of w ∷ []) ((before.same p o).1 (each_left (λ (u : Atom). Says u p) us (a ∷ []) h))
              (subst (λ (t : Tree). TrueAt Fields t p) (sym e) ((normal_truth Fields a i p o).0 (each_right (λ (u : Atom). Says u p) us (a ∷ []) h).0), tt)),
        );
        names =
            subst (EachOf (HasOnlyNamesOf (us ++ a ∷ []))) (sym m)
            (each_append (HasOnlyNamesOf (us ++ a ∷ [])) (map atom_of vs) (atom_of w ∷ []) (names_more us a (map atom_of vs) before.names)
            (λ y n. some_right (λ (u : Atom). Mentions u y) us (a ∷ []) (inl (normal_names Fields a i y (subst (λ (t : Tree). IsFree t y) e n))), tt));
        normal =
            subst (EachOf (IsNormal Fields)) (sym m)
            (each_append (IsNormal Fields) (map atom_of vs) (atom_of w ∷ []) before.normal (subst (Every (IsNormal Fields)) (sym e) (normal_normal Fields a i), tt));
        well_formed = each_by_recursion IsWellFormed (vs ++ w ∷ []) (each_append IsWellFormed vs (w ∷ []) (by_recursion_each IsWellFormed vs before.well_formed) (formed, tt));
      }

-- one that is never true
pub false_one : (a : Atom) → AtomIn Fields a → No ≡ normal_atom Fields a → (p : Point ℕ) → Of Fields p → ¬ (Says a p)
false_one a i e p o h = subst (λ (t : Tree). TrueAt Fields t p) (sym e) ((normal_truth Fields a i p o).0 h)

-- the list with the new atom
pub with_next : (kept yielded : List Written) (a : Written) → (map atom_of kept ++ map atom_of yielded) ++ atom_of a ∷ [] ≡ map atom_of kept ++ map atom_of (yielded ++ a ∷ [])
with_next kept yielded a = append_assoc (map atom_of kept) (map atom_of yielded) (atom_of a ∷ []) ∙ ap (λ xs. map atom_of kept ++ xs) (sym (map-append atom_of yielded (a ∷ [])))
