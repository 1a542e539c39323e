-- What stays as formulas are made.
use Rattle.std.proofs.Common.{◌≡◌, List, [], ◌∷◌, ◌++◌, map, refl, sym, ap, subst, ◌∙◌}
use Rattle.std.specs.List.{AllByRecursion}
use Rattle.std.proofs.lemmas.List.{map-append}
use Rattle.logic_meaning.specs.Context.{Context}
use Rattle.logic_meaning.specs.Some.{EachOf}
use Rattle.logic_meaning.specs.Tree.{Tree}
use Rattle.elimination_theory.specs.Theorems.{IsTidy}
use Rattle.elimination_theory.proofs.Tidy.{AreTidy, tidy_turned}
use Rattle.normal_atoms.specs.Atoms.{context_of, atom_of}
use Rattle.formula_tree.specs.declared.shape.Shape.{Shape}
use Rattle.formula_tree.specs.Makers.{AreMade, IsMade, Keeps}
use Rattle.formula_tree.specs.Trees.{members}
use Rattle.formula_store.specs.declared.id.FormulaId.{FormulaId}
use Rattle.formula_store.specs.Nodes.{tree, IsId}
use Rattle.formula_store.proofs.Makes.{keeps_then}
use Rattle.logic_meaning.specs.declared.form.VarId.{VarId}
use Rattle.logic_meaning.specs.NegationNormal.{normal_form_of_not}
use Rattle.logic_meaning.specs.NormalForm.{negated_normal}
use Rattle.branch_rounds.specs.declared.work.Work.{Work}
use Rattle.normal_atoms.specs.declared.atoms.Context as code
use Rattle.normal_atoms.specs.declared.atoms.Atom.{Atom}
use Rattle.logic_meaning.specs.Formula.{One}
use Rattle.logic_meaning.specs.Atom as meant
use Rattle.logic_meaning.specs.NormalForm.{IsNormal}
use Rattle.short_answers.specs.Candidates.{IsCandidate}
use Rattle.short_answers.specs.Asking.{IsTidyId, AreTidyIds, IsAsking}

abbrev pub KeepsAll : List (Shape FormulaId) → List (Shape FormulaId) → Type 0
KeepsAll a b = Keeps (IsId a) (tree a) (IsId b) (tree b)

pub kept_self : (a : List (Shape FormulaId)) → KeepsAll a a
kept_self a = record { is = λ id h. h; same = λ id h. refl }

pub kept_thrice : (a b c d : List (Shape FormulaId)) → KeepsAll a b → KeepsAll b c → KeepsAll c d → KeepsAll a d
kept_thrice a b c d h k l = keeps_then a c d (keeps_then a b c h k) l

pub made_kept : (a b : List (Shape FormulaId)) → KeepsAll a b → (id : FormulaId) (f : Tree) → IsMade (IsId a) (tree a) id f → IsMade (IsId b) (tree b) id f
made_kept a b k id f m = record { is = k.is id m.is; same = k.same id m.is ∙ m.same }

module _ (c : Context) (a b : List (Shape FormulaId)) (k : KeepsAll a b) where
  pub tidy_kept : (id : FormulaId) → IsTidyId c a id → IsTidyId c b id
  tidy_kept id t = record { is = k.is id t.is; tidy = subst (IsTidy c) (sym (k.same id t.is)) t.tidy }

  pub all_kept : (ids : List FormulaId) → AreTidyIds c a ids → AreTidyIds c b ids
  all_kept [] h = tt
  all_kept (id ∷ ids) h = (tidy_kept id h.0, all_kept ids h.1)

  pub trees_kept : (ids : List FormulaId) → AreTidyIds c a ids → map (tree b) ids ≡ map (tree a) ids
  trees_kept [] h = refl
  trees_kept (id ∷ ids) h = λ i. k.same id h.0.is i ∷ trees_kept ids h.1 i

pub asking_kept : (w : Work) (assumed : List FormulaId) (names : List VarId) (a b : List (Shape FormulaId)) → KeepsAll a b → IsAsking w assumed names a → IsAsking w assumed names b
asking_kept w assumed names a b k h = record {
  work = h.work;
  are = all_kept (context_of w.context) a b k assumed h.are;
  says = trees_kept (context_of w.context) a b k assumed h.are ∙ h.says;
  once = h.once;
}

module _ (c : Context) (nodes : List (Shape FormulaId)) where
  pub ids_of : (ids : List FormulaId) → AreTidyIds c nodes ids → AllByRecursion (IsId nodes) ids
  ids_of [] h = tt
  ids_of (id ∷ ids) h = (h.0.is, ids_of ids h.1)

  pub each_is : (ids : List FormulaId) → AreTidyIds c nodes ids → EachOf (IsId nodes) ids
  each_is [] h = tt
  each_is (id ∷ ids) h = (h.0.is, each_is ids h.1)

  pub tidy_of : (ids : List FormulaId) → AreTidyIds c nodes ids → AreTidy c (members (map (tree nodes) ids))
  tidy_of [] h = tt
  tidy_of (id ∷ ids) h = (h.0.tidy, tidy_of ids h.1)

  pub both_tidy : (xs ys : List FormulaId) → AreTidyIds c nodes xs → AreTidyIds c nodes ys → AreTidyIds c nodes (xs ++ ys)
  both_tidy [] ys h k = k
  both_tidy (x ∷ xs) ys h k = (h.0, both_tidy xs ys h.1 k)

  -- what stands for a tidy formula
  pub made_tidy : (id : FormulaId) (f : Tree) → IsMade (IsId nodes) (tree nodes) id f → IsTidy c f → IsTidyId c nodes id
  made_tidy id f m t = record { is = m.is; tidy = subst (IsTidy c) (sym m.same) t }

  -- a negation
  pub negation_tidy : (id : FormulaId) (f : Tree) → IsMade (IsId nodes) (tree nodes) id (normal_form_of_not negated_normal f) → IsTidy c f → IsTidyId c nodes id
  negation_tidy id f m t = made_tidy id (normal_form_of_not negated_normal f) m (tidy_turned c f t)

-- one formula more is made
pub made_more : (a b : List (Shape FormulaId)) → KeepsAll a b → (ids : List FormulaId) (fs : List Tree) → AreMade (IsId a) (tree a) ids fs → (id : FormulaId) (f : Tree) → IsMade (IsId b) (tree b) id f → AreMade (IsId b) (tree b) (ids ++ id ∷ []) (fs ++ f ∷ [])
made_more a b k ids fs h id f m = record {
  are = all_more ids h.are;
  same = map-append (tree b) ids (id ∷ []) ∙ (λ i. (all_same ids h.are ∙ h.same) i ++ m.same i ∷ []);
}
  where
    all_more : (xs : List FormulaId) → AllByRecursion (IsId a) xs → AllByRecursion (IsId b) (xs ++ id ∷ [])
    all_more [] n = (m.is, tt)
    all_more (x ∷ xs) n = (k.is x n.0, all_more xs n.1)

    all_same : (xs : List FormulaId) → AllByRecursion (IsId a) xs → map (tree b) xs ≡ map (tree a) xs
    all_same [] n = refl
    all_same (x ∷ xs) n = λ i. k.same x n.0 i ∷ all_same xs n.1 i

pub made_candidate : (c : code.Context) (nodes : List (Shape FormulaId)) (id : FormulaId) (a : Atom) → IsMade (IsId nodes) (tree nodes) id (One (atom_of a)) → IsCandidate c a → IsTidyId (context_of c) nodes id
made_candidate c nodes id a m h = made_tidy (context_of c) nodes id (One (atom_of a)) m (record { is_plain = tt; normal = h.normal; two_members = tt })

-- formulas of atoms that are normal
pub atoms_tidy : (c : code.Context) (nodes : List (Shape FormulaId)) (ids : List FormulaId) (atoms : List Atom) → AllByRecursion (IsId nodes) ids → map (tree nodes) ids ≡ map (λ (a : Atom). One (atom_of a)) atoms →
    EachOf (IsNormal (context_of c)) (map atom_of atoms) → AreTidyIds (context_of c) nodes ids
atoms_tidy c nodes [] atoms are same normal = tt
atoms_tidy c nodes (id ∷ ids) [] are same normal = cc
atoms_tidy c nodes (id ∷ ids) (a ∷ atoms) are same normal =
    let f : tree nodes id ≡ One (atom_of a) = cc same in
    let r : map (tree nodes) ids ≡ map (λ (b : Atom). One (atom_of b)) atoms = cc same in
    (made_tidy (context_of c) nodes id (One (atom_of a)) (record { is = are.0; same = f }) (record { is_plain = tt; normal = normal.0; two_members = tt }), atoms_tidy c nodes ids atoms are.1 r normal.1)

abbrev pub one_tree : meant.Atom → Tree
one_tree a = One a

pub maps_join : (atoms : List Atom) → map one_tree (map atom_of atoms) ≡ map (λ (a : Atom). one_tree (atom_of a)) atoms
maps_join [] = refl
maps_join (a ∷ atoms) = ap (λ (fs : List Tree). one_tree (atom_of a) ∷ fs) (maps_join atoms)
