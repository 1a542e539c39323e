-- The whole: the block is open with the members of its matrix, and is narrowed by what it becomes.
use Rattle.std.proofs.Common.{◌≡◌, ℕ, List, [], ◌∷◌, ap, sym, subst, inl, inr, ⊎_elim, ◌↔◌, map, nat_eq}
use Rattle.std.specs.List.{AllByRecursion}
use Rattle.logic_meaning.specs.Context.{Context}
use Rattle.logic_meaning.specs.Every.{FreeInSome}
use Rattle.logic_meaning.specs.Fold.{fold_list}
use Rattle.logic_meaning.specs.declared.junction.Junction.TheVariants.{Conjunction as Both}
use Rattle.logic_meaning.specs.Formula.{And, No}
use Rattle.logic_meaning.specs.Point.{move}
use Rattle.logic_meaning.specs.Some.{Among, EachOf}
use Rattle.logic_meaning.specs.Atom as meant
use Rattle.logic_meaning.specs.Atom.{Mentions, Says}
use Rattle.logic_meaning.specs.NormalForm.{IsNormal}
use Rattle.logic_meaning.specs.Tree.{Tree, Trees, IsFree}
use Rattle.logic_meaning.specs.declared.form.VarId.{VarId}
use Rattle.formula_laws.specs.StandsOnce.{StandsOnce}
use Rattle.formula_laws.proofs.Iff.{both_ways}
use Rattle.formula_laws.proofs.Fold.{fold_list_true, fold_list_has, free_of_members}
use Rattle.elimination_theory.specs.Theorems.{IsTidy}
use Rattle.elimination_theory.proofs.Tidy.{AreTidy, tidy_fold_list}
use Rattle.normal_atoms.specs.declared.atoms.Atom.{Atom}
use Rattle.normal_atoms.specs.declared.atoms.Context as code
use Rattle.normal_atoms.specs.Atoms.{context_of, atom_of, IsWellFormed}
use Rattle.formula_tree.specs.declared.shape.Shape.{Shape}
use Rattle.formula_tree.specs.Makers.{IsMade}
use Rattle.formula_tree.specs.Trees.{members}
use Rattle.formula_store.specs.declared.id.FormulaId.{FormulaId}
use Rattle.formula_store.specs.Nodes.{tree, IsId}
use Rattle.case_theory.specs.Block.{Somewhere}
use Rattle.case_theory.specs.Under.{Lack}
use Rattle.narrowed_blocks.specs.declared.conjunction.Conjunction.{Conjunction}
use Rattle.narrowed_blocks.specs.declared.open_block.OpenBlock.{OpenBlock}
use Rattle.narrowed_blocks.specs.declared.narrowing.NarrowedBlock.{NarrowedBlock}
use Rattle.narrowed_blocks.specs.declared.setting.Setting.{Setting}
use Rattle.narrowed_blocks.specs.Conjunctions.{IsConjunctionOf, others_in}
use Rattle.narrowed_blocks.specs.Narrowing.{numbers, listed, IsNameOf, IsNarrowed, IsNarrowedTo, IsOpen, GoesOn, IsNever}
use Rattle.narrowed_blocks.specs.Settings.{IsSound, Becomes, assumed_in}
use Rattle.narrowed_blocks.proofs.Listed.{somewhere_other}

-- ---- the conjunction, folded

-- the members are tidy
listed_tidy : (c : Context) (us : List meant.Atom) (fs : Trees) → EachOf (IsNormal c) us → AreTidy c fs → AreTidy c (listed us fs)
listed_tidy c [] fs n t = t
listed_tidy c (u ∷ us) fs n t = (record { is_plain = tt; normal = n.0; two_members = tt }, listed_tidy c us fs n.1 t)

-- a name of the members is one of the atoms or of the others
listed_names : (us : List meant.Atom) (fs : Trees) (y : ℕ) → FreeInSome Mentions (listed us fs) y → IsNameOf us fs y
listed_names [] fs y h = inr h
listed_names (u ∷ us) fs y (inl h) = inl (inl h)
listed_names (u ∷ us) fs y (inr h) = ⊎_elim (λ m. inl (inr m)) (λ m. inr m) (listed_names us fs y h)

-- folding brings no name
folded_names : (fs : Trees) (y : ℕ) → IsFree (fold_list Both fs) y → FreeInSome Mentions fs y
folded_names fs y = fold_list_has (λ f. IsFree f y → FreeInSome Mentions fs y) (λ gs. FreeInSome Mentions gs y → FreeInSome Mentions fs y) (free_of_members Mentions y (FreeInSome Mentions fs y)) Both fs (λ h. h)

-- the members of tidy formulas
pub members_tidy : (c : Context) (nodes : List (Shape FormulaId)) (ids : List FormulaId) → EachOf (λ (id : FormulaId). IsTidy c (tree nodes id)) ids → AreTidy c (members (map (tree nodes) ids))
members_tidy c nodes [] h = tt
members_tidy c nodes (id ∷ ids) h = (h.0, members_tidy c nodes ids h.1)

module _ (c : Context) (ks : List meant.Atom) (f : Tree) (block : List ℕ) where
  -- where the block is open with what is left, it is narrowed to the conjunction of that
  pub narrowed_open : (fs : Trees) (o : OpenBlock) → AreTidy c fs → IsOpen c ks f block fs o → IsNarrowed c ks f block (fold_list Both (listed (map atom_of o.atoms.items) fs)) (numbers o.names.items)
  narrowed_open fs o tidy is =
      let us = map atom_of o.atoms.items in
      let g = fold_list Both (listed us fs) in
      record {
        tidy = tidy_fold_list c Both (listed us fs) (listed_tidy c us fs is.normal tidy);
        once = is.once;
        of_block = is.of_block;
        names = λ y h. is.names y (listed_names us fs y (folded_names (listed us fs) y h));
        same = λ p u k. both_ways (is.same p u k) (
          somewhere_other c (Among (numbers o.names.items)) (And (listed us fs)) g p (λ q _ _. (fold_list_true Says (move nat_eq) c Both (listed us fs) q).0),
          somewhere_other c (Among (numbers o.names.items)) g (And (listed us fs)) p (λ q _ _. (fold_list_true Says (move nat_eq) c Both (listed us fs) q).1),
        );
      }

  -- where it is true nowhere, it is narrowed to no
  pub narrowed_never : (fs : Trees) (o : OpenBlock) → IsNever c ks o → IsOpen c ks f block fs o → IsNarrowed c ks f block No []
  narrowed_never fs o never is = record {
    tidy = record { is_plain = tt; normal = tt; two_members = tt };
    once = tt;
    of_block = λ y m. absurd m;
    names = λ y h. absurd h;
    same = λ p u k. (λ s. absurd (never f block fs is p u k s), λ s. absurd s.3);
  }

  -- it is narrowed to itself
  pub narrowed_self : IsTidy c f → StandsOnce block → IsNarrowed c ks f block f block
  narrowed_self tidy once = record {
    tidy = tidy;
    once = once;
    of_block = λ y m. m;
    names = λ y h. (h, λ m. m);
    same = λ p u k. (λ s. s, λ s. s);
  }

-- the block is open with the members of its matrix
pub open_begun : (c : Context) (ks : List meant.Atom) (f : Tree) (nodes : List (Shape FormulaId)) (names : List VarId) (k : Conjunction) (o : OpenBlock) → IsConjunctionOf f nodes k → IsTidy c f → EachOf (Lack ks) (numbers names) → StandsOnce (numbers names) →
    o.atoms.items ≡ k.atoms.items → o.names.items ≡ names → EachOf (λ (x : VarId). Among names x × ¬ (FreeInSome Mentions (others_in nodes k) x.number)) o.movable.items → IsOpen c ks f (numbers names) (others_in nodes k) o
open_begun c ks f nodes names k o is tidy lack once same_atoms same_names movable = record {
  lack = lack;
  well_formed = subst (λ (us : List Atom). AllByRecursion IsWellFormed us) (sym same_atoms) is.well_formed;
  normal = subst (λ (us : List Atom). EachOf (IsNormal c) (map atom_of us)) (sym same_atoms) (is.tidy c tidy).0;
  once = subst (λ (ns : List VarId). StandsOnce (numbers ns)) (sym same_names) once;
  of_block = λ y m. subst (λ (ns : List VarId). Among (numbers ns) y) same_names m;
  names = λ y h. (is.names y (subst (λ (us : List Atom). IsNameOf (map atom_of us) (others_in nodes k) y) same_atoms h), λ m. subst (λ (ns : List VarId). Among (numbers ns) y) (sym same_names) m);
  movable = subst (λ (ns : List VarId). EachOf (λ (x : VarId). Among ns x × ¬ (FreeInSome Mentions (others_in nodes k) x.number)) o.movable.items) (sym same_names) movable;
  same = λ p u t.
      subst (λ (ns : List VarId). Somewhere c (Among (numbers names)) f p ↔ Somewhere c (Among (numbers ns)) (And (listed (map atom_of o.atoms.items) (others_in nodes k))) p) (sym same_names)
      (subst (λ (us : List Atom). Somewhere c (Among (numbers names)) f p ↔ Somewhere c (Among (numbers names)) (And (listed (map atom_of us) (others_in nodes k))) p) (sym same_atoms) (
        somewhere_other c (Among (numbers names)) f (And (listed (map atom_of k.atoms.items) (others_in nodes k))) p (λ q _ _. (is.same c q).0),
        somewhere_other c (Among (numbers names)) (And (listed (map atom_of k.atoms.items) (others_in nodes k))) f p (λ q _ _. (is.same c q).1),
      ));
}

-- ---- with what the code has

-- the atoms of the members are well formed and normal
pub sound_begun : (s : Setting) (context : code.Context) (f : Tree) (nodes : List (Shape FormulaId)) (k : Conjunction) (o : OpenBlock) → s.context ≡ context → IsConjunctionOf f nodes k → IsTidy (context_of context) f → o.atoms.items ≡ k.atoms.items → IsSound s o
sound_begun s context f nodes k o same is tidy atoms = record {
  well_formed = subst (λ (us : List Atom). AllByRecursion IsWellFormed us) (sym atoms) is.well_formed;
  normal = subst (λ (us : List Atom). EachOf (IsNormal (context_of s.context)) (map atom_of us)) (sym atoms) (subst (λ (d : code.Context). EachOf (IsNormal (context_of d)) (map atom_of k.atoms.items)) (sym same) (is.tidy (context_of context) tidy).0);
}

module _ (c : Context) (ks : List meant.Atom) (f : Tree) (nodes : List (Shape FormulaId)) where
  -- a formula that is made stands for the one that the block is narrowed to
  narrowed_made : (block left : List ℕ) (g : Tree) (n : NarrowedBlock) → IsMade (IsId nodes) (tree nodes) n.matrix g → numbers n.names.items ≡ left → IsNarrowed c ks f block g left → IsNarrowedTo c ks f block nodes n
  narrowed_made block left g n made names h = record {
    is = made.is;
    narrowed = subst (λ (t : Tree). IsNarrowed c ks f block t (numbers n.names.items)) (sym made.same) (subst (λ (ns : List ℕ). IsNarrowed c ks f block g ns) (sym names) h);
  }

  -- nothing is done
  pub narrowed_still : (names : List VarId) (n : NarrowedBlock) → IsMade (IsId nodes) (tree nodes) n.matrix f → n.names.items ≡ names → IsTidy c f → StandsOnce (numbers names) → IsNarrowedTo c ks f (numbers names) nodes n
  narrowed_still names n made same tidy once = narrowed_made (numbers names) (numbers names) f n made (ap numbers same) (narrowed_self c ks f (numbers names) tidy once)

module _ (s : Setting) (context : code.Context) (assumed : List Atom) (same_context : s.context ≡ context) (same_assumed : s.assumed.now ≡ assumed)
    (f : Tree) (nodes : List (Shape FormulaId)) (names : List VarId) (k : Conjunction) (is : IsConjunctionOf f nodes k) (tidy : IsTidy (context_of context) f) (lack : EachOf (Lack (map atom_of assumed)) (numbers names)) (once : StandsOnce (numbers names))
    (begun : OpenBlock) (atoms : begun.atoms.items ≡ k.atoms.items) (block : begun.names.items ≡ names) (movable : EachOf (λ (x : VarId). Among names x × ¬ (FreeInSome Mentions (others_in nodes k) x.number)) begun.movable.items) where
  -- the block as it begins
  open_first : IsOpen (context_of context) (map atom_of assumed) f (numbers names) (others_in nodes k) begun
  open_first = open_begun (context_of context) (map atom_of assumed) f nodes names k begun is tidy lack once atoms block movable

  -- what holds of the theory and the assumptions of the setting holds of these
  of_setting : (P : Context → List meant.Atom → Type 0) → P (context_of s.context) (assumed_in s) → P (context_of context) (map atom_of assumed)
  of_setting P h = subst (λ (us : List Atom). P (context_of context) (map atom_of us)) same_assumed (subst (λ (d : code.Context). P (context_of d) (assumed_in s)) same_context h)

  -- the block is what is left
  pub whole_left : (left : OpenBlock) → Becomes s begun left → (after : List (Shape FormulaId)) (n : NarrowedBlock) → IsMade (IsId after) (tree after) n.matrix (fold_list Both (listed (map atom_of left.atoms.items) (others_in nodes k))) → n.names.items ≡ left.names.items →
      IsNarrowedTo (context_of context) (map atom_of assumed) f (numbers names) after n
  whole_left left becomes after n made same =
      let c = context_of context in
      let ks = map atom_of assumed in
      let goes : GoesOn c ks begun left = of_setting (λ d hs. GoesOn d hs begun left) becomes.goes_on in
      narrowed_made c ks f after (numbers names) (numbers left.names.items) (fold_list Both (listed (map atom_of left.atoms.items) (others_in nodes k))) n made (ap numbers same)
      (narrowed_open c ks f (numbers names) (others_in nodes k) left (members_tidy c nodes k.others.items (is.tidy c tidy).1) (goes f (numbers names) (others_in nodes k) open_first))

  -- the block is true nowhere
  pub whole_never : IsNever (context_of s.context) (assumed_in s) begun → (after : List (Shape FormulaId)) (n : NarrowedBlock) → IsMade (IsId after) (tree after) n.matrix No → n.names.items ≡ [] → IsNarrowedTo (context_of context) (map atom_of assumed) f (numbers names) after n
  whole_never never after n made same =
      let c = context_of context in
      let ks = map atom_of assumed in
      narrowed_made c ks f after (numbers names) [] No n made (ap numbers same) (narrowed_never c ks f (numbers names) (others_in nodes k) begun (of_setting (λ d hs. IsNever d hs begun) never) open_first)
