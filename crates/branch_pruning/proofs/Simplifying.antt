-- A formula simplified, and one that is cut and simplified again.
use Rattle.std.proofs.Common.{◌≡◌, ℕ, ◌≤◌, ◌<◌, List, length, sym, subst, arith}
use Rattle.logic_meaning.specs.Context.{Context}
use Rattle.logic_meaning.specs.Formula.{Yes, No, One, Not, And, Or, Impl, Repl, Equiv, Ex, All, none, also}
use Rattle.logic_meaning.specs.Every.{Every, EveryOf}
use Rattle.logic_meaning.specs.Some.{EachOf}
use Rattle.logic_meaning.specs.Atom.{Atom, Mentions, Compare, Congruent, form_of}
use Rattle.logic_meaning.specs.Numbers.{IsAtomInLimit}
use Rattle.formula_laws.proofs.EachAtom.{every_map}
use Rattle.exact_numbers.specs.Limit.{InLimit}
use Rattle.formula_store.proofs.Numbers.{numbers_are_within}
use Rattle.case_theory.specs.Simplified.{HasConstantsWithin}
use Rattle.logic_meaning.specs.Tree.{Tree, Trees}
use Rattle.formula_laws.specs.Within.{IsAtomWithin}
use Rattle.normal_atoms.specs.Computed.{IsNormalWithin}
use Rattle.logic_meaning.specs.Text.{tree_text}
use Rattle.shape_theory.specs.AtomKit.{atom_kit}
use Rattle.shape_theory.specs.Orderly.{IsOrderly, AreOrderly}
use Rattle.logic_meaning.specs.Trees.{IsReduced}
use Rattle.shape_theory.specs.Simplifiable.{IsSimplifiable, AreAssumable, EquivalentUnder, simplified_under}
use Rattle.shape_theory.proofs.AtomLaws.{merges_within, names_told}
use Rattle.shape_theory.proofs.Keeps.{MergesWithin}
use Rattle.shape_theory.proofs.Simplified.{simplified_within}
use Rattle.shape_theory.proofs.TreeLaws.{keeps_truth, keeps_shape, brings_no_name, brings_no_node, brings_no_quantifier, is_reduced}
use Rattle.shape_theory.specs.Texts.{IsNoLarger}
use Rattle.shape_theory.proofs.Longer.{IsWritten, comes, orderly_both, no_longer}
use Rattle.shape_theory.proofs.Measured.{text_is}
use Rattle.elimination_theory.specs.Theorems.{IsTidy}
use Rattle.formula_tree.specs.declared.shape.Shape.{Shape}
use Rattle.formula_store.specs.declared.id.FormulaId.{FormulaId}
use Rattle.formula_store.specs.Nodes.{tree, IsId}
use Rattle.case_theory.specs.Worked.{IsWorked}
use Rattle.case_theory.proofs.Simplified.{tidy_simplifiable, simplifying_works, reduced_tidy, plain_free}
use Rattle.case_theory.proofs.Under.{under_turn, under_then}
use Rattle.branch_pruning.specs.Pruned.{IsPrunedTo}
use Rattle.logic_meaning.specs.NormalForm.{IsNormal}
use Rattle.formula_tree.specs.Makers.{IsMade}
use Rattle.theory_simplifier.proofs.Assuming.{orderly_normal}
use Rattle.atom_pruning.specs.declared.rows.AtomRows.{AtomRows}
use Rattle.atom_pruning.specs.Rows.{AreRows}
use Rattle.branch_pruning.specs.Cuts.{IsCut, IsCutTo, IsIn}
use Rattle.branch_pruning.proofs.CutTrees.{cut_nodes, cut_free, cut_names, cut_orderly, cut_width}

-- each atom of an orderly formula has what is said of each
module _ (P Q : Atom → Type 0) (k : (a : Atom) → P a → Q a) where
  mutual
    orderly_every : (f : Tree) → IsOrderly P f → Every Q f
    orderly_every Yes o = tt
    orderly_every No o = tt
    orderly_every (One a) o = k a o
    orderly_every (Not f) o = absurd o
    orderly_every (And fs) o = all_orderly_every fs o.1
    orderly_every (Or fs) o = all_orderly_every fs o.1
    orderly_every (Impl f g) o = absurd o
    orderly_every (Repl f g) o = absurd o
    orderly_every (Equiv f g) o = absurd o
    orderly_every (Ex x f) o = orderly_every f o
    orderly_every (All x f) o = orderly_every f o

    all_orderly_every : (fs : Trees) → AreOrderly P fs → EveryOf Q fs
    all_orderly_every none o = tt
    all_orderly_every (also f fs) o = (orderly_every f o.0, all_orderly_every fs o.1)

constant_within : (a : Atom) → IsAtomInLimit a → InLimit (form_of a).constant
constant_within (Compare r f) h = h.0
constant_within (Congruent b m f) h = h.1.0

-- a tidy formula of the store can be simplified
module _ (c : Context) (nodes : List (Shape FormulaId)) (id : FormulaId) (i : IsId nodes id) (tidy : IsTidy c (tree nodes id)) where
  pub constants_within : HasConstantsWithin (tree nodes id)
  constants_within = every_map IsAtomInLimit (λ (a : Atom). InLimit (form_of a).constant) constant_within (tree nodes id) (numbers_are_within nodes id i)

  pub simple : IsSimplifiable c (tree nodes id)
  simple = tidy_simplifiable c (tree nodes id) tidy constants_within

-- ---- names that are written

module _ (names : List (List ℕ)) (long : EachOf (λ name. 0 < length name) names) (c : Context) where
  abbrev W : Atom → Type 0
  W = IsWritten names long c

  written_within : MergesWithin (atom_kit c) W Mentions
  written_within = record {
    keeps = λ j a b d x y e. record { normal = (merges_within c).keeps j a b d x.normal y.normal e; named = (comes names long c j a b d x y e).named };
    names = λ j a b d x y e. (merges_within c).names j a b d x.normal y.normal e;
  }

  simplified_written : (ks : List Atom) (f : Tree) → IsSimplifiable c f → Every (IsAtomWithin (length names)) f → IsOrderly W (simplified_under c ks f)
  simplified_written ks f o n =
      (simplified_within (atom_kit c) W Mentions written_within (names_told c) f ks (orderly_both (IsNormalWithin c) (IsAtomWithin (length names)) W (λ a x y. record { normal = x; named = y }) f o n)).0

  -- a cut formula has no longer text
  cut_short : (f g : Tree) → IsCut f g → IsOrderly W f → length (tree_text names g) ≤ length (tree_text names f)
  cut_short f g h o =
      let a = text_is names W f o in
      let b = text_is names W g (cut_orderly W f g h o) in
      let k = cut_width names long c f g h o in
      omega arith

-- ---- once

module _ (c : Context) (ks : List Atom) (assumed : AreAssumable c ks) where
  simplified_no_larger : (f : Tree) → IsSimplifiable c f → IsNoLarger f (simplified_under c ks f)
  simplified_no_larger f o = record { nodes = brings_no_node c ks f o; text = λ names long n. no_longer names long c ks f o n }

  module _ (f : Tree) (o : IsSimplifiable c f) (works : IsWorked c ks f (simplified_under c ks f)) where
    -- the formula simplified
    pub pruned_once : (nodes : List (Shape FormulaId)) (id : FormulaId) → IsId nodes id → tree nodes id ≡ simplified_under c ks f → IsPrunedTo c ks f nodes id
    pruned_once nodes id i e = record {
      is = i;
      worked = subst (IsWorked c ks f) (sym e) works;
      reduced = subst (λ g. IsReduced c g ks) (sym e) (is_reduced c ks f assumed o);
      no_larger = subst (IsNoLarger f) (sym e) (simplified_no_larger f o);
    }

    -- ---- and cut, and simplified again

    module _ (g : Tree) (cut : IsCut (simplified_under c ks f) g) (same : EquivalentUnder c ks (simplified_under c ks f) g) where
      abbrev first : Tree
      first = simplified_under c ks f

      abbrev last : Tree
      last = simplified_under c ks g

      pub again : IsSimplifiable c g
      again = cut_orderly (IsNormalWithin c) first g cut (keeps_shape c ks f o)

      last_worked : IsWorked c ks f last
      last_worked = record {
        equivalent = under_then c ks f first last works.equivalent (under_then c ks first g last same (under_turn c ks last g (keeps_truth c ks g assumed again)));
        tidy = reduced_tidy c ks last (keeps_shape c ks g again) (brings_no_quantifier c ks g again (cut_free first g cut (plain_free c first works.tidy.is_plain))) (is_reduced c ks g assumed again);
        names = λ y q. works.names y (cut_names y first g cut (brings_no_name c ks g again y q));
      }

      last_short : (names : List (List ℕ)) → EachOf (λ name. 0 < length name) names → Every (IsAtomWithin (length names)) f → length (tree_text names last) ≤ length (tree_text names f)
      last_short names long n =
          let w = simplified_written names long c ks f o n in
          let named = orderly_every (IsWritten names long c) (IsAtomWithin (length names)) (λ a h. h.named) g (cut_orderly (IsWritten names long c) first g cut w) in
          let i = no_longer names long c ks f o n in
          let j = cut_short names long c first g cut w in
          let k = no_longer names long c ks g again named in
          omega arith

      last_no_larger : IsNoLarger f last
      last_no_larger =
          let i = brings_no_node c ks f o in
          let j = cut_nodes first g cut in
          let k = brings_no_node c ks g again in
          record { nodes = omega arith; text = last_short }

      pub pruned_again : (nodes : List (Shape FormulaId)) (id : FormulaId) → IsId nodes id → tree nodes id ≡ simplified_under c ks g → IsPrunedTo c ks f nodes id
      pruned_again nodes id i e = record {
        is = i;
        worked = subst (IsWorked c ks f) (sym e) last_worked;
        reduced = subst (λ h. IsReduced c h ks) (sym e) (is_reduced c ks g assumed again);
        no_larger = subst (IsNoLarger f) (sym e) last_no_larger;
      }

-- ---- formulas of the store

module _ (c : Context) (ks : List Atom) (assumed : AreAssumable c ks) (old : List (Shape FormulaId)) (id : FormulaId) (i : IsId old id) (tidy : IsTidy c (tree old id)) where
  pub orderly_first : IsOrderly (IsNormal c) (tree old id)
  orderly_first = orderly_normal c (tree old id) (simple c old id i tidy)

  works : IsWorked c ks (tree old id) (simplified_under c ks (tree old id))
  works = simplifying_works c ks (tree old id) assumed tidy (constants_within c old id i tidy)

  -- simplified
  pub once : (nodes : List (Shape FormulaId)) (r : FormulaId) → IsMade (IsId nodes) (tree nodes) r (simplified_under c ks (tree old id)) → IsPrunedTo c ks (tree old id) nodes r
  once nodes r m = pruned_once c ks assumed (tree old id) (simple c old id i tidy) works nodes r m.is m.same

  module _ (one two : List (Shape FormulaId)) (first cut : FormulaId) (rows : List AtomRows) (m : IsMade (IsId one) (tree one) first (simplified_under c ks (tree old id))) (h : IsIn (IsCutTo c rows) (tree one first) two cut) where
    of_first : IsCut (simplified_under c ks (tree old id)) (tree two cut)
    of_first = subst (λ g. IsCut g (tree two cut)) m.same h.to.cut

    pub orderly_cut : IsOrderly (IsNormal c) (tree two cut)
    orderly_cut = orderly_normal c (tree two cut) (cut_orderly (IsNormalWithin c) (simplified_under c ks (tree old id)) (tree two cut) of_first (keeps_shape c ks (tree old id) (simple c old id i tidy)))

    -- cut, and simplified again
    pub twice : AreRows c ks rows → (nodes : List (Shape FormulaId)) (r : FormulaId) → IsMade (IsId nodes) (tree nodes) r (simplified_under c ks (tree two cut)) → IsPrunedTo c ks (tree old id) nodes r
    twice are nodes r k =
        let same = subst (λ g. EquivalentUnder c ks g (tree two cut)) m.same (h.to.equivalent ks are) in
        pruned_again c ks assumed (tree old id) (simple c old id i tidy) works (tree two cut) of_first same nodes r k.is k.same
