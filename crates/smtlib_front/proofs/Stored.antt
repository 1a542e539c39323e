-- Formulas that ids stand for, while the formulas of the store change.
use Rattle.std.proofs.Common.{◌≡◌, ℕ, ◌≤◌, List, [], ◌∷◌, ◌++◌, map, refl, ap₂, ◌∙◌}
use Rattle.std.specs.List.{AllByRecursion}
use Rattle.logic_meaning.specs.Context.{Context}
use Rattle.logic_meaning.specs.Tree.{Tree}
use Rattle.language_meaning.specs.Trees.{FormulaTree}
use Rattle.formula_tree.specs.declared.shape.Shape.{Shape}
use Rattle.formula_tree.specs.Makers.{Keeps}
use Rattle.language_meaning.specs.Resolving.{formula_variables}
use Rattle.formula_store.specs.declared.id.FormulaId.{FormulaId}
use Rattle.formula_store.specs.Nodes.{tree, IsId}
use Rattle.smt_meaning.specs.LevelsBelow.{AreLevelsBelow}
use Rattle.program_meaning.specs.SmtState.{State}
use Rattle.smt_theorems.specs.Resolvable.{IsResolvable}
use Rattle.smt_theorems.specs.Resolved.{numbered, sentence_levels}
use Rattle.smt_theorems.proofs.Resolvable.{more_names}
use Rattle.smtlib_front.specs.Represents.{IsStored, AreStored}

module _ (c : Context) (n : ℕ) (nodes : List (Shape FormulaId)) where
  -- the ids are of the store
  stored_id : (f : FormulaTree) (id : FormulaId) → IsStored c n nodes f id → IsId nodes id
  stored_id f id h = (h.made h.resolvable.most h.resolvable.below).is

  pub stored_ids : (fs : List FormulaTree) (ids : List FormulaId) → AreStored c n nodes fs ids → AllByRecursion (IsId nodes) ids
  stored_ids [] [] h = tt
  stored_ids [] (id ∷ ids) h = absurd h
  stored_ids (f ∷ fs) [] h = absurd h
  stored_ids (f ∷ fs) (id ∷ ids) h = (stored_id f id h.0, stored_ids fs ids h.1)

  -- what is asserted may stand so
  pub stored_resolvable : (fs : List FormulaTree) (ids : List FormulaId) → AreStored c n nodes fs ids → AllByRecursion (IsResolvable c n) fs
  stored_resolvable [] [] h = tt
  stored_resolvable [] (id ∷ ids) h = absurd h
  stored_resolvable (f ∷ fs) [] h = absurd h
  stored_resolvable (f ∷ fs) (id ∷ ids) h = (h.0.resolvable, stored_resolvable fs ids h.1)

  -- one more at the end
  pub one_more_stored : (fs : List FormulaTree) (ids : List FormulaId) (f : FormulaTree) (id : FormulaId) → AreStored c n nodes fs ids → IsStored c n nodes f id → AreStored c n nodes (fs ++ f ∷ []) (ids ++ id ∷ [])
  one_more_stored [] [] f id h k = (k, tt)
  one_more_stored [] (j ∷ ids) f id h k = absurd h
  one_more_stored (g ∷ fs) [] f id h k = absurd h
  one_more_stored (g ∷ fs) (j ∷ ids) f id h k = (h.0, one_more_stored fs ids f id h.1 k)

  -- with more names declared
  pub stored_under_more : (m : ℕ) → n ≤ m → (fs : List FormulaTree) (ids : List FormulaId) → AreStored c n nodes fs ids → AreStored c m nodes fs ids
  stored_under_more m l [] [] h = tt
  stored_under_more m l [] (id ∷ ids) h = absurd h
  stored_under_more m l (f ∷ fs) [] h = absurd h
  stored_under_more m l (f ∷ fs) (id ∷ ids) h = (record { resolvable = more_names c n m f l h.0.resolvable; made = h.0.made }, stored_under_more m l fs ids h.1)

  -- the trees of the ids are the formulas as the sentence of a state numbers them
  pub stored_trees : (s : State) (fs : List FormulaTree) (ids : List FormulaId) → AreStored c n nodes fs ids → AllByRecursion (λ f. AreLevelsBelow (sentence_levels s) (formula_variables f)) fs → map (tree nodes) ids ≡ map (numbered c s) fs
  stored_trees s [] [] h b = refl
  stored_trees s [] (id ∷ ids) h b = absurd h
  stored_trees s (f ∷ fs) [] h b = absurd h
  stored_trees s (f ∷ fs) (id ∷ ids) h b =
      let this : tree nodes id ≡ numbered c s f = (h.0.made (sentence_levels s) b.0).same in
      let rest : map (tree nodes) ids ≡ map (numbered c s) fs = stored_trees s fs ids h.1 b.1 in
      ap₂ (λ t ts. t ∷ ts) this rest

module _ (c : Context) (n : ℕ) (old new : List (Shape FormulaId)) where
  -- formulas that stay
  pub stored_stays : Keeps (IsId old) (tree old) (IsId new) (tree new) → (f : FormulaTree) (id : FormulaId) → IsStored c n old f id → IsStored c n new f id
  stored_stays k f id h = record {
    resolvable = h.resolvable;
    made = λ count l. let m = h.made count l in record { is = k.is id m.is; same = k.same id m.is ∙ m.same };
  }

  pub all_stay : Keeps (IsId old) (tree old) (IsId new) (tree new) → (fs : List FormulaTree) (ids : List FormulaId) → AreStored c n old fs ids → AreStored c n new fs ids
  all_stay k [] [] h = tt
  all_stay k [] (id ∷ ids) h = absurd h
  all_stay k (f ∷ fs) [] h = absurd h
  all_stay k (f ∷ fs) (id ∷ ids) h = (stored_stays k f id h.0, all_stay k fs ids h.1)

  -- under other ids with the same trees
  same_head : (x y : Tree) (xs ys : List Tree) → x ∷ xs ≡ y ∷ ys → (x ≡ y) × (xs ≡ ys)
  same_head x y xs ys e = (cc, cc)

  pub stored_again : (fs : List FormulaTree) (ids others : List FormulaId) → AreStored c n old fs ids → AllByRecursion (IsId new) others → map (tree new) others ≡ map (tree old) ids → AreStored c n new fs others
  stored_again [] [] [] h a e = tt
  stored_again [] [] (o ∷ others) h a e = absurd (cc)
  stored_again [] (id ∷ ids) others h a e = absurd h
  stored_again (f ∷ fs) [] others h a e = absurd h
  stored_again (f ∷ fs) (id ∷ ids) [] h a e = absurd (cc)
  stored_again (f ∷ fs) (id ∷ ids) (o ∷ others) h a e =
      let parts = same_head (tree new o) (tree old id) (map (tree new) others) (map (tree old) ids) e in
      (record { resolvable = h.0.resolvable; made = λ count l. record { is = a.0; same = parts.0 ∙ (h.0.made count l).same } }, stored_again fs ids others h.1 a.1 parts.1)
