-- Cases made one after the other, over a store that grows.
use Rattle.std.proofs.Common.{◌≡◌, List, [], ◌∷◌, ◌++◌, All as Each, append_assoc, map, refl, ap, ◌∙◌, sym, subst}
use Rattle.std.proofs.lemmas.List.{append-nil}
use Rattle.logic_meaning.specs.Some.{EachOf}
use Rattle.elimination_theory.proofs.SomeListed.{each_append, each_map}
use Rattle.logic_meaning.specs.Cases as reference
use Rattle.formula_tree.specs.declared.shape.Shape.{Shape}
use Rattle.formula_tree.specs.Makers.{Keeps}
use Rattle.formula_store.specs.declared.id.FormulaId.{FormulaId}
use Rattle.formula_store.specs.Nodes.{tree, IsId}
use Rattle.nnf_trees.specs.Nnfs.{nnf_of}
use Rattle.test_points.specs.Points.{answer_of, IsTestPoint}
use Rattle.reference_engine.specs.declared.branch.Leaf.{Leaf}
use Rattle.reference_engine.specs.Case.{leaf_case}
use Rattle.engine_answers.specs.declared.case_tree.Case.{Case}
use Rattle.engine_answers.specs.CaseTrees.{case_seen, cases_seen}

seen_pushed : (nodes : List (Shape FormulaId)) (ks : List Case) (k : Case) → cases_seen nodes (ks ++ k ∷ []) ≡ cases_seen nodes ks ++ case_seen nodes k ∷ []
seen_pushed nodes [] k = refl
seen_pushed nodes (x ∷ ks) k = ap (◌∷◌ (case_seen nodes x)) (seen_pushed nodes ks k)

module _ (old new : List (Shape FormulaId)) (kept : Keeps (IsId old) (tree old) (IsId new) (tree new)) where
  -- the old cases stay
  pub seen_kept : (ks : List Case) → EachOf (λ (k : Case). IsId old k.guard) ks → cases_seen new ks ≡ cases_seen old ks
  seen_kept [] h = refl
  seen_kept (k ∷ ks) h = λ i. record { guard = kept.same k.guard h.0 i; answers = map answer_of k.answers.items } ∷ seen_kept ks h.1 i

  pub guards_kept : (ks : List Case) → EachOf (λ (k : Case). IsId old k.guard) ks → EachOf (λ (k : Case). IsId new k.guard) ks
  guards_kept ks h = each_map (λ (k : Case). IsId old k.guard) (λ (k : Case). IsId new k.guard) (λ k i. kept.is k.guard i) ks h

  module _ (ks ms : List Case) (k : Case) (m : ms ≡ ks ++ k ∷ []) where
    -- and one comes
    pub guards_more : EachOf (λ (k : Case). IsId old k.guard) ks → IsId new k.guard → EachOf (λ (k : Case). IsId new k.guard) ms
    guards_more h i = subst (EachOf (λ (k : Case). IsId new k.guard)) (sym m) (each_append (λ (k : Case). IsId new k.guard) ks (k ∷ []) (guards_kept ks h) (i, tt))

    pub points_more : EachOf (λ (k : Case). Each IsTestPoint k.answers.items) ks → Each IsTestPoint k.answers.items → EachOf (λ (k : Case). Each IsTestPoint k.answers.items) ms
    points_more h i = subst (EachOf (λ (k : Case). Each IsTestPoint k.answers.items)) (sym m) (each_append (λ (k : Case). Each IsTestPoint k.answers.items) ks (k ∷ []) h (i, tt))

    pub same_more : (l : Leaf) (rest : List Leaf) (all : List reference.Case) → EachOf (λ (k : Case). IsId old k.guard) ks → cases_seen old ks ++ map leaf_case (l ∷ rest) ≡ all →
        tree new k.guard ≡ nnf_of l.formula → k.answers.items ≡ l.points.items → cases_seen new ms ++ map leaf_case rest ≡ all
    same_more l rest all h w e a =
        ap (λ cs. cs ++ map leaf_case rest) (ap (cases_seen new) m ∙ seen_pushed new ks k ∙ (λ i. seen_kept ks h i ++ record { guard = e i; answers = ap (map answer_of) a i } ∷ []))
        ∙ append_assoc (cases_seen old ks) (leaf_case l ∷ []) (map leaf_case rest) ∙ w

pub same_end : (nodes : List (Shape FormulaId)) (ks : List Case) (rest : List Leaf) (all : List reference.Case) → cases_seen nodes ks ++ map leaf_case rest ≡ all → rest ≡ [] → cases_seen nodes ks ≡ all
same_end nodes ks rest all w e = sym (append-nil (cases_seen nodes ks)) ∙ ap (λ ls. cases_seen nodes ks ++ map leaf_case ls) (sym e) ∙ w
