use Rattle.std.proofs.Common.{◌≡◌, ◌∙◌, sym, subst}
use Rattle.logic_meaning.specs.Every.{Every}
use Rattle.formula_tree.specs.Trees.{tree_of}
use Rattle.formula_store.specs.Nodes.{tree}
use Rattle.nnf_trees.specs.Nnfs.{HasModulus}
use Rattle.reference_engine.proofs.Arms.{if_ok_also}
use Rattle.reference_engine.proofs.Moduli.{store_moduli}
use Rattle.reference_engine.proofs.unfolding.unfolded.Goals as goal

pub returns-clause-form : goal.returns-clause-form
returns-clause-form c = if_ok_also c.unfold.result (λ t. tree_of t ≡ tree c.nnf.new.store c.in-Ok.form) _ c.unfold.ensures.tree (λ t e. e ∙ c.in-Ok.ensures.made.same)

pub returns-clause-moduli : goal.returns-clause-moduli
returns-clause-moduli c =
    if_ok_also c.unfold.result (λ t. tree_of t ≡ tree c.nnf.new.store c.in-Ok.form) (λ t. Every HasModulus (tree_of t)) c.unfold.ensures.tree
    (λ t e. subst (Every HasModulus) (sym e) (store_moduli c.nnf.new.store c.in-Ok.form c.in-Ok.ensures.made.is))
