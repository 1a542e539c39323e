use Rattle.std.proofs.Common.{sym, subst}
use Rattle.std.specs.Prelude.{Result, Ok, Err, IfOk, IfSome}
use Rattle.std.specs.Result.{result_ok}
use Rattle.logic_meaning.specs.Every.{Every}
use Rattle.normal_atoms.specs.Atoms.{context_of}
use Rattle.logic_meaning.specs.NormalForm.{IsNormal}
use Rattle.elimination_theory.proofs.Sound.{normal_normal_tree}
use Rattle.formula_store.specs.Nodes.{tree}
use Rattle.formula_tree.specs.declared.tree.Tree.{Tree}
use Rattle.formula_tree.specs.Trees.{tree_of}
use Rattle.gate_texts.proofs.reading.form_of.Goals as goal

if_some : {E : Type 0} {P Q : Tree → Type 0} (r : Result Tree E) → ((t : Tree) → P t → Q t) → IfOk r P → IfSome (result_ok r) Q
if_some (Ok t) h p = h t p
if_some (Err e) h p = tt

pub returns-clause-normal : goal.returns-clause-normal
returns-clause-normal c =
    let theory = context_of c.args.context in
    let normal = normal_normal_tree theory 0 (tree c.normal_id.new.store c.in_ok-id.id) c.in_ok-id.ensures.normal in
    subst (λ o. IfSome o (λ t. Every (IsNormal theory) (tree_of t))) (sym c.ok.ensures.value)
    (if_some c.unfolded_form.result (λ t e. subst (Every (IsNormal theory)) (sym e) normal) c.unfolded_form.ensures.form)
