use Rattle.std.proofs.Common.{sym, subst}
use Rattle.normal_atoms.specs.Atoms.{context_of}
use Rattle.logic_meaning.specs.NormalForm.{IsNormal}
use Rattle.logic_meaning.specs.Tree.{Tree}
use Rattle.shape_theory.specs.Orderly.{IsOrderly}
use Rattle.formula_store.specs.Nodes.{tree}
use Rattle.formula_store.proofs.Makes.{keeps_then}
use Rattle.form_commands.proofs.EliminatedLemmas.{negation_orderly}
use Rattle.form_commands.proofs.forms.simplified_negation.Goals as goal

pub simplified-requires-clause-formula : goal.simplified-requires-clause-formula
simplified-requires-clause-formula c =
    let theory = context_of c.args.context in
    let f = tree c.args.store.now c.args.id in
    subst (λ (g : Tree). IsOrderly (IsNormal theory) g) (sym c.in_ok-form.ensures.form) (negation_orderly theory f c.requires.normal c.requires.members)

pub returns-clause-kept : goal.returns-clause-kept
returns-clause-kept c = keeps_then c.args.store.now c.negated.new.store c.simplified.new.store c.negated.ensures.kept c.simplified.ensures.kept
