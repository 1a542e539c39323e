use Rattle.std.proofs.Common.{sym, subst}
use Rattle.normal_atoms.specs.Atoms.{context_of}
use Rattle.logic_meaning.specs.NormalForm.{IsNormal}
use Rattle.logic_meaning.specs.Shape.{IsQuantifierFree}
use Rattle.logic_meaning.specs.Tree.{Tree}
use Rattle.shape_theory.specs.Orderly.{IsOrderly}
use Rattle.formula_store.specs.Nodes.{tree}
use Rattle.formula_store.proofs.Makes.{keeps_then}
use Rattle.form_commands.proofs.EliminatedLemmas.{negation_orderly, negation_free}
use Rattle.form_commands.proofs.forms.distributed.Goals as goal

pub cleaned-requires-clause-formula : goal.cleaned-requires-clause-formula
cleaned-requires-clause-formula c =
    let theory = context_of c.args.context in
    let f = tree c.args.store.now c.args.id in
    subst (λ (g : Tree). IsOrderly (IsNormal theory) g) (sym c.in_ok-form.ensures.form) (negation_orderly theory f c.requires.normal c.requires.members)

pub cleaned-requires-clause-free : goal.cleaned-requires-clause-free
cleaned-requires-clause-free c =
    subst (λ (g : Tree). IsQuantifierFree g) (sym c.in_ok-form.ensures.form) (negation_free (tree c.args.store.now c.args.id) c.requires.free)

pub returns-clause-kept : goal.returns-clause-kept
returns-clause-kept c = keeps_then c.args.store.now c.negated.new.store c.cleaned.new.store c.negated.ensures.kept c.cleaned.ensures.kept
