use Rattle.std.proofs.Common.{sym, subst}
use Rattle.std.specs.Prelude.{IfOk}
use Rattle.logic_meaning.specs.declared.junction.Junction.TheVariants.{Conjunction, Disjunction}
use Rattle.normal_atoms.specs.Atoms.{context_of}
use Rattle.formula_store.specs.declared.id.FormulaId.{FormulaId}
use Rattle.formula_store.specs.Nodes.{tree}
use Rattle.form_commands.specs.Forms.{junction_of, IsCleanedAs}
use Rattle.form_commands.proofs.EliminatedLemmas.{cleaned_result, form_is_made}
use Rattle.form_commands.proofs.forms.cleaned.Goals as goal

pub returns-in-Disjunctive-clause-cleaned : goal.returns-in-Disjunctive-clause-cleaned
returns-in-Disjunctive-clause-cleaned c =
    let theory = context_of c.args.context in
    let f = tree c.args.store.now c.args.id in
    let t = λ (r : FormulaId). tree c.dnf.new.store r in
    let made = cleaned_result theory Conjunction f t c.dnf.result c.dnf.ensures.clean c.dnf.ensures.truth c.dnf.ensures.orderly c.dnf.ensures.names c.dnf.ensures.nodes_within c.dnf.ensures.text_within in
    subst (λ w. IfOk c.form_or_fault.result (λ r. IsCleanedAs theory (junction_of w) f (t r))) (sym c.in-Disjunctive.is) (form_is_made (λ r. IsCleanedAs theory Conjunction f (t r)) c.form_or_fault.result c.dnf.result c.form_or_fault.ensures.made made)

pub returns-in-Conjunctive-clause-cleaned : goal.returns-in-Conjunctive-clause-cleaned
returns-in-Conjunctive-clause-cleaned c =
    let theory = context_of c.args.context in
    let f = tree c.args.store.now c.args.id in
    let t = λ (r : FormulaId). tree c.cnf.new.store r in
    let made = cleaned_result theory Disjunction f t c.cnf.result c.cnf.ensures.clean c.cnf.ensures.truth c.cnf.ensures.orderly c.cnf.ensures.names c.cnf.ensures.nodes_within c.cnf.ensures.text_within in
    subst (λ w. IfOk c.form_or_fault-in-Conjunctive.result (λ r. IsCleanedAs theory (junction_of w) f (t r))) (sym c.in-Conjunctive.is) (form_is_made (λ r. IsCleanedAs theory Disjunction f (t r)) c.form_or_fault-in-Conjunctive.result c.cnf.result c.form_or_fault-in-Conjunctive.ensures.made made)
