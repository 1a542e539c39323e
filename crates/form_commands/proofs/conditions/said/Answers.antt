use Rattle.std.proofs.Common.{sym, subst}
use Rattle.normal_atoms.specs.Atoms.{context_of}
use Rattle.logic_meaning.specs.NormalForm.{IsNormal}
use Rattle.logic_meaning.specs.Tree.{Tree}
use Rattle.formula_store.proofs.Makes.{keeps_then}
use Rattle.shape_theory.specs.Orderly.{IsOrderly}
use Rattle.engine_answers.specs.CaseTrees.{cases_seen, guards_together}
use Rattle.form_commands.proofs.ConditionsFor.{said_orderly}
use Rattle.form_commands.proofs.conditions.said.Goals as goal

pub simplified-requires-clause-formula : goal.simplified-requires-clause-formula
simplified-requires-clause-formula c =
    let theory = context_of c.args.context in
    let g = guards_together (cases_seen c.args.store.now c.args.case_tree.now.cases.items) in
    subst (λ (t : Tree). IsOrderly (IsNormal theory) t) (sym c.in_ok-id.ensures.made.same) (said_orderly theory c.args.case_tree.now.universal g c.requires.orderly)

pub returns-clause-kept : goal.returns-clause-kept
returns-clause-kept c = keeps_then c.args.store.now c.joined.new.store c.simplified.new.store c.joined.ensures.kept c.simplified.ensures.kept
