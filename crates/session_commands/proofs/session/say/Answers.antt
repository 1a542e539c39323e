use Rattle.std.proofs.Common.{ap, ap₂, refl, sym, ◌∙◌, subst, map, None}
use Rattle.language_meaning.specs.Trees.{formulas_of}
use Rattle.written_syntax.specs.CodeTrees.{term_tree, formula_tree}
use Rattle.language_meaning.specs.Statements.{Qea, Holds, Sample, Grid, Certify, Check, Least}
use Rattle.written_syntax.specs.Writable.{AreWritableFormulas}
use Rattle.written_syntax.specs.declared.statement.Command.TheVariants as command
use Rattle.written_syntax.specs.ConstraintLists.{AreWeakConstraints}
use Rattle.session_state.specs.Keeping.{state_of}
use Rattle.session_state.specs.Scripted.{answered_tree}
use Rattle.form_commands.specs.Replies.{use_of}
use Rattle.session_commands.specs.Asking.{asked_command, CanAsk}
use Rattle.session_commands.proofs.ItemTrees.{item_trees}
use Rattle.session_commands.proofs.AnswerLemmas.{formula_answered, query_answered, query_given_back, refused_as}
use Rattle.session_commands.proofs.session.say.Goals as goal

-- what each command reads can be written
pub answer_cases-requires-clause-given : goal.answer_cases-requires-clause-given
answer_cases-requires-clause-given g c _ _ =
    let w : CanAsk c.args.state.now (command.Qea c.in-Qea.formula c.in-Qea.given) = subst (CanAsk c.args.state.now) c.in-Qea.is c.requires.ready in
    subst AreWritableFormulas (item_trees _ c.items.result.now c.items.ensures) w.1

pub answer_least-requires-clause-proper : goal.answer_least-requires-clause-proper
answer_least-requires-clause-proper g c _ _ =
    let w : CanAsk c.args.state.now (command.Least c.in-Least.constraints c.in-Least.target) = subst (CanAsk c.args.state.now) c.in-Least.is c.requires.ready in
    subst AreWritableFormulas (item_trees _ c.items-in-Least.result.now c.items-in-Least.ensures) w.0.0

pub answer_least-requires-clause-weak : goal.answer_least-requires-clause-weak
answer_least-requires-clause-weak g c _ _ =
    let w : CanAsk c.args.state.now (command.Least c.in-Least.constraints c.in-Least.target) = subst (CanAsk c.args.state.now) c.in-Least.is c.requires.ready in
    subst AreWeakConstraints (item_trees _ c.items-in-Least.result.now c.items-in-Least.ensures) w.0.1

pub returns-in-Echo-clause-answer : goal.returns-in-Echo-clause-answer
returns-in-Echo-clause-answer g c =
    formula_answered c.answer_form_command.result (asked_command c.args.command.now) (state_of c.args.state.now) (state_of c.answer_form_command.new.state) c.args.workshop.now.limits.nodes c.args.printed c.answer_form_command.ensures.answer

pub returns-in-Holds-clause-answer : goal.returns-in-Holds-clause-answer
returns-in-Holds-clause-answer g c =
    query_answered c.answer_holds.result (Holds (answered_tree c.in-Holds.formula) c.items-in-Holds.result.now) (asked_command c.args.command.now) (state_of c.args.state.now) (state_of c.answer_holds.new.state) c.args.workshop.now.limits.nodes c.args.printed
    (ap asked_command c.in-Holds.is ∙ ap (Holds (answered_tree c.in-Holds.formula)) (sym c.items-in-Holds.ensures)) refl c.answer_holds.ensures.answer c.answer_holds.ensures.next

pub returns-in-Holds-clause-refusal : goal.returns-in-Holds-clause-refusal
returns-in-Holds-clause-refusal g c =
    refused_as c.answer_holds.result (Holds (answered_tree c.in-Holds.formula) c.items-in-Holds.result.now) (asked_command c.args.command.now) (state_of c.args.state.now) c.args.workshop.now.limits.nodes (use_of None c.args.printed)
    (ap asked_command c.in-Holds.is ∙ ap (Holds (answered_tree c.in-Holds.formula)) (sym c.items-in-Holds.ensures)) c.answer_holds.ensures.refused

pub returns-in-Qea-clause-answer : goal.returns-in-Qea-clause-answer
returns-in-Qea-clause-answer g c =
    query_answered c.answer_cases.result (Qea (answered_tree c.in-Qea.formula) (formulas_of (map formula_tree c.items.result.now))) (asked_command c.args.command.now) (state_of c.args.state.now) (state_of c.answer_cases.new.state) c.args.workshop.now.limits.nodes c.args.printed
    (ap asked_command c.in-Qea.is ∙ ap (Qea (answered_tree c.in-Qea.formula)) (item_trees _ c.items.result.now c.items.ensures)) refl c.answer_cases.ensures.answer c.answer_cases.ensures.next

pub returns-in-Qea-clause-refusal : goal.returns-in-Qea-clause-refusal
returns-in-Qea-clause-refusal g c =
    refused_as c.answer_cases.result (Qea (answered_tree c.in-Qea.formula) (formulas_of (map formula_tree c.items.result.now))) (asked_command c.args.command.now) (state_of c.args.state.now) c.args.workshop.now.limits.nodes (use_of None c.args.printed)
    (ap asked_command c.in-Qea.is ∙ ap (Qea (answered_tree c.in-Qea.formula)) (item_trees _ c.items.result.now c.items.ensures)) c.answer_cases.ensures.refused

pub returns-in-Sample-clause-answer : goal.returns-in-Sample-clause-answer
returns-in-Sample-clause-answer g c =
    query_answered c.answer_sample.result (Sample (answered_tree c.in-Sample.formula) c.items-in-Sample.result.now) (asked_command c.args.command.now) (state_of c.args.state.now) (state_of c.answer_sample.new.state) c.args.workshop.now.limits.nodes c.args.printed
    (ap asked_command c.in-Sample.is ∙ ap (Sample (answered_tree c.in-Sample.formula)) (sym c.items-in-Sample.ensures)) refl c.answer_sample.ensures.answer c.answer_sample.ensures.next

pub returns-in-Sample-clause-refusal : goal.returns-in-Sample-clause-refusal
returns-in-Sample-clause-refusal g c =
    refused_as c.answer_sample.result (Sample (answered_tree c.in-Sample.formula) c.items-in-Sample.result.now) (asked_command c.args.command.now) (state_of c.args.state.now) c.args.workshop.now.limits.nodes (use_of None c.args.printed)
    (ap asked_command c.in-Sample.is ∙ ap (Sample (answered_tree c.in-Sample.formula)) (sym c.items-in-Sample.ensures)) c.answer_sample.ensures.refused

pub returns-in-Grid-clause-answer : goal.returns-in-Grid-clause-answer
returns-in-Grid-clause-answer g c =
    query_answered c.answer_grid.result (Grid (answered_tree c.in-Grid.formula) c.items-in-Grid.result.now) (asked_command c.args.command.now) (state_of c.args.state.now) (state_of c.answer_grid.new.state) c.args.workshop.now.limits.nodes c.args.printed
    (ap asked_command c.in-Grid.is ∙ ap (Grid (answered_tree c.in-Grid.formula)) (sym c.items-in-Grid.ensures)) refl c.answer_grid.ensures.answer c.answer_grid.ensures.next

pub returns-in-Grid-clause-refusal : goal.returns-in-Grid-clause-refusal
returns-in-Grid-clause-refusal g c =
    refused_as c.answer_grid.result (Grid (answered_tree c.in-Grid.formula) c.items-in-Grid.result.now) (asked_command c.args.command.now) (state_of c.args.state.now) c.args.workshop.now.limits.nodes (use_of None c.args.printed)
    (ap asked_command c.in-Grid.is ∙ ap (Grid (answered_tree c.in-Grid.formula)) (sym c.items-in-Grid.ensures)) c.answer_grid.ensures.refused

pub returns-in-Certify-clause-answer : goal.returns-in-Certify-clause-answer
returns-in-Certify-clause-answer g c =
    query_answered c.answer_certificate.result (Certify (formulas_of (map formula_tree c.items-in-Certify.result.now))) (asked_command c.args.command.now) (state_of c.args.state.now) (state_of c.answer_certificate.new.state) c.args.workshop.now.limits.nodes c.args.printed
    (ap asked_command c.in-Certify.is ∙ ap Certify (item_trees _ c.items-in-Certify.result.now c.items-in-Certify.ensures)) refl c.answer_certificate.ensures.answer c.answer_certificate.ensures.next

pub returns-in-Certify-clause-refusal : goal.returns-in-Certify-clause-refusal
returns-in-Certify-clause-refusal g c =
    refused_as c.answer_certificate.result (Certify (formulas_of (map formula_tree c.items-in-Certify.result.now))) (asked_command c.args.command.now) (state_of c.args.state.now) c.args.workshop.now.limits.nodes (use_of None c.args.printed)
    (ap asked_command c.in-Certify.is ∙ ap Certify (item_trees _ c.items-in-Certify.result.now c.items-in-Certify.ensures)) c.answer_certificate.ensures.refused

pub returns-in-Check-clause-answer : goal.returns-in-Check-clause-answer
returns-in-Check-clause-answer g c =
    query_answered c.answer_check.result (Check (formulas_of (map formula_tree c.items-in-Check.result.now)) c.items-in-Check-2.result.now) (asked_command c.args.command.now) (state_of c.args.state.now) (state_of c.answer_check.new.state) c.args.workshop.now.limits.nodes c.args.printed
    (ap asked_command c.in-Check.is ∙ ap₂ Check (item_trees _ c.items-in-Check.result.now c.items-in-Check.ensures) (sym c.items-in-Check-2.ensures)) refl c.answer_check.ensures.answer c.answer_check.ensures.next

pub returns-in-Check-clause-refusal : goal.returns-in-Check-clause-refusal
returns-in-Check-clause-refusal g c =
    refused_as c.answer_check.result (Check (formulas_of (map formula_tree c.items-in-Check.result.now)) c.items-in-Check-2.result.now) (asked_command c.args.command.now) (state_of c.args.state.now) c.args.workshop.now.limits.nodes (use_of None c.args.printed)
    (ap asked_command c.in-Check.is ∙ ap₂ Check (item_trees _ c.items-in-Check.result.now c.items-in-Check.ensures) (sym c.items-in-Check-2.ensures)) c.answer_check.ensures.refused

pub returns-in-Least-clause-answer : goal.returns-in-Least-clause-answer
returns-in-Least-clause-answer g c =
    query_given_back c.answer_least.result (Least (formulas_of (map formula_tree c.items-in-Least.result.now)) (term_tree c.in-Least.target)) (asked_command c.args.command.now) (state_of c.args.state.now) (state_of c.answer_least.new.state) c.args.workshop.now.limits.nodes c.args.printed
    (ap asked_command c.in-Least.is ∙ ap (λ fs. Least fs (term_tree c.in-Least.target)) (item_trees _ c.items-in-Least.result.now c.items-in-Least.ensures)) c.answer_least.ensures.given_back c.answer_least.ensures.answer c.answer_least.ensures.next

pub returns-in-Least-clause-refusal : goal.returns-in-Least-clause-refusal
returns-in-Least-clause-refusal g c =
    refused_as c.answer_least.result (Least (formulas_of (map formula_tree c.items-in-Least.result.now)) (term_tree c.in-Least.target)) (asked_command c.args.command.now) (state_of c.args.state.now) c.args.workshop.now.limits.nodes (use_of None c.args.printed)
    (ap asked_command c.in-Least.is ∙ ap (λ fs. Least fs (term_tree c.in-Least.target)) (item_trees _ c.items-in-Least.result.now c.items-in-Least.ensures)) c.answer_least.ensures.refused
