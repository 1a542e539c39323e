use Rattle.std.proofs.Common.{◌∙◌}
use Rattle.formula_store.proofs.Makes.{keeps_then}
use Rattle.formula_store.proofs.Kept.{members_stay}
use Rattle.formula_store.proofs.negation.node_forms.Goals as goal

pub node_form-requires-clause-members : goal.node_form-requires-clause-members
node_form-requires-clause-members c = members_stay c.args.store.now c.plain_form.new.store c.plain_form.ensures.kept c.plain_form.ensures.front c.args.table.now c.args.id c.requires.id c.requires.members

pub returns-in_err-negated-clause-kept : goal.returns-in_err-negated-clause-kept
returns-in_err-negated-clause-kept c = keeps_then c.args.store.now c.plain_form.new.store c.node_form.new.store c.plain_form.ensures.kept c.node_form.ensures.kept

pub returns-clause-kept : goal.returns-clause-kept
returns-clause-kept c = keeps_then c.args.store.now c.plain_form.new.store c.node_form.new.store c.plain_form.ensures.kept c.node_form.ensures.kept

pub returns-clause-plain : goal.returns-clause-plain
returns-clause-plain c =
    let made = c.in_ok-plain.ensures.made in
    let kept = c.node_form.ensures.kept in
    record { is = kept.is c.in_ok-plain.plain made.is; same = kept.same c.in_ok-plain.plain made.is ∙ made.same }
