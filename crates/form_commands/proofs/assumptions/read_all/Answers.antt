use Rattle.std.proofs.Common.{◌≡◌, sym, subst, rules, map, Err}
use Rattle.std.specs.Prelude.{IfErr}
use Rattle.language_meaning.specs.Trees.{formulas_of}
use Rattle.written_syntax.specs.CodeTrees.{formula_tree}
use Rattle.session_state.specs.Keeping.{state_of}
use Rattle.form_commands.specs.Reading.{HasNumbers, AreUnread, FirstAmong, AppliesToSome}
use Rattle.form_commands.proofs.PartLemmas.{each_given}
use Rattle.form_commands.proofs.AssumptionLemmas.{all_unread, memory_unread, all_readable}
use Rattle.form_commands.proofs.assumptions.read_all.Goals as goal

pub read_given-requires-clause-numbered : goal.read_given-requires-clause-numbered
read_given-requires-clause-numbered c = each_given (HasNumbers c.args.state.now.names) c.args.given.now c.requires.numbered

pub returns-in-None-clause-read : goal.returns-in-None-clause-read
returns-in-None-clause-read c = record {
  made = search rules;
  readable = all_readable (state_of c.args.state.now) c.args.given.now (subst (FirstAmong (AppliesToSome (state_of c.args.state.now) c.args.given.now)) c.in-None.is c.in_ok-read_given.ensures.first);
}

pub returns-in-Some-clause-unread : goal.returns-in-Some-clause-unread
returns-in-Some-clause-unread c =
    let there = subst (FirstAmong (AppliesToSome (state_of c.args.state.now) c.args.given.now)) c.in-Some.is c.in_ok-read_given.ensures.first in
    (c.in-Some.error, c.static_refusal.ensures, all_unread (state_of c.args.state.now) c.args.given.now c.in-Some.error there)

pub returns-in_err-read_given-clause-unread : goal.returns-in_err-read_given-clause-unread
returns-in_err-read_given-clause-unread c =
    let e : c.from_residual.result ≡ Err c.in_err-read_given.field-0.0 = search rules in
    let s = state_of c.args.state.now in
    let gs = formulas_of (map formula_tree c.args.given.now) in
    subst (λ r. IfErr r (AreUnread s gs)) (sym e) (memory_unread s gs c.in_err-read_given.field-0.0 c.in_err-read_given.ensures.memory)
