use Rattle.std.proofs.Common.{◌≡◌, Some, None, ap, arith, rules, sym, subst}
use Rattle.redlog_tokens.specs.declared.ahead.Ahead.TheVariants.{Terminal}
use Rattle.redlog_tokens.specs.Ahead.{size_ahead}
use Rattle.redlog_tokens.proofs.AheadLemmas.{HaveCome, none_come, space_comes, token_comes, bad_token_comes, all_come, come_within}
use Rattle.redlog_tokens.proofs.ahead.terminals.Goals as goal

pub fronts-init : goal.fronts-init
fronts-init c = (omega arith, subst (HaveCome c.args.bytes.now 0) (sym c.new-list.ensures.items) (none_come c.args.bytes.now))

pub fronts-preserved-in-Space : goal.fronts-preserved-in-Space
fronts-preserved-in-Space c = (
  come_within c.args.bytes.now c.fronts.from c.in-Space.length c.in-Some.ahead c.fronts.invariant.0 c.in-Some.ensures.within (ap size_ahead c.in-Space.is),
  space_comes c.args.bytes.now c.fronts.from c.in-Space.length c.fronts.list.items c.in-Some.ahead c.in-Some.ensures.ahead c.fronts.invariant.1 c.in-Space.is,
)

pub fronts-preserved : goal.fronts-preserved
fronts-preserved c =
    let at = c.in-Terminal-Some-default in
    let is : c.in-Some.ahead ≡ Terminal (Some at.terminal) at.length = search rules in (
      come_within c.args.bytes.now c.fronts.from at.length c.in-Some.ahead c.fronts.invariant.0 c.in-Some.ensures.within (ap size_ahead is),
      token_comes c.args.bytes.now c.fronts.from at.length c.fronts.list.items c.in-Some.ahead c.in-Some.ensures.ahead c.fronts.invariant.1 is c.in_ok-push-in-Terminal-Some-default.ensures.items,
    )

pub returns-in-Terminal-None-default-clause-lexical : goal.returns-in-Terminal-None-default-clause-lexical
returns-in-Terminal-None-default-clause-lexical c =
    let at = c.in-Terminal-None-default in
    bad_token_comes c.args.bytes.now c.fronts.from at.field-1 c.fronts.list.items c.in-Some.ahead c.in-Some.ensures.ahead c.fronts.invariant.1 (let is : c.in-Some.ahead ≡ Terminal None at.field-1 = search rules in is)

pub returns-clause-terminals : goal.returns-clause-terminals
returns-clause-terminals c = all_come c.args.bytes.now c.fronts.from c.fronts.list.items c.fronts.invariant.1 c.in_default.ensures.ahead
