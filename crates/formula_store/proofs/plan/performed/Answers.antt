use Rattle.std.proofs.Common.{subst}
use Rattle.formula_store.specs.Nodes.{IsId}
use Rattle.formula_store.specs.declared.plan.Plan.{Plan}
use Rattle.formula_store.specs.Plans.{AllPlanned}
use Rattle.formula_store.proofs.Makes.{keeps_then}
use Rattle.formula_store.proofs.Kept.{front_then}
use Rattle.formula_store.proofs.plan.performed.Goals as goal

pub returns-in_err-second-in-Cases-clause-kept : goal.returns-in_err-second-in-Cases-clause-kept
returns-in_err-second-in-Cases-clause-kept c = keeps_then c.args.store.now c.made_both.new.store c.made_both-in-Cases.new.store c.made_both.ensures.kept c.made_both-in-Cases.ensures.kept

pub returns-in_ok-second-in-Cases-clause-kept : goal.returns-in_ok-second-in-Cases-clause-kept
returns-in_ok-second-in-Cases-clause-kept c =
    keeps_then c.args.store.now c.made_both.new.store c.made_both-in-Cases-2.new.store c.made_both.ensures.kept
    (keeps_then c.made_both.new.store c.made_both-in-Cases.new.store c.made_both-in-Cases-2.new.store c.made_both-in-Cases.ensures.kept c.made_both-in-Cases-2.ensures.kept)

pub made_both-requires-in-Cases-clause-first : goal.made_both-requires-in-Cases-clause-first
made_both-requires-in-Cases-clause-first c =
    c.made_both.ensures.kept.is c.in-Cases.c (subst (λ (p : Plan). AllPlanned (IsId c.args.store.now) p) c.in-Cases.is c.requires.ids).2

pub made_both-requires-in-Cases-clause-second : goal.made_both-requires-in-Cases-clause-second
made_both-requires-in-Cases-clause-second c =
    c.made_both.ensures.kept.is c.in-Cases.d (subst (λ (p : Plan). AllPlanned (IsId c.args.store.now) p) c.in-Cases.is c.requires.ids).3

pub made_both-requires-in-Cases-2-clause-first : goal.made_both-requires-in-Cases-2-clause-first
made_both-requires-in-Cases-2-clause-first c = c.made_both-in-Cases.ensures.kept.is c.in_ok-first-in-Cases.first c.in_ok-first-in-Cases.ensures.made.is

pub returns-in_ok-second-in-Cases-clause-front : goal.returns-in_ok-second-in-Cases-clause-front
returns-in_ok-second-in-Cases-clause-front c =
    front_then c.args.store.now c.made_both.new.store c.made_both-in-Cases-2.new.store c.made_both.ensures.front
    (front_then c.made_both.new.store c.made_both-in-Cases.new.store c.made_both-in-Cases-2.new.store c.made_both-in-Cases.ensures.front c.made_both-in-Cases-2.ensures.front)
