use Rattle.std.proofs.Common.{◌+◌, subst, drop}
use Rattle.written_syntax.proofs.EntryLists.{none_left}
use Rattle.smt_resolver.specs.declared.sized.Sized.TheVariants.{Within, TooLarge}
use Rattle.smt_resolver.proofs.Lists.{item_at}
use Rattle.smt_resolver.proofs.TermLaws.{SumState, sum_large, sum_passes, sum_step, sum_done}
use Rattle.smt_resolver.proofs.terms.sum.Goals as goal

pub returns-in_default-term : goal.returns-in_default-term
returns-in_default-term c = λ d ts h.
    let i = c.loop-term.term-index in let vs = c.args.terms.now in
    let e = item_at vs i c.term-item.result TooLarge c.loop-term-test.true c.term-item.is c.in_default-term.is in
    sum_large d c.args.limit ts (drop (i + 1) vs) c.loop-term.nodes c.loop-term.total (subst (λ xs. SumState d c.args.limit ts xs c.loop-term.nodes c.loop-term.total) e (c.loop-term.invariant.state d ts h))

pub returns-in_default-counted : goal.returns-in_default-counted
returns-in_default-counted c = λ d ts h.
    let i = c.loop-term.term-index in let vs = c.args.terms.now in
    let e = item_at vs i c.term-item.result (Within c.in-Within.more c.in-Within.read) c.loop-term-test.true c.term-item.is c.in-Within.is in
    sum_passes d c.args.limit ts (drop (i + 1) vs) c.loop-term.nodes c.in-Within.more c.loop-term.total c.in-Within.read (subst (λ xs. SumState d c.args.limit ts xs c.loop-term.nodes c.loop-term.total) e (c.loop-term.invariant.state d ts h)) c.in_default-counted.ensures

pub loop-term-preserved : goal.loop-term-preserved
loop-term-preserved c = record {
  state = λ d ts h.
      let i = c.loop-term.term-index in let vs = c.args.terms.now in
      let e = item_at vs i c.term-item.result (Within c.in-Within.more c.in-Within.read) c.loop-term-test.true c.term-item.is c.in-Within.is in
      sum_step d c.args.limit ts (drop (i + 1) vs) c.loop-term.nodes c.in-Some-counted.next c.in-Within.more c.loop-term.total c.in_ok-total.total c.in-Within.read (subst (λ xs. SumState d c.args.limit ts xs c.loop-term.nodes c.loop-term.total) e (c.loop-term.invariant.state d ts h)) c.in-Some-counted.ensures.0 c.in_ok-total.ensures;
  within = c.in-Some-counted.ensures.1;
}

pub returns : goal.returns
returns c = λ d ts h.
    let e = none_left c.args.terms.now c.loop-term.term-index c.loop-term-test.false in
    sum_done d c.args.limit ts c.loop-term.nodes c.loop-term.total c.in_ok-read.read (subst (λ xs. SumState d c.args.limit ts xs c.loop-term.nodes c.loop-term.total) e (c.loop-term.invariant.state d ts h)) c.loop-term.invariant.within c.in_ok-read.ensures
