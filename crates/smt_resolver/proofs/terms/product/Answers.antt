use Rattle.std.proofs.Common.{◌+◌, subst, drop}
use Rattle.written_syntax.proofs.EntryLists.{none_left}
use Rattle.smt_resolver.specs.declared.sized.Sized.TheVariants.{Within, TooLarge}
use Rattle.smt_resolver.proofs.Lists.{item_at}
use Rattle.smt_resolver.proofs.TermLaws.{ProductState, product_state, product_large, product_passes, product_step, product_done}
use Rattle.smt_resolver.proofs.terms.product.Goals as goal

pub loop-term-init : goal.loop-term-init
loop-term-init c = record {
  state = λ d ts h. product_state d c.args.limit ts c.args.terms.now c.in-Some.nodes c.literal-total.result h c.in-Some.ensures.0 (c.literal-total.ensures d);
  within = c.in-Some.ensures.1;
}

pub returns-in_default-term : goal.returns-in_default-term
returns-in_default-term c = λ d ts h.
    let i = c.loop-term.term-index in let vs = c.args.terms.now in
    let e = item_at vs i c.term-item.result TooLarge c.loop-term-test.true c.term-item.is c.in_default-term.is in
    product_large d c.args.limit ts (drop (i + 1) vs) c.loop-term.nodes c.loop-term.total (subst (λ xs. ProductState d c.args.limit ts xs c.loop-term.nodes c.loop-term.total) e (c.loop-term.invariant.state d ts h))

pub returns-in_default-counted : goal.returns-in_default-counted
returns-in_default-counted c = λ d ts h.
    let i = c.loop-term.term-index in let vs = c.args.terms.now in
    let e = item_at vs i c.term-item.result (Within c.in-Within.more c.in-Within.read) c.loop-term-test.true c.term-item.is c.in-Within.is in
    product_passes d c.args.limit ts (drop (i + 1) vs) c.loop-term.nodes c.in-Within.more c.loop-term.total c.in-Within.read (subst (λ xs. ProductState d c.args.limit ts xs c.loop-term.nodes c.loop-term.total) e (c.loop-term.invariant.state d ts h)) c.in_default-counted.ensures

pub loop-term-preserved : goal.loop-term-preserved
loop-term-preserved c = record {
  state = λ d ts h.
      let i = c.loop-term.term-index in let vs = c.args.terms.now in
      let e = item_at vs i c.term-item.result (Within c.in-Within.more c.in-Within.read) c.loop-term-test.true c.term-item.is c.in-Within.is in
      product_step d c.args.limit ts (drop (i + 1) vs) c.loop-term.nodes c.in-Some-counted.next c.in-Within.more c.loop-term.total c.in_ok-total.total c.in-Within.read (subst (λ xs. ProductState d c.args.limit ts xs c.loop-term.nodes c.loop-term.total) e (c.loop-term.invariant.state d ts h)) c.in-Some-counted.ensures.0 c.in_ok-total.ensures;
  within = c.in-Some-counted.ensures.1;
}

pub returns : goal.returns
returns c = λ d ts h.
    let e = none_left c.args.terms.now c.loop-term.term-index c.loop-term-test.false in
    product_done d c.args.limit ts c.loop-term.nodes c.loop-term.total (subst (λ xs. ProductState d c.args.limit ts xs c.loop-term.nodes c.loop-term.total) e (c.loop-term.invariant.state d ts h)) c.loop-term.invariant.within
