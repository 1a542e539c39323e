use Rattle.std.proofs.Common.{◌∙◌, arith, rules}
use Rattle.written_syntax.proofs.TreeEquations.{wholes}
use Rattle.formula_resolving.proofs.Gathering.{gathered_then, member_gathered, both_fit, ok_there, as_inside, ok_as, nothing_there, leaf_inside, chain_inside, pair_inside, members_inside, computed_inside, alone_inside, under_inside}
use Rattle.formula_resolving.proofs.Sizes.{member_below, chain_size, pair_size, members_size, computed_size, alone_size, under_size, own_size}
use Rattle.formula_resolving.proofs.order.+gathering.Goals as goal

pub gather-gather_command-requires : goal.gather-gather_command-requires
gather-gather_command-requires t c = ((let k = computed_size _ _ _ c.in-Computed.is c.deref.ensures in omega (arith, c.chain.invariant.smaller)), tt)

pub gather-returns-in-Computed : goal.gather-returns-in-Computed
gather-returns-in-Computed t c =
    ok_there _ _ _ _ _ _ c.gather_command.result c.chain.invariant.same c.chain.invariant.kept (computed_inside _ _ _ c.in-Computed.is c.deref.ensures) c.gather_command.ensures

pub gather-gather_both-requires : goal.gather-gather_both-requires
gather-gather_both-requires t c = ((let k = pair_size _ _ _ _ _ c.deref-in-Impl.ensures c.deref-in-Impl-2.ensures c.in-Impl.is in omega (arith, c.chain.invariant.smaller)), tt)

pub gather-returns-in-Impl : goal.gather-returns-in-Impl
gather-returns-in-Impl t c =
    ok_there _ _ _ _ _ _ c.gather_both.result c.chain.invariant.same c.chain.invariant.kept (pair_inside _ _ _ _ _ c.in-Impl.is c.deref-in-Impl.ensures c.deref-in-Impl-2.ensures) c.gather_both.ensures

pub gather-gather_all-requires : goal.gather-gather_all-requires
gather-gather_all-requires t c = ((let k = members_size _ _ _ c.items.ensures c.in-And.is in omega (arith, c.chain.invariant.smaller)), tt)

pub gather-returns-in-And : goal.gather-returns-in-And
gather-returns-in-And t c =
    ok_there _ _ _ _ _ _ c.gather_all.result c.chain.invariant.same c.chain.invariant.kept (members_inside _ _ _ c.in-And.is c.items.ensures) c.gather_all.ensures

pub gather-chain-preserved : goal.gather-chain-preserved
gather-chain-preserved t c = record {
  same = chain_inside _ _ _ c.deref-rest.ensures c.in-Not.is ∙ c.chain.invariant.same;
  kept = c.chain.invariant.kept;
  smaller = let k = chain_size _ _ _ c.deref-rest.ensures c.in-Not.is in omega (arith, c.chain.invariant.smaller);
}

pub gather-returns-in-True : goal.gather-returns-in-True
gather-returns-in-True t c = nothing_there _ _ _ _ c.chain.invariant.same c.chain.invariant.kept (leaf_inside _ c.in-True.is)

pub gather-returns-in-Compare : goal.gather-returns-in-Compare
gather-returns-in-Compare t c = nothing_there _ _ _ _ c.chain.invariant.same c.chain.invariant.kept (let k = c.in-Compare.is in grind (arith, wholes))

pub gather_all-gather-requires : goal.gather_all-gather-requires
gather_all-gather-requires t c = ((let k = member_below _ _ _ c.formula-item.is c.loop-formula-test.true in omega arith), tt)

pub gather_all-overflow_add-count : goal.gather_all-overflow_add-count
gather_all-overflow_add-count t c = let k = both_fit _ _ _ _ _ _ _ c.loop-formula.invariant c.in_ok-count.ensures in search rules

pub gather_all-loop-formula-preserved : goal.gather_all-loop-formula-preserved
gather_all-loop-formula-preserved t c = member_gathered _ _ _ _ _ _ _ _ c.formula-item.is c.loop-formula-test.true c.loop-formula.invariant c.in_ok-count.ensures

pub gather_both-overflow_add-result : goal.gather_both-overflow_add-result
gather_both-overflow_add-result t c = let k = both_fit _ _ _ _ _ _ _ c.in_ok-first.ensures c.in_ok-second.ensures in search rules

pub gather_both-returns : goal.gather_both-returns
gather_both-returns t c = gathered_then _ _ _ _ _ _ _ c.in_ok-first.ensures c.in_ok-second.ensures

pub gather_inside-gather-requires : goal.gather_inside-gather-requires
gather_inside-gather-requires t c = ((let k = own_size _ _ _ c.in-Simpl.is in omega arith), tt)

pub gather_inside-gather_all-requires : goal.gather_inside-gather_all-requires
gather_inside-gather_all-requires t c = ((let k = under_size _ _ _ _ c.items.ensures c.in-Simpl.is in omega arith), tt)

pub gather_inside-gather-requires-in-Nnf : goal.gather_inside-gather-requires-in-Nnf
gather_inside-gather-requires-in-Nnf t c = ((let k = alone_size _ _ c.in-Nnf.is in omega arith), tt)

pub gather_inside-overflow_add-result : goal.gather_inside-overflow_add-result
gather_inside-overflow_add-result t c = let k = both_fit _ _ _ _ _ _ _ c.in_ok-own-in-Simpl.ensures c.in_ok-more-in-Simpl.ensures in search rules

pub gather_inside-returns-in_ok-more-in-Simpl : goal.gather_inside-returns-in_ok-more-in-Simpl
gather_inside-returns-in_ok-more-in-Simpl t c =
    as_inside _ _ _ _ _ (under_inside _ _ _ _ c.in-Simpl.is c.items.ensures) (gathered_then _ _ _ _ _ _ _ c.in_ok-own-in-Simpl.ensures c.in_ok-more-in-Simpl.ensures)

pub gather_inside-returns-in-Nnf : goal.gather_inside-returns-in-Nnf
gather_inside-returns-in-Nnf t c = ok_as _ _ _ _ c.gather-in-Nnf.result (alone_inside _ _ c.in-Nnf.is) c.gather-in-Nnf.ensures

pub gather-returns-in-True-2 : goal.gather-returns-in-True-2
gather-returns-in-True-2 t c = nothing_there _ _ _ _ c.chain.invariant.same c.chain.invariant.kept (leaf_inside _ c.in-True.is)

pub gather-returns-in-Compare-2 : goal.gather-returns-in-Compare-2
gather-returns-in-Compare-2 t c = nothing_there _ _ _ _ c.chain.invariant.same c.chain.invariant.kept (let k = c.in-Compare.is in grind (arith, wholes))

pub gather-returns-in-True-3 : goal.gather-returns-in-True-3
gather-returns-in-True-3 t c = nothing_there _ _ _ _ c.chain.invariant.same c.chain.invariant.kept (leaf_inside _ c.in-True.is)

pub gather-returns-in-Compare-3 : goal.gather-returns-in-Compare-3
gather-returns-in-Compare-3 t c = nothing_there _ _ _ _ c.chain.invariant.same c.chain.invariant.kept (let k = c.in-Compare.is in grind (arith, wholes))
