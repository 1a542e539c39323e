use Rattle.std.proofs.Common.{arith, rules, refl}
use Rattle.written_syntax.proofs.Quantified.{unquantified}
use Rattle.formula_resolving.proofs.Numbered.{grows_then}
use Rattle.formula_resolving.proofs.Sizes.{member_below, not_size, quantified_size, pair_size, members_size, computed_size, alone_size, under_size, own_size}
use Rattle.formula_resolving.proofs.Texts.{goes_under, grows_to, goes_on_more, constant_numbered, name_numbered, compared_numbered, no_quantifier, not_numbered, pair_numbered, members_numbered, computed_numbered, command_numbered, under_numbered, ok_map}
use Rattle.formula_resolving.proofs.text.+texts.Goals as goal

-- ---- each call is about something smaller

pub number_command-number_whole-requires : goal.number_command-number_whole-requires
number_command-number_whole-requires g t c = λ κs h. ((let k = own_size _ _ _ c.in-Simpl.is in omega arith), search rules)

pub number_command-number_members-requires : goal.number_command-number_members-requires
number_command-number_members-requires g t c = λ κs h. ((let k = under_size _ _ _ _ c.items.ensures c.in-Simpl.is in omega arith), search rules)

pub number_command-number_whole-requires-in-Nnf : goal.number_command-number_whole-requires-in-Nnf
number_command-number_whole-requires-in-Nnf g t c = λ κs h. ((let k = alone_size _ _ c.in-Nnf.is in omega arith), search rules)

pub number_matrix-number_whole-requires : goal.number_matrix-number_whole-requires
number_matrix-number_whole-requires g t c = λ κs h. ((let k = not_size _ _ _ c.deref.ensures c.in-Not.is in omega arith), search rules)

pub number_matrix-number_command-requires : goal.number_matrix-number_command-requires
number_matrix-number_command-requires g t c = λ κs h. ((let k = computed_size _ _ _ c.in-Computed.is c.deref-in-Computed.ensures in omega arith), search rules)

pub number_matrix-number_members-requires : goal.number_matrix-number_members-requires
number_matrix-number_members-requires g t c = λ κs h. ((let k = members_size _ _ _ c.items.ensures c.in-And.is in omega arith), search rules)

pub number_matrix-number_whole-requires-in-Impl : goal.number_matrix-number_whole-requires-in-Impl
number_matrix-number_whole-requires-in-Impl g t c = λ κs h. ((let k = pair_size _ _ _ _ _ c.deref-in-Impl.ensures refl c.in-Impl.is in omega arith), search rules)

pub number_matrix-number_whole-requires-in-Impl-2 : goal.number_matrix-number_whole-requires-in-Impl-2
number_matrix-number_whole-requires-in-Impl-2 g t c = λ κs h. ((let k = pair_size _ _ _ _ _ c.deref-in-Impl.ensures c.deref-in-Impl-2.ensures c.in-Impl.is in omega arith), search rules)

pub number_members-number_whole-requires : goal.number_members-number_whole-requires
number_members-number_whole-requires g t c = λ κs h. ((let k = member_below _ _ _ c.formula-item.is c.loop-formula-test.true in omega arith), search rules)

pub number_whole-number_matrix-requires : goal.number_whole-number_matrix-requires
number_whole-number_matrix-requires g t c = λ κs h. ((let k = c.prefix.invariant.smaller in omega arith), (search rules, unquantified _ c.in_default.not-Ex c.in_default.not-All))

pub number_matrix-unreachable-requires : goal.number_matrix-unreachable-requires
number_matrix-unreachable-requires g t c = no_quantifier _ c.requires c.in-Ex.is

-- ---- what is numbered

pub number_whole-prefix-preserved : goal.number_whole-prefix-preserved
number_whole-prefix-preserved g t c = record {
  left = goes_under _ _ _ _ _ _ _ _ c.prefix.invariant.left c.in-Ex.is c.deref-rest.ensures c.in_ok-number.ensures.names;
  grown = grows_to _ _ _ _ c.prefix.invariant.grown c.in_ok-number.ensures.names;
  smaller = let k = quantified_size _ _ _ c.deref-rest.ensures _ c.in-Ex.is in omega (arith, c.prefix.invariant.smaller);
}

pub number_members-loop-formula-preserved : goal.number_members-loop-formula-preserved
number_members-loop-formula-preserved g t c = record {
  left = goes_on_more _ _ _ _ _ _ c.loop-formula.invariant.left c.formula-item.is c.loop-formula-test.true c.in_ok-number_whole.ensures.numbered;
  grown = grows_then _ _ _ c.loop-formula.invariant.grown c.number_whole.ensures.grown;
}

pub number_command-returns-in_ok-number_whole-in-Simpl-clause-numbered : goal.number_command-returns-in_ok-number_whole-in-Simpl-clause-numbered
number_command-returns-in_ok-number_whole-in-Simpl-clause-numbered g t c =
    ok_map c.number_members.result (λ n. under_numbered _ _ _ _ _ _ _ c.in-Simpl.is c.items.ensures c.in_ok-number_whole-in-Simpl.ensures.numbered n) c.number_members.ensures.numbered

pub number_command-returns-in-Nnf-clause-numbered : goal.number_command-returns-in-Nnf-clause-numbered
number_command-returns-in-Nnf-clause-numbered g t c = ok_map c.number_whole-in-Nnf.result (λ n. command_numbered _ _ _ _ c.in-Nnf.is n) c.number_whole-in-Nnf.ensures.numbered

pub number_matrix-returns-in_ok-number_formula-in-Compare-clause-numbered : goal.number_matrix-returns-in_ok-number_formula-in-Compare-clause-numbered
number_matrix-returns-in_ok-number_formula-in-Compare-clause-numbered g t c = compared_numbered _ _ _ c.in-Compare.is c.in_ok-number_formula-in-Compare.ensures.numbered.names

pub number_matrix-returns-in-True-clause-numbered : goal.number_matrix-returns-in-True-clause-numbered
number_matrix-returns-in-True-clause-numbered g t c = constant_numbered _ _ c.in-True.is

pub number_matrix-returns-in-True-2-clause-numbered : goal.number_matrix-returns-in-True-2-clause-numbered
number_matrix-returns-in-True-2-clause-numbered g t c = constant_numbered _ _ c.in-True.is

pub number_matrix-returns-in-Named-clause-numbered : goal.number_matrix-returns-in-Named-clause-numbered
number_matrix-returns-in-Named-clause-numbered g t c = name_numbered _ _ _ c.in-Named.is (let i = c.in-Named.name in search rules)

pub number_matrix-returns-in-Not-clause-numbered : goal.number_matrix-returns-in-Not-clause-numbered
number_matrix-returns-in-Not-clause-numbered g t c = ok_map c.number_whole.result (λ n. not_numbered _ _ _ _ _ c.in-Not.is c.deref.ensures n) c.number_whole.ensures.numbered

pub number_matrix-returns-in-Computed-clause-numbered : goal.number_matrix-returns-in-Computed-clause-numbered
number_matrix-returns-in-Computed-clause-numbered g t c = ok_map c.number_command.result (λ n. computed_numbered _ _ _ _ _ c.in-Computed.is c.deref-in-Computed.ensures n) c.number_command.ensures.numbered

pub number_matrix-returns-in-And-clause-numbered : goal.number_matrix-returns-in-And-clause-numbered
number_matrix-returns-in-And-clause-numbered g t c = ok_map c.number_members.result (λ n. members_numbered _ _ _ _ _ c.in-And.is c.items.ensures n) c.number_members.ensures.numbered

pub number_matrix-returns-in_ok-number_whole-in-Impl-clause-numbered : goal.number_matrix-returns-in_ok-number_whole-in-Impl-clause-numbered
number_matrix-returns-in_ok-number_whole-in-Impl-clause-numbered g t c =
    ok_map c.number_whole-in-Impl-2.result (λ n. pair_numbered _ _ _ _ _ _ _ _ c.in-Impl.is c.deref-in-Impl.ensures c.deref-in-Impl-2.ensures c.in_ok-number_whole-in-Impl.ensures.numbered n) c.number_whole-in-Impl-2.ensures.numbered
