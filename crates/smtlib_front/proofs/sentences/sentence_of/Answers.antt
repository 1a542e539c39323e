use Rattle.std.proofs.Common.{arith}
use Rattle.formula_store.proofs.Makes.{keeps_then}
use Rattle.smtlib_front.proofs.Under.{under_none, under_one, under_all}
use Rattle.smtlib_front.proofs.sentences.sentence_of.Goals as goal

pub levels-init : goal.levels-init
levels-init c = under_none c.args.store.now c.args.asserted.now c.args.count c.joined.new.store c.in_ok-formula.formula c.in_ok-formula.ensures.made c.joined.ensures.kept

pub make-requires-clause-ids : goal.make-requires-clause-ids
make-requires-clause-ids c = c.levels.invariant.made.is

pub returns-in_err-formula-2-clause-kept : goal.returns-in_err-formula-2-clause-kept
returns-in_err-formula-2-clause-kept c = keeps_then c.args.store.now c.levels.store c.make.new.self c.levels.invariant.keeps c.make.ensures.kept

pub levels-preserved : goal.levels-preserved
levels-preserved c = under_one c.args.store.now c.args.asserted.now c.args.count c.levels.store c.make.new.self c.levels.formula c.in_ok-formula-2.formula c.levels.level c.levels-test.true c.levels.invariant c.in_ok-formula-2.ensures.made c.make.ensures.kept

pub returns-clause-made : goal.returns-clause-made
returns-clause-made c = under_all c.args.store.now c.args.asserted.now c.args.count c.levels.store c.levels.formula c.levels.level (omega (arith, c.levels-test.false)) c.levels.invariant

pub returns-clause-kept : goal.returns-clause-kept
returns-clause-kept c = c.levels.invariant.keeps
