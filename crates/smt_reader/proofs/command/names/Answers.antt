use Rattle.std.proofs.Common.{arith, sym, ◌∙◌}
use Rattle.smt_language.specs.SpelledShapes.{name_at}
use Rattle.smt_reader.proofs.Lists.{read_start, read_more, read_fails, read_end}
use Rattle.smt_reader.proofs.command.names.Goals as goal

pub parts-init : goal.parts-init
parts-init c = read_start name_at _ _ c.new-list.ensures.items

pub returns-in_default-clause-refused : goal.returns-in_default-clause-refused
returns-in_default-clause-refused c = read_fails name_at _ _ _ _ c.parts-test.true c.part-item.is c.parts.invariant (sym c.name.ensures ∙ c.in_default.is)

pub parts-preserved : goal.parts-preserved
parts-preserved c = read_more name_at _ _ _ _ _ _ c.parts-test.true c.part-item.is c.parts.invariant (sym c.name.ensures ∙ c.in-Some.is) c.in_ok-push.ensures.items

pub returns-clause-read : goal.returns-clause-read
returns-clause-read c = read_end name_at _ _ _ (omega arith) c.parts.invariant
