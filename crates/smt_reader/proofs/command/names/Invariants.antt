use Rattle.std.proofs.Common.{drop}
use Rattle.smt_language.specs.SpelledShapes.{name_at}
use Rattle.smt_reader.proofs.Lists.{IsReadTo}
use Rattle.smt_reader.proofs.command.names.Given as goal

abbrev pub invariant-parts : goal.invariant-parts
invariant-parts l = IsReadTo name_at l.parts l.list.items (drop l.part-index l.parts)
