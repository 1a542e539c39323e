use Rattle.std.proofs.Common.{rules}
use Rattle.qe_io.proofs.Joined.{taken_more, front_taken}
use Rattle.qe_io.proofs.write.write_all.Goals as goal

pub returns-in_err-written-clause-front : goal.returns-in_err-written-clause-front
returns-in_err-written-clause-front g c = search (rules, front_taken)

pub loop-written-preserved : goal.loop-written-preserved
loop-written-preserved g c = record {
  within = search rules;
  took = taken_more _ _ _ c.args.bytes.now c.loop-written.written c.in_ok-written.field-0 c.loop-written.invariant.took c.in_ok-written.ensures.bytes;
  no_fault = search rules;
}
