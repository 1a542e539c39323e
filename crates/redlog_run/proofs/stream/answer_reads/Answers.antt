use Rattle.std.proofs.Common.{rules, ◌≡◌, ◌+◌, ◌≤◌, Ok, Err, false, length, take, drop, sym, ap, ◌∙◌, subst, arith}
use Rattle.std.proofs.lemmas.Result.{err_from_is_err_and}
use Rattle.program_meaning.specs.Streams.{Gave, IsAtEnd, Rose}
use Rattle.qe_io.specs.declared.stop.StreamStop.TheVariants as streams
use Rattle.program_meaning.specs.Ends.{ends}
use Rattle.qe_io.specs.Stops.{AnswerCause}
use Rattle.redlog_run.specs.Script.{AnswersBytes, stream_status}
use Rattle.redlog_run.specs.Steps.{ClaimOfSource}
use Rattle.redlog_run.proofs.Claims.{Reading, IsFew, length_few, gave_parts, gave_end, within_few, one_read_few, reading_more, full_few, some_ahead, unread_claim, whole_claim, last_claim, ended_claim, stopped_claim, past_claim}
use Rattle.redlog_run.proofs.stream.answer_reads.Goals as goal

pub returns-in_default : goal.returns-in_default
returns-in_default g c =
    let source = g.S.Source in
    let sink = g.K.Sink in
    let first = c.args.source.now in
    let old = c.loop-turn.source in
    let new = c.read.new.self in
    let inv = c.loop-turn.invariant in
    let rose : Rose (source.faults old) (source.faults new) = c.in_default.ensures.fault in
    let same : source.left new ≡ source.left old = c.in_default.ensures.err in
    unread_claim c.args.limits.nodes (source.left first) (source.left new) (source.faults first) (source.faults new) (sink.wrote c.args.sink.now) (sink.wrote c.loop-turn.sink) (sink.faults c.args.sink.now) (sink.faults c.loop-turn.sink)
    c.loop-turn.left c.loop-turn.answering
    (subst (λ x. Reading c.args.limits.nodes (source.left first) x (sink.wrote c.args.sink.now) (sink.wrote c.loop-turn.sink) c.loop-turn.left c.loop-turn.answering) (sym same) inv.reading)
    inv.none (subst (λ n. Rose n (source.faults new)) inv.no_read_fault rose) inv.no_write_fault

pub returns-in_err-refused : goal.returns-in_err-refused
returns-in_err-refused g c =
    let source = g.S.Source in
    let sink = g.K.Sink in
    let first = c.args.source.now in
    let old = c.loop-turn.source in
    let new = c.read.new.self in
    let inv = c.loop-turn.invariant in
    let now = c.answer_end.new.sink in
    let stop = c.in_err-refused.field-0.0 in
    let gave : Gave (source.left old) (source.left new) (take c.in-Ok.count c.read.new.into) = c.in-Ok.ensures.bytes in
    let end : IsAtEnd (source.left old) = c.in-Ok.ensures.end c.if-count-eq0.true in
    let r : source.faults new ≡ source.faults first = c.in-Ok.ensures.no_fault ∙ inv.no_read_fault in
    let all = gave_end (source.left first) (source.left old) (source.left new) inv.reading.given inv.reading.gave (subst (λ n. Gave (source.left old) (source.left new) (take n c.read.new.into)) c.if-count-eq0.true gave) end in
    let p = err_from_is_err_and c.from_residual.result c.from_residual.ensures.1 in
    let is : c.from_residual.result ≡ Err (streams.Answer stop) = p.1 ∙ ap Err p.2 in
    subst (λ r. ClaimOfSource c.args.limits.nodes (ends (source.left first) (source.faults first) (sink.wrote c.args.sink.now) (sink.faults c.args.sink.now))
    (ends (source.left new) (source.faults new) (sink.wrote now) (sink.faults now)) (stream_status r)) (sym is)
    (last_claim c.args.limits.nodes (source.left first) (source.left new) (source.faults first) (source.faults new) (sink.wrote c.args.sink.now) (sink.wrote now) (sink.faults c.args.sink.now) (sink.faults now)
    inv.reading.given all.0 all.1 (omega (arith, inv.reading.count)) r stop (c.in_err-refused.ensures.answers c.args.limits.nodes inv.reading.given (sink.wrote c.args.sink.now) inv.reading.written)
    (subst (λ n. AnswerCause n (sink.faults now) stop) inv.no_write_fault c.in_err-refused.ensures.stop))

pub returns-then-count-eq0 : goal.returns-then-count-eq0
returns-then-count-eq0 g c =
    let source = g.S.Source in
    let sink = g.K.Sink in
    let first = c.args.source.now in
    let old = c.loop-turn.source in
    let new = c.read.new.self in
    let inv = c.loop-turn.invariant in
    let now = c.answer_end.new.sink in
    let gave : Gave (source.left old) (source.left new) (take c.in-Ok.count c.read.new.into) = c.in-Ok.ensures.bytes in
    let end : IsAtEnd (source.left old) = c.in-Ok.ensures.end c.if-count-eq0.true in
    let r : source.faults new ≡ source.faults first = c.in-Ok.ensures.no_fault ∙ inv.no_read_fault in
    let w : sink.faults now ≡ sink.faults c.args.sink.now = search rules in
    let all = gave_end (source.left first) (source.left old) (source.left new) inv.reading.given inv.reading.gave (subst (λ n. Gave (source.left old) (source.left new) (take n c.read.new.into)) c.if-count-eq0.true gave) end in
    whole_claim c.args.limits.nodes (source.left first) (source.left new) (source.faults first) (source.faults new) (sink.wrote c.args.sink.now) (sink.wrote now) (sink.faults c.args.sink.now) (sink.faults now)
    inv.reading.given all.0 all.1 (omega (arith, inv.reading.count)) r c.in_ok-refused.refused (c.in_ok-refused.ensures.answers c.args.limits.nodes inv.reading.given (sink.wrote c.args.sink.now) inv.reading.written) w

pub returns-in_err-answer_bytes : goal.returns-in_err-answer_bytes
returns-in_err-answer_bytes g c =
    let source = g.S.Source in
    let sink = g.K.Sink in
    let first = c.args.source.now in
    let old = c.loop-turn.source in
    let new = c.read.new.self in
    let inv = c.loop-turn.invariant in
    let now = c.answer_bytes.new.sink in
    let stop = c.in_err-answer_bytes.field-0.0 in
    let into = c.read.new.into in
    let count = c.in-Ok.count in
    let few = c.min-few.result in
    let read : count ≤ length into = c.in-Ok.ensures.count in
    let size : length into ≤ 16384 = search rules in
    let h : IsFew c.loop-turn.left count few into =
    record { of_read = omega (arith, c.min-few.ensures); of_room = omega (arith, c.min-few.ensures); least = λ k. omega (arith, k, c.min-few.ensures); read = read; small = size } in
    let gave : Gave (source.left old) (source.left new) (take count into) = c.in-Ok.ensures.bytes in
    let r : source.faults new ≡ source.faults first = c.in-Ok.ensures.no_fault ∙ inv.no_read_fault in
    let p = err_from_is_err_and c.from_residual-in_err-answer_bytes.result c.from_residual-in_err-answer_bytes.ensures.1 in
    let is : c.from_residual-in_err-answer_bytes.result ≡ Err (streams.Answer stop) = p.1 ∙ ap Err p.2 in
    subst (λ r. ClaimOfSource c.args.limits.nodes (ends (source.left first) (source.faults first) (sink.wrote c.args.sink.now) (sink.faults c.args.sink.now))
    (ends (source.left new) (source.faults new) (sink.wrote now) (sink.faults now)) (stream_status r)) (sym is)
    (stopped_claim c.args.limits.nodes (source.left first) (source.left new) (source.faults first) (source.faults new) (sink.wrote c.args.sink.now) (sink.wrote now) (sink.faults c.args.sink.now) (sink.faults now)
    inv.reading.given (take few (take count into)) (drop few (take count into)) (gave_parts (source.left first) (source.left old) (source.left new) inv.reading.given (take count into) few inv.reading.gave gave)
    (within_few inv.reading.given into c.loop-turn.left count few inv.reading.count h) (one_read_few into c.loop-turn.left count few h) r stop c.answer_bytes.new.answering
    (c.in_err-answer_bytes.ensures.answers c.args.limits.nodes inv.reading.given (sink.wrote c.args.sink.now) inv.reading.written)
    (subst (λ n. AnswerCause n (sink.faults now) stop) inv.no_write_fault c.in_err-answer_bytes.ensures.stop))

pub returns-then-branch : goal.returns-then-branch
returns-then-branch g c =
    let source = g.S.Source in
    let sink = g.K.Sink in
    let first = c.args.source.now in
    let old = c.loop-turn.source in
    let new = c.read.new.self in
    let inv = c.loop-turn.invariant in
    let now = c.answer_bytes.new.sink in
    let into = c.read.new.into in
    let count = c.in-Ok.count in
    let few = c.min-few.result in
    let read : count ≤ length into = c.in-Ok.ensures.count in
    let size : length into ≤ 16384 = search rules in
    let h : IsFew c.loop-turn.left count few into =
    record { of_read = omega (arith, c.min-few.ensures); of_room = omega (arith, c.min-few.ensures); least = λ k. omega (arith, k, c.min-few.ensures); read = read; small = size } in
    let gave : Gave (source.left old) (source.left new) (take count into) = c.in-Ok.ensures.bytes in
    let r : source.faults new ≡ source.faults first = c.in-Ok.ensures.no_fault ∙ inv.no_read_fault in
    let w : sink.faults now ≡ sink.faults c.args.sink.now = search rules in
    let a = c.answer_bytes.new.answering in
    let answers = c.in_ok-answer_bytes.ensures.answers c.args.limits.nodes inv.reading.given (sink.wrote c.args.sink.now) inv.reading.written in
    ended_claim c.args.limits.nodes (source.left first) (source.left new) (source.faults first) (source.faults new) (sink.wrote c.args.sink.now) (sink.wrote now) (sink.faults c.args.sink.now) (sink.faults now)
    inv.reading.given (take few (take count into)) (drop few (take count into)) (gave_parts (source.left first) (source.left old) (source.left new) inv.reading.given (take count into) few inv.reading.gave gave)
    (within_few inv.reading.given into c.loop-turn.left count few inv.reading.count h) (one_read_few into c.loop-turn.left count few h) r a.answers.refused
    (subst (λ b. AnswersBytes c.args.limits.nodes inv.reading.given (take few (take count into)) (sink.wrote c.args.sink.now) (sink.wrote now) a (Ok b)) c.if-branch.true answers) w

pub returns-then-few-count : goal.returns-then-few-count
returns-then-few-count g c =
    let source = g.S.Source in
    let sink = g.K.Sink in
    let first = c.args.source.now in
    let old = c.loop-turn.source in
    let new = c.read.new.self in
    let inv = c.loop-turn.invariant in
    let now = c.answer_bytes.new.sink in
    let into = c.read.new.into in
    let count = c.in-Ok.count in
    let few = c.min-few.result in
    let read : count ≤ length into = c.in-Ok.ensures.count in
    let size : length into ≤ 16384 = search rules in
    let h : IsFew c.loop-turn.left count few into =
    record { of_read = omega (arith, c.min-few.ensures); of_room = omega (arith, c.min-few.ensures); least = λ k. omega (arith, k, c.min-few.ensures); read = read; small = size } in
    let gave : Gave (source.left old) (source.left new) (take count into) = c.in-Ok.ensures.bytes in
    let r : source.faults new ≡ source.faults first = c.in-Ok.ensures.no_fault ∙ inv.no_read_fault in
    let w : sink.faults now ≡ sink.faults c.args.sink.now = search rules in
    let quiet : c.answer_bytes.new.answering.splitter.whole ≡ false = search rules in
    let a = c.answer_bytes.new.answering in
    let answers = c.in_ok-answer_bytes.ensures.answers c.args.limits.nodes inv.reading.given (sink.wrote c.args.sink.now) inv.reading.written in
    past_claim c.args.limits.nodes (source.left first) (source.left new) (source.faults first) (source.faults new) (sink.wrote c.args.sink.now) (sink.wrote now) (sink.faults c.args.sink.now) (sink.faults now)
    inv.reading.given (take few (take count into)) (drop few (take count into)) (gave_parts (source.left first) (source.left old) (source.left new) inv.reading.given (take count into) few inv.reading.gave gave)
    (within_few inv.reading.given into c.loop-turn.left count few inv.reading.count h) (one_read_few into c.loop-turn.left count few h) r a
    (full_few inv.reading.given into c.loop-turn.left count few inv.reading.count h c.if-few-count.true) (some_ahead into c.loop-turn.left count few h c.if-few-count.true)
    (subst (λ b. AnswersBytes c.args.limits.nodes inv.reading.given (take few (take count into)) (sink.wrote c.args.sink.now) (sink.wrote now) a (Ok b)) c.if-branch.false answers) quiet w

pub loop-turn-preserved : goal.loop-turn-preserved
loop-turn-preserved g c =
    let source = g.S.Source in
    let sink = g.K.Sink in
    let first = c.args.source.now in
    let old = c.loop-turn.source in
    let new = c.read.new.self in
    let inv = c.loop-turn.invariant in
    let now = c.answer_bytes.new.sink in
    let into = c.read.new.into in
    let count = c.in-Ok.count in
    let few = c.min-few.result in
    let read : count ≤ length into = c.in-Ok.ensures.count in
    let size : length into ≤ 16384 = search rules in
    let h : IsFew c.loop-turn.left count few into =
    record { of_read = omega (arith, c.min-few.ensures); of_room = omega (arith, c.min-few.ensures); least = λ k. omega (arith, k, c.min-few.ensures); read = read; small = size } in
    let gave : Gave (source.left old) (source.left new) (take count into) = c.in-Ok.ensures.bytes in
    let a = c.answer_bytes.new.answering in
    let answers = c.in_ok-answer_bytes.ensures.answers c.args.limits.nodes inv.reading.given (sink.wrote c.args.sink.now) inv.reading.written in
    let written = subst (λ b. AnswersBytes c.args.limits.nodes inv.reading.given (take few (take count into)) (sink.wrote c.args.sink.now) (sink.wrote now) a (Ok b)) c.if-branch.false answers in
    let long = length_few c.loop-turn.left count few into h in
    let fed : a.splitter.fed ≡ c.loop-turn.answering.splitter.fed + length (take few (take count into)) = search rules in
    record {
      reading = reading_more c.args.limits.nodes (source.left first) (source.left old) (source.left new) (sink.wrote c.args.sink.now) (sink.wrote c.loop-turn.sink) (sink.wrote now) c.loop-turn.left count few into c.loop-turn.answering a
          inv.reading gave h c.if-few-count.false written;
      none = search rules;
      quiet = search rules;
      count = omega (arith, fed, long, inv.count, h.of_room);
      grows = omega (arith, inv.grows, h.of_room, c.if-few-count.false, c.if-count-eq0.false);
      no_read_fault = search rules;
      no_write_fault = search rules;
    }
