use Rattle.std.proofs.Common.{rules, ◌≡◌, ◌-◌, ◌<◌, ◌≤◌, Err, length, ap, ◌∙◌, sym, subst}
use Rattle.std.specs.Prelude.{IfErr}
use Rattle.std.proofs.lemmas.Result.{err_from_is_err_and}
use Rattle.qe_io.specs.declared.stop.AnswerStop.TheVariants as answer
use Rattle.qe_io.specs.declared.stop.StreamStop.TheVariants as streams
use Rattle.program_meaning.specs.Reading.{smt_limit}
use Rattle.smtlib_front.specs.Stops.{ReadStops}
use Rattle.smtlib_front.proofs.Whole.{gave_within, gave_past}
use Rattle.smtlib_front.proofs.reading.read_whole.Goals as goal

pub returns-then-count-len-clause-stop : goal.returns-then-count-len-clause-stop
returns-then-count-len-clause-stop g c =
    let source = g.S.Source in
    let script = c.reads.script.items in
    let count = c.in_ok-count.count in
    let into = c.read.new.into in
    let small : length into ≤ 16384 = search rules in
    let many : smt_limit - length script < count = search rules in (
      gave_past (source.left c.args.source.now) (source.left c.reads.source) (source.left c.read.new.self) script into count c.reads.invariant.gave c.in_ok-count.ensures.bytes c.reads.invariant.within
          c.in_ok-count.ensures.count many small,
      c.in_ok-count.ensures.no_fault ∙ c.reads.invariant.no_fault,
    )

pub returns-in_err-extend_from_slice-clause-stop : goal.returns-in_err-extend_from_slice-clause-stop
returns-in_err-extend_from_slice-clause-stop g c =
    let source = g.S.Source in
    let first = c.args.source.now in
    let new = c.read.new.self in
    let script = c.reads.script.items in
    let count = c.in_ok-count.count in
    let into = c.read.new.into in
    let few : count ≤ smt_limit - length script = search rules in
    let p = err_from_is_err_and c.from_residual-in_err-extend_from_slice.result c.from_residual-in_err-extend_from_slice.ensures.1 in
    let is : c.from_residual-in_err-extend_from_slice.result ≡ Err (streams.Answer answer.Memory) = p.1 ∙ ap Err p.2 in
    subst (λ r. IfErr r (ReadStops (source.left first) (source.left new) (source.faults first) (source.faults new))) (sym is) (
      gave_within (source.left first) (source.left c.reads.source) (source.left new) script into count c.reads.invariant.gave c.in_ok-count.ensures.bytes c.reads.invariant.within c.in_ok-count.ensures.count few,
      c.in_ok-count.ensures.no_fault ∙ c.reads.invariant.no_fault,
    )
