use Rattle.std.proofs.Common.{refl}
use Rattle.std.proofs.lemmas.Bool.{false≢true}
use Rattle.language_meaning.specs.Point.{IsZeroBelow}
use Rattle.written_syntax.proofs.EntryLists.{unfound_start, unfound_more, unfound_here, unfound_end}
use Rattle.written_syntax.proofs.point.has_zero_below.Goals as goal

pub loop-entry-init : goal.loop-entry-init
loop-entry-init c = unfound_start _ _

pub returns-then-is_zero_below : goal.returns-then-is_zero_below
returns-then-is_zero_below c =
    (λ _. unfound_here IsZeroBelow c.args.entries.now c.loop-entry.entry-index c.entry-item.result c.loop-entry-test.true c.entry-item.is (c.if-is_zero_below.ensures.0 refl) c.loop-entry.invariant, λ _. refl)

pub loop-entry-preserved : goal.loop-entry-preserved
loop-entry-preserved c =
    unfound_more IsZeroBelow c.args.entries.now c.loop-entry.entry-index c.entry-item.result c.loop-entry-test.true c.entry-item.is (λ p. false≢true (c.if-is_zero_below.ensures.1 p)) c.loop-entry.invariant

pub returns : goal.returns
returns c = (λ t. absurd (false≢true t), λ s. absurd (unfound_end IsZeroBelow c.args.entries.now c.loop-entry.entry-index c.loop-entry-test.false c.loop-entry.invariant s))
