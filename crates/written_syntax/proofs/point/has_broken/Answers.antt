use Rattle.std.proofs.Common.{refl}
use Rattle.std.proofs.lemmas.Bool.{false≢true}
use Rattle.language_meaning.specs.Point.{IsBroken}
use Rattle.written_syntax.proofs.EntryLists.{unfound_start, unfound_more, unfound_here, unfound_end, all_at}
use Rattle.written_syntax.proofs.point.has_broken.Goals as goal

pub loop-entry-init : goal.loop-entry-init
loop-entry-init c = record { unfound = unfound_start _ _; proper = c.requires }

pub returns-then-is_broken : goal.returns-then-is_broken
returns-then-is_broken c =
    (λ _. unfound_here IsBroken c.args.entries.now c.loop-entry.entry-index c.entry-item.result c.loop-entry-test.true c.entry-item.is (c.if-is_broken.ensures.0 refl) c.loop-entry.invariant.unfound, λ _. refl)

pub loop-entry-preserved : goal.loop-entry-preserved
loop-entry-preserved c = record {
  unfound = unfound_more IsBroken c.args.entries.now c.loop-entry.entry-index c.entry-item.result c.loop-entry-test.true c.entry-item.is (λ p. false≢true (c.if-is_broken.ensures.1 p)) c.loop-entry.invariant.unfound;
  proper = (all_at _ c.args.entries.now c.loop-entry.entry-index c.entry-item.result c.loop-entry-test.true c.entry-item.is c.loop-entry.invariant.proper).1;
}

pub returns : goal.returns
returns c = (λ t. absurd (false≢true t), λ s. absurd (unfound_end IsBroken c.args.entries.now c.loop-entry.entry-index c.loop-entry-test.false c.loop-entry.invariant.unfound s))

pub is_broken-requires : goal.is_broken-requires
is_broken-requires c =
    let here = (all_at _ c.args.entries.now c.loop-entry.entry-index c.entry-item.result c.loop-entry-test.true c.entry-item.is c.loop-entry.invariant.proper).0 in
    record { proper = here.0; divided = here.1 }
