use Rattle.narrowed_blocks.specs.Settings.{Becomes}
use Rattle.narrowed_blocks.proofs.setting.Setting.narrowed.Given as goal

-- the block becomes the one at hand, and the one that is kept
abbrev pub invariant-loop : goal.invariant-loop
invariant-loop l = record {
  current : Becomes l.self l.fn.block l.current;
  least : Becomes l.self l.fn.block l.least;
}
