use Rattle.std.proofs.Common.{◌<◌, ◌≤◌, arith}
use Rattle.redlog_tokens.specs.Counting.{count}
use Rattle.redlog_tokens.proofs.Counts.{shallow_start, deep, shallow_more, shallow_end, next_terminal, no_terminal}
use Rattle.redlog_tokens.proofs.level.is_deep.Goals as goal

pub terminals-init : goal.terminals-init
terminals-init c = shallow_start _ _ c.new-levels.ensures.small c.new-levels.ensures.levels

pub returns-then-level-gt-LEVEL_LIMIT : goal.returns-then-level-gt-LEVEL_LIMIT
returns-then-level-gt-LEVEL_LIMIT c =
    let next = next_terminal c.args.terminals.now c.terminals.terminal-index c.terminal-item.result c.terminals-test.true c.terminal-item.is in
    let above : 512 < count c.take.new.self = omega (arith, c.if-level-gt-LEVEL_LIMIT.true, c.level.ensures) in
    deep _ _ c.terminals.invariant next c.in_ok-take.ensures.taken c.in_ok-take.ensures.total above

pub terminals-preserved : goal.terminals-preserved
terminals-preserved c =
    let next = next_terminal c.args.terminals.now c.terminals.terminal-index c.terminal-item.result c.terminals-test.true c.terminal-item.is in
    let within : count c.take.new.self ≤ 512 = omega (arith, c.if-level-gt-LEVEL_LIMIT.false, c.level.ensures) in
    shallow_more _ _ c.terminals.invariant next c.in_ok-take.ensures.taken c.in_ok-take.ensures.total within c.in_ok-take.ensures.held

pub returns : goal.returns
returns c = shallow_end c.terminals.invariant (no_terminal c.args.terminals.now c.terminals.terminal-index c.terminals-test.false)
