use Rattle.std.proofs.Common.{sym, subst}
use Rattle.narrowed_blocks.specs.declared.open_block.OpenBlock.{OpenBlock}
use Rattle.narrowed_blocks.specs.declared.setting.Step.{Step}
use Rattle.narrowed_blocks.specs.Settings.{IsStep, Becomes}
use Rattle.narrowed_blocks.proofs.Becoming.{becomes_self, becomes_then, becomes_equal, never_then}
use Rattle.narrowed_blocks.proofs.setting.Setting.narrowed.Goals as goal
use Rattle.narrowed_blocks.proofs.setting.Setting.narrowed.Goals.{then-len-most+in_ok-least-2, else-len-most}

pub loop-init : goal.loop-init
loop-init c =
    let s = c.args.self.now in
    let b = c.args.block in
    record {
      current = becomes_self s b c.requires.sound;
      least = becomes_equal s b b c.in_ok-least.least (becomes_self s b c.requires.sound) c.in_ok-least.ensures.atoms c.in_ok-least.ensures.names c.in_ok-least.ensures.movable;
    }

pub returns-in-Never : goal.returns-in-Never
returns-in-Never c =
    let s = c.args.self.now in
    never_then s c.args.block c.loop.current c.loop.invariant.current (subst (λ (t : Step). IsStep s c.loop.current t) c.in-Never.is c.in_ok-step.ensures)

pub loop-preserved : goal.loop-preserved
loop-preserved c =
    let s = c.args.self.now in
    let b = c.args.block in
    let next : OpenBlock = c.in-Narrower.next in
    let step : Becomes s c.loop.current next = subst (λ (t : Step). IsStep s c.loop.current t) c.in-Narrower.is c.in_ok-step.ensures in
    let now : Becomes s b next = becomes_then s b c.loop.current next c.loop.invariant.current step in
    record {
      current = now;
      least = elim c.if-len-most.branch [
        | then-len-most+in_ok-least-2 w ↦ subst (λ (o : OpenBlock). Becomes s b o) (sym w.least-is) (becomes_equal s b next w.in_ok-least-2.least now w.in_ok-least-2.ensures.atoms w.in_ok-least-2.ensures.names w.in_ok-least-2.ensures.movable)
        | else-len-most w ↦ subst (λ (o : OpenBlock). Becomes s b o) (sym w.least-is) c.loop.invariant.least
      ];
    }
