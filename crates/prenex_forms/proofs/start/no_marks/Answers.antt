use Rattle.std.proofs.Common.{rules, ◌≡◌, ◌∷◌, ◌++◌, [], false, length, ap, arith}
use Rattle.prenex_forms.proofs.Starts.{length_push, none_more, none_flag}
use Rattle.prenex_forms.proofs.start.no_marks.Goals as goal

pub loop-preserved : goal.loop-preserved
loop-preserved c =
    let old = c.loop.marks.items in
    let pushed : c.push.new.self.items ≡ old ++ false ∷ [] = search rules in
    let before = c.loop.invariant.count in
    let all = length_push old false in
    let same = ap length pushed in
    record { count = omega (arith, before, all, same); none = none_more old c.push.new.self.items c.loop.invariant.none pushed }

pub returns-clause-none : goal.returns-clause-none
returns-clause-none c = none_flag c.loop.marks.items c.loop.invariant.none
