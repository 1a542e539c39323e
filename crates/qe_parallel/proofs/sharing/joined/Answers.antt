use Rattle.std.proofs.Common.{List, subst, sym}
use Rattle.qe_parallel.specs.Fanned.{Fanned, AnswerAll}
use Rattle.qe_parallel.proofs.Runs.{together, fails_later}
use Rattle.qe_parallel.proofs.sharing.joined.Goals as goal

pub returns-in-Err-second : goal.returns-in-Err-second
returns-in-Err-second g c =
    let R = g.W.Worker.answers c.args.worker.now in
    let S = g.W.Worker.stops c.args.worker.now in
    let a = subst (Fanned R S c.args.from c.args.middle) c.in-Ok.is c.requires.first in
    let b = subst (Fanned R S c.args.middle c.args.to) c.in-Err-second.is c.requires.second in
    fails_later R S c.args.from c.args.middle c.args.to c.in-Ok.outs.items c.in-Err-second.error a b

pub returns : goal.returns
returns g c =
    let R = g.W.Worker.answers c.args.worker.now in
    let S = g.W.Worker.stops c.args.worker.now in
    let a = subst (Fanned R S c.args.from c.args.middle) c.in-Ok.is c.requires.first in
    let b = subst (Fanned R S c.args.middle c.args.to) c.in-Ok-second.is c.requires.second in
    subst (AnswerAll R c.args.from c.args.to) (sym {A = List g.row.W-Out.Denot} c.in_default.ensures.items) (together R c.args.from c.args.middle c.args.to c.in-Ok.outs.items c.in-Ok-second.more.items a b)
