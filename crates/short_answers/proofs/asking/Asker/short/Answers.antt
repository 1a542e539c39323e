use Rattle.formula_store.proofs.Makes.{keeps_then}
use Rattle.short_answers.proofs.Keeping.{asking_kept}
use Rattle.short_answers.proofs.asking.Asker.short.Goals as goal

pub returns-in-Some-clause-kept : goal.returns-in-Some-clause-kept
returns-in-Some-clause-kept g c = keeps_then c.args.store.now c.constant.new.store c.smaller.new.store c.constant.ensures.kept c.smaller.ensures.kept

pub searched-requires-clause-asking : goal.searched-requires-clause-asking
searched-requires-clause-asking g c κs within =
    let s = c.args.self.now in
    asking_kept s.work.now s.assumed.now s.names.now c.args.store.now c.constant.new.store c.constant.ensures.kept c.requires.asking

pub returns-clause-kept : goal.returns-clause-kept
returns-clause-kept g c = keeps_then c.args.store.now c.constant.new.store c.searched.new.store c.constant.ensures.kept c.searched.ensures.kept
