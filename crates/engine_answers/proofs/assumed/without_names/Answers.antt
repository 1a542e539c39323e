use Rattle.std.proofs.Common.{rules, ◌≡◌, ◌++◌, ◌∷◌, [], sym, ◌∙◌}
use Rattle.engine_answers.specs.Assumed.{lacking}
use Rattle.engine_answers.proofs.Lacking.{left_out, taken}
use Rattle.engine_answers.proofs.assumed.without_names.Goals as goal

pub loop-atom-preserved-then-has_some : goal.loop-atom-preserved-then-has_some
loop-atom-preserved-then-has_some c =
    left_out c.args.names.now c.args.theory.now c.loop-atom.atom-index c.atom-item.result c.loop-atom-test.true c.atom-item.is c.loop-atom.left.items (lacking c.args.names.now c.args.theory.now) c.loop-atom.invariant
    (sym c.has_some.ensures ∙ c.if-has_some.true)

pub loop-atom-preserved : goal.loop-atom-preserved
loop-atom-preserved c =
    let pushed : c.push.new.self.items ≡ c.loop-atom.left.items ++ c.atom-item.result ∷ [] = search rules in
    taken c.args.names.now c.args.theory.now c.loop-atom.atom-index c.atom-item.result c.loop-atom-test.true c.atom-item.is c.loop-atom.left.items (lacking c.args.names.now c.args.theory.now) c.loop-atom.invariant
    (sym c.has_some.ensures ∙ c.if-has_some.false) c.push.new.self.items pushed
