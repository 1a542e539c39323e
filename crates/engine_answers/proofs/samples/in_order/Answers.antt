use Rattle.std.proofs.Common.{rules, ◌≡◌, ◌∷◌, ◌++◌, [], sym, subst}
use Rattle.logic_meaning.specs.Some.{Among, EachOf}
use Rattle.logic_meaning.specs.declared.form.VarId.{VarId}
use Rattle.sample_reference.specs.Seen.{values_of}
use Rattle.engine_answers.proofs.EngineAnswersSampled.{name_there, named_more, each_more}
use Rattle.engine_answers.proofs.samples.in_order.Goals as goal

pub unreachable-requires : goal.unreachable-requires
unreachable-requires c =
    let none : VarId = record { number = 0 } in
    c.in_default.ensures (c.requires _ (name_there c.args.names.now c.loop-name.name-index none c.loop-name-test.true))

pub loop-name-preserved : goal.loop-name-preserved
loop-name-preserved c =
    let none : VarId = record { number = 0 } in
    let pushed : c.push.new.self.items ≡ c.loop-name.ordered.items ++ c.in-Some.value ∷ [] = search rules in
    let is = c.in-Some.ensures in
    record {
      named = named_more c.args.names.now c.loop-name.name-index none c.loop-name-test.true c.loop-name.ordered.items c.in-Some.value c.loop-name.invariant.named is.named c.push.new.self.items pushed;
      each = subst (λ vs. EachOf (Among (values_of c.args.values.now)) (values_of vs)) (sym pushed) (each_more (values_of c.args.values.now) c.loop-name.ordered.items c.in-Some.value c.loop-name.invariant.each is.among);
    }
