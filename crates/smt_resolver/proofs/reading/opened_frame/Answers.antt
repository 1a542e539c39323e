use Rattle.std.proofs.Common.{◌+◌, subst, sym, ap, take}
use Rattle.std.proofs.lemmas.List.{take_all}
use Rattle.normal_atoms.specs.Atoms.{context_of}
use Rattle.smt_language.specs.Meaning.{Scope, variable, opened}
use Rattle.smt_resolver.specs.declared.value.Value.TheVariants as value
use Rattle.smt_resolver.specs.Readings.{IsFrame}
use Rattle.smt_resolver.proofs.ReadingLaws.{frame_more, frame_ids_more, opened_last}
use Rattle.smt_resolver.proofs.reading.opened_frame.Goals as goal

pub loop-place-preserved : goal.loop-place-preserved
loop-place-preserved g c =
    let d = context_of c.args.setting.now.context in let limit = c.args.setting.now.limit in
    let x = c.index-names-place.result in let i = c.loop-place.place in let names = c.args.names.now in
    record {
      state = λ m s.
          subst (λ (z : Scope). IsFrame d limit (g.M.Maker.is_id m) (g.M.Maker.tree m) c.put.new.self s z) (sym (opened_last c.args.level names i x s c.loop-place-test.true c.index-names-place.is))
          (frame_more d limit (g.M.Maker.is_id m) (g.M.Maker.tree m) c.loop-place.frame c.put.new.self x.name (value.Term c.in_ok-value.value) (variable (c.args.level + i)) s (opened c.args.level (take i names) s) (c.loop-place.invariant.state m s) (c.in_ok-value.ensures d) c.in_ok-put.ensures);
      ids = λ m. frame_ids_more (g.M.Maker.is_id m) c.loop-place.frame c.put.new.self x.name (value.Term c.in_ok-value.value) (c.loop-place.invariant.ids m) tt c.in_ok-put.ensures;
    }

pub returns-clause-read : goal.returns-clause-read
returns-clause-read g c = λ m s.
    subst (λ (z : Scope). IsFrame (context_of c.args.setting.now.context) c.args.setting.now.limit (g.M.Maker.is_id m) (g.M.Maker.tree m) c.loop-place.frame s z) (ap (λ xs. opened c.args.level xs s) (take_all c.loop-place.place c.args.names.now c.loop-place-test.false)) (c.loop-place.invariant.state m s)
