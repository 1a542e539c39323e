use Rattle.std.proofs.Common.{Some, subst, sym}
use Rattle.normal_atoms.specs.Atoms.{context_of}
use Rattle.smt_language.specs.Meaning.{declared_scope}
use Rattle.smt_resolver.specs.declared.value.Value.TheVariants as value
use Rattle.smt_resolver.specs.Frames.{looked_up}
use Rattle.smt_resolver.specs.Readings.{IsMeant, HasValueId}
use Rattle.smt_resolver.proofs.ReadingLaws.{some_same, bound_meant, declared_meant, found_variable}
use Rattle.smt_resolver.proofs.reading.named.Goals as goal

pub returns-in-Some-clause-ids : goal.returns-in-Some-clause-ids
returns-in-Some-clause-ids g c = λ m h v e. subst (HasValueId (g.M.Maker.is_id m)) (some_same e) (c.in_ok-value.ensures.ids m (h c.args.name.now c.in-Some.value.now (sym c.in-Some.ensures)))

pub returns-in-Some-clause-read : goal.returns-in-Some-clause-read
returns-in-Some-clause-read g c = λ m s h.
    let d = context_of c.args.setting.now.context in let limit = c.args.setting.now.limit in let x = c.args.name.now in
    bound_meant d limit (g.M.Maker.is_id m) (g.M.Maker.tree m) (s x) (declared_scope c.args.setting.now.declared.now x) (looked_up c.args.symbols.now x) c.in-Some.value.now c.in_ok-value.value (h x) c.in-Some.ensures (c.in_ok-value.ensures.read m d limit)

pub returns-in_ok-value-in-Some-find-clause-read : goal.returns-in_ok-value-in-Some-find-clause-read
returns-in_ok-value-in-Some-find-clause-read g c = λ m s h.
    let d = context_of c.args.setting.now.context in let limit = c.args.setting.now.limit in let x = c.args.name.now in
    declared_meant d limit (g.M.Maker.is_id m) (g.M.Maker.tree m) (s x) (declared_scope c.args.setting.now.declared.now x) (looked_up c.args.symbols.now x) (Some (value.Term c.in_ok-value-in-Some-find.value)) (h x) c.in_default.ensures
    (subst (λ o. IsMeant d limit (g.M.Maker.is_id m) (g.M.Maker.tree m) o (Some (value.Term c.in_ok-value-in-Some-find.value))) (sym (found_variable c.args.setting.now.declared.now x c.in-Some-find.id.number (sym c.in-Some-find.ensures))) (c.in_ok-value-in-Some-find.ensures d))
