use Rattle.std.proofs.Common.{rules, ◌≡◌, ◌+◌, None, Some, refl}
use Rattle.std.specs.HashMap.{Updates}
use Rattle.normal_forms.specs.Paths.{next_from, same_step}
use Rattle.normal_forms.proofs.PathLaws.{grows_then, steps_grow}
use Rattle.normal_forms.proofs.paths.Paths.step.Goals as goal

pub returns-in-Ok-clause-grows : goal.returns-in-Ok-clause-grows
returns-in-Ok-clause-grows c =
    let none : next_from c.reach.new.self c.args.place c.args.atom ≡ None = search rules in
    let put : Updates same_step c.reach.new.self.steps c.insert.new.self (c.args.place, c.args.atom) (Some (c.len-next.result + 1)) = search rules in
    grows_then c.args.self.now c.reach.new.self _ c.reach.ensures.grows
    (steps_grow c.reach.new.self (record { steps = c.insert.new.self; places = c.reach.new.self.places }) c.args.place c.args.atom (c.len-next.result + 1) (λ k v. put.0 (k, v)) (λ k. refl) none)
