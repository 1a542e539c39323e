use Rattle.std.proofs.Common.{nat_eq, if◌then◌else◌, ap, ◌∙◌}
use Rattle.std.proofs.lemmas.Int.{to_z-of_z}
use Rattle.linear_forms.specs.Values.{Numbers, number_at}
use Rattle.linear_forms.proofs.Lookups.{put_number, on_ok, on_ok_err}
use Rattle.linear_forms.proofs.values.Values.put.Goals as goal
use Rattle.linear_forms.proofs.values.Values.put.Goals.{in-Ok, in-Err}

pub returns-clause-put : goal.returns-clause-put
returns-clause-put c =
    let f = c.ranges.n in let v = c.args.v.number in let n = c.args.n in
    elim c.match-insert.branch [
      | in-Ok w ↦
          let u = simp to_z-of_z at w.in-Ok.ensures.updates.0 in
          on_ok c.match-insert.result (λ x. put_number c.self.inside.numbers.entries c.insert.new.self.entries v n u x ∙ ap (λ (m : Numbers). if nat_eq v x then n else number_at m x) c.self.view_is)
      | in-Err w ↦ on_ok_err c.match-insert.result _ _ w.result-is
    ]
