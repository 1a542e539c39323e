use Rattle.std.proofs.Common.{ap, ◌∙◌}
use Rattle.exact_numbers.proofs.Casts.{read_back}
use Rattle.logic_meaning.specs.Form.{scale}
use Rattle.normal_atoms.proofs.Stepped.{ok_map}
use Rattle.test_points.proofs.Rows.{scaled_is, scaled_passes}
use Rattle.test_points.proofs.runs.scaled.Goals as goal

pub returns-clause-value : goal.returns-clause-value
returns-clause-value c =
    let back = read_back c.args.factor c.requires.within in
    let g = c.with_constant-bare.result in
    ok_map c.combine.result (λ r h. scaled_is _ c.args.factor g r back c.requires.positive c.with_constant-bare.ensures.linear h ∙ ap (scale c.args.factor) c.with_constant-bare.ensures.form) c.combine.ensures.combined

pub returns-clause-overflow : goal.returns-clause-overflow
returns-clause-overflow c k = scaled_passes _ c.args.factor c.args.form c.with_constant-bare.result (read_back c.args.factor c.requires.within) c.with_constant-bare.ensures.form (c.combine.ensures.overflow k)
