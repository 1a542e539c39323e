use Rattle.std.proofs.Common.{ap, ◌∙◌}
use Rattle.std.specs.Prelude.{option_map, slice_get}
use Rattle.logic_meaning.specs.Form.{Form}
use Rattle.linear_forms.specs.Linear.{term_of}
use Rattle.linear_forms.proofs.TermAt.{slice_get-terms_of, read_at}
use Rattle.linear_forms.proofs.form.Linear.term.Goals as goal

pub returns-clause-value : goal.returns-clause-value
returns-clause-value c =
    let e = c.copied.ensures ∙ read_at _ c.deref.result.now c.args.place c.get.result c.get.ensures.lookup.3 in
    let xs = c.self.inside.terms.items in
    ap (option_map term_of) (e ∙ ap (λ ys. slice_get ys c.args.place) c.deref.ensures.value)
    ∙ slice_get-terms_of xs c.args.place
    ∙ ap (λ (f : Form). slice_get f.terms c.args.place) c.self.view_is
