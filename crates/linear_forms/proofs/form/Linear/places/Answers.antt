-- The list has as many terms as the program's has pairs.
use Rattle.std.proofs.Common.{sym, ap, ◌∙◌, length}
use Rattle.logic_meaning.specs.Form.{Form}
use Rattle.linear_forms.proofs.TermAt.{length-terms_of}
use Rattle.linear_forms.proofs.form.Linear.places.Goals as goal

pub returns : goal.returns
returns c =
    c.len.ensures ∙ c.self.inside.terms.ok.0
    ∙ sym (length-terms_of c.self.inside.terms.items)
    ∙ ap (λ (f : Form). length f.terms) c.self.view_is
