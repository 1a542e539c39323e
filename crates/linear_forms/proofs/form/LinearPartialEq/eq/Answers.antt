use Rattle.std.proofs.Common.{◌&&◌, sym, ap, ◌∙◌, is_eq}
use Rattle.std.specs.Ordering.{int_eq}
use Rattle.linear_forms.proofs.Equal.{forms_eq}
use Rattle.linear_forms.proofs.form.LinearPartialEq.eq.Goals as goal

pub returns-then-eq : goal.returns-then-eq
returns-then-eq c =
    let s = c.self.inside in let o = c.other.inside in
    let e = forms_eq s.terms.items o.terms.items s.constant o.constant c.args.self.now c.args.other.now c.eq.result c.eq.ensures c.self.view_is c.other.view_is in
    c.is_eq.ensures ∙ ap is_eq c.cmp.ensures ∙ ap (λ b. b && int_eq s.constant o.constant) (sym c.if-eq.true) ∙ e

pub returns-else-eq : goal.returns-else-eq
returns-else-eq c =
    let s = c.self.inside in let o = c.other.inside in
    let e = forms_eq s.terms.items o.terms.items s.constant o.constant c.args.self.now c.args.other.now c.eq.result c.eq.ensures c.self.view_is c.other.view_is in
    c.if-eq.false ∙ ap (λ b. b && int_eq s.constant o.constant) (sym c.if-eq.false) ∙ e
