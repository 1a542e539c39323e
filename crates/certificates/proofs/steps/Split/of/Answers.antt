use Rattle.std.proofs.Common.{rules, ◌≡◌, ◌++◌, ◌∷◌, [], List, pos, ap, ◌∙◌, subst}
use Rattle.std.specs.Prelude.{int_lt}
use Rattle.std.specs.Ordering.{int_eq}
use Rattle.logic_meaning.specs.Form.{coefficient}
use Rattle.logic_meaning.specs.declared.form.VarId.{VarId}
use Rattle.logic_meaning.specs.Rows as search
use Rattle.logic_meaning.specs.Rows.{absent, uppers, lowers}
use Rattle.certificates.specs.Rows.{row_of, rows_of}
use Rattle.certificates.specs.declared.rows.Row.{Row}
use Rattle.certificates.proofs.Splits.{filtered_more}
use Rattle.certificates.proofs.steps.Split.of.Goals as goal

pub loop-row-preserved : goal.loop-row-preserved
loop-row-preserved c =
    let x = c.args.name.number in
    let old = c.loop-row.split in
    let inv = c.loop-row.invariant in
    let e = c.in_ok-push.ensures in
    let row = row_of c.in-Some.row in
    let rest = rows_of c.next.new.self.rest.items in
    let all = rows_of c.args.rows.items in
    let split : c.loop-row.row-iterator.rest.items ≡ c.in-Some.row ∷ c.next.new.self.rest.items = search rules in
    record {
      can = tt;
      finite = tt;
      name = e.name ∙ inv.name;
      absents = filtered_more (λ (r : search.Row). int_eq (coefficient x r.form) (pos 0)) row rest (absent x all) (rows_of old.absent.items) _
          (subst (λ (rows : List Row). rows_of old.absent.items ++ absent x (rows_of rows) ≡ absent x all) split inv.absents)
          (e.absent ∙ ap (λ (y : VarId). rows_of old.absent.items ++ absent y.number (row ∷ [])) inv.name);
      upper = filtered_more (λ (r : search.Row). int_lt (pos 0) (coefficient x r.form)) row rest (uppers x all) (rows_of old.step.uppers.items) _
          (subst (λ (rows : List Row). rows_of old.step.uppers.items ++ uppers x (rows_of rows) ≡ uppers x all) split inv.upper)
          (e.uppers ∙ ap (λ (y : VarId). rows_of old.step.uppers.items ++ uppers y.number (row ∷ [])) inv.name);
      lower = filtered_more (λ (r : search.Row). int_lt (coefficient x r.form) (pos 0)) row rest (lowers x all) (rows_of old.step.lowers.items) _
          (subst (λ (rows : List Row). rows_of old.step.lowers.items ++ lowers x (rows_of rows) ≡ lowers x all) split inv.lower)
          (e.lowers ∙ ap (λ (y : VarId). rows_of old.step.lowers.items ++ lowers y.number (row ∷ [])) inv.name);
    }
