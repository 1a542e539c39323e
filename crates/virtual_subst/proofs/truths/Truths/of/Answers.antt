use Rattle.std.proofs.Common.{◌∙◌}
use Rattle.formula_store.proofs.Makes.{keeps_then}
use Rattle.virtual_subst.proofs.truths.Truths.of.Goals as goal

pub returns-in_err-no-clause-kept : goal.returns-in_err-no-clause-kept
returns-in_err-no-clause-kept g c =
    keeps_then (g.M.Formulas.nodes c.args.formulas.now) (g.M.Formulas.nodes c.add.new.self) (g.M.Formulas.nodes c.add-2.new.self) c.in_ok-yes.ensures.kept c.in_err-no.ensures.kept

pub returns-clause-truths : goal.returns-clause-truths
returns-clause-truths g c =
    let yes = c.in_ok-yes.ensures.made in
    let kept = c.in_ok-no.ensures.kept in
    record {
      yes = record { is = kept.is c.in_ok-yes.yes yes.is; same = kept.same c.in_ok-yes.yes yes.is ∙ yes.same };
      no = c.in_ok-no.ensures.made;
    }

pub returns-clause-kept : goal.returns-clause-kept
returns-clause-kept g c =
    keeps_then (g.M.Formulas.nodes c.args.formulas.now) (g.M.Formulas.nodes c.add.new.self) (g.M.Formulas.nodes c.add-2.new.self) c.in_ok-yes.ensures.kept c.in_ok-no.ensures.kept
