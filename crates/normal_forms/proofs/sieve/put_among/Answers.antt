use Rattle.std.proofs.Common.{List, get_or, sym, ◌∙◌, subst, take}
use Rattle.std.proofs.lemmas.List.{take_more}
use Rattle.formula_store.specs.declared.id.FormulaId.{FormulaId}
use Rattle.normal_forms.specs.Paths.{Leads}
use Rattle.normal_forms.specs.Sieves.{IsSortedOf, IsPath, ArePaths}
use Rattle.normal_forms.proofs.PathLaws.{grows_then}
use Rattle.normal_forms.proofs.Sifting.{paths_stay, paths_more}
use Rattle.normal_forms.proofs.sieve.put_among.Goals as goal

pub loop-number-preserved : goal.loop-number-preserved
loop-number-preserved c =
    let line : List FormulaId = c.index-lines-number.result in
    let old = c.loop-number.paths in
    let new = c.add.new.self in
    let front : List (List FormulaId) = take c.loop-number.number c.args.lines.now in
    let path : IsPath new 0 (get_or c.args.lines.now c.loop-number.number line) = record {
      atoms = c.in_ok-atoms.atoms.items;
      sorted = subst (λ us. IsSortedOf us c.in_ok-atoms.atoms.items) (c.items.ensures ∙ c.index-lines-number.is) c.in_ok-atoms.ensures;
      leads = subst (Leads new 0) c.deref.ensures.value c.in_ok-add.ensures.leads;
    } in
    record {
      grows = grows_then c.args.paths.now old new c.loop-number.invariant.grows c.add.ensures.grows;
      paths = subst (ArePaths new) (sym (take_more c.args.lines.now c.loop-number.number line c.loop-number-test.true)) (paths_more new front (get_or c.args.lines.now c.loop-number.number line) (paths_stay old new c.add.ensures.grows front c.loop-number.invariant.paths) path);
    }
