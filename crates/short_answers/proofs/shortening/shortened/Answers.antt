use Rattle.std.proofs.Common.{List, map, sym, ap, subst, ◌∙◌}
use Rattle.std.specs.Prelude.{IfOk}
use Rattle.formula_laws.specs.StandsOnce.{StandsOnce}
use Rattle.logic_meaning.specs.Tree.{Tree}
use Rattle.normal_atoms.specs.Atoms.{context_of}
use Rattle.logic_meaning.specs.declared.form.VarId.{VarId}
use Rattle.formula_store.specs.declared.id.FormulaId.{FormulaId}
use Rattle.formula_store.specs.Nodes.{tree}
use Rattle.formula_store.proofs.Makes.{keeps_then}
use Rattle.branch_rounds.specs.Branches.{numbers}
use Rattle.short_answers.specs.Asking.{AreTidyIds}
use Rattle.short_answers.specs.Shorter.{IsShortenedTo}
use Rattle.short_answers.proofs.Keeping.{atoms_tidy, maps_join, tidy_kept}
use Rattle.short_answers.proofs.Steps.{shortened_itself}
use Rattle.short_answers.proofs.shortening.shortened.Goals as goal

pub returns-then-is_left_as_it_is-clause-shortened : goal.returns-then-is_left_as_it_is-clause-shortened
returns-then-is_left_as_it_is-clause-shortened g c = shortened_itself c.args.work.now c.args.store.now c.args.id c.requires.id

pub short-requires-clause-asking : goal.short-requires-clause-asking
short-requires-clause-asking g c κs within =
    let w = c.args.work.now in
    let o = context_of w.context in
    let n = c.formulas_of.new.store in
    let ids : List FormulaId = c.in_ok-assumed.assumed.items in
    let m = c.in_ok-assumed.ensures.made in
    let names : List VarId = c.in_ok-names.names.items in
    record {
      work = c.requires.work;
      are = subst (AreTidyIds o n) (sym c.deref-2.ensures.value) (atoms_tidy w.context n ids w.assumed.now m.are m.same c.requires.work.normal);
      says = ap (map (tree n)) c.deref-2.ensures.value ∙ m.same ∙ sym (maps_join w.assumed.now);
      once = subst (λ (ns : List VarId). StandsOnce (numbers ns)) (sym c.deref-3.ensures.value) c.in_ok-names.ensures;
    }

pub short-requires-clause-id : goal.short-requires-clause-id
short-requires-clause-id g c κs within = tidy_kept (context_of c.args.work.now.context) c.args.store.now c.formulas_of.new.store c.formulas_of.ensures.kept c.args.id c.requires.id

pub returns-clause-shortened : goal.returns-clause-shortened
returns-clause-shortened g c =
    subst (λ (f : Tree). IfOk c.short.result (IsShortenedTo c.args.work.now f c.short.new.store)) (c.formulas_of.ensures.kept.same c.args.id c.requires.id.is) c.short.ensures.shortened

pub returns-clause-kept : goal.returns-clause-kept
returns-clause-kept g c = keeps_then c.args.store.now c.formulas_of.new.store c.short.new.store c.formulas_of.ensures.kept c.short.ensures.kept
