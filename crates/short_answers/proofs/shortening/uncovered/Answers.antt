use Rattle.std.proofs.Common.{List, map, sym, ap, subst, ◌∙◌}
use Rattle.formula_laws.specs.StandsOnce.{StandsOnce}
use Rattle.logic_meaning.specs.Tree.{Tree}
use Rattle.normal_atoms.specs.Atoms.{context_of, atom_of}
use Rattle.normal_atoms.proofs.Stepped.{ok_map}
use Rattle.branch_pruning.specs.Pruned.{AreCovering}
use Rattle.logic_meaning.specs.declared.form.VarId.{VarId}
use Rattle.formula_store.specs.declared.id.FormulaId.{FormulaId}
use Rattle.formula_store.specs.Nodes.{tree}
use Rattle.formula_store.proofs.Makes.{keeps_then}
use Rattle.branch_rounds.specs.Branches.{numbers}
use Rattle.short_answers.specs.Asking.{AreTidyIds}
use Rattle.short_answers.proofs.Keeping.{all_kept, atoms_tidy, each_is, maps_join, trees_kept}
use Rattle.short_answers.proofs.shortening.uncovered.Goals as goal

pub atoms_in_all-requires : goal.atoms_in_all-requires
atoms_in_all-requires g c = each_is (context_of c.args.work.now.context) c.args.store.now c.args.formulas.now c.requires.formulas

pub uncovered-requires-clause-asking : goal.uncovered-requires-clause-asking
uncovered-requires-clause-asking g c κs within =
    let w = c.args.work.now in
    let o = context_of w.context in
    let n = c.formulas_of.new.store in
    let ids : List FormulaId = c.in_ok-assumed.assumed.items in
    let m = c.in_ok-assumed.ensures.made in
    let names : List VarId = c.in_ok-names.names.items in
    record {
      work = c.requires.work;
      are = subst (AreTidyIds o n) (sym c.deref-2.ensures.value) (atoms_tidy w.context n ids w.assumed.now m.are m.same c.requires.work.normal);
      says = ap (map (tree n)) c.deref-2.ensures.value ∙ m.same ∙ sym (maps_join w.assumed.now);
      once = subst (λ (ns : List VarId). StandsOnce (numbers ns)) (sym c.deref-3.ensures.value) c.in_ok-names.ensures;
    }

pub uncovered-requires-clause-formulas : goal.uncovered-requires-clause-formulas
uncovered-requires-clause-formulas g c κs within = all_kept (context_of c.args.work.now.context) c.args.store.now c.formulas_of.new.store c.formulas_of.ensures.kept c.args.formulas.now c.requires.formulas

pub returns-clause-covering : goal.returns-clause-covering
returns-clause-covering g c =
    let w = c.args.work.now in
    let o = context_of w.context in
    let same = trees_kept o c.args.store.now c.formulas_of.new.store c.formulas_of.ensures.kept c.args.formulas.now c.requires.formulas in
    ok_map c.uncovered.result (λ v are. subst (λ (fs : List Tree). AreCovering o (map atom_of w.assumed.now) fs v.items) same are) c.uncovered.ensures.covering

pub returns-clause-kept : goal.returns-clause-kept
returns-clause-kept g c = keeps_then c.args.store.now c.formulas_of.new.store c.uncovered.new.store c.formulas_of.ensures.kept c.uncovered.ensures.kept
