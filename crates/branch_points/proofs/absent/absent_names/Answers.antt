use Rattle.std.proofs.Common.{◌≡◌, false, nat_eq, is_some, map, List, [], ◌∷◌, rules, sym, subst, get_or, ◌∙◌}
use Rattle.std.specs.HashMap.{get}
use Rattle.logic_meaning.specs.Some.{Among, EachOf}
use Rattle.logic_meaning.specs.Tree.{IsFree}
use Rattle.logic_meaning.specs.declared.form.VarId.{VarId}
use Rattle.elimination_theory.proofs.SomeListed.{each_map, each_append}
use Rattle.formula_store.specs.Nodes.{tree}
use Rattle.formula_store.specs.declared.id.FormulaId.{FormulaId}
use Rattle.normal_atoms.specs.Atoms.{atom_of}
use Rattle.branch_points.specs.Chosen.{AreAtomsOf, listed_atoms}
use Rattle.branch_points.proofs.Names.{at_place, absent_where_not}
use Rattle.branch_points.proofs.absent.absent_names.Goals.{then-not-stands+in_ok-push, else-not-stands}
use Rattle.branch_points.proofs.absent.absent_names.Goals as goal

pub loop-name-preserved : goal.loop-name-preserved
loop-name-preserved c =
    let P = λ (x : VarId). Among c.args.names.now x × (is_some (get nat_eq c.in_ok-table.table x.number) ≡ false) in
    elim c.if-not-stands.branch [
      | then-not-stands+in_ok-push w ↦
          let e : c.stands.result ≡ false = search rules in
          let here = at_place c.args.names.now c.loop-name.name-index (record { number = 0 }) c.loop-name-test.true in
          subst (EachOf P) (sym ((λ i. (w.absent-is i).items) ∙ w.in_ok-push.ensures.items)) (each_append P c.loop-name.absent.items (get_or c.args.names.now c.loop-name.name-index (record { number = 0 }) ∷ []) c.loop-name.invariant ((here, sym c.stands.ensures ∙ e), tt))
      | else-not-stands w ↦ subst (EachOf P) (sym (λ i. (w.absent-is i).items)) c.loop-name.invariant
    ]

pub returns : goal.returns
returns c =
    let f = tree c.args.store.now c.args.id in
    let atoms = listed_atoms c.args.store.now c.deref.result.now in
    let are = subst (λ (is : List FormulaId). AreAtomsOf f (listed_atoms c.args.store.now is)) (sym c.deref.ensures.value) c.in_ok-ids.ensures.atoms in
    each_map (λ (x : VarId). Among c.args.names.now x × (is_some (get nat_eq c.in_ok-table.table x.number) ≡ false)) (λ (x : VarId). Among c.args.names.now x × ¬ (IsFree f x.number))
    (λ x h. (h.0, absent_where_not f x.number (map atom_of atoms) c.requires.tidy.is_plain are.same (sym (c.in_ok-table.ensures.stands x.number) ∙ h.1))) c.loop-name.absent.items c.loop-name.invariant
