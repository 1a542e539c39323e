use Rattle.std.proofs.Common.{◌≡◌, ◌+◌, ◌++◌, [], ◌∷◌, List, get_or, map, take, sym, ap, subst, ◌∙◌}
use Rattle.std.proofs.lemmas.List.{take_more, map-append}
use Rattle.logic_meaning.specs.Formula.{One}
use Rattle.logic_meaning.specs.Tree.{Tree}
use Rattle.normal_atoms.specs.declared.atoms.Atom.{Atom}
use Rattle.normal_atoms.specs.Atoms.{atom_of}
use Rattle.formula_tree.specs.Makers.{AreMade}
use Rattle.formula_store.specs.declared.id.FormulaId.{FormulaId}
use Rattle.formula_store.specs.Nodes.{tree, IsId}
use Rattle.formula_store.proofs.Makes.{keeps_then}
use Rattle.short_answers.proofs.Keeping.{made_more}
use Rattle.short_answers.proofs.atoms.formulas_of.Goals as goal

pub returns-in_err-id-clause-kept : goal.returns-in_err-id-clause-kept
returns-in_err-id-clause-kept c = keeps_then c.args.store.now c.loop-atom.store c.formula_of.new.store c.loop-atom.invariant.kept c.formula_of.ensures.kept

pub returns-in_err-push-clause-kept : goal.returns-in_err-push-clause-kept
returns-in_err-push-clause-kept c = keeps_then c.args.store.now c.loop-atom.store c.formula_of.new.store c.loop-atom.invariant.kept c.formula_of.ensures.kept

pub loop-atom-preserved : goal.loop-atom-preserved
loop-atom-preserved c =
    let a = c.loop-atom.store in
    let b = c.formula_of.new.store in
    let atoms : List Atom = c.args.atoms.now in
    let i = c.loop-atom.atom-index in
    let item : Atom = c.atom-item.result in
    let one = λ (x : Atom). One (atom_of x) in
    let more : map one (take (i + 1) atoms) ≡ map one (take i atoms) ++ one item ∷ [] =
    ap (map one) (take_more atoms i item c.loop-atom-test.true) ∙ map-append one (take i atoms) (get_or atoms i item ∷ []) ∙ ap (λ (x : Atom). map one (take i atoms) ++ one x ∷ []) (sym c.atom-item.is) in
    record {
      kept = keeps_then c.args.store.now a b c.loop-atom.invariant.kept c.formula_of.ensures.kept;
      made = subst (λ (ids : List FormulaId). AreMade (IsId b) (tree b) ids (map one (take (i + 1) atoms))) (sym c.in_ok-push.ensures.items)
          (subst (λ (fs : List Tree). AreMade (IsId b) (tree b) (c.loop-atom.ids.items ++ c.in_ok-id.id ∷ []) fs) (sym more)
          (made_more a b c.formula_of.ensures.kept c.loop-atom.ids.items (map one (take i atoms)) c.loop-atom.invariant.made c.in_ok-id.id (one item) c.in_ok-id.ensures.made));
    }
