use Rattle.std.proofs.Common.{◌≡◌, ◌++◌, [], ◌∷◌, List, map, sym, ap, subst, ◌∙◌, append_assoc, rules}
use Rattle.std.specs.List.{AllByRecursion}
use Rattle.std.proofs.lemmas.List.{map-append}
use Rattle.logic_meaning.specs.Tree.{Tree}
use Rattle.normal_atoms.specs.declared.atoms.Atom.{Atom}
use Rattle.normal_atoms.specs.Atoms.{IsWellFormed}
use Rattle.formula_tree.specs.Makers.{AreMade}
use Rattle.formula_store.specs.declared.id.FormulaId.{FormulaId}
use Rattle.formula_store.specs.Nodes.{tree, IsId}
use Rattle.formula_store.proofs.Makes.{keeps_then}
use Rattle.narrowed_blocks.proofs.Lasts.{made_more, one_of}
use Rattle.narrowed_blocks.proofs.conjunction.made.Goals as goal

pub returns-in_err-push-clause-kept : goal.returns-in_err-push-clause-kept
returns-in_err-push-clause-kept c = keeps_then c.args.store.now c.loop-atom.store c.make.new.self c.loop-atom.invariant.kept c.make.ensures.kept

pub loop-atom-preserved : goal.loop-atom-preserved
loop-atom-preserved c =
    let a = c.loop-atom.store in
    let b = c.make.new.self in
    let item : Atom = c.in-Some.atom in
    let seen : List Atom = c.loop-atom.yielded in
    let rest : List Atom = c.next.new.self.rest.items in
    let next : c.loop-atom.atom-iterator.rest.items ≡ item ∷ rest = search rules in
    record {
      can = tt;
      finite = tt;
      kept = keeps_then c.args.store.now a b c.loop-atom.invariant.kept c.make.ensures.kept;
      made = subst (λ (ids : List FormulaId). AreMade (IsId b) (tree b) ids (map one_of (seen ++ item ∷ []))) (sym {A = List FormulaId} c.in_ok-push.ensures.items)
          (subst (λ (fs : List Tree). AreMade (IsId b) (tree b) (c.loop-atom.ids.items ++ c.in_ok-id.id ∷ []) fs) (sym (map-append one_of seen (item ∷ [])))
          (made_more a b c.make.ensures.kept c.loop-atom.ids.items (map one_of seen) c.loop-atom.invariant.made c.in_ok-id.id (one_of item) c.in_ok-id.ensures.made));
      all = append_assoc seen (item ∷ []) rest ∙ ap (λ (l : List Atom). seen ++ l) (sym next) ∙ c.loop-atom.invariant.all;
      well_formed = (subst (λ (l : List Atom). AllByRecursion IsWellFormed l) next c.loop-atom.invariant.well_formed).1;
    }
