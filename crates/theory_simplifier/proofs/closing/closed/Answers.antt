use Rattle.std.proofs.Common.{rules, ◌≡◌, ◌++◌, Some, map, sym, ap, subst, ◌∙◌}
use Rattle.std.specs.List.{AllByRecursion}
use Rattle.logic_meaning.specs.Fold.{from_pieces}
use Rattle.shape_theory.specs.Pass.{close}
use Rattle.logic_meaning.specs.AtomsFirst.{ones}
use Rattle.formula_tree.specs.Trees.{members}
use Rattle.formula_store.specs.Nodes.{tree, IsId}
use Rattle.theory_simplifier.specs.Parts.{parts_of, HasIds}
use Rattle.theory_simplifier.proofs.Keeping.{if_ok_map, keeps_then, still_ids, still_trees, all_joined, ones_members}
use Rattle.theory_simplifier.proofs.closing.closed.Goals as goal

pub whole-requires-clause-before : goal.whole-requires-clause-before
whole-requires-clause-before c = c.atoms_made.ensures.kept.is c.args.before c.requires.before

pub whole-requires-clause-ids : goal.whole-requires-clause-ids
whole-requires-clause-ids c =
    let all : c.extend_from_slice.new.self.items ≡ c.in_ok-ids.ids.items ++ c.in-Open.others = search rules in
    let old : AllByRecursion (IsId c.args.store.now) c.in-Open.others = subst (HasIds c.args.store.now) c.in-Open.is c.requires.ids in
    subst (AllByRecursion (IsId c.atoms_made.new.store)) (sym all)
    (all_joined (IsId c.atoms_made.new.store) c.in_ok-ids.ids.items c.in-Open.others c.in_ok-ids.ensures.are (still_ids c.args.store.now c.atoms_made.new.store c.atoms_made.ensures.kept c.in-Open.others old))

pub returns-clause-made : goal.returns-clause-made
returns-clause-made c =
    let all : c.extend_from_slice.new.self.items ≡ c.in_ok-ids.ids.items ++ c.in-Open.others = search rules in
    let old : AllByRecursion (IsId c.args.store.now) c.in-Open.others = subst (HasIds c.args.store.now) c.in-Open.is c.requires.ids in
    let j = c.args.junction in
    let t = tree c.atoms_made.new.store in
    let list : from_pieces j (Some (members (map t c.extend_from_slice.new.self.items))) ≡ close j (parts_of (tree c.args.store.now) c.args.parts) =
    ap (λ fs. from_pieces j (Some fs))
    (ap (λ ids. members (map t ids)) all ∙ ones_members t c.in_ok-ids.ids.items c.in-Open.others c.in-Open.atoms.atoms c.in_ok-ids.ensures.made
    ∙ ap (λ fs. ones c.in-Open.atoms.atoms (members fs)) (still_trees c.args.store.now c.atoms_made.new.store c.atoms_made.ensures.kept c.in-Open.others old))
    ∙ ap (λ s. close j (parts_of (tree c.args.store.now) s)) (sym c.in-Open.is) in
    if_ok_map c.whole.result _ _ (λ id m. record { is = m.is; same = m.same ∙ list }) c.whole.ensures.made

pub returns-clause-kept : goal.returns-clause-kept
returns-clause-kept c = keeps_then c.args.store.now c.atoms_made.new.store c.whole.new.store c.atoms_made.ensures.kept c.whole.ensures.kept
