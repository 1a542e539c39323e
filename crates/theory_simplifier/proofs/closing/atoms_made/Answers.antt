use Rattle.std.proofs.Common.{rules, ◌≡◌, ◌++◌, ◌∷◌, [], map, sym, ap, subst, ◌∙◌}
use Rattle.std.specs.List.{AllByRecursion}
use Rattle.formula_store.specs.Nodes.{tree, IsId}
use Rattle.theory_simplifier.proofs.Keeping.{keeps_then, still_ids, one_more, all_joined}
use Rattle.theory_simplifier.proofs.closing.atoms_made.Goals as goal

pub returns-in_err-id-clause-kept : goal.returns-in_err-id-clause-kept
returns-in_err-id-clause-kept c = keeps_then c.args.store.now c.loop-entry.store c.atom_made.new.store c.loop-entry.invariant.kept c.atom_made.ensures.kept

pub returns-in_err-push-clause-kept : goal.returns-in_err-push-clause-kept
returns-in_err-push-clause-kept c = keeps_then c.args.store.now c.loop-entry.store c.atom_made.new.store c.loop-entry.invariant.kept c.atom_made.ensures.kept

pub member_at-same-requires : goal.member_at-same-requires
member_at-same-requires c = c.loop-entry.invariant.kept.is c.args.before c.requires

pub loop-entry-preserved : goal.loop-entry-preserved
loop-entry-preserved c =
    let pushed : c.push.new.self.items ≡ c.loop-entry.ids.items ++ c.in_ok-id.id ∷ [] = search rules in
    record {
      are = subst (AllByRecursion (IsId c.atom_made.new.store)) (sym pushed)
          (all_joined (IsId c.atom_made.new.store) c.loop-entry.ids.items (c.in_ok-id.id ∷ []) (still_ids c.loop-entry.store c.atom_made.new.store c.atom_made.ensures.kept c.loop-entry.ids.items c.loop-entry.invariant.are) (c.in_ok-id.ensures.made.is, tt));
      made = ap (map (tree c.atom_made.new.store)) pushed
          ∙ one_more c.loop-entry.store c.atom_made.new.store c.atom_made.ensures.kept c.loop-entry.ids.items c.in_ok-id.id c.entries-entry-items.result.now c.loop-entry.entry-index c.entry-item.result
          c.loop-entry.invariant.are c.loop-entry.invariant.made c.in_ok-id.ensures.made.same c.loop-entry-test.true c.entry-item.is;
      kept = keeps_then c.args.store.now c.loop-entry.store c.atom_made.new.store c.loop-entry.invariant.kept c.atom_made.ensures.kept;
    }
