use Rattle.std.proofs.Common.{◌≡◌, ◌∷◌, [], ◌++◌, List, length, get_or, false, true, sym, ap, ◌∙◌, subst, arith, rules, append_assoc}
use Rattle.std.proofs.lemmas.Grind.{common_steps}
use Rattle.atom_pruning.specs.declared.rows.AtomRows.{AtomRows}
use Rattle.atom_pruning.specs.Rows.{AreRows}
use Rattle.atom_pruning.specs.Kept.{marked}
use Rattle.branch_pruning.specs.Cuts.{AreToldBy}
use Rattle.branch_pruning.proofs.Conjunctions.{told_more}
use Rattle.branch_pruning.proofs.Walking.{row_said}
use Rattle.branch_pruning.proofs.cutting.Cutter.assume.Goals as goal

pub loop-row-preserved-then-is_some : goal.loop-row-preserved-then-is_some
loop-row-preserved-then-is_some c =
    let i = c.loop-row.invariant in
    let row = c.in-Some.row in
    let left : List AtomRows = c.pop.new.self.items in
    let all : List AtomRows = c.args.rows.items in
    let popped : c.loop-row.rows.items ≡ left ++ row ∷ [] = c.in-Some.ensures.items in
    let rest : List AtomRows = i.split.0 in
    let split : all ≡ left ++ row ∷ rest = i.split.1 ∙ ap (λ rs. rs ++ rest) popped ∙ append_assoc left (row ∷ []) rest in
    let pushed : c.push.new.self.items ≡ c.loop-row.self.assumed.items ++ row ∷ [] = search rules in
    let mark : get_or c.args.marks.now (length left) false ≡ true = grind (arith, common_steps) in
    record {
      few = omega arith;
      split = (row ∷ rest, split);
      told = λ o ks us a b.
          let said = row_said o left row rest us c.args.marks.now (subst (AreRows o us) split b) mark in
          subst (AreToldBy o ks (marked c.args.marks.now us)) (sym pushed) (told_more o ks (marked c.args.marks.now us) c.loop-row.self.assumed.items said.0 row (i.told o ks us a b) said.1 said.2);
      more = (i.more.0 ++ row ∷ [], pushed ∙ ap (λ rs. rs ++ row ∷ []) i.more.1 ∙ append_assoc c.args.self.now.assumed.items i.more.0 (row ∷ []));
      context = i.context;
      effort = i.effort;
    }
