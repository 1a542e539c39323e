use Rattle.std.proofs.Common.{sym}
use Rattle.theory_simplifier.proofs.Keeping.{if_ok_map}
use Rattle.branch_pruning.proofs.Walking.{rows_length}
use Rattle.branch_pruning.proofs.cutting.Cutter.needed.Goals as goal

pub returns-then-compared-eq0-clause-kept : goal.returns-then-compared-eq0-clause-kept
returns-then-compared-eq0-clause-kept c = if_ok_map c.all_needed.result _ _ (λ k h o ks us a b. h o ks us (sym (rows_length o us c.args.rows.now b))) c.all_needed.ensures
