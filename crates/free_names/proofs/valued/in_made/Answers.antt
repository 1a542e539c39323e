use Rattle.std.proofs.Common.{List, ℕ, sym, ◌∙◌, subst}
use Rattle.std.specs.Ordering.{nat_cmp}
use Rattle.std.specs.BTreeSet.{contains}
use Rattle.logic_meaning.specs.Tree.{IsFree}
use Rattle.formula_store.specs.Nodes.{tree}
use Rattle.free_names.specs.Missing.{AreMissing, numbers_at}
use Rattle.free_names.specs.Scopes.{AreAmong, IsIn}
use Rattle.free_names.proofs.Parts.{among_missing}
use Rattle.free_names.proofs.valued.in_made.Goals as goal
use Rattle.free_names.proofs.valued.in_made.Goals.{then-not-contains_key+in_ok-look_into, else-not-contains_key}

pub returns-clause-among : goal.returns-clause-among
returns-clause-among c =
    let nodes = c.args.around.now.store.now in
    let v = contains nat_cmp c.args.around.now.valued.now in
    let opened = contains nat_cmp c.args.opened.now in
    let missing : AreMissing (IsFree (tree nodes c.args.id)) v (numbers_at c.if-not-contains_key.table c.args.id) =
    elim c.if-not-contains_key.branch [
      | then-not-contains_key+in_ok-look_into w ↦ rw w.table-is (w.in_ok-look_into.ensures.sound c.args.id w.in_ok-look_into.ensures.there)
      | else-not-contains_key w ↦ rw w.table-is (c.requires.sound c.args.id (sym c.contains_key.ensures ∙ w.if-not-contains_key.false))
    ] in
    among_missing (IsFree (tree nodes c.args.id)) v opened (numbers_at c.if-not-contains_key.table c.args.id) c.are_in.result missing
    (subst (λ (ns : List ℕ). AreAmong (λ n. IsIn n ns) opened c.are_in.result) c.numbers.ensures c.are_in.ensures)
