use Rattle.std.proofs.Common.{◌≡◌, true, false, List, ℕ, [], ◌∷◌, ◌++◌, map, subst, ap}
use Rattle.std.specs.Ordering.{nat_cmp}
use Rattle.std.specs.BTreeSet.{contains}
use Rattle.written_syntax.specs.CodeTrees.{formula_tree}
use Rattle.written_syntax.specs.Valued.{prefix_of}
use Rattle.written_syntax.proofs.NameSearch.{was_absent, was_known}
use Rattle.written_syntax.proofs.Quantified.{unquantified, no_prefix, after_name}
use Rattle.logic_meaning.specs.Names.{place}
use Rattle.free_names.proofs.Lists.{Puts}
use Rattle.free_names.proofs.Scopes.{IsOpening, opening_known, opening_new, opening_end}
use Rattle.free_names.proofs.valued.open_scope.Goals as goal
use Rattle.free_names.proofs.valued.open_scope.Goals.{then-branch+in_ok-push, else-branch}

pub prefix-preserved : goal.prefix-preserved
prefix-preserved c =
    let number = place c.args.around.now.names.now in
    let bound = map number (prefix_of (formula_tree c.args.formula.now)) in
    let left = map number (prefix_of (formula_tree c.deref-inner.result.now)) in
    let old = contains nat_cmp c.args.opened.now in
    let now = contains nat_cmp c.prefix.opened in
    let new = contains nat_cmp c.insert.new.self in
    let k : ℕ = number c.in-Ex.name in
    let so_far = subst (λ (l : List ℕ). IsOpening bound l old now c.prefix.new.items) (ap (map number) (after_name _ c.in-Ex.name c.in-Ex.body _ c.in-Ex.is c.deref-inner.ensures)) c.prefix.invariant in
    let puts : Puts now new k = subst (λ (m : ℕ). Puts now new m) c.place-number.ensures (λ n. c.in_ok-insert.ensures.updates.0 n) in
    elim c.if-branch.branch [
      | then-branch+in_ok-push w ↦
          let more : c.if-branch.new.items ≡ c.prefix.new.items ++ k ∷ [] = cc (w.new-is, w.in_ok-push.ensures.items, c.place-number.ensures) in
          rw more (opening_new bound left old now new c.prefix.new.items k so_far (subst (λ (m : ℕ). now m ≡ false) c.place-number.ensures (was_absent _ _ c.in_ok-insert.ensures.added w.if-branch.true)) puts)
      | else-branch w ↦
          let same : c.if-branch.new.items ≡ c.prefix.new.items = cc (w.new-is) in
          rw same (opening_known bound left old now new c.prefix.new.items k so_far (subst (λ (m : ℕ). now m ≡ true) c.place-number.ensures (was_known _ _ c.in_ok-insert.ensures.added w.if-branch.false)) puts)
    ]

pub returns : goal.returns
returns c =
    let number = place c.args.around.now.names.now in
    let bound = map number (prefix_of (formula_tree c.args.formula.now)) in
    let old = contains nat_cmp c.args.opened.now in
    let now = contains nat_cmp c.prefix.opened in
    opening_end bound old now c.prefix.new.items
    (subst (λ (l : List ℕ). IsOpening bound l old now c.prefix.new.items) (ap (map number) (no_prefix _ (unquantified _ c.in_default.not-Ex c.in_default.not-All)).0) c.prefix.invariant)
