use Rattle.std.proofs.Common.{◌≡◌, List, ℕ, [], ◌∷◌, ◌++◌, subst, sym}
use Rattle.std.specs.Ordering.{nat_cmp}
use Rattle.std.specs.Cmp.Lexicographic.{slice_cmp}
use Rattle.std.specs.BTreeSet.{contains}
use Rattle.written_syntax.specs.CodeTrees.{formula_tree}
use Rattle.written_syntax.specs.Valued.{prefix_of}
use Rattle.written_syntax.proofs.NameSearch.{IsOpening, opening_known, opening_new, opening_end, was_absent, was_known}
use Rattle.written_syntax.proofs.Quantified.{unquantified, no_prefix, after_name}
use Rattle.written_syntax.proofs.valued.open_scope.Goals as goal
use Rattle.written_syntax.proofs.valued.open_scope.Goals.{then-branch+in_ok-push, else-branch}

pub prefix-preserved : goal.prefix-preserved
prefix-preserved c =
    let bound = prefix_of (formula_tree c.args.formula.now) in
    let left = prefix_of (formula_tree c.deref-inner.result.now) in
    let old = contains (slice_cmp nat_cmp) c.args.names.now in
    let now = contains (slice_cmp nat_cmp) c.prefix.names in
    let new = contains (slice_cmp nat_cmp) c.insert.new.self in
    let name = c.in-Ex.name in
    let so_far = subst (λ (l : List (List ℕ)). IsOpening bound l old now c.prefix.opened.items) (after_name _ name c.in-Ex.body _ c.in-Ex.is c.deref-inner.ensures) c.prefix.invariant in
    elim c.if-branch.branch [
      | then-branch+in_ok-push w ↦
          let more : c.if-branch.opened.items ≡ c.prefix.opened.items ++ name ∷ [] = cc (w.opened-is, w.in_ok-push.ensures.items) in
          subst (λ (o : List (List ℕ)). IsOpening bound left old new o) (sym more)
          (opening_new bound left old now new c.prefix.opened.items name so_far (was_absent _ _ c.in_ok-insert.ensures.added w.if-branch.true) (λ x. c.in_ok-insert.ensures.updates.0 x))
      | else-branch w ↦
          let same : c.if-branch.opened.items ≡ c.prefix.opened.items = cc (w.opened-is) in
          subst (λ (o : List (List ℕ)). IsOpening bound left old new o) (sym same)
          (opening_known bound left old now new c.prefix.opened.items name so_far (was_known _ _ c.in_ok-insert.ensures.added w.if-branch.false) (λ x. c.in_ok-insert.ensures.updates.0 x))
    ]

pub returns : goal.returns
returns c =
    let bound = prefix_of (formula_tree c.args.formula.now) in
    let old = contains (slice_cmp nat_cmp) c.args.names.now in
    let now = contains (slice_cmp nat_cmp) c.prefix.names in
    opening_end bound old now c.prefix.opened.items
    (subst (λ (l : List (List ℕ)). IsOpening bound l old now c.prefix.opened.items) (no_prefix _ (unquantified _ c.in_default.not-Ex c.in_default.not-All)).0 c.prefix.invariant)
