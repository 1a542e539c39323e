use Rattle.std.proofs.Common.{rules, arith, ◌≡◌, ◌∷◌, true, false, List, Err, suc, nat_eq, sym, ap, ◌∙◌, subst}
use Rattle.logic_meaning.specs.Every.{Every}
use Rattle.logic_meaning.specs.Shape.{is_in, quantified}
use Rattle.logic_meaning.specs.Sizes.{nodes}
use Rattle.normal_atoms.specs.Atoms.{context_of, IsWellFormed}
use Rattle.logic_meaning.specs.Measured.{then_of}
use Rattle.logic_meaning.specs.Reference.{branches, branch_trees, steps}
use Rattle.logic_meaning.specs.declared.form.VarId.{VarId}
use Rattle.nnf_trees.specs.declared.nnf.Nnf.{Nnf}
use Rattle.nnf_trees.specs.Nnfs.{nnf_of, nnf_atoms, IsProper}
use Rattle.nnf_trees.proofs.NnfEquations.{nnf-Quantified, atoms-Quantified}
use Rattle.nnf_trees.proofs.FormLaws.{quantified_nodes}
use Rattle.reference_engine.specs.Ready.{IsReady}
use Rattle.reference_engine.specs.Told.{is_ex, numbers, seen}
use Rattle.reference_engine.proofs.Arms.{true_is_not_false}
use Rattle.reference_engine.proofs.Readiness.{quantified_ready, branches_inside}
use Rattle.reference_engine.proofs.Seen.{stops_then, stops_along}
use Rattle.reference_engine.specs.Stand.{goes_on}
use Rattle.reference_engine.proofs.Standing.{done_of, inside_of}
use Rattle.reference_engine.proofs.Chaining.{chain_step, quantified_begun}
use Rattle.plain_samples.specs.Rooted.{ComeFrom}
use Rattle.plain_samples.proofs.Rooting.{rooted_err, rooted_along}
use Rattle.plain_samples.proofs.chain.+rooted_leaves.Goals as goal
use Rattle.plain_samples.proofs.chain.+rooted_leaves.Goals.{else-exists-sign-via-then-exists-sign+else-not-stands_in, else-exists-sign-via-else-exists-sign}
use mathlib.Core.Bool.{beq}

pub rooted_leaves-requires : goal.rooted_leaves-requires
rooted_leaves-requires t c =
    let o = context_of c.args.setting.context in
    let q = c.in-Quantified in
    let g = c.deref-then-not-stands_in.result.now in
    let opened = c.deref-then-not-stands_in.ensures in
    let is : nnf_of c.args.f.now ≡ quantified q.quantifier q.x.number (nnf_of q.inner.value) = ap nnf_of q.is ∙ nnf-Quantified q.quantifier q.x q.inner in
    let smaller : nodes (nnf_of c.args.f.now) ≡ suc (nodes (nnf_of g)) = ap nodes is ∙ quantified_nodes q.quantifier q.x.number (nnf_of q.inner.value) ∙ ap (λ (h : Nnf). suc (nodes (nnf_of h))) (sym opened) in
    let ready : IsReady o (nnf_of g) = subst (λ (h : Nnf). IsReady o (nnf_of h)) (sym opened) (quantified_ready o q.quantifier q.x.number (nnf_of q.inner.value) (subst (IsReady o) is c.requires.ready)) in (
      omega (arith, smaller, c.decreases),
      (subst IsProper (sym opened) (subst (Every IsWellFormed) (ap nnf_atoms q.is ∙ atoms-Quantified q.quantifier q.x q.inner) c.requires.proper), ready),
    )

pub returns-in_err-inside-in-Quantified-clause-told : goal.returns-in_err-inside-in-Quantified-clause-told
returns-in_err-inside-in-Quantified-clause-told t c =
    let o = context_of c.args.setting.context in
    let limit = c.args.setting.limit in
    let q = c.in-Quantified in
    let x = q.x.number in
    let f = nnf_of c.args.f.now in
    let g = nnf_of c.deref-then-not-stands_in.result.now in
    let is : f ≡ quantified q.quantifier x g = ap nnf_of q.is ∙ nnf-Quantified q.quantifier q.x q.inner ∙ ap (λ (h : Nnf). quantified q.quantifier x (nnf_of h)) (sym c.deref-then-not-stands_in.ensures) in
    let same : beq (is_ex q.quantifier) c.args.sign ≡ true = ap (λ b. beq b c.args.sign) (sym c.is_ex-exists.ensures) ∙ c.if-exists-sign.true in
    let new : is_in nat_eq x (numbers c.args.names.items) ≡ false = ap (λ (xs : List VarId). is_in nat_eq x (numbers xs)) (sym c.deref.ensures.value) ∙ sym c.stands_in.ensures ∙ c.if-not-stands_in.true in
    let names = c.in_ok-names-in-Quantified.names.items in
    let more : numbers names ≡ x ∷ numbers c.args.names.items = ap numbers c.in_ok-names-in-Quantified.ensures.names in
    let e = c.in_err-inside-in-Quantified.field-0.0 in
    let err : c.from_residual-in_err-inside-in-Quantified.result ≡ Err e = search rules in
    let step = chain_step o limit (numbers c.args.names.items) (numbers names) c.args.sign q.quantifier x f g c.args.cost.now is more same new in
    rooted_err o c.from_residual-in_err-inside-in-Quantified.result e c.rooted_leaves.new.cost (branches o limit (numbers c.args.names.items) c.args.sign f c.args.cost.now) err
    (stops_along e _ _ (sym step) (stops_then e (branches o limit (numbers names) c.args.sign g c.args.cost.now) _ c.in_err-inside-in-Quantified.ensures.told))

pub returns-in_ok-inside-in-Quantified-clause-told : goal.returns-in_ok-inside-in-Quantified-clause-told
returns-in_ok-inside-in-Quantified-clause-told t c =
    let o = context_of c.args.setting.context in
    let limit = c.args.setting.limit in
    let q = c.in-Quantified in
    let x = q.x.number in
    let f = nnf_of c.args.f.now in
    let g = nnf_of c.deref-then-not-stands_in.result.now in
    let is : f ≡ quantified q.quantifier x g = ap nnf_of q.is ∙ nnf-Quantified q.quantifier q.x q.inner ∙ ap (λ (h : Nnf). quantified q.quantifier x (nnf_of h)) (sym c.deref-then-not-stands_in.ensures) in
    let same : beq (is_ex q.quantifier) c.args.sign ≡ true = ap (λ b. beq b c.args.sign) (sym c.is_ex-exists.ensures) ∙ c.if-exists-sign.true in
    let new : is_in nat_eq x (numbers c.args.names.items) ≡ false = ap (λ (xs : List VarId). is_in nat_eq x (numbers xs)) (sym c.deref.ensures.value) ∙ sym c.stands_in.ensures ∙ c.if-not-stands_in.true in
    let names = c.in_ok-names-in-Quantified.names.items in
    let more : numbers names ≡ x ∷ numbers c.args.names.items = ap numbers c.in_ok-names-in-Quantified.ensures.names in
    let step = chain_step o limit (numbers c.args.names.items) (numbers names) c.args.sign q.quantifier x f g c.args.cost.now is more same new in
    let d = done_of c.in_ok-inside-in-Quantified.inside.leaves.items c.rooted_leaves.new.cost (branches o limit (numbers names) c.args.sign g c.args.cost.now) c.in_ok-inside-in-Quantified.ensures.told.0 in
    rooted_along o c.stepped.result c.stepped.new.cost (steps o limit x d.branches c.rooted_leaves.new.cost) (branches o limit (numbers c.args.names.items) c.args.sign f c.args.cost.now)
    (sym (step ∙ ap (λ p. then_of p (λ r. steps o limit x r.0 r.1)) d.is)) (c.stepped.ensures.told d.branches d.stand (subst (ComeFrom o (nnf_of c.in_ok-inside-in-Quantified.inside.root)) d.is c.in_ok-inside-in-Quantified.ensures.told.1))

pub stepped-requires-clause-inside : goal.stepped-requires-clause-inside
stepped-requires-clause-inside t c =
    let o = context_of c.args.setting.context in
    let limit = c.args.setting.limit in
    let q = c.in-Quantified in
    let g = c.deref-then-not-stands_in.result.now in
    let names = c.in_ok-names-in-Quantified.names.items in
    let is : nnf_of c.args.f.now ≡ quantified q.quantifier q.x.number (nnf_of q.inner.value) = ap nnf_of q.is ∙ nnf-Quantified q.quantifier q.x q.inner in
    let ready : IsReady o (nnf_of g) = subst (λ (h : Nnf). IsReady o (nnf_of h)) (sym c.deref-then-not-stands_in.ensures) (quantified_ready o q.quantifier q.x.number (nnf_of q.inner.value) (subst (IsReady o) is c.requires.ready)) in
    let d = done_of c.in_ok-inside-in-Quantified.inside.leaves.items c.rooted_leaves.new.cost (branches o limit (numbers names) c.args.sign (nnf_of g) c.args.cost.now) c.in_ok-inside-in-Quantified.ensures.told.0 in
    inside_of o c.in_ok-inside-in-Quantified.inside.leaves.items d.branches d.stand
    (branches_inside o limit (numbers names) c.args.sign (nnf_of g) c.args.cost.now c.rooted_leaves.new.cost (branch_trees d.branches) ready (ap seen d.is))

pub begun-requires-clause-begins : goal.begun-requires-clause-begins
begun-requires-clause-begins t c =
    let q = c.in-Quantified in
    let x = q.x.number in
    let names = numbers c.args.names.items in
    let is : nnf_of c.args.f.now ≡ quantified q.quantifier x (nnf_of q.inner.value) = ap nnf_of q.is ∙ nnf-Quantified q.quantifier q.x q.inner in
    let stands : beq (is_ex q.quantifier) c.args.sign ≡ true → is_in nat_eq x names ≡ true
    = elim c.else-exists-sign.branch [
      | else-exists-sign-via-then-exists-sign+else-not-stands_in w ↦ λ e. ap (λ (xs : List VarId). is_in nat_eq x (numbers xs)) (sym w.deref.ensures.value) ∙ sym w.stands_in.ensures ∙ w.if-not-stands_in.false
      | else-exists-sign-via-else-exists-sign w ↦ λ e. absurd (true_is_not_false (sym e ∙ ap (λ b. beq b c.args.sign) (sym c.is_ex-exists.ensures) ∙ w.if-exists-sign.false))
    ] in
    ap (goes_on c.args.sign names) is ∙ quantified_begun c.args.sign names q.quantifier x (nnf_of q.inner.value) stands
