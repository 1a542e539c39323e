use Rattle.std.proofs.Common.{rules, ◌≡◌, ◌≤◌, ◌+◌, ◌∷◌, ◌++◌, [], List, true, false, not, nat_eq, drop, Err, sym, ap, ◌∙◌, subst, arith}
use Rattle.std.proofs.lemmas.List.{at_drop_all}
use Rattle.std.specs.declared.vec.Vec.{Vec}
use Rattle.std.specs.declared.alloc.Global.{Global}
use Rattle.logic_meaning.specs.Fold.{append, fold_list}
use Rattle.logic_meaning.specs.TurnedJunction.{turned_junction}
use Rattle.logic_meaning.specs.declared.junction.Junction.TheVariants.{Disjunction}
use Rattle.logic_meaning.specs.Formula.{One}
use Rattle.logic_meaning.specs.Shape.{is_in}
use Rattle.logic_meaning.specs.Sizes.{nodes, all_nodes}
use Rattle.normal_atoms.specs.Atoms.{context_of, atom_of}
use Rattle.logic_meaning.specs.Measured.{done}
use Rattle.logic_meaning.specs.Reference.{branches, members}
use Rattle.nnf_trees.specs.declared.nnf.Nnf.{Nnf}
use Rattle.nnf_trees.specs.Nnfs.{nnf_of, nnfs_of, AreProper}
use Rattle.nnf_trees.proofs.Counting.{drop_at}
use Rattle.nnf_trees.proofs.Pieces.{itself_proper, lists_joined}
use Rattle.nnf_trees.proofs.NnfEquations.{nnf-Constant, nnf-One, nnf-Joined}
use Rattle.logic_meaning.specs.declared.form.VarId.{VarId}
use Rattle.logic_meaning.specs.declared.junction.Junction.{Junction}
use Rattle.reference_engine.specs.Ready.{AreReady}
use Rattle.reference_engine.specs.Told.{closed_branches, Told, seen, formulas_of, numbers, prefixed, only, joined_after, is_ex}
use Rattle.reference_engine.proofs.Seen.{stops_then, stops_along, err_told, told_as, append_none}
use Rattle.reference_engine.proofs.Arms.{constant_branch, atom_branch, joined_branch, goes_on, ends, one_member_more, true_is_not_false}
use Rattle.reference_engine.proofs.Readiness.{branches_inside}
use Rattle.reference_engine.proofs.branches.+branches.Goals as goal
use Rattle.reference_engine.proofs.branches.+branches.Goals.{quantified-else-exists-sign-via-then-exists-sign+else-not-stands_in, quantified-else-exists-sign-via-else-exists-sign}
use mathlib.Core.Bool.{beq}

pub chained-steps-requires-clause-in_context : goal.chained-steps-requires-clause-in_context
chained-steps-requires-clause-in_context t c =
    branches_inside (context_of c.args.setting.context) c.args.setting.limit _ c.args.sign (nnf_of c.args.f.now) c.args.cost.now c.branches.new.cost (formulas_of c.in_ok-left.left.items) c.requires.ready c.in_ok-left.ensures.told

pub quantified-returns-then-not-stands_in-clause-told : goal.quantified-returns-then-not-stands_in-clause-told
quantified-returns-then-not-stands_in-clause-told t c =
    let same : beq (is_ex c.args.quantifier) c.args.sign ≡ true = ap (λ b. beq b c.args.sign) (sym c.is_ex-exists.ensures) ∙ c.if-exists-sign.true in
    let new : is_in nat_eq c.args.x.number (numbers c.args.names.items) ≡ false = ap (λ (xs : List VarId). is_in nat_eq c.args.x.number (numbers xs)) (sym c.deref.ensures.value) ∙ sym c.stands_in.ensures ∙ c.if-not-stands_in.true in
    subst (Told (λ (v : Vec Nnf Global). formulas_of v.items) c.chained.result c.chained.new.cost)
    (sym (goes_on (context_of c.args.setting.context) c.args.setting.limit (numbers c.args.names.items) c.args.sign c.args.quantifier c.args.x.number (nnf_of c.args.f.now) c.args.cost.now same new)) c.chained.ensures.told

pub quantified-returns-else-exists-sign-clause-told : goal.quantified-returns-else-exists-sign-clause-told
quantified-returns-else-exists-sign-clause-told t c =
    let stands : beq (is_ex c.args.quantifier) c.args.sign ≡ true → is_in nat_eq c.args.x.number (numbers c.args.names.items) ≡ true
    = elim c.else-exists-sign.branch [
      | quantified-else-exists-sign-via-then-exists-sign+else-not-stands_in w ↦ λ e. ap (λ (xs : List VarId). is_in nat_eq c.args.x.number (numbers xs)) (sym w.deref.ensures.value) ∙ sym w.stands_in.ensures ∙ w.if-not-stands_in.false
      | quantified-else-exists-sign-via-else-exists-sign w ↦ λ e. absurd (true_is_not_false (sym e ∙ ap (λ b. beq b c.args.sign) (sym c.is_ex-exists.ensures) ∙ w.if-exists-sign.false))
    ] in
    let told = subst (λ b. Told (λ (v : Vec Nnf Global). formulas_of v.items) c.closed.result c.closed.new.cost (closed_branches (context_of c.args.setting.context) c.args.setting.limit (beq b c.args.sign) b c.args.x.number (nnf_of c.args.f.now) c.args.cost.now)) c.is_ex-exists.ensures c.closed.ensures.told in
    subst (Told (λ (v : Vec Nnf Global). formulas_of v.items) c.closed.result c.closed.new.cost)
    (sym (ends (context_of c.args.setting.context) c.args.setting.limit (numbers c.args.names.items) c.args.sign c.args.quantifier c.args.x.number (nnf_of c.args.f.now) c.args.cost.now stands)) told

pub branches-returns-in_ok-alone-in-Constant-clause-told : goal.branches-returns-in_ok-alone-in-Constant-clause-told
branches-returns-in_ok-alone-in-Constant-clause-told t c =
    told_as (λ (v : Vec Nnf Global). formulas_of v.items) c.in_ok-alone-in-Constant.field-0 _ c.args.cost.now _ c.in_ok-alone-in-Constant.ensures.alone
    (ap (λ f. seen (branches (context_of c.args.setting.context) c.args.setting.limit (numbers c.args.names.items) c.args.sign f c.args.cost.now)) (ap nnf_of c.in-Constant.is ∙ nnf-Constant c.in-Constant.truth)
    ∙ constant_branch (context_of c.args.setting.context) c.args.setting.limit (numbers c.args.names.items) c.args.sign c.in-Constant.truth c.args.cost.now
    ∙ ap (λ f. done (only f, c.args.cost.now)) (sym (nnf-Constant (beq c.in-Constant.truth c.args.sign))))

pub branches-returns-in_ok-alone-in-One-clause-told : goal.branches-returns-in_ok-alone-in-One-clause-told
branches-returns-in_ok-alone-in-One-clause-told t c =
    told_as (λ (v : Vec Nnf Global). formulas_of v.items) c.in_ok-alone-in-One.field-0 _ c.args.cost.now _ c.in_ok-alone-in-One.ensures.alone
    (ap (λ f. seen (branches (context_of c.args.setting.context) c.args.setting.limit (numbers c.args.names.items) c.args.sign f c.args.cost.now)) (ap nnf_of c.in-One.is ∙ nnf-One c.in-One.atom)
    ∙ atom_branch (context_of c.args.setting.context) c.args.setting.limit (numbers c.args.names.items) c.args.sign (atom_of c.in-One.atom) c.args.cost.now
    ∙ ap (λ f. done (only f, c.args.cost.now)) (ap One (sym c.in_ok-atom-in-One.ensures.atom) ∙ sym (nnf-One c.in_ok-atom-in-One.atom)))

pub branches-returns-in_err-list-in-Joined-clause-told : goal.branches-returns-in_err-list-in-Joined-clause-told
branches-returns-in_err-list-in-Joined-clause-told t c =
    let e = c.in_err-list-in-Joined.field-0.0 in
    let is : c.from_residual-in_err-list-in-Joined.result ≡ Err e = search rules in
    err_told (λ (v : Vec Nnf Global). formulas_of v.items) c.from_residual-in_err-list-in-Joined.result e c.all_together.new.cost _ is
    (stops_along e _ _
    (sym (ap (λ f. seen (branches (context_of c.args.setting.context) c.args.setting.limit (numbers c.args.names.items) c.args.sign f c.args.cost.now)) (ap nnf_of c.in-Joined.is ∙ nnf-Joined c.in-Joined.junction c.in-Joined.members)
    ∙ joined_branch (context_of c.args.setting.context) c.args.setting.limit (numbers c.args.names.items) c.args.sign c.in-Joined.junction (nnfs_of c.in-Joined.members) c.args.cost.now))
    (stops_then e (members (context_of c.args.setting.context) c.args.setting.limit c.args.sign (nnfs_of c.in-Joined.members) c.args.cost.now) _ c.in_err-list-in-Joined.ensures.told))

pub branches-returns-in_ok-alone-in-Joined-clause-told : goal.branches-returns-in_ok-alone-in-Joined-clause-told
branches-returns-in_ok-alone-in-Joined-clause-told t c =
    let j = turned_junction (not c.args.sign) c.in-Joined.junction in
    let whole : nnf_of c.in_ok-whole-in-Joined.whole ≡ fold_list j (formulas_of c.in_ok-list-in-Joined.list.items)
    = c.in_ok-whole-in-Joined.ensures.folded ∙ ap (λ (k : Junction). fold_list k (formulas_of c.in_ok-list-in-Joined.list.items)) c.turned.ensures in
    told_as (λ (v : Vec Nnf Global). formulas_of v.items) c.in_ok-alone-in-Joined.field-0 _ c.all_together.new.cost _ c.in_ok-alone-in-Joined.ensures.alone
    (ap (λ f. seen (branches (context_of c.args.setting.context) c.args.setting.limit (numbers c.args.names.items) c.args.sign f c.args.cost.now)) (ap nnf_of c.in-Joined.is ∙ nnf-Joined c.in-Joined.junction c.in-Joined.members)
    ∙ joined_branch (context_of c.args.setting.context) c.args.setting.limit (numbers c.args.names.items) c.args.sign c.in-Joined.junction (nnfs_of c.in-Joined.members) c.args.cost.now
    ∙ ap (joined_after j) c.in_ok-list-in-Joined.ensures.told ∙ ap (λ f. done (only f, c.all_together.new.cost)) (sym whole))

pub all_together-loop-f-preserved : goal.all_together-loop-f-preserved
all_together-loop-f-preserved t c =
    let split = drop_at c.items-f-items.result.now c.loop-f.f-index c.f-item.result c.loop-f-test.true c.f-item.is in
    let rest : List Nnf = drop (c.loop-f.f-index + 1) c.items-f-items.result.now in
    let all = members (context_of c.args.setting.context) c.args.setting.limit c.args.sign (nnfs_of c.args.fs.now) c.args.cost.now in
    let parts : AreProper (c.f-item.result ∷ rest) = subst AreProper split c.loop-f.invariant.rest in
    let few : nodes (nnf_of c.f-item.result) + all_nodes (formulas_of rest) ≤ all_nodes (nnfs_of c.args.fs.now)
    = subst (λ (xs : List Nnf). all_nodes (formulas_of xs) ≤ all_nodes (nnfs_of c.args.fs.now)) split c.loop-f.invariant.small in
    let ready : AreReady (context_of c.args.setting.context) (formulas_of (c.f-item.result ∷ rest)) = subst (λ (xs : List Nnf). AreReady (context_of c.args.setting.context) (formulas_of xs)) split c.loop-f.invariant.ready in
    let before = subst (λ (xs : List Nnf). prefixed (formulas_of c.loop-f.made.items) (members (context_of c.args.setting.context) c.args.setting.limit c.args.sign (formulas_of xs) c.loop-f.cost) ≡ all) split c.loop-f.invariant.told in
    let pushed : c.push.new.self.items ≡ c.loop-f.made.items ++ c.in_ok-whole.whole ∷ [] = search rules in
    let told : seen (branches (context_of c.args.setting.context) c.args.setting.limit [] c.args.sign (nnf_of c.f-item.result) c.loop-f.cost) ≡ done (formulas_of c.in_ok-left.left.items, c.branches.new.cost)
    = ap (λ (xs : List VarId). seen (branches (context_of c.args.setting.context) c.args.setting.limit (numbers xs) c.args.sign (nnf_of c.f-item.result) c.loop-f.cost)) (sym c.new.ensures.items) ∙ c.in_ok-left.ensures.told in
    let more : formulas_of c.push.new.self.items ≡ append (formulas_of c.loop-f.made.items) (only (fold_list Disjunction (formulas_of c.in_ok-left.left.items)))
    = ap formulas_of pushed ∙ lists_joined c.loop-f.made.items (c.in_ok-whole.whole ∷ []) ∙ ap (λ f. append (formulas_of c.loop-f.made.items) (only f)) c.in_ok-whole.ensures.folded in
    record {
      told = ap (λ fs. prefixed fs (members (context_of c.args.setting.context) c.args.setting.limit c.args.sign (formulas_of rest) c.branches.new.cost)) more
          ∙ one_member_more (context_of c.args.setting.context) c.args.setting.limit c.args.sign (nnf_of c.f-item.result) (formulas_of rest) (formulas_of c.loop-f.made.items) (formulas_of c.in_ok-left.left.items) c.loop-f.cost c.branches.new.cost all before told;
      small = omega (arith, few);
      made = itself_proper c.in_ok-whole.whole c.loop-f.made.items c.push.new.self.items c.loop-f.invariant.made c.in_ok-whole.ensures.proper pushed;
      rest = parts.1;
      ready = (ready.0.1, ready.1.1);
    }

pub all_together-returns-clause-told : goal.all_together-returns-clause-told
all_together-returns-clause-told t c =
    let rule : List Nnf → _ = λ xs. members (context_of c.args.setting.context) c.args.setting.limit c.args.sign (formulas_of xs) c.loop-f.cost in
    sym c.loop-f.invariant.told ∙ ap (prefixed (formulas_of c.loop-f.made.items)) (at_drop_all rule c.items-f-items.result.now c.loop-f.f-index c.loop-f-test.false)
    ∙ ap (λ fs. done (fs, c.loop-f.cost)) (append_none (context_of c.args.setting.context) c.args.setting.limit 0 (formulas_of c.loop-f.made.items))
