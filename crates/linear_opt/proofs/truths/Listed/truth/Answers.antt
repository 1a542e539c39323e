use Rattle.std.proofs.Common.{rules, ◌≡◌, Bool, inl, List, [], ◌∷◌, Some, get_or, take, refl, ◌∙◌, subst, arith}
use Rattle.std.proofs.lemmas.List.{take_all}
use Rattle.std.specs.HashMap.{Updates}
use Rattle.std.specs.List.{AllByRecursion}
use Rattle.formula_tree.proofs.Shapes.{listed_all}
use Rattle.formula_store.specs.declared.id.FormulaId.{FormulaId}
use Rattle.formula_store.specs.Nodes.{tree}
use Rattle.formula_store.specs.Order.{itself}
use Rattle.formula_store.specs.Tables.{same_id}
use Rattle.formula_store.proofs.Before.{each_id, members_before, among_all}
use Rattle.formula_store.proofs.Filling.{has_more}
use Rattle.linear_theory.specs.Answer.{truth_by}
use Rattle.linear_opt.specs.Values.{told}
use Rattle.linear_opt.specs.Truths.{HasTruth}
use Rattle.linear_opt.proofs.Told.{there, read}
use Rattle.linear_opt.proofs.truths.Listed.truth.Goals as goal

pub node_truth-truth-requires-clause-id : goal.node_truth-truth-requires-clause-id
node_truth-truth-requires-clause-id c =
    let f = c.args.self.now in
    each_id f.store.now c.requires.id.are (f.root ∷ []) f.ids.now c.requires.order (c.requires.id, tt) c.loop-id.id-index (record { number = 0 }) c.loop-id-test.true

pub node_truth-truth-requires-clause-members : goal.node_truth-truth-requires-clause-members
node_truth-truth-requires-clause-members c n here =
    let f = c.args.self.now in
    let P : FormulaId → Type 0 = HasTruth (told c.args.z.number c.args.value) f.store.now c.loop-id.table in
    listed_all P n (members_before f.store.now c.requires.id.are (f.root ∷ []) f.ids.now c.requires.order c.loop-id.id-index (record { number = 0 }) c.loop-id-test.true n here P c.loop-id.invariant)

pub loop-id-preserved : goal.loop-id-preserved
loop-id-preserved c =
    let f = c.args.self.now in
    let id : FormulaId = get_or f.ids.now c.loop-id.id-index (record { number = 0 }) in
    let P : FormulaId → Bool → Type 0 = λ m b. b ≡ truth_by (told c.args.z.number c.args.value) (tree f.store.now m) in
    let put : Updates same_id c.loop-id.table c.insert.new.self id (Some c.node_truth-truth.result) = search rules in
    has_more P P c.loop-id.table c.insert.new.self id c.node_truth-truth.result put.0 (λ x w h. h) c.node_truth-truth.ensures f.ids.now c.loop-id.id-index (record { number = 0 }) c.loop-id-test.true refl c.loop-id.invariant

pub truth_in-requires : goal.truth_in-requires
truth_in-requires c =
    let f = c.args.self.now in
    let at = told c.args.z.number c.args.value in
    let whole : take c.loop-id.id-index f.ids.now ≡ f.ids.now = take_all c.loop-id.id-index f.ids.now (omega arith) in
    let done = subst (λ (l : List FormulaId). AllByRecursion (HasTruth at f.store.now c.loop-id.table) l) whole c.loop-id.invariant in
    there at f.store.now c.loop-id.table f.root (among_all (HasTruth at f.store.now c.loop-id.table) f.ids.now f.root done (c.requires.order.all f.root (inl itself)))

pub returns : goal.returns
returns c =
    let f = c.args.self.now in
    let at = told c.args.z.number c.args.value in
    let whole : take c.loop-id.id-index f.ids.now ≡ f.ids.now = take_all c.loop-id.id-index f.ids.now (omega arith) in
    let done = subst (λ (l : List FormulaId). AllByRecursion (HasTruth at f.store.now c.loop-id.table) l) whole c.loop-id.invariant in
    c.truth_in.ensures ∙ read at f.store.now c.loop-id.table f.root (among_all (HasTruth at f.store.now c.loop-id.table) f.ids.now f.root done (c.requires.order.all f.root (inl itself)))
