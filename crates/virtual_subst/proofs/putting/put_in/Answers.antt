use Rattle.std.proofs.Common.{◌≡◌, inl, List, [], ◌∷◌, get_or, take, ap, sym, ◌∙◌, subst, arith}
use Rattle.std.proofs.lemmas.List.{take_all}
use Rattle.std.specs.List.{AllByRecursion}
use Rattle.logic_meaning.specs.Plain.{IsPlain}
use Rattle.logic_meaning.specs.Tree.{Tree}
use Rattle.formula_laws.specs.Equivalence.{InContext}
use Rattle.normal_atoms.specs.Atoms.{context_of}
use Rattle.formula_tree.specs.Shapes.{AllIds, ids_of}
use Rattle.formula_tree.proofs.Shapes.{listed_all}
use Rattle.formula_store.specs.declared.id.FormulaId.{FormulaId}
use Rattle.formula_store.specs.Order.{itself}
use Rattle.formula_store.proofs.Makes.{keeps_then}
use Rattle.formula_store.proofs.Marked.{all_on}
use Rattle.formula_store.proofs.Before.{each_id, members_before, among_all}
use Rattle.nnf_trees.specs.Placed.{all_within}
use Rattle.test_points.specs.Points.{place_of}
use Rattle.virtual_subst.specs.Shared.{Held, IsNodePut, Stops, Table, made_of}
use Rattle.virtual_subst.proofs.Copied.{IsCopied, truths_stay, copied_now, copied_later, put_before, node_before}
use Rattle.virtual_subst.proofs.Inherited.{listed_within, fits_within, stops_within}
use Rattle.virtual_subst.proofs.Noted.{one_more, noted_more}
use Rattle.virtual_subst.proofs.putting.put_in.Goals as goal

pub node_put-requires-clause-id : goal.node_put-requires-clause-id
node_put-requires-clause-id g c =
    let old = g.M.Formulas.nodes c.args.formulas.now in
    c.loop-id.invariant.kept.is _ (each_id old c.requires.id.are (c.args.root ∷ []) c.args.ids.now c.requires.listed (c.requires.id, tt) c.loop-id.id-index (record { number = 0 }) c.loop-id-test.true)

pub node_put-requires-clause-plain : goal.node_put-requires-clause-plain
node_put-requires-clause-plain g c =
    let old = g.M.Formulas.nodes c.args.formulas.now in
    let id : FormulaId = get_or c.args.ids.now c.loop-id.id-index (record { number = 0 }) in
    let here = each_id old c.requires.id.are (c.args.root ∷ []) c.args.ids.now c.requires.listed (c.requires.id, tt) c.loop-id.id-index (record { number = 0 }) c.loop-id-test.true in
    let stands = listed_within old c.args.root c.args.ids.now c.loop-id.id-index (record { number = 0 }) c.loop-id-test.true c.requires.listed.only in
    subst IsPlain (sym (c.loop-id.invariant.kept.same id here)) (fits_within (context_of c.args.at.context) old c.requires.id.are c.args.root id stands c.requires.plain c.requires.in_context).0

pub node_put-requires-clause-in_context : goal.node_put-requires-clause-in_context
node_put-requires-clause-in_context g c =
    let old = g.M.Formulas.nodes c.args.formulas.now in
    let id : FormulaId = get_or c.args.ids.now c.loop-id.id-index (record { number = 0 }) in
    let here = each_id old c.requires.id.are (c.args.root ∷ []) c.args.ids.now c.requires.listed (c.requires.id, tt) c.loop-id.id-index (record { number = 0 }) c.loop-id-test.true in
    let stands = listed_within old c.args.root c.args.ids.now c.loop-id.id-index (record { number = 0 }) c.loop-id-test.true c.requires.listed.only in
    subst (λ (f : Tree). InContext (context_of c.args.at.context) f) (sym (c.loop-id.invariant.kept.same id here)) (fits_within (context_of c.args.at.context) old c.requires.id.are c.args.root id stands c.requires.plain c.requires.in_context).1

pub node_put-requires-clause-truths : goal.node_put-requires-clause-truths
node_put-requires-clause-truths g c = truths_stay (g.M.Formulas.nodes c.args.formulas.now) (g.M.Formulas.nodes c.loop-id.formulas) c.loop-id.invariant.kept c.args.truths c.requires.truths

pub node_put-requires-clause-members : goal.node_put-requires-clause-members
node_put-requires-clause-members g c n here =
    let old = g.M.Formulas.nodes c.args.formulas.now in
    let now = g.M.Formulas.nodes c.loop-id.formulas in
    let o = c.args.at.context in
    let t = c.args.at.point.now in
    let d : FormulaId = record { number = 0 } in
    let id : FormulaId = get_or c.args.ids.now c.loop-id.id-index d in
    let is = each_id old c.requires.id.are (c.args.root ∷ []) c.args.ids.now c.requires.listed (c.requires.id, tt) c.loop-id.id-index d c.loop-id-test.true in
    let there = node_before old now c.requires.id.are c.loop-id.invariant.front id.number n is.below here in
    let P : FormulaId → Type 0 = λ x. IsCopied o t now x (made_of c.loop-id.table.items x) in
    let Q : FormulaId → Type 0 = Held o t now now c.loop-id.table.items in
    let held : AllByRecursion P (ids_of n) = members_before old c.requires.id.are (c.args.root ∷ []) c.args.ids.now c.requires.listed c.loop-id.id-index d c.loop-id-test.true n there P c.loop-id.invariant.held in
    subst (λ (e : Table). AllIds (Held o t now now e) n) (sym c.deref.ensures.value) (listed_all Q n (all_on P Q (λ x h. h.put) (ids_of n) held))

pub returns-in-Err-clause-put : goal.returns-in-Err-clause-put
returns-in-Err-clause-put g c =
    let old = g.M.Formulas.nodes c.args.formulas.now in
    let d : FormulaId = record { number = 0 } in
    let id : FormulaId = get_or c.args.ids.now c.loop-id.id-index d in
    let is = each_id old c.requires.id.are (c.args.root ∷ []) c.args.ids.now c.requires.listed (c.requires.id, tt) c.loop-id.id-index d c.loop-id-test.true in
    let stands = listed_within old c.args.root c.args.ids.now c.loop-id.id-index d c.loop-id-test.true c.requires.listed.only in
    let point = c.args.at.point.now in
    stops_within (context_of c.args.at.context) old c.requires.id.are c.args.root id stands point.name.number (place_of point) c.requires.plain c.in-Err.error
    (subst (λ (f : Tree). Stops c.in-Err.error (all_within (context_of c.args.at.context) point.name.number (place_of point) f)) (c.loop-id.invariant.kept.same id is) c.in-Err.ensures.put)

pub loop-id-preserved : goal.loop-id-preserved
loop-id-preserved g c =
    let o = c.args.at.context in
    let t = c.args.at.point.now in
    let first = g.M.Formulas.nodes c.args.formulas.now in
    let old = g.M.Formulas.nodes c.loop-id.formulas in
    let new = g.M.Formulas.nodes c.node_put.new.formulas in
    let i = c.loop-id.id-index in
    let d : FormulaId = record { number = 0 } in
    let id : FormulaId = get_or c.args.ids.now i d in
    let is = c.loop-id.invariant.kept.is id (each_id first c.requires.id.are (c.args.root ∷ []) c.args.ids.now c.requires.listed (c.requires.id, tt) i d c.loop-id-test.true) in
    let kept = c.in-Ok.ensures.kept in
    record {
      held = noted_more c.args.ids.now c.requires.listed.rises i d c.loop-id-test.true c.loop-id.table.items c.note.new.table.items c.in-Ok.copy c.in_ok-note-in-Ok.ensures c.loop-id.invariant.behind (IsCopied o t old) (IsCopied o t new) (λ x w h. copied_later old new kept o t x w h) (copied_now old new kept o t id c.in-Ok.copy is c.in-Ok.ensures.put) c.loop-id.invariant.held;
      behind = one_more c.args.ids.now c.requires.listed.rises i d c.loop-id-test.true c.loop-id.table.items c.note.new.table.items c.in-Ok.copy c.in_ok-note-in-Ok.ensures c.loop-id.invariant.behind;
      kept = keeps_then first old new c.loop-id.invariant.kept kept;
      front = record { stays = λ k n h. c.in-Ok.ensures.front.stays k n (c.loop-id.invariant.front.stays k n h) };
      base = c.in-Ok.ensures.base ∙ c.loop-id.invariant.base;
    }

pub returns-clause-put : goal.returns-clause-put
returns-clause-put g c =
    let old = g.M.Formulas.nodes c.args.formulas.now in
    let now = g.M.Formulas.nodes c.loop-id.formulas in
    let o = c.args.at.context in
    let t = c.args.at.point.now in
    let P : FormulaId → Type 0 = λ x. IsCopied o t now x (made_of c.loop-id.table.items x) in
    let whole : take c.loop-id.id-index c.args.ids.now ≡ c.args.ids.now = take_all c.loop-id.id-index c.args.ids.now (omega arith) in
    let done : AllByRecursion P c.args.ids.now = subst (λ (l : List FormulaId). AllByRecursion P l) whole c.loop-id.invariant.held in
    let root = among_all P c.args.ids.now c.args.root done (c.requires.listed.all c.args.root (inl itself)) in
    let wanted : c.made.result ≡ made_of c.loop-id.table.items c.args.root = c.made.ensures ∙ ap (λ (e : Table). made_of e c.args.root) c.deref-2.ensures.value in
    put_before old now c.loop-id.invariant.kept o t c.args.root c.made.result c.requires.id (subst (λ (x : FormulaId). IsNodePut o t now now c.args.root x) (sym wanted) root.put)

pub returns-in_err-note-in-Ok-clause-kept : goal.returns-in_err-note-in-Ok-clause-kept
returns-in_err-note-in-Ok-clause-kept g c =
    keeps_then (g.M.Formulas.nodes c.args.formulas.now) (g.M.Formulas.nodes c.loop-id.formulas) (g.M.Formulas.nodes c.node_put.new.formulas) c.loop-id.invariant.kept c.in-Ok.ensures.kept

pub returns-in_err-note-in-Ok-clause-front : goal.returns-in_err-note-in-Ok-clause-front
returns-in_err-note-in-Ok-clause-front g c = record { stays = λ k n h. c.in-Ok.ensures.front.stays k n (c.loop-id.invariant.front.stays k n h) }

pub returns-in-Err-clause-kept : goal.returns-in-Err-clause-kept
returns-in-Err-clause-kept g c =
    keeps_then (g.M.Formulas.nodes c.args.formulas.now) (g.M.Formulas.nodes c.loop-id.formulas) (g.M.Formulas.nodes c.node_put.new.formulas) c.loop-id.invariant.kept c.in-Err.ensures.kept

pub returns-in-Err-clause-front : goal.returns-in-Err-clause-front
returns-in-Err-clause-front g c = record { stays = λ k n h. c.in-Err.ensures.front.stays k n (c.loop-id.invariant.front.stays k n h) }
