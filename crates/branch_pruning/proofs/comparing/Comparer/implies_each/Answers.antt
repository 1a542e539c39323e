use Rattle.std.proofs.Common.{◌≡◌, List, length, sym, ap, subst, ◌∙◌, arith}
use Rattle.std.specs.Slice.Iter.{iter_rest}
use Rattle.std.specs.Iterator.Adapters.{zip_first, zip_second}
use Rattle.std.proofs.lemmas.List.{length_push}
use Rattle.std.proofs.lemmas.Slice.Zip.{zip_turn, zip_end}
use Rattle.formula_store.specs.declared.id.FormulaId.{FormulaId}
use Rattle.atom_pruning.specs.declared.rows.AtomRows.{AtomRows}
use Rattle.atom_pruning.specs.Rows.{AreRows}
use Rattle.branch_pruning.proofs.AtomLists.{ImpliesFirst, ShowsOne, member_more, shown_more, shown_all, as_many}
use Rattle.branch_pruning.proofs.comparing.Comparer.implies_each.Goals as goal

pub loop-id-preserved-then-has : goal.loop-id-preserved-then-has
loop-id-preserved-then-has c =
    let rows : List AtomRows = c.args.self.now.assumed.items in
    let given = c.args.given.now in
    let other = c.args.other.now in
    let start = c.into_iter-id-iterator.result in
    let first : iter_rest (zip_first start) ≡ other.ids.items = ap (λ z. iter_rest (zip_first z)) c.into_iter-id-iterator.ensures.into_iter_gives ∙ ap iter_rest c.zip-id-items.ensures.first ∙ c.iter.ensures.rest ∙ c.deref.ensures.value in
    let second : iter_rest (zip_second start) ≡ other.rows.items = ap (λ z. iter_rest (zip_second z)) c.into_iter-id-iterator.ensures.into_iter_gives ∙ c.zip-id-items.ensures.second.0 in
    let turn = zip_turn other.ids.items other.rows.items c.loop-id.yielded start c.loop-id.id-iterator c.next.new.self c.next.result first second c.loop-id.yielded_by (c.in-Some.id, c.in-Some.rows) c.in-Some.is c.next.ensures.steps in
    let id : FormulaId = c.in-Some.id.now in
    let row : AtomRows = c.in-Some.rows.now in
    let v = c.loop-id.invariant in
    let more = member_more rows given other (length c.loop-id.yielded) id row turn.0 turn.1 (turn.2 id) (turn.3 row) v.4 (c.has.ensures c.if-has.true) in
    ((tt, tt), tt, v.2, v.3, subst (ImpliesFirst rows given other) (sym (length_push c.loop-id.yielded (c.in-Some.id, c.in-Some.rows))) more)

pub loop-id-preserved : goal.loop-id-preserved
loop-id-preserved c =
    let rows : List AtomRows = c.args.self.now.assumed.items in
    let given = c.args.given.now in
    let other = c.args.other.now in
    let start = c.into_iter-id-iterator.result in
    let first : iter_rest (zip_first start) ≡ other.ids.items = ap (λ z. iter_rest (zip_first z)) c.into_iter-id-iterator.ensures.into_iter_gives ∙ ap iter_rest c.zip-id-items.ensures.first ∙ c.iter.ensures.rest ∙ c.deref.ensures.value in
    let second : iter_rest (zip_second start) ≡ other.rows.items = ap (λ z. iter_rest (zip_second z)) c.into_iter-id-iterator.ensures.into_iter_gives ∙ c.zip-id-items.ensures.second.0 in
    let turn = zip_turn other.ids.items other.rows.items c.loop-id.yielded start c.loop-id.id-iterator c.next.new.self c.next.result first second c.loop-id.yielded_by (c.in-Some.id, c.in-Some.rows) c.in-Some.is c.next.ensures.steps in
    let id : FormulaId = c.in-Some.id.now in
    let row : AtomRows = c.in-Some.rows.now in
    let v = c.loop-id.invariant in
    let shown : ShowsOne rows given row = λ o ks gs us a b d. c.in_ok-shows.ensures.implied c.if-not-branch.false o ks gs us (subst (AreRows o ks) (sym v.2) a) b d in
    let more = shown_more rows given other (length c.loop-id.yielded) id row turn.0 turn.1 (turn.2 id) (turn.3 row) v.4 shown in
    ((tt, tt), tt, c.in_ok-shows.ensures.assumed ∙ v.2, (let e = c.in_ok-shows.ensures.effort in let l = v.3 in omega arith), subst (ImpliesFirst rows given other) (sym (length_push c.loop-id.yielded (c.in-Some.id, c.in-Some.rows))) more)

pub returns-clause-implied : goal.returns-clause-implied
returns-clause-implied c true =
    let rows : List AtomRows = c.args.self.now.assumed.items in
    let given = c.args.given.now in
    let other = c.args.other.now in
    let start = c.into_iter-id-iterator.result in
    let first : iter_rest (zip_first start) ≡ other.ids.items = ap (λ z. iter_rest (zip_first z)) c.into_iter-id-iterator.ensures.into_iter_gives ∙ ap iter_rest c.zip-id-items.ensures.first ∙ c.iter.ensures.rest ∙ c.deref.ensures.value in
    let second : iter_rest (zip_second start) ≡ other.rows.items = ap (λ z. iter_rest (zip_second z)) c.into_iter-id-iterator.ensures.into_iter_gives ∙ c.zip-id-items.ensures.second.0 in
    let end = zip_end other.ids.items other.rows.items c.loop-id.yielded start c.loop-id.id-iterator c.next.new.self c.next.result first second c.loop-id.yielded_by c.in-None.is c.next.ensures.steps in
    shown_all rows given other (length c.loop-id.yielded) (λ tree o h. let e = as_many o tree other.ids.items other.rows.items h in omega arith) c.loop-id.invariant.4
