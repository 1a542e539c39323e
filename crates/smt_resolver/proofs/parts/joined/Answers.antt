use Rattle.std.proofs.Common.{◌+◌, [], refl, sym, subst, drop, ◌∙◌}
use Rattle.std.specs.List.{AllByRecursion}
use Rattle.std.specs.Option.{ForSome}
use Rattle.written_syntax.proofs.EntryLists.{none_left}
use Rattle.smt_language.specs.Levels.{levels}
use Rattle.smt_resolver.specs.Values.{AreEach, IsLevelPart, ArePartsOf}
use Rattle.smt_resolver.proofs.Lists.{item_at}
use Rattle.smt_resolver.proofs.PartLists.{MembersState, members_begin, members_step, member_ids, part_id, single_read, many_read}
use Rattle.smt_resolver.proofs.parts.joined.Goals as goal

pub returns-then-len-eq1-clause-read : goal.returns-then-len-eq1-clause-read
returns-then-len-eq1-clause-read g c = λ d fs h.
    single_read d c.args.limit (g.M.Maker.is_id c.args.maker.now) (g.M.Maker.tree c.args.maker.now) c.args.junction fs c.in-Some.parts c.index.result.now
    (subst (ArePartsOf d c.args.limit (g.M.Maker.is_id c.args.maker.now) (g.M.Maker.tree c.args.maker.now) fs) c.in-Some.is h)
    (c.requires.within c.in-Some.parts c.in-Some.is) (sym c.in-Some.parts.parts.ok.0 ∙ sym c.len.ensures ∙ c.if-len-eq1.true) c.index.ensures

pub loop-part-init : goal.loop-part-init
loop-part-init g c = record {
  state = λ d fs h. members_begin d (g.M.Maker.is_id c.args.maker.now) (g.M.Maker.tree c.args.maker.now) fs c.none-members.result c.deref-part-items.result.now c.none-members.ensures.causes c.none-members.ensures.height c.none-members.ensures.ids h;
  ids = subst (AllByRecursion (g.M.Maker.is_id c.args.maker.now)) (sym c.none-members.ensures.ids) tt;
}

pub loop-part-preserved : goal.loop-part-preserved
loop-part-preserved g c =
    let i = c.loop-part.part-index in let ps = c.deref-part-items.result.now in let p = c.part-item.result in
    let e = item_at ps i p p c.loop-part-test.true c.part-item.is refl in
    let k = subst (AllByRecursion (λ q. ForSome q.id (g.M.Maker.is_id c.args.maker.now))) (sym c.deref-part-items.ensures.value) (c.requires.ids c.in-Some.parts c.in-Some.is) in
    record {
      state = λ d fs h. members_step d (g.M.Maker.is_id c.args.maker.now) (g.M.Maker.tree c.args.maker.now) fs c.loop-part.members c.add.new.self p (drop (i + 1) ps)
          (subst (λ xs. MembersState d (g.M.Maker.is_id c.args.maker.now) (g.M.Maker.tree c.args.maker.now) fs c.loop-part.members xs) e (c.loop-part.invariant.state d fs h))
          c.in_ok-add.ensures.causes c.in_ok-add.ensures.height c.in_ok-add.ensures.ids;
      ids = subst (AllByRecursion (g.M.Maker.is_id c.args.maker.now)) (sym c.in_ok-add.ensures.ids) (member_ids (g.M.Maker.is_id c.args.maker.now) c.loop-part.members.ids.items p.id c.loop-part.invariant.ids (part_id (g.M.Maker.is_id c.args.maker.now) ps i p c.loop-part-test.true c.part-item.is k));
    }

pub returns-clause-read : goal.returns-clause-read
returns-clause-read g c = λ d fs h.
    let b = subst (ArePartsOf d c.args.limit (g.M.Maker.is_id c.args.maker.now) (g.M.Maker.tree c.args.maker.now) fs) c.in-Some.is h in
    many_read d c.args.limit (g.M.Maker.is_id c.args.maker.now) (g.M.Maker.tree c.args.maker.now) (g.M.Maker.is_id c.joined_part.new.maker) (g.M.Maker.tree c.joined_part.new.maker) c.args.junction fs c.in-Some.parts c.loop-part.members c.in-Some-counted.nodes c.in_ok-read.read b
    (λ e. c.if-len-eq1.false (c.len.ensures ∙ c.in-Some.parts.parts.ok.0 ∙ e)) c.in-Some-counted.ensures.0 c.in-Some-counted.ensures.1
    (subst (λ xs. MembersState d (g.M.Maker.is_id c.args.maker.now) (g.M.Maker.tree c.args.maker.now) fs c.loop-part.members xs) (none_left c.deref-part-items.result.now c.loop-part.part-index c.loop-part-test.false)
    (c.loop-part.invariant.state d fs (subst (AreEach (IsLevelPart d (g.M.Maker.is_id c.args.maker.now) (g.M.Maker.tree c.args.maker.now)) fs) (sym c.deref-part-items.ensures.value) b.parts)))
    (λ n m. c.in_ok-read.ensures.read d [] (levels n) fs m)
