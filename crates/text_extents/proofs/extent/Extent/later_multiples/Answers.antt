use Rattle.std.proofs.Common.{rules, ◌≡◌, ◌+◌, ◌++◌, Some, slice_get, length, drop, arith, [], ◌∷◌, ap, ◌∙◌, List, ℕ}
use Rattle.logic_meaning.specs.declared.form.VarId.{VarId}
use Rattle.std.specs.List.{flat_map}
use Rattle.logic_meaning.specs.Form.{Term}
use Rattle.logic_meaning.specs.Text.{later_multiple, multiple_text}
use Rattle.text_extents.specs.Extents.{AddsMultiple, numbers, term_names}
use Rattle.text_extents.proofs.Listed.{laters_more}
use Rattle.text_extents.proofs.extent.Extent.later_multiples.Goals as goal

omega_added : (a b d n : ℕ) → b ≡ a + 3 → d ≡ b + n → d ≡ a + 3 + n
omega_added a b d n h k = omega arith

pub loop-place-preserved : goal.loop-place-preserved
loop-place-preserved c =
    let term : Term = record { times = c.in-Some.times; name = c.in-Some.name.number } in
    let here : slice_get c.args.form.now.terms c.loop-place.place ≡ Some term = search rules in
    let ts = c.args.form.now.terms in
    let old = c.args.self.now in
    let i = c.loop-place.invariant in
    let q : AddsMultiple c.add.new.self c.multiple.new.self c.in-Some.times c.in-Some.name = search rules in
    let b0 = c.in_ok-add.ensures.bytes in
    let b1 = q.bytes_are in
    let added = omega_added c.loop-place.self.bytes c.add.new.self.bytes c.multiple.new.self.bytes (length (multiple_text [] term)) b0 b1 in
    let named = q.names_are ∙ ap (λ (ns : List VarId). numbers ns ++ term.name ∷ []) c.in_ok-add.ensures.names in
    let r = laters_more c.loop-place.self.bytes (old.bytes + length (flat_map (later_multiple []) (drop 1 ts))) c.multiple.new.self.bytes ts c.loop-place.place term (numbers c.loop-place.self.names.items) (numbers c.multiple.new.self.names.items)
    (numbers old.names.items ++ term_names (drop 1 ts)) here i.bytes i.names added named in
    record { bytes = r.0; names = r.1 }
