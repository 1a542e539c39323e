use Rattle.std.proofs.Common.{◌≡◌, ℕ, ◌<◌, ◌+◌, List, [], ◌∷◌, ◌++◌, Some, None, map, length, take, sym, ap, ◌∙◌, rules, arith}
use Rattle.std.specs.Prelude.{slice_get}
use Rattle.std.proofs.lemmas.List.{take_more, map_push}
use Rattle.std.proofs.lemmas.Option.{slice_get-get_or, get_or_from_slice_get, slice_get_within}
use Rattle.logic_meaning.specs.declared.form.VarId.{VarId}
use Rattle.linear_forms.specs.Values.{number_of}
use Rattle.logic_meaning.specs.Names.{place}
use Rattle.constraint_queries.proofs.certify.places_of.Goals as goal
use Rattle.constraint_queries.proofs.certify.places_of.Goals.{in-Some+in_default-push, in_default}

-- the place of one name more
place_more : (names own : List (List ℕ)) (i : ℕ) (x : List ℕ) (old : List VarId) (v : VarId) → Some x ≡ slice_get own i → v.number ≡ place names x → map number_of old ≡ map (place names) (take i own)
    → map number_of (old ++ v ∷ []) ≡ map (place names) (take (i + 1) own)
place_more names own i x old v is e h =
    let here = get_or_from_slice_get own i x x (sym is) in
    let more = take_more own i x (slice_get_within own i x (sym is)) ∙ ap (λ (y : List ℕ). take i own ++ y ∷ []) here in
    map_push number_of old v ∙ (λ j. h j ++ e j ∷ []) ∙ sym (ap (map (place names)) more ∙ map_push (place names) (take i own) x)

-- there is a name below their count
none_past : (own : List (List ℕ)) (i : ℕ) → i < length own → ¬ (None ≡ slice_get own i)
none_past own i h e = let k = slice_get-get_or own i [] h in absurd (cc)

pub loop-number-preserved : goal.loop-number-preserved
loop-number-preserved c =
    let names = c.args.state.now.names in
    let own : List (List ℕ) = c.args.own.now in
    let i = c.loop-number.number in
    let within : i < length own = omega arith in
    elim c.match-text.branch [
      | in-Some+in_default-push w ↦
          let pushed : c.match-text.places.items ≡ c.loop-number.places.items ++ w.place-place.result ∷ [] = ap (λ v. v.items) w.places-is ∙ w.in_default-push.ensures.items in
          ap (map number_of) pushed ∙ place_more names own i w.in-Some.text.now c.loop-number.places.items w.place-place.result (search rules) (w.place-place.ensures ∙ ap (place names) w.of.ensures) c.loop-number.invariant
      | in_default w ↦ absurd (none_past own i within (search rules))
    ]
