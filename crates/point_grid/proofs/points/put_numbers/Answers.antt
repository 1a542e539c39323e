use Rattle.std.proofs.Common.{◌≡◌, ℕ, ◌+◌, ◌/◌, ◌%◌, ◌<◌, List, drop, get_or, subst, sym, ◌∙◌, length, nat_eq}
use Rattle.std.proofs.Math.IntN.{pos}
use Rattle.std.specs.Prelude.{if◌then◌else◌}
use Rattle.exact_numbers.proofs.Casts.{fits}
use Rattle.std.proofs.lemmas.Int.{to_z-of_z}
use Rattle.program_meaning.specs.declared.scale.Scale.{Scale}
use Rattle.program_meaning.specs.Scales.{size, choice, number_of}
use Rattle.linear_forms.specs.Values.{number_at}
use Rattle.std.proofs.lemmas.List.{drop_all, at_drop_more}
use Rattle.point_grid.proofs.Choices.{Parts, parts, next_choice, last_choice}
use Rattle.point_grid.proofs.points.put_numbers.Goals as goal

pub parts_at : (ss : List Scale) (i stride left : ℕ) → i < length ss → stride ≡ size (drop i ss) → left < size (drop i ss) → Parts (get_or ss i (record { name = record { number = 0 }; low = pos 0; step = 0; count = 0 })) (drop (i + 1) ss) stride left
parts_at ss i stride left h e l =
    let d : Scale = record { name = record { number = 0 }; low = pos 0; step = 0; count = 0 } in
    let split = at_drop_more (λ (xs : List Scale). xs) ss i d h in
    parts (get_or ss i d) (drop (i + 1) ss) stride left (subst (λ (xs : List Scale). stride ≡ size xs) split e) (subst (λ (xs : List Scale). left < size xs) split l)

pub nonzero_div-stride : goal.nonzero_div-stride
nonzero_div-stride c =
    let ps = parts_at c.args.scales.now c.loop-scale.scale-index c.loop-scale.stride c.loop-scale.left c.loop-scale-test.true c.loop-scale.invariant.stride c.loop-scale.invariant.inside in
    ps.some_number

pub nonzero_div-left : goal.nonzero_div-left
nonzero_div-left c =
    let ps = parts_at c.args.scales.now c.loop-scale.scale-index c.loop-scale.stride c.loop-scale.left c.loop-scale-test.true c.loop-scale.invariant.stride c.loop-scale.invariant.inside in
    subst (λ (n : ℕ). 0 < n) (sym ps.stride_is) ps.some_left

pub number_in-requires-clause-index : goal.number_in-requires-clause-index
number_in-requires-clause-index c =
    let ps = parts_at c.args.scales.now c.loop-scale.scale-index c.loop-scale.stride c.loop-scale.left c.loop-scale-test.true c.loop-scale.invariant.stride c.loop-scale.invariant.inside in
    let s = get_or c.args.scales.now c.loop-scale.scale-index (record { name = record { number = 0 }; low = pos 0; step = 0; count = 0 }) in
    subst (λ (n : ℕ). c.loop-scale.left / n < s.count) (sym ps.stride_is) ps.index_below

pub nonzero_rem-left : goal.nonzero_rem-left
nonzero_rem-left c =
    let ps = parts_at c.args.scales.now c.loop-scale.scale-index c.loop-scale.stride c.loop-scale.left c.loop-scale-test.true c.loop-scale.invariant.stride c.loop-scale.invariant.inside in
    subst (λ (n : ℕ). 0 < n) (sym ps.stride_is) ps.some_left

pub loop-scale-preserved : goal.loop-scale-preserved
loop-scale-preserved c =
    let ss = c.args.scales.now in
    let i = c.loop-scale.scale-index in
    let d : Scale = record { name = record { number = 0 }; low = pos 0; step = 0; count = 0 } in
    let s = get_or ss i d in
    let rest = drop (i + 1) ss in
    let left = c.loop-scale.left in
    let ps = parts_at ss i c.loop-scale.stride left c.loop-scale-test.true c.loop-scale.invariant.stride c.loop-scale.invariant.inside in
    let fv = fits c.number_in.result c.number_in.ensures.within in
    let h : (x : ℕ) → number_at c.put.new.self x ≡ (if nat_eq s.name.number x then c.number_in.result else number_at c.loop-scale.values x) = simp to_z-of_z at c.in_default.ensures.put in
    let v = subst (λ (n : ℕ). c.number_in.result ≡ number_of s (left / n)) ps.stride_is c.number_in.ensures.value in
    let split = at_drop_more (λ (xs : List Scale). xs) ss i d c.loop-scale-test.true in
    let all = choice (number_at c.args.values.now) ss c.args.index in
    let inv = subst (λ (xs : List Scale). choice (number_at c.loop-scale.values) xs left ≡ all) split c.loop-scale.invariant.leads in
    let next = next_choice s rest left c.number_in.result (number_at c.loop-scale.values) (number_at c.put.new.self) v h ∙ inv in
    record {
      stride = ps.stride_is;
      inside = subst (λ (n : ℕ). left % n < size rest) (sym ps.stride_is) ps.left_below;
      leads = subst (λ (n : ℕ). choice (number_at c.put.new.self) rest (left % n) ≡ all) (sym ps.stride_is) next;
      denominator = c.put.ensures.denominator ∙ c.loop-scale.invariant.denominator;
    }

pub returns-clause-put : goal.returns-clause-put
returns-clause-put c =
    let ss = c.args.scales.now in
    last_choice (number_at c.loop-scale.values) (choice (number_at c.args.values.now) ss c.args.index) c.loop-scale.left
    (subst (λ (xs : List Scale). choice (number_at c.loop-scale.values) xs c.loop-scale.left ≡ choice (number_at c.args.values.now) ss c.args.index) (drop_all c.loop-scale.scale-index ss c.loop-scale-test.false) c.loop-scale.invariant.leads)
