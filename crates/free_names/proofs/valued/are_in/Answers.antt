use Rattle.std.proofs.Common.{◌≡◌, inl, ℕ, add-one, List, ◌∷◌, get_or, drop, true, subst, sym, ◌∙◌, refl, ◌+◌}
use Rattle.std.proofs.Math.Seq.{drop-cons}
use Rattle.std.specs.Ordering.{nat_cmp}
use Rattle.std.specs.BTreeSet.{contains}
use Rattle.free_names.specs.Scopes.{IsIn}
use Rattle.free_names.proofs.Search.{SearchedTo, search_more}
use Rattle.free_names.proofs.valued.are_in.Goals as goal

pub returns-then-not-contains : goal.returns-then-not-contains
returns-then-not-contains c =
    let k : ℕ = get_or c.args.numbers.now c.loop-number.number-index 0 in
    let rest = subst (λ (ns : List ℕ). IsIn k ns) (sym (drop-cons c.args.numbers.now c.loop-number.number-index 0 c.loop-number-test.true)) (inl refl) in
    (k, c.loop-number.invariant.found k rest, sym c.contains.ensures ∙ c.if-not-contains.true)

pub loop-number-preserved : goal.loop-number-preserved
loop-number-preserved c =
    let ns : List ℕ = c.args.numbers.now in
    let i : ℕ = c.loop-number.number-index in
    let k : ℕ = get_or ns i 0 in
    let has = contains nat_cmp c.args.opened.now in
    let next : drop i ns ≡ k ∷ drop (i + 1) ns = rw add-one (drop-cons ns i 0 c.loop-number-test.true) in
    search_more (λ (n : ℕ). IsIn n ns) (λ (n : ℕ). k ≡ n) (λ (n : ℕ). IsIn n (drop (i + 1) ns)) has
    (subst (λ (l : List ℕ). SearchedTo (λ (n : ℕ). IsIn n ns) (λ (n : ℕ). IsIn n l) has) next c.loop-number.invariant)
    (λ n e. subst (λ (m : ℕ). has m ≡ true) e (sym c.contains.ensures ∙ c.if-not-contains.false))
