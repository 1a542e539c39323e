use Rattle.std.proofs.Common.{◌≡◌, ℕ, true, false, List, ◌+◌, ◌++◌, Bor, length, take, drop, sym, ap, ◌∙◌, subst, nat_eq, eqb-true, eq-eqb}
use Rattle.std.specs.Prelude.{Option, Some, None, MatchOption}
use Rattle.std.proofs.lemmas.List.{take-append-drop}
use Rattle.std.proofs.Math.Seq.{take-append_seam}
use Rattle.std.specs.Cmp.Lexicographic.{pointwise, pointwise_decides}
use Rattle.std.proofs.lemmas.Cmp.{nat_list_eq_equiv}
use Rattle.redlog_run.proofs.words.tail_after.Goals as goal

same_is : (xs ys : List ℕ) → pointwise nat_eq xs ys ≡ true → xs ≡ ys
same_is xs ys = (pointwise_decides (λ m n. (eqb-true m n, eq-eqb m n)) xs ys).0

no_tail : (word name tail : List ℕ) → pointwise nat_eq (take (length name) word) name ≡ false → ¬ (word ≡ name ++ tail)
no_tail word name tail e h =
    let front : take (length name) word ≡ name = ap (λ (xs : List ℕ). take (length name) xs) h ∙ take-append_seam name tail in
    let same : pointwise nat_eq (take (length name) word) name ≡ true = subst (λ (xs : List ℕ). pointwise nat_eq xs name ≡ true) (sym front) (nat_list_eq_equiv.refl name) in
    let bad = sym e ∙ same in absurd (cc)

some_tail : (word name tail : List ℕ) → pointwise nat_eq (take (length name) word) name ≡ true → tail ≡ drop (length name) word → word ≡ name ++ tail
some_tail word name tail e t =
    sym (take-append-drop (length name) word) ∙ ap (λ (xs : List ℕ). xs ++ drop (length name) word) (same_is (take (length name) word) name e) ∙ ap (λ (xs : List ℕ). name ++ xs) (sym t)

tail_of : (word name : List ℕ) (r : Option (Bor (List ℕ)))
    → MatchOption r (pointwise nat_eq (take (length name) word) name ≡ false) (λ x. (pointwise nat_eq (take (length name) word) name ≡ true) × (x.now ≡ drop (length name) word) × (length x.now + length name ≡ length word))
    → MatchOption r ((tail : List ℕ) → ¬ (word ≡ name ++ tail)) (λ tail. word ≡ name ++ tail.now)
tail_of word name None h = λ tail. no_tail word name tail h
tail_of word name (Some x) h = some_tail word name x.now h.0 h.1

pub returns : goal.returns
returns c = tail_of c.args.word.now c.args.name.now c.strip_prefix.result c.strip_prefix.ensures.cases
