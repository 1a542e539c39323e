-- Entries mean one point at most.
use Rattle.std.proofs.Common.{◌≡◌, ◌⊎◌, inl, inr, ⊎_elim, ℕ, List, [], ◌∷◌, sym, ◌∙◌, subst}
use Rattle.std.proofs.Math.IntN.{ℤ, pos}
use Rattle.std.specs.List.{AllByRecursion}
use Rattle.std.specs.Ordering.{nat_cmp}
use Rattle.std.specs.Cmp.Lexicographic.{slice_cmp}
use Rattle.std.specs.BTreeMap.{is_at}
use Rattle.std.proofs.lemmas.Bool.{false≢true}
use Rattle.logic_meaning.specs.Some.{SomeOf}
use Rattle.language_meaning.specs.declared.entries.PointEntry.{PointEntry}
use Rattle.language_meaning.specs.Value.{NamedPoint}
use Rattle.language_meaning.specs.Point.{IsZeroBelow, IsPointOf, IsScaled, HasEntry}
use Rattle.written_syntax.proofs.NameOrder.{by_at, at_same, same_at}
use Rattle.written_syntax.proofs.EntryNumbers.{scaled_unique, least_unique}

pos_same : (m n : ℕ) → pos m ≡ pos n → m ≡ n
pos_same m n e = cc

-- a name has an entry or not
pub named_or_not : (x : List ℕ) (es : List PointEntry) → HasEntry x es ⊎ (¬ (HasEntry x es))
named_or_not x [] = inr (λ h. h)
named_or_not x (e ∷ es) =
    by_at (is_at (slice_cmp nat_cmp e.name) x)
    (λ at. inl (inl (at_same e.name x at)))
    (λ off. ⊎_elim (λ h. inl (inr h)) (λ n. inr (λ h. ⊎_elim (λ same. false≢true (sym off ∙ same_at e.name x same)) n h)) (named_or_not x es))

numbers_same : (es : List PointEntry) (d : ℤ) (at other : List ℕ → ℤ) (x : List ℕ) → ¬ (SomeOf IsZeroBelow es) → HasEntry x es
    → AllByRecursion (λ e. IsScaled d e (at e.name)) es → AllByRecursion (λ e. IsScaled d e (other e.name)) es → at x ≡ other x
numbers_same [] d at other x divided h a b = absurd h
numbers_same (e ∷ es) d at other x divided h a b =
    ⊎_elim
    (λ (same : e.name ≡ x). subst (λ y. at y ≡ other y) same (scaled_unique e d (at e.name) (other e.name) (λ z. divided (inl z)) a.0 b.0))
    (λ rest. numbers_same es d at other x (λ z. divided (inr z)) rest a.1 b.1)
    h

pub one_point : (es : List PointEntry) (p q : NamedPoint) → ¬ (SomeOf IsZeroBelow es) → IsPointOf es p → IsPointOf es q → p ≡ q
one_point es p q divided a b =
    let below : p.below ≡ q.below = pos_same p.below q.below (least_unique a.least b.least) in
    let each = subst (λ n. AllByRecursion (λ e. IsScaled (pos n) e (q.at e.name)) es) (sym below) b.each in
    let at : (x : List ℕ) → p.at x ≡ q.at x =
    λ x. ⊎_elim (λ h. numbers_same es (pos p.below) p.at q.at x divided h a.each each) (λ n. a.others x n ∙ sym (b.others x n)) (named_or_not x es) in
    λ i. record { at = λ x. at x i; below = below i }
