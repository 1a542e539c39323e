-- What is said of some entry or of each, along a list.
use Rattle.std.proofs.Common.{◌≡◌, ◌⊎◌, inl, inr, ℕ, ◌+◌, ◌<◌, List, [], ◌∷◌, ◌++◌, length, take, drop, get_or, sym, ◌∙◌, ap, subst, ⊎_elim, suc, add-one, ◌≤◌, IsTrue, ◌↔◌, Bool, true, cond, not}
use Rattle.std.proofs.Math.ListN.{drop_of_length-le}
use Rattle.std.proofs.Math.Seq.{drop-cons}
use Rattle.std.proofs.lemmas.List.{take_more, take-append-drop}
use Rattle.std.proofs.lemmas.Bool.{false≢true}
use Rattle.std.specs.List.{AllByRecursion}
use Rattle.std.specs.Ordering.{nat_cmp}
use Rattle.std.specs.Cmp.Lexicographic.{slice_cmp}
use Rattle.std.specs.BTreeMap.{is_at}
use Rattle.written_syntax.proofs.NameOrder.{by_at, at_same, same_at}
use Rattle.logic_meaning.specs.Some.{SomeOf}
use Rattle.language_meaning.specs.declared.entries.PointEntry.{PointEntry}
use Rattle.language_meaning.specs.Point.{HasEntry, NamesTwice}

pub some_left : {X : Type 0} (P : X → Type 0) (xs ys : List X) → SomeOf P xs → SomeOf P (xs ++ ys)
some_left P [] ys h = absurd h
some_left P (x ∷ xs) ys h = ⊎_elim (λ p. inl p) (λ q. inr (some_left P xs ys q)) h

pub some_right : {X : Type 0} (P : X → Type 0) (xs ys : List X) → SomeOf P ys → SomeOf P (xs ++ ys)
some_right P [] ys h = h
some_right P (x ∷ xs) ys h = inr (some_right P xs ys h)

pub some_split : {X : Type 0} (P : X → Type 0) (xs ys : List X) → SomeOf P (xs ++ ys) → SomeOf P xs ⊎ SomeOf P ys
some_split P [] ys h = inr h
some_split P (x ∷ xs) ys h = ⊎_elim (λ p. inl (inl p)) (λ q. ⊎_elim (λ a. inl (inr a)) (λ b. inr b) (some_split P xs ys q)) h

pub some_one : {X : Type 0} (P : X → Type 0) (x : X) → SomeOf P (x ∷ []) → P x
some_one P x h = ⊎_elim (λ p. p) (λ q. absurd q) h

pub each_push : {X : Type 0} (P : X → Type 0) (xs : List X) (x : X) → AllByRecursion P xs → P x → AllByRecursion P (xs ++ x ∷ [])
each_push P [] x h p = (p, tt)
each_push P (y ∷ xs) x h p = (h.0, each_push P xs x h.1 p)

pub each_map : {X : Type 0} (P Q : X → Type 0) (xs : List X) → ((x : X) → P x → Q x) → AllByRecursion P xs → AllByRecursion Q xs
each_map P Q [] f h = tt
each_map P Q (x ∷ xs) f h = (f x h.0, each_map P Q xs f h.1)

-- a name that an earlier entry has stands twice
pub twice_found : (es : List PointEntry) (e : PointEntry) (rest : List PointEntry) → HasEntry e.name es → NamesTwice (es ++ e ∷ rest)
twice_found [] e rest h = absurd h
twice_found (x ∷ es) e rest h =
    ⊎_elim (λ p. inl (some_right (λ (y : PointEntry). y.name ≡ x.name) es (e ∷ rest) (inl (sym p)))) (λ q. inr (twice_found es e rest q)) h

pub twice_push : (es : List PointEntry) (e : PointEntry) → NamesTwice (es ++ e ∷ []) → NamesTwice es ⊎ HasEntry e.name es
twice_push [] e h = ⊎_elim (λ p. absurd p) (λ q. absurd q) h
twice_push (x ∷ es) e h =
    ⊎_elim
    (λ p. ⊎_elim (λ a. inl (inl a)) (λ b. inr (inl (sym (some_one (λ (y : PointEntry). y.name ≡ x.name) e b)))) (some_split (λ (y : PointEntry). y.name ≡ x.name) es (e ∷ []) p))
    (λ q. ⊎_elim (λ a. inl (inr a)) (λ b. inr (inr b)) (twice_push es e q))
    h

-- the first i + 1 entries, and the entries around the one at i
pub more_entries : {X : Type 0} (xs : List X) (i : ℕ) (x : X) → i < length xs → x ≡ get_or xs i x → take (i + 1) xs ≡ take i xs ++ x ∷ []
more_entries xs i x h e = take_more xs i x h ∙ ap (λ y. take i xs ++ y ∷ []) (sym e)

pub around : {X : Type 0} (xs : List X) (i : ℕ) (x : X) → i < length xs → x ≡ get_or xs i x → take i xs ++ x ∷ drop (suc i) xs ≡ xs
around xs i x h e =
    ap (λ y. take i xs ++ y ∷ drop (suc i) xs) e ∙ ap (λ ys. take i xs ++ ys) (sym (drop-cons xs i x h)) ∙ take-append-drop i xs

-- the names seen so far, with one more
pub seen_more : (old new : List ℕ → Bool) (es : List PointEntry) (e : PointEntry) → ((x : List ℕ) → IsTrue (old x) ↔ HasEntry x es)
    → ((x : List ℕ) → new x ≡ cond (is_at (slice_cmp nat_cmp e.name) x) true (old x)) → (x : List ℕ) → IsTrue (new x) ↔ HasEntry x (es ++ e ∷ [])
seen_more old new es e seen updated x =
    by_at (is_at (slice_cmp nat_cmp e.name) x)
    (λ at. (λ _. some_right (λ (y : PointEntry). y.name ≡ x) es (e ∷ []) (inl (at_same e.name x at)), λ _. updated x ∙ ap (λ b. cond b true (old x)) at))
    (λ off.
    let kept : new x ≡ old x = updated x ∙ ap (λ b. cond b true (old x)) off in (
      λ t. some_left (λ (y : PointEntry). y.name ≡ x) es (e ∷ []) ((seen x).0 (sym kept ∙ t)),
      λ h. ⊎_elim (λ p. kept ∙ (seen x).1 p)
          (λ q. absurd (false≢true (sym off ∙ same_at e.name x (some_one (λ (y : PointEntry). y.name ≡ x) e q))))
          (some_split (λ (y : PointEntry). y.name ≡ x) es (e ∷ []) h),
    ))

-- what is left from i on
pub rest_at : {X : Type 0} (xs : List X) (i : ℕ) (x : X) → i < length xs → x ≡ get_or xs i x → drop i xs ≡ x ∷ drop (i + 1) xs
rest_at xs i x h e = rw add-one (drop-cons xs i x h ∙ ap (λ y. y ∷ drop (suc i) xs) (sym e))

pub none_left : {X : Type 0} (xs : List X) (i : ℕ) → length xs ≤ i → drop i xs ≡ []
none_left xs i h = drop_of_length-le xs h

-- None has been found so far: some of all has the property exactly where some of the rest has.
pub record Unfound {X : Type 0} (P : X → Type 0) (all rest : List X) : Type 0 where
  pub found : SomeOf P rest → SomeOf P all
  pub left : SomeOf P all → SomeOf P rest

pub unfound_start : {X : Type 0} (P : X → Type 0) (all : List X) → Unfound P all all
unfound_start P all = record { found = λ s. s; left = λ s. s }

pub unfound_more : {X : Type 0} (P : X → Type 0) (all : List X) (i : ℕ) (x : X) → i < length all → x ≡ get_or all i x → ¬ (P x)
    → Unfound P all (drop i all) → Unfound P all (drop (i + 1) all)
unfound_more P all i x h is not u =
    let v = subst (λ rest. Unfound P all rest) (rest_at all i x h is) u in
    record { found = λ s. v.found (inr s); left = λ s. ⊎_elim (λ p. absurd (not p)) (λ q. q) (v.left s) }

pub unfound_here : {X : Type 0} (P : X → Type 0) (all : List X) (i : ℕ) (x : X) → i < length all → x ≡ get_or all i x → P x → Unfound P all (drop i all) → SomeOf P all
unfound_here P all i x h is p u = (subst (λ rest. Unfound P all rest) (rest_at all i x h is) u).found (inl p)

pub unfound_end : {X : Type 0} (P : X → Type 0) (all : List X) (i : ℕ) → length all ≤ i → Unfound P all (drop i all) → ¬ (SomeOf P all)
unfound_end P all i h u = λ s. (subst (λ rest. Unfound P all rest) (none_left all i h) u).left s

pub all_at : {X : Type 0} (P : X → Type 0) (all : List X) (i : ℕ) (x : X) → i < length all → x ≡ get_or all i x
    → AllByRecursion P (drop i all) → P x × AllByRecursion P (drop (i + 1) all)
all_at P all i x h is a = subst (AllByRecursion P) (rest_at all i x h is) a
