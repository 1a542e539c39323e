-- Lists so far, and what follows of results.
use Rattle.std.proofs.Common.{◌≡◌, inl, inr, ℕ, zero, suc, ◌+◌, ◌<◌, ◌≤◌, Bool, true, false, cond, List, [], ◌∷◌, ◌++◌, length, get_or, take, map, Result, Ok, Err, ap, sym, ◌∙◌, subst, refl, arith}
use Rattle.std.specs.Prelude.{filter}
use Rattle.std.specs.Result.{IfOk}
use Rattle.std.proofs.lemmas.List.{take_more, take_all}
use Rattle.logic_meaning.specs.Some.{Among, EachOf}
use Rattle.elimination_theory.proofs.SomeListed.{each_append}

pub ok_map : {X E : Type 0} (r : Result X E) (P Q : X → Type 0) → ((x : X) → P x → Q x) → IfOk r P → IfOk r Q
ok_map (Ok x) P Q f h = f x h
ok_map (Err e) P Q f h = tt

pub take_next : {X : Type 0} (xs : List X) (i : ℕ) (x : X) → i < length xs → x ≡ get_or xs i x → take (i + 1) xs ≡ take i xs ++ x ∷ []
take_next xs i x h e = take_more xs i x h ∙ ap (λ y. take i xs ++ y ∷ []) (sym e)

pub each_next : {X : Type 0} (P : X → Type 0) (xs : List X) (i : ℕ) (x : X) → i < length xs → x ≡ get_or xs i x → EachOf P (take i xs) → P x → EachOf P (take (i + 1) xs)
each_next P xs i x h e before here = subst (EachOf P) (sym (take_next xs i x h e)) (each_append P (take i xs) (x ∷ []) before (here, tt))

pub each_none : {X : Type 0} (P : X → Type 0) (xs : List X) → EachOf P (take 0 xs)
each_none P [] = tt
each_none P (x ∷ xs) = tt

pub each_all : {X : Type 0} (P : X → Type 0) (xs : List X) (i : ℕ) → length xs ≤ i → EachOf P (take i xs) → EachOf P xs
each_all P xs i h e = subst (EachOf P) (take_all i xs h) e

pub among_at : {X : Type 0} (xs : List X) (i : ℕ) (x : X) → i < length xs → x ≡ get_or xs i x → Among xs x
among_at [] i x h e = absurd (omega arith)
among_at (y ∷ xs) zero x h e = inl (sym e)
among_at (y ∷ xs) (suc i) x h e = inr (among_at xs i x (omega arith) e)

pub among_mapped : {X Y : Type 0} (f : X → Y) (xs : List X) (x : X) → Among xs x → Among (map f xs) (f x)
among_mapped f [] x m = absurd m
among_mapped f (y ∷ xs) x (inl e) = inl (ap f e)
among_mapped f (y ∷ xs) x (inr m) = inr (among_mapped f xs x m)

pub each_mapped_back : {X Y : Type 0} (P : Y → Type 0) (f : X → Y) (xs : List X) → EachOf (λ x. P (f x)) xs → EachOf P (map f xs)
each_mapped_back P f [] h = tt
each_mapped_back P f (x ∷ xs) h = (h.0, each_mapped_back P f xs h.1)

pub each_unmapped : {X Y : Type 0} (P : Y → Type 0) (f : X → Y) (xs : List X) → EachOf P (map f xs) → EachOf (λ x. P (f x)) xs
each_unmapped P f [] h = tt
each_unmapped P f (x ∷ xs) h = (h.0, each_unmapped P f xs h.1)

filter_append : {X : Type 0} (test : X → Bool) (xs ys : List X) → filter test (xs ++ ys) ≡ filter test xs ++ filter test ys
filter_append test [] ys = refl
filter_append test (x ∷ xs) ys = go (test x) (filter_append test xs ys)
  where
    go : (b : Bool) → filter test (xs ++ ys) ≡ filter test xs ++ filter test ys → cond b (x ∷ filter test (xs ++ ys)) (filter test (xs ++ ys)) ≡ cond b (x ∷ filter test xs) (filter test xs) ++ filter test ys
    go true e = ap (λ zs. x ∷ zs) e
    go false e = e

one_of : {X : Type 0} (test : X → Bool) (x : X) (b : Bool) → test x ≡ b → filter test (x ∷ []) ≡ cond b (x ∷ []) []
one_of test x b e = ap (λ (c : Bool). cond c (x ∷ []) []) e

pub filter_next : {X : Type 0} (test : X → Bool) (xs : List X) (i : ℕ) (x : X) (b : Bool) → i < length xs → x ≡ get_or xs i x → test x ≡ b → filter test (take (i + 1) xs) ≡ filter test (take i xs) ++ cond b (x ∷ []) []
filter_next test xs i x b h e t = ap (filter test) (take_next xs i x h e) ∙ filter_append test (take i xs) (x ∷ []) ∙ ap (λ zs. filter test (take i xs) ++ zs) (one_of test x b t)

pub append_nothing : {X : Type 0} (xs : List X) → xs ++ [] ≡ xs
append_nothing [] = refl
append_nothing (x ∷ xs) = ap (λ ys. x ∷ ys) (append_nothing xs)
