-- Bindings of which no two bind the same name, along a list.
use Rattle.std.proofs.Common.{◌≡◌, ℕ, ◌+◌, ◌<◌, ◌≤◌, List, [], ◌∷◌, length, drop, get_or, Bool, true, false, cond, not, ◌&&◌, ◌||◌, sym, refl, ap, ◌∙◌}
use Rattle.std.specs.Prelude.{Option, Some, None, bytes_eq, ◌==◌}
use Rattle.std.specs.Ordering.{nat_cmp}
use Rattle.std.specs.Cmp.Lexicographic.{slice_cmp}
use Rattle.std.specs.BTreeMap.{is_at}
use Rattle.std.proofs.lemmas.Map.Text.{is_eq-slice_cmp}
use Rattle.std.proofs.Math.ListN.{drop_of_length-le}
use Rattle.smt_reader.specs.declared.sexpr.SExpr.{SExpr}
use Rattle.smt_language.specs.SExprs.{SExprTrees, none, also}
use Rattle.smt_reader.specs.CodeTrees.{sexpr_tree, trees_of}
use Rattle.smt_language.specs.Bindings.{bound_name, is_name, binds, is_apart, bind_apart, are_bindings}
use Rattle.smt_reader.proofs.Lists.{next}

-- this is one of the names
abbrev has_name : (List ℕ → Bool) → Option (List ℕ) → Bool
has_name has None = false
has_name has (Some x) = has x

-- none of the bindings binds one of these names
abbrev free_of : (List ℕ → Bool) → SExprTrees → Bool
free_of has none = true
free_of has (also b bs) = not (has_name has (bound_name b)) && free_of has bs

-- the names so far are these, and no two are the same; so all depends on what is left
abbrev pub IsApartTo : List SExpr → (List ℕ → Bool) → List SExpr → Type 0
IsApartTo all has rest = bind_apart (trees_of all) ≡ bind_apart (trees_of rest) && free_of has (trees_of rest)

-- a name is put in
abbrev pub Puts : (List ℕ → Bool) → (List ℕ → Bool) → List ℕ → Type 0
Puts old new x = (y : List ℕ) → new y ≡ cond (is_at (slice_cmp nat_cmp x) y) true (old y)

mix : (a o b f n : Bool) → n ≡ not b && f → not (cond a true o) && n ≡ not (a || b) && (not o && f)
mix true o b f n e = refl
mix false true true f n e = refl
mix false true false f n e = refl
mix false false b f n e = e

free_one : (old new : List ℕ → Bool) (x : List ℕ) → Puts old new x → (o : Option (List ℕ)) (b f n : Bool) → n ≡ not b && f
    → not (has_name new o) && n ≡ not (is_name x o || b) && (not (has_name old o) && f)
free_one old new x puts None b f n e = e
free_one old new x puts (Some y) b f n e = ap (λ h. not h && n) (puts y ∙ ap (λ h. cond h true (old y)) (is_eq-slice_cmp x y)) ∙ mix (bytes_eq x y) (old y) b f n e

free_more : (old new : List ℕ → Bool) (x : List ℕ) → Puts old new x → (bs : SExprTrees) → free_of new bs ≡ not (binds x bs) && free_of old bs
free_more old new x puts none = refl
free_more old new x puts (also b bs) = free_one old new x puts (bound_name b) (binds x bs) (free_of old bs) (free_of new bs) (free_more old new x puts bs)

regroup : (b a f n : Bool) → n ≡ not b && f → (not b && a) && f ≡ a && n
regroup true true f n e = sym e
regroup true false f n e = refl
regroup false true f n e = sym e
regroup false false f n e = refl

and_false : (b : Bool) → b && false ≡ false
and_false true = refl
and_false false = refl

free_all : (has : List ℕ → Bool) → ((x : List ℕ) → has x ≡ false) → (bs : SExprTrees) → free_of has bs ≡ true
free_all has absent none = refl
free_all has absent (also b bs) = free_first (bound_name b) ∙ free_all has absent bs
  where
    free_first : (o : Option (List ℕ)) → not (has_name has o) && free_of has bs ≡ free_of has bs
    free_first None = refl
    free_first (Some x) = ap (λ h. not h && free_of has bs) (absent x)

and_true : (b c : Bool) → c ≡ true → b ≡ b && c
and_true true c e = sym e
and_true false c e = refl

pub apart_start : (all : List SExpr) (has : List ℕ → Bool) → ((x : List ℕ) → has x ≡ false) → IsApartTo all has all
apart_start all has absent = and_true (bind_apart (trees_of all)) (free_of has (trees_of all)) (free_all has absent (trees_of all))

-- what is said of the next binding
said : (all : List SExpr) (has : List ℕ → Bool) (i : ℕ) (s : SExpr) → i < length all → s ≡ get_or all i s → IsApartTo all has (drop i all)
    → (o : Option (List ℕ)) → bound_name (sexpr_tree s) ≡ o
    → bind_apart (trees_of all) ≡ (is_apart o (trees_of (drop (i + 1) all)) && bind_apart (trees_of (drop (i + 1) all))) && (not (has_name has o) && free_of has (trees_of (drop (i + 1) all)))
said all has i s less is so o e =
    so ∙ ap (λ ss. bind_apart (trees_of ss) && free_of has (trees_of ss)) (next all i s less is)
    ∙ ap (λ p. (is_apart p (trees_of (drop (i + 1) all)) && bind_apart (trees_of (drop (i + 1) all))) && (not (has_name has p) && free_of has (trees_of (drop (i + 1) all)))) e

pub apart_more : (all : List SExpr) (old new : List ℕ → Bool) (i : ℕ) (s : SExpr) (x : List ℕ) → i < length all → s ≡ get_or all i s → IsApartTo all old (drop i all)
    → bound_name (sexpr_tree s) ≡ Some x → old x ≡ false → Puts old new x → IsApartTo all new (drop (i + 1) all)
apart_more all old new i s x less is so e absent puts =
    let rest : SExprTrees = trees_of (drop (i + 1) all) in
    said all old i s less is so (Some x) e
    ∙ ap (λ h. (not (binds x rest) && bind_apart rest) && (not h && free_of old rest)) absent
    ∙ regroup (binds x rest) (bind_apart rest) (free_of old rest) (free_of new rest) (free_more old new x puts rest)

pub apart_known : (all : List SExpr) (old : List ℕ → Bool) (i : ℕ) (s : SExpr) (x : List ℕ) → i < length all → s ≡ get_or all i s → IsApartTo all old (drop i all)
    → bound_name (sexpr_tree s) ≡ Some x → old x ≡ true → bind_apart (trees_of all) ≡ false
apart_known all old i s x less is so e there =
    let rest : SExprTrees = trees_of (drop (i + 1) all) in
    said all old i s less is so (Some x) e
    ∙ ap (λ h. (not (binds x rest) && bind_apart rest) && (not h && free_of old rest)) there
    ∙ and_false (not (binds x rest) && bind_apart rest)

pub apart_none : (all : List SExpr) (old : List ℕ → Bool) (i : ℕ) (s : SExpr) → i < length all → s ≡ get_or all i s → IsApartTo all old (drop i all)
    → bound_name (sexpr_tree s) ≡ None → bind_apart (trees_of all) ≡ false
apart_none all old i s less is so e = said all old i s less is so None e

pub apart_end : (all : List SExpr) (has : List ℕ → Bool) (i : ℕ) → length all ≤ i → IsApartTo all has (drop i all) → bind_apart (trees_of all) ≡ true
apart_end all has i past so = so ∙ ap (λ ss. bind_apart (trees_of ss) && free_of has (trees_of ss)) (drop_of_length-le all past)

pub some_bindings : (ss : List SExpr) → (length ss == 0) ≡ false → bind_apart (trees_of ss) ≡ are_bindings (trees_of ss)
some_bindings [] some = absurd (let bad : ⊥ = cc in bad)
some_bindings (s ∷ ss) some = refl
