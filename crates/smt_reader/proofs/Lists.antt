-- Lists of one, two or three, and lists that are read one after another.
use Rattle.std.proofs.Common.{◌≡◌, ℕ, suc, ◌+◌, ◌<◌, ◌≤◌, List, [], ◌∷◌, ◌++◌, length, drop, map, Bool, false, get_or, sym, refl, ap, ◌∙◌, arith, append_assoc, add-one}
use Rattle.std.specs.Prelude.{Option, Some, None, ◌==◌, if◌then◌else◌}
use Rattle.std.specs.Option.{option_map}
use denote.Param.Weighed.{most}
use Rattle.std.proofs.Math.ListN.{drop_of_length-le}
use Rattle.std.proofs.Math.Seq.{drop-cons}
use Rattle.smt_language.specs.Trees.{CommandTree}
use Rattle.smt_reader.specs.declared.sexpr.SExpr.{SExpr}
use Rattle.smt_language.specs.SExprs.{SExprTree}
use Rattle.smt_reader.specs.CodeTrees.{sexpr_tree, trees_of}
use Rattle.smt_language.specs.SpelledShapes.{one_of, two_of, count, put_before, each_of, is_none, is_void}
use Rattle.smt_language.specs.ReadCommands.{constant_of, names_of, some_names, alone}
use Rattle.smt_language.specs.Expressions.{group_head}

pub one_list : {A : Type 0} (xs : List A) (a : A) → 1 ≤ length xs → length xs < 2 → a ≡ get_or xs 0 a → xs ≡ a ∷ []
one_list [] a some few e = absurd (omega (arith, some))
one_list (x ∷ []) a some few e = ap (λ y. y ∷ []) (sym e)
one_list (x ∷ y ∷ xs) a some few e = absurd (omega (arith, few))

pub two_list : {A : Type 0} (xs : List A) (a b : A) → 2 ≤ length xs → length xs < 3 → a ≡ get_or xs 0 a → b ≡ get_or xs 1 b → xs ≡ a ∷ b ∷ []
two_list [] a b some few e f = absurd (omega (arith, some))
two_list (x ∷ []) a b some few e f = absurd (omega (arith, some))
two_list (x ∷ y ∷ []) a b some few e f = ap (λ z. z ∷ y ∷ []) (sym e) ∙ ap (λ z. a ∷ z ∷ []) (sym f)
two_list (x ∷ y ∷ z ∷ xs) a b some few e f = absurd (omega (arith, few))

pub three_list : {A : Type 0} (xs : List A) (a b c : A) → 3 ≤ length xs → length xs < 4 → a ≡ get_or xs 0 a → b ≡ get_or xs 1 b → c ≡ get_or xs 2 c → xs ≡ a ∷ b ∷ c ∷ []
three_list [] a b c some few e f g = absurd (omega (arith, some))
three_list (x ∷ []) a b c some few e f g = absurd (omega (arith, some))
three_list (x ∷ y ∷ []) a b c some few e f g = absurd (omega (arith, some))
three_list (x ∷ y ∷ z ∷ []) a b c some few e f g = ap (λ w. w ∷ y ∷ z ∷ []) (sym e) ∙ ap (λ w. a ∷ w ∷ z ∷ []) (sym f) ∙ ap (λ w. a ∷ b ∷ w ∷ []) (sym g)
three_list (x ∷ y ∷ z ∷ w ∷ xs) a b c some few e f g = absurd (omega (arith, few))

pub no_constant : (ss : List SExpr) → ¬ (length ss ≡ 3) → constant_of (trees_of ss) ≡ None
no_constant [] other = refl
no_constant (s ∷ []) other = refl
no_constant (s ∷ t ∷ []) other = refl
no_constant (s ∷ t ∷ u ∷ []) other = absurd (other refl)
no_constant (s ∷ t ∷ u ∷ v ∷ ss) other = refl

pub constant_is : (ss : List SExpr) (x g s : SExpr) (b : Bool) → ss ≡ x ∷ g ∷ s ∷ [] → is_void (sexpr_tree g) ≡ b
    → constant_of (trees_of ss) ≡ (if b then Some (sexpr_tree x, sexpr_tree s) else None)
constant_is ss x g s b e void = ap (λ all. constant_of (trees_of all)) e ∙ ap (λ v. if v then Some (sexpr_tree x, sexpr_tree s) else None) void

pub some_named : (ss : List SExpr) → (length ss == 0) ≡ false → names_of (trees_of ss) ≡ some_names (trees_of ss)
some_named [] some = absurd (let bad : ⊥ = cc in bad)
some_named (s ∷ ss) some = refl

pub not_alone : (c : CommandTree) (ss : List SExpr) → (length ss == 0) ≡ false → alone c (trees_of ss) ≡ None
not_alone c [] some = absurd (let bad : ⊥ = cc in bad)
not_alone c (s ∷ ss) some = refl

pub no_two : (ss : List SExpr) → ¬ (length ss ≡ 2) → two_of (trees_of ss) ≡ None
no_two [] other = refl
no_two (s ∷ []) other = refl
no_two (s ∷ t ∷ []) other = absurd (other refl)
no_two (s ∷ t ∷ u ∷ ss) other = refl

pub no_one : (ss : List SExpr) → ¬ (length ss ≡ 1) → one_of (trees_of ss) ≡ None
no_one [] other = refl
no_one (s ∷ []) other = absurd (other refl)
no_one (s ∷ t ∷ ss) other = refl

pub no_three : (ss : List SExpr) → ¬ (length ss ≡ 3) → group_head (trees_of ss) ≡ None
no_three [] other = refl
no_three (s ∷ []) other = refl
no_three (s ∷ t ∷ []) other = refl
no_three (s ∷ t ∷ u ∷ []) other = absurd (other refl)
no_three (s ∷ t ∷ u ∷ v ∷ ss) other = refl

some_length : (n : ℕ) → (suc n == 0) ≡ false
some_length n = grind arith

pub none_is : (ss : List SExpr) → is_none (trees_of ss) ≡ (length ss == 0)
none_is [] = refl
none_is (s ∷ ss) = sym (some_length (length ss))

pub count_is : (ss : List SExpr) → count (trees_of ss) ≡ length ss
count_is [] = refl
count_is (s ∷ ss) = ap suc (count_is ss)

-- these stand before others
abbrev pub onto : {A : Type 0} → List A → Option (List A) → Option (List A)
onto done o = option_map (λ xs. done ++ xs) o

onto_nothing : {A : Type 0} (o : Option (List A)) → o ≡ onto [] o
onto_nothing None = refl
onto_nothing (Some xs) = refl

onto_more : {A : Type 0} (done : List A) (x : A) (o : Option (List A)) → onto done (put_before (Some x) o) ≡ onto (done ++ x ∷ []) o
onto_more done x None = refl
onto_more done x (Some xs) = ap Some (sym (append_assoc done (x ∷ []) xs))

pub append_none : {A : Type 0} (xs : List A) → xs ++ [] ≡ xs
append_none [] = refl
append_none (x ∷ xs) = ap (λ ys. x ∷ ys) (append_none xs)

pub map_more : {A B : Type 0} (g : A → B) (xs : List A) (x : A) → map g (xs ++ x ∷ []) ≡ map g xs ++ g x ∷ []
map_more g [] x = refl
map_more g (y ∷ xs) x = ap (λ ys. g y ∷ ys) (map_more g xs x)

-- the next one of those that are left
pub next : (all : List SExpr) (i : ℕ) (s : SExpr) → i < length all → s ≡ get_or all i s → drop i all ≡ s ∷ drop (i + 1) all
next all i s less is = drop-cons all i s less ∙ ap (λ t. t ∷ drop (suc i) all) (sym is) ∙ ap (λ j. s ∷ drop j all) (sym (add-one i))

module _ {A : Type 0} (f : SExprTree → Option A) where
  -- what the first ones are, and what is left to read
  abbrev pub IsReadTo : List SExpr → List A → List SExpr → Type 0
  IsReadTo all done rest = each_of f (trees_of all) ≡ onto done (each_of f (trees_of rest))

  pub read_start : (all : List SExpr) (done : List A) → done ≡ [] → IsReadTo all done all
  read_start all done e = onto_nothing (each_of f (trees_of all)) ∙ ap (λ d. onto d (each_of f (trees_of all))) (sym e)

  pub read_more : (all : List SExpr) (i : ℕ) (s : SExpr) (done new : List A) (x : A) → i < length all → s ≡ get_or all i s → IsReadTo all done (drop i all)
      → f (sexpr_tree s) ≡ Some x → new ≡ done ++ x ∷ [] → IsReadTo all new (drop (i + 1) all)
  read_more all i s done new x less is so e put =
      so ∙ ap (λ ss. onto done (each_of f (trees_of ss))) (next all i s less is)
      ∙ ap (λ o. onto done (put_before o (each_of f (trees_of (drop (i + 1) all))))) e
      ∙ onto_more done x (each_of f (trees_of (drop (i + 1) all)))
      ∙ ap (λ d. onto d (each_of f (trees_of (drop (i + 1) all)))) (sym put)

  pub read_fails : (all : List SExpr) (i : ℕ) (s : SExpr) (done : List A) → i < length all → s ≡ get_or all i s → IsReadTo all done (drop i all)
      → f (sexpr_tree s) ≡ None → each_of f (trees_of all) ≡ None
  read_fails all i s done less is so e =
      so ∙ ap (λ ss. onto done (each_of f (trees_of ss))) (next all i s less is)
      ∙ ap (λ o. onto done (put_before o (each_of f (trees_of (drop (i + 1) all))))) e

  pub read_end : (all : List SExpr) (i : ℕ) (done : List A) → length all ≤ i → IsReadTo all done (drop i all) → each_of f (trees_of all) ≡ Some done
  read_end all i done past so =
      so ∙ ap (λ ss. onto done (each_of f (trees_of ss))) (drop_of_length-le all past) ∙ ap Some (append_none done)

  -- the same, where the code keeps what it read so far
  pub read_more_in : {C : Type 0} (g : C → A) (all : List SExpr) (i : ℕ) (s : SExpr) (done new : List C) (x : C) → i < length all → s ≡ get_or all i s → IsReadTo all (map g done) (drop i all)
      → f (sexpr_tree s) ≡ Some (g x) → new ≡ done ++ x ∷ [] → IsReadTo all (map g new) (drop (i + 1) all)
  read_more_in g all i s done new x less is so e put =
      read_more all i s (map g done) (map g new) (g x) less is so e (ap (map g) put ∙ map_more g done x)

-- what is left of a list is no larger
pub tail_less : {X : Type 0} (size : X → ℕ) (xs rest : List X) (x : X) → xs ≡ x ∷ rest → most size rest ≤ most size xs
tail_less size xs rest x e = omega (arith, ap (most size) e)
