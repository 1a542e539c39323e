-- Flags and numbers that are put one after another.
use Rattle.std.proofs.Common.{◌≡◌, ◌<◌, ◌≤◌, ◌↔◌, ◌⊎◌, ℕ, zero, suc, Bool, true, false, IsTrue, List, [], ◌∷◌, ◌++◌, Some, None, length, take, inl, inr, refl, sym, ap, ◌∙◌, subst, arith, nat_eq, if◌then◌else◌}
use Rattle.std.specs.Prelude.{slice_get, unwrap_or}
use Rattle.std.specs.List.{AllByRecursion}
use Rattle.std.proofs.lemmas.Bool.{cases_eq, cases_lt, eqb-true}
use Rattle.logic_meaning.specs.Shape.{is_in}
use Rattle.logic_meaning.specs.Some.{Among}
use Rattle.logic_meaning.specs.Tree.{Tree, IsFree, tree_names}
use Rattle.formula_laws.proofs.TreeNames.{names_listed}
use Rattle.shape_theory.proofs.Whole.{among_is_in}
use Rattle.prenex_forms.specs.Named.{now_of}
use Rattle.prenex_forms.specs.Chosen.{flag}

module _ {X : Type 0} where
  get_front : (xs : List X) (b : X) (x : ℕ) → x < length xs → slice_get (xs ++ b ∷ []) x ≡ slice_get xs x
  get_front [] b x h = absurd (omega arith)
  get_front (y ∷ ys) b zero h = refl
  get_front (y ∷ ys) b (suc x) h = get_front ys b x (omega arith)

  get_last : (xs : List X) (b : X) (x : ℕ) → length xs ≡ x → slice_get (xs ++ b ∷ []) x ≡ Some b
  get_last [] b zero h = refl
  get_last [] b (suc x) h = absurd (omega arith)
  get_last (y ∷ ys) b zero h = absurd (omega arith)
  get_last (y ∷ ys) b (suc x) h = get_last ys b x (omega arith)

  get_past : (xs : List X) (x : ℕ) → length xs ≤ x → slice_get xs x ≡ None
  get_past [] zero h = refl
  get_past [] (suc x) h = refl
  get_past (y ∷ ys) zero h = absurd (omega arith)
  get_past (y ∷ ys) (suc x) h = get_past ys x (omega arith)

pub length_push : {X : Type 0} (xs : List X) (b : X) → length (xs ++ b ∷ []) ≡ suc (length xs)
length_push [] b = refl
length_push (y ∷ ys) b = ap suc (length_push ys b)

pub now_push : (xs ys : List ℕ) (n : ℕ) → ((x : ℕ) → now_of xs x ≡ x) → length xs ≡ n → ys ≡ xs ++ n ∷ [] → (x : ℕ) → now_of ys x ≡ x
now_push xs ys n h e s x = ap (λ zs. now_of zs x) s ∙ elim (cases_order x) [
  | inl l ↦ ap (λ o. unwrap_or o x) (get_front xs n x (omega arith)) ∙ h x
  | inr (inl m) ↦ ap (λ o. unwrap_or o x) (get_last xs n x (e ∙ sym m)) ∙ sym m
  | inr (inr g) ↦ let k = length_push xs n in ap (λ o. unwrap_or o x) (get_past (xs ++ n ∷ []) x (omega arith))
]
  where
    cases_order : (x : ℕ) → (x < n) ⊎ ((x ≡ n) ⊎ (n < x))
    cases_order x = elim (cases_eq x n) [
      | inl m ↦ inr (inl m)
      | inr d ↦ elim (cases_lt x n) [
        | inl l ↦ inl l
        | inr g ↦ inr (inr (omega arith))
      ]
    ]

is_in_among : (x : ℕ) (xs : List ℕ) → is_in nat_eq x xs ≡ true → Among xs x
is_in_among x [] e = absurd (cc)
is_in_among x (y ∷ ys) e = go (nat_eq x y) refl e (is_in_among x ys)
  where
    go : (b : Bool) → nat_eq x y ≡ b → (if b then true else is_in nat_eq x ys) ≡ true → (is_in nat_eq x ys ≡ true → Among ys x) → Among (y ∷ ys) x
    go true k e r = inl (sym (eqb-true x y k))
    go false k e r = inr (r e)

free_is_in : (f : Tree) (x : ℕ) → IsFree f x → is_in nat_eq x (tree_names f) ≡ true
free_is_in f x h = among_is_in x (tree_names f) ((names_listed f x).1 h)

-- a test of a free name
pub told_free : (b : Bool) (f : Tree) (x : ℕ) → IsTrue b ↔ IsFree f x → b ≡ is_in nat_eq x (tree_names f)
told_free true f x e = sym (free_is_in f x (e.0 refl))
told_free false f x e = go (is_in nat_eq x (tree_names f)) refl
  where
    go : (d : Bool) → is_in nat_eq x (tree_names f) ≡ d → false ≡ d
    go true k = let t : IsTrue false = e.1 ((names_listed f x).0 (is_in_among x (tree_names f) k)) in absurd (cc)
    go false k = refl

pub none_flag : (xs : List Bool) → AllByRecursion (λ b. b ≡ false) xs → (x : ℕ) → flag xs x ≡ false
none_flag [] h zero = refl
none_flag [] h (suc x) = refl
none_flag (b ∷ bs) h zero = h.0
none_flag (b ∷ bs) h (suc x) = none_flag bs h.1 x

-- one flag more that is not set
pub none_more : (xs ys : List Bool) → AllByRecursion (λ b. b ≡ false) xs → ys ≡ xs ++ false ∷ [] → AllByRecursion (λ b. b ≡ false) ys
none_more xs ys h e = subst (AllByRecursion (λ b. b ≡ false)) (sym e) (go xs h)
  where
    go : (bs : List Bool) → AllByRecursion (λ b. b ≡ false) bs → AllByRecursion (λ b. b ≡ false) (bs ++ false ∷ [])
    go [] k = (refl, tt)
    go (b ∷ bs) k = (k.0, go bs k.1)

-- no flag past the end
pub flag_all : (f : Tree) (xs : List Bool) (n : ℕ) → ((x : ℕ) → IsFree f x → x < n) → ((x : ℕ) → x < n → flag xs x ≡ is_in nat_eq x (tree_names f)) → length xs ≡ n → (x : ℕ) → flag xs x ≡ is_in nat_eq x (tree_names f)
flag_all f xs n below h e x = elim (cases_lt x n) [
  | inl l ↦ h x l
  | inr g ↦ ap (λ o. unwrap_or o false) (get_past xs x (omega arith)) ∙ told_free false f x (λ (v : IsTrue false). absurd (cc), λ v. let l = below x v in absurd (omega arith))
]

-- what stands in front
pub front_whole : (n : ℕ) (xs ys : List Bool) → n ≡ length xs → take n (xs ++ ys) ≡ xs
front_whole n xs ys e = ap (λ k. take k (xs ++ ys)) e ∙ go xs
  where
    go : (bs : List Bool) → take (length bs) (bs ++ ys) ≡ bs
    go [] = refl
    go (b ∷ bs) = ap (λ cs. b ∷ cs) (go bs)
