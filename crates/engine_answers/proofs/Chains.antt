-- The names of a chain: as they stand in a list, the last one last, and as the definition of the block has them, the last one first.
use Rattle.std.proofs.Common.{◌≡◌, ℕ, ◌+◌, Bool, true, false, nat_eq, not, ◌||◌, List, [], ◌∷◌, ◌++◌, length, length-append, map, reverse, refl, ap, sym, ◌∙◌, if◌then◌else◌}
use Rattle.std.proofs.lemmas.List.{reverse-append, append-nil, append_assoc}
use mathlib.Core.List.{reverse-cons}
use Rattle.std.specs.List.{list_any}
use Rattle.indexmap.specs.IndexSet.{insert_key}
use Rattle.logic_meaning.specs.declared.quantifier.Quantifier.{Quantifier}
use Rattle.logic_meaning.specs.declared.quantifier.Quantifier.TheVariants.{Exists, ForAll}
use Rattle.logic_meaning.specs.Shape.{is_in, block_of, matrix_of, quantified}
use Rattle.logic_meaning.specs.Tree.{Tree}
use Rattle.logic_meaning.specs.declared.form.VarId.{VarId}
use Rattle.engine_answers.specs.Chains.{Ends}

-- the numbers of names
abbrev pub numbers : List VarId → List ℕ
numbers names = map (λ (x : VarId). x.number) names

abbrev pub same : VarId → VarId → Bool
same x y = nat_eq x.number y.number

-- ---- a name is in the chain exactly where it is in the list

in_last : (x y : ℕ) (xs : List ℕ) → is_in nat_eq x (xs ++ y ∷ []) ≡ is_in nat_eq x (y ∷ xs)
in_last x y [] = refl
in_last x y (z ∷ xs) = go (nat_eq x z) (nat_eq x y) (in_last x y xs)
  where
    go : (a b : Bool) → is_in nat_eq x (xs ++ y ∷ []) ≡ (if b then true else is_in nat_eq x xs)
        → (if a then true else is_in nat_eq x (xs ++ y ∷ [])) ≡ (if b then true else if a then true else is_in nat_eq x xs)
    go true true e = refl
    go true false e = refl
    go false b e = e

in_reverse : (x : ℕ) (xs : List ℕ) → is_in nat_eq x (reverse xs) ≡ is_in nat_eq x xs
in_reverse x [] = refl
in_reverse x (y ∷ xs) = ap (is_in nat_eq x) (reverse-cons y xs) ∙ in_last x y (reverse xs) ∙ ap (λ b. if nat_eq x y then true else b) (in_reverse x xs)

in_names : (x : VarId) (names : List VarId) → is_in nat_eq x.number (numbers names) ≡ list_any (same x) names
in_names x [] = refl
in_names x (y ∷ names) = go (same x y) (in_names x names)
  where
    go : (b : Bool) → is_in nat_eq x.number (numbers names) ≡ list_any (same x) names → (if b then true else is_in nat_eq x.number (numbers names)) ≡ (b || list_any (same x) names)
    go true e = refl
    go false e = e

in_chain : (x : VarId) (names : List VarId) → is_in nat_eq x.number (reverse (numbers names)) ≡ list_any (same x) names
in_chain x names = in_reverse x.number (numbers names) ∙ in_names x names

-- ---- what a chain makes of a formula that begins with its quantifier

block_at : (q : Quantifier) (x : ℕ) (g : Tree) (chain : List ℕ) → block_of nat_eq (quantified q x g) q chain ≡ (if is_in nat_eq x chain then [] else x ∷ block_of nat_eq g q (x ∷ chain))
block_at Exists x g chain = refl
block_at ForAll x g chain = refl

matrix_at : (q : Quantifier) (x : ℕ) (g : Tree) (chain : List ℕ) → matrix_of nat_eq (quantified q x g) q chain ≡ (if is_in nat_eq x chain then quantified q x g else matrix_of nat_eq g q (x ∷ chain))
matrix_at Exists x g chain = refl
matrix_at ForAll x g chain = refl

-- ---- one name more

numbers_pushed : (x : VarId) (names : List VarId) → numbers (names ++ x ∷ []) ≡ numbers names ++ x.number ∷ []
numbers_pushed x [] = refl
numbers_pushed x (y ∷ names) = ap (◌∷◌ y.number) (numbers_pushed x names)

module _ (q : Quantifier) (x : VarId) (names : List VarId) (f g : Tree) (e : f ≡ quantified q x.number g) where
  -- the chain so far
  abbrev pub chain : List ℕ
  chain = reverse (numbers names)

  longer : reverse (numbers (names ++ x ∷ [])) ≡ x.number ∷ chain
  longer = ap reverse (numbers_pushed x names) ∙ reverse-append (numbers names) (x.number ∷ [])

  block_here : (b : Bool) → list_any (same x) names ≡ b → block_of nat_eq f q chain ≡ (if b then [] else x.number ∷ block_of nat_eq g q (x.number ∷ chain))
  block_here b h = ap (λ t. block_of nat_eq t q chain) e ∙ block_at q x.number g chain ∙ ap (λ c. if c then [] else x.number ∷ block_of nat_eq g q (x.number ∷ chain)) (in_chain x names ∙ h)

  matrix_here : (b : Bool) → list_any (same x) names ≡ b → matrix_of nat_eq f q chain ≡ (if b then quantified q x.number g else matrix_of nat_eq g q (x.number ∷ chain))
  matrix_here b h = ap (λ t. matrix_of nat_eq t q chain) e ∙ matrix_at q x.number g chain ∙ ap (λ c. if c then quantified q x.number g else matrix_of nat_eq g q (x.number ∷ chain)) (in_chain x names ∙ h)

  -- a new name goes to the chain
  pub block_goes_on : list_any (same x) names ≡ false → numbers (names ++ x ∷ []) ++ block_of nat_eq g q (reverse (numbers (names ++ x ∷ []))) ≡ numbers names ++ block_of nat_eq f q chain
  block_goes_on h =
      ap (λ c. numbers (names ++ x ∷ []) ++ block_of nat_eq g q c) longer ∙ ap (λ ns. ns ++ block_of nat_eq g q (x.number ∷ chain)) (numbers_pushed x names)
      ∙ append_assoc (numbers names) (x.number ∷ []) (block_of nat_eq g q (x.number ∷ chain)) ∙ ap (λ ns. numbers names ++ ns) (sym (block_here false h))

  pub matrix_goes_on : list_any (same x) names ≡ false → matrix_of nat_eq g q (reverse (numbers (names ++ x ∷ []))) ≡ matrix_of nat_eq f q chain
  matrix_goes_on h = ap (λ c. matrix_of nat_eq g q c) longer ∙ sym (matrix_here false h)

  -- one that stands in it ends it
  pub block_ends : list_any (same x) names ≡ true → block_of nat_eq f q chain ≡ []
  block_ends h = block_here true h

  pub matrix_ends : list_any (same x) names ≡ true → matrix_of nat_eq f q chain ≡ f
  matrix_ends h = matrix_here true h ∙ sym e

-- ---- what the list says of a name that is put in

taken : (x : VarId) (names : List VarId) (b : Bool) → list_any (same x) names ≡ b → insert_key same names x ≡ (if b then names else names ++ x ∷ [])
taken x names b h = ap (λ c. if c then names else names ++ x ∷ []) h

is_new : (r b : Bool) → r ≡ not b → r ≡ true → b ≡ false
is_new r true e h = sym h ∙ e
is_new r false e h = refl

stands : (r b : Bool) → r ≡ not b → r ≡ false → b ≡ true
stands r true e h = refl
stands r false e h = sym h ∙ e

module _ (q : Quantifier) (x : VarId) (names new : List VarId) (f g : Tree) (e : f ≡ quantified q x.number g) (r : Bool) (k : new ≡ insert_key same names x) (a : r ≡ not (list_any (same x) names)) where
  module _ (h : r ≡ true) where
    longer_list : new ≡ names ++ x ∷ []
    longer_list = k ∙ taken x names false (is_new r (list_any (same x) names) a h)

    pub next_length : length new ≡ length names + 1
    next_length = ap length longer_list ∙ length-append names (x ∷ [])

    pub next_block : numbers new ++ block_of nat_eq g q (reverse (numbers new)) ≡ numbers names ++ block_of nat_eq f q (reverse (numbers names))
    next_block = ap (λ ns. numbers ns ++ block_of nat_eq g q (reverse (numbers ns))) longer_list ∙ block_goes_on q x names f g e (is_new r (list_any (same x) names) a h)

    pub next_matrix : matrix_of nat_eq g q (reverse (numbers new)) ≡ matrix_of nat_eq f q (reverse (numbers names))
    next_matrix = ap (λ ns. matrix_of nat_eq g q (reverse (numbers ns))) longer_list ∙ matrix_goes_on q x names f g e (is_new r (list_any (same x) names) a h)

  module _ (h : r ≡ false) where
    pub last_length : length new ≡ length names
    last_length = ap length (k ∙ taken x names true (stands r (list_any (same x) names) a h))

    pub last_block : numbers new ≡ numbers names ++ block_of nat_eq f q (reverse (numbers names))
    last_block =
        let old = stands r (list_any (same x) names) a h in
        ap numbers (k ∙ taken x names true old) ∙ sym (append-nil (numbers names)) ∙ ap (λ ns. numbers names ++ ns) (sym (block_ends q x names f g e old))

    pub last_matrix : f ≡ matrix_of nat_eq f q (reverse (numbers names))
    last_matrix = sym (matrix_ends q x names f g e (stands r (list_any (same x) names) a h))

-- ---- where no chain goes on

module _ (q : Quantifier) (names : List VarId) (f : Tree) (e : Ends q f) where
  pub end_block : numbers names ≡ numbers names ++ block_of nat_eq f q (reverse (numbers names))
  end_block = sym (append-nil (numbers names)) ∙ ap (λ ns. numbers names ++ ns) (sym (e.names (reverse (numbers names))))

  pub end_matrix : f ≡ matrix_of nat_eq f q (reverse (numbers names))
  end_matrix = sym (e.matrix (reverse (numbers names)))
