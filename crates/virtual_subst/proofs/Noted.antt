-- A table by rising ids: how it is searched, and how it notes what is made of one formula more.
use Rattle.std.proofs.Common.{◌≡◌, ◌≤◌, ◌<◌, ◌+◌, ⊎_elim, inl, inr, ℕ, zero, suc, Bool, true, false, nat_cmp, Less, Equal, Greater, List, [], ◌∷◌, ◌++◌, length, get_or, take, refl, ap, sym, ◌∙◌, subst, arith, eqb-true}
use Rattle.std.specs.Prelude.{if◌then◌else◌}
use Rattle.std.specs.Ordering.{ordering_index}
use Rattle.std.specs.Cmp.{ranked}
use Rattle.std.specs.List.{AllByRecursion, HoldsAt}
use Rattle.std.specs.List.Sorted.{IsNonDecreasingBy, IsPartitionPoint}
use Rattle.std.proofs.lemmas.Bool.{cases_lt}
use Rattle.std.proofs.lemmas.Bool.Decides.{nat_tests}
use Rattle.std.proofs.lemmas.List.{take_more}
use Rattle.formula_store.specs.declared.id.FormulaId.{FormulaId}
use Rattle.formula_store.specs.Order.{RisesFrom, Rises}
use Rattle.formula_store.specs.Tables.{same_id}
use Rattle.formula_store.proofs.Keys.{itself_id}
use Rattle.formula_store.proofs.Marked.{all_joined}
use Rattle.virtual_subst.specs.Shared.{Table, made_of, KeysAbove, KeysRise, Notes}

-- ---- one formula first

other_id : (a b : FormulaId) → ¬ (a.number ≡ b.number) → (t : Bool) → same_id a b ≡ t → t ≡ false
other_id a b n true e = absurd (n (eqb-true a.number b.number e))
other_id a b n false e = refl

made_first : (p : FormulaId × FormulaId) (ps : Table) → made_of (p ∷ ps) p.0 ≡ p.1
made_first p ps = ap (λ (t : Bool). if t then p.1 else made_of ps p.0) (itself_id p.0)

made_later : (p : FormulaId × FormulaId) (ps : Table) (x : FormulaId) → ¬ (p.0.number ≡ x.number) → made_of (p ∷ ps) x ≡ made_of ps x
made_later p ps x n = ap (λ (t : Bool). if t then p.1 else made_of ps x) (other_id p.0 x n (same_id p.0 x) refl)

-- ---- the search

above_at : (x : ℕ) (ps : Table) (i : ℕ) (d : FormulaId × FormulaId) → KeysAbove x ps → i < length ps → x < (get_or ps i d).0.number
above_at x [] i d a h = absurd (omega arith)
above_at x (p ∷ ps) zero d a h = a.0
above_at x (p ∷ ps) (suc i) d a h = above_at x ps i d a.1 (omega arith)

made_at : (ps : Table) (i : ℕ) (d : FormulaId × FormulaId) → KeysRise ps → i < length ps → made_of ps (get_or ps i d).0 ≡ (get_or ps i d).1
made_at [] i d r h = absurd (omega arith)
made_at (p ∷ ps) zero d r h = made_first p ps
made_at (p ∷ ps) (suc i) d r h =
    let b : i < length ps = omega arith in
    let a = above_at p.0.number ps i d r.0 b in
    made_later p ps (get_or ps i d).0 (λ (e : p.0.number ≡ (get_or ps i d).0.number). omega arith) ∙ made_at ps i d r.1 b

made_nowhere : (x : FormulaId) (ps : Table) → ((i : ℕ) (d : FormulaId × FormulaId) → i < length ps → ¬ ((get_or ps i d).0.number ≡ x.number)) → made_of ps x ≡ x
made_nowhere x [] n = refl
made_nowhere x (p ∷ ps) n = made_later p ps x (n zero p (omega arith)) ∙ made_nowhere x ps (λ i d h. n (suc i) d (omega arith))

keys_rise : (ps : Table) (i j : ℕ) (d : FormulaId × FormulaId) → KeysRise ps → i ≤ j → j < length ps → (get_or ps i d).0.number ≤ (get_or ps j d).0.number
keys_rise [] i j d r h k = absurd (omega arith)
keys_rise (p ∷ ps) zero zero d r h k = omega arith
keys_rise (p ∷ ps) zero (suc j) d r h k = let a = above_at p.0.number ps j d r.0 (omega arith) in omega arith
keys_rise (p ∷ ps) (suc i) zero d r h k = absurd (omega arith)
keys_rise (p ∷ ps) (suc i) (suc j) d r h k = keys_rise ps i j d r.1 (omega arith) (omega arith)

index_rises : (x y v : ℕ) → x ≤ y → ordering_index (nat_cmp x v) ≤ ordering_index (nat_cmp y v)
index_rises x y v h = grind (arith, nat_tests)

-- how the ids of a table compare with one id
pub keys_compare : (ps : Table) (v : ℕ) → KeysRise ps → IsNonDecreasingBy (λ p. ordering_index (nat_cmp p.0.number v)) ps
keys_compare ps v r = λ i j d h k. index_rises (get_or ps i d).0.number (get_or ps j d).0.number v (keys_rise ps i j d r h k)

compared_less : (x v : ℕ) → nat_cmp x v ≡ Less → ¬ (x ≡ v)
compared_less x v e = let l : x < v = ranked x v Less (sym e) in λ (f : x ≡ v). omega arith

compared_more : (x v : ℕ) → nat_cmp x v ≡ Greater → ¬ (x ≡ v)
compared_more x v e = let l : v < x = ranked x v Greater (sym e) in λ (f : x ≡ v). omega arith

-- a search that finds the id
pub found : (ps : Table) (x : FormulaId) (i : ℕ) (d : FormulaId × FormulaId) → KeysRise ps → i < length ps → HoldsAt (λ p. nat_cmp p.0.number x.number ≡ Equal) ps i → (get_or ps i d).1 ≡ made_of ps x
found ps x i d r h e =
    let s : (get_or ps i d).0.number ≡ x.number = ranked (get_or ps i d).0.number x.number Equal (sym (e d)) in
    let same : (get_or ps i d).0 ≡ x = λ k. record { number = s k } in
    sym (made_at ps i d r h) ∙ ap (made_of ps) same

-- and one that does not
pub not_found : (ps : Table) (x : FormulaId) (i : ℕ) → IsPartitionPoint (λ p. nat_cmp p.0.number x.number ≡ Less) (λ p. nat_cmp p.0.number x.number ≡ Greater) ps i → x ≡ made_of ps x
not_found ps x i p =
    sym (made_nowhere x ps (λ k d h. elim (cases_lt k i) [
      | inl l ↦ compared_less (get_or ps k d).0.number x.number (p.0 k d (omega arith) l)
      | inr l ↦ compared_more (get_or ps k d).0.number x.number (p.1 k d l h)
    ]))

-- ---- one formula more, which comes after those of the table

-- each formula of the table comes before x
abbrev pub KeysBelow : ℕ → Table → Type 0
KeysBelow x ps = AllByRecursion (λ p. p.0.number < x) ps

made_last : (ps : Table) (id copy : FormulaId) → KeysBelow id.number ps → made_of (ps ++ (id, copy) ∷ []) id ≡ copy
made_last [] id copy h = made_first (id, copy) []
made_last (p ∷ ps) id copy h = let l = h.0 in made_later p (ps ++ (id, copy) ∷ []) id (λ (e : p.0.number ≡ id.number). omega arith) ∙ made_last ps id copy h.1

made_none : (ps : Table) (id : FormulaId) → KeysBelow id.number ps → made_of ps id ≡ id
made_none [] id h = refl
made_none (p ∷ ps) id h = let l = h.0 in made_later p ps id (λ (e : p.0.number ≡ id.number). omega arith) ∙ made_none ps id h.1

made_before : (ps : Table) (id copy x : FormulaId) → x.number < id.number → made_of (ps ++ (id, copy) ∷ []) x ≡ made_of ps x
made_before [] id copy x h = made_later (id, copy) [] x (λ (e : id.number ≡ x.number). omega arith)
made_before (p ∷ ps) id copy x h = ap (λ y. if same_id p.0 x then p.1 else y) (made_before ps id copy x h)

above_last : (k : ℕ) (ps : Table) (id copy : FormulaId) → KeysAbove k ps → k < id.number → KeysAbove k (ps ++ (id, copy) ∷ [])
above_last k [] id copy h l = (l, tt)
above_last k (p ∷ ps) id copy h l = (h.0, above_last k ps id copy h.1 l)

rise_last : (ps : Table) (id copy : FormulaId) → KeysRise ps → KeysBelow id.number ps → KeysRise (ps ++ (id, copy) ∷ [])
rise_last [] id copy h l = (tt, tt)
rise_last (p ∷ ps) id copy h l = (above_last p.0.number ps id copy h.0 l.0, rise_last ps id copy h.1 l.1)

below_more : (x y : ℕ) (ps : Table) → x < y → KeysBelow x ps → KeysBelow y ps
below_more x y [] l h = tt
below_more x y (p ∷ ps) l h = let k = h.0 in (omega arith, below_more x y ps l h.1)

below_last : (x : ℕ) (ps : Table) (id copy : FormulaId) → id.number < x → KeysBelow x ps → KeysBelow x (ps ++ (id, copy) ∷ [])
below_last x [] id copy l h = (l, tt)
below_last x (p ∷ ps) id copy l h = (h.0, below_last x ps id copy l h.1)

-- ---- the ids of a rising list

ids_above : (x : ℕ) (ids : List FormulaId) (i : ℕ) (d : FormulaId) → RisesFrom x ids → i < length ids → x < (get_or ids i d).number
ids_above x [] i d r h = absurd (omega arith)
ids_above x (a ∷ ids) zero d r h = r.0
ids_above x (a ∷ ids) (suc i) d r h = let k = ids_above a.number ids i d r.1 (omega arith) in let l = r.0 in omega arith

pub ids_rise : (ids : List FormulaId) (i j : ℕ) (d : FormulaId) → Rises ids → i < j → j < length ids → (get_or ids i d).number < (get_or ids j d).number
ids_rise [] i j d r h k = absurd (omega arith)
ids_rise (a ∷ ids) zero zero d r h k = absurd (omega arith)
ids_rise (a ∷ ids) zero (suc j) d r h k = ids_above a.number ids j d r (omega arith)
ids_rise (a ∷ ids) (suc i) zero d r h k = absurd (omega arith)
ids_rise (a ∷ ids) (suc i) (suc j) d r h k = ids_rise ids i j d (rest a ids r) (omega arith) (omega arith)
  where
    rest : (a : FormulaId) (ids : List FormulaId) → RisesFrom a.number ids → Rises ids
    rest a [] r = tt
    rest a (b ∷ ids) r = r.1

before_at : (ids : List FormulaId) (i : ℕ) (d : FormulaId) (n : ℕ) → ((j : ℕ) → j < i → (get_or ids j d).number < n) → i ≤ length ids → AllByRecursion (λ x. x.number < n) (take i ids)
before_at [] zero d n h l = tt
before_at [] (suc i) d n h l = tt
before_at (a ∷ ids) zero d n h l = tt
before_at (a ∷ ids) (suc i) d n h l = (h zero (omega arith), before_at ids i d n (λ j k. h (suc j) (omega arith)) (omega arith))

-- ---- what is made of the formulas of a list, as far as the table has noted it

-- the ids of the table rise, and come before those of the list that are still to come
pub record IsBehind (table : Table) (ids : List FormulaId) (i : ℕ) : Type 0 where
  pub rise : KeysRise table
  pub below : (j : ℕ) (d : FormulaId) → i ≤ j → j < length ids → KeysBelow (get_or ids j d).number table

pub begun : (ids : List FormulaId) → IsBehind [] ids 0
begun ids = record { rise = tt; below = λ j d h k. tt }

module _ (ids : List FormulaId) (rises : Rises ids) (i : ℕ) (d : FormulaId) (within : i < length ids) (table table2 : Table) (copy : FormulaId) (notes : Notes table table2 (get_or ids i d) copy) (h : IsBehind table ids i) where
  here : FormulaId
  here = get_or ids i d

  own_below : KeysBelow (get_or ids i d).number table
  own_below = h.below i d (omega arith) within

  pub one_more : IsBehind table2 ids (i + 1)
  one_more = ⊎_elim
      (λ e. subst (λ (t : Table). IsBehind t ids (i + 1)) (sym e) (record {
        rise = rise_last table (get_or ids i d) copy h.rise own_below;
        below = λ j f l k. below_last (get_or ids j f).number table (get_or ids i d) copy (subst (λ (z : FormulaId). (get_or ids i d).number < z.number) (same_default j f k) (ids_rise ids i j d rises (omega arith) k)) (h.below j f (omega arith) k);
      }))
      (λ e. subst (λ (t : Table). IsBehind t ids (i + 1)) (sym e.1) (record { rise = h.rise; below = λ j f l k. h.below j f (omega arith) k })) notes
    where
      default_at : (xs : List FormulaId) (j : ℕ) (f : FormulaId) → j < length xs → get_or xs j d ≡ get_or xs j f
      default_at [] j f k = absurd (omega arith)
      default_at (x ∷ xs) zero f k = refl
      default_at (x ∷ xs) (suc j) f k = default_at xs j f (omega arith)

      same_default : (j : ℕ) (f : FormulaId) → j < length ids → get_or ids j d ≡ get_or ids j f
      same_default j f k = default_at ids j f k

  module _ (P Q : FormulaId → FormulaId → Type 0) (grows : (x y : FormulaId) → P x y → Q x y) (new : Q (get_or ids i d) copy) where
    noted_here : Q (get_or ids i d) (made_of table2 (get_or ids i d))
    noted_here = ⊎_elim
        (λ e. subst (Q (get_or ids i d)) (sym (ap (λ (t : Table). made_of t (get_or ids i d)) e ∙ made_last table (get_or ids i d) copy own_below)) new)
        (λ e. subst (Q (get_or ids i d)) (e.0 ∙ sym (ap (λ (t : Table). made_of t (get_or ids i d)) e.1 ∙ made_none table (get_or ids i d) own_below)) new) notes

    noted_there : (x : FormulaId) → x.number < (get_or ids i d).number → P x (made_of table x) → Q x (made_of table2 x)
    noted_there x l p = ⊎_elim
        (λ e. subst (Q x) (sym (ap (λ (t : Table). made_of t x) e ∙ made_before table (get_or ids i d) copy x l)) (grows x (made_of table x) p))
        (λ e. subst (λ (t : Table). Q x (made_of t x)) (sym e.1) (grows x (made_of table x) p)) notes

    all_there : (xs : List FormulaId) → AllByRecursion (λ x. x.number < (get_or ids i d).number) xs → AllByRecursion (λ x. P x (made_of table x)) xs → AllByRecursion (λ x. Q x (made_of table2 x)) xs
    all_there [] l p = tt
    all_there (x ∷ xs) l p = (noted_there x l.0 p.0, all_there xs l.1 p.1)

    -- what it has of the ids before one in a list, and of that one
    pub noted_more : AllByRecursion (λ x. P x (made_of table x)) (take i ids) → AllByRecursion (λ x. Q x (made_of table2 x)) (take (i + 1) ids)
    noted_more known =
        rw (take_more ids i d within)
        (all_joined (λ x. Q x (made_of table2 x)) (take i ids) (get_or ids i d ∷ [])
        (all_there (take i ids) (before_at ids i d (get_or ids i d).number (λ j k. ids_rise ids j i d rises k within) (omega arith)) known) (noted_here, tt))
