-- A search along paths.
use Rattle.std.proofs.Common.{◌≡◌, ℕ, zero, suc, ◌+◌, ◌<◌, ◌≤◌, ◌⊎◌, inl, inr, true, false, List, [], ◌∷◌, ◌++◌, Some, None, IsSome, length, drop, get_or, add-one, refl, sym, ap, ◌∙◌, subst, arith, true≢false}
use Rattle.logic_meaning.specs.Some.{SomeOf}
use Rattle.formula_store.specs.declared.id.FormulaId.{FormulaId}
use Rattle.formula_store.specs.Order.{Rises, RisesFrom}
use Rattle.normal_forms.specs.declared.paths.Paths.{Paths}
use Rattle.normal_forms.specs.declared.paths.Visit.{Visit}
use Rattle.normal_forms.specs.Atoms.{is_within}
use Rattle.normal_forms.specs.Paths.{place_at, goes_up_to, next_from, Leads, CanGoOn}
use Rattle.normal_forms.proofs.PathLaws.{lower}
use Rattle.normal_forms.proofs.Members.{within_others, first_is, within_none, rises_after, within_members, members_within}

pub some_or_last : {X : Type 0} (P : X → Type 0) (xs : List X) (x : X) → SomeOf P (xs ++ x ∷ []) → SomeOf P xs ⊎ P x
some_or_last P [] x (inl h) = inr h
some_or_last P [] x (inr h) = absurd h
some_or_last P (y ∷ xs) x (inl h) = inl (inl h)
some_or_last P (y ∷ xs) x (inr h) = split (some_or_last P xs x h)
  where
    split : SomeOf P xs ⊎ P x → SomeOf P (y ∷ xs) ⊎ P x
    split (inl i) = inl (inr i)
    split (inr i) = inr i

pub some_front : {X : Type 0} (P : X → Type 0) (xs ys : List X) → SomeOf P xs → SomeOf P (xs ++ ys)
some_front P [] ys h = absurd h
some_front P (x ∷ xs) ys (inl h) = inl h
some_front P (x ∷ xs) ys (inr h) = inr (some_front P xs ys h)

pub last_has : {X : Type 0} (P : X → Type 0) (xs : List X) (x : X) → P x → SomeOf P (xs ++ x ∷ [])
last_has P [] x h = inl h
last_has P (y ∷ xs) x h = inr (last_has P xs x h)

module _ (p : Paths) (atoms : List FormulaId) (visit : Visit) where
  -- none ends here, and no atom is left
  pub stops : drop visit.from atoms ≡ [] → (IsSome (place_at p visit.place).list → ⊥) → CanGoOn p atoms visit → ⊥
  stops e n h = split h.ahead h.leads (subst (λ (vs : List FormulaId). is_within h.ahead vs ≡ true) e h.within)
    where
      split : (us : List FormulaId) → Leads p visit.place us → is_within us [] ≡ true → ⊥
      split [] l w = n l
      split (u ∷ us) l w = within_none u us w

  module _ (x : FormulaId) (vs : List FormulaId) (e : drop visit.from atoms ≡ x ∷ vs) (rises : RisesFrom x.number vs) (none : IsSome (place_at p visit.place).list → ⊥) where
    below_first : (u : FormulaId) → (x ≡ u) ⊎ (x.number < u.number) → x.number ≤ u.number
    below_first u (inl f) = let k : x.number ≡ u.number = ap (λ (v : FormulaId). v.number) f in omega arith
    below_first u (inr l) = omega arith

    -- no atom that leads on from here is as great as the first that is left
    pub passes : goes_up_to (place_at p visit.place) x ≡ false → CanGoOn p atoms visit → ⊥
    passes g h = split h.ahead h.leads (subst (λ (ws : List FormulaId). is_within h.ahead ws ≡ true) e h.within)
      where
        split : (us : List FormulaId) → Leads p visit.place us → is_within us (x ∷ vs) ≡ true → ⊥
        split [] l w = none l
        split (u ∷ us) l w = true≢false (sym (lower (place_at p visit.place).greatest u x (below_first u (first_is x vs u us rises w)) l.1.up_to) ∙ g)

    -- without the first that is left, or by it
    pub goes_on : drop (visit.from + 1) atoms ≡ vs → CanGoOn p atoms visit
        → CanGoOn p atoms (record { place = visit.place; from = visit.from + 1 }) ⊎ ((m : ℕ) × (next_from p visit.place x ≡ Some m) × CanGoOn p atoms (record { place = m; from = visit.from + 1 }))
    goes_on d h = split h.ahead h.leads h.rise (subst (λ (ws : List FormulaId). is_within h.ahead ws ≡ true) e h.within)
      where
        later : (us : List FormulaId) → is_within us vs ≡ true → is_within us (drop (visit.from + 1) atoms) ≡ true
        later us w = subst (λ (ws : List FormulaId). is_within us ws ≡ true) (sym d) w

        by_case : (u : FormulaId) (us : List FormulaId) → Leads p visit.place (u ∷ us) → Rises (u ∷ us) → is_within (u ∷ us) (x ∷ vs) ≡ true → (x ≡ u) ⊎ (x.number < u.number)
            → CanGoOn p atoms (record { place = visit.place; from = visit.from + 1 }) ⊎ ((m : ℕ) × (next_from p visit.place x ≡ Some m) × CanGoOn p atoms (record { place = m; from = visit.from + 1 }))
        by_case u us l r w (inr k) = inl (record { ahead = u ∷ us; leads = l; rise = r; within = later (u ∷ us) (within_others x (u ∷ us) vs (k, r) w) })
        by_case u us l r w (inl f) =
            let r2 : RisesFrom x.number us = subst (λ (v : FormulaId). RisesFrom v.number us) (sym f) r in
            let w2 : is_within us (x ∷ vs) ≡ true = members_within us (x ∷ vs) (λ v i. within_members (u ∷ us) (x ∷ vs) w v (inr i)) in
            inr (l.0, subst (λ (v : FormulaId). next_from p visit.place v ≡ Some l.0) (sym f) l.1.next, record { ahead = us; leads = l.2; rise = rises_after u.number us r; within = later us (within_others x us vs r2 w2) })

        split : (us : List FormulaId) → Leads p visit.place us → Rises us → is_within us (x ∷ vs) ≡ true
            → CanGoOn p atoms (record { place = visit.place; from = visit.from + 1 }) ⊎ ((m : ℕ) × (next_from p visit.place x ≡ Some m) × CanGoOn p atoms (record { place = m; from = visit.from + 1 }))
        split [] l r w = absurd (none l)
        split (u ∷ us) l r w = by_case u us l r w (first_is x vs u us rises w)

-- what is left of rising ids begins with the next
pub left_at : (vs : List FormulaId) (i : ℕ) (x d : FormulaId) → Rises vs → i < length vs → x ≡ get_or vs i d → (ws : List FormulaId) × (drop i vs ≡ x ∷ ws) × (drop (i + 1) vs ≡ ws) × RisesFrom x.number ws
left_at [] i x d r l e = absurd (omega arith)
left_at (v ∷ vs) zero x d r l e = (vs, ap (λ (y : FormulaId). y ∷ vs) (sym e), refl, subst (λ (y : FormulaId). RisesFrom y.number vs) (sym e) r)
left_at (v ∷ vs) (suc i) x d r l e =
    let k = left_at vs i x d (rises_after v.number vs r) (omega arith) e in
    (k.0, k.1, rw add-one (ap (λ (n : ℕ). drop n vs) (sym (add-one i)) ∙ k.2), k.3)

pub none_left : (vs : List FormulaId) (i : ℕ) → length vs ≤ i → drop i vs ≡ []
none_left [] zero l = refl
none_left [] (suc i) l = refl
none_left (v ∷ vs) zero l = absurd (omega arith)
none_left (v ∷ vs) (suc i) l = none_left vs i (omega arith)

-- ---- what waits after a visit

module _ (p : Paths) (atoms : List FormulaId) (visit : Visit) (before : List Visit) where
  pub without : (CanGoOn p atoms visit → ⊥) → SomeOf (CanGoOn p atoms) (before ++ visit ∷ []) → SomeOf (CanGoOn p atoms) before
  without n h = split (some_or_last (CanGoOn p atoms) before visit h)
    where
      split : SomeOf (CanGoOn p atoms) before ⊎ CanGoOn p atoms visit → SomeOf (CanGoOn p atoms) before
      split (inl i) = i
      split (inr g) = absurd (n g)

  module _ (x : FormulaId) (rises : Rises atoms) (inside : visit.from < length atoms) (is : x ≡ get_or atoms visit.from x) (none : IsSome (place_at p visit.place).list → ⊥) where
    pub past_it : goes_up_to (place_at p visit.place) x ≡ false → SomeOf (CanGoOn p atoms) (before ++ visit ∷ []) → SomeOf (CanGoOn p atoms) before
    past_it g = let k = left_at atoms visit.from x x rises inside is in without (passes p atoms visit x k.0 k.1 k.3 none g)

    pub onward_by_none : next_from p visit.place x ≡ None → SomeOf (CanGoOn p atoms) (before ++ visit ∷ []) → SomeOf (CanGoOn p atoms) (before ++ (record { place = visit.place; from = visit.from + 1 }) ∷ [])
    onward_by_none e h = split (some_or_last (CanGoOn p atoms) before visit h)
      where
        by : CanGoOn p atoms (record { place = visit.place; from = visit.from + 1 }) ⊎ ((m : ℕ) × (next_from p visit.place x ≡ Some m) × CanGoOn p atoms (record { place = m; from = visit.from + 1 }))
            → CanGoOn p atoms (record { place = visit.place; from = visit.from + 1 })
        by (inl g) = g
        by (inr t) = let f : None ≡ Some t.0 = sym e ∙ t.1 in absurd (cc (f))

        split : SomeOf (CanGoOn p atoms) before ⊎ CanGoOn p atoms visit → SomeOf (CanGoOn p atoms) (before ++ (record { place = visit.place; from = visit.from + 1 }) ∷ [])
        split (inl i) = some_front (CanGoOn p atoms) before ((record { place = visit.place; from = visit.from + 1 }) ∷ []) i
        split (inr g) = let k = left_at atoms visit.from x x rises inside is in last_has (CanGoOn p atoms) before (record { place = visit.place; from = visit.from + 1 }) (by (goes_on p atoms visit x k.0 k.1 k.3 none k.2 g))

    pub onward_by : (next : ℕ) → next_from p visit.place x ≡ Some next → SomeOf (CanGoOn p atoms) (before ++ visit ∷ [])
        → SomeOf (CanGoOn p atoms) ((before ++ (record { place = visit.place; from = visit.from + 1 }) ∷ []) ++ (record { place = next; from = visit.from + 1 }) ∷ [])
    onward_by next e h = split (some_or_last (CanGoOn p atoms) before visit h)
      where
        by : CanGoOn p atoms (record { place = visit.place; from = visit.from + 1 }) ⊎ ((m : ℕ) × (next_from p visit.place x ≡ Some m) × CanGoOn p atoms (record { place = m; from = visit.from + 1 }))
            → SomeOf (CanGoOn p atoms) ((before ++ (record { place = visit.place; from = visit.from + 1 }) ∷ []) ++ (record { place = next; from = visit.from + 1 }) ∷ [])
        by (inl g) = some_front (CanGoOn p atoms) (before ++ (record { place = visit.place; from = visit.from + 1 }) ∷ []) ((record { place = next; from = visit.from + 1 }) ∷ [])
            (last_has (CanGoOn p atoms) before (record { place = visit.place; from = visit.from + 1 }) g)
        by (inr t) =
            let f : Some t.0 ≡ Some next = sym t.1 ∙ e in
            let same : t.0 ≡ next = cc (f) in
            last_has (CanGoOn p atoms) (before ++ (record { place = visit.place; from = visit.from + 1 }) ∷ []) (record { place = next; from = visit.from + 1 })
            (subst (λ (m : ℕ). CanGoOn p atoms (record { place = m; from = visit.from + 1 })) same t.2)

        split : SomeOf (CanGoOn p atoms) before ⊎ CanGoOn p atoms visit → SomeOf (CanGoOn p atoms) ((before ++ (record { place = visit.place; from = visit.from + 1 }) ∷ []) ++ (record { place = next; from = visit.from + 1 }) ∷ [])
        split (inl i) = some_front (CanGoOn p atoms) (before ++ (record { place = visit.place; from = visit.from + 1 }) ∷ []) ((record { place = next; from = visit.from + 1 }) ∷ [])
            (some_front (CanGoOn p atoms) before ((record { place = visit.place; from = visit.from + 1 }) ∷ []) i)
        split (inr g) = let k = left_at atoms visit.from x x rises inside is in by (goes_on p atoms visit x k.0 k.1 k.3 none k.2 g)
