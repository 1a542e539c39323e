-- Paths that grow.
use Rattle.std.proofs.Common.{◌≡◌, ℕ, ◌≤◌, Bool, true, false, cond, nat_eq, List, [], ◌∷◌, ◌++◌, Option, Some, None, IsSome, refl, sym, ap, ◌∙◌, subst, arith, eqb-true, true≢false}
use Rattle.std.specs.Prelude.{◌&&◌}
use Rattle.std.proofs.lemmas.Bool.Decides.{nat_tests}
use Rattle.formula_store.specs.declared.id.FormulaId.{FormulaId}
use Rattle.normal_forms.specs.declared.paths.Paths.{Paths}
use Rattle.normal_forms.specs.declared.paths.Place.{Place}
use Rattle.normal_forms.specs.Atoms.{same_id}
use Rattle.normal_forms.proofs.Members.{same_is}
use Rattle.normal_forms.specs.Paths.{same_step, place_at, goes_up_to, up_to, next_from, LeadsTo, Leads, Grows, Notes}

pub grows_none : (p : Paths) → Grows p p
grows_none p = record { steps = λ n u m e. e; ends = λ n h. h; up_to = λ n u e. e }

pub grows_then : (p q r : Paths) → Grows p q → Grows q r → Grows p r
grows_then p q r g h = record {
  steps = λ n u m e. h.steps n u m (g.steps n u m e);
  ends = λ n e. h.ends n (g.ends n e);
  up_to = λ n u e. h.up_to n u (g.up_to n u e);
}

pub leads_to_stays : (p q : Paths) → Grows p q → (n : ℕ) (u : FormulaId) (m : ℕ) → LeadsTo p n u m → LeadsTo q n u m
leads_to_stays p q g n u m h = record { up_to = g.up_to n u h.up_to; next = g.steps n u m h.next }

pub leads_stays : (p q : Paths) → Grows p q → (n : ℕ) (us : List FormulaId) → Leads p n us → Leads q n us
leads_stays p q g n [] h = g.ends n h
leads_stays p q g n (u ∷ us) h = (h.0, leads_to_stays p q g n u h.0 h.1, leads_stays p q g h.0 us h.2)

-- the atoms lead from one place to another
abbrev pub Way : Paths → ℕ → List FormulaId → ℕ → Type 0
Way p n [] m = n ≡ m
Way p n (u ∷ us) m = (k : ℕ) × LeadsTo p n u k × Way p k us m

pub way_stays : (p q : Paths) → Grows p q → (n : ℕ) (us : List FormulaId) (m : ℕ) → Way p n us m → Way q n us m
way_stays p q g n [] m h = h
way_stays p q g n (u ∷ us) m h = (h.0, leads_to_stays p q g n u h.0 h.1, way_stays p q g h.0 us m h.2)

pub way_then : (p : Paths) (n : ℕ) (us : List FormulaId) (m : ℕ) (u : FormulaId) (k : ℕ) → Way p n us m → LeadsTo p m u k → Way p n (us ++ u ∷ []) k
way_then p n [] m u k h l = (k, subst (λ (i : ℕ). LeadsTo p i u k) (sym h) l, refl)
way_then p n (v ∷ us) m u k h l = (h.0, h.1, way_then p h.0 us m u k h.2 l)

pub way_leads : (p : Paths) (n : ℕ) (us : List FormulaId) (m : ℕ) → Way p n us m → IsSome (place_at p m).list → Leads p n us
way_leads p n [] m h e = subst (λ (i : ℕ). IsSome (place_at p i).list) (sym h) e
way_leads p n (u ∷ us) m h e = (h.0, h.1, way_leads p h.0 us m h.2 e)

-- what is noted of a place says no less than what was known of it
pub notes_grow : (p q : Paths) (n : ℕ) (x : Place) → Notes p q n x → (IsSome (place_at p n).list → IsSome x.list) → ((u : FormulaId) → goes_up_to (place_at p n) u ≡ true → goes_up_to x u ≡ true) → Grows p q
notes_grow p q n x h e g = record {
  steps = λ m u k i. h.steps m u ∙ i;
  ends = λ m i. ends m (nat_eq n m) refl i;
  up_to = λ m u i. above m u (nat_eq n m) refl i;
}
  where
    ends : (m : ℕ) (b : Bool) → nat_eq n m ≡ b → IsSome (place_at p m).list → IsSome (place_at q m).list
    ends m false d i = subst (λ (y : Place). IsSome y.list) (sym (h.others m d)) i
    ends m true d i =
        let s : n ≡ m = eqb-true n m d in
        subst (λ (k : ℕ). IsSome (place_at q k).list) s (subst (λ (y : Place). IsSome y.list) (sym h.here) (e (subst (λ (k : ℕ). IsSome (place_at p k).list) (sym s) i)))

    above : (m : ℕ) (u : FormulaId) (b : Bool) → nat_eq n m ≡ b → goes_up_to (place_at p m) u ≡ true → goes_up_to (place_at q m) u ≡ true
    above m u false d i = ap (λ (y : Place). goes_up_to y u) (h.others m d) ∙ i
    above m u true d i =
        let s : n ≡ m = eqb-true n m d in
        subst (λ (k : ℕ). goes_up_to (place_at q k) u ≡ true) s (ap (λ (y : Place). goes_up_to y u) h.here ∙ g u (subst (λ (k : ℕ). goes_up_to (place_at p k) u ≡ true) (sym s) i))

-- an atom that is above the greatest so far
pub raised : (o : Option FormulaId) (u v : FormulaId) → up_to o u ≡ false → up_to o v ≡ true → up_to (Some u) v ≡ true
raised None u v e f = absurd (true≢false (sym f))
raised (Some w) u v e f = grind (arith, nat_tests)

pub lower : (o : Option FormulaId) (u v : FormulaId) → v.number ≤ u.number → up_to o u ≡ true → up_to o v ≡ true
lower None u v l e = e
lower (Some w) u v l e = grind (arith, nat_tests)

pub itself_up_to : (u : FormulaId) → up_to (Some u) u ≡ true
itself_up_to u = grind (arith, nat_tests)

-- a step more
pub steps_grow : (p q : Paths) (n : ℕ) (u : FormulaId) (m : ℕ) → ((k : ℕ) (v : FormulaId) → next_from q k v ≡ cond (same_step (n, u) (k, v)) (Some m) (next_from p k v)) → ((k : ℕ) → place_at q k ≡ place_at p k) → next_from p n u ≡ None → Grows p q
steps_grow p q n u m put same none = record {
  steps = λ k v i e. stays k v i e (same_step (n, u) (k, v)) refl;
  ends = λ k e. subst (λ (y : Place). IsSome y.list) (sym (same k)) e;
  up_to = λ k v e. ap (λ (y : Place). goes_up_to y v) (same k) ∙ e;
}
  where
    left : (a b : Bool) → (a && b) ≡ true → a ≡ true
    left true b e = refl
    left false b e = e

    right : (a b : Bool) → (a && b) ≡ true → b ≡ true
    right true b e = e
    right false b e = absurd (true≢false (sym e))

    stays : (k : ℕ) (v : FormulaId) (i : ℕ) → next_from p k v ≡ Some i → (b : Bool) → same_step (n, u) (k, v) ≡ b → next_from q k v ≡ Some i
    stays k v i e false f = put k v ∙ ap (λ c. cond c (Some m) (next_from p k v)) f ∙ e
    stays k v i e true f =
        let place : n ≡ k = eqb-true n k (left (nat_eq n k) (same_id u v) f) in
        let atom : u ≡ v = same_is u v (right (nat_eq n k) (same_id u v) f) in
        let gone : None ≡ Some i = sym none ∙ ap (λ (j : ℕ). next_from p j u) place ∙ ap (λ (w : FormulaId). next_from p k w) atom ∙ e in
        absurd (cc (gone))
