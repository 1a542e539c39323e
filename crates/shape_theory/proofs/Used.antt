-- Which names are used before a place of the text: those that are taken, and the new ones.
use Rattle.std.proofs.Common.{◌≡◌, ◌<◌, ◌≤◌, ◌⊎◌, ℕ, suc, ◌+◌, Bool, true, false, inl, inr, arith, refl, nat_eq, if◌then◌else◌}
use Rattle.std.proofs.lemmas.Bool.{eq-eqb}
use Rattle.logic_meaning.specs.Renaming.{Chosen, chosen_name, chosen}
use Rattle.shape_theory.specs.Links.{Used}

module _ (count : ℕ) where
  -- the name that is chosen was not used
  pub chosen_unused : (x : ℕ) (s : Chosen) → x < count → ¬ (Used count s (chosen_name count x s))
  chosen_unused x s l u = go (s.taken x) refl u
    where
      go : (b : Bool) → s.taken x ≡ b →
          (((if b then count + s.made else x) < count) × (s.taken (if b then count + s.made else x) ≡ true)) ⊎ ((count ≤ (if b then count + s.made else x)) × ((if b then count + s.made else x) < count + s.made)) → ⊥
      go true e (inl h) = let k = h.0 in omega arith
      go true e (inr h) = let k = h.1 in omega arith
      go false e (inl h) = cc (e, h.1)
      go false e (inr h) = let k = h.0 in omega arith

  taken_stays : (v x : ℕ) (s : Chosen) → s.taken v ≡ true → (chosen count x s).taken v ≡ true
  taken_stays v x s h = go (nat_eq x v)
    where
      go : (b : Bool) → (if b then true else s.taken v) ≡ true
      go true = refl
      go false = h

  made_grows : (x : ℕ) (s : Chosen) → s.made ≤ (chosen count x s).made
  made_grows x s = go (s.taken x)
    where
      go : (b : Bool) → s.made ≤ (if b then suc s.made else s.made)
      go true = omega arith
      go false = omega arith

  -- a used name stays so
  pub used_stays : (v x : ℕ) (s : Chosen) → Used count s v → Used count (chosen count x s) v
  used_stays v x s (inl h) = inl (h.0, taken_stays v x s h.1)
  used_stays v x s (inr h) = let l = h.1 in let g = made_grows x s in inr (h.0, omega arith)

  -- the name that is chosen is used from then on
  pub chosen_used : (x : ℕ) (s : Chosen) → x < count → Used count (chosen count x s) (chosen_name count x s)
  chosen_used x s l = go (s.taken x)
    where
      first_taken : (chosen count x s).taken x ≡ true
      first_taken = at_once (nat_eq x x) (eq-eqb x x refl)
        where
          at_once : (b : Bool) → b ≡ true → (if b then true else s.taken x) ≡ true
          at_once true e = refl
          at_once false e = absurd (cc)

      go : (b : Bool) → (((if b then count + s.made else x) < count) × ((chosen count x s).taken (if b then count + s.made else x) ≡ true)) ⊎ ((count ≤ (if b then count + s.made else x)) × ((if b then count + s.made else x) < count + (if b then suc s.made else s.made)))
      go true = inr (omega arith, omega arith)
      go false = inl (l, first_taken)

  pub used_below : (v : ℕ) (s : Chosen) → Used count s v → v < count + s.made
  used_below v s (inl h) = let l = h.0 in omega arith
  used_below v s (inr h) = h.1
