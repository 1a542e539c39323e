-- A formula in negation normal form with its quantified names chosen has the images of the free names, and the truth of the
-- formula at linked points; its blocks are as many, and its atoms are the atoms with other names.
use Rattle.std.proofs.Common.{◌≡◌, ◌<◌, ℕ, suc, ◌*◌, max, Bool, true, false, inl, inr, ⊎_elim, ap, ap₂, sym, ◌∙◌, subst, refl, ◌↔◌, nat_eq, if◌then◌else◌}
use Rattle.std.proofs.Math.IntN.{ℤ, pos, ◌*ℤ◌}
use Rattle.std.proofs.lemmas.Bool.{eq-eqb, eqb-true, cases_eq}
use Rattle.logic_meaning.specs.Context.{Context}
use Rattle.logic_meaning.specs.Point.{Point, move}
use Rattle.formula_laws.specs.Points.{AgreeOn}
use Rattle.logic_meaning.specs.Formula.{Yes, No, One, Not, And, Or, Impl, Repl, Equiv, Ex, All, none, also}
use Rattle.logic_meaning.specs.Atom.{Atom, Says, Mentions}
use Rattle.logic_meaning.specs.Every.{Every, EveryOf, EveryBound, EveryBoundOf, FreeInSome}
use Rattle.logic_meaning.specs.Shape.{blocks_from, most_blocks}
use Rattle.logic_meaning.specs.Plain.{IsNegationNormal, AreNegationNormal}
use Rattle.logic_meaning.specs.declared.quantifier.Quantifier.{Quantifier}
use Rattle.logic_meaning.specs.declared.quantifier.Quantifier.TheVariants.{Exists, ForAll}
use Rattle.logic_meaning.specs.Truth.{AllTrue, SomeTrue}
use Rattle.logic_meaning.specs.Tree.{Tree, Trees, TrueAt, IsFree}
use Rattle.formula_laws.proofs.FreeNames.{atom_agrees, agree_sym}
use Rattle.logic_meaning.specs.Renaming.{Chosen, chosen_name, chosen, after, after_all, renamed, all_renamed, with_now, atom_named}
use Rattle.shape_theory.specs.Links.{Used, IsOneToOne, Links}
use Rattle.shape_theory.proofs.NamedAtoms.{before, says_named, image_mentioned, mentioned_image}
use Rattle.shape_theory.proofs.Used.{chosen_unused}
use Rattle.shape_theory.proofs.Renamed.{HasSortedForm, links_fewer, links_later, links_under, now_same, now_other, stays_all}

module _ (count : ℕ) where
  abbrev name : ℕ → Chosen → ℕ
  name x s = chosen_name count x s

  abbrev next : ℕ → Chosen → Chosen
  next x s = chosen count x s

  -- the chosen name is the image of no free name
  fresh : (P : ℕ → Type 0) (now : ℕ → ℕ) (x : ℕ) (s : Chosen) → x < count → Links count (λ z. ¬ (x ≡ z) × P z) now s → (z : ℕ) → ¬ (x ≡ z) × P z → ¬ (name x s ≡ now z)
  fresh P now x s b l z t e = chosen_unused count x s b (subst (Used count s) (sym e) (l.used z t))

  -- ---- free names

  uncaptured : (now : ℕ → ℕ) (x y v : ℕ) (f : Tree) → ¬ (y ≡ v) → (z : ℕ) × IsFree f z × (with_now now x y z ≡ v) → (z : ℕ) × (¬ (x ≡ z) × IsFree f z) × (now z ≡ v)
  uncaptured now x y v f n i =
      elim (cases_eq x i.0) [
        | inl e ↦ absurd (n (sym (now_same now x y) ∙ ap (with_now now x y) e ∙ i.2))
        | inr m ↦ (i.0, (m, i.1), sym (now_other now x y i.0 m) ∙ i.2)
      ]

  mutual
    -- each free name is the image of one
    pub free_image : (now : ℕ → ℕ) (f : Tree) (s : Chosen) (v : ℕ) → IsNegationNormal f → Every HasSortedForm f → IsFree (renamed count now f s) v → (z : ℕ) × IsFree f z × (now z ≡ v)
    free_image now Yes s v n o t = absurd t
    free_image now No s v n o t = absurd t
    free_image now (One a) s v n o t = image_mentioned now a v o t
    free_image now (Not f) s v n o t = absurd n
    free_image now (And fs) s v n o t = free_images now fs s v n o t
    free_image now (Or fs) s v n o t = free_images now fs s v n o t
    free_image now (Impl f g) s v n o t = absurd n
    free_image now (Repl f g) s v n o t = absurd n
    free_image now (Equiv f g) s v n o t = absurd n
    free_image now (Ex x f) s v n o t = uncaptured now x (name x s) v f t.0 (free_image (with_now now x (name x s)) f (next x s) v n o t.1)
    free_image now (All x f) s v n o t = uncaptured now x (name x s) v f t.0 (free_image (with_now now x (name x s)) f (next x s) v n o t.1)

    free_images : (now : ℕ → ℕ) (fs : Trees) (s : Chosen) (v : ℕ) → AreNegationNormal fs → EveryOf HasSortedForm fs → FreeInSome Mentions (all_renamed count now fs s) v → (z : ℕ) × FreeInSome Mentions fs z × (now z ≡ v)
    free_images now none s v n o t = absurd t
    free_images now (also f fs) s v n o t = ⊎_elim
        (λ u. let i = free_image now f s v n.0 o.0 u in (i.0, inl i.1, i.2))
        (λ u. let i = free_images now fs (after count f s) v n.1 o.1 u in (i.0, inr i.1, i.2)) t

  pub first_links : (now : ℕ → ℕ) (f : Tree) (fs : Trees) (s : Chosen) → Links count (λ z. FreeInSome Mentions (also f fs) z) now s → Links count (IsFree f) now s
  first_links now f fs s l = links_fewer count (λ z. FreeInSome Mentions (also f fs) z) (IsFree f) now s (λ z t. inl t) l

  pub other_links : (now : ℕ → ℕ) (f : Tree) (fs : Trees) (s : Chosen) → Links count (λ z. FreeInSome Mentions (also f fs) z) now s → Links count (λ z. FreeInSome Mentions fs z) now (after count f s)
  other_links now f fs s l =
      links_later count (λ z. FreeInSome Mentions fs z) now f s (links_fewer count (λ z. FreeInSome Mentions (also f fs) z) (λ z. FreeInSome Mentions fs z) now s (λ z t. inr t) l)

  kept_free : (now : ℕ → ℕ) (x : ℕ) (f g : Tree) (s : Chosen) (z : ℕ) → x < count → Links count (λ z. ¬ (x ≡ z) × IsFree f z) now s → ¬ (x ≡ z) × IsFree f z →
      (IsFree f z → IsFree g (with_now now x (name x s) z)) → ¬ (name x s ≡ now z) × IsFree g (now z)
  kept_free now x f g s z b l t h = (fresh (IsFree f) now x s b l z t, subst (λ v. IsFree g v) (now_other now x (name x s) z t.0) (h t.1))

  mutual
    -- and each image of a free name is free
    pub image_free : (now : ℕ → ℕ) (f : Tree) (s : Chosen) (z : ℕ) → IsNegationNormal f → Every HasSortedForm f → EveryBound (λ x. x < count) f → Links count (IsFree f) now s → IsFree f z → IsFree (renamed count now f s) (now z)
    image_free now Yes s z n o b l t = absurd t
    image_free now No s z n o b l t = absurd t
    image_free now (One a) s z n o b l t = mentioned_image now a z o l.one t
    image_free now (Not f) s z n o b l t = absurd n
    image_free now (And fs) s z n o b l t = images_free now fs s z n o b l t
    image_free now (Or fs) s z n o b l t = images_free now fs s z n o b l t
    image_free now (Impl f g) s z n o b l t = absurd n
    image_free now (Repl f g) s z n o b l t = absurd n
    image_free now (Equiv f g) s z n o b l t = absurd n
    image_free now (Ex x f) s z n o b l t =
        kept_free now x f (renamed count (with_now now x (name x s)) f (next x s)) s z b.0 l t (image_free (with_now now x (name x s)) f (next x s) z n o b.1 (links_under count (IsFree f) now x s b.0 l))
    image_free now (All x f) s z n o b l t =
        kept_free now x f (renamed count (with_now now x (name x s)) f (next x s)) s z b.0 l t (image_free (with_now now x (name x s)) f (next x s) z n o b.1 (links_under count (IsFree f) now x s b.0 l))

    images_free : (now : ℕ → ℕ) (fs : Trees) (s : Chosen) (z : ℕ) → AreNegationNormal fs → EveryOf HasSortedForm fs → EveryBoundOf (λ x. x < count) fs → Links count (λ z. FreeInSome Mentions fs z) now s → FreeInSome Mentions fs z → FreeInSome Mentions (all_renamed count now fs s) (now z)
    images_free now none s z n o b l t = absurd t
    images_free now (also f fs) s z n o b l t = ⊎_elim
        (λ u. inl (image_free now f s z n.0 o.0 b.0 (first_links now f fs s l) u))
        (λ u. inr (images_free now fs (after count f s) z n.1 o.1 b.1 (other_links now f fs s l) u)) t

  -- ---- truth

  -- the second point has at the image of each free name what the first has at the name
  pub record IsLinked (Free : ℕ → Type 0) (now : ℕ → ℕ) (p q : Point ℕ) : Type 0 where
    pub same_below : q.below ≡ p.below
    pub same_at : (z : ℕ) → Free z → q.at (now z) ≡ p.at z

  linked_under : (P : ℕ → Type 0) (now : ℕ → ℕ) (x : ℕ) (s : Chosen) (p q : Point ℕ) (k : ℤ) (m : ℕ) → x < count → Links count (λ z. ¬ (x ≡ z) × P z) now s →
      IsLinked (λ z. ¬ (x ≡ z) × P z) now p q → IsLinked P (with_now now x (name x s)) (move nat_eq p x k m) (move nat_eq q (name x s) k m)
  unfolding move
  linked_under P now x s p q k m b l i = record {
    same_below = ap (λ d. d * m) i.same_below;
    same_at = λ z t. go z t (nat_eq (name x s) (with_now now x (name x s) z)) refl (nat_eq x z) refl;
  }
    where
      go : (z : ℕ) → P z → (d : Bool) → nat_eq (name x s) (with_now now x (name x s) z) ≡ d → (e : Bool) → nat_eq x z ≡ e →
          (if d then k else pos m *ℤ q.at (with_now now x (name x s) z)) ≡ (if e then k else pos m *ℤ p.at z)
      go z t true g true h = refl
      go z t false g false h =
          let n : ¬ (x ≡ z) = λ r. absurd (cc (eq-eqb x z r, h)) in
          ap (λ w. pos m *ℤ w) (ap q.at (now_other now x (name x s) z n) ∙ i.same_at z (n, t))
      go z t true g false h =
          let n : ¬ (x ≡ z) = λ r. absurd (cc (eq-eqb x z r, h)) in
          absurd (fresh P now x s b l z (n, t) (eqb-true (name x s) (with_now now x (name x s) z) g ∙ now_other now x (name x s) z n))
      go z t false g true h =
          absurd (cc (eq-eqb (name x s) (with_now now x (name x s) z) (sym (now_same now x (name x s)) ∙ ap (with_now now x (name x s)) (eqb-true x z h)), g))

  first_linked : (now : ℕ → ℕ) (f : Tree) (fs : Trees) (p q : Point ℕ) → IsLinked (λ z. FreeInSome Mentions (also f fs) z) now p q → IsLinked (IsFree f) now p q
  first_linked now f fs p q i = record { same_below = i.same_below; same_at = λ z t. i.same_at z (inl t) }

  other_linked : (now : ℕ → ℕ) (f : Tree) (fs : Trees) (p q : Point ℕ) → IsLinked (λ z. FreeInSome Mentions (also f fs) z) now p q → IsLinked (λ z. FreeInSome Mentions fs z) now p q
  other_linked now f fs p q i = record { same_below = i.same_below; same_at = λ z t. i.same_at z (inr t) }

  atom_linked : (now : ℕ → ℕ) (a : Atom) (p q : Point ℕ) → IsLinked (Mentions a) now p q → Says a p ↔ Says (atom_named now a) q
  atom_linked now a p q i =
      let h : AgreeOn (Mentions a) p (before now q) = record { same_below = sym i.same_below; same_at = λ z t. sym (i.same_at z t) } in
      let e = says_named now a q in
      (λ t. e.1 (atom_agrees a p (before now q) h t), λ t. atom_agrees a (before now q) p (agree_sym h) (e.0 t))

  module _ (c : Context) where
    mutual
      pub renamed_truth : (now : ℕ → ℕ) (f : Tree) (s : Chosen) (p q : Point ℕ) → IsNegationNormal f → EveryBound (λ x. x < count) f → Links count (IsFree f) now s → IsLinked (IsFree f) now p q →
          TrueAt c f p ↔ TrueAt c (renamed count now f s) q
      renamed_truth now Yes s p q n b l i = (λ t. t, λ t. t)
      renamed_truth now No s p q n b l i = (λ t. t, λ t. t)
      renamed_truth now (One a) s p q n b l i = atom_linked now a p q i
      renamed_truth now (Not f) s p q n b l i = absurd n
      renamed_truth now (And fs) s p q n b l i = all_renamed_truth now fs s p q n b l i
      renamed_truth now (Or fs) s p q n b l i = some_renamed_truth now fs s p q n b l i
      renamed_truth now (Impl f g) s p q n b l i = absurd n
      renamed_truth now (Repl f g) s p q n b l i = absurd n
      renamed_truth now (Equiv f g) s p q n b l i = absurd n
      renamed_truth now (Ex x f) s p q n b l i =
          let deep = λ (k : ℤ) (m : ℕ). renamed_truth (with_now now x (name x s)) f (next x s) (move nat_eq p x k m) (move nat_eq q (name x s) k m) n b.1
          (links_under count (IsFree f) now x s b.0 l) (linked_under (IsFree f) now x s p q k m b.0 l i) in
          (λ t. (t.0, t.1, t.2, (deep t.0 t.1).0 t.3), λ t. (t.0, t.1, t.2, (deep t.0 t.1).1 t.3))
      renamed_truth now (All x f) s p q n b l i =
          let deep = λ (k : ℤ) (m : ℕ). renamed_truth (with_now now x (name x s)) f (next x s) (move nat_eq p x k m) (move nat_eq q (name x s) k m) n b.1
          (links_under count (IsFree f) now x s b.0 l) (linked_under (IsFree f) now x s p q k m b.0 l i) in
          (λ t k m a. (deep k m).0 (t k m a), λ t k m a. (deep k m).1 (t k m a))

      all_renamed_truth : (now : ℕ → ℕ) (fs : Trees) (s : Chosen) (p q : Point ℕ) → AreNegationNormal fs → EveryBoundOf (λ x. x < count) fs → Links count (λ z. FreeInSome Mentions fs z) now s →
          IsLinked (λ z. FreeInSome Mentions fs z) now p q → AllTrue Says (move nat_eq) c fs p ↔ AllTrue Says (move nat_eq) c (all_renamed count now fs s) q
      all_renamed_truth now none s p q n b l i = (λ t. t, λ t. t)
      all_renamed_truth now (also f fs) s p q n b l i =
          let u = renamed_truth now f s p q n.0 b.0 (first_links now f fs s l) (first_linked now f fs p q i) in
          let w = all_renamed_truth now fs (after count f s) p q n.1 b.1 (other_links now f fs s l) (other_linked now f fs p q i) in
          (λ t. (u.0 t.0, w.0 t.1), λ t. (u.1 t.0, w.1 t.1))

      some_renamed_truth : (now : ℕ → ℕ) (fs : Trees) (s : Chosen) (p q : Point ℕ) → AreNegationNormal fs → EveryBoundOf (λ x. x < count) fs → Links count (λ z. FreeInSome Mentions fs z) now s →
          IsLinked (λ z. FreeInSome Mentions fs z) now p q → SomeTrue Says (move nat_eq) c fs p ↔ SomeTrue Says (move nat_eq) c (all_renamed count now fs s) q
      some_renamed_truth now none s p q n b l i = (λ t. t, λ t. t)
      some_renamed_truth now (also f fs) s p q n b l i =
          let u = renamed_truth now f s p q n.0 b.0 (first_links now f fs s l) (first_linked now f fs p q i) in
          let w = some_renamed_truth now fs (after count f s) p q n.1 b.1 (other_links now f fs s l) (other_linked now f fs p q i) in
          (⊎_elim (λ t. inl (u.0 t)) (λ t. inr (w.0 t)), ⊎_elim (λ t. inl (u.1 t)) (λ t. inr (w.1 t)))

  -- ---- shape and atoms

  mutual
    pub renamed_shape : (now : ℕ → ℕ) (f : Tree) (s : Chosen) → IsNegationNormal f → IsNegationNormal (renamed count now f s)
    renamed_shape now Yes s n = n
    renamed_shape now No s n = n
    renamed_shape now (One a) s n = n
    renamed_shape now (Not f) s n = n
    renamed_shape now (And fs) s n = all_renamed_shape now fs s n
    renamed_shape now (Or fs) s n = all_renamed_shape now fs s n
    renamed_shape now (Impl f g) s n = n
    renamed_shape now (Repl f g) s n = n
    renamed_shape now (Equiv f g) s n = n
    renamed_shape now (Ex x f) s n = renamed_shape (with_now now x (name x s)) f (next x s) n
    renamed_shape now (All x f) s n = renamed_shape (with_now now x (name x s)) f (next x s) n

    all_renamed_shape : (now : ℕ → ℕ) (fs : Trees) (s : Chosen) → AreNegationNormal fs → AreNegationNormal (all_renamed count now fs s)
    all_renamed_shape now none s n = n
    all_renamed_shape now (also f fs) s n = (renamed_shape now f s n.0, all_renamed_shape now fs (after count f s) n.1)

  mutual
    pub renamed_blocks : (now : ℕ → ℕ) (f : Tree) (s : Chosen) (q : Quantifier) → blocks_from (renamed count now f s) q ≡ blocks_from f q
    renamed_blocks now Yes s q = refl
    renamed_blocks now No s q = refl
    renamed_blocks now (One a) s q = refl
    renamed_blocks now (Not f) s q = refl
    renamed_blocks now (And fs) s q = all_renamed_blocks now fs s q
    renamed_blocks now (Or fs) s q = all_renamed_blocks now fs s q
    renamed_blocks now (Impl f g) s q = refl
    renamed_blocks now (Repl f g) s q = refl
    renamed_blocks now (Equiv f g) s q = refl
    renamed_blocks now (Ex x f) s Exists = ap (max 1) (renamed_blocks (with_now now x (name x s)) f (next x s) Exists)
    renamed_blocks now (Ex x f) s ForAll = ap (λ n. suc (max 1 n)) (renamed_blocks (with_now now x (name x s)) f (next x s) Exists)
    renamed_blocks now (All x f) s Exists = ap (λ n. suc (max 1 n)) (renamed_blocks (with_now now x (name x s)) f (next x s) ForAll)
    renamed_blocks now (All x f) s ForAll = ap (max 1) (renamed_blocks (with_now now x (name x s)) f (next x s) ForAll)

    all_renamed_blocks : (now : ℕ → ℕ) (fs : Trees) (s : Chosen) (q : Quantifier) → most_blocks (all_renamed count now fs s) q ≡ most_blocks fs q
    all_renamed_blocks now none s q = refl
    all_renamed_blocks now (also f fs) s q = ap₂ max (renamed_blocks now f s q) (all_renamed_blocks now fs (after count f s) q)

  module _ (Q P : Atom → Type 0) where
    mutual
      -- what holds of an atom whose names are changed one to one, to names that are used
      pub renamed_every : (now : ℕ → ℕ) (f : Tree) (s : Chosen) → IsNegationNormal f → EveryBound (λ x. x < count) f → Every Q f → Links count (IsFree f) now s →
          ((a : Atom) (to : ℕ → ℕ) → Q a → IsOneToOne to a → ((z : ℕ) → Mentions a z → Used count (after count f s) (to z)) → P (atom_named to a)) → Every P (renamed count now f s)
      renamed_every now Yes s n b o l h = tt
      renamed_every now No s n b o l h = tt
      renamed_every now (One a) s n b o l h = h a now o l.one l.used
      renamed_every now (Not f) s n b o l h = absurd n
      renamed_every now (And fs) s n b o l h = all_renamed_every now fs s n b o l h
      renamed_every now (Or fs) s n b o l h = all_renamed_every now fs s n b o l h
      renamed_every now (Impl f g) s n b o l h = absurd n
      renamed_every now (Repl f g) s n b o l h = absurd n
      renamed_every now (Equiv f g) s n b o l h = absurd n
      renamed_every now (Ex x f) s n b o l h = renamed_every (with_now now x (name x s)) f (next x s) n b.1 o (links_under count (IsFree f) now x s b.0 l) h
      renamed_every now (All x f) s n b o l h = renamed_every (with_now now x (name x s)) f (next x s) n b.1 o (links_under count (IsFree f) now x s b.0 l) h

      all_renamed_every : (now : ℕ → ℕ) (fs : Trees) (s : Chosen) → AreNegationNormal fs → EveryBoundOf (λ x. x < count) fs → EveryOf Q fs → Links count (λ z. FreeInSome Mentions fs z) now s →
          ((a : Atom) (to : ℕ → ℕ) → Q a → IsOneToOne to a → ((z : ℕ) → Mentions a z → Used count (after_all count fs s) (to z)) → P (atom_named to a)) → EveryOf P (all_renamed count now fs s)
      all_renamed_every now none s n b o l h = tt
      all_renamed_every now (also f fs) s n b o l h = (
        renamed_every now f s n.0 b.0 o.0 (first_links now f fs s l) (λ a to q e u. h a to q e (λ z t. stays_all count fs (after count f s) (to z) (u z t))),
        all_renamed_every now fs (after count f s) n.1 b.1 o.1 (other_links now f fs s l) h,
      )
