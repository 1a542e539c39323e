-- A formula in negation normal form with its quantified names chosen: its names, its atoms, its blocks and its truth.
use Rattle.std.proofs.Common.{◌≡◌, ◌<◌, ◌⊎◌, ℕ, Bool, true, false, inl, inr, ⊎_elim, ap, sym, ◌∙◌, subst, refl, nat_eq, if◌then◌else◌}
use Rattle.std.proofs.lemmas.Bool.{eq-eqb, eqb-true, cases_eq}
use Rattle.logic_meaning.specs.Formula.{Yes, No, One, Not, And, Or, Impl, Repl, Equiv, Ex, All, none, also}
use Rattle.logic_meaning.specs.Sorted.{IsSorted}
use Rattle.logic_meaning.specs.Atom.{Atom, Mentions, form_of}
use Rattle.logic_meaning.specs.Every.{Every, EveryOf, EveryBound, EveryBoundOf, FreeInSome}
use Rattle.logic_meaning.specs.Plain.{IsNegationNormal, AreNegationNormal}
use Rattle.logic_meaning.specs.Tree.{Tree, Trees, IsFree}
use Rattle.logic_meaning.specs.Blocks.{matrix, matrices}
use Rattle.logic_meaning.specs.Renaming.{Chosen, chosen_name, chosen, after, after_all, renamed, all_renamed, with_now}
use Rattle.shape_theory.specs.Links.{Used, Links}
use Rattle.shape_theory.proofs.NamedAtoms.{image_mentioned}
use Rattle.shape_theory.proofs.Used.{chosen_unused, used_stays, chosen_used}
use Rattle.shape_theory.proofs.Fronts.{IsApart, AreApart}

-- the atom's form is sorted
abbrev pub HasSortedForm : Atom → Type 0
HasSortedForm a = IsSorted (form_of a)

pub now_same : (now : ℕ → ℕ) (x y : ℕ) → with_now now x y x ≡ y
now_same now x y = ap (λ (b : Bool). if b then y else now x) (eq-eqb x x refl)

pub now_other : (now : ℕ → ℕ) (x y z : ℕ) → ¬ (x ≡ z) → with_now now x y z ≡ now z
now_other now x y z n = go (nat_eq x z) refl
  where
    go : (b : Bool) → nat_eq x z ≡ b → (if b then y else now z) ≡ now z
    go true e = absurd (n (eqb-true x z e))
    go false e = refl

module _ (count : ℕ) where
  abbrev U : Chosen → ℕ → Type 0
  U s v = Used count s v

  abbrev name : ℕ → Chosen → ℕ
  name x s = chosen_name count x s

  abbrev next : ℕ → Chosen → Chosen
  next x s = chosen count x s

  abbrev then_after : Tree → Chosen → Chosen
  then_after f s = after count f s

  abbrev put : (ℕ → ℕ) → Tree → Chosen → Tree
  put now f s = renamed count now f s

  abbrev puts : (ℕ → ℕ) → Trees → Chosen → Trees
  puts now fs s = all_renamed count now fs s

  mutual
    -- what is used stays used
    pub stays : (f : Tree) (s : Chosen) (v : ℕ) → U s v → U (after count f s) v
    stays Yes s v u = u
    stays No s v u = u
    stays (One a) s v u = u
    stays (Not f) s v u = u
    stays (And fs) s v u = stays_all fs s v u
    stays (Or fs) s v u = stays_all fs s v u
    stays (Impl f g) s v u = u
    stays (Repl f g) s v u = u
    stays (Equiv f g) s v u = u
    stays (Ex x f) s v u = stays f (next x s) v (used_stays count v x s u)
    stays (All x f) s v u = stays f (next x s) v (used_stays count v x s u)

    pub stays_all : (fs : Trees) (s : Chosen) (v : ℕ) → U s v → U (after_all count fs s) v
    stays_all none s v u = u
    stays_all (also f fs) s v u = stays_all fs (then_after f s) v (stays f s v u)

  -- ---- names

  module _ (K : ℕ → Type 0) where
    mutual
      -- each quantified name was not used, and is used afterwards
      pub bound_chosen : (now : ℕ → ℕ) (f : Tree) (s : Chosen) → IsNegationNormal f → EveryBound (λ x. x < count) f → ((v : ℕ) → ¬ (U s v) → U (after count f s) v → K v) → EveryBound K (renamed count now f s)
      bound_chosen now Yes s n b k = tt
      bound_chosen now No s n b k = tt
      bound_chosen now (One a) s n b k = tt
      bound_chosen now (Not f) s n b k = absurd n
      bound_chosen now (And fs) s n b k = bounds_chosen now fs s n b k
      bound_chosen now (Or fs) s n b k = bounds_chosen now fs s n b k
      bound_chosen now (Impl f g) s n b k = absurd n
      bound_chosen now (Repl f g) s n b k = absurd n
      bound_chosen now (Equiv f g) s n b k = absurd n
      bound_chosen now (Ex x f) s n b k = (
        k (name x s) (chosen_unused count x s b.0) (stays f (next x s) (name x s) (chosen_used count x s b.0)),
        bound_chosen (with_now now x (name x s)) f (next x s) n b.1 (λ v m u. k v (λ w. m (used_stays count v x s w)) u),
      )
      bound_chosen now (All x f) s n b k = (
        k (name x s) (chosen_unused count x s b.0) (stays f (next x s) (name x s) (chosen_used count x s b.0)),
        bound_chosen (with_now now x (name x s)) f (next x s) n b.1 (λ v m u. k v (λ w. m (used_stays count v x s w)) u),
      )

      pub bounds_chosen : (now : ℕ → ℕ) (fs : Trees) (s : Chosen) → AreNegationNormal fs → EveryBoundOf (λ x. x < count) fs → ((v : ℕ) → ¬ (U s v) → U (after_all count fs s) v → K v) → EveryBoundOf K (all_renamed count now fs s)
      bounds_chosen now none s n b k = tt
      bounds_chosen now (also f fs) s n b k = (
        bound_chosen now f s n.0 b.0 (λ v m u. k v m (stays_all fs (then_after f s) v u)),
        bounds_chosen now fs (then_after f s) n.1 b.1 (λ v m u. k v (λ w. m (stays f s v w)) u),
      )

    -- what holds of the image of each free name of a formula under a quantifier, and of the chosen name
    under : (now : ℕ → ℕ) (x y : ℕ) (f : Tree) → ((z : ℕ) → ¬ (x ≡ z) × IsFree f z → K (now z)) → K y → (z : ℕ) → IsFree f z → K (with_now now x y z)
    under now x y f h k z t =
        elim (cases_eq x z) [
          | inl e ↦ subst K (sym (ap (with_now now x y) (sym e) ∙ now_same now x y)) k
          | inr n ↦ subst K (sym (now_other now x y z n)) (h z (n, t))
        ]

    mutual
      -- each name of the matrix is the image of a free name, or a quantified one
      pub matrix_names : (now : ℕ → ℕ) (f : Tree) (s : Chosen) → IsNegationNormal f → Every HasSortedForm f → EveryBound (λ x. x < count) f → ((z : ℕ) → IsFree f z → K (now z)) →
          ((v : ℕ) → ¬ (U s v) → U (after count f s) v → K v) → (v : ℕ) → IsFree (matrix (renamed count now f s)) v → K v
      matrix_names now Yes s n o b h k v t = absurd t
      matrix_names now No s n o b h k v t = absurd t
      matrix_names now (One a) s n o b h k v t = let i = image_mentioned now a v o t in subst K i.2 (h i.0 i.1)
      matrix_names now (Not f) s n o b h k v t = absurd n
      matrix_names now (And fs) s n o b h k v t = matrices_names now fs s n o b h k v t
      matrix_names now (Or fs) s n o b h k v t = matrices_names now fs s n o b h k v t
      matrix_names now (Impl f g) s n o b h k v t = absurd n
      matrix_names now (Repl f g) s n o b h k v t = absurd n
      matrix_names now (Equiv f g) s n o b h k v t = absurd n
      matrix_names now (Ex x f) s n o b h k v t =
          let y = name x s in
          matrix_names (with_now now x y) f (next x s) n o b.1 (under now x y f h (k y (chosen_unused count x s b.0) (stays f (next x s) y (chosen_used count x s b.0))))
          (λ w m u. k w (λ r. m (used_stays count w x s r)) u) v t
      matrix_names now (All x f) s n o b h k v t =
          let y = name x s in
          matrix_names (with_now now x y) f (next x s) n o b.1 (under now x y f h (k y (chosen_unused count x s b.0) (stays f (next x s) y (chosen_used count x s b.0))))
          (λ w m u. k w (λ r. m (used_stays count w x s r)) u) v t

      pub matrices_names : (now : ℕ → ℕ) (fs : Trees) (s : Chosen) → AreNegationNormal fs → EveryOf HasSortedForm fs → EveryBoundOf (λ x. x < count) fs → ((z : ℕ) → FreeInSome Mentions fs z → K (now z)) →
          ((v : ℕ) → ¬ (U s v) → U (after_all count fs s) v → K v) → (v : ℕ) → FreeInSome Mentions (matrices (all_renamed count now fs s)) v → K v
      matrices_names now none s n o b h k v t = absurd t
      matrices_names now (also f fs) s n o b h k v t = ⊎_elim
          (matrix_names now f s n.0 o.0 b.0 (λ z u. h z (inl u)) (λ w m u. k w m (stays_all fs (then_after f s) w u)) v)
          (matrices_names now fs (then_after f s) n.1 o.1 b.1 (λ z u. h z (inr u)) (λ w m u. k w (λ r. m (stays f s w r)) u) v) t

  -- each free name has a used image, so a quantified name does not capture it
  mutual
    pub apart : (now : ℕ → ℕ) (f : Tree) (s : Chosen) → IsNegationNormal f → Every HasSortedForm f → EveryBound (λ x. x < count) f → ((z : ℕ) → IsFree f z → U s (now z)) → IsApart (renamed count now f s)
    apart now Yes s n o b h = tt
    apart now No s n o b h = tt
    apart now (One a) s n o b h = tt
    apart now (Not f) s n o b h = absurd n
    apart now (And fs) s n o b h = all_apart now fs s n o b h
    apart now (Or fs) s n o b h = all_apart now fs s n o b h
    apart now (Impl f g) s n o b h = absurd n
    apart now (Repl f g) s n o b h = absurd n
    apart now (Equiv f g) s n o b h = absurd n
    apart now (Ex x f) s n o b h =
        apart (with_now now x (name x s)) f (next x s) n o b.1 (under (U (next x s)) now x (name x s) f (λ z t. used_stays count (now z) x s (h z t)) (chosen_used count x s b.0))
    apart now (All x f) s n o b h =
        apart (with_now now x (name x s)) f (next x s) n o b.1 (under (U (next x s)) now x (name x s) f (λ z t. used_stays count (now z) x s (h z t)) (chosen_used count x s b.0))

    pub all_apart : (now : ℕ → ℕ) (fs : Trees) (s : Chosen) → AreNegationNormal fs → EveryOf HasSortedForm fs → EveryBoundOf (λ x. x < count) fs → ((z : ℕ) → FreeInSome Mentions fs z → U s (now z)) → AreApart (all_renamed count now fs s)
    all_apart now none s n o b h = tt
    all_apart now (also f fs) s n o b h =
        let r = then_after f s in (
          apart now f s n.0 o.0 b.0 (λ z t. h z (inl t)),
          all_apart now fs r n.1 o.1 b.1 (λ z t. stays f s (now z) (h z (inr t))),
          bound_chosen (λ x. ¬ (FreeInSome Mentions (matrices (puts now fs r)) x)) now f s n.0 b.0 (λ v m u t.
              ⊎_elim (λ w. m w) (λ w. w u)
              (matrices_names (λ w. U s w ⊎ ¬ (U r w)) now fs r n.1 o.1 b.1 (λ z w. inl (h z (inr w))) (λ w k l. inr k) v t)),
          bounds_chosen (λ x. ¬ (IsFree (matrix (put now f s)) x)) now fs r n.1 b.1 (λ v m u t.
              m (matrix_names (U r) now f s n.0 o.0 b.0 (λ z w. stays f s (now z) (h z (inl w))) (λ w k l. l) v t)),
        )

  pub links_fewer : (P Q : ℕ → Type 0) (now : ℕ → ℕ) (s : Chosen) → ((z : ℕ) → Q z → P z) → Links count P now s → Links count Q now s
  links_fewer P Q now s f l = record { used = λ z t. l.used z (f z t); one = λ y z t u e. l.one y z (f y t) (f z u) e }

  pub links_later : (P : ℕ → Type 0) (now : ℕ → ℕ) (f : Tree) (s : Chosen) → Links count P now s → Links count P now (after count f s)
  links_later P now f s l = record { used = λ z t. stays f s (now z) (l.used z t); one = l.one }

  pub links_under : (P : ℕ → Type 0) (now : ℕ → ℕ) (x : ℕ) (s : Chosen) → x < count → Links count (λ z. ¬ (x ≡ z) × P z) now s → Links count P (with_now now x (chosen_name count x s)) (chosen count x s)
  links_under P now x s b l = record {
    used = λ z t. elim (cases_eq x z) [
      | inl e ↦ subst (U (next x s)) (sym (ap (with_now now x (name x s)) (sym e) ∙ now_same now x (name x s))) (chosen_used count x s b)
      | inr n ↦ subst (U (next x s)) (sym (now_other now x (name x s) z n)) (used_stays count (now z) x s (l.used z (n, t)))
    ];
    one = λ w z t u e. elim (cases_eq x w) [
      | inl f ↦ elim (cases_eq x z) [
        | inl g ↦ sym f ∙ g
        | inr n ↦ absurd (fresh z (n, u) (sym (now_same now x (name x s)) ∙ ap (with_now now x (name x s)) f ∙ e ∙ now_other now x (name x s) z n))
      ]
      | inr m ↦ elim (cases_eq x z) [
        | inl g ↦ absurd (fresh w (m, t) (sym (now_same now x (name x s)) ∙ ap (with_now now x (name x s)) g ∙ sym e ∙ now_other now x (name x s) w m))
        | inr n ↦ l.one w z (m, t) (n, u) (sym (now_other now x (name x s) w m) ∙ e ∙ now_other now x (name x s) z n)
      ]
    ];
  }
    where
      fresh : (z : ℕ) → ¬ (x ≡ z) × P z → ¬ (chosen_name count x s ≡ now z)
      fresh z t e = chosen_unused count x s b (subst (U s) (sym e) (l.used z t))
