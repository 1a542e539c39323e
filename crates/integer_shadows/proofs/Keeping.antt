-- Atoms that are added to a shadow, and lists of atoms.
use Rattle.std.proofs.Common.{◌≡◌, ℕ, suc, zero, ◌+◌, ◌<◌, ◌≤◌, ◌↔◌, Vec, Global, List, [], ◌∷◌, ◌++◌, map, take, length, get_or, sym, ap, ◌∙◌, subst, arith, unsigned_abs, ◌⊎◌, inl, inr}
use Rattle.std.proofs.Math.IntN.{ℤ, pos, negsuc}
use Rattle.std.specs.Prelude.{◌<ℤ◌}
use Rattle.std.specs.List.{AllByRecursion}
use Rattle.std.proofs.lemmas.Int.{ints}
use Rattle.std.proofs.lemmas.List.{map-append, take_more, take_all}
use Rattle.exact_numbers.proofs.Order.{by_zero}
use Rattle.logic_meaning.specs.Context.{Integers}
use Rattle.logic_meaning.specs.Point.{Point, Of}
use Rattle.logic_meaning.specs.Form.{coefficient}
use Rattle.logic_meaning.specs.Formula.{Yes, No, One}
use Rattle.logic_meaning.specs.Every.{Every}
use Rattle.logic_meaning.specs.Some.{SomeOf, EachOf}
use Rattle.logic_meaning.specs.Atom.{Atom, Says, Mentions, form_of}
use Rattle.logic_meaning.specs.Tree.{Tree, TrueAt, IsFree}
use Rattle.logic_meaning.specs.NormalForm.{IsNormal, normal_atom}
use Rattle.formula_laws.specs.TheoryAtoms.{AtomIn}
use Rattle.normal_atoms.specs.declared.atoms.Atom.{Atom as Code}
use Rattle.normal_atoms.specs.declared.atoms.Atom.TheVariants as code
use Rattle.normal_atoms.specs.Atoms.{atom_of, IsWellFormed}
use Rattle.normal_atoms.proofs.NormalLaws.{normal_truth, normal_names, normal_normal}
use Rattle.case_theory.specs.PutThrough.{AreTrue}
use Rattle.shadow_theory.specs.declared.shadow.Shadow.TheVariants.{Never, Atoms}
use Rattle.shadow_theory.specs.Shadows.{HasNamesOf}
use Rattle.integer_shadows.specs.Told.{IsWith, AreApart}

-- ---- lists

module _ {X : Type 0} (P : X → Type 0) where
  pub each_joined : (xs : List X) (x : X) → EachOf P (xs ++ x ∷ []) ↔ (EachOf P xs × P x)
  each_joined [] x = (λ t. (tt, t.0), λ t. (t.1, tt))
  each_joined (y ∷ xs) x = let r = each_joined xs x in (λ t. let k = r.0 t.1 in ((t.0, k.0), k.1), λ t. (t.0.0, r.1 (t.0.1, t.1)))

  pub all_joined : (xs : List X) (x : X) → AllByRecursion P xs → P x → AllByRecursion P (xs ++ x ∷ [])
  all_joined [] x h k = (k, tt)
  all_joined (y ∷ xs) x h k = (h.0, all_joined xs x h.1 k)

  pub all_at : (xs : List X) (i : ℕ) (d : X) → i < length xs → AllByRecursion P xs → P (get_or xs i d)
  all_at [] i d l h = absurd (omega arith)
  all_at (x ∷ xs) zero d l h = h.0
  all_at (x ∷ xs) (suc i) d l h = all_at xs i d (omega arith) h.1

  -- one element more of a list that is gone through
  pub each_more : (xs : List X) (i : ℕ) (d : X) → i < length xs → d ≡ get_or xs i d → EachOf P (take (i + 1) xs) ↔ (EachOf P (take i xs) × P d)
  each_more xs i d l e =
      let s : take (i + 1) xs ≡ take i xs ++ d ∷ [] = take_more xs i d l ∙ ap (λ v. take i xs ++ v ∷ []) (sym e) in
      subst (λ ys. EachOf P ys ↔ (EachOf P (take i xs) × P d)) (sym s) (each_joined (take i xs) d)

  pub each_whole : (xs : List X) (i : ℕ) → length xs ≤ i → EachOf P (take i xs) ↔ EachOf P xs
  each_whole xs i l = subst (λ ys. EachOf P (take i xs) ↔ EachOf P ys) (take_all i xs l) (λ t. t, λ t. t)

  pub each_start : (xs : List X) → EachOf P (take 0 xs)
  each_start [] = tt
  each_start (x ∷ xs) = tt

module _ {X Y : Type 0} (f : X → Y) (P : Y → Type 0) where
  pub each_at : (xs : List X) (i : ℕ) (d : X) → i < length xs → d ≡ get_or xs i d → EachOf P (map f xs) → P (f d)
  each_at [] i d l e h = absurd (omega arith)
  each_at (x ∷ xs) zero d l e h = subst (λ v. P (f v)) (sym e) h.0
  each_at (x ∷ xs) (suc i) d l e h = each_at xs i d (omega arith) e h.1

  pub some_at_place : (xs : List X) (i : ℕ) (d : X) → i < length xs → d ≡ get_or xs i d → P (f d) → SomeOf P (map f xs)
  some_at_place [] i d l e h = absurd (omega arith)
  some_at_place (x ∷ xs) zero d l e h = inl (subst (λ v. P (f v)) e h)
  some_at_place (x ∷ xs) (suc i) d l e h = inr (some_at_place xs i d (omega arith) e h)

  pub mapped_joined : (xs : List X) (x : X) → EachOf P (map f (xs ++ x ∷ [])) ↔ (EachOf P (map f xs) × P (f x))
  mapped_joined xs x = subst (λ ys. EachOf P ys ↔ (EachOf P (map f xs) × P (f x))) (sym (map-append f xs (x ∷ []))) (each_joined P (map f xs) (f x))

  pub mapped_more : (xs : List X) (i : ℕ) (d : X) → i < length xs → d ≡ get_or xs i d → EachOf P (map f (take (i + 1) xs)) ↔ (EachOf P (map f (take i xs)) × P (f d))
  mapped_more xs i d l e =
      let s : take (i + 1) xs ≡ take i xs ++ d ∷ [] = take_more xs i d l ∙ ap (λ v. take i xs ++ v ∷ []) (sym e) in
      subst (λ ys. EachOf P (map f ys) ↔ (EachOf P (map f (take i xs)) × P (f d))) (sym s) (mapped_joined (take i xs) d)

  pub mapped_whole : (xs : List X) (i : ℕ) → length xs ≤ i → EachOf P (map f (take i xs)) ↔ EachOf P (map f xs)
  mapped_whole xs i l = subst (λ ys. EachOf P (map f (take i xs)) ↔ EachOf P (map f ys)) (take_all i xs l) (λ t. t, λ t. t)

  pub mapped_start : (xs : List X) → EachOf P (map f (take 0 xs))
  mapped_start [] = tt
  mapped_start (x ∷ xs) = tt

-- ---- atoms

positive_abs : (m : ℤ) → pos 0 <ℤ m → 0 < unsigned_abs m
positive_abs (pos n) h = omega (arith, ints)
positive_abs (negsuc n) h = absurd (omega (arith, ints))

pub atom_in : (a : Code) → IsWellFormed a → AtomIn Integers (atom_of a)
atom_in (code.Compare r f) h = tt
atom_in (code.Congruent b m f) h = positive_abs m h.0

pub mentions_decided : (a : Atom) (x : ℕ) → Mentions a x ⊎ (¬ (Mentions a x))
mentions_decided a x = by_zero (coefficient x (form_of a)) (λ e. inr (λ n. n e)) (λ n. inl n)

-- ---- one atom more

module _ (a : Atom) (i : AtomIn Integers a) where
  says_tree : (t : Tree) → t ≡ normal_atom Integers a → (p : Point ℕ) → Of Integers p → Says a p ↔ TrueAt Integers t p
  says_tree t e p o = subst (λ (g : Tree). Says a p ↔ TrueAt Integers g p) (sym e) (normal_truth Integers a i p o)

  pub with_true : (vs : Vec Code Global) → Yes ≡ normal_atom Integers a → IsWith (Atoms vs) (Atoms vs) a
  with_true vs e = record {
    told = λ t. t;
    truth = λ t p o. (λ h. (h, (says_tree Yes e p o).1 tt), λ h. h.0);
    names = λ x us h k. h;
    made = λ h. h;
  }

  pub with_false : (vs : Vec Code Global) → No ≡ normal_atom Integers a → IsWith (Atoms vs) Never a
  with_false vs e = record {
    told = λ t. t;
    truth = λ t p o. (λ h. absurd h, λ h. (says_tree No e p o).0 h.1);
    names = λ x us h k. tt;
    made = λ h. tt;
  }

  pub with_one : (vs ws : Vec Code Global) (v : Code) → One (atom_of v) ≡ normal_atom Integers a → IsWellFormed v → ws.items ≡ vs.items ++ v ∷ [] → IsWith (Atoms vs) (Atoms ws) a
  with_one vs ws v e w j =
      let normal : IsNormal Integers (atom_of v) = subst (λ (g : Tree). Every (IsNormal Integers) g) (sym e) (normal_normal Integers a i) in
      let free : (y : ℕ) → Mentions (atom_of v) y → Mentions a y = λ y h. normal_names Integers a i y (subst (λ (g : Tree). IsFree g y) e h) in
      record {
        told = λ t. t;
        truth = λ t p o.
            let s = says_tree (One (atom_of v)) e p o in
            let r = subst (λ xs. EachOf (λ k. Says k p) (map atom_of xs) ↔ (EachOf (λ k. Says k p) (map atom_of vs.items) × Says (atom_of v) p)) (sym j) (mapped_joined atom_of (λ k. Says k p) vs.items v) in
            (λ h. let q = r.0 h in (q.0, s.1 q.1), λ h. r.1 (h.0, s.0 h.1));
        names = λ x us h k. subst (λ xs. EachOf (HasNamesOf x us) (map atom_of xs)) (sym j) ((mapped_joined atom_of (HasNamesOf x us) vs.items v).1 (h, λ y m. k y (free y m)));
        made = λ h. (
          subst (λ xs. EachOf (IsNormal Integers) (map atom_of xs)) (sym j) ((mapped_joined atom_of (IsNormal Integers) vs.items v).1 (h.0, normal)),
          subst (λ xs. AllByRecursion IsWellFormed xs) (sym j) (all_joined IsWellFormed vs.items v h.1 w),
        );
      }

-- ---- the atoms that lack a name

-- those of the atoms us that lack x, which are some of ws
pub record AreKept (x : ℕ) (ws us : List Atom) (kept : List Code) : Type 0 where
  pub truth : (p : Point ℕ) → AreTrue (map atom_of kept) p ↔ EachOf (λ (u : Atom). ¬ (Mentions u x) → Says u p) us
  pub names : EachOf (HasNamesOf x ws) (map atom_of kept)
  pub normal : EachOf (IsNormal Integers) (map atom_of kept)
  pub well_formed : AllByRecursion IsWellFormed kept

module _ (x : ℕ) (us : List Code) where
  -- what is said of an atom that lacks x
  abbrev Apart : Point ℕ → Atom → Type 0
  Apart p u = ¬ (Mentions u x) → Says u p

  pub kept_start : (kept : List Code) → kept ≡ [] → AreKept x (map atom_of us) (map atom_of (take 0 us)) kept
  kept_start kept e = subst (AreKept x (map atom_of us) (map atom_of (take 0 us))) (sym e) (record {
    truth = λ p. (λ _. mapped_start atom_of (Apart p) us, λ _. tt);
    names = tt;
    normal = tt;
    well_formed = tt;
  })

  module _ (i : ℕ) (u : Code) (l : i < length us) (e : u ≡ get_or us i u) (kept : List Code) (h : AreKept x (map atom_of us) (map atom_of (take i us)) kept) where
    pub kept_more : ¬ (Mentions (atom_of u) x) → EachOf (IsNormal Integers) (map atom_of us) → AllByRecursion IsWellFormed us → (v : Code) (next : List Code) → v ≡ u → next ≡ kept ++ v ∷ [] →
        AreKept x (map atom_of us) (map atom_of (take (i + 1) us)) next
    kept_more n normal well v next s j =
        let k : kept ++ u ∷ [] ≡ next = ap (λ w. kept ++ w ∷ []) (sym s) ∙ sym j in
        subst (AreKept x (map atom_of us) (map atom_of (take (i + 1) us))) k (record {
          truth = λ p.
              let r = mapped_joined atom_of (λ w. Says w p) kept u in let q = mapped_more atom_of (Apart p) us i u l e in
              (λ t. let d = r.0 t in q.1 ((h.truth p).0 d.0, λ _. d.1), λ t. let d = q.0 t in r.1 ((h.truth p).1 d.0, d.1 n));
          names = (mapped_joined atom_of (HasNamesOf x (map atom_of us)) kept u).1 (
            h.names,
            λ y m. (λ z. n (subst (λ w. Mentions (atom_of u) w) z m), some_at_place atom_of (λ w. Mentions w y) us i u l e m),
          );
          normal = (mapped_joined atom_of (IsNormal Integers) kept u).1 (h.normal, each_at atom_of (IsNormal Integers) us i u l e normal);
          well_formed = all_joined IsWellFormed kept u h.well_formed (subst IsWellFormed (sym e) (all_at IsWellFormed us i u l well));
        })

    pub kept_skips : Mentions (atom_of u) x → (next : List Code) → next ≡ kept → AreKept x (map atom_of us) (map atom_of (take (i + 1) us)) next
    kept_skips m next j =
        subst (AreKept x (map atom_of us) (map atom_of (take (i + 1) us))) (sym j) (record {
          truth = λ p.
              let q = mapped_more atom_of (Apart p) us i u l e in
              (λ t. q.1 ((h.truth p).0 t, λ n. absurd (n m)), λ t. (h.truth p).1 (q.0 t).0);
          names = h.names;
          normal = h.normal;
          well_formed = h.well_formed;
        })

  pub kept_whole : (i : ℕ) (kept : Vec Code Global) → length us ≤ i → AreKept x (map atom_of us) (map atom_of (take i us)) kept.items → AreApart x (map atom_of us) (Atoms kept)
  kept_whole i kept l h = record {
    truth = λ p. let q = mapped_whole atom_of (Apart p) us i l in (λ t. q.0 ((h.truth p).0 t), λ t. (h.truth p).1 (q.1 t));
    names = h.names;
    made = (h.normal, h.well_formed);
  }
