-- Lists of entries, and the atoms that they stand for.
use Rattle.std.proofs.Common.{◌≡◌, ℕ, zero, suc, ◌<◌, refl, sym, ap, List, [], ◌∷◌, ◌++◌, length, take, drop, map, get_or, arith, subst}
use Rattle.std.proofs.Math.ListN.{set}
use Rattle.std.specs.List.{AllByRecursion}
use Rattle.logic_meaning.specs.Context.{Context}
use Rattle.logic_meaning.specs.Some.{EachOf}
use Rattle.logic_meaning.specs.Atom as meant
use Rattle.logic_meaning.specs.declared.junction.Junction.{Junction}
use Rattle.logic_meaning.specs.declared.junction.Junction.TheVariants.{Conjunction, Disjunction}
use Rattle.normal_atoms.specs.Atoms.{atom_of}
use Rattle.logic_meaning.specs.NormalForm.{negated_normal}
use Rattle.normal_atoms.specs.Computed.{IsNormalWithin}
use Rattle.logic_meaning.specs.AtomKit.{tells}
use Rattle.shape_theory.proofs.AtomLaws.{negation_within}
use Rattle.theory_simplifier.specs.declared.joined.Entry.{Entry}
use Rattle.theory_simplifier.specs.Listed.{entry_atom, IsEntry}

module _ {X Y : Type 0} (f : X → Y) where
  pub map_append : (xs ys : List X) → map f (xs ++ ys) ≡ map f xs ++ map f ys
  map_append [] ys = refl
  map_append (x ∷ xs) ys = ap (λ zs. f x ∷ zs) (map_append xs ys)

  pub map_set : (xs : List X) (i : ℕ) (x : X) → map f (set xs i x) ≡ set (map f xs) i (f x)
  map_set [] i x = refl
  map_set (y ∷ xs) zero x = refl
  map_set (y ∷ xs) (suc i) x = ap (λ zs. f y ∷ zs) (map_set xs i x)

  pub map_at : (xs : List X) (i : ℕ) (d : X) (e : Y) → i < length xs → get_or (map f xs) i e ≡ f (get_or xs i d)
  map_at [] i d e l = absurd (omega arith)
  map_at (x ∷ xs) zero d e l = refl
  map_at (x ∷ xs) (suc i) d e l = map_at xs i d e (omega arith)

  pub map_take : (xs : List X) (i : ℕ) → take i (map f xs) ≡ map f (take i xs)
  map_take [] zero = refl
  map_take [] (suc i) = refl
  map_take (x ∷ xs) zero = refl
  map_take (x ∷ xs) (suc i) = ap (λ zs. f x ∷ zs) (map_take xs i)

  pub length_map : (xs : List X) → length (map f xs) ≡ length xs
  length_map [] = refl
  length_map (x ∷ xs) = ap suc (length_map xs)

module _ {X : Type 0} where
  -- a list up to a place, what stands there, and the rest
  pub split_at : (xs : List X) (i : ℕ) (d : X) → i < length xs → xs ≡ take i xs ++ get_or xs i d ∷ drop (suc i) xs
  split_at [] i d l = absurd (omega arith)
  split_at (x ∷ xs) zero d l = refl
  split_at (x ∷ xs) (suc i) d l = ap (λ zs. x ∷ zs) (split_at xs i d (omega arith))

  pub all_set : (P : X → Type 0) (xs : List X) (i : ℕ) (x : X) → AllByRecursion P xs → P x → AllByRecursion P (set xs i x)
  all_set P [] i x h p = tt
  all_set P (y ∷ xs) zero x h p = (p, h.1)
  all_set P (y ∷ xs) (suc i) x h p = (h.0, all_set P xs i x h.1 p)

  pub all_last : (P : X → Type 0) (xs : List X) (x : X) → AllByRecursion P xs → P x → AllByRecursion P (xs ++ x ∷ [])
  all_last P [] x h p = (p, tt)
  all_last P (y ∷ xs) x h p = (h.0, all_last P xs x h.1 p)

  pub all_place : (P : X → Type 0) (xs : List X) (i : ℕ) (d : X) → i < length xs → AllByRecursion P xs → P (get_or xs i d)
  all_place P [] i d l h = absurd (omega arith)
  all_place P (x ∷ xs) zero d l h = h.0
  all_place P (x ∷ xs) (suc i) d l h = all_place P xs i d (omega arith) h.1

abbrev pub told_atom : Entry → meant.Atom
told_atom e = atom_of e.told

-- what the entries tell
pub told_atoms : (j : Junction) (es : List Entry) → AllByRecursion (IsEntry j) es → map told_atom es ≡ map (tells negated_normal j) (map entry_atom es)
told_atoms j [] h = refl
told_atoms j (e ∷ es) h = λ i. h.0.tells_so i ∷ told_atoms j es h.1 i

-- an atom that is told is normal where the atom is
pub tells_normal : (c : Context) (j : Junction) (a : meant.Atom) → IsNormalWithin c a → IsNormalWithin c (tells negated_normal j a)
tells_normal c Conjunction a h = h
tells_normal c Disjunction a h = negation_within c a h

pub told_normal : (c : Context) (j : Junction) (e : Entry) → IsEntry j e → IsNormalWithin c (entry_atom e) → IsNormalWithin c (told_atom e)
told_normal c j e t h = subst (IsNormalWithin c) (sym t.tells_so) (tells_normal c j (entry_atom e) h)

pub entry_normal : (c : Context) (es : List Entry) (i : ℕ) (d : Entry) → i < length es → EachOf (IsNormalWithin c) (map entry_atom es) → IsNormalWithin c (entry_atom (get_or es i d))
entry_normal c [] i d l h = absurd (omega arith)
entry_normal c (e ∷ es) zero d l h = h.0
entry_normal c (e ∷ es) (suc i) d l h = entry_normal c es i d (omega arith) h.1
