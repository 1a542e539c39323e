-- What is left of literals, one literal after another.
use Rattle.std.proofs.Common.{◌≡◌, Bool, List, [], ◌∷◌, ◌++◌, Option, ◌⊎◌, inl, inr, refl}
use Rattle.logic_meaning.specs.Some.{EachOf}
use Rattle.clause_theory.specs.declared.clause.Literal.{Literal}
use Rattle.clause_theory.specs.declared.failing.Left.{Left}
use Rattle.clause_theory.specs.declared.failing.Left.TheVariants.{Nothing, One, Several}
use Rattle.clause_theory.specs.Marks.{IsMarked, Leaves}

pub each_push : {X : Type 0} (P : X → Type 0) (xs : List X) (x : X) → EachOf P xs → P x → EachOf P (xs ++ x ∷ [])
each_push P [] x each here = (here, tt)
each_push P (y ∷ xs) x each here = (each.0, each_push P xs x each.1 here)

pub each_of : {X : Type 0} (P Q : X → Type 0) (xs : List X) → ((x : X) → P x → Q x) → EachOf P xs → EachOf Q xs
each_of P Q [] to each = tt
each_of P Q (x ∷ xs) to each = (to x each.0, each_of P Q xs to each.1)

module _ (signs : List (Option Bool)) where
  -- the literal is marked, or the one that is left
  abbrev pub IsMarkedOr : Literal → Literal → Type 0
  IsMarkedOr m l = IsMarked signs l ⊎ (l ≡ m)

  pub marked_more : (left : Left) (ls : List Literal) (l : Literal) → IsMarked signs l → Leaves signs left ls → Leaves signs left (ls ++ l ∷ [])
  marked_more Nothing ls l marked before = each_push (IsMarked signs) ls l before marked
  marked_more (One m) ls l marked before = each_push (IsMarkedOr m) ls l before (inl marked)
  marked_more Several ls l marked before = tt

  pub first_left : (ls : List Literal) (l : Literal) → Leaves signs Nothing ls → Leaves signs (One l) (ls ++ l ∷ [])
  first_left ls l before = each_push (IsMarkedOr l) ls l (each_of (IsMarked signs) (IsMarkedOr l) ls (λ x marked. inl marked) before) (inr refl)

  pub same_left : (m : Literal) (ls : List Literal) (l : Literal) → l ≡ m → Leaves signs (One m) ls → Leaves signs (One m) (ls ++ l ∷ [])
  same_left m ls l same before = each_push (IsMarkedOr m) ls l before (inr same)
