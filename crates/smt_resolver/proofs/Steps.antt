-- What is read of an expression, from what is read of its parts.
use Rattle.std.proofs.Common.{◌≡◌, ◌+◌, ℕ, List, [], ◌∷◌, ◌++◌, length, true, Option, Some, None, Result, Ok, Err, IfOk, refl, sym, subst, if◌then◌else◌}
use Rattle.std.specs.Prelude.{option_map}
use Rattle.std.specs.Option.{ForSome}
use Rattle.logic_meaning.specs.Context.{Context}
use Rattle.logic_meaning.specs.Tree.{Tree}
use Rattle.formula_tree.specs.Makers.{Keeps}
use Rattle.logic_meaning.specs.declared.quantifier.Quantifier.{Quantifier}
use Rattle.smt_language.specs.declared.names.SortedName.{SortedName}
use Rattle.smt_language.specs.Trees.{ExpressionTree, Quantified}
use Rattle.smt_language.specs.Levels.{closed}
use Rattle.smt_language.specs.Operators.{Meaning, Formula, Members, of_one_kind}
use Rattle.smt_language.specs.Meaning.{Scope, and_then, as_formula, are_numbers, opened, meaning}
use Rattle.smt_resolver.specs.declared.value.Value.{Value}
use Rattle.smt_resolver.specs.declared.value.MemberValues.{MemberValues}
use Rattle.std.specs.List.{AllByRecursion}
use Rattle.smt_meaning.proofs.Levels.{all_weaker}
use Rattle.smt_resolver.specs.Values.{HasId}
use Rattle.smt_resolver.proofs.PartLists.{id_stays}
use Rattle.smt_resolver.specs.Readings.{IsMeant, AreMeant, AreMembersOf, IsScope, IsFrame, IsFrameRead, HasValueId, HaveMemberIds, HaveFrameIds, HaveSymbolIds}
use Rattle.smt_resolver.proofs.ReadingLaws.{some_same, enter_scope, scope_stays, enter_ids, symbol_ids_stay}
use Rattle.smt_resolver.specs.Reading.{IsReading, AreReadings, IsFrameReading}

-- what holds of a value holds of what is there
pub for_value : {X : Type 0} (P : X → Type 0) (v : X) → P v → ForSome (Some v) P
for_value P v h w e = subst P (some_same e) h

pub for_none : {X : Type 0} (P : X → Type 0) → ForSome None P
for_none P w e = absurd (cc)

module _ {Id : Type 0} (c : Context) (limit : ℕ) (declared : List (List ℕ)) (P : Id → Type 0) (t : Id → Tree) (Q : Id → Type 0) (u : Id → Tree) (before after : List (List (List ℕ × Value Id))) where
  -- an expression that means the same in every scope
  pub plain_reading : (means : Scope → Option Meaning) (m : Option Meaning) (r : Option (Value Id)) → ((s : Scope) → means s ≡ m) → IsMeant c limit Q u m r → ForSome r (HasValueId Q) → after ≡ before → IsReading c limit declared P t Q u before after means r
  plain_reading means m r e h i b = record { read = λ s k. subst (λ o. IsMeant c limit Q u o r) (sym (e s)) h; ids = i; symbols = b }

  -- the same expression, told otherwise
  pub same_reading : (means wanted : Scope → Option Meaning) (r : Option (Value Id)) → ((s : Scope) → wanted s ≡ means s) → IsReading c limit declared P t Q u before after means r → IsReading c limit declared P t Q u before after wanted r
  same_reading means wanted r e h = record { read = λ s k. subst (λ o. IsMeant c limit Q u o r) (sym (e s)) (h.read s k); ids = h.ids; symbols = h.symbols }

  -- what is made of one part
  pub part_reading : (R : Id → Type 0) (w : Id → Tree) (means : Scope → Option Meaning) (f : Option Meaning → Option Meaning) (v r : Option (Value Id)) → IsReading c limit declared P t Q u before after means v
      → ((o : Option Meaning) → IsMeant c limit Q u o v → IsMeant c limit R w (f o) r) → ForSome r (HasValueId R) → IsReading c limit declared P t R w before after (λ s. f (means s)) r
  part_reading R w means f v r h g i = record { read = λ s k. g (means s) (h.read s k); ids = i; symbols = h.symbols }

  -- ---- operators

  no_members : (f : Members → Option Meaning) (o : Option (List Meaning)) → AreMeant c limit Q u o None → IsMeant c limit Q u (and_then (and_then o of_one_kind) f) None
  no_members f None h = tt
  no_members f (Some ms) h = absurd h

  pub no_members_reading : (means : Scope → Option (List Meaning)) (f : Members → Option Meaning) → AreReadings c limit declared P t Q u before after means None → IsReading c limit declared P t Q u before after (λ s. and_then (and_then (means s) of_one_kind) f) None
  no_members_reading means f h = record { read = λ s k. no_members f (means s) (h.read s k); ids = for_none (HasValueId Q); symbols = h.symbols }

  of_read : (R : Id → Type 0) (w : Id → Tree) (f : Members → Option Meaning) (m : MemberValues Id) (r : Option (Value Id)) (o : Option (List Meaning)) → AreMeant c limit Q u o (Some m)
      → ((ms : List Meaning) → AreMembersOf c limit Q u ms m → IsMeant c limit R w (and_then (of_one_kind ms) f) r) → IsMeant c limit R w (and_then (and_then o of_one_kind) f) r
  of_read R w f m r None h g = absurd h
  of_read R w f m r (Some ms) h g = g ms h

  pub members_reading : (R : Id → Type 0) (w : Id → Tree) (means : Scope → Option (List Meaning)) (f : Members → Option Meaning) (m : MemberValues Id) (r : Option (Value Id)) → AreReadings c limit declared P t Q u before after means (Some m)
      → ((ms : List Meaning) → AreMembersOf c limit Q u ms m → IsMeant c limit R w (and_then (of_one_kind ms) f) r) → ForSome r (HasValueId R) → IsReading c limit declared P t R w before after (λ s. and_then (and_then (means s) of_one_kind) f) r
  members_reading R w means f m r h g i = record { read = λ s k. of_read R w f m r (means s) (h.read s k) g; ids = i; symbols = h.symbols }

  -- ---- lets

  no_frame : (f : Scope → Option Meaning) (s : Scope) (o : Option Scope) → IsFrameRead c limit Q u o s None → IsMeant c limit Q u (and_then o f) None
  no_frame f s None h = tt
  no_frame f s (Some inner) h = absurd h

  pub no_frame_reading : (scopes : Scope → Option Scope) (f : Scope → Option Meaning) → IsFrameReading c limit declared P t Q u before after scopes None → IsReading c limit declared P t Q u before after (λ s. and_then (scopes s) f) None
  no_frame_reading scopes f h = record { read = λ s k. no_frame f s (scopes s) (h.read s k); ids = for_none (HasValueId Q); symbols = h.symbols }

-- ---- what is read inside one place more

module _ {Id : Type 0} (c : Context) (limit : ℕ) (declared : List (List ℕ)) (P : Id → Type 0) (t : Id → Tree) (Q : Id → Type 0) (u : Id → Tree) (R : Id → Type 0) (w : Id → Tree) (before entered left : List (List (List ℕ × Value Id))) where
  pub inner_meant : (frame : List (List ℕ × Value Id)) (f : Scope → Option Meaning) (r : Option (Value Id)) (outer inner : Scope) → Keeps P t Q u → entered ≡ before ++ frame ∷ [] → IsScope c limit declared P t before outer → IsFrame c limit Q u frame outer inner
      → IsReading c limit declared Q u R w entered left f r → IsMeant c limit R w (f inner) r
  inner_meant frame f r outer inner k e h i g = g.read inner (subst (λ fs. IsScope c limit declared Q u fs inner) (sym e) (enter_scope c limit Q u declared before frame outer inner (scope_stays P t Q u k c limit declared before outer h) i))

  of_frame : (frame : List (List ℕ × Value Id)) (f : Scope → Option Meaning) (r : Option (Value Id)) (s : Scope) (o : Option Scope) → IsFrameRead c limit Q u o s (Some frame)
      → ((inner : Scope) → IsFrame c limit Q u frame s inner → IsMeant c limit R w (f inner) r) → IsMeant c limit R w (and_then o f) r
  of_frame frame f r s None h g = absurd h
  of_frame frame f r s (Some inner) h g = g inner h

  pub let_reading : (middle : List (List (List ℕ × Value Id))) (scopes : Scope → Option Scope) (frame : List (List ℕ × Value Id)) (f : Scope → Option Meaning) (r : Option (Value Id)) (after : List (List (List ℕ × Value Id)))
      → IsFrameReading c limit declared P t Q u before middle scopes (Some frame) → Keeps P t Q u → entered ≡ before ++ frame ∷ [] → IsReading c limit declared Q u R w entered left f r → after ≡ before → IsReading c limit declared P t R w before after (λ s. and_then (scopes s) f) r
  let_reading middle scopes frame f r after h k e g a = record {
    read = λ s j. of_frame frame f r s (scopes s) (h.read s j) (λ inner i. inner_meant frame f r s inner k e j i g);
    ids = g.ids;
    symbols = a;
  }

-- the ids of the symbols inside one place more
pub entered_ids : {Id : Type 0} (P : Id → Type 0) (t : Id → Tree) (Q : Id → Type 0) (u : Id → Tree) (before entered : List (List (List ℕ × Value Id))) (frame : List (List ℕ × Value Id)) → Keeps P t Q u → HaveSymbolIds P before → HaveFrameIds Q frame
    → entered ≡ before ++ frame ∷ [] → HaveSymbolIds Q entered
entered_ids P t Q u before entered frame k h i e = subst (HaveSymbolIds Q) (sym e) (enter_ids Q before frame (symbol_ids_stay P Q k.is before h) i)

-- ---- what is read in turn

-- what is read where the symbols are as before, and more was made
pub meant_in_turn : {Id : Type 0} (c : Context) (limit : ℕ) (declared : List (List ℕ)) (P : Id → Type 0) (t : Id → Tree) (Q : Id → Type 0) (u : Id → Tree) (R : Id → Type 0) (w : Id → Tree) (before now after : List (List (List ℕ × Value Id))) (means : Scope → Option Meaning) (r v : Option (Value Id))
    (s : Scope) → Keeps P t Q u → now ≡ before → IsScope c limit declared P t before s → IsReading c limit declared Q u R w now after means r → r ≡ v → IsMeant c limit R w (means s) v
meant_in_turn c limit declared P t Q u R w before now after means r v s k e h g i =
    subst (IsMeant c limit R w (means s)) i (g.read s (subst (λ fs. IsScope c limit declared Q u fs s) (sym e) (scope_stays P t Q u k c limit declared before s h)))

pub keeps_itself : {Id : Type 0} (P : Id → Type 0) (t : Id → Tree) → Keeps P t P t
keeps_itself P t = record { is = λ id i. i; same = λ id i. refl }

-- the id of a value that was read
pub read_id : {Id : Type 0} (Q : Id → Type 0) (r : Option (Value Id)) (v : Value Id) → ForSome r (HasValueId Q) → r ≡ Some v → HasValueId Q v
read_id Q r v h e = h v e

-- no members yet
pub same_mapped : (o : Option (List Meaning)) → o ≡ option_map (λ ms. [] ++ ms) o
same_mapped None = refl
same_mapped (Some ms) = refl

pub no_member_ids : {Id : Type 0} (P : Id → Type 0) (m : MemberValues Id) → m.formulas.items ≡ [] → HaveMemberIds P m
no_member_ids P m e = subst (AllByRecursion (HasId P)) (sym e) tt

-- ids stay where more was made
pub member_ids_stay : {Id : Type 0} (P Q : Id → Type 0) → ((id : Id) → P id → Q id) → (m : MemberValues Id) → HaveMemberIds P m → HaveMemberIds Q m
member_ids_stay P Q w m h = all_weaker (HasId P) (HasId Q) (λ v. id_stays P Q w v) m.formulas.items h

-- ---- quantifiers

pub ok_both : {T E : Type 0} {P Q S : T → Type 0} (r : Result T E) → ((x : T) → P x → Q x → S x) → IfOk r P → IfOk r Q → IfOk r S
ok_both (Ok x) f h k = f x h k
ok_both (Err e) f h k = h

module _ {Id : Type 0} (c : Context) (limit : ℕ) (declared : List (List ℕ)) (P : Id → Type 0) (t : Id → Tree) (Q : Id → Type 0) (u : Id → Tree) (R : Id → Type 0) (w : Id → Tree) (before entered left after : List (List (List ℕ × Value Id))) where
  pub quantified_reading : (q : Quantifier) (level inner : ℕ) (names : List SortedName) (body : ExpressionTree) (frame : List (List ℕ × Value Id)) (v r : Option (Value Id)) → are_numbers c names ≡ true → inner ≡ level + length names
      → ((s : Scope) → IsFrame c limit P t frame s (opened level names s)) → entered ≡ before ++ frame ∷ [] → IsReading c limit declared P t Q u entered left (λ s. meaning c s inner body) v
      → ((o : Option Meaning) → IsMeant c limit Q u o v → IsMeant c limit R w (option_map (λ f. Formula (closed q level names f)) (as_formula o)) r) → ForSome r (HasValueId R) → after ≡ before
      → IsReading c limit declared P t R w before after (λ s. meaning c s level (Quantified q names body)) r
  quantified_reading q level inner names body frame v r n i f e g k ids a = record {
    read = λ s h. subst (λ b. IsMeant c limit R w (if b then option_map (λ f. Formula (closed q level names f)) (as_formula (meaning c (opened level names s) (level + length names) body)) else None) r) (sym n)
        (k (meaning c (opened level names s) (level + length names) body) (subst (λ m. IsMeant c limit Q u (meaning c (opened level names s) m body) v) i
        (inner_meant c limit declared P t P t Q u before entered left frame (λ z. meaning c z inner body) v s (opened level names s) (keeps_itself P t) e h (f s) g)));
    ids = ids;
    symbols = a;
  }
