-- What is read of expressions, from what is read of their parts.
use Rattle.std.proofs.Common.{◌≡◌, ◌+◌, ◌<◌, ℕ, zero, suc, Bool, true, false, List, [], ◌∷◌, ◌++◌, length, take, get_or, Option, Some, None, refl, ap, sym, ◌∙◌, subst, arith, if◌then◌else◌}
use Rattle.std.specs.Prelude.{option_map, position}
use Rattle.std.specs.Option.{ForSome, option_or}
use Rattle.logic_meaning.specs.Context.{Context}
use Rattle.logic_meaning.specs.Tree.{Tree}
use Rattle.language_meaning.specs.Trees.{TermTree, FormulaTree}
use Rattle.language_meaning.specs.Value.{same_name}
use Rattle.logic_meaning.specs.Bindings.{bound_to}
use Rattle.formula_tree.specs.Makers.{Keeps}
use Rattle.written_atoms.specs.declared.term.ReadTerm.{ReadTerm}
use Rattle.formula_resolving.specs.declared.parts.Part.{Part}
use Rattle.smt_language.specs.declared.names.SortedName.{SortedName}
use Rattle.smt_language.specs.Operators.{Meaning, Term, Formula}
use Rattle.smt_language.specs.Meaning.{Scope, declared_scope, variable, with_symbol, opened}
use Rattle.smt_resolver.specs.declared.sized.Sized.{Sized}
use Rattle.smt_resolver.specs.declared.value.Value.{Value}
use Rattle.smt_resolver.specs.declared.value.Value.TheVariants as value
use Rattle.smt_resolver.specs.Frames.{looked_up}
use Rattle.smt_resolver.specs.Values.{IsTermValue, IsFormulaValue}
use Rattle.smt_resolver.specs.Readings.{IsMeaning, IsMeant, Stands, IsScope, IsFrame, HasValueId, HaveFrameIds, HaveSymbolIds}
use Rattle.smt_resolver.proofs.FrameLaws.{looked_inside}
use Rattle.smt_resolver.proofs.PartLists.{value_stays, id_stays}

pub some_same : {X : Type 0} {a b : X} → Some a ≡ Some b → a ≡ b
some_same e = cc

module _ {Id : Type 0} (c : Context) (limit : ℕ) (P : Id → Type 0) (t : Id → Tree) where
  pub term_copied : (k : Meaning) (v w : Sized ReadTerm) → ((s : TermTree) → IsTermValue c limit s v → IsTermValue c limit s w) → IsMeaning c limit P t k (value.Term v) → IsMeaning c limit P t k (value.Term w)
  term_copied (Term s) v w f h = f s h
  term_copied (Formula f) v w g h = absurd h

  -- what is bound to a symbol is what it stands for
  pub bound_meant : (m d : Option Meaning) (o : Option (Value Id)) (v w : Value Id) → Stands c limit P t o m d → Some v ≡ o → ((k : Meaning) → IsMeaning c limit P t k v → IsMeaning c limit P t k w) → IsMeant c limit P t m (Some w)
  bound_meant m d None v w h e f = absurd (cc)
  bound_meant (Some k) d (Some u) v w h e f = f k (subst (IsMeaning c limit P t k) (sym (some_same e)) h)
  bound_meant None d (Some u) v w h e f = absurd h

  pub declared_meant : (m d : Option Meaning) (o : Option (Value Id)) (r : Option (Value Id)) → Stands c limit P t o m d → None ≡ o → IsMeant c limit P t d r → IsMeant c limit P t m r
  declared_meant m d None r h e k = subst (λ x. IsMeant c limit P t x r) (sym h) k
  declared_meant m d (Some u) r h e k = absurd (cc)

-- a declared name stands for the variable of its place
pub found_variable : (names : List (List ℕ)) (x : List ℕ) (n : ℕ) → position (same_name x) names ≡ Some n → declared_scope names x ≡ Some (variable n)
found_variable names x n e = ap (option_map variable) e

-- ---- scopes

module _ {Id : Type 0} (c : Context) (limit : ℕ) (P : Id → Type 0) (t : Id → Tree) where
  enter_symbol : (b o : Option (Value Id)) (i e d : Option Meaning) → Stands c limit P t b i e → Stands c limit P t o e d → Stands c limit P t (option_or b o) i d
  enter_symbol (Some v) o i e d h k = h
  enter_symbol None o i e d h k = subst (λ x. Stands c limit P t o x d) (sym h) k

  -- the scope inside one place more
  pub enter_scope : (declared : List (List ℕ)) (frames : List (List (List ℕ × Value Id))) (frame : List (List ℕ × Value Id)) (outer inner : Scope) → IsScope c limit declared P t frames outer → IsFrame c limit P t frame outer inner
      → IsScope c limit declared P t (frames ++ frame ∷ []) inner
  enter_scope declared frames frame outer inner h k x =
      subst (λ o. Stands c limit P t o (inner x) (declared_scope declared x)) (sym (looked_inside frames frame x)) (enter_symbol (bound_to frame x) (looked_up frames x) (inner x) (outer x) (declared_scope declared x) (k x) (h x))

  -- nothing is bound yet
  pub no_frame : (s : Scope) → IsFrame c limit P t [] s s
  no_frame s x = refl

  -- one symbol more
  pub frame_more : (old new : List (List ℕ × Value Id)) (y : List ℕ) (v : Value Id) (m : Meaning) (outer inner : Scope) → IsFrame c limit P t old outer inner → IsMeaning c limit P t m v
      → ((x : List ℕ) → bound_to new x ≡ (if same_name y x then Some v else bound_to old x)) → IsFrame c limit P t new outer (with_symbol y m inner)
  frame_more old new y v m outer inner h k e x = go (same_name y x) (e x)
    where
      go : (b : Bool) → bound_to new x ≡ (if b then Some v else bound_to old x) → Stands c limit P t (bound_to new x) (if b then Some m else inner x) (outer x)
      go true i = subst (λ o. Stands c limit P t o (Some m) (outer x)) (sym i) k
      go false i = subst (λ o. Stands c limit P t o (inner x) (outer x)) (sym i) (h x)

module _ {Id : Type 0} (P : Id → Type 0) where
  pub frame_ids_more : (old new : List (List ℕ × Value Id)) (y : List ℕ) (v : Value Id) → HaveFrameIds P old → HasValueId P v → ((x : List ℕ) → bound_to new x ≡ (if same_name y x then Some v else bound_to old x)) → HaveFrameIds P new
  frame_ids_more old new y v h k e x = go (same_name y x) (e x)
    where
      go : (b : Bool) → bound_to new x ≡ (if b then Some v else bound_to old x) → ForSome (bound_to new x) (HasValueId P)
      go true i w j = subst (HasValueId P) (some_same (sym i ∙ j)) k
      go false i w j = h x w (sym i ∙ j)

  either_id : (b o : Option (Value Id)) → ForSome b (HasValueId P) → ForSome o (HasValueId P) → ForSome (option_or b o) (HasValueId P)
  either_id (Some v) o h k = h
  either_id None o h k = k

  pub enter_ids : (frames : List (List (List ℕ × Value Id))) (frame : List (List ℕ × Value Id)) → HaveSymbolIds P frames → HaveFrameIds P frame → HaveSymbolIds P (frames ++ frame ∷ [])
  enter_ids frames frame h k x = subst (λ o. ForSome o (HasValueId P)) (sym (looked_inside frames frame x)) (either_id (bound_to frame x) (looked_up frames x) (k x) (h x))

  pub no_frame_ids : HaveFrameIds P []
  no_frame_ids x v e = absurd (cc)

-- ---- makers that make more

module _ {Id : Type 0} (P : Id → Type 0) (t : Id → Tree) (Q : Id → Type 0) (u : Id → Tree) (k : Keeps P t Q u) (c : Context) (limit : ℕ) where
  pub meaning_stays : (m : Meaning) (v : Value Id) → IsMeaning c limit P t m v → IsMeaning c limit Q u m v
  meaning_stays (Term s) (value.Term v) h = h
  meaning_stays (Term s) (value.Formula v) h = absurd h
  meaning_stays (Formula f) (value.Term v) h = absurd h
  meaning_stays (Formula f) (value.Formula v) h = value_stays P t Q u k c limit f v h

  pub meant_stays : (m : Option Meaning) (o : Option (Value Id)) → IsMeant c limit P t m o → IsMeant c limit Q u m o
  meant_stays None None h = h
  meant_stays None (Some v) h = absurd h
  meant_stays (Some m) None h = absurd h
  meant_stays (Some m) (Some v) h = meaning_stays m v h

  stands_stays : (o : Option (Value Id)) (m d : Option Meaning) → Stands c limit P t o m d → Stands c limit Q u o m d
  stands_stays None m d h = h
  stands_stays (Some v) m d h = meant_stays m (Some v) h

  pub scope_stays : (declared : List (List ℕ)) (frames : List (List (List ℕ × Value Id))) (s : Scope) → IsScope c limit declared P t frames s → IsScope c limit declared Q u frames s
  scope_stays declared frames s h x = stands_stays (looked_up frames x) (s x) (declared_scope declared x) (h x)

  pub frame_stays : (frame : List (List ℕ × Value Id)) (outer inner : Scope) → IsFrame c limit P t frame outer inner → IsFrame c limit Q u frame outer inner
  frame_stays frame outer inner h x = stands_stays (bound_to frame x) (inner x) (outer x) (h x)

module _ {Id : Type 0} (P Q : Id → Type 0) (w : (id : Id) → P id → Q id) where
  pub value_id_stays : (v : Value Id) → HasValueId P v → HasValueId Q v
  value_id_stays (value.Term v) h = h
  value_id_stays (value.Formula v) h = id_stays P Q w v h

  pub symbol_ids_stay : (frames : List (List (List ℕ × Value Id))) → HaveSymbolIds P frames → HaveSymbolIds Q frames
  symbol_ids_stay frames h x v e = value_id_stays v (h x v e)

  pub frame_ids_stay : (frame : List (List ℕ × Value Id)) → HaveFrameIds P frame → HaveFrameIds Q frame
  frame_ids_stay frame h x v e = value_id_stays v (h x v e)

-- ---- names of quantifiers

-- the last name stands for the last level
pub opened_last : (n : ℕ) (xs : List SortedName) (i : ℕ) (x : SortedName) (s : Scope) → i < length xs → x ≡ get_or xs i x → opened n (take (i + 1) xs) s ≡ with_symbol x.name (variable (n + i)) (opened n (take i xs) s)
opened_last n [] i x s l e = absurd (omega arith)
opened_last n (y ∷ ys) zero x s l e = let d : n ≡ n + 0 = omega arith in (ap (λ z. with_symbol z.name (variable n) s) (sym e) ∙ ap (λ m. with_symbol x.name (variable m) s) d)
opened_last n (y ∷ ys) (suc i) x s l e =
    let d : suc n + i ≡ n + suc i = omega arith in let k : suc i + 1 ≡ suc (i + 1) = omega arith in
    ap (λ m. opened n (take m (y ∷ ys)) s) k ∙ opened_last (suc n) ys i x (with_symbol y.name (variable n) s) (omega arith) e ∙ ap (λ m. with_symbol x.name (variable m) (opened (suc n) (take i ys) (with_symbol y.name (variable n) s))) d

-- ---- terms and formulas that were read

pub term_read : {Id : Type 0} (c : Context) (limit : ℕ) (P : Id → Type 0) (t : Id → Tree) (o : Option Meaning) (v : Sized ReadTerm) → IsMeant c limit P t o (Some (value.Term v)) → (s : TermTree) × (o ≡ Some (Term s)) × IsTermValue c limit s v
term_read c limit P t None v h = absurd h
term_read c limit P t (Some (Term s)) v h = (s, refl, h)
term_read c limit P t (Some (Formula f)) v h = absurd h

pub formula_read : {Id : Type 0} (c : Context) (limit : ℕ) (P : Id → Type 0) (t : Id → Tree) (o : Option Meaning) (v : Sized (Part Id)) → IsMeant c limit P t o (Some (value.Formula v)) → (f : FormulaTree) × (o ≡ Some (Formula f)) × IsFormulaValue c limit P t f v
formula_read c limit P t None v h = absurd h
formula_read c limit P t (Some (Term s)) v h = absurd h
formula_read c limit P t (Some (Formula f)) v h = (f, refl, h)
