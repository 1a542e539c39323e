-- The free numbers of a shared formula from those of its members, shape by shape.
use Rattle.std.proofs.Common.{◌≡◌, ◌<◌, ◌⊎◌, inl, inr, ⊎_elim, ℕ, List, [], ◌∷◌, map, Bool, true, false, cond, Some, slice_get, IsSome, sym, ◌∙◌, ap, subst, refl, arith, ◌++◌, true≢false, ◌+◌, None, take, length, get_or}
use Rattle.std.proofs.lemmas.List.{take_more}
use Rattle.std.proofs.lemmas.Option.{slice_get_within, slice_get-get_or}
use Rattle.logic_meaning.specs.declared.form.VarId.{VarId}
use Rattle.linear_forms.specs.Linear.{term_of}
use Rattle.std.proofs.Math.IntN.{pos}
use Rattle.std.specs.Prelude.{◌↔◌, Option, option_map, ℤ}
use Rattle.std.specs.List.{AllByRecursion}
use Rattle.std.specs.HashMap.{get}
use Rattle.std.specs.Cmp.{unsigned_Decides}
use Rattle.std.specs.declared.alloc.Global.{Global}
use Rattle.std.specs.declared.vec.Vec.{Vec}
use Rattle.std.proofs.lemmas.Bool.{cases_eq}
use Rattle.logic_meaning.specs.Some.{SomeOf}
use Rattle.logic_meaning.specs.Every.{FreeInSome}
use Rattle.logic_meaning.specs.Atom.{Mentions}
use Rattle.logic_meaning.specs.Form.{Form, Term, multiple, coefficient}
use Rattle.logic_meaning.specs.Sorted.{AllAbove, IsRising, AllNonzero, IsSorted}
use Rattle.logic_meaning.specs.Tree.{Tree, IsFree}
use Rattle.formula_laws.proofs.Sorted.{here, elsewhere}
use Rattle.written_syntax.proofs.EntryLists.{some_left, some_right, some_split, some_one}
use Rattle.formula_tree.specs.declared.shape.Shape.{Shape}
use Rattle.formula_tree.specs.Trees.{members}
use Rattle.formula_tree.specs.Shapes.{tree_over, AllIds}
use Rattle.formula_store.specs.declared.id.FormulaId.{FormulaId}
use Rattle.formula_store.specs.Nodes.{tree}
use Rattle.free_names.specs.Scopes.{IsIn}
use Rattle.free_names.specs.Missing.{AreMissing, Table, IsThere, IsSound, items_of, numbers_at, same_id}

-- the same said of another formula
pub missing_same : (P Q : ℕ → Type 0) (has : ℕ → Bool) (ns : List ℕ) → ((n : ℕ) → P n → Q n) → ((n : ℕ) → Q n → P n) → AreMissing P has ns → AreMissing Q has ns
missing_same P Q has ns f g m = record { only = λ n i. let r = m.only n i in (f n r.0, r.1); all = λ n q a. m.all n (g n q) a }

pub missing_none : (P : ℕ → Type 0) (has : ℕ → Bool) → ((n : ℕ) → ¬ (P n)) → AreMissing P has []
missing_none P has never = record { only = λ n i. absurd i; all = λ n p a. absurd (never n p) }

-- the node's shape is s
module _ (nodes : List (Shape FormulaId)) (id : FormulaId) (n s : Shape FormulaId) (here : slice_get nodes id.number ≡ Some n) (t : tree nodes id ≡ tree_over (tree nodes) n) (is : n ≡ s) where
  pub arm_there : (P : FormulaId → Type 0) → ((m : Shape FormulaId) → slice_get nodes id.number ≡ Some m → AllIds P m) → AllIds P s
  arm_there P known = known s (here ∙ ap Some is)

  pub arm_missing : (has : ℕ → Bool) (ns : List ℕ) → AreMissing (IsFree (tree_over (tree nodes) s)) has ns → AreMissing (IsFree (tree nodes id)) has ns
  arm_missing has ns m = subst (λ (f : Tree). AreMissing (IsFree f) has ns) (sym (t ∙ ap (tree_over (tree nodes)) is)) m

module _ (nodes : List (Shape FormulaId)) (has : ℕ → Bool) (table : Table) (sound : IsSound nodes has table) where
  -- some of the formulas has the number
  pub some_missing : (ids : List FormulaId) → AllByRecursion (IsThere table) ids
      → (n : ℕ) → SomeOf (λ id. IsIn n (numbers_at table id)) ids → FreeInSome Mentions (members (map (tree nodes) ids)) n × (has n ≡ false)
  some_missing [] there n h = absurd h
  some_missing (id ∷ ids) there n (inl i) = let r = (sound id there.0).only n i in (inl r.0, r.1)
  some_missing (id ∷ ids) there n (inr h) = let r = some_missing ids there.1 n h in (inr r.0, r.1)

  pub missing_some : (ids : List FormulaId) → AllByRecursion (IsThere table) ids
      → (n : ℕ) → FreeInSome Mentions (members (map (tree nodes) ids)) n → has n ≡ false → SomeOf (λ id. IsIn n (numbers_at table id)) ids
  missing_some [] there n h a = absurd h
  missing_some (id ∷ ids) there n (inl f) a = inl ((sound id there.0).all n f a)
  missing_some (id ∷ ids) there n (inr h) a = inr (missing_some ids there.1 n h a)

  -- the union of the members' numbers
  pub missing_union : (ids : List FormulaId) (ns : List ℕ) → AllByRecursion (IsThere table) ids → ((n : ℕ) → IsIn n ns ↔ SomeOf (λ id. IsIn n (numbers_at table id)) ids)
      → AreMissing (λ n. FreeInSome Mentions (members (map (tree nodes) ids)) n) has ns
  missing_union ids ns there u = record { only = λ n i. some_missing ids there n ((u n).0 i); all = λ n f a. (u n).1 (missing_some ids there n f a) }

  pub missing_one : (f : FormulaId) (ns : List ℕ) → IsThere table f → ((n : ℕ) → IsIn n ns ↔ SomeOf (λ id. IsIn n (numbers_at table id)) (f ∷ [])) → AreMissing (IsFree (tree nodes f)) has ns
  missing_one f ns there u =
      missing_same (λ n. FreeInSome Mentions (members (map (tree nodes) (f ∷ []))) n) (IsFree (tree nodes f)) has ns (λ n. ⊎_elim (λ p. p) (λ q. absurd q)) (λ n p. inl p) (missing_union (f ∷ []) ns (there, tt) u)

  pub missing_two : (f g : FormulaId) (ns : List ℕ) → IsThere table f → IsThere table g → ((n : ℕ) → IsIn n ns ↔ SomeOf (λ id. IsIn n (numbers_at table id)) (f ∷ g ∷ []))
      → AreMissing (λ n. IsFree (tree nodes f) n ⊎ IsFree (tree nodes g) n) has ns
  missing_two f g ns a b u =
      missing_same (λ n. FreeInSome Mentions (members (map (tree nodes) (f ∷ g ∷ []))) n) (λ n. IsFree (tree nodes f) n ⊎ IsFree (tree nodes g) n) has ns
      (λ n. ⊎_elim (λ p. inl p) (λ q. ⊎_elim (λ r. inr r) (λ r. absurd r) q)) (λ n. ⊎_elim (λ p. inl p) (λ p. inr (inl p))) (missing_union (f ∷ g ∷ []) ns (a, (b, tt)) u)

  -- a quantifier takes its number away
  pub missing_below : (x : ℕ) (f : FormulaId) (ns : List ℕ) → IsThere table f → ((n : ℕ) → IsIn n ns ↔ ((¬ (x ≡ n)) × IsIn n (numbers_at table f)))
      → AreMissing (λ n. (¬ (x ≡ n)) × IsFree (tree nodes f) n) has ns
  missing_below x f ns there u = record {
    only = λ n i. let p = (u n).0 i in let r = (sound f there).only n p.1 in ((p.0, r.0), r.1);
    all = λ n p a. (u n).1 (p.0, (sound f there).all n p.1 a);
  }

-- ---- the table gets the numbers of one formula more

module _ (nodes : List (Shape FormulaId)) (has : ℕ → Bool) (old new : Table) (id : FormulaId) (v : Vec ℕ Global) (put : (q : FormulaId) → get same_id new q ≡ cond (same_id id q) (Some v) (get same_id old q)) where
  -- what is in the table stays there
  there_by : (q : FormulaId) (t : Bool) → same_id id q ≡ t → IsThere old q → IsThere new q
  there_by q true e h = subst (λ (o : Option (Vec ℕ Global)). IsSome o) (sym (put q ∙ ap (λ b. cond b (Some v) (get same_id old q)) e)) refl
  there_by q false e h = subst (λ (o : Option (Vec ℕ Global)). IsSome o) (sym (put q ∙ ap (λ b. cond b (Some v) (get same_id old q)) e)) h

  pub there_more : (q : FormulaId) → IsThere old q → IsThere new q
  there_more q h = there_by q (same_id id q) refl h

  pub there_now : IsThere new id
  there_now = subst (λ (o : Option (Vec ℕ Global)). IsSome o) (sym (put id ∙ ap (λ b. cond b (Some v) (get same_id old id)) ((unsigned_Decides id.number id.number).1 refl))) refl

  sound_by : IsSound nodes has old → AreMissing (IsFree (tree nodes id)) has v.items → (q : FormulaId) (t : Bool) → same_id id q ≡ t → IsThere new q → AreMissing (IsFree (tree nodes q)) has (numbers_at new q)
  sound_by s m q true e h =
      let n : id.number ≡ q.number = (unsigned_Decides id.number q.number).0 e in
      let same : id ≡ q = λ i. record { number = n i } in
      let at : get same_id new q ≡ Some v = put q ∙ ap (λ b. cond b (Some v) (get same_id old q)) e in
      subst (λ (o : Option (Vec ℕ Global)). AreMissing (IsFree (tree nodes q)) has (items_of o)) (sym at) (subst (λ (x : FormulaId). AreMissing (IsFree (tree nodes x)) has v.items) same m)
  sound_by s m q false e h =
      let at : get same_id new q ≡ get same_id old q = put q ∙ ap (λ b. cond b (Some v) (get same_id old q)) e in
      subst (λ (o : Option (Vec ℕ Global)). AreMissing (IsFree (tree nodes q)) has (items_of o)) (sym at) (s q (subst (λ (o : Option (Vec ℕ Global)). IsSome o) at h))

  pub sound_more : IsSound nodes has old → AreMissing (IsFree (tree nodes id)) has v.items → IsSound nodes has new
  sound_more s m q h = sound_by s m q (same_id id q) refl h

-- ---- the names of a form

named_above : (x y : ℕ) (ts : List Term) → AllAbove y ts → SomeOf (λ (t : Term). t.name ≡ x) ts → ¬ (y ≡ x)
named_above x y [] a m e = absurd m
named_above x y (t ∷ ts) a (inl n) e = absurd (omega (arith, a.0))
named_above x y (t ∷ ts) a (inr m) e = named_above x y ts a.1 m e

named_multiple : (x : ℕ) (ts : List Term) → IsRising ts → AllNonzero ts → SomeOf (λ (t : Term). t.name ≡ x) ts → ¬ (multiple x ts ≡ pos 0)
named_multiple x [] r n m e = absurd m
named_multiple x (t ∷ ts) r n (inl h) e = n.0 (sym (here x t ts h (subst (λ (z : ℕ). AllAbove z ts) h r.0)) ∙ e)
named_multiple x (t ∷ ts) r n (inr m) e = named_multiple x ts r.1 n.1 m (sym (elsewhere x t ts (named_above x t.name ts r.0 m)) ∙ e)

multiple_named : (x : ℕ) (ts : List Term) → ¬ (multiple x ts ≡ pos 0) → SomeOf (λ (t : Term). t.name ≡ x) ts
multiple_named x [] n = absurd (n refl)
multiple_named x (t ∷ ts) n = elim (cases_eq t.name x) [ inl e ↦ inl e | inr d ↦ inr (multiple_named x ts (λ z. n (elsewhere x t ts d ∙ z))) ]

-- the names of a sorted form are those with a coefficient
pub form_names : (f : Form) (has : ℕ → Bool) (ns : List ℕ) → IsSorted f → AreMissing (λ n. SomeOf (λ (t : Term). t.name ≡ n) f.terms) has ns → AreMissing (λ n. ¬ (coefficient n f ≡ pos 0)) has ns
unfolding coefficient
form_names f has ns s m =
    missing_same (λ n. SomeOf (λ (t : Term). t.name ≡ n) f.terms) (λ n. ¬ (coefficient n f ≡ pos 0)) has ns (λ n. named_multiple n f.terms s.rising s.nonzero) (λ n. multiple_named n f.terms) m

-- one term more, whose name passes the test or not
module _ (has : ℕ → Bool) (front : List Term) (ns : List ℕ) (t : Term) (m : AreMissing (λ n. SomeOf (λ (u : Term). u.name ≡ n) front) has ns) where
  pub term_missing : has t.name ≡ false → AreMissing (λ n. SomeOf (λ (u : Term). u.name ≡ n) (front ++ t ∷ [])) has (ns ++ t.name ∷ [])
  term_missing absent = record {
    only = λ n i.
        ⊎_elim (λ j. let r = m.only n j in (some_left (λ (u : Term). u.name ≡ n) front (t ∷ []) r.0, r.1))
        (λ j. let e : t.name ≡ n = some_one (λ (k : ℕ). k ≡ n) t.name j in (some_right (λ (u : Term). u.name ≡ n) front (t ∷ []) (inl e), subst (λ (k : ℕ). has k ≡ false) e absent))
        (some_split (λ (k : ℕ). k ≡ n) ns (t.name ∷ []) i);
    all = λ n s a.
        ⊎_elim (λ f. some_left (λ (k : ℕ). k ≡ n) ns (t.name ∷ []) (m.all n f a))
        (λ g. some_right (λ (k : ℕ). k ≡ n) ns (t.name ∷ []) (inl (some_one (λ (u : Term). u.name ≡ n) t g)))
        (some_split (λ (u : Term). u.name ≡ n) front (t ∷ []) s);
  }

  pub term_there : has t.name ≡ true → AreMissing (λ n. SomeOf (λ (u : Term). u.name ≡ n) (front ++ t ∷ [])) has ns
  term_there present = record {
    only = λ n i. let r = m.only n i in (some_left (λ (u : Term). u.name ≡ n) front (t ∷ []) r.0, r.1);
    all = λ n s a.
        ⊎_elim (λ f. m.all n f a)
        (λ g. absurd (true≢false (sym (subst (λ (k : ℕ). has k ≡ true) (some_one (λ (u : Term). u.name ≡ n) t g) present) ∙ a)))
        (some_split (λ (u : Term). u.name ≡ n) front (t ∷ []) s);
  }

-- the first terms, with the one that is read at the next place
pub next_term : (ts : List Term) (i : ℕ) (t : Term) → Some t ≡ slice_get ts i → take (i + 1) ts ≡ take i ts ++ t ∷ []
next_term ts i t e =
    let h : i < length ts = slice_get_within ts i t (sym e) in
    let same : get_or ts i t ≡ t = (let s : slice_get ts i ≡ Some (get_or ts i t) = slice_get-get_or ts i t h in cc) in
    take_more ts i t h ∙ ap (λ (u : Term). take i ts ++ u ∷ []) same

-- there is one at each place
pub no_term : (o : Option (VarId × ℤ)) (ts : List Term) (i : ℕ) → ((p : VarId × ℤ) → ¬ (o ≡ Some p)) → option_map term_of o ≡ slice_get ts i → ¬ (i < length ts)
no_term None ts i n e h = let s : slice_get ts i ≡ Some (get_or ts i (record { times = pos 0; name = 0 })) = slice_get-get_or ts i (record { times = pos 0; name = 0 }) h in absurd (cc)
no_term (Some p) ts i n e h = n p refl
