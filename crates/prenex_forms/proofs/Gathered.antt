-- The places of a formula, gathered by their levels, are its blocks.
use Rattle.std.proofs.Common.{◌≡◌, ◌<◌, ℕ, zero, suc, ◌+◌, ◌%◌, Bool, true, false, List, [], ◌∷◌, ◌++◌, length, drop, refl, sym, ap, ap₂, ◌∙◌, arith, get_or, nat_eq, if◌then◌else◌}
use Rattle.std.proofs.Math.Seq.{drop-cons}
use Rattle.std.proofs.lemmas.Bool.{ne_eqb, eq-eqb, eqb-true}
use Rattle.logic_meaning.specs.Formula.{Yes, No, One, Not, And, Or, Impl, Repl, Equiv, Ex, All, none, also}
use Rattle.logic_meaning.specs.declared.quantifier.Quantifier.{Quantifier}
use Rattle.logic_meaning.specs.declared.quantifier.Quantifier.TheVariants.{Exists, ForAll}
use Rattle.logic_meaning.specs.Tree.{Tree, Trees}
use Rattle.logic_meaning.specs.declared.form.VarId.{VarId}
use Rattle.formula_tree.specs.Shapes.{tree_over}
use Rattle.logic_meaning.specs.Front.{quantified}
use Rattle.reference_engine.specs.Shared.{quantified_shape}
use Rattle.logic_meaning.specs.Blocks.{other_kind, in_first, joined_blocks, blocks, blocks_of}
use Rattle.prenex_forms.specs.declared.front.Place.{Place}
use Rattle.prenex_forms.specs.Places.{place_at, placed, placed_in, level_names, levels_of, kind_at}

pub name_here : (l m x : ℕ) (ps : List Place) → l ≡ m → level_names m (place_at l x ∷ ps) ≡ x ∷ level_names m ps
name_here l m x ps e = ap (λ (b : Bool). if b then x ∷ level_names m ps else level_names m ps) (eq-eqb l m e)

pub name_elsewhere : (l m x : ℕ) (ps : List Place) → ¬ (l ≡ m) → level_names m (place_at l x ∷ ps) ≡ level_names m ps
name_elsewhere l m x ps n = ap (λ (b : Bool). if b then x ∷ level_names m ps else level_names m ps) (ne_eqb l m n)

names_append : (m : ℕ) (ps rs : List Place) → level_names m (ps ++ rs) ≡ level_names m ps ++ level_names m rs
names_append m [] rs = refl
names_append m (p ∷ ps) rs = go (nat_eq p.level m) (names_append m ps rs)
  where
    go : (b : Bool) → level_names m (ps ++ rs) ≡ level_names m ps ++ level_names m rs →
        (if b then p.name.number ∷ level_names m (ps ++ rs) else level_names m (ps ++ rs)) ≡ (if b then p.name.number ∷ level_names m ps else level_names m ps) ++ level_names m rs
    go true h = ap (λ xs. p.name.number ∷ xs) h
    go false h = h

abbrev at : List (List ℕ) → ℕ → List ℕ
at bs k = get_or bs k []

at_joined : (bs cs : List (List ℕ)) (k : ℕ) → at (joined_blocks bs cs) k ≡ at bs k ++ at cs k
at_joined [] cs k = refl
at_joined (b ∷ bs) [] zero = sym (append_nothing b)
  where
    append_nothing : (xs : List ℕ) → xs ++ [] ≡ xs
    append_nothing [] = refl
    append_nothing (x ∷ xs) = ap (λ ys. x ∷ ys) (append_nothing xs)
at_joined (b ∷ bs) [] (suc k) = sym (append_nothing (at bs k))
  where
    append_nothing : (xs : List ℕ) → xs ++ [] ≡ xs
    append_nothing [] = refl
    append_nothing (x ∷ xs) = ap (λ ys. x ∷ ys) (append_nothing xs)
at_joined (b ∷ bs) (c ∷ cs) zero = refl
at_joined (b ∷ bs) (c ∷ cs) (suc k) = at_joined bs cs k

at_first : (x : ℕ) (bs : List (List ℕ)) → at (in_first x bs) 0 ≡ x ∷ at bs 0
at_first x [] = refl
at_first x (b ∷ bs) = refl

at_later : (x : ℕ) (bs : List (List ℕ)) (k : ℕ) → at (in_first x bs) (suc k) ≡ at bs (suc k)
at_later x [] k = refl
at_later x (b ∷ bs) k = refl

-- the places behind the block with number l have the names of these blocks
record Gathers (l : ℕ) (bs : List (List ℕ)) (ps : List Place) : Type 0 where
  names : (k m : ℕ) → m ≡ l + k → level_names m ps ≡ at bs k
  before : (m : ℕ) → m < l → level_names m ps ≡ []

gathers_nothing : (l : ℕ) → Gathers l [] []
gathers_nothing l = record { names = λ k m e. refl; before = λ m h. refl }

-- a quantifier of the same block
gathers_own : (l x : ℕ) (bs : List (List ℕ)) (ps : List Place) → Gathers l bs ps → Gathers l (in_first x bs) (place_at l x ∷ ps)
gathers_own l x bs ps g = record {
  names = go;
  before = λ m h. name_elsewhere l m x ps (λ (e : l ≡ m). omega arith) ∙ g.before m h;
}
  where
    go : (k m : ℕ) → m ≡ l + k → level_names m (place_at l x ∷ ps) ≡ at (in_first x bs) k
    go zero m e = name_here l m x ps (omega arith) ∙ ap (λ xs. x ∷ xs) (g.names 0 m e) ∙ sym (at_first x bs)
    go (suc k) m e = name_elsewhere l m x ps (λ (h : l ≡ m). omega arith) ∙ g.names (suc k) m e ∙ sym (at_later x bs k)

-- the next block
gathers_next : (l : ℕ) (bs : List (List ℕ)) (ps : List Place) → Gathers (l + 1) bs ps → Gathers l ([] ∷ bs) ps
gathers_next l bs ps g = record { names = go; before = λ m h. g.before m (omega arith) }
  where
    go : (k m : ℕ) → m ≡ l + k → level_names m ps ≡ at ([] ∷ bs) k
    go zero m e = g.before m (omega arith)
    go (suc k) m e = g.names k m (omega arith)

gathers_joined : (l : ℕ) (bs cs : List (List ℕ)) (ps rs : List Place) → Gathers l bs ps → Gathers l cs rs → Gathers l (joined_blocks bs cs) (ps ++ rs)
gathers_joined l bs cs ps rs g h = record {
  names = λ k m e. names_append m ps rs ∙ ap₂ (λ xs ys. xs ++ ys) (g.names k m e) (h.names k m e) ∙ sym (at_joined bs cs k);
  before = λ m i. names_append m ps rs ∙ ap₂ (λ xs ys. xs ++ ys) (g.before m i) (h.before m i);
}

mutual
  gathers : (f : Tree) (q : Quantifier) (l : ℕ) → Gathers l (blocks f q) (placed q l f)
  gathers Yes q l = gathers_nothing l
  gathers No q l = gathers_nothing l
  gathers (One a) q l = gathers_nothing l
  gathers (Not f) q l = gathers_nothing l
  gathers (And fs) q l = all_gather fs q l
  gathers (Or fs) q l = all_gather fs q l
  gathers (Impl f g) q l = gathers_nothing l
  gathers (Repl f g) q l = gathers_nothing l
  gathers (Equiv f g) q l = gathers_nothing l
  gathers (Ex x f) Exists l = gathers_own l x (blocks f Exists) (placed Exists l f) (gathers f Exists l)
  gathers (Ex x f) ForAll l = gathers_next l (in_first x (blocks f Exists)) (place_at (l + 1) x ∷ placed Exists (l + 1) f) (gathers_own (l + 1) x (blocks f Exists) (placed Exists (l + 1) f) (gathers f Exists (l + 1)))
  gathers (All x f) Exists l = gathers_next l (in_first x (blocks f ForAll)) (place_at (l + 1) x ∷ placed ForAll (l + 1) f) (gathers_own (l + 1) x (blocks f ForAll) (placed ForAll (l + 1) f) (gathers f ForAll (l + 1)))
  gathers (All x f) ForAll l = gathers_own l x (blocks f ForAll) (placed ForAll l f) (gathers f ForAll l)

  all_gather : (fs : Trees) (q : Quantifier) (l : ℕ) → Gathers l (blocks_of fs q) (placed_in q l fs)
  all_gather none q l = gathers_nothing l
  all_gather (also f fs) q l = gathers_joined l (blocks f q) (blocks_of fs q) (placed q l f) (placed_in q l fs) (gathers f q l) (all_gather fs q l)

levels_gathered : (l : ℕ) (bs : List (List ℕ)) (ps : List Place) → ((k m : ℕ) → m ≡ l + k → level_names m ps ≡ at bs k) → levels_of l (length bs) ps ≡ bs
levels_gathered l [] ps h = refl
levels_gathered l (b ∷ bs) ps h = ap₂ (λ x xs. x ∷ xs) (h 0 l (omega arith)) (levels_gathered (l + 1) bs ps (λ k m e. h (suc k) m (omega arith)))

-- the places gathered by their levels are the blocks
pub gathered_blocks : (f : Tree) (q : Quantifier) → levels_of 0 (length (blocks f q)) (placed q 0 f) ≡ blocks f q
gathered_blocks f q = levels_gathered 0 (blocks f q) (placed q 0 f) (gathers f q 0).names

-- the kinds take turns
pub kind_next : (q : Quantifier) (l : ℕ) → other_kind (kind_at q l) ≡ kind_at q (l + 1)
kind_next q l = go (nat_eq (l % 2) 0) refl (nat_eq ((l + 1) % 2) 0) refl
  where
    twice : (q : Quantifier) → other_kind (other_kind q) ≡ q
    twice Exists = refl
    twice ForAll = refl

    go : (b : Bool) → nat_eq (l % 2) 0 ≡ b → (d : Bool) → nat_eq ((l + 1) % 2) 0 ≡ d → other_kind (if b then q else other_kind q) ≡ (if d then q else other_kind q)
    go true e true h = let a = eqb-true (l % 2) 0 e in let b = eqb-true ((l + 1) % 2) 0 h in absurd (omega arith)
    go true e false h = refl
    go false e true h = twice q
    go false e false h = absurd (both_odd (odd (l % 2) e) (odd ((l + 1) % 2) h))
      where
        odd : (n : ℕ) → nat_eq n 0 ≡ false → ¬ (n ≡ 0)
        odd n e z = absurd (cc (eq-eqb n 0 z, e))

        both_odd : ¬ (l % 2 ≡ 0) → ¬ ((l + 1) % 2 ≡ 0) → ⊥
        both_odd m n = omega arith

-- the names from a place of this level on
pub names_from : (l i : ℕ) (ps : List Place) (d : Place) → i < length ps → (get_or ps i d).level ≡ l → level_names l (drop i ps) ≡ (get_or ps i d).name.number ∷ level_names l (drop (suc i) ps)
names_from l i ps d h e =
    let p = get_or ps i d in
    ap (level_names l) (drop-cons ps i d h)
    ∙ ap (λ (b : Bool). if b then p.name.number ∷ level_names l (drop (suc i) ps) else level_names l (drop (suc i) ps)) (eq-eqb p.level l e)

-- the tree of a formula under a quantifier
pub quantified_tree : {Id : Type 0} (t : Id → Tree) (q : Quantifier) (x : VarId) (f : Id) → tree_over t (quantified_shape q x f) ≡ quantified q x.number (t f)
quantified_tree t Exists x f = refl
quantified_tree t ForAll x f = refl
