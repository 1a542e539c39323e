-- The clean lists against the plain lists: each comes of one of these, in their order, with no more atoms and no more weight.
use Rattle.std.proofs.Common.{◌≡◌, ℕ, zero, suc, ◌+◌, ◌≤◌, Bool, true, false, sym, subst, Option, None, Some, List, [], ◌∷◌, ◌++◌, map, length, arith, length-append, append_assoc}
use Rattle.std.specs.Prelude.{if◌then◌else◌}
use Rattle.logic_meaning.specs.Some.{EachOf}
use Rattle.logic_meaning.specs.declared.junction.Junction.{Junction}
use Rattle.shape_theory.specs.Kit.{Kit}
use Rattle.logic_meaning.specs.PlainForms.{products, together, of_none}
use Rattle.shape_theory.specs.Lines.{insert_all, is_within, some_within, not_above, add, add_if, add_all, add_line_products, add_products, joined_lines}
use Rattle.logic_meaning.specs.Clean.{IsUnmerged}
use Rattle.shape_theory.proofs.Inserting.{each_append, total, total_append, MergesLightly, Keeps, Fits, FitsIf, wider, all_fit}
use Rattle.shape_theory.proofs.Joins.{append_none}

module _ {A : Type 0} (kit : Kit A) (j : Junction) (Q : A → Type 0) (w : A → ℕ) (light : MergesLightly kit j Q w) where
  -- us comes of ps
  abbrev pub FitsLine : List A → List A → Type 0
  FitsLine ps us = Fits kit j Q w light (length ps) (total w ps) us

  -- some of the first lists, in their order, and what comes of them
  pub data Under : List (List A) → List (List A) → Type 0 where
    ends : Under [] []
    goes : (p : List A) {ps cs : List (List A)} → EachOf Q p → Under ps cs → Under (p ∷ ps) cs
    stays : (p c : List A) {ps cs : List (List A)} → EachOf Q p → FitsLine p c → Under ps cs → Under (p ∷ ps) (c ∷ cs)

  skip : (p : List A) (ps cs : List (List A)) → EachOf Q p → Under ps cs → Under (ps ++ p ∷ []) cs
  skip p _ _ x ends = goes p x ends
  skip p _ _ x (goes q y u) = goes q y (skip p _ _ x u)
  skip p _ _ x (stays q c y f u) = stays q c y f (skip p _ _ x u)

  take_last : (p c : List A) (ps cs : List (List A)) → EachOf Q p → FitsLine p c → Under ps cs → Under (ps ++ p ∷ []) (cs ++ c ∷ [])
  take_last p c _ _ x f ends = stays p c x f ends
  take_last p c _ _ x f (goes q y u) = goes q y (take_last p c _ _ x f u)
  take_last p c _ _ x f (stays q d y g u) = stays q d y g (take_last p c _ _ x f u)

  filtered : (vs : List A) (ps cs : List (List A)) → Under ps cs → Under ps (not_above kit j cs vs)
  filtered vs _ _ ends = ends
  filtered vs _ _ (goes q y u) = goes q y (filtered vs _ _ u)
  filtered vs _ _ (stays q d {ps} {cs} y g u) = split (is_within kit j vs d) (filtered vs ps cs u)
    where
      split : (b : Bool) → Under ps (not_above kit j cs vs) → Under (q ∷ ps) (if b then not_above kit j cs vs else d ∷ not_above kit j cs vs)
      split true i = goes q y i
      split false i = stays q d y g i

  added : (p c : List A) (ps cs : List (List A)) → EachOf Q p → FitsLine p c → Under ps cs → Under (ps ++ p ∷ []) (add kit j cs c)
  added p c ps cs x f u = split (some_within kit j cs c)
    where
      split : (b : Bool) → Under (ps ++ p ∷ []) (if b then cs else not_above kit j cs c ++ c ∷ [])
      split true = skip p ps cs x u
      split false = take_last p c ps (not_above kit j cs c) x f (filtered c ps cs u)

  added_if : (p : List A) (o : Option (List A)) (ps cs : List (List A)) → EachOf Q p → FitsIf kit j Q w light (length p) (total w p) o → Under ps cs → Under (ps ++ p ∷ []) (add_if kit j cs o)
  added_if p None ps cs x f u = skip p ps cs x u
  added_if p (Some c) ps cs x f u = added p c ps cs x f u

  all_added : (ps cs qs ds : List (List A)) → Under qs ds → Under ps cs → Under (ps ++ qs) (add_all kit j cs ds)
  all_added ps cs _ _ ends u = subst (λ t. Under t cs) (sym (append_none ps)) u
  all_added ps cs _ _ (goes q {ps = qs} {cs = ds} y v) u =
      subst (λ t. Under t (add_all kit j cs ds)) (append_assoc ps (q ∷ []) qs) (all_added (ps ++ q ∷ []) cs qs ds v (skip q ps cs y u))
  all_added ps cs _ _ (stays q d {ps = qs} {cs = ds} y f v) u =
      subst (λ t. Under t (add_all kit j (add kit j cs d) ds)) (append_assoc ps (q ∷ []) qs) (all_added (ps ++ q ∷ []) (add kit j cs d) qs ds v (added q d ps cs y f u))

  longer : (a b d n : ℕ) → n ≡ a + b → (1 ≤ b → 1 ≤ d) → 1 ≤ n → 1 ≤ a + d
  longer zero b d n e f h = let k = f (omega arith) in omega arith
  longer (suc a) b d n e f h = omega arith

  -- the atoms of d put into c
  put_in : (p c q d : List A) → FitsLine p c → FitsLine q d → FitsIf kit j Q w light (length (p ++ q)) (total w (p ++ q)) (insert_all kit j (Some c) d)
  put_in p c q d f g =
      let l = length-append p q in
      let t = total_append w p q in
      let x = g.few in
      let y = g.weight in
      wider kit j Q w light (length p + length d) (total w p + total w d) (length (p ++ q)) (total w (p ++ q)) (insert_all kit j (Some c) d) (omega arith) (omega arith) (longer (length p) (length q) (length d) (length (p ++ q)) (length-append p q) g.some)
      (all_fit kit j Q w light (length p) (total w p) (Some c) d g.each f)

  line_added : (ps cs : List (List A)) (p c : List A) (qs ds : List (List A)) → EachOf Q p → FitsLine p c → Under qs ds → Under ps cs → Under (ps ++ map (λ vs. p ++ vs) qs) (add_line_products kit j cs c ds)
  line_added ps cs p c _ _ x f ends u = subst (λ t. Under t cs) (sym (append_none ps)) u
  line_added ps cs p c _ _ x f (goes q {ps = qs} {cs = ds} y v) u =
      subst (λ t. Under t (add_line_products kit j cs c ds)) (append_assoc ps ((p ++ q) ∷ []) (map (λ vs. p ++ vs) qs))
      (line_added (ps ++ (p ++ q) ∷ []) cs p c qs ds x f v (skip (p ++ q) ps cs (each_append Q p q x y) u))
  line_added ps cs p c _ _ x f (stays q d {ps = qs} {cs = ds} y g v) u =
      subst (λ t. Under t (add_line_products kit j (add_if kit j cs (insert_all kit j (Some c) d)) c ds)) (append_assoc ps ((p ++ q) ∷ []) (map (λ vs. p ++ vs) qs))
      (line_added (ps ++ (p ++ q) ∷ []) (add_if kit j cs (insert_all kit j (Some c) d)) p c qs ds x f v
      (added_if (p ++ q) (insert_all kit j (Some c) d) ps cs (each_append Q p q x y) (put_in p c q d f g) u))

  skip_all : (p : List A) (ps cs qs ds : List (List A)) → EachOf Q p → Under qs ds → Under ps cs → Under (ps ++ map (λ vs. p ++ vs) qs) cs
  skip_all p ps cs _ _ x ends u = subst (λ t. Under t cs) (sym (append_none ps)) u
  skip_all p ps cs _ _ x (goes q {ps = qs} {cs = ds} y v) u =
      subst (λ t. Under t cs) (append_assoc ps ((p ++ q) ∷ []) (map (λ vs. p ++ vs) qs)) (skip_all p (ps ++ (p ++ q) ∷ []) cs qs ds x v (skip (p ++ q) ps cs (each_append Q p q x y) u))
  skip_all p ps cs _ _ x (stays q d {ps = qs} {cs = ds} y g v) u =
      subst (λ t. Under t cs) (append_assoc ps ((p ++ q) ∷ []) (map (λ vs. p ++ vs) qs)) (skip_all p (ps ++ (p ++ q) ∷ []) cs qs ds x v (skip (p ++ q) ps cs (each_append Q p q x y) u))

  products_added : (rs es ps cs qs ds : List (List A)) → Under ps cs → Under qs ds → Under rs es → Under (rs ++ products ps qs) (add_products kit j es cs ds)
  products_added rs es _ _ qs ds ends v u = subst (λ t. Under t es) (sym (append_none rs)) u
  products_added rs es _ _ qs ds (goes p {ps} {cs} x h) v u =
      subst (λ t. Under t (add_products kit j es cs ds)) (append_assoc rs (map (λ vs. p ++ vs) qs) (products ps qs))
      (products_added (rs ++ map (λ vs. p ++ vs) qs) es ps cs qs ds h v (skip_all p rs es qs ds x v u))
  products_added rs es _ _ qs ds (stays p c {ps} {cs} x f h) v u =
      subst (λ t. Under t (add_products kit j (add_line_products kit j es c ds) cs ds)) (append_assoc rs (map (λ vs. p ++ vs) qs) (products ps qs))
      (products_added (rs ++ map (λ vs. p ++ vs) qs) (add_line_products kit j es c ds) ps cs qs ds h v (line_added rs es p c qs ds x f v u))

  pub joined_under : (b : Bool) (ps cs qs ds : List (List A)) → Under ps cs → Under qs ds → Under (together b ps qs) (joined_lines kit j b cs ds)
  joined_under false ps cs qs ds u v = all_added ps cs qs ds v u
  joined_under true ps cs qs ds u v = products_added [] [] ps cs qs ds u v ends

  empty_fits : FitsLine [] []
  empty_fits = record { each = tt; unmerged = tt; few = omega arith; weight = omega arith; some = λ t. t }

  pub none_under : (b : Bool) → Under (of_none b) (of_none b)
  none_under false = ends
  none_under true = stays [] [] tt empty_fits ends

  pub one_under : (a : A) → Q a → Under ((a ∷ []) ∷ []) ((a ∷ []) ∷ [])
  one_under a x = stays (a ∷ []) (a ∷ []) (x, tt) (record { each = (x, tt); unmerged = (tt, tt); few = omega arith; weight = omega arith; some = λ t. t }) ends

  pub under_plain : (ps cs : List (List A)) → Under ps cs → EachOf (EachOf Q) ps
  under_plain _ _ ends = tt
  under_plain _ _ (goes p x u) = (x, under_plain _ _ u)
  under_plain _ _ (stays p c x f u) = (x, under_plain _ _ u)

  pub under_few : (ps cs : List (List A)) → Under ps cs → length cs ≤ length ps
  under_few _ _ ends = omega arith
  under_few _ _ (goes p {ps = ps} {cs = cs} x u) = let k = under_few ps cs u in omega arith
  under_few _ _ (stays p c {ps = ps} {cs = cs} x f u) = let k = under_few ps cs u in omega arith

  pub under_each : (ps cs : List (List A)) → Under ps cs → EachOf (EachOf Q) cs
  under_each _ _ ends = tt
  under_each _ _ (goes p x u) = under_each _ _ u
  under_each _ _ (stays p c x f u) = (f.each, under_each _ _ u)

  pub under_unmerged : (ps cs : List (List A)) → Under ps cs → EachOf (IsUnmerged (Keeps kit j Q w light)) cs
  under_unmerged _ _ ends = tt
  under_unmerged _ _ (goes p x u) = under_unmerged _ _ u
  under_unmerged _ _ (stays p c x f u) = (f.unmerged, under_unmerged _ _ u)

  -- where the plain lists have atoms, so have the clean ones
  pub under_filled : (ps cs : List (List A)) → Under ps cs → EachOf (λ p. 1 ≤ length p) ps → EachOf (λ c. 1 ≤ length c) cs
  under_filled _ _ ends h = tt
  under_filled _ _ (goes p x u) h = under_filled _ _ u h.1
  under_filled _ _ (stays p c x f u) h = (f.some h.0, under_filled _ _ u h.1)
