-- What an atom and a list of atoms become that are put into a list in which no two atoms merge.
use Rattle.std.proofs.Common.{◌≡◌, ℕ, zero, suc, ◌+◌, ◌≤◌, Option, None, Some, List, [], ◌∷◌, ◌++◌, length, refl, ap, arith, length-append}
use Rattle.logic_meaning.specs.Some.{EachOf}
use Rattle.logic_meaning.specs.declared.junction.Junction.{Junction}
use Rattle.normal_atoms.specs.Computed.{Merging, Settled, Into, Kept}
use Rattle.shape_theory.specs.Kit.{Kit}
use Rattle.shape_theory.specs.Lines.{Met, Alone, Void, Meets, met, resolved, partner, insert, insert_into, insert_all}
use Rattle.logic_meaning.specs.Clean.{IsUnmerged}

pub each_append : {X : Type 0} (P : X → Type 0) (xs ys : List X) → EachOf P xs → EachOf P ys → EachOf P (xs ++ ys)
each_append P [] ys h k = k
each_append P (x ∷ xs) ys h k = (h.0, each_append P xs ys h.1 k)

pub each_map : {X : Type 0} (P Q : X → Type 0) → ((x : X) → P x → Q x) → (xs : List X) → EachOf P xs → EachOf Q xs
each_map P Q f [] h = tt
each_map P Q f (x ∷ xs) h = (f x h.0, each_map P Q f xs h.1)

module _ {A : Type 0} (w : A → ℕ) where
  -- the weights of the atoms together
  abbrev pub total : List A → ℕ
  total [] = 0
  total (a ∷ us) = w a + total us

  pub total_append : (us vs : List A) → total (us ++ vs) ≡ total us + total vs
  total_append [] vs = omega arith
  total_append (a ∷ us) vs = let k = total_append us vs in omega arith

-- Q holds of merged atoms, whose weight is no more than that of the two
pub record MergesLightly {A : Type 0} (kit : Kit A) (j : Junction) (Q : A → Type 0) (w : A → ℕ) : Type 0 where
  pub keeps : (a b d : A) → Q a → Q b → kit.merge j a b ≡ Into d → Q d
  pub weight : (a b d : A) → Q a → Q b → kit.merge j a b ≡ Into d → w d ≤ w a + w b

module _ {A : Type 0} (kit : Kit A) (j : Junction) (Q : A → Type 0) (w : A → ℕ) (light : MergesLightly kit j Q w) where
  -- the two do not merge
  abbrev pub Keeps : A → A → Type 0
  Keeps a b = kit.merge j a b ≡ Kept

  -- atoms with Q, no two of which merge, no more than n and no heavier than k, and some where n is not 0
  pub record Fits (n k : ℕ) (us : List A) : Type 0 where
    pub each : EachOf Q us
    pub unmerged : IsUnmerged Keeps us
    pub few : length us ≤ n
    pub weight : total w us ≤ k
    pub some : 1 ≤ n → 1 ≤ length us

  abbrev pub FitsIf : ℕ → ℕ → Option (List A) → Type 0
  FitsIf n k None = Unit {0}
  FitsIf n k (Some us) = Fits n k us

  -- d and cs are what a becomes beside us
  pub record Becomes (a : A) (us : List A) (d : A) (cs : List A) : Type 0 where
    pub made : Q d
    pub each : EachOf Q cs
    pub beside : (b : A) → EachOf (Keeps b) us → EachOf (Keeps b) cs
    pub unmerged : IsUnmerged Keeps us → IsUnmerged Keeps cs
    pub shorter : suc (length cs) ≡ length us
    pub weight : w d + total w cs ≤ w a + total w us

  abbrev pub IsPartner : A → List A → Met A → Type 0
  IsPartner a us Alone = EachOf (λ b. Keeps b a) us
  IsPartner a us Void = Unit {0}
  IsPartner a us (Meets d cs) = Becomes a us d cs

  met_is : (a b : A) (bs : List A) → Q a → Q b → EachOf Q bs → (m : Merging A) → kit.merge j b a ≡ m → (r : Met A) → IsPartner a bs r → IsPartner a (b ∷ bs) (met m b bs r)
  met_is a b bs x y z Settled e r h = tt
  met_is a b bs x y z (Into d) e r h =
      let k = light.weight b a d y x e in
      record { made = light.keeps b a d y x e; each = z; beside = λ q t. t.1; unmerged = λ t. t.1; shorter = refl; weight = omega arith }
  met_is a b bs x y z Kept e Alone h = (e, h)
  met_is a b bs x y z Kept e Void h = tt
  met_is a b bs x y z Kept e (Meets d cs) h =
      let k = h.weight in
      record { made = h.made; each = (y, h.each); beside = λ q t. (t.0, h.beside q t.1); unmerged = λ t. (h.beside b t.0, h.unmerged t.1); shorter = ap suc h.shorter; weight = omega arith }

  pub partner_is : (a : A) (us : List A) → Q a → EachOf Q us → IsPartner a us (partner kit j a us)
  partner_is a [] x h = tt
  partner_is a (b ∷ bs) x h = met_is a b bs x h.0 h.1 (kit.merge j b a) refl (partner kit j a bs) (partner_is a bs x h.1)

  at_end : (us : List A) (a : A) → IsUnmerged Keeps us → EachOf (λ b. Keeps b a) us → IsUnmerged Keeps (us ++ a ∷ [])
  at_end [] a h k = (tt, tt)
  at_end (b ∷ us) a h k = (each_append (Keeps b) us (a ∷ []) h.0 (k.0, tt), at_end us a h.1 k.1)

  -- the result of putting a into us
  record Puts (a : A) (us vs : List A) : Type 0 where
    each : EachOf Q vs
    unmerged : IsUnmerged Keeps us → IsUnmerged Keeps vs
    few : length vs ≤ suc (length us)
    some : 1 ≤ length vs
    weight : total w vs ≤ w a + total w us

  abbrev PutsIf : A → List A → Option (List A) → Type 0
  PutsIf a us None = Unit {0}
  PutsIf a us (Some vs) = Puts a us vs

  puts_alone : (a : A) (us : List A) → Q a → EachOf Q us → EachOf (λ b. Keeps b a) us → Puts a us (us ++ a ∷ [])
  puts_alone a us x h k =
      let l = length-append us (a ∷ []) in
      let t = total_append w us (a ∷ []) in
      record { each = each_append Q us (a ∷ []) h (x, tt); unmerged = λ u. at_end us a u k; few = omega arith; some = omega arith; weight = omega arith }

  puts_again : (a d : A) (us cs : List A) → Becomes a us d cs → (o : Option (List A)) → PutsIf d cs o → PutsIf a us o
  puts_again a d us cs b None h = tt
  puts_again a d us cs b (Some vs) h =
      let s = b.shorter in
      let f = h.few in
      let x = h.weight in
      let y = b.weight in
      record { each = h.each; unmerged = λ u. h.unmerged (b.unmerged u); few = omega arith; some = h.some; weight = omega arith }

  puts : (n : ℕ) (a : A) (us : List A) → Q a → EachOf Q us → length us ≡ n → PutsIf a us (insert kit j n a us)
  puts zero a [] x h e = puts_alone a [] x h tt
  puts zero a (u ∷ us) x h e = absurd (omega arith)
  puts (suc n) a us x h e = resolve (partner kit j a us) (partner_is a us x h) (λ d cs y z l. puts n d cs y z l)
    where
      resolve : (m : Met A) → IsPartner a us m → ((d : A) (cs : List A) → Q d → EachOf Q cs → length cs ≡ n → PutsIf d cs (insert kit j n d cs)) → PutsIf a us (resolved m a us (insert kit j n))
      resolve Alone k i = puts_alone a us x h k
      resolve Void k i = tt
      resolve (Meets d cs) k i = puts_again a d us cs k (insert kit j n d cs) (i d cs k.made k.each (let s = k.shorter in omega arith))

  put_fits : (n k : ℕ) (a : A) (us : List A) → Fits n k us → (o : Option (List A)) → PutsIf a us o → FitsIf (n + 1) (k + w a) o
  put_fits n k a us h None p = tt
  put_fits n k a us h (Some vs) p =
      let f = p.few in
      let g = h.few in
      let x = p.weight in
      let y = h.weight in
      record { each = p.each; unmerged = p.unmerged h.unmerged; few = omega arith; weight = omega arith; some = λ t. p.some }

  into_fits : (n k : ℕ) (a : A) (o : Option (List A)) → Q a → FitsIf n k o → FitsIf (n + 1) (k + w a) (insert_into kit j a o)
  into_fits n k a None x h = tt
  into_fits n k a (Some us) x h = put_fits n k a us h (insert kit j (length us) a us) (puts (length us) a us x h.each refl)

  pub wider : (n k m l : ℕ) (o : Option (List A)) → n ≤ m → k ≤ l → (1 ≤ m → 1 ≤ n) → FitsIf n k o → FitsIf m l o
  wider n k m l None x y z h = tt
  wider n k m l (Some us) x y z h =
      let f = h.few in
      let g = h.weight in
      record { each = h.each; unmerged = h.unmerged; few = omega arith; weight = omega arith; some = λ t. h.some (z t) }

  pub all_fit : (n k : ℕ) (o : Option (List A)) (vs : List A) → EachOf Q vs → FitsIf n k o → FitsIf (n + length vs) (k + total w vs) (insert_all kit j o vs)
  all_fit n k o [] h f = wider n k (n + 0) (k + 0) o (omega arith) (omega arith) (λ t. omega arith) f
  all_fit n k o (a ∷ vs) h f =
      wider (n + 1 + length vs) (k + w a + total w vs) (n + suc (length vs)) (k + (w a + total w vs)) (insert_all kit j (insert_into kit j a o) vs) (omega arith) (omega arith) (λ t. omega arith)
      (all_fit (n + 1) (k + w a) (insert_into kit j a o) vs h.1 (into_fits n k a o h.0 f))
