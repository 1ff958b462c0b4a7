-- The parent of a piece, whether it has children, and the places of new nodes: what the definitions of specs/Family.antt say of a sound tree. It
-- rests on Kids, Spots and Goes, for what a step leaves of a tree, and on Pigeon. Assumes nothing.
use mathlib.Core.Path.{◌≡◌, refl, sym, ap, ◌∙◌}
use mathlib.Core.Bool.{Bool, true, false, not, ◌||◌}
use mathlib.Core.Logic.{◌⊎◌, inl, inr, ⊎_elim}
use Prim.Native.Nat.{ℕ, zero, suc, ◌+◌, ◌-◌, ◌<◌, ◌≤◌}
use native.Mathlib.Numerals.{add-one}
use native.Mathlib.Omega.{arith}
use native.Mathlib.Decide.{dec_lt}
use lib.Dec.{eqb}
use borrow.Author.Tests.{eq-eqb, ne_eqb, eqb-true}
use Rattle.piece.specs.declared.node.Datum.{Datum}
use Rattle.piece.specs.declared.node.Kind.{Kind}
use Rattle.piece.specs.declared.node.Kind.TheVariants.{Free, Part, Structure}
use Rattle.piece.specs.declared.settings.Settings.{Settings}
use Rattle.piece.specs.Row.{Row, nil, grow}
use Rattle.piece.specs.Insertion.{new_nodes}
use Rattle.lists.specs.Search.{first_from}
use Rattle.lists.proofs.Scan.{test, clash, first-from, first_holds, first-before, or_cases}
use Rattle.tree.specs.Tree.{Tree, In, At, Distinct, after, count, is_nil}
use Rattle.tree.specs.Sound.{Kinded, Children, Topped, Sound}
use Rattle.tree.specs.Booking.{Booking}
use Rattle.tree.specs.Removal.{without_last, settled, cleared}
use Rattle.tree.specs.Accepted.{Fresh}
use Rattle.tree.specs.Apart.{Removable}
use Rattle.tree.specs.Steps.{less, Kids}
use Rattle.tree.specs.Family.{holds, parent_in, parent_of, childless, unheld_from, new_place}
use Rattle.tree.proofs.Rows.{same?, in-eq, in?, at_in, in_after, in-first, in-second, count-after, in-at}
use Rattle.tree.proofs.Kept.{Alone, only, not_top, free-alone}
use Rattle.tree.proofs.RemoveKept.{settled-count}
use Rattle.tree.proofs.Bookings.{at-unique}
use Rattle.tree.proofs.Kids.{kids-in, kids_under, kids-distinct, after-apart, Spot, spot_in}
use Rattle.tree.proofs.Kids.{put, put-new, in-put, put-kids, put_count}
use Rattle.tree.proofs.Pigeon.{low, low-most, low-more, low-filled}
use Rattle.tree.proofs.Goes.{less-put, less-kids, cleared-put}
use Rattle.tree.proofs.Stays.{cleared_at}
use Rattle.tree.proofs.Spots.{topped-rooted, where-spot}

-- ---- the places of a row

or-second : (a b : Bool) → b ≡ true → (a || b) ≡ true
or-second true b e = refl
or-second false b e = e

module _ {A : Type 0} (i : ℕ) where
  pub holds-in : (w : Row A) → holds i w ≡ true → In i w
  holds-in nil e = absurd (clash e)
  holds-in (grow p d k r) e =
      ⊎_elim (λ z. inl (eqb-true i p z))
      (λ z. inr (⊎_elim (λ y. inl (holds-in k y)) (λ y. inr (holds-in r y)) (or_cases (holds i k) (holds i r) z)))
      (or_cases (eqb i p) (holds i k || holds i r) e)

  pub in-holds : (w : Row A) → In i w → holds i w ≡ true
  in-holds nil h = absurd h
  in-holds (grow p d k r) (inl e) = rw (eq-eqb i p e) refl
  in-holds (grow p d k r) (inr (inl h)) = rw (in-holds k h) (or-second (eqb i p) true refl)
  in-holds (grow p d k r) (inr (inr h)) =
      or-second (eqb i p) (holds i k || holds i r) (or-second (holds i k) (holds i r) (in-holds r h))

  pub absent-holds : (w : Row A) → (In i w → ⊥) → holds i w ≡ false
  absent-holds nil n = refl
  absent-holds (grow p d k r) n =
      rw (ne_eqb i p (λ e. n (inl e)), absent-holds k (λ h. n (inr (inl h))), absent-holds r (λ h. n (inr (inr h)))) refl

-- ---- the parent

module _ (x : ℕ) where
  parent_row : (q : ℕ) (a : Tree) (d : Datum) (l b : Tree) → (In x a → ⊥) → parent_in x q (after a (grow x d l b)) ≡ q
  parent_row q nil d l b n = rw (eq-eqb x x refl) refl
  parent_row q (grow p e k r) d l b n =
      rw (ne_eqb p x (λ z. n (inl (sym z))), absent-holds x k (λ h. n (inr (inl h)))) (parent_row q r d l b (λ h. n (inr (inr h))))

  parent-kids : (v q : ℕ) (m w : Tree) → Distinct w → Kids q m w → In x m → parent_in x v w ≡ parent_in x q m
  parent-kids v q m nil dis h i = absurd h
  parent-kids v q m (grow p d l r) dis (inl e) i =
      let j : In x l = rw e.1 at i in
      rw (ne_eqb p x (λ z. dis.not_below (in-eq l (sym z) j)), in-holds x l j, e.0, e.1) refl
  parent-kids v q m (grow p d l r) dis (inr (inl h)) i =
      let j : In x l = kids_under q m x l h i in
      rw (ne_eqb p x (λ z. dis.not_below (in-eq l (sym z) j)), in-holds x l j) (parent-kids p q m l dis.below h i)
  parent-kids v q m (grow p d l r) dis (inr (inr h)) i =
      let j : In x r = kids_under q m x r h i in
      rw (ne_eqb p x (λ z. dis.not_beside (in-eq r (sym z) j)), absent-holds x l (λ y. dis.apart x y j)) (parent-kids v q m r dis.beside h i)

-- the parent of x is the piece among whose children x stands
pub parent-spot : (limit x : ℕ) (w : Tree) → Distinct w → (s : Spot x w) → parent_of limit x w ≡ s.parent
parent-spot limit x w dis s =
    let c = grow x s.datum s.below s.behind in
    let m = after s.before c in
    parent-kids x limit s.parent m w dis s.kids (in-second x s.before c (inl refl))
    ∙ parent_row x s.parent s.before s.datum s.below s.behind
    (λ i. after-apart s.before c (kids-distinct s.parent m w dis s.kids) x i (inl refl))

-- what has children is a structure
kind-solid : (a : Kind) (d : Datum) (k r : Tree) → (k ≡ nil → ⊥) → Kinded a d k r → a ≡ Structure
kind-solid Free d k r n h = absurd (n h.childless)
kind-solid Part d k r n h = absurd (n h.childless)
kind-solid Structure d k r n h = refl

module _ (settings : Settings) (q : ℕ) (m : Tree) (n : m ≡ nil → ⊥) where
  abbrev Solid : Tree → Type 0
  Solid w = (e : Datum) × At q e w × (e.kind ≡ Structure)

  children-solid : (c : Datum) (w : Tree) → Children settings c w → Kids q m w → Solid w
  children-solid c nil h g = absurd g
  children-solid c (grow p d l r) h (inl z) = (d, inl (z.0, refl), kind-solid d.kind d l r (λ y. n (z.1 ∙ y)) h.kinded)
  children-solid c (grow p d l r) h (inr (inl g)) = let o = children-solid d l h.below g in (o.0, inr (inl o.1), o.2)
  children-solid c (grow p d l r) h (inr (inr g)) = let o = children-solid c r h.beside g in (o.0, inr (inr o.1), o.2)

  topped-solid : (w : Tree) → Topped settings w → Kids q m w → Solid w
  topped-solid nil h g = absurd g
  topped-solid (grow p d l r) h (inl z) = (d, inl (z.0, refl), h.0.kind)
  topped-solid (grow p d l r) h (inr (inl g)) = let o = children-solid d l h.1 g in (o.0, inr (inl o.1), o.2)
  topped-solid (grow p d l r) h (inr (inr g)) = absurd (rw h.0.alone at g)

module _ (limit : ℕ) (settings : Settings) (w : Tree) (sound : Sound limit settings w) (x : ℕ) (i : In x w) (n : x ≡ 0 → ⊥) where
  -- where x stands: under the parent q, after the siblings a and before b
  abbrev s : Spot x w
  s = spot_in x w (topped-rooted settings w sound.topped) i n

  abbrev q : ℕ
  q = parent_of limit x w

  abbrev a : Tree
  a = s.before

  abbrev b : Tree
  b = s.behind

  abbrev row : Tree
  row = after a (grow x s.datum s.below b)

  under : Kids q row w
  under = rw (parent-spot limit x w sound.distinct s) s.kids

  pub parent-held : In (parent_of limit x w) w
  parent-held = kids-in q row w under

  pub parent-low : parent_of limit x w < limit
  parent-low = sound.placed q parent-held

  pub parent-solid : (e : Datum) → At (parent_of limit x w) e w → e.kind ≡ Structure
  parent-solid e h =
      let o = topped-solid settings q row some w sound.topped under in
      ap (λ (z : Datum). z.kind) (at-unique q o.0 e w sound.distinct o.1 h) ∙ o.2
    where
      some : row ≡ nil → ⊥
      some z = let c = count-after a (grow x s.datum s.below b) in let y : count row ≡ 0 = rw z refl in omega arith

  -- it stays, as it is, when x has gone
  pub parent-left : In (parent_of limit x w) (less x w)
  parent-left = kids-in q (after a b) (less x w) (less-kids q x a s.datum s.below b w sound.distinct under)

  -- if x has no children, x goes alone
  module _ (leaf : s.below ≡ nil) where
    less-is : less x w ≡ put q (after a b) w
    less-is = less-put q x a s.datum s.below b w sound.distinct under

    leaf-count : count (less x w) + 1 ≡ count w
    leaf-count =
        let c : count (put q (after a b) w) + count row ≡ count w + count (after a b) =
        put_count q (after a b) row w sound.distinct under
        in
        let o : count s.below ≡ 0 = rw leaf refl in
        let y = count-after a (grow x s.datum s.below b) in
        let z = count-after a b in
        rw less-is (omega arith)

    leaf-other : (j : ℕ) → In j w → (j ≡ x → ⊥) → In j (less x w)
    leaf-other j y m =
        rw less-is
        (⊎_elim (λ z. put-new q (after a b) row j w sound.distinct under (stays z))
        (in-put q (after a b) row j w sound.distinct under y)
        (in? j row))
      where
        stays : In j row → In j (after a b)
        stays z =
            ⊎_elim (in-first j a b)
            (λ o. ⊎_elim (λ e. absurd (m e)) (λ u. ⊎_elim (λ v. absurd (rw leaf at v)) (in-second j a b) u) o)
            (in_after j a (grow x s.datum s.below b) z)

  -- and when the free piece at the end of its row has gone too
  abbrev rest : Tree
  rest = after a (without_last b)

  cleared-is : cleared x w ≡ put q rest w
  cleared-is = cleared-put q x a s.datum s.below b w sound.distinct under

  pub parent-cleared : In (parent_of limit x w) (cleared x w)
  parent-cleared = rw cleared-is (kids-in q rest (put q rest w) (put-kids q rest row w sound.distinct under))

  pub parent-cleared-at : (e : Datum) → At (parent_of limit x w) e w → At (parent_of limit x w) e (cleared x w)
  parent-cleared-at e h =
      let o = in-at q (cleared x w) parent-cleared in
      rw (at-unique q o.0 e w sound.distinct (cleared_at q o.0 x w o.1) h) o.1

  -- what is left then is less than there was
  pub cleared-count : count (cleared x w) < count w
  unfolding settled
  cleared-count =
      let c : count (put q rest w) + count row ≡ count w + count rest = put_count q rest row w sound.distinct under in
      let o = rw count-after at (settled-count 0 0 s.datum b) in
      let y = count-after a (grow x s.datum s.below b) in
      let z = count-after a (without_last b) in
      rw cleared-is (omega arith)

-- ---- whether a piece has children

childless-absent : (q : ℕ) (w : Tree) → (In q w → ⊥) → childless q w ≡ false
childless-absent q nil n = refl
childless-absent q (grow p d k r) n =
    rw (ne_eqb p q (λ e. n (inl (sym e))), childless-absent q k (λ h. n (inr (inl h))), childless-absent q r (λ h. n (inr (inr h)))) refl

or-none : (b : Bool) → (b || false) ≡ b
or-none true = refl
or-none false = refl

-- a piece is childless if its children are none
pub childless-is : (q : ℕ) (k w : Tree) → Distinct w → Kids q k w → childless q w ≡ is_nil k
childless-is q k nil dis h = absurd h
childless-is q k (grow p d l r) dis (inl e) = rw (eq-eqb p q (sym e.0), e.1) refl
childless-is q k (grow p d l r) dis (inr (inl h)) =
    let i = kids-in q k l h in
    rw (ne_eqb p q (λ e. dis.not_below (in-eq l (sym e) i)), childless-absent q r (dis.apart q i), or-none (childless q l)) (childless-is q k l dis.below h)
childless-is q k (grow p d l r) dis (inr (inr h)) =
    let i = kids-in q k r h in
    rw (ne_eqb p q (λ e. dis.not_beside (in-eq r (sym e) i)), childless-absent q l (λ y. dis.apart q y i)) (childless-is q k r dis.beside h)

-- ---- the places of new nodes

module _ (limit : ℕ) (v : Tree) where
  abbrev unheld : ℕ → Bool
  unheld p = not (holds p v)

  held_in : (j : ℕ) → not (holds j v) ≡ false → In j v
  held_in j e = ⊎_elim (λ z. holds-in j v z) (λ z. absurd (clash (sym (rw z at e)))) (test (holds j v))

  module _ (n : ℕ) where
    unheld-from : n ≤ unheld_from limit v n
    unfolding unheld_from
    unheld-from = first-from unheld (limit - n) n

    unheld-absent : unheld_from limit v n < limit → In (unheld_from limit v n) v → ⊥
    unfolding unheld_from
    unheld-absent h y =
        let e = first_holds unheld (limit - n) n (omega (arith, first-from unheld (limit - n) n)) in
        clash (rw (in-holds (first_from unheld (limit - n) n) v y) at e)

    unheld-first : (j : ℕ) → n ≤ j → j < unheld_from limit v n → In j v
    unfolding unheld_from
    unheld-first j l h = held_in j (first-before unheld (limit - n) n j l h)

  -- "A new node takes the lowest unheld place": they rise, none is held, and each lower place is held or taken by an earlier node
  new-place-next : (i : ℕ) → new_place limit v i < new_place limit v (suc i)
  new-place-next i = omega (arith, unheld-from (new_place limit v i + 1))

  pub new-place-rises : (i j : ℕ) → i < j → new_place limit v i < new_place limit v j
  new-place-rises i zero h = let no_place : ⊥ = omega arith in absurd no_place
  new-place-rises i (suc j) h = go (same? i j) (new-place-rises i j)
    where
      go : (i ≡ j) ⊎ (i ≡ j → ⊥) → (i < j → new_place limit v i < new_place limit v j) → new_place limit v i < new_place limit v (suc j)
      go (inl e) ih = rw e (new-place-next j)
      go (inr o) ih = let a = ih (omega arith) in let b = new-place-next j in omega arith

  pub new-place-absent : (i : ℕ) → new_place limit v i < limit → In (new_place limit v i) v → ⊥
  new-place-absent zero = unheld-absent 0
  new-place-absent (suc i) = unheld-absent (new_place limit v i + 1)

  pub new-place-least : (i j : ℕ) → j < new_place limit v i → In j v ⊎ ((h : ℕ) × (h < i) × (new_place limit v h ≡ j))
  new-place-least zero j l = inl (unheld-first 0 j (omega arith) l)
  new-place-least (suc i) j l = go (same? j (new_place limit v i)) (dec_lt j (new_place limit v i)) (new-place-least i j)
    where
      go : (j ≡ new_place limit v i) ⊎ (j ≡ new_place limit v i → ⊥) → Dec (j < new_place limit v i)
          → (j < new_place limit v i → In j v ⊎ ((h : ℕ) × (h < i) × (new_place limit v h ≡ j)))
          → In j v ⊎ ((h : ℕ) × (h < suc i) × (new_place limit v h ≡ j))
      go (inl e) b ih = inr (i, omega arith, sym e)
      go (inr o) (yes b) ih = ⊎_elim inl (λ g. inr (g.0, omega arith, g.2)) (ih b)
      go (inr o) (no b) ih = inl (unheld-first (new_place limit v i + 1) j (omega arith) l)

  -- below one there are only the tree's places and the earlier ones
  new-place-room : (i : ℕ) → new_place limit v i ≤ low (new_place limit v i) v + i
  new-place-room zero =
      let m = unheld_from limit v 0 in let f = low-filled 0 m v (unheld-from 0) (unheld-first 0) in omega arith
  new-place-room (suc i) =
      let n = new_place limit v i in
      let m = unheld_from limit v (n + 1) in
      let ih : n ≤ low n v + i = new-place-room i in
      let f : low (n + 1) v + m ≤ low m v + (n + 1) = low-filled (n + 1) m v (unheld-from (n + 1)) (unheld-first (n + 1)) in
      let g : low n v ≤ low (n + 1) v = rw (add-one n) (low-more n v) in
      omega arith

  -- so there is room for as many as the tree leaves
  pub new-place-low : (k i : ℕ) → count v + k ≤ limit → i < k → new_place limit v i < limit
  new-place-low k i c h = omega (arith, new-place-room i, low-most (new_place limit v i) v)

-- ---- the places of a booking and of a removal are fresh

module _ (limit : ℕ) (settings : Settings) (w : Tree) (sound : Sound limit settings w) where
  -- a booking in the free piece d at x, which is a leaf and not the top
  module _ (x : ℕ) (d : Datum) (i : At x d w) (free : d.kind ≡ Free) where
    pub free-below : x ≡ 0 → ⊥
    free-below = not_top settings x d w sound.topped (only x d w sound.distinct i) free

    abbrev here : Spot x w
    here = s limit settings w sound x (at_in x d w i) free-below

    leaf : here.below ≡ nil
    leaf = (where-spot x (Alone d) w here (free-alone settings x d w sound.topped sound.distinct i free)).1

    pub less-count : count (less x w) + 1 ≡ count w
    less-count = leaf-count limit settings w sound x (at_in x d w i) free-below leaf

    pub less_other : (j : ℕ) → In j w → (j ≡ x → ⊥) → In j (less x w)
    less_other = leaf-other limit settings w sound x (at_in x d w i) free-below leaf

    pub fresh-booking : (b : Booking) → ((j : ℕ) → j < new_nodes b.shape → b.place j ≡ new_place limit (less x w) j)
        → count w + new_nodes b.shape ≤ limit + 1 → Fresh limit x b w
    fresh-booking b at_new room = record { placed = low_of; apart = apart_of; unheld = unheld-of }
      where
        low-new : (j : ℕ) → j < new_nodes b.shape → new_place limit (less x w) j < limit
        low-new j l = new-place-low limit (less x w) (new_nodes b.shape) j (omega (arith, less-count)) l

        low_of : (j : ℕ) → j < new_nodes b.shape → b.place j < limit
        low_of j l = rw (at_new j l) (low-new j l)

        apart_of : (j k : ℕ) → j < k → k < new_nodes b.shape → b.place j ≡ b.place k → ⊥
        apart_of j k l m e =
            let u = new-place-rises limit (less x w) j k l in
            let y = at_new j (omega arith) in
            let z = at_new k m in
            omega arith

        unheld-of : (j : ℕ) → j < new_nodes b.shape → In (b.place j) w → b.place j ≡ x
        unheld-of j l y = ⊎_elim (λ e. e) (λ o. absurd (held o)) (same? (b.place j) x)
          where
            held : (b.place j ≡ x → ⊥) → ⊥
            held o =
                new-place-absent limit (less x w) j (low-new j l) (in-eq (less x w) (at_new j l) (less_other (b.place j) y o))

  -- a removal of the piece at x
  pub fresh-removal : (x : ℕ) → Removable x w
      → (new_place limit (cleared x w) 0 < limit) × (In (new_place limit (cleared x w) 0) (cleared x w) → ⊥)
  fresh-removal x z =
      let c = cleared-count limit settings w sound x (at_in x z.piece w z.there) z.below in
      let l = new-place-low limit (cleared x w) 1 0 (omega (arith, sound.room)) (omega arith) in
      (l, new-place-absent limit (cleared x w) 0 l)
