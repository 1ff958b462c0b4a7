-- A sound layout is determined by its tree, its removable list, its number, its settings and its last serial.
use mathlib.Core.Path.{◌≡◌, refl, sym, ap, ◌∙◌}
use mathlib.Core.List.{List, [], ◌∷◌, ◌++◌}
use mathlib.Core.Logic.{◌⊎◌, inl, inr, ⊎_elim}
use Prim.Native.Nat.{ℕ, zero, suc, ◌-◌, ◌<◌}
use native.Mathlib.Omega.{arith}
use lib.ListN.{get_or, length, take, drop, replicate, take-append-drop}
use Rattle.piece.specs.declared.node.Datum.{Datum}
use Rattle.tree.specs.Tree.{Tree, At, count}
use Rattle.tree.specs.Figures.{part_area}
use Rattle.table.proofs.Unique.{same-table}
use Rattle.layout.specs.declared.layout.Layout.{Layout}
use Rattle.layout.specs.Check.{limit, tree}
use Rattle.layout.specs.SoundLayout.{Before, FreeList, Counted, SoundLayout, Sized}
use Rattle.layout.proofs.Listed.{entries}

-- ---- lists in order

-- x is an entry of the list
abbrev Has : ℕ → List ℕ → Type 0
Has x xs = (k : ℕ) × (k < length xs) × (get_or xs k 0 ≡ x)

-- each entry of the one is one of the other
abbrev AllOf : List ℕ → List ℕ → Type 0
AllOf xs ys = (z : ℕ) → Has z xs → Has z ys

-- an entry of a list is its first or one of the others
has-cases : (x y : ℕ) (ys : List ℕ) → Has x (y ∷ ys) → (y ≡ x) ⊎ Has x ys
has-cases x y ys h = go h.0 h.1 h.2
  where
    go : (k : ℕ) → k < length (y ∷ ys) → get_or (y ∷ ys) k 0 ≡ x → (y ≡ x) ⊎ Has x ys
    go zero b e = inl e
    go (suc k) b e = inr (k, omega arith, e)

has-later : (x y : ℕ) (ys : List ℕ) → Has x ys → Has x (y ∷ ys)
has-later x y ys h = let b = h.1 in (suc h.0, omega arith, h.2)

module _ (R : ℕ → ℕ → Type 0) (asym : (x y : ℕ) → R x y → R y x → ⊥) where
  abbrev InOrder : List ℕ → Type 0
  InOrder xs = (j k : ℕ) → j < k → k < length xs → R (get_or xs j 0) (get_or xs k 0)

  order-later : (x : ℕ) (xs : List ℕ) → InOrder (x ∷ xs) → InOrder xs
  order-later x xs o j k a b = o (suc j) (suc k) (omega arith) (omega arith)

  order-first : (x : ℕ) (xs : List ℕ) → InOrder (x ∷ xs) → (y : ℕ) → Has y xs → R x y
  order-first x xs o y h = let b = h.1 in rw h.2 at (o 0 (suc h.0) (omega arith) (omega arith))

  first-same : (x y : ℕ) (xs ys : List ℕ) → InOrder (x ∷ xs) → InOrder (y ∷ ys) → Has x (y ∷ ys) → Has y (x ∷ xs) → x ≡ y
  first-same x y xs ys o u h g =
      ⊎_elim sym (λ a. ⊎_elim (λ e. e) (λ b. absurd (asym x y (order-first x xs o y b) (order-first y ys u x a))) (has-cases y x xs g))
      (has-cases x y ys h)

  has-others : (x y : ℕ) (xs ys : List ℕ) → InOrder (x ∷ xs) → x ≡ y → AllOf (x ∷ xs) (y ∷ ys) → AllOf xs ys
  has-others x y xs ys o e f z h =
      let r = order-first x xs o z h in
      let same : x ≡ z → Has z ys = λ q. let s : R z z = rw q at r in absurd (asym z z s s) in
      ⊎_elim (λ q. same (e ∙ q)) (λ g. g) (has-cases z y ys (f z (has-later z x xs h)))

  -- two lists in order with the same entries are the same
  pub same-order : (xs ys : List ℕ) → InOrder xs → InOrder ys → AllOf xs ys → AllOf ys xs → xs ≡ ys
  same-order [] [] o u f g = refl
  same-order [] (y ∷ ys) o u f g = let h = g y (0, omega arith, refl) in let b = h.1 in let no-entry : ⊥ = omega arith in absurd no-entry
  same-order (x ∷ xs) [] o u f g = let h = f x (0, omega arith, refl) in let b = h.1 in let no-entry : ⊥ = omega arith in absurd no-entry
  same-order (x ∷ xs) (y ∷ ys) o u f g =
      let e = first-same x y xs ys o u (f x (0, omega arith, refl)) (g y (0, omega arith, refl)) in
      let r =
      same-order xs ys (order-later x xs o) (order-later y ys u) (has-others x y xs ys o e f) (has-others y x ys xs u (sym e) g)
      in
      λ i. e i ∷ r i

-- ---- the free list

before-asym : (d e : Datum) → Before d e → Before e d → ⊥
before-asym d e (inl a) (inl b) = omega arith
before-asym d e (inl a) (inr b) = omega arith
before-asym d e (inr a) (inl b) = omega arith
before-asym d e (inr a) (inr b) = omega arith

module _ (w : Tree) where
  -- pieces stand at both places, and what stands at the one comes before what stands at the other
  abbrev Ahead : ℕ → ℕ → Type 0
  Ahead p q = ((d : Datum) × At p d w) × ((e : Datum) × At q e w) × ((d e : Datum) → At p d w → At q e w → Before d e)

  ahead-asym : (p q : ℕ) → Ahead p q → Ahead q p → ⊥
  ahead-asym p q a b =
      let d = a.0 in
      let e = a.1 in
      before-asym d.0 e.0 (a.2 d.0 e.0 d.1 e.1) (b.2 e.0 d.0 e.1 d.1)

  free-order : (xs : List ℕ) → FreeList w xs → InOrder Ahead ahead-asym xs
  free-order xs f j k a b =
      let x = f.holding.each j (omega arith) in
      let y = f.holding.each k b in
      ((x.0, x.1), (y.0, y.1), f.order j k a b)

  free-has : (xs ys : List ℕ) → FreeList w xs → FreeList w ys → AllOf xs ys
  free-has xs ys f g z h =
      let x = f.holding.each h.0 h.1 in
      g.holding.all z x.0 (rw h.2 at x.1) x.2

  -- a tree has one free list
  pub free-list-unique : (xs ys : List ℕ) → FreeList w xs → FreeList w ys → xs ≡ ys
  free-list-unique xs ys f g =
      same-order Ahead ahead-asym xs ys (free-order xs f) (free-order ys g) (free-has xs ys f g) (free-has ys xs g f)

-- ---- the layout

-- the entries that count, and how long a list is, determine it and their number
same-list : (a b : List ℕ) (n m : ℕ) → length a ≡ limit → length b ≡ limit → Counted a n → Counted b m → take n a ≡ take m b
    → (n ≡ m) × (a ≡ b)
same-list a b n m la lb ca cb e = (count_same, sym (take-append-drop n a) ∙ (parts ∙ take-append-drop m b))
  where
    count_same : n ≡ m
    count_same =
        let x = entries a n (omega arith) in
        let y = entries b m (omega arith) in
        let z = ap length e in
        omega arith

    tails : drop n a ≡ drop m b
    tails = ca.tail ∙ (ap (λ (k : ℕ). replicate (limit - k) 0) count_same ∙ sym cb.tail)

    parts : take n a ++ drop n a ≡ take m b ++ drop m b
    parts i = e i ++ tails i

pub unique-layout : (l m : Layout) → Sized l → Sized m → SoundLayout l → SoundLayout m → tree l ≡ tree m
    → take l.frees l.free ≡ take m.frees m.free → take l.removables l.removable ≡ take m.removables m.removable
    → l.number ≡ m.number → l.settings ≡ m.settings → l.serial ≡ m.serial → l ≡ m
unique-layout l m sl sm a b same free removable number settings serial =
    λ i.
    record {
      nodes = nodes i;
      free = frees.1 i;
      removable = removables.1 i;
      held = held i;
      frees = frees.0 i;
      removables = removables.0 i;
      used = used i;
      serial = serial i;
      number = number i;
      settings = settings i;
    }
  where
    nodes : l.nodes ≡ m.nodes
    nodes = same-table limit l.nodes m.nodes (tree m) (rw same at a.holds) b.holds

    frees : (l.frees ≡ m.frees) × (l.free ≡ m.free)
    frees = same-list l.free m.free l.frees m.frees sl.free sm.free a.free_tail b.free_tail free

    removables : (l.removables ≡ m.removables) × (l.removable ≡ m.removable)
    removables =
        same-list l.removable m.removable l.removables m.removables sl.removable sm.removable a.removable_tail b.removable_tail
        removable

    held : l.held ≡ m.held
    held = a.held ∙ (ap (λ (w : Tree). count w) same ∙ sym b.held)

    used : l.used ≡ m.used
    used = a.used ∙ (ap (λ (w : Tree). part_area w) same ∙ sym b.used)

-- the free list need not be given
pub determined-layout : (l m : Layout) → Sized l → Sized m → SoundLayout l → SoundLayout m → tree l ≡ tree m
    → take l.removables l.removable ≡ take m.removables m.removable
    → l.number ≡ m.number → l.settings ≡ m.settings → l.serial ≡ m.serial → l ≡ m
determined-layout l m sl sm a b same =
    unique-layout l m sl sm a b same
    (free-list-unique (tree m) (take l.frees l.free) (take m.frees m.free) (rw same at a.free) b.free)
