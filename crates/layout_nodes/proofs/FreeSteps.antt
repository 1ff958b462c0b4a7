-- Document 01, "Sound layout": the free list, "greatest area first, equal areas by rising serial", stays one when a new free piece is put in
-- where it belongs, and when pieces are cut out. Assumes nothing.
use mathlib.Core.Path.{◌≡◌, refl, sym, ap, ◌∙◌}
use mathlib.Core.List.{List, [], ◌∷◌}
use mathlib.Core.Logic.{◌⊎◌, inl, inr, ⊎_elim}
use Prim.Native.Nat.{ℕ, ◌<◌, ◌≤◌}
use native.Mathlib.Omega.{arith}
use native.Mathlib.Decide.{ℕ_discrete}
use lib.ListN.{get_or, length}
use Rattle.piece.specs.declared.node.Datum.{Datum}
use Rattle.piece.specs.declared.node.Kind.TheVariants.{Free}
use Rattle.piece.specs.Sides.{area}
use Rattle.tree.specs.ListSteps.{omit, omit_all, berth, put, Names}
use Rattle.tree.specs.Pieces.{Pieces, Before, Holding, FreeOf}
use Rattle.tree.proofs.ListSteps.{Orderly, same-orderly, cut-orderly}
use Rattle.tree.proofs.ListSteps.{Up, down-of, up-side, up-order, Wider, down-in, berth-most, berth-holds, berth-before, put-wider}
use Rattle.layout_nodes.proofs.HoldingSteps.{holding-same, holding-cut, holding-apart, holding-wider}

abbrev IsFree : Datum → Type 0
IsFree d = d.kind ≡ Free

-- what stands with a free piece at one place is free
abbrev Alike : Pieces → Type 0
Alike A = (i : ℕ) (e f : Datum) → A i e → A i f → IsFree f → IsFree e

alike : (A : Pieces) → ((i : ℕ) (e f : Datum) → A i e → A i f → e ≡ f) → Alike A
alike A one i e f y z q = ap (λ (n : Datum). n.kind) (one i e f y z) ∙ q

-- the pieces at the entries of a list that holds the free pieces are free
free-at : (A : Pieces) (xs : List ℕ) → Alike A → Holding IsFree A xs → (k : ℕ) → k < length xs → (e : Datum) → A (get_or xs k 0) e → IsFree e
free-at A xs like h k b e y = let g = h.each k b in like (get_or xs k 0) e g.0 y g.1 g.2

-- ---- the same pieces, or fewer

-- what is left of the list is in its order
left : (A A' : Pieces) (xs ys : List ℕ)
    → ((i : ℕ) (e : Datum) → A' i e → e.kind ≡ Free → A i e)
    → Alike A' → Orderly xs ys → Holding IsFree A' ys → FreeOf A xs → FreeOf A' ys
left A A' xs ys back like orderly h f = record { holding = h; order = order }
  where
    order : (i j : ℕ) → i < j → j < length ys → (d e : Datum) → A' (get_or ys i 0) d → A' (get_or ys j 0) e → Before d e
    order i j a b d e y z =
        let o = orderly i j a b in
        f.order o.0 o.1 o.2 o.3 d e
        (rw o.4 at (back (get_or ys i 0) d y (free-at A' ys like h i (omega arith) d y)))
        (rw o.5 at (back (get_or ys j 0) e z (free-at A' ys like h j b e z)))

-- A' has the free pieces of A, and those alone
pub free-same : (A A' : Pieces) (xs : List ℕ)
    → ((i : ℕ) (e : Datum) → A i e → e.kind ≡ Free → A' i e)
    → ((i : ℕ) (e : Datum) → A' i e → e.kind ≡ Free → A i e)
    → ((i : ℕ) (e f : Datum) → A' i e → A' i f → e ≡ f)
    → FreeOf A xs → FreeOf A' xs
free-same A A' xs old back one f =
    left A A' xs xs back (alike A' one) (same-orderly xs) (holding-same IsFree A A' xs old back f.holding) f

less : (A A' : Pieces) (x : ℕ) (xs : List ℕ)
    → ((i : ℕ) (e : Datum) → A i e → e.kind ≡ Free → (i ≡ x → ⊥) → A' i e)
    → ((i : ℕ) (e : Datum) → A' i e → e.kind ≡ Free → A i e)
    → ((e : Datum) → A' x e → e.kind ≡ Free → ⊥)
    → Alike A' → FreeOf A xs → FreeOf A' (omit xs x)
less A A' x xs old back gone like f =
    left A A' xs (omit xs x) back like (cut-orderly xs x)
    (holding-cut IsFree A A' x xs old (λ i e y q. (back i e y q, λ s. gone e (rw s at y) q)) f.holding) f

-- A' has the free pieces of A but for the one at x; what stands there may have become another kind
pub free-cut : (A A' : Pieces) (x : ℕ) (xs : List ℕ)
    → ((i : ℕ) (e : Datum) → A i e → e.kind ≡ Free → (i ≡ x → ⊥) → A' i e)
    → ((i : ℕ) (e : Datum) → A' i e → e.kind ≡ Free → A i e)
    → ((e : Datum) → A' x e → e.kind ≡ Free → ⊥)
    → ((i : ℕ) (e f : Datum) → A' i e → A' i f → e ≡ f)
    → FreeOf A xs → FreeOf A' (omit xs x)
free-cut A A' x xs old back gone one = less A A' x xs old back gone (alike A' one)

-- several places; half way through, the pieces are the free ones of A but for the places that are done
pub free-cut-all : (A A' : Pieces) (ps xs : List ℕ)
    → ((i : ℕ) (e : Datum) → A i e → e.kind ≡ Free → (Names i ps → ⊥) → A' i e)
    → ((i : ℕ) (e : Datum) → A' i e → e.kind ≡ Free → A i e)
    → ((i : ℕ) (e : Datum) → A' i e → e.kind ≡ Free → Names i ps → ⊥)
    → ((i : ℕ) (e f : Datum) → A' i e → A' i f → e ≡ f)
    → FreeOf A xs → FreeOf A' (omit_all xs ps)
free-cut-all A A' [] xs old back gone one f = free-same A A' xs (λ i e y q. old i e y q (λ n. n)) back one f
free-cut-all A A' (p ∷ ps) xs old back gone one f =
    let B : Pieces = λ i e. A i e × (i ≡ p → ⊥) × IsFree e in
    free-cut-all B A' ps (omit xs p)
    (λ i e y q n. old i e y.0 q (λ m. ⊎_elim y.1 n m))
    (λ i e y q. (back i e y q, (λ s. gone i e y q (inl s)), q))
    (λ i e y q n. gone i e y q (inr n)) one
    (less A B p xs (λ i e y q o. (y, o, q)) (λ i e y q. y.0) (λ e y q. y.1 refl) (λ i e g y z q. y.2) f)

-- ---- a piece is put in

-- A' has the free pieces of A, and d at p; at p there may have stood a piece of another kind. The areas are those of the free pieces.
pub free-put : (A A' : Pieces) (areas : ℕ → ℕ) (p : ℕ) (d : Datum) (xs : List ℕ)
    → ((i : ℕ) (e : Datum) → A i e → e.kind ≡ Free → A' i e)
    → ((i : ℕ) (e : Datum) → A' i e → e.kind ≡ Free → A i e ⊎ ((i ≡ p) × (e ≡ d)))
    → A' p d → d.kind ≡ Free
    → ((e : Datum) → A p e → e.kind ≡ Free → ⊥)
    → ((i : ℕ) (e : Datum) → A i e → e.kind ≡ Free → e.serial < d.serial)
    → ((i : ℕ) (e f : Datum) → A i e → A i f → e ≡ f)
    → ((i : ℕ) (e f : Datum) → A' i e → A' i f → e ≡ f)
    → ((i : ℕ) (e : Datum) → A' i e → e.kind ≡ Free → areas i ≡ area e.size)
    → FreeOf A xs → FreeOf A' (put areas xs p)
free-put A A' areas p d xs old split there free fresh later one one' sized f = record { holding = holding; order = order }
  where
    k : ℕ
    k = berth areas xs p

    ys : List ℕ
    ys = put areas xs p

    v : Wider k p xs ys
    v = put-wider areas xs p

    holding : Holding IsFree A' ys
    holding = holding-wider IsFree A A' p d old split there free fresh k xs ys v f.holding

    -- the pieces of the old list are free, and no greater or smaller than the areas say
    old-free : (i : ℕ) → i < length xs → (e : Datum) → A (get_or xs i 0) e → IsFree e
    old-free = free-at A xs (alike A one) f.holding

    read : (i : ℕ) → i < length xs → (e : Datum) → A (get_or xs i 0) e → areas (get_or xs i 0) ≡ area e.size
    read i b e y = let q = old-free i b e y in sized (get_or xs i 0) e (old (get_or xs i 0) e y q) q

    -- what stands at the new place is the new piece
    new : (j : ℕ) → (e : Datum) → A' (get_or ys j 0) e → j ≡ k → e ≡ d
    new j e y s = one' p e d (rw (ap (λ (n : ℕ). get_or ys n 0) s ∙ v.here) at y) there

    -- and what stands at another was there
    was : (i j : ℕ) → Up k i j → j < length ys → (e : Datum) → A' (get_or ys j 0) e → A (get_or xs i 0) e
    was i j u b e y =
        let apart = holding-apart IsFree A A' p d old split there free fresh xs f.holding i (down-in k p xs ys v i j u b) in
        let q = free-at A' ys (alike A' one') holding j b e y in
        rw (v.moved i j u) at (⊎_elim (λ a. a) (λ a. absurd (apart (sym (v.moved i j u) ∙ a.0))) (split (get_or ys j 0) e y q))

    -- the entries before k come before the new piece
    ahead : (i : ℕ) → i < k → (a : Datum) → A (get_or xs i 0) a → Before a d
    ahead i h a y =
        let m = berth-most areas xs p in
        let b : i < length xs = omega arith in
        let l = later (get_or xs i 0) a y (old-free i b a y) in
        let c = berth-before areas xs p i h in
        let g : area d.size ≤ area a.size = let r = read i b a y in let s = sized p d there free in omega arith in
        go g l (ℕ_discrete (area a.size) (area d.size))
      where
        go : area d.size ≤ area a.size → a.serial < d.serial → Dec (area a.size ≡ area d.size) → Before a d
        go g l (yes e) = inr (e, l)
        go g l (no e) = inl (omega arith)

    -- the entry at k has a smaller area
    behind : k < length xs → (e : Datum) → A (get_or xs k 0) e → area e.size < area d.size
    behind b e y =
        let c = berth-holds areas xs p b in
        let r = read k b e y in
        let s = sized p d there free in
        omega arith

    -- those from k on come after it
    follows : (i : ℕ) → k ≤ i → i < length xs → (a : Datum) → A (get_or xs i 0) a → Before d a
    follows i h b a y = go (ℕ_discrete i k)
      where
        under : (e : Datum) → area e.size < area d.size → Before e a → Before d a
        under e m (inl n) = inl (omega arith)
        under e m (inr n) = inl (omega arith)

        go : Dec (i ≡ k) → Before d a
        go (yes e) = inl (behind (omega arith) a (rw e at y))
        go (no e) =
            let c : k < length xs = omega arith in
            let g = f.holding.each k c in
            under g.0 (behind c g.0 g.1) (f.order k i (omega arith) b g.0 a g.1 y)

    order : (i j : ℕ) → i < j → j < length ys → (a b : Datum) → A' (get_or ys i 0) a → A' (get_or ys j 0) b → Before a b
    order i j h c a b y z = go (down-of k i) (down-of k j)
      where
        go : (i ≡ k) ⊎ ((m : ℕ) × Up k m i) → (j ≡ k) ⊎ ((n : ℕ) × Up k n j) → Before a b
        go (inl s) (inl t) = let no-two : ⊥ = omega arith in absurd no-two
        go (inl s) (inr t) =
            rw (new i a y s)
            (follows t.0 ((up-side k t.0 j t.1).1 (omega arith)) (down-in k p xs ys v t.0 j t.1 c) b (was t.0 j t.1 c b z))
        go (inr s) (inl t) =
            rw (new j b z t) (ahead s.0 ((up-side k s.0 i s.1).2 (omega arith)) a (was s.0 i s.1 (omega arith) a y))
        go (inr s) (inr t) =
            f.order s.0 t.0 ((up-order k s.0 i t.0 j s.1 t.1).1 h) (down-in k p xs ys v t.0 j t.1 c) a b
            (was s.0 i s.1 (omega arith) a y) (was t.0 j t.1 c b z)
