-- What the new nodes of a row bring to the removable list: each part and each structure of the row once, and the node that the row hangs under if
-- it had no child before. It rests on what a row is built of: structures have children, parts and free pieces have none.
use mathlib.Core.Path.{◌≡◌, refl, sym, ap, ◌∙◌, subst}
use mathlib.Core.Bool.{Bool, true, false, false≢true}
use mathlib.Core.List.{List, [], ◌∷◌, ◌++◌}
use mathlib.Core.Logic.{◌⊎◌, inl, inr, ⊎_elim}
use Prim.Native.Nat.{ℕ}
use native.Mathlib.Omega.{arith}
use Rattle.piece.specs.declared.orientation.Orientation.{Orientation}
use Rattle.piece.specs.declared.size.Size.{Size}
use Rattle.piece.specs.declared.node.Datum.{Datum}
use Rattle.piece.specs.declared.node.Kind.{Kind}
use Rattle.piece.specs.declared.node.Kind.TheVariants.{Free, Part, Structure}
use Rattle.piece.specs.declared.insertion_blueprint.InsertionShape.{InsertionShape}
use Rattle.piece.specs.declared.insertion_blueprint.InsertionShape.TheVariants.{AlongCurrentCut, AcrossCurrentCut, AlongThenAcross, AcrossThenAlong}
use Rattle.piece.specs.Row.{nil, grow}
use Rattle.piece.specs.Insertion.{block_of, table, new_nodes}
use Rattle.piece.specs.Kinds.{is_free, is_part}
use Rattle.tree.specs.Tree.{Tree, In, At, Distinct, count}
use Rattle.tree.specs.Booking.{Booking, planted, block}
use Rattle.tree.specs.ListSteps.{Names}
use Rattle.tree.specs.Enrolment.{when, enrolled}
use Rattle.tree.proofs.Rows.{in-eq, at_in}
use Rattle.tree.proofs.Blocks.{block-count}
use Rattle.tree.proofs.Leaving.{names-cases, names-first, names-second}

-- ---- the places that a list names

module _ (i : ℕ) where
  names-when : (b : Bool) (p : ℕ) → Names i (when b p) → (b ≡ true) × (i ≡ p)
  names-when true p (inl e) = (refl, e)
  names-when true p (inr n) = absurd n
  names-when false p n = absurd n

-- no place is named twice
abbrev pub Once : List ℕ → Type 0
Once [] = Unit {0}
Once (p ∷ ps) = (Names p ps → ⊥) × Once ps

once-both : (xs ys : List ℕ) → Once xs → Once ys → ((i : ℕ) → Names i xs → Names i ys → ⊥) → Once (xs ++ ys)
once-both [] ys u v n = v
once-both (p ∷ xs) ys u v n =
    ((λ m. ⊎_elim u.0 (n p (inl refl)) (names-cases p xs ys m)), once-both xs ys u.1 v (λ i a c. n i (inr a) c))

once-when : (b : Bool) (p : ℕ) → Once (when b p)
once-when true p = ((λ n. n), tt)
once-when false p = tt

-- ---- what a row is built of

-- a piece of this kind has these children
abbrev Housed : Kind → Tree → Type 0
Housed Free k = k ≡ nil
Housed Part k = k ≡ nil
Housed Structure k = k ≡ nil → ⊥

abbrev pub Built : Tree → Type 0
Built nil = Unit {0}
Built (grow p d k r) = Housed d.kind k × Built k × Built r

-- a part or a structure of the row, or below it, stands at i
abbrev pub Solid : ℕ → Tree → Type 0
Solid i r = (e : Datum) × At i e r × (is_free e.kind ≡ false)

pub solid-in : (i : ℕ) (r : Tree) → Solid i r → In i r
solid-in i r s = at_in i s.0 r s.1

part-solid : (κ : Kind) → is_part κ ≡ true → is_free κ ≡ false
part-solid Free e = absurd (false≢true e)
part-solid Part e = refl
part-solid Structure e = refl

-- ---- what it brings to the list

-- the node that a row hangs under, if it had no child
pub enrolled-parent : (r : Tree) → (r ≡ nil → ⊥) → (q : ℕ) → Names q (enrolled q true r)
enrolled-parent nil n q = absurd (n refl)
enrolled-parent (grow p d k r) n q = names-second q (when (is_part d.kind) p) _ (inl refl)

-- what has a node below it is no free piece
housed-solid : (κ : Kind) (k : Tree) (p i : ℕ) → Housed κ k → Names i (enrolled p true k) → is_free κ ≡ false
housed-solid Free k p i h n = absurd (rw h at n)
housed-solid Part k p i h n = refl
housed-solid Structure k p i h n = refl

-- a first piece, what is below it, and its later siblings
named : (p : ℕ) (d : Datum) (k r : Tree) (q : ℕ) (none : Bool) (i : ℕ) → Housed d.kind k
    → (Names i (enrolled p true k) → ((true ≡ true) × (i ≡ p)) ⊎ Solid i k)
    → (Names i (enrolled q false r) → ((false ≡ true) × (i ≡ q)) ⊎ Solid i r)
    → Names i (enrolled q none (grow p d k r)) → ((none ≡ true) × (i ≡ q)) ⊎ Solid i (grow p d k r)
named p d k r q none i h f g n =
    ⊎_elim (λ z. let y = names-when i (is_part d.kind) p z in inr (d, inl (y.1, refl), part-solid d.kind y.0))
    (λ m. ⊎_elim (λ z. inl (names-when i none q z)) (λ l. ⊎_elim below later (names-cases i (enrolled p true k) (enrolled q false r) l))
    (names-cases i (when none q) _ m)) (names-cases i (when (is_part d.kind) p) _ n)
  where
    below : Names i (enrolled p true k) → ((none ≡ true) × (i ≡ q)) ⊎ Solid i (grow p d k r)
    below z =
        ⊎_elim (λ y. inr (d, inl (y.1, refl), housed-solid d.kind k p i h z)) (λ y. inr (y.0, inr (inl y.1), y.2)) (f z)

    later : Names i (enrolled q false r) → ((none ≡ true) × (i ≡ q)) ⊎ Solid i (grow p d k r)
    later z = ⊎_elim (λ y. absurd (false≢true y.0)) (λ y. inr (y.0, inr (inr y.1), y.2)) (g z)

-- nothing else is named
pub enrolled-named : (r : Tree) → Built r → (q : ℕ) (none : Bool) (i : ℕ) → Names i (enrolled q none r) → ((none ≡ true) × (i ≡ q)) ⊎ Solid i r
enrolled-named nil h q none i n = absurd n
enrolled-named (grow p d k r) h q none i n =
    named p d k r q none i h.0 (enrolled-named k h.1 p true i) (enrolled-named r h.2 q false i) n

-- a part is named when it is made, and a structure when its first child is
own-named : (κ : Kind) (p : ℕ) (k : Tree) (l m : List ℕ) → Housed κ k → is_free κ ≡ false
    → Names p (when (is_part κ) p ++ (l ++ (enrolled p true k ++ m)))
own-named Free p k l m h e = absurd (false≢true (sym e))
own-named Part p k l m h e = inl refl
own-named Structure p k l m h e = names-second p l _ (names-first p (enrolled p true k) m (enrolled-parent k h p))

pub solid-named : (r : Tree) → Built r → (q : ℕ) (none : Bool) (i : ℕ) (e : Datum) → At i e r → is_free e.kind ≡ false
    → Names i (enrolled q none r)
solid-named nil h q none i e y f = absurd y
solid-named (grow p d k r) h q none i e (inl y) f =
    rw y.0 (own-named d.kind p k (when none q) (enrolled q false r) h.0 (rw y.1 at f))
solid-named (grow p d k r) h q none i e (inr (inl y)) f =
    names-second i (when (is_part d.kind) p) _
    (names-second i (when none q) _ (names-first i (enrolled p true k) (enrolled q false r) (solid-named k h.1 p true i e y f)))
solid-named (grow p d k r) h q none i e (inr (inr y)) f =
    names-second i (when (is_part d.kind) p) _
    (names-second i (when none q) _ (names-second i (enrolled p true k) (enrolled q false r) (solid-named r h.2 q false i e y f)))

-- a part has nothing below it
part-childless : (κ : Kind) (k : Tree) → is_part κ ≡ true → Housed κ k → k ≡ nil
part-childless Free k e h = h
part-childless Part k e h = h
part-childless Structure k e h = absurd (false≢true e)

pub enrolled-once : (r : Tree) → Built r → Distinct r → (q : ℕ) → (In q r → ⊥) → (none : Bool) → Once (enrolled q none r)
enrolled-once nil h u q n none = tt
enrolled-once (grow p d k r) h u q n none =
    once-both (when (is_part d.kind) p) _ (once-when (is_part d.kind) p)
    (once-both (when none q) _ (once-when none q)
    (once-both (enrolled p true k) (enrolled q false r) (enrolled-once k h.1 u.below p u.not_below true)
    (enrolled-once r h.2 u.beside q (λ i. n (inr (inr i))) false) apart) under) own
  where
    below : (i : ℕ) → Names i (enrolled p true k) → (i ≡ p) ⊎ In i k
    below i z = ⊎_elim (λ y. inl y.1) (λ y. inr (solid-in i k y)) (enrolled-named k h.1 p true i z)

    later : (i : ℕ) → Names i (enrolled q false r) → In i r
    later i z = ⊎_elim (λ y. absurd (false≢true y.0)) (solid-in i r) (enrolled-named r h.2 q false i z)

    apart : (i : ℕ) → Names i (enrolled p true k) → Names i (enrolled q false r) → ⊥
    apart i y z = ⊎_elim (λ e. u.not_beside (in-eq r e (later i z))) (λ v. u.apart i v (later i z)) (below i y)

    under : (i : ℕ) → Names i (when none q) → Names i (enrolled p true k ++ enrolled q false r) → ⊥
    under i y z =
        let e : i ≡ q = (names-when i none q y).1 in
        n (⊎_elim (λ v. ⊎_elim (λ s. inl (sym e ∙ s)) (λ s. inr (inl (in-eq k e s))) (below i v)) (λ v. inr (inr (in-eq r e (later i v))))
        (names-cases i (enrolled p true k) (enrolled q false r) z))

    own : (i : ℕ) → Names i (when (is_part d.kind) p) → Names i (when none q ++ (enrolled p true k ++ enrolled q false r)) → ⊥
    own i y z =
        let f = names-when i (is_part d.kind) p y in
        let bare : k ≡ nil = part-childless d.kind k f.0 h.0 in
        let e : i ≡ p = f.1 in
        ⊎_elim (λ v. n (inl (sym (names-when i none q v).1 ∙ e)))
        (λ v. ⊎_elim (λ s. subst (λ (t : Tree). Names i (enrolled p true t) → ⊥) (sym bare) (λ a. a) s) (λ s. u.not_beside (in-eq r e (later i s)))
        (names-cases i (enrolled p true k) (enrolled q false r) v)) (names-cases i (when none q) _ z)

-- ---- the block of a booking is so built

some : (p : ℕ) (d : Datum) (k r : Tree) → grow p d k r ≡ nil → ⊥
some p d k r e = let z : count (grow p d k r) ≡ 0 = ap count e in omega arith

table-built : (b : Booking) (l : ℕ) (c : Orientation) (piece part : Size) (s : InsertionShape) → Built (planted b l c (block_of s b.blade c piece part))
unfolding block_of table
table-built b l c piece part AlongCurrentCut = (refl, tt, (refl, tt, tt))
table-built b l c piece part AcrossCurrentCut = (some _ _ _ _, (refl, tt, (refl, tt, tt)), tt)
table-built b l c piece part AlongThenAcross = (some _ _ _ _, (refl, tt, (refl, tt, tt)), (refl, tt, tt))
table-built b l c piece part AcrossThenAlong = (some _ _ _ _, (some _ _ _ _, (refl, tt, (refl, tt, tt)), (refl, tt, tt)), tt)

pub block-built : (b : Booking) (d : Datum) → Built (block b d)
unfolding block
block-built b d = table-built b d.level d.cut d.size b.size b.shape

-- and it has a node
pub block-some : (b : Booking) (d : Datum) → block b d ≡ nil → ⊥
block-some b d e = let z : count (block b d) ≡ 0 = ap count e in few b.shape (sym (block-count b d) ∙ z)
  where
    few : (s : InsertionShape) → new_nodes s ≡ 0 → ⊥
    few AlongCurrentCut g = omega arith
    few AcrossCurrentCut g = omega arith
    few AlongThenAcross g = omega arith
    few AcrossThenAlong g = omega arith
