-- Document 02, No. 5, over the calls: what an accepted `tidy` leaves, and that the parts stay; when its serials don't last; that untidy structures taken out by
-- `remove`, in any order, come to the tree that `tidy` leaves; and that booking, removing the part and tidying gives back the same tree. Rests on tree's laws
-- (TidyTree, BookRemoveTidy), on layout's Tidying, on the mark of a booking's part (MarksNamed) and on what a call has done (Outcomes). Assumes nothing.
use mathlib.Core.Path.{◌≡◌, refl, sym, ap, ◌∙◌, subst}
use mathlib.Core.Bool.{Bool, true, false, cond, ◌&&◌}
use mathlib.Core.List.{List, [], ◌∷◌, ◌++◌}
use mathlib.Core.Logic.{◌↔◌, ◌⊎◌, inl, inr}
use mathlib.Core.Option.{some}
use Prim.Native.Nat.{ℕ, ◌+◌, ◌≤◌}
use native.Mathlib.Omega.{arith}
use lib.Dec.{eqb, leb}
use borrow.Author.Tests.{le-leb, leb-true}
use Rattle.piece.specs.declared.orientation.Orientation.{Orientation}
use Rattle.piece.specs.declared.rotation.Rotation.{Rotation}
use Rattle.piece.specs.declared.parttype.PartType.{PartType}
use Rattle.piece.specs.declared.node.Datum.{Datum}
use Rattle.piece.specs.declared.node.Kind.{Kind}
use Rattle.piece.specs.declared.node.Kind.TheVariants.{Free, Part, Structure}
use Rattle.piece.specs.declared.insertion_blueprint.InsertionShape.{InsertionShape}
use Rattle.piece.specs.declared.settings.Settings.{Settings}
use Rattle.piece.specs.Sides.{area, other}
use Rattle.piece.specs.Row.{Row, nil, grow}
use Rattle.piece.specs.Kinds.{is_free, is_part}
use Rattle.piece.specs.Insertion.{Made, block_of}
use Rattle.lists.proofs.Scan.{clash, test}
use Rattle.tree.specs.Tree.{Tree, At, Distinct, In, Inside, after, is_nil}
use Rattle.tree.specs.Sound.{Children, Kinded, Sound, Topped, max_number}
use Rattle.tree.specs.Figures.{part_area}
use Rattle.tree.specs.Snapshot.{Same}
use Rattle.tree.specs.Booking.{Booking, block, book, planted}
use Rattle.tree.specs.Removal.{board, cleared, freed, last_free, numbers, remove, settled, subtree, without_last}
use Rattle.tree.specs.Steps.{Kids}
use Rattle.tree.specs.Tidy.{Untidy, Tidy, Takings, empties}
use Rattle.tree.specs.Tidy as taking
use Rattle.tree.proofs.Bookings.{at-unique}
use Rattle.tree.proofs.Family.{fresh-removal}
use Rattle.tree.proofs.Kept.{free-kind}
use Rattle.tree.proofs.Kids.{kids-at, kids-in}
use Rattle.tree.proofs.Laws.SolidUntouched.{solid-untouched-by-removal}
use Rattle.tree.proofs.Laws.TidyTree.{takings-sound, untidy-numbers, untidy-removable, whichever-first}
use Rattle.tree.proofs.Laws.BookRemoveTidy.{book-remove-tidy}
use Rattle.marks.specs.declared.Mark.{Mark}
use Rattle.marks.specs.declared.Refusal.TheVariants.{SerialsSpent}
use Rattle.layout.specs.declared.layout.Layout.{Layout}
use Rattle.layout.specs.declared.insert.Inserted.{Inserted}
use Rattle.layout.specs.declared.remove.Removed.{Removed}
use Rattle.layout.specs.declared.tidy.Tidied.{Tidied}
use Rattle.layout.specs.Check.{limit, max_serial, sound_b, tree}
use Rattle.layout.specs.SoundLayout.{Sized, SoundLayout}
use Rattle.layout.specs.Insert.{booking_for, piece_at}
use Rattle.layout.specs.Remove.{place_for}
use Rattle.layout.specs.Tidy.{Tidies, tidy_no}
use Rattle.layout.proofs.Booked.{fitting}
use Rattle.layout.proofs.Exactly.{sound-says}
use Rattle.layout.proofs.Listed.{piece_is}
use Rattle.layout.proofs.Tidying.{chain-means, tidies-some}
use Rattle.questions.specs.Written.{snapshot_bytes}
use Rattle.demands.specs.Life.{NamesPiece}
use Rattle.demands.specs.Calls.{InsertAccepted, RemoveAccepted, SameTree, TakenOut, none, next, TidyAccepted}
use Rattle.demands.proofs.Outcomes.{InsertMeans, RemoveMeans, TidyMeans, accepted-insert, accepted-remove, accepted-tidy}
use Rattle.demands.proofs.MarksNamed.{BookedMarks, insert-marks-name}

-- ---- the parts' area stays

-- a row without part numbers has no parts
numberless-area : (t : Tree) → numbers t ≡ [] → part_area t ≡ 0
numberless-area nil h = refl
numberless-area (grow p d k r) h = go (is_part d.kind) h (numberless-area k) (numberless-area r)
  where
    neither : (ms ns : List ℕ) → ms ++ ns ≡ [] → (ms ≡ []) × (ns ≡ [])
    neither [] ns e = (refl, e)
    neither (m ∷ ms) ns e = absurd (clash (cc))

    go : (c : Bool) → cond c (d.number ∷ (numbers k ++ numbers r)) (numbers k ++ numbers r) ≡ [] → (numbers k ≡ [] → part_area k ≡ 0)
        → (numbers r ≡ [] → part_area r ≡ 0) → cond c (area d.size) 0 + (part_area k + part_area r) ≡ 0
    go true e f g = absurd (clash (cc))
    go false e f g = let z = neither (numbers k) (numbers r) e in omega (arith, f z.0, g z.1)

area-after : (a b : Tree) → part_area (after a b) ≡ part_area a + part_area b
area-after nil b = omega arith
area-after (grow p d k r) b = omega (arith, area-after r b)

module _ (settings : Settings) where
  -- the free piece at the end of a row is no part, and nothing is below it
  end-area : (q : Datum) (r : Tree) → Children settings q r → part_area (without_last r) ≡ part_area r
  end-area q nil h = refl
  end-area q (grow p d k r) h = go (is_free d.kind) refl (is_nil r) (end-area q r h.beside)
    where
      no_part : (c : Kind) (v : ℕ) → is_free c ≡ true → cond (is_part c) v 0 ≡ 0
      no_part Free v e = refl
      no_part Part v e = absurd (clash (cc))
      no_part Structure v e = absurd (clash (cc))

      go : (b : Bool) → is_free d.kind ≡ b → (c : Bool) → part_area (without_last r) ≡ part_area r
          → part_area (cond (b && c) nil (grow p d k (without_last r))) ≡ part_area (grow p d k r)
      go true e true ih =
          let f = free-kind d.kind d k r e h.kinded in
          rw (f.childless, f.last) (omega (arith, no_part d.kind (area d.size) e))
      go true e false ih = omega arith
      go false e c ih = omega arith

  settled-area : (n s : ℕ) (d q : Datum) (r : Tree) → Children settings q r → part_area (settled n s d r) ≡ part_area r
  unfolding settled
  settled-area n s d q r h = omega (arith, area-after (without_last r) (grow n (freed s d (board d (last_free r))) nil nil), end-area q r h)

  -- what goes with the piece at x, and what is left
  row-area : (x n s : ℕ) (q : Datum) (r : Tree) → Children settings q r → part_area (remove x n s r) + part_area (subtree x r) ≡ part_area r
  row-area x n s q nil h = refl
  row-area x n s q (grow y d k r) h = go (eqb y x) (row-area x n s d k h.below) (row-area x n s q r h.beside)
    where
      go : (b : Bool) → part_area (remove x n s k) + part_area (subtree x k) ≡ part_area k
          → part_area (remove x n s r) + part_area (subtree x r) ≡ part_area r
          → part_area (cond b (settled n s d r) (grow y d (remove x n s k) (remove x n s r)))
          + part_area (cond b (grow y d k nil) (after (subtree x k) (subtree x r)))
          ≡ part_area (grow y d k r)
      go true f g = omega (arith, settled-area n s d q r h.beside)
      go false f g = omega (arith, area-after (subtree x k) (subtree x r))

  tree-area : (x n s : ℕ) (t : Tree) → Topped settings t → part_area (remove x n s t) + part_area (subtree x t) ≡ part_area t
  tree-area x n s nil h = absurd h
  tree-area x n s (grow y d k r) h = rw h.0.alone (go (eqb y x))
    where
      go : (b : Bool)
          → part_area (cond b (settled n s d nil) (grow y d (remove x n s k) nil)) + part_area (cond b (grow y d k nil) (after (subtree x k) nil))
          ≡ part_area (grow y d k nil)
      go true = omega (arith, settled-area n s d d nil tt)
      go false = omega (arith, area-after (subtree x k) nil, row-area x n s d k h.1)

takings-area : {settings : Settings} {t u : Tree} {k : ℕ} → Sound limit settings t → Takings limit t k u → part_area u ≡ part_area t
takings-area h taking.none = refl
takings-area {settings} {t} h (taking.taken x n s a low unheld rest) =
    let after = takings-sound h (taking.taken x n s a low unheld taking.none) in
    let out = numberless-area (subtree x t) (untidy-numbers x t h.distinct a) in
    takings-area after rest ∙ omega (arith, tree-area settings x n s t h.topped)

-- ---- and each part with it

inside-in : (x i : ℕ) (t : Tree) → Inside x i t → In x t
inside-in x i nil h = absurd h
inside-in x i (grow p d k r) (inl h) = inl h.0
inside-in x i (grow p d k r) (inr (inl h)) = inr (inl (inside-in x i k h))
inside-in x i (grow p d k r) (inr (inr h)) = inr (inr (inside-in x i r h))

-- what is inside x is among its children, or below them
inside-kids : (x i : ℕ) (m t : Tree) → Distinct t → Kids x m t → Inside x i t → In i m
inside-kids x i m nil u h g = absurd h
inside-kids x i m (grow p d k r) u (inl h) (inl g) = rw h.1 g.1
inside-kids x i m (grow p d k r) u (inl h) (inr (inl g)) = absurd (u.not_below (rw h.0 at (inside-in x i k g)))
inside-kids x i m (grow p d k r) u (inl h) (inr (inr g)) = absurd (u.not_beside (rw h.0 at (inside-in x i r g)))
inside-kids x i m (grow p d k r) u (inr (inl h)) (inl g) = absurd (u.not_below (rw g.0 at (kids-in x m k h)))
inside-kids x i m (grow p d k r) u (inr (inl h)) (inr (inl g)) = inside-kids x i m k u.below h g
inside-kids x i m (grow p d k r) u (inr (inl h)) (inr (inr g)) = absurd (u.apart x (kids-in x m k h) (inside-in x i r g))
inside-kids x i m (grow p d k r) u (inr (inr h)) (inl g) = absurd (u.not_beside (rw g.0 at (kids-in x m r h)))
inside-kids x i m (grow p d k r) u (inr (inr h)) (inr (inl g)) = absurd (u.apart x (inside-in x i k g) (kids-in x m r h))
inside-kids x i m (grow p d k r) u (inr (inr h)) (inr (inr g)) = inside-kids x i m r u.beside h g

-- no part is an untidy structure, or is inside one
module _ (t : Tree) (u : Distinct t) (x : ℕ) (a : Untidy x t) (i : ℕ) (e : Datum) (there : At i e t) (part : e.kind ≡ Part) where
  not-it : i ≡ x → ⊥
  not-it h =
      let same : e ≡ a.piece = at-unique x a.piece e t u a.there (rw h at there) in
      let z : Part ≡ Structure = sym part ∙ ap (λ (d : Datum). d.kind) same ∙ a.structure in
      clash (cc)

  not-inside : Inside x i t → ⊥
  not-inside h = go (inside-kids x i (grow a.place a.child nil nil) t u a.only h)
    where
      child : At a.place a.child t
      child = kids-at x (grow a.place a.child nil nil) a.place a.child t a.only (inl (refl, refl))

      go : In i (grow a.place a.child nil nil) → ⊥
      go (inl h) =
          let same : e ≡ a.child = at-unique a.place a.child e t u child (rw h at there) in
          let z : Part ≡ Free = sym part ∙ ap (λ (d : Datum). d.kind) same ∙ a.free in
          clash (cc)
      go (inr (inl h)) = h
      go (inr (inr h)) = h

takings-parts : {settings : Settings} {t u : Tree} {k : ℕ} → Sound limit settings t → Takings limit t k u → (i : ℕ) (e : Datum) → At i e t → e.kind ≡ Part
    → At i e u
takings-parts h taking.none i e there part = there
takings-parts {settings} {t} h (taking.taken x n s a low unheld rest) i e there part =
    takings-parts (takings-sound h (taking.taken x n s a low unheld taking.none)) rest i e
    (solid-untouched-by-removal limit settings t x n s i e h (untidy-removable x t a) there (rw part refl) (not-it t h.distinct x a i e there part)
    (not-inside t h.distinct x a i e there part))
    part

-- A PART KEEPS ITS MARK
pub parts_stay : (l : Layout) → Sized l → (a : Tidied) → TidyAccepted l a → (m : Mark) → NamesPiece l m → (piece_at l m.place).kind ≡ Part
    → NamesPiece a.layout m × (piece_at a.layout m.place ≡ piece_at l m.place)
parts_stay l sized a h m named part =
    let z = accepted-tidy l a sized h in
    let y = m.place in
    let there = takings-parts z.was.sound z.means.takings y (piece_at l y) named.there part in
    let is = piece_is a.layout.nodes (tree a.layout) z.means.sound.holds y (piece_at l y) there in (
      record {
        number = named.number ∙ sym z.means.number;
        there = rw is there;
        serial = ap (λ (d : Datum). d.serial) is ∙ named.serial;
      },
      is,
    )

-- ---- AN ACCEPTED TIDYING leaves a sound layout with nothing left to take out, and as many went as there were structures with no part inside
pub ends-tidy : (l : Layout) → Sized l → (a : Tidied) → TidyAccepted l a
    → SoundLayout a.layout × Tidy (tree a.layout) × (a.count ≡ empties (tree l)) × (part_area (tree a.layout) ≡ part_area (tree l))
ends-tidy l sized a h =
    let z = accepted-tidy l a sized h in
    (z.means.sound, z.means.tidy, z.means.count, takings-area z.was.sound z.means.takings)

-- ---- REFUSAL 9: on a sound layout exactly where no chain of steps comes to its end

module _ (l : Layout) (sized : Sized l) (sound : sound_b l ≡ true) where
  abbrev sum : ℕ
  sum = l.serial + empties (tree l)

  -- each step takes one serial, and a sound layout has none above the greatest
  chain-enough : (k : ℕ) (n : Layout) → Tidies l k n → sum ≤ max_serial
  chain-enough k n chain = let z = chain-means (sound-says l sized sound) sized chain in omega (arith, z.count, z.serial, z.sound.serials.spent)

  pub nine-exactly : (tidy_no l ≡ some SerialsSpent) ↔ ((k : ℕ) (n : Layout) → Tidies l k n → ⊥)
  unfolding tidy_no
  nine-exactly = (
    (λ e k n chain. let z = rw (sound, le-leb sum max_serial (chain-enough k n chain)) at e in clash (cc)),
    λ never. go never (test (leb sum max_serial)),
  )
    where
      go : ((k : ℕ) (n : Layout) → Tidies l k n → ⊥) → (leb sum max_serial ≡ true) ⊎ (leb sum max_serial ≡ false) → tidy_no l ≡ some SerialsSpent
      go never (inl e) = let z = tidies-some l (sound-says l sized sound) sized (leb-true sum max_serial e) in absurd (never z.0 z.1 z.2)
      go never (inr e) = rw (sound, e) refl

-- ---- IN ANY ORDER

out-takings : {l n : Layout} → Sized l → TakenOut l n → (k : ℕ) × Takings limit (tree l) k (tree n)
out-takings sized none = (0, taking.none)
out-takings {l} {n} sized (next m room a untidy out rest) =
    let z = accepted-remove l m room a sized out in
    let x = m.place in
    let low = fresh-removal limit l.settings (tree l) z.takeable.sound.sound x z.takeable.removable in
    let more = out-takings z.done.next.sized rest in
    (1 + more.0, taking.taken x (place_for l x) (l.serial + 1) untidy low.0 low.1 (rw z.done.next.tree at more.1))

pub any_order : (l n : Layout) → Sized l → TakenOut l n → Tidy (tree n) → (a : Tidied) → TidyAccepted l a → SameTree n a.layout
unfolding snapshot_bytes
any_order l n sized out done a h =
    let z = accepted-tidy l a sized h in
    (whichever-first z.was.sound (out-takings sized out).1 done z.means.takings z.means.tidy).0.bytes

pub two-orders : (l n k : Layout) → Sized l → SoundLayout l → TakenOut l n → Tidy (tree n) → TakenOut l k → Tidy (tree k) → SameTree n k
unfolding snapshot_bytes
two-orders l n k sized sound out done out' done' =
    (whichever-first sound.sound (out-takings sized out).1 done (out-takings sized out').1 done').0.bytes

-- ---- THE RETURN: booking, removing the part and tidying

-- a part of a block has the number that was booked
made-number : (b : Booking) (level : ℕ) (c : Orientation) (y : ℕ) (e : Datum) (r : Row Made) → At y e (planted b level c r) → e.kind ≡ Part
    → e.number ≡ b.number
made-number b level c y e nil h part = absurd h
made-number b level c y e (grow i m k r) (inl h) part =
    let same : m.kind ≡ Part = sym (ap (λ (d : Datum). d.kind) h.1) ∙ part in
    ap (λ (d : Datum). d.number) h.1 ∙ ap (λ (κ : Kind). cond (is_part κ) b.number 0) same
made-number b level c y e (grow i m k r) (inr (inl h)) part = made-number b (level + 1) (other c) y e k h part
made-number b level c y e (grow i m k r) (inr (inr h)) part = made-number b level c y e r h part

block-number : (b : Booking) (d : Datum) (y : ℕ) (e : Datum) → At y e (block b d) → e.kind ≡ Part → e.number ≡ b.number
unfolding block
block-number b d y e = made-number b d.level d.cut y e (block_of b.shape b.blade d.cut d.size b.size)

-- and one of a sound tree has a number in the domain
row_number : (settings : Settings) (q : Datum) (y : ℕ) (e : Datum) (r : Tree) → Children settings q r → At y e r → e.kind ≡ Part → e.number ≤ max_number
row_number settings q y e nil h a part = absurd a
row_number settings q y e (grow p d k r) h (inl a) part =
    let same : d.kind ≡ Part = sym (ap (λ (f : Datum). f.kind) a.1) ∙ part in
    rw a.1 (subst (λ (κ : Kind). Kinded κ d k r) same h.kinded).numbered
row_number settings q y e (grow p d k r) h (inr (inl a)) part = row_number settings d y e k h.below a part
row_number settings q y e (grow p d k r) h (inr (inr a)) part = row_number settings q y e r h.beside a part

tree-number : (settings : Settings) (y : ℕ) (e : Datum) (t : Tree) → Topped settings t → At y e t → e.kind ≡ Part → e.number ≤ max_number
tree-number settings y e nil h a part = absurd h
tree-number settings y e (grow p d k r) h (inl a) part =
    let same : Part ≡ Structure = sym part ∙ ap (λ (f : Datum). f.kind) a.1 ∙ h.0.kind in absurd (clash (cc))
tree-number settings y e (grow p d k r) h (inr (inl a)) part = row_number settings d y e k h.1 a part
tree-number settings y e (grow p d k r) h (inr (inr a)) part = absurd (rw h.0.alone at a)

module _ (l : Layout) (sized : Sized l) (m : Mark) (p : PartType) (r : Rotation) (s : InsertionShape) (a : Inserted) (room : ℕ) (c : Removed) (z : Tidied) where
  abbrev x : ℕ
  x = m.place

  abbrev b : Booking
  b = booking_for l x p r s

  -- the part, where its mark says
  abbrev y : ℕ
  y = a.marks.part.place

  abbrev e : Datum
  e = piece_at a.layout y

  -- the number is in the domain, since the layout with it is sound
  numbered : InsertMeans l m p r s a → BookedMarks l x p r s a → p.number ≤ max_number
  numbered i k =
      let same : e.number ≡ p.number = block-number b (piece_at l x) y e k.part_is k.part.kind in
      let low = tree-number a.layout.settings y e (tree a.layout) i.done.next.sound.sound.topped k.part.names.there k.part.kind in
      omega arith

  same : Tidy (tree l) → InsertMeans l m p r s a → BookedMarks l x p r s a → RemoveMeans a.layout a.marks.part room c → TidyMeans c.layout z
      → Same (tree z.layout) (tree l)
  same tidy i k o t =
      let can = i.insertable in
      let n = place_for a.layout y in
      let last = a.layout.serial in
      let u : tree c.layout ≡ remove y n (last + 1) (book x b (tree l)) =
      o.done.next.tree ∙ ap (remove y n (last + 1)) i.done.next.tree
      in
      let low = fresh-removal limit a.layout.settings (tree a.layout) o.takeable.sound.sound y o.takeable.removable in
      book-remove-tidy (tree l) (tree z.layout) x y n (last + 1) z.count (piece_at l x) e b can.sound.sound tidy can.there can.free
      (fitting l x p r s can (numbered i k)) i.fresh k.part_is k.part.kind low.0
      (subst (λ (w : Tree). In n (cleared y w) → ⊥) i.done.next.tree low.1)
      (rw u at t.means.takings) t.means.tidy

  pub returned : Tidy (tree l) → InsertAccepted l m p r s a → RemoveAccepted a.layout a.marks.part room c → TidyAccepted c.layout z
      → SameTree z.layout l
  unfolding snapshot_bytes
  returned tidy insert remove tidies =
      let i = accepted-insert l m p r s a sized insert in
      let k = insert-marks-name l m p r s a sized insert.says insert.done in
      let o = accepted-remove a.layout a.marks.part room c i.done.next.sized remove in
      (same tidy i k o (accepted-tidy c.layout z o.done.next.sized tidies)).bytes
