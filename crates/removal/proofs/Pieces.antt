-- The pieces that a removal leaves: those that are none of what goes, and the free piece that comes. It rests on the row of the piece that goes
-- (Row), and on what `table` says of a tree that has other children at one piece (put).
use mathlib.Core.Path.{◌≡◌, refl, subst}
use mathlib.Core.List.{List}
use mathlib.Core.Logic.{◌⊎◌, inl, inr, ⊎_elim}
use Prim.Native.Nat.{ℕ, ◌+◌, ◌<◌}
use native.Mathlib.Omega.{arith}
use Rattle.piece.specs.declared.node.Datum.{Datum}
use Rattle.piece.specs.declared.settings.Settings.{Settings}
use Rattle.piece.specs.Row.{nil, grow}
use Rattle.tree.specs.Tree.{Tree, In, At, Distinct, after}
use Rattle.tree.specs.Sound.{Sound}
use Rattle.tree.specs.Removal.{freed, board, last_free, without_last, settled, remove, cleared}
use Rattle.tree.specs.Apart.{Removable}
use Rattle.tree.specs.Steps.{leaving}
use Rattle.tree.specs.ListSteps.{Names}
use Rattle.tree.proofs.Rows.{in?, in-eq, at_in, in_after, in-first, in-second, in-at}
use Rattle.tree.proofs.Bookings.{at-unique}
use Rattle.tree.proofs.RemoveKept.{in_left, remove-distinct}
use Rattle.tree.proofs.Counts.{in_remove}
use Rattle.tree.proofs.Stays.{at-remove, cleared_at, at_second}
use Rattle.tree.proofs.Kids.{kids_under, kids-distinct, after-apart, after-second, put, put_in, in-put, put-new, put-kids, kids-at}
use Rattle.tree.proofs.Spots.{free_end}
use Rattle.tree.proofs.Leaving.{names-cases, names-first, names-second, leaving-in, in-leaving, end-in, end-out, left-or-end}
use Rattle.table.specs.declared.Node.{Node}
use Rattle.table.specs.Table.{at, last, Holds}
use Rattle.table.specs.Steps.{going}
use Rattle.table.proofs.Rep.{last-cases, last-after, bound, shows}
use Rattle.removal.specs.Inner.{Goes}
use Rattle.removal.specs.Remove.{new_free}
use Rattle.removal.proofs.Row.{RowOf, whole, rest, new_is, row_of}
use Rattle.removal.proofs.Goes.{goes-all, row-parents}

-- ---- the row

module _ (t : List Node) (x : ℕ) (d : Datum) (w : Tree) (dis : Distinct w) (o : RowOf t x d w) where
  -- the row that was, what is left of it, and the row from x on
  abbrev m : Tree
  m = whole t x d w o

  abbrev k : Tree
  k = rest t x d w o

  abbrev row : Tree
  row = grow x d o.below o.behind

  row-dis : Distinct m
  row-dis = kids-distinct o.parent m w dis o.kids

  row_apart : Distinct row
  row_apart = after-second o.before row row-dis

  module _ (i : ℕ) where
    -- what goes is x, below x, or the free piece at the end
    goes-cases : Names i (going t x w) → In i (grow x d o.below nil) ⊎ Names i (free_end o.behind)
    goes-cases y =
        ⊎_elim (λ v. inl (leaving-in i (grow x d o.below nil) v)) inr
        (names-cases i (leaving (grow x d o.below nil)) (free_end o.behind) (rw o.goes at y))

    goes-own : In i (grow x d o.below nil) → Names i (going t x w)
    goes-own y =
        rw o.goes
        (names-first i (leaving (grow x d o.below nil)) (free_end o.behind) (in-leaving i (grow x d o.below nil) y))

    goes_end : Names i (free_end o.behind) → Names i (going t x w)
    goes_end y = rw o.goes (names-second i (leaving (grow x d o.below nil)) (free_end o.behind) y)

    -- so it is of the row, from x on
    goes-from : Names i (going t x w) → In i row
    goes-from y =
        ⊎_elim (λ v. ⊎_elim inl (λ u. inr (inl (⊎_elim (λ a. a) absurd u))) v) (λ v. inr (inr (end-in i o.behind v))) (goes-cases y)

    goes-row : Names i (going t x w) → In i m
    goes-row y = in-second i o.before row (goes-from y)

    -- and is not left of it
    goes-out : Names i (going t x w) → In i k → ⊥
    goes-out y v =
        ⊎_elim (λ a. after-apart o.before row row-dis i a (goes-from y)) (λ a. late a (goes-cases y))
        (in_after i o.before (without_last o.behind) v)
      where
        late : In i (without_last o.behind) → In i (grow x d o.below nil) ⊎ Names i (free_end o.behind) → ⊥
        late a (inl (inl e)) = row_apart.not_beside (in-eq o.behind e (in_left i o.behind a))
        late a (inl (inr (inl u))) = row_apart.apart i u (in_left i o.behind a)
        late a (inl (inr (inr u))) = u
        late a (inr u) = end-out i o.behind row_apart.beside u a

    -- all else of it is
    row-left : (Names i (going t x w) → ⊥) → In i m → In i k
    row-left n y = ⊎_elim (λ a. in-first i o.before (without_last o.behind) a) from (in_after i o.before row y)
      where
        from : In i row → In i k
        from (inl e) = absurd (n (goes-own (inl e)))
        from (inr (inl u)) = absurd (n (goes-own (inr (inl u))))
        from (inr (inr u)) =
            ⊎_elim (λ a. in-second i o.before (without_last o.behind) a) (λ a. absurd (n (goes_end a)))
            (left-or-end i o.behind o.leaves u)

    -- ---- the tree

    -- what is left is none of what goes
    left_out : In i (cleared x w) → Names i (going t x w) → ⊥
    left_out y v =
        ⊎_elim (λ a. goes-out v a) (λ a. a.1 (goes-row v)) (put_in o.parent k m i w dis o.kids (rw o.left at y))

    -- all else is left
    left_in : In i w → (Names i (going t x w) → ⊥) → In i (cleared x w)
    left_in y n =
        rw o.left
        (⊎_elim (λ a. put-new o.parent k m i w dis o.kids (row-left n a)) (λ a. in-put o.parent k m i w dis o.kids y a) (in? i m))

  -- a piece is left exactly if it is none of what goes
  module _ (i : ℕ) (e : Datum) where
    left-was : At i e (cleared x w) → At i e w × (Names i (going t x w) → ⊥)
    left-was y = (cleared_at i e x w y, left_out i (at_in i e (cleared x w) y))

    left-stays : At i e w → (Names i (going t x w) → ⊥) → At i e (cleared x w)
    left-stays y n =
        let g = in-at i (cleared x w) (left_in i (at_in i e w y) n) in
        subst (λ (f : Datum). At i f (cleared x w)) (at-unique i e g.0 w dis y (cleared_at i g.0 x w g.1)) g.1

  -- the new piece is there at the end
  new-at : (n s : ℕ) → At n (freed s d (board d (last_free o.behind))) (remove x n s w)
  unfolding settled
  new-at n s =
      let u = after o.before (settled n s d o.behind) in
      rw (o.comes n s)
      (kids-at o.parent u n (freed s d (board d (last_free o.behind))) (put o.parent u w) (put-kids o.parent u m w dis o.kids)
      (at_second n _ o.before (settled n s d o.behind) (at_second n _ (without_last o.behind) _ (inl (refl, refl)))))

-- ---- The laws.

module _ (limit : ℕ) (settings : Settings) (t : List Node) (w : Tree) (sound : Sound limit settings w) (h : Holds limit t w)
    (x : ℕ) (z : Removable x w) where
  abbrev o : RowOf t x z.piece w
  o = row_of limit settings t w sound h x z

  -- what goes is in the tree
  pub going-in : (i : ℕ) → Names i (going t x w) → In i w
  going-in i y =
      kids_under o.parent (whole t x z.piece w o) i w o.kids (goes-row t x z.piece w h.distinct o i y)

  -- x hangs under a place, and so does the last piece of its row
  pub parent-low : (at t x).parent < limit
  parent-low = rw o.hangs (shows limit t limit limit o.parent (whole t x z.piece w o) w h.rep o.kids).low

  pub last-low : (at t (at t x).parent).last < limit
  last-low =
      let row = grow x z.piece o.below o.behind in
      let u = shows limit t limit limit o.parent (whole t x z.piece w o) w h.rep o.kids in
      let end = ⊎_elim inl (λ y. inr (inr y)) (last-cases x o.behind) in
      rw (o.hangs, u.last-is, last-after limit o.before row)
      (bound limit t o.parent limit (last x o.behind) (whole t x z.piece w o) u.rep
      (in-second (last x o.behind) o.before row end))

  -- each place that goes can be unlinked when its turn comes
  pub goes : Goes limit t (going t x w)
  goes =
      let b = sound.placed x (at_in x z.piece w z.there) in
      let m = whole t x z.piece w o in
      let u = shows limit t limit limit o.parent m w h.rep o.kids in
      goes-all limit (going t x w) t (omega arith)
      (λ i y. (
        sound.placed i (going-in i y),
        row-parents limit t o.parent limit i m u.low u.rep (goes-row t x z.piece w h.distinct o i y),
      ))

  -- a piece is left exactly if it is none of what goes
  pub cleared-was : (i : ℕ) (e : Datum) → At i e (cleared x w) → At i e w × (Names i (going t x w) → ⊥)
  cleared-was i e y = left-was t x z.piece w h.distinct o i e y

  pub cleared-stays : (i : ℕ) (e : Datum) → At i e w → (Names i (going t x w) → ⊥) → At i e (cleared x w)
  cleared-stays i e y n = left-stays t x z.piece w h.distinct o i e y n

  -- after the removal a piece is one that is left, or the new one
  module _ (n last : ℕ) where
    pub new-there : At n (new_free t x last) (remove x n (last + 1) w)
    new-there = rw (new_is t x z.piece w o last) (new-at t x z.piece w h.distinct o n (last + 1))

    pub remove-pieces : (In n (cleared x w) → ⊥) → (i : ℕ) (e : Datum) → At i e (remove x n (last + 1) w)
        → At i e (cleared x w) ⊎ ((i ≡ n) × (e ≡ new_free t x last))
    remove-pieces unheld i e y = ⊎_elim new old (in_remove x n (last + 1) i w (at_in i e (remove x n (last + 1) w) y))
      where
        apart : Distinct (remove x n (last + 1) w)
        apart = remove-distinct x n (last + 1) w h.distinct unheld

        new : i ≡ n → At i e (cleared x w) ⊎ ((i ≡ n) × (e ≡ new_free t x last))
        new q = inr (q, at-unique n (new_free t x last) e (remove x n (last + 1) w) apart new-there (rw q at y))

        old : In i (cleared x w) → At i e (cleared x w) ⊎ ((i ≡ n) × (e ≡ new_free t x last))
        old v =
            let g = in-at i (cleared x w) v in
            let same : g.0 ≡ e =
            at-unique i e g.0 (remove x n (last + 1) w) apart y (at-remove x n (last + 1) i g.0 w g.1)
            in
            inl (rw same at g.1)
