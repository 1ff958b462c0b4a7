-- The removable list after a removal: the places that go are struck out, and the parent, if it has lost its last child, is taken out and comes
-- back with the new free piece. It rests on the pieces that a removal leaves (Pieces) and on what `layout_nodes` says of the
-- steps of a list (HoldingSteps) and of the parent of a piece (Family).
use mathlib.Core.Path.{◌≡◌, refl, sym, ap, ◌∙◌}
use mathlib.Core.List.{List, [], ◌∷◌, ◌++◌, append-nil}
use mathlib.Core.Bool.{Bool, true, false, cond, false≢true}
use mathlib.Core.Logic.{◌⊎◌, inl, inr, ⊎_elim}
use Prim.Native.Nat.{ℕ, ◌+◌}
use lib.Dec.{leb}
use Rattle.piece.specs.declared.node.Datum.{Datum}
use Rattle.piece.specs.declared.settings.Settings.{Settings}
use Rattle.piece.specs.Kinds.{is_free}
use Rattle.lists.specs.Lists.{limit}
use Rattle.tree.specs.Tree.{Tree, In, At}
use Rattle.tree.specs.Sound.{Sound}
use Rattle.tree.specs.Removal.{remove, cleared, subtree}
use Rattle.tree.specs.Apart.{Removable}
use Rattle.tree.specs.Steps.{leaving}
use Rattle.tree.specs.ListSteps.{Names, strike, strike_all, push}
use Rattle.tree.specs.Pieces.{Pieces, SolidOf, pieces_of, RemovableList}
use Rattle.tree.specs.Family.{parent_of, childless}
use Rattle.tree.specs.Enrolment.{removed_list}
use Rattle.tree.proofs.ListSteps.{Absent, strike-absent}
use Rattle.tree.proofs.Rows.{same?, at_in, in-at}
use Rattle.tree.proofs.Bookings.{at-unique}
use Rattle.tree.proofs.RemoveKept.{remove-distinct}
use Rattle.tree.proofs.Stays.{at-remove}
use Rattle.tree.proofs.Family.{parent-held, parent-solid, parent-cleared-at}
use Rattle.table.specs.declared.Node.{Node}
use Rattle.table.specs.Table.{at, Holds}
use Rattle.table.specs.Steps.{free_last, free_last_place, going, unlink_all}
use Rattle.table.proofs.Links.{datum-is}
use Rattle.table.proofs.Steps.{clear-sound}
use Rattle.table.proofs.Family.{parent_is, no-child}
use Rattle.layout_nodes.proofs.HoldingSteps.{holding-same, holding-strike, holding-strike-all, holding-push}
use Rattle.removal.specs.Remove.{new_free, returned}
use Rattle.removal.proofs.Pieces.{cleared-was, cleared-stays, remove-pieces}
use Rattle.removal.proofs.Serials.{new-free}

-- no free piece
abbrev Solid : Datum → Type 0
Solid e = is_free e.kind ≡ false

-- ---- one after the other

pub strike-more : (xs ps qs : List ℕ) → strike_all xs (ps ++ qs) ≡ strike_all (strike_all xs ps) qs
strike-more xs [] qs = refl
strike-more xs (p ∷ ps) qs = strike-more (strike xs p) ps qs

-- a place that is taken out and comes back: it stands last then
back_last : (A : Pieces) (xs : List ℕ) (q : ℕ) (d : Datum) → ((e : Datum) → A q e → e ≡ d) → A q d → Solid d → SolidOf A xs
    → SolidOf A (push (strike xs q) q)
back_last A xs q d one there solid h =
    holding-push Solid B A (strike xs q) q d (λ i e y s. y.0) split there solid (λ e y s. y.1 refl)
    (holding-strike Solid A B q xs (λ i e y s n. (y, n)) (λ i e y s. y) h)
  where
    -- the pieces at other places
    B : Pieces
    B i e = A i e × (i ≡ q → ⊥)

    split : (i : ℕ) (e : Datum) → A i e → Solid e → B i e ⊎ ((i ≡ q) × (e ≡ d))
    split i e y s = ⊎_elim (λ a. inr (a, one e (rw a at y))) (λ n. inl (y, n)) (same? i q)

-- ---- what is left

module _ (settings : Settings) (t : List Node) (w : Tree) (sound : Sound limit settings w) (h : Holds limit t w)
    (x : ℕ) (z : Removable x w) (ys : List ℕ) (removable : RemovableList w ys) where
  -- when all that goes has gone
  pub cleared-removable : RemovableList (cleared x w) (strike_all ys (going t x w))
  cleared-removable =
      holding-strike-all Solid (pieces_of w) (pieces_of (cleared x w)) (going t x w) ys
      (λ i e y s n. cleared-stays limit settings t w sound h x z i e y n)
      (λ i e y s. cleared-was limit settings t w sound h x z i e y) removable

  -- the free last piece is not in the list: to strike it changes nothing
  end-absent : (q : ℕ) → free_last t q ≡ true → Absent (at t q).last (strike_all ys (leaving (subtree x w)))
  end-absent q f k b e =
      let B : Pieces = λ i c. At i c w × (Names i (leaving (subtree x w)) → ⊥) in
      let g =
      (holding-strike-all Solid (pieces_of w) B (leaving (subtree x w)) ys (λ i c y s n. (y, n)) (λ i c y s. y) removable).each k b
      in
      let same : (at t (at t q).last).datum ≡ g.0 = datum-is limit t limit limit (at t q).last g.0 w h.rep (rw e at g.1.0) in
      false≢true (sym g.2 ∙ ap (λ (c : Datum). is_free c.kind) (sym same) ∙ f)

  struck-is : strike_all ys (going t x w) ≡ strike_all ys (leaving (subtree x w))
  unfolding free_last_place
  struck-is = strike-more ys (leaving (subtree x w)) (free_last_place t (at t x).parent) ∙ go (free_last t (at t x).parent) refl
    where
      zs : List ℕ
      zs = strike_all ys (leaving (subtree x w))

      go : (b : Bool) → free_last t (at t x).parent ≡ b → strike_all zs (cond b ((at t (at t x).parent).last ∷ []) []) ≡ zs
      go true e = strike-absent zs (at t (at t x).parent).last (end-absent (at t x).parent e)
      go false e = refl

  -- ---- the parent

  abbrev q : ℕ
  q = (at t x).parent

  hangs : (at t x).parent ≡ parent_of limit x w
  hangs = parent_is limit settings w sound x (at_in x z.piece w z.there) z.below t h

  -- it stays, and is no free piece
  parent-stays : (e : Datum) × At q e (cleared x w) × Solid e
  parent-stays =
      let i = at_in x z.piece w z.there in
      let g = in-at (parent_of limit x w) w (parent-held limit settings w sound x i z.below) in
      rw hangs (
        g.0,
        parent-cleared-at limit settings w sound x i z.below g.0 g.1,
        ap is_free (parent-solid limit settings w sound x i z.below g.0 g.1),
      )

  -- what is left shows whether it has lost its last child
  parent-bare : leb limit (at (unlink_all limit t (going t x w)) q).first ≡ childless (parent_of limit x w) (cleared x w)
  parent-bare =
      no-child limit (unlink_all limit t (going t x w)) q (cleared x w) (clear-sound limit settings t w sound h x z)
      (at_in q parent-stays.0 (cleared x w) parent-stays.1)
      ∙ ap (λ (p : ℕ). childless p (cleared x w)) hangs

  -- ---- and when the new piece is there

  module _ (n last : ℕ) (unheld : In n (cleared x w) → ⊥) where
    abbrev w' : Tree
    w' = remove x n (last + 1) w

    abbrev struck : List ℕ
    struck = strike_all ys (going t x w)

    struck-removable : RemovableList w' struck
    struck-removable =
        holding-same Solid (pieces_of (cleared x w)) (pieces_of w') struck (λ i e y s. at-remove x n (last + 1) i e w y)
        (λ i e y s. ⊎_elim (λ v. v) (λ v. absurd (false≢true (sym s ∙ new i e v)))
        (remove-pieces limit settings t w sound h x z n last unheld i e y)) cleared-removable
      where
        new : (i : ℕ) (e : Datum) → (i ≡ n) × (e ≡ new_free t x last) → is_free e.kind ≡ true
        new i e v = ap (λ (c : Datum). is_free c.kind) v.1 ∙ ap is_free (new-free t x last)

    pub remove-removable : RemovableList w' (returned (at (unlink_all limit t (going t x w)) q) q struck)
    unfolding returned
    remove-removable = go (leb limit (at (unlink_all limit t (going t x w)) q).first)
      where
        d : Datum
        d = parent-stays.0

        stays : At q d w'
        stays = at-remove x n (last + 1) q d w parent-stays.1

        go : (b : Bool) → RemovableList w' (cond b (push (strike struck q) q) struck)
        go true =
            back_last (pieces_of w') struck q d
            (λ e y. at-unique q d e w' (remove-distinct x n (last + 1) w h.distinct unheld) stays y) stays parent-stays.2 struck-removable
        go false = struck-removable

    -- it is the list that document 01's rule gives
    pub returned-is : returned (at (unlink_all limit t (going t x w)) q) q struck ≡ removed_list limit x w ys
    unfolding returned removed_list
    returned-is =
        rw (struck-is, parent-bare, hangs)
        (go (childless (parent_of limit x w) (cleared x w)) (parent_of limit x w) (strike_all ys (leaving (subtree x w))))
      where
        go : (b : Bool) (p : ℕ) (zs : List ℕ) → cond b (push (strike zs p) p) zs ≡ cond b (strike zs p) zs ++ cond b (p ∷ []) []
        go true p zs = refl
        go false p zs = sym (append-nil zs)
