-- Document 01, "Marks": in a sound layout every piece has one mark. The position of a list gives the mark of a piece of its kind, and every such
-- piece has a position. Rests on what a mark names (`Names`, in crate `layout`).
use mathlib.Core.Path.{◌≡◌, refl, sym, ap, ◌∙◌}
use mathlib.Core.List.{List}
use mathlib.Core.Bool.{false}
use Prim.Native.Nat.{ℕ, ◌<◌, ◌≤◌}
use native.Mathlib.Omega.{arith}
use lib.ListN.{get_or, length, take}
use borrow.Author.Tests.{lt-ltb}
use Rattle.std.specs.Prelude.{Ok}
use Rattle.piece.specs.declared.node.Datum.{Datum}
use Rattle.piece.specs.declared.node.Kind.TheVariants.{Free}
use Rattle.piece.specs.Kinds.{is_free}
use Rattle.tree.specs.Tree.{At}
use Rattle.marks.specs.declared.Mark.{Mark}
use Rattle.layout.specs.declared.layout.Layout.{Layout}
use Rattle.layout.specs.Check.{tree}
use Rattle.layout.specs.SoundLayout.{pieces_of, Holding, SoundLayout, Sized}
use Rattle.layout.proofs.Listed.{entry, piece_is}
use Rattle.layout.proofs.Exactly.{sound-shown}
use Rattle.layout.proofs.Marks.{Names}
use Rattle.layout.proofs.Ways.{onward}
use Rattle.questions.specs.Answers.{mark_of, mark_at_position, free_mark_of, removable_mark_of}
use Rattle.questions.proofs.Entries.{entry_at}

same-fields : (p : ℕ) {a b c e : ℕ} → a ≡ b → c ≡ e
    → ◌≡◌ {A = Mark} (record { layout = a; place = p; serial = c }) (record { layout = b; place = p; serial = e })
same-fields p x y = cc

module _ (l : Layout) (s : SoundLayout l) where
  -- every piece has a mark, and no other
  pub mark-names : (p : ℕ) (d : Datum) → At p d (tree l) → Names l (mark_of l p) d
  mark-names p d y =
      record { layout = refl; there = y; serial = sym (ap (λ (x : Datum). x.serial) (piece_is l.nodes (tree l) s.holds p d y)) }

  pub one-mark : (m : Mark) (d : Datum) → Names l m d → m ≡ mark_of l m.place
  one-mark m d n =
      same-fields m.place n.layout
      (sym n.serial ∙ sym (ap (λ (x : Datum). x.serial) (piece_is l.nodes (tree l) s.holds m.place d n.there)))

  pub same-mark : (m n : Mark) (d : Datum) → Names l m d → Names l n d → m ≡ n
  same-mark m n d a b =
      one-mark m d a ∙ ap (mark_of l) (s.serials.differ m.place n.place d d a.there b.there refl) ∙ sym (one-mark n d b)

  -- ---- the two lists

  module _ (sized : Sized l) where
    -- a list that holds the pieces of which P holds
    module _ (P : Datum → Type 0) (list : List ℕ) (n : ℕ) (fits : n ≤ length list) (h : Holding P (pieces_of (tree l)) (take n list)) where
      mark-at : (k : ℕ) → k < n → mark_at_position l list n k ≡ Ok (mark_of l (get_or list k 0))
      mark-at k b = sym (onward _ (sound-shown l sized s) (onward _ (lt-ltb k n b) refl))

      position-names : (k : ℕ) → k < n → (m : Mark) × (d : Datum) × (mark_at_position l list n k ≡ Ok m) × Names l m d × P d
      position-names k b =
          let e = entry_at list n fits h k b in
          let p = get_or list k 0 in
          (mark_of l p, e.0, mark-at k b, mark-names p e.0 e.1, e.2)

      names-position : (m : Mark) (d : Datum) → Names l m d → P d → (k : ℕ) × (k < n) × (mark_at_position l list n k ≡ Ok m)
      names-position m d y q =
          let g = h.all m.place d y.there q in
          let c = entry list n fits g.0 g.1 in
          (g.0, c.0, mark-at g.0 c.0 ∙ ap Ok (ap (mark_of l) (sym c.1 ∙ g.2) ∙ sym (one-mark m d y)))

    -- a position below the free list's end gives the mark of a free piece of the tree, and every free piece has such a position
    pub free-mark-names : (k : ℕ) → k < l.frees
        → (m : Mark) × (d : Datum) × (free_mark_of l k ≡ Ok m) × Names l m d × (d.kind ≡ Free)
    unfolding free_mark_of
    free-mark-names = position-names (λ d. d.kind ≡ Free) l.free l.frees (omega arith) s.free.holding

    pub names-free-mark : (m : Mark) (d : Datum) → Names l m d → d.kind ≡ Free → (k : ℕ) × (k < l.frees) × (free_mark_of l k ≡ Ok m)
    unfolding free_mark_of
    names-free-mark = names-position (λ d. d.kind ≡ Free) l.free l.frees (omega arith) s.free.holding

    -- and so for the removable list, and parts and structures
    pub removable-mark-names : (k : ℕ) → k < l.removables
        → (m : Mark) × (d : Datum) × (removable_mark_of l k ≡ Ok m) × Names l m d × (is_free d.kind ≡ false)
    unfolding removable_mark_of
    removable-mark-names =
        position-names (λ d. is_free d.kind ≡ false) l.removable l.removables (omega arith) s.removable

    pub names-removable-mark : (m : Mark) (d : Datum) → Names l m d → is_free d.kind ≡ false
        → (k : ℕ) × (k < l.removables) × (removable_mark_of l k ≡ Ok m)
    unfolding removable_mark_of
    names-removable-mark =
        names-position (λ d. is_free d.kind ≡ false) l.removable l.removables (omega arith) s.removable
