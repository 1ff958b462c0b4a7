-- What an opening at the counter does to the marks before it. Of another number: each is refused with 4. Of the same number: its mark is the very mark of the
-- first opening, and names a piece of the new sheet. So the law of marks (Counter) asks that a mark's number was opened once, and can't do
-- without. Rests on the opened layout (layout's Opened). Assumes nothing.
use mathlib.Core.Path.{◌≡◌, refl, sym, ap, ◌∙◌}
use mathlib.Core.Bool.{true}
use mathlib.Core.Logic.{inl, inr}
use Prim.Native.Nat.{ℕ}
use borrow.Author.Tests.{eq-eqb}
use Rattle.std.specs.Prelude.{Result, Ok, Err}
use Rattle.piece.specs.declared.node.Datum.{Datum}
use Rattle.piece.specs.declared.settings.Opening.{Opening}
use Rattle.tree.specs.Tree.{At}
use Rattle.tree.specs.Open.{first_free}
use Rattle.lists.proofs.Scan.{clash}
use Rattle.marks.specs.declared.Mark.{Mark}
use Rattle.marks.specs.declared.Refusal.TheVariants.{OtherLayout}
use Rattle.layout.specs.declared.layout.Layout.{Layout}
use Rattle.marks.specs.declared.Refusal.{Refusal}
use Rattle.layout.specs.Check.{tree, sound_b}
use Rattle.layout.specs.Open.{fresh_layout, open_of}
use Rattle.layout.specs.Insert.{piece_at}
use Rattle.layout.specs.Restore.{greater, with_serial, restore_of}
use Rattle.layout.proofs.Exactly.{sound-shown}
use Rattle.layout.proofs.Listed.{piece_is}
use Rattle.layout.proofs.Opened.{fresh-tree, fresh-sized, fresh-sound}
use Rattle.frames.specs.declared.Ask.TheVariants.{Open}
use Rattle.frames.specs.declared.Request.TheVariants.{OfLayout, Restore}
use Rattle.frames.specs.Answers.{opened, done}
use Rattle.session.specs.declared.Session.{Session}
use Rattle.session.specs.Session.{Reply, with_layout, reply, opened_by, after_open, after_restore, Answers}
use Rattle.session.proofs.Kept.{kept-after}
use Rattle.demands.specs.Life.{NamesPiece, SamePiece}
use Rattle.demands.specs.Counter.{Refuses}
use Rattle.demands.proofs.Outcomes.{opened-so}
use Rattle.demands.proofs.MarksNamed.{open-mark-names}
use Rattle.demands.proofs.Counter.{other-refused}

-- the mark of the free piece that an opening of this number leaves
abbrev first_mark : ℕ → Mark
first_mark number = record { layout = number; place = 1; serial = 2 }

module _ (o : Opening) where
  -- the opening was accepted, and the layout is its
  accepted : (s t : Session) (m : Mark) → Answers s (OfLayout (Open o)) t (opened m)
      → ((open_of o).outcome ≡ Ok m) × (t.layout ≡ (open_of o).layout)
  unfolding Answers after_open
  accepted s t m h = go (open_of o).outcome h
    where
      go : (v : Result Mark Refusal) → reply t (opened m) ≡ opened_by s (open_of o).layout v → (v ≡ Ok m) × (t.layout ≡ (open_of o).layout)
      go (Ok k) h =
          let same : opened m ≡ opened k = ap (λ (r : Reply). r.answer) h in
          let is : m ≡ k = cc in (ap Ok (sym is), ap (λ (r : Reply). r.session.layout) h)
      go (Err e) h = let z = ap (λ (r : Reply). r.answer) h in absurd (clash (cc))

  module _ (m : Mark) (e : (open_of o).outcome ≡ Ok m) where
    checked : sound_b (open_of o).layout ≡ true
    checked = let z = opened-so o m e in rw z.1 (sound-shown _ (fresh-sized o) (fresh-sound o z.0))

    its-number : (open_of o).layout.number ≡ o.number
    unfolding fresh_layout
    its-number = rw (opened-so o m e).1 refl

    -- the mark is that of the free piece, which has the sheet's size
    its-piece : piece_at (open_of o).layout m.place ≡ first_free o
    its-piece =
        let z = opened-so o m e in
        let l = fresh_layout o in
        let there : At 1 (first_free o) (tree l) = rw (fresh-tree o) (inr (inl (inl (refl, refl)))) in
        rw (z.1, z.2) (piece_is l.nodes (tree l) (fresh-sound o z.0).holds 1 (first_free o) there)

-- OF ANOTHER NUMBER: each mark that does not have it is refused with 4
pub another-number : (s t : Session) (o : Opening) (m : Mark) → Answers s (OfLayout (Open o)) t (opened m)
    → (k : Mark) → (k.layout ≡ o.number → ⊥) → Refuses OtherLayout t k
another-number s t o m h k other =
    let z = accepted o s t m h in
    let number = ap (λ (l : Layout). l.number) z.1 ∙ its-number o m z.0 in
    other-refused t k (rw z.1 (checked o m z.0)) (λ e. other (e ∙ number))

-- OF THE SAME NUMBER: it answers the same mark, which names a piece of the new layout; and that is the first one's only if the sheet has its size
pub the_same_number : (s t u v : Session) (o : Opening) (m : Mark) → Answers s (OfLayout (Open o)) t (opened m)
    → (o' : Opening) (m' : Mark) → o'.number ≡ o.number → Answers u (OfLayout (Open o')) v (opened m')
    → (m' ≡ m) × NamesPiece v.layout m × (SamePiece t.layout v.layout m → o'.settings.sheet ≡ o.settings.sheet)
the_same_number s t u v o m h o' m' number h' =
    let z = accepted o s t m h in
    let y = accepted o' u v m' h' in
    let same : m' ≡ m = (opened-so o' m' y.0).2 ∙ ap first_mark number ∙ sym (opened-so o m z.0).2 in
    let first = ap (λ (l : Layout). piece_at l m.place) z.1 ∙ its-piece o m z.0 in
    let second = ap (λ (l : Layout). piece_at l m'.place) y.1 ∙ its-piece o' m' y.0 in (
      same,
      rw (← same, y.1) (open-mark-names o' m' y.0).names,
      λ p.
          let new : piece_at v.layout m.place ≡ first_free o' = ap (λ (k : Mark). piece_at v.layout k.place) (sym same) ∙ second in
          ap (λ (d : Datum). d.size) (sym new ∙ p.piece ∙ first),
    )

-- and what is kept of the first can be put back on it: the marks of the first opening name its pieces again
pub the-first-put-back : (u v : Session) (o : Opening) (m : Mark) → Answers u (OfLayout (Open o)) v (opened m)
    → sound_b u.kept ≡ true → u.kept.number ≡ o.number
    → (w : Session) × Answers v Restore w (done 6) × (w.layout.nodes ≡ u.kept.nodes)
unfolding Answers after_restore restore_of
the-first-put-back u v o m h sound same =
    let z = accepted o u v m h in
    let kept : v.kept ≡ u.kept = kept-after u (OfLayout (Open o)) v (opened m) h in
    let whole : sound_b v.layout ≡ true = rw z.1 (checked o m z.0) in
    let its = ap (λ (l : Layout). l.number) z.1 ∙ its-number o m z.0 in
    let agree = eq-eqb v.layout.number v.kept.number (its ∙ sym same ∙ ap (λ (l : Layout). l.number) (sym kept)) in
    let again : sound_b v.kept ≡ true = rw kept sound in
    (with_layout v (with_serial v.kept (greater v.layout.serial v.kept.serial)), rw (whole, again, agree) refl, rw kept refl)
