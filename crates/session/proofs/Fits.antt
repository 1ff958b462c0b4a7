-- Every answer of a session fits the fields of its frame: places and counts are below 256, since the limit is 255, and so nothing is cut where an answer
-- is written, and its line reads back. The marks are those of pieces of the next layout, which is sound; part numbers are those of a sound tree.
use mathlib.Core.Path.{◌≡◌, refl, sym, ap, ◌∙◌}
use mathlib.Core.Bool.{Bool, true, false, cond}
use mathlib.Core.List.{List, ◌∷◌, ◌++◌}
use mathlib.Core.Logic.{inl, inr}
use Prim.Native.Nat.{ℕ, zero, suc, ◌^◌, ◌<◌, ◌≤◌}
use native.Mathlib.Omega.{arith}
use lib.Dec.{eqb}
use lib.Ieee.{binary64}
use lib.Ieee.Bits.{to_bits-lt}
use lib.Ieee.Fits.{div-fits}
use lib.ListN.{take, length-take}
use Rattle.std.specs.Prelude.{Result, Ok, Err, ⊤}
use Rattle.piece.specs.declared.rotation.Rotation.{Rotation}
use Rattle.piece.specs.declared.parttype.PartType.{PartType}
use Rattle.piece.specs.declared.insertion_blueprint.InsertionShape.{InsertionShape}
use Rattle.piece.specs.declared.node.Datum.{Datum}
use Rattle.piece.specs.declared.node.Kind.{Kind}
use Rattle.piece.specs.declared.node.Kind.TheVariants.{Free, Part, Structure}
use Rattle.piece.specs.declared.settings.Opening.{Opening}
use Rattle.piece.specs.declared.settings.Settings.{Settings}
use Rattle.piece.specs.Row.{nil, grow}
use Rattle.piece.specs.Kinds.{is_free, is_part}
use Rattle.tree.specs.Tree.{Tree, At, after}
use Rattle.tree.specs.Sound.{Kinded, Children, Topped}
use Rattle.tree.specs.Booking.{block}
use Rattle.tree.specs.Figures.{sheet_usage}
use Rattle.tree.specs.Removal.{subtree, numbers}
use Rattle.tree.proofs.BookPieces.{book-new}
use Rattle.marks.specs.declared.Mark.{Mark}
use Rattle.marks.specs.declared.Refusal.TheVariants.{OpeningOutside}
use Rattle.marks.specs.Marks.{zero_mark}
use Rattle.booking.specs.Marks.{head_mark, marks_in, block_marks}
use Rattle.removal.specs.Remove.{new_free}
use Rattle.removal.proofs.Pieces.{new-there}
use Rattle.layout.specs.declared.layout.Layout.{Layout}
use Rattle.marks.specs.declared.Refusal.{Refusal}
use Rattle.layout.specs.declared.insert.Inserted.{Inserted}
use Rattle.layout.specs.declared.remove.Removed.{Removed}
use Rattle.layout.specs.Check.{limit, tree, sound_b, domain_b}
use Rattle.layout.specs.Zero.{zero_layout}
use Rattle.layout.specs.SoundLayout.{SoundLayout, Sized}
use Rattle.layout.specs.Open.{fresh_layout, open_of}
use Rattle.layout.specs.Insert.{InsertSays, booking_for, piece_at}
use Rattle.layout.specs.Remove.{RemoveSays, place_for, numbers_out}
use Rattle.layout.specs.Restore.{restore_of}
use Rattle.layout.proofs.Admitted.{insertable}
use Rattle.layout.proofs.Inserted.{insert-accepted, insert-says}
use Rattle.layout.proofs.Gone.{may-take, remove-accepted, remove-says}
use Rattle.layout.proofs.Areas.{used-small}
use Rattle.layout.proofs.Exactly.{sound-says}
use Rattle.layout.proofs.Listed.{piece-low}
use Rattle.piece.specs.declared.insertion_option.OfferList.{OfferList}
use Rattle.questions.specs.Answers.{offers_call, offers_count}
use Rattle.frames.specs.declared.Ask.TheVariants.{Open, Offers, Insert, Remove, Report}
use Rattle.frames.specs.declared.Request.{Request}
use Rattle.frames.specs.declared.Request.TheVariants.{OfLayout, Keep, Restore, Malformed}
use Rattle.frames.specs.Bytes.{pairs, chars_of}
use Rattle.frames.specs.Answers.{Answer, done, answer_bytes}
use Rattle.frames.specs.Ranges.{MarkFits, RequestFits, Each, none, more, AnswerFits}
use Rattle.frames.proofs.AnswerLaws.{answer_back}
use Rattle.session.specs.declared.Session.{Session}
use Rattle.session.specs.Session.{Reply, answer_by, offers_by, marks_said, numbers_said, kept_by, report_by, Answers}
use Rattle.session.specs.Session.{after_open, after_offers, after_insert, after_remove, after_keep, after_restore, after_report}
use Rattle.session.proofs.Ways.{offers-four}

-- ---- lists
module _ {A : Type 0} {P : A → Type 0} where
  each_take : {xs : List A} (n : ℕ) → Each P xs → Each P (take n xs)
  each_take zero e = none
  each_take (suc n) none = none
  each_take (suc n) (more {x = x} {xs = xs} p e) = more p (each_take {xs = xs} n e)

  each-join : {xs ys : List A} → Each P xs → Each P ys → Each P (xs ++ ys)
  each-join none f = f
  each-join (more p e) f = more p (each-join e f)

clash : ◌≡◌ {A = Bool} false true → ⊥
clash t = let z : ◌≡◌ {A = ℕ} 0 1 = cc in omega arith

-- ---- the part numbers that come out of a sound tree
-- every part of the row, and below it, has a number of two bytes
abbrev Numbered : Tree → Type 0
Numbered nil = Unit {0}
Numbered (grow p d k r) = (is_part d.kind ≡ true → d.number < 2 ^ 16) × Numbered k × Numbered r

piece-numbered : (κ : Kind) (d : Datum) (k r : Tree) → Kinded κ d k r → is_part κ ≡ true → d.number < 2 ^ 16
piece-numbered Free d k r h e = absurd (clash e)
piece-numbered Part d k r h e = omega (arith, h.numbered)
piece-numbered Structure d k r h e = absurd (clash e)

row-numbered : (settings : Settings) (q : Datum) (w : Tree) → Children settings q w → Numbered w
row-numbered settings q nil h = tt
row-numbered settings q (grow p d k r) h =
    (piece-numbered d.kind d k r h.kinded, row-numbered settings d k h.below, row-numbered settings q r h.beside)

tree-numbered : (settings : Settings) (w : Tree) → Topped settings w → Numbered w
tree-numbered settings nil h = absurd h
tree-numbered settings (grow p d k r) h =
    let top = h.0 in
    ((λ e. absurd (clash (sym (ap is_part top.kind) ∙ e))), row-numbered settings d k h.1, rw top.alone tt)

after-numbered : (v w : Tree) → Numbered v → Numbered w → Numbered (after v w)
after-numbered nil w h j = j
after-numbered (grow p d k r) w h j = (h.0, h.1, after-numbered r w h.2 j)

subtree-numbered : (x : ℕ) (w : Tree) → Numbered w → Numbered (subtree x w)
subtree-numbered x nil h = tt
subtree-numbered x (grow y d k r) h =
    go (eqb y x) (grow y d k nil) (after (subtree x k) (subtree x r)) (h.0, h.1, tt)
    (after-numbered (subtree x k) (subtree x r) (subtree-numbered x k h.1) (subtree-numbered x r h.2))
  where
    go : (b : Bool) (v w : Tree) → Numbered v → Numbered w → Numbered (cond b v w)
    go true v w f g = f
    go false v w f g = g

numbers-small : (w : Tree) → Numbered w → Each (λ n. n < 2 ^ 16) (numbers w)
numbers-small nil h = none
numbers-small (grow p d k r) h = go (is_part d.kind) h.0 (each-join (numbers-small k h.1) (numbers-small r h.2))
  where
    go : (b : Bool) → (b ≡ true → d.number < 2 ^ 16) → Each (λ n. n < 2 ^ 16) (numbers k ++ numbers r)
        → Each (λ n. n < 2 ^ 16) (cond b (d.number ∷ (numbers k ++ numbers r)) (numbers k ++ numbers r))
    go true f e = more (f refl) e
    go false f e = e

-- ---- marks
-- the pieces of a row have places of one byte and serials of four
abbrev Placed : Tree → Type 0
Placed w = (p : ℕ) (d : Datum) → At p d w → (p < 2 ^ 8) × (d.serial < 2 ^ 32)

-- so have those of a sound layout
layout-placed : (l : Layout) → SoundLayout l → Placed (tree l)
layout-placed l s p d y =
    (omega (arith, piece-low l.nodes (tree l) s.holds p d y), omega (arith, s.serials.most p d y, s.serials.spent))

zero-fits : MarkFits zero_mark
zero-fits = record { layout = omega arith; place = omega arith; serial = omega arith }

module _ (number : ℕ) (small : number < 2 ^ 16) where
  marks-fit : (test : Kind → Bool) (w : Tree) → Placed w → Each MarkFits (marks_in number test w)
  marks-fit test nil h = none
  marks-fit test (grow p d k r) h =
      go (test d.kind) (each-join (marks-fit test k (λ i e y. h i e (inr (inl y)))) (marks-fit test r (λ i e y. h i e (inr (inr y)))))
    where
      own : MarkFits (record { layout = number; place = p; serial = d.serial })
      own = let z = h p d (inl (refl, refl)) in record { layout = small; place = z.0; serial = z.1 }

      go : (b : Bool) → Each MarkFits (marks_in number test k ++ marks_in number test r)
          → Each MarkFits
          (cond b (record { layout = number; place = p; serial = d.serial } ∷ (marks_in number test k ++ marks_in number test r))
          (marks_in number test k ++ marks_in number test r))
      go true e = more own e
      go false e = e

  head-fits : {ms : List Mark} → Each MarkFits ms → MarkFits (head_mark ms)
  head-fits none = zero-fits
  head-fits (more p e) = p

  -- the marks of a block
  block-fits : (w : Tree) → Placed w
      → MarkFits (block_marks number w).first × MarkFits (block_marks number w).part
      × Each MarkFits (take (block_marks number w).count (block_marks number w).frees)
  unfolding block_marks
  block-fits w h = (
    head-fits (marks-fit (λ (k : Kind). true) w h),
    head-fits (marks-fit is_part w h),
    each_take (block_marks number w).count (each_take 2 (each-join (marks-fit is_free w h) (more zero-fits (more zero-fits none)))),
  )

-- ---- the answer of each call
-- an answer, or a refusal of the same op
by-outcome : (op : ℕ) (a : Answer) (v : Result ⊤ Refusal) → op < 2 ^ 8 → (v ≡ Ok tt → AnswerFits a) → AnswerFits (answer_by op a v)
by-outcome op a (Ok tt) h f = f refl
by-outcome op a (Err e) h f = h

by-offers : (o : Result OfferList Refusal) → offers_count o ≤ 4 → AnswerFits (offers_by o)
by-offers (Ok o) few = omega (arith, length-take o.count o.list, few)
by-offers (Err e) few = omega arith

by-opening : (s : Session) (o : Opening) → o.number < 2 ^ 16
    → AnswerFits (after_open s (open_of o)).answer
unfolding after_open open_of
by-opening s o h = go (domain_b o.settings)
  where
    go : (b : Bool)
        → AnswerFits (after_open s
        (cond b (record { outcome = Ok (record { layout = o.number; place = 1; serial = 2 }); layout = fresh_layout o })
        (record { outcome = Err OpeningOutside; layout = zero_layout }))).answer
    go true = record { layout = h; place = omega arith; serial = omega arith }
    go false = omega arith

module _ (s : Session) (sized : Sized s.layout) (number : s.layout.number < 2 ^ 16) where
  abbrev l : Layout
  l = s.layout

  insert-fits : (m : Mark) (p : PartType) (r : Rotation) (f : InsertionShape) (i : Inserted) → InsertSays l m p r f i
      → i.outcome ≡ Ok tt → AnswerFits (marks_said i.marks)
  insert-fits m p r f i says accepted =
      let z = insert-accepted l m p r f i says accepted in
      let can = insertable l m p r f sized z.0 in
      let b = booking_for l m.place p r f in
      let d = piece_at l m.place in
      let new : Placed (block b d) =
      λ q e y. layout-placed i.layout z.1.next.sound q e
      (rw z.1.next.tree (book-new limit l.settings (tree l) can.sound.sound m.place d can.there can.free b q e y)) in
      let fits = block-fits l.number number (block b d) new in
      let few = insert-says l m p r f i says accepted in
      let e = z.1.marks in (
        rw e fits.0,
        rw e fits.1,
        omega (arith, length-take i.marks.count i.marks.frees, few),
        rw e fits.2,
      )

  remove-fits : (m : Mark) (r : Removed) → RemoveSays l m limit r → r.outcome ≡ Ok tt → AnswerFits (numbers_said s m r)
  unfolding numbers_out
  remove-fits m r says accepted =
      let z = remove-accepted l m limit r says accepted in
      let can = may-take l m limit sized z.0 in
      let n = place_for l m.place in
      let there : At n (new_free l.nodes m.place l.serial) (tree r.layout) =
      rw z.1.next.tree
      (new-there limit l.settings l.nodes (tree l) can.sound.sound can.sound.holds m.place can.removable n l.serial) in
      let place = (layout-placed r.layout z.1.next.sound n _ there).0 in (
        rw z.1.free (record { layout = number; place = place; serial = omega (arith, can.spent) }),
        omega (arith, (remove-says l m limit r sized says accepted).few),
        numbers-small (subtree m.place (tree l))
            (subtree-numbered m.place (tree l) (tree-numbered l.settings (tree l) can.sound.sound.topped)),
      )

  report-fits : (b : Bool) → sound_b s.layout ≡ b → AnswerFits (report_by s.layout b)
  unfolding sheet_usage
  report-fits true e =
      let t = sound-says s.layout sized e in (
        omega (arith, (used-small s.layout t).0, t.used),
        omega (arith, t.sound.room),
        to_bits-lt binary64 _ (div-fits binary64 _ _),
      )
  report-fits false e = omega arith

  keep-fits : (b : Bool) → AnswerFits (kept_by s b).answer
  keep-fits true = omega arith
  keep-fits false = omega arith

  -- THE LAW: a request that fits, at a layout that is as its type says, gets an answer that fits
  pub answer-fits : (q : Request) (t : Session) (a : Answer) → RequestFits q → Answers s q t a → AnswerFits a
  unfolding Answers after_open after_offers after_insert after_remove after_keep after_restore after_report
  answer-fits (OfLayout (Open o)) t a f h =
      rw (ap (λ (r : Reply). r.answer) h) (by-opening s o f.number)
  answer-fits (OfLayout (Offers m p)) t a f h =
      rw (ap (λ (r : Reply). r.answer) h) (by-offers (offers_call s.layout m p) (offers-four s.layout m p))
  answer-fits (OfLayout (Insert m p r g)) t a f h =
      rw (ap (λ (r : Reply). r.answer) h.2)
      (by-outcome 3 (marks_said h.0.marks) h.0.outcome (omega arith) (insert-fits m p r g h.0 h.1))
  answer-fits (OfLayout (Remove m)) t a f h =
      rw (ap (λ (r : Reply). r.answer) h.2)
      (by-outcome 4 (numbers_said s m h.0) h.0.outcome (omega arith) (remove-fits m h.0 h.1))
  answer-fits (OfLayout Report) t a f h = rw (ap (λ (r : Reply). r.answer) h) (report-fits (sound_b s.layout) refl)
  answer-fits Keep t a f h = rw (ap (λ (r : Reply). r.answer) h) (keep-fits (sound_b s.layout))
  answer-fits Restore t a f h =
      rw (ap (λ (r : Reply). r.answer) h)
      (by-outcome 6 (done 6) (restore_of s.layout s.kept).outcome (omega arith) (λ e. omega arith))
  answer-fits Malformed t a f h = rw (ap (λ (r : Reply). r.answer) h) tt

  -- so what is written reads back
  pub answer-read : (q : Request) (t : Session) (a : Answer) → RequestFits q → Answers s q t a → pairs (chars_of (answer_bytes a)) ≡ answer_bytes a
  answer-read q t a f h = answer_back a (answer-fits q t a f h)
