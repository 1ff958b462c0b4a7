-- Document 01, "Marks": in a sound layout a mark names the piece of the tree that stands at its place with its serial, and `sought` finds exactly
-- that piece; what the head of a call on a free piece has passed. (Crate `questions` says that every piece has one mark, and which marks the two lists
-- give.)
use mathlib.Core.Path.{◌≡◌, refl, sym, ap, ◌∙◌}
use mathlib.Core.Bool.{Bool, true, false, cond, not, ◌||◌}
use Prim.Native.Nat.{◌<◌}
use native.Mathlib.Omega.{arith}
use lib.Dec.{eqb, leb}
use borrow.Author.Tests.{eq-eqb, ne_eqb, lt-leb, eqb-true, eqb-false, leb-false, not-false}
use Rattle.std.specs.Prelude.{Result, Ok, Err}
use Rattle.piece.specs.declared.node.Datum.{Datum}
use Rattle.piece.specs.declared.parttype.PartType.{PartType}
use Rattle.piece.specs.Kinds.{is_free}
use Rattle.tree.specs.Tree.{At}
use Rattle.table.specs.Table.{at}
use Rattle.marks.specs.declared.Mark.{Mark}
use Rattle.marks.specs.declared.Refusal.TheVariants.{NotSound, PartOutside, OtherLayout, Gone, NotFree}
use Rattle.sound.proofs.Says.{clash}
use Rattle.layout.specs.declared.layout.Layout.{Layout}
use Rattle.marks.specs.declared.Refusal.{Refusal}
use Rattle.layout.specs.Check.{limit, tree, sound_b}
use Rattle.layout.specs.Asked.{part_b, gone_b, sought_of, only_free, free_piece_of}
use Rattle.layout.specs.SoundLayout.{SoundLayout}
use Rattle.layout.proofs.Listed.{piece-low, piece_is, piece-held}
use Rattle.layout.proofs.Ways.{onward, ended, or_else}

-- the mark is that of the piece d
pub record Names (l : Layout) (m : Mark) (d : Datum) : Type 0 where
  pub layout : m.layout ≡ l.number
  pub there : At m.place d (tree l)
  pub serial : d.serial ≡ m.serial

-- ---- what a test that passed says

neither : (a b : Bool) → (a || b) ≡ false → (a ≡ false) × (b ≡ false)
neither false b e = (refl, e)
neither true b e = absurd (clash (sym e))

-- a piece is given only past both refusals
found : (a g : Bool) (e d : Datum)
    → cond a (cond g (Err Gone) (Ok e)) (Err OtherLayout) ≡ Ok d
    → (a ≡ true) × (g ≡ false) × (e ≡ d)
found true false e d h = (refl, refl, cc)
found true true e d h = absurd (clash (cc))
found false g e d h = absurd (clash (cc))

module _ (l : Layout) (s : SoundLayout l) where
  -- "gone: place not held, or another serial there": what is not gone is there
  there-is : (m : Mark) → gone_b l m ≡ false
      → At m.place (at l.nodes m.place).datum (tree l) × ((at l.nodes m.place).datum.serial ≡ m.serial)
  there-is m e =
      let serial = (at l.nodes m.place).datum.serial in
      let a = neither (leb limit m.place) (eqb serial 0 || not (eqb serial m.serial)) e in
      let b = neither (eqb serial 0) (not (eqb serial m.serial)) a.1 in
      let some : 0 < serial = omega (arith, eqb-false serial 0 b.0) in (
        piece-held l.nodes (tree l) s.holds m.place (leb-false limit m.place a.0) some,
        eqb-true serial m.serial (not-false (eqb serial m.serial) b.1),
      )

  -- `sought` finds exactly the piece that the mark names
  pub sought-names : (m : Mark) (d : Datum) → sought_of l m ≡ Ok d → Names l m d
  unfolding sought_of
  sought-names m d e =
      let f = found (eqb m.layout l.number) (gone_b l m) (at l.nodes m.place).datum d e in
      let t = there-is m f.1 in
      record {
        layout = eqb-true m.layout l.number f.0;
        there = rw f.2 at t.0;
        serial = sym (ap (λ (x : Datum). x.serial) f.2) ∙ t.1;
      }

  pub names-sought : (m : Mark) (d : Datum) → Names l m d → sought_of l m ≡ Ok d
  unfolding sought_of
  names-sought m d n =
      let is = piece_is l.nodes (tree l) s.holds m.place d n.there in
      let low = piece-low l.nodes (tree l) s.holds m.place d n.there in
      let serial = ap (λ (x : Datum). x.serial) is in
      let least = s.serials.least m.place d n.there in
      let some : (at l.nodes m.place).datum.serial ≡ 0 → ⊥ = λ z. omega arith in
      let gone : gone_b l m ≡ false =
      or_else (lt-leb limit m.place low) (or_else (ne_eqb _ 0 some) (ap not (eq-eqb _ m.serial (serial ∙ n.serial))))
      in
      sym (onward _ (eq-eqb m.layout l.number n.layout) (ended _ gone (ap Ok (sym is))))

-- ---- the head of a call on a free piece

-- each of its refusals is passed, and d is the piece that the mark names
pub record Headed (l : Layout) (m : Mark) (p : PartType) (d : Datum) : Type 0 where
  pub sound : sound_b l ≡ true
  pub part : part_b p ≡ true
  pub named : sought_of l m ≡ Ok d
  pub free : is_free d.kind ≡ true

free-only : (x d : Datum) (b : Bool) → is_free x.kind ≡ b → cond b (Ok x) (Err NotFree) ≡ Ok d
    → (x ≡ d) × (is_free d.kind ≡ true)
free-only x d true e h = let is : x ≡ d = cc in (is, rw is at e)
free-only x d false e h = absurd (clash (cc))

pub headed : (l : Layout) (m : Mark) (p : PartType) (d : Datum) → free_piece_of l m p ≡ Ok d → Headed l m p d
unfolding free_piece_of
headed l m p d = go (sound_b l) refl (part_b p) refl (sought_of l m) refl
  where
    go : (a : Bool) → sound_b l ≡ a → (b : Bool) → part_b p ≡ b → (q : Result Datum Refusal) → sought_of l m ≡ q
        → cond a (cond b (only_free q) (Err PartOutside)) (Err NotSound) ≡ Ok d → Headed l m p d
    go true e true f (Ok x) g h =
        let o = free-only x d (is_free x.kind) refl h in
        record { sound = e; part = f; named = g ∙ ap Ok o.0; free = o.1 }
    go true e true f (Err r) g h = absurd (clash (cc))
    go true e false f q g h = absurd (clash (cc))
    go false e b f q g h = absurd (clash (cc))
