-- Document 01, "Sound layout": the clauses on the two lists. The test of a list says yes exactly when it holds the pieces that it should, each
-- once, with a zero tail; and the test of the order exactly when the free list is in order.
use mathlib.Core.Path.{◌≡◌, refl, sym, ap, ◌∙◌}
use mathlib.Core.List.{List}
use mathlib.Core.Bool.{Bool, true, false, cond, not, ◌&&◌}
use mathlib.Core.Logic.{⊎_elim}
use Prim.Native.Nat.{ℕ, ◌+◌, ◌<◌, ◌≤◌}
use native.Mathlib.Omega.{arith}
use lib.Dec.{eqb}
use lib.ListN.{get_or, length, take}
use lib.Seq.{length-take-le, get_or-take}
use Rattle.piece.specs.declared.node.Datum.{Datum}
use Rattle.piece.specs.declared.node.Kind.{Kind}
use Rattle.piece.specs.declared.node.Kind.TheVariants.{Free, Part, Structure}
use Rattle.piece.specs.Sides.{area}
use Rattle.piece.specs.Kinds.{is_free}
use Rattle.piece.specs.Numbers.{kind_no}
use Rattle.tree.specs.Tree.{Tree, At}
use Rattle.tree.specs.Steps.{Marked}
use Rattle.tree.proofs.Rows.{in?, at_in}
use Rattle.table.specs.declared.Node.{Node}
use Rattle.table.specs.Table.{at, Held, Holds}
use Rattle.table.proofs.Rep.{bound}
use Rattle.table.proofs.Links.{datum-is}
use Rattle.lists.specs.Search.{zero_tail}
use Rattle.lists.specs.Flags.{ok_b, flags_of}
use Rattle.lists.proofs.Named.{ok-count, ok-below, ok-differ, ok-all, flag-named, flag_one}
use Rattle.lists.proofs.Padded.{zero-tail-drop, drop-zero-tail}
use Rattle.sound.specs.Columns.{areas_of, serials_of, kinds_of}
use Rattle.sound.specs.Listed.{wanted_in, covers_b, sorted_b}
use Rattle.sound.proofs.Says.{Says, clash, worded, eq-says, some-says, true-says, false-says, and-says, then-says, itself-says, same-says}
use Rattle.sound.proofs.Worth.{serial-at, kind_at, area-at}
use Rattle.sound.proofs.Serials.{shown-at}
use Rattle.sound.proofs.Lists.{covers-says, covers-shown, sorted_all, sorted-shown}
use Rattle.sound.proofs.Lists.{Before as Ordered}
use Rattle.layout.specs.Check.{limit, covered_b}
use Rattle.layout.specs.SoundLayout.{pieces_of, Before, Holding, FreeList, Counted}

-- ---- tests

-- the kind that a list holds, as its test reads it
abbrev pub of_kind : Bool → Kind → Bool
of_kind free κ = cond free (eqb (kind_no κ) 0) (not (eqb (kind_no κ) 0))

pub free-says : (κ : Kind) → Says (of_kind true κ) (κ ≡ Free)
free-says Free = true-says refl
free-says Part = worded false-says absurd (λ e. clash (cc))
free-says Structure = worded false-says absurd (λ e. clash (cc))

pub removable-says : (κ : Kind) → Says (of_kind false κ) (is_free κ ≡ false)
removable-says Free = worded false-says absurd (λ e. clash (sym e))
removable-says Part = true-says refl
removable-says Structure = true-says refl

-- ---- the entries that count

module _ (l : List ℕ) (n : ℕ) (fits : n ≤ length l) where
  pub entries : length (take n l) ≡ n
  entries = length-take-le n l fits

  pub entry : (k : ℕ) → k < length (take n l) → (k < n) × (get_or (take n l) k 0 ≡ get_or l k 0)
  entry k b = let e = entries in let c : k < n = omega arith in (c, get_or-take n l k 0 c)

-- ---- the pieces of a tree that a table holds

module _ (t : List Node) (w : Tree) (h : Holds limit t w) where
  pub piece-low : (i : ℕ) (d : Datum) → At i d w → i < limit
  piece-low i d y = bound limit t limit limit i w h.rep (at_in i d w y)

  pub piece_is : (i : ℕ) (d : Datum) → At i d w → (at t i).datum ≡ d
  piece_is i d y = datum-is limit t limit limit i d w h.rep y

  pub piece-held : (i : ℕ) → i < limit → Held t i → At i (at t i).datum w
  piece-held i b l =
      ⊎_elim (shown-at limit t limit limit i w h.rep)
      (λ n. let z = ap (λ (x : Node). x.datum.serial) (h.rest i b n) in let no-serial : ⊥ = omega arith in absurd no-serial) (in? i w)

  pub serial-of : (i : ℕ) (d : Datum) → At i d w → get_or (serials_of t) i 0 ≡ d.serial
  serial-of i d y = serial-at t i ∙ ap (λ (x : Datum). x.serial) (piece_is i d y)

  pub area_of : (i : ℕ) (d : Datum) → At i d w → get_or (areas_of t) i 0 ≡ area d.size
  area_of i d y = area-at t i ∙ ap (λ (x : Datum). area x.size) (piece_is i d y)

-- ---- one list, of the pieces of which P holds

module _ (t : List Node) (w : Tree) (h : Holds limit t w) (marked : Marked w) (free : Bool) (P : Datum → Type 0)
    (means : (d : Datum) → Says (of_kind free d.kind) (P d)) where
  wanted-says : (i : ℕ) → Says (wanted_in free (serials_of t) (kinds_of t) i) (Held t i × P (at t i).datum)
  wanted-says i = rw (serial-at t i, kind_at t i) (and-says (some-says (at t i).datum.serial) (means (at t i).datum))

  module _ (l : List ℕ) (n : ℕ) (len : length l ≡ limit) where
    -- one of the entries that count names the place
    abbrev Names : ℕ → Type 0
    Names p = (k : ℕ) × (k < n) × (get_or l k 0 ≡ p)

    flag-says : ok_b limit l n ≡ true → (p : ℕ) → p < limit → Says (eqb (get_or (flags_of limit l n) p 0) 1) (Names p)
    flag-says ok p b =
        worded (eq-says (get_or (flags_of limit l n) p 0) 1) (flag_one limit l n ok p b) (λ y. flag-named limit l n ok p y.0 b y.1 y.2)

    covered-listed : ok_b limit l n ≡ true → covers_b limit free (serials_of t) (kinds_of t) (flags_of limit l n) ≡ true
        → Holding P (pieces_of w) (take n l)
    covered-listed ok e = record { each = each; all = all; once = once }
      where
        fits : n ≤ length l
        fits = let c = ok-count limit l n ok in omega arith

        same : (p : ℕ) → p < limit → wanted_in free (serials_of t) (kinds_of t) p ≡ eqb (get_or (flags_of limit l n) p 0) 1
        same = covers-says limit free (serials_of t) (kinds_of t) (flags_of limit l n) e

        each : (k : ℕ) → k < length (take n l) → (d : Datum) × At (get_or (take n l) k 0) d w × P d
        each k b =
            let c = entry l n fits k b in
            let low = ok-below limit l n ok k c.0 in
            let g = (wanted-says (get_or l k 0)).says (same (get_or l k 0) low ∙ (flag-says ok (get_or l k 0) low).passes (k, c.0, refl)) in
            rw c.1 ((at t (get_or l k 0)).datum, piece-held t w h (get_or l k 0) low g.0, g.1)

        all : (p : ℕ) (d : Datum) → At p d w → P d → (k : ℕ) × (k < length (take n l)) × (get_or (take n l) k 0 ≡ p)
        all p d y q =
            let low = piece-low t w h p d y in
            let is = piece_is t w h p d y in
            let there : wanted_in free (serials_of t) (kinds_of t) p ≡ true = (wanted-says p).passes (rw is (marked p d y, q)) in
            let g = (flag-says ok p low).says (sym (same p low) ∙ there) in
            (g.0, rw (entries l n fits) g.1, get_or-take n l g.0 0 g.1 ∙ g.2)

        once : (j k : ℕ) → j < length (take n l) → k < length (take n l) → get_or (take n l) j 0 ≡ get_or (take n l) k 0 → j ≡ k
        once j k a b z =
            let c = entry l n fits j a in
            let d = entry l n fits k b in
            ok-differ limit l n ok j k c.0 d.0 (sym c.1 ∙ z ∙ d.1)

    module _ (room : n ≤ limit) (holding : Holding P (pieces_of w) (take n l)) where
      fits : n ≤ length l
      fits = omega arith

      -- an entry that counts, of the list itself
      within : (k : ℕ) → k < n → (k < length (take n l)) × (get_or (take n l) k 0 ≡ get_or l k 0)
      within k b = (rw (entries l n fits) b, get_or-take n l k 0 b)

      listed_at : (k : ℕ) → k < n → (d : Datum) × At (get_or l k 0) d w × P d
      listed_at k b = let c = within k b in rw c.1 at (holding.each k c.0)

      listed_ok : ok_b limit l n ≡ true
      listed_ok =
          ok-all limit l n room (λ k b. let g = listed_at k b in piece-low t w h (get_or l k 0) g.0 g.1)
          (λ j k a b z.
          let c = within j a in
          let d = within k b in
          holding.once j k c.0 d.0 (c.1 ∙ z ∙ sym d.1))

      listed-covered : covers_b limit free (serials_of t) (kinds_of t) (flags_of limit l n) ≡ true
      listed-covered =
          covers-shown limit free (serials_of t) (kinds_of t) (flags_of limit l n)
          (λ p b. same-says (wanted-says p) (worded (flag-says listed_ok p b) (wants p) (names p b)))
        where
          wants : (p : ℕ) → Names p → Held t p × P (at t p).datum
          wants p y =
              let g : (d : Datum) × At p d w × P d = rw y.2 at (listed_at y.0 y.1) in
              rw (piece_is t w h p g.0 g.1) (marked p g.0 g.1, g.2)

          names : (p : ℕ) → p < limit → Held t p × P (at t p).datum → Names p
          names p b y =
              let g = holding.all p (at t p).datum (piece-held t w h p b y.0) y.1 in
              let c = entry l n fits g.0 g.1 in
              (g.0, c.0, sym c.1 ∙ g.2)

    tail-says : ok_b limit l n ≡ true → Says (zero_tail limit l n) (Counted l n)
    tail-says ok =
        record {
          says = λ e. record { room = ok-count limit l n ok; tail = zero-tail-drop limit l n len e };
          passes = λ c. drop-zero-tail limit l n len c.tail;
        }

    pub covered-says : Says (covered_b free l n (serials_of t) (kinds_of t)) (Holding P (pieces_of w) (take n l) × Counted l n)
    unfolding covered_b
    covered-says =
        let ok = ok_b limit l n in
        let covers = covers_b limit free (serials_of t) (kinds_of t) (flags_of limit l n) in
        let tests : Says (ok && (covers && zero_tail limit l n)) ((ok ≡ true) × ((covers ≡ true) × Counted l n)) =
        then-says (itself-says ok) (λ e. and-says (itself-says covers) (tail-says e))
        in
        worded tests (λ g. (covered-listed g.0 g.1.0, g.1.1))
        (λ g. (listed_ok g.1.room g.0, (listed-covered g.1.room g.0, g.1)))

-- ---- the order

module _ (t : List Node) (w : Tree) (h : Holds limit t w) (l : List ℕ) (n : ℕ) (fits : n ≤ length l) where
  ordered-is : (p q : ℕ) (d e : Datum) → At p d w → At q e w → Ordered (areas_of t) (serials_of t) p q → Before d e
  ordered-is p q d e y z o =
      rw (area_of t w h p d y, area_of t w h q e z, serial-of t w h p d y, serial-of t w h q e z) at o

  is-ordered : (p q : ℕ) (d e : Datum) → At p d w → At q e w → Before d e → Ordered (areas_of t) (serials_of t) p q
  is-ordered p q d e y z o =
      rw (area_of t w h p d y, area_of t w h q e z, serial-of t w h p d y, serial-of t w h q e z) o

  pub free-list-says : Holding (λ (d : Datum). d.kind ≡ Free) (pieces_of w) (take n l)
      → Says (sorted_b (areas_of t) (serials_of t) l n) (FreeList w (take n l))
  free-list-says holding = record { says = λ e. record { holding = holding; order = order e }; passes = sorted }
    where
      order : sorted_b (areas_of t) (serials_of t) l n ≡ true → (j k : ℕ) → j < k → k < length (take n l) → (d e : Datum)
          → At (get_or (take n l) j 0) d w → At (get_or (take n l) k 0) e w → Before d e
      order s j k a b d e y z =
          let u = entry l n fits j (omega arith) in
          let v = entry l n fits k b in
          ordered-is (get_or l j 0) (get_or l k 0) d e (rw u.1 at y) (rw v.1 at z) (sorted_all (areas_of t) (serials_of t) l n s k j a v.0)

      sorted : FreeList w (take n l) → sorted_b (areas_of t) (serials_of t) l n ≡ true
      sorted f = sorted-shown (areas_of t) (serials_of t) l n next
        where
          next : (k : ℕ) → k + 1 < n → Ordered (areas_of t) (serials_of t) (get_or l k 0) (get_or l (k + 1) 0)
          next k b =
              let size = entries l n fits in
              let a : k < length (take n l) = omega arith in
              let c : k + 1 < length (take n l) = omega arith in
              let x = f.holding.each k a in
              let y = f.holding.each (k + 1) c in
              let o = f.order k (k + 1) (omega arith) c x.0 y.0 x.1 y.1 in
              is-ordered (get_or l k 0) (get_or l (k + 1) 0) x.0 y.0 (rw (entry l n fits k a).1 at x.1)
              (rw (entry l n fits (k + 1) c).1 at y.1) o
