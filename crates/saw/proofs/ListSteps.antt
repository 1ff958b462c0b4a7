-- The steps of the routine: a call of it, how far it is, and at each such place what the next call may ask and what is
-- written in the end. Rests on CutBytes. Assumes nothing.
use mathlib.Core.Path.{◌≡◌, refl, ap, ◌∙◌}
use mathlib.Core.List.{List, [], ◌∷◌, ◌++◌, append-nil}
use Prim.Native.Nat.{ℕ, zero, suc, ◌+◌, ◌-◌, ◌*◌, ◌≤◌, ◌<◌}
use native.Mathlib.Omega.{arith}
use borrow.Author.Tests.{le-leb, lt-leb}
use lib.ListN.{length, get_or, length-append}
use lib.Seq.{sets, length-sets}
use Rattle.piece.specs.declared.orientation.Orientation.{Orientation}
use Rattle.piece.specs.Sides.{other}
use Rattle.saw.specs.declared.cut.Cut.{Cut}
use Rattle.saw.specs.Listed.{sides_in, rest_of, left_along, cut_before, own_listed, piles_listed, cuts_listed, entry_bytes, entries_of_cuts}
use Rattle.saw.proofs.CutBytes.{entries-written}

-- ---- what a routine asks, and what it does

-- the pile has places for these pieces from a place on, and there is room for these cuts behind n cuts
abbrev pub Room : ℕ → List Cut → (piles place n : ℕ) → List ℕ → Type 0
Room limit cs piles place n out = (place + piles ≤ limit) × (n + length cs ≤ limit) × (10 * (n + length cs) ≤ length out)

-- they are written there, and counted, and so are the pieces
abbrev pub Done : List Cut → (piles place n : ℕ) → (out after : List ℕ) → (m p : ℕ) → Type 0
Done cs piles place n out after m p = (after ≡ sets out (10 * n) (entries_of_cuts cs)) × ((m ≡ n + length cs) × (p ≡ place + piles))

none_done : {cs : List Cut} {piles : ℕ} (place n : ℕ) (out : List ℕ) → cs ≡ [] → piles ≡ 0 → Done cs piles place n out out n place
unfolding entries_of_cuts
none_done place n out e f = rw (e, f) (refl, (omega arith, omega arith))

-- a cut, those below it, and those of the rest, one after the other
all_done : (c : Cut) (ds es : List Cut) (i j u v w n : ℕ) (out : List ℕ) {out₁ out₂ after : List ℕ} {m p q o : ℕ}
    → out₁ ≡ sets out (10 * n) (entry_bytes c []) → Done ds u i (n + 1) out₁ out₂ m p → Done es v j m out₂ after q o → j + v ≡ i + w
    → Done (c ∷ (ds ++ es)) w i n out after q o
unfolding entries_of_cuts
all_done c ds es i j u v w n out {m = m} cut lower rest same =
    let e : m ≡ n + length (c ∷ ds) = omega (arith, lower.1.0) in (
      rw (rest.0, lower.0, cut, e)
          (ap (λ (l : List ℕ). sets l (10 * (n + length (c ∷ ds))) (entries_of_cuts es)) (entries-written (c ∷ []) ds out n)
          ∙ entries-written (c ∷ ds) es out n),
      (omega (arith, length-append ds es, lower.1.0, rest.1.0), omega (arith, rest.1.1)),
    )

-- ---- how far a call is

-- what is lent to every call: the columns, of so many places
pub record Lent : Type 0 where
  pub limit : ℕ
  pub first : List ℕ
  pub next : List ℕ
  pub kind : List ℕ
  pub width : List ℕ
  pub height : List ℕ
  pub eaten : List ℕ

-- what a call of this way lists of them, and how many pieces of the pile that is
abbrev listed_of : Lent → Orientation → (left i c : ℕ) → List Cut
listed_of l way left i c = cuts_listed l.limit l.first l.next l.kind l.width l.height l.eaten way left i c

abbrev piled_of : Lent → Orientation → (left c : ℕ) → ℕ
piled_of l way left c = piles_listed l.limit l.first l.next l.kind l.width l.height l.eaten way left c

-- a call: its way, its arguments, and what it asked. The calls in it have less than t left.
pub record Call : Type 0 where
  pub lent : Lent
  pub way : Orientation
  pub left : ℕ
  pub place : ℕ
  pub c : ℕ
  pub n : ℕ
  pub out : List ℕ
  pub t : ℕ
  pub asked : (left ≡ t) × Room lent.limit (listed_of lent way left place c) (piled_of lent way left c) place n out

-- the sides that its cuts divide
abbrev pub sides : Call → List ℕ
sides s = sides_in s.way s.lent.width s.lent.height

-- the piece behind the one at c that a cut comes before
abbrev pub behind_it : Call → ℕ
behind_it s = rest_of s.lent.limit s.lent.next (sides s) s.lent.eaten s.c

-- all its cuts, and those of the call for the piece at c; and the pieces
abbrev all : Call → List Cut
all s = listed_of s.lent s.way s.left s.place s.c

abbrev piles : Call → ℕ
piles s = piled_of s.lent s.way s.left s.c

abbrev pub inner : Call → List Cut
inner s = listed_of s.lent (other s.way) (s.left - 1) s.place (get_or s.lent.first s.c 0)

abbrev pub inner_piles : Call → ℕ
inner_piles s = piled_of s.lent (other s.way) (s.left - 1) (get_or s.lent.first s.c 0)

-- it is at the piece at c, which itself is so many pieces of the pile, and r is the place of what is left
pub record Here : Type 0 where
  pub call : Call
  pub some : call.left ≡ 0 → ⊥
  pub held : call.c < call.lent.limit
  pub own : ℕ
  pub owns : own ≡ own_listed call.lent.kind (sides call) call.c
  pub r : ℕ
  pub rest : r ≡ behind_it call

-- the cuts of the call for the rest, whose board is at the place p of the pile, its pieces, and the place where it is
abbrev later : Here → ℕ → List Cut
later s p = listed_of s.call.lent s.call.way (s.call.left - 1) p s.r

abbrev later_piles : Here → ℕ
later_piles s = piled_of s.call.lent s.call.way (s.call.left - 1) s.r

abbrev behind : Here → ℕ
behind s = s.call.place + (s.own + inner_piles s.call)

-- the cut that takes the piece off, where k is the kind of what is left
abbrev pub one : Call → ℕ → Cut
one s k =
    record {
      place = s.place;
      way = s.way;
      distance = get_or (sides s) s.c 0;
      piece = get_or s.lent.kind s.c 0;
      remainder = k;
      eaten = get_or s.lent.eaten s.c 0;
    }

-- that cut is written
pub record Off : Type 0 where
  pub here : Here
  pub more : here.r < here.call.lent.limit
  pub k : ℕ
  pub kinds : k
      ≡ left_along here.call.lent.limit here.call.lent.next here.call.lent.kind (sides here.call) here.call.lent.eaten here.r
  pub out : List ℕ
  pub cut : out ≡ sets here.call.out (10 * here.call.n) (entry_bytes (one here.call k) [])

-- and the cuts of the piece
pub record Under : Type 0 where
  pub off : Off
  pub out : List ℕ
  pub m : ℕ
  pub p : ℕ
  pub lower : Done (inner off.here.call) (inner_piles off.here.call) off.here.call.place (off.here.call.n + 1) off.out out m p

-- ---- the steps

-- nothing is left, or there is no piece at c
list-past : (l : Lent) (way : Orientation) (left i c : ℕ) → l.limit ≤ c → listed_of l way left i c ≡ []
unfolding cuts_listed
list-past l way zero i c h = refl
list-past l way (suc n) i c h = rw (le-leb l.limit c h) refl

piles-past : (l : Lent) (way : Orientation) (left c : ℕ) → l.limit ≤ c → piled_of l way left c ≡ 0
unfolding piles_listed
piles-past l way zero c h = refl
piles-past l way (suc n) c h = rw (le-leb l.limit c h) refl

pub none_left : (s : Call) → s.left ≡ 0 → Done (all s) (piles s) s.place s.n s.out s.out s.n s.place
unfolding cuts_listed piles_listed
none_left s e = none_done s.place s.n s.out (rw e refl) (rw e refl)

pub none_here : (s : Call) → s.lent.limit ≤ s.c → Done (all s) (piles s) s.place s.n s.out s.out s.n s.place
none_here s h =
    none_done s.place s.n s.out (list-past s.lent s.way s.left s.place s.c h) (piles-past s.lent s.way s.left s.c h)

less_one : (n : ℕ) → suc n - 1 ≡ n
less_one n = omega arith

-- the list at the piece at c, which itself is so many pieces, with so much left for the calls in it; and the pieces
abbrev row_of : Call → (left own r : ℕ) → List Cut
row_of s left own r =
    cut_before s.lent.limit s.lent.next s.lent.kind (sides s) s.lent.eaten s.way s.place s.c r
    ++ (listed_of s.lent (other s.way) left s.place (get_or s.lent.first s.c 0)
    ++ listed_of s.lent s.way left (s.place + (own + piled_of s.lent (other s.way) left (get_or s.lent.first s.c 0))) r)

abbrev row_piles : Call → (left own r : ℕ) → ℕ
row_piles s left own r = own + piled_of s.lent (other s.way) left (get_or s.lent.first s.c 0) + piled_of s.lent s.way left r

list-from : (s : Call) (left own r : ℕ) → (left ≡ 0 → ⊥) → s.c < s.lent.limit → own ≡ own_listed s.lent.kind (sides s) s.c → r ≡ behind_it s
    → (listed_of s.lent s.way left s.place s.c ≡ row_of s (left - 1) own r)
    × (piled_of s.lent s.way left s.c ≡ row_piles s (left - 1) own r)
unfolding cuts_listed piles_listed
list-from s zero own r f h d e = absurd (f refl)
list-from s (suc l) own r f h d e = (rw (less_one l, d, e, lt-leb s.lent.limit s.c h) refl, rw (less_one l, d, e, lt-leb s.lent.limit s.c h) refl)

module _ (s : Here) where
  -- the call that is here
  abbrev a : Call
  a = s.call

  less : a.left - 1 < a.t
  less = omega (arith, s.some, a.asked.0)

  list-row : all a ≡ row_of a (a.left - 1) s.own s.r
  list-row = (list-from a a.left s.own s.r s.some s.held s.owns s.rest).0

  piles-row : piles a ≡ s.own + inner_piles a + later_piles s
  piles-row = (list-from a a.left s.own s.r s.some s.held s.owns s.rest).1

  -- nothing is left behind the piece: no cut, and the piece is the board
  list-last : a.lent.limit ≤ s.r → all a ≡ inner a
  list-last h =
      list-row ∙ rw (le-leb a.lent.limit s.r h, list-past a.lent a.way (a.left - 1) (behind s) s.r h) (append-nil (inner a))

  piles-last : a.lent.limit ≤ s.r → piles a ≡ s.own + inner_piles a
  piles-last h = omega (arith, piles-row, piles-past a.lent a.way (a.left - 1) s.r h)

  pub last-asks : a.lent.limit ≤ s.r → (a.left - 1 < a.t) × Room a.lent.limit (inner a) (inner_piles a) a.place a.n a.out
  last-asks h =
      let r = rw (list-last h) at a.asked.1 in
      (less, (omega (arith, piles-last h, r.0), r.1, r.2))

  module _ (h : a.lent.limit ≤ s.r) {after : List ℕ} {m p : ℕ} (d : Done (inner a) (inner_piles a) a.place a.n a.out after m p) where
    pub last-placed : p + s.own ≤ a.lent.limit
    last-placed = omega (arith, piles-last h, a.asked.1.0, d.1.1)

    pub last_done : Done (all a) (piles a) a.place a.n a.out after m (p + s.own)
    last_done = (rw (list-last h) d.0, (rw (list-last h) d.1.0, omega (arith, piles-last h, d.1.1)))

  -- the piece is cut off; then come the cuts below it, and those of the rest
  list-more : (k p : ℕ) → s.r < a.lent.limit
      → k ≡ left_along a.lent.limit a.lent.next a.lent.kind (sides a) a.lent.eaten s.r → p ≡ behind s
      → all a ≡ one a k ∷ (inner a ++ later s p)
  list-more k p h e f = list-row ∙ rw (lt-leb a.lent.limit s.r h, e, f) refl

  longer : (p : ℕ) → s.r < a.lent.limit → p ≡ behind s → length (all a) ≡ suc (length (inner a) + length (later s p))
  longer p h f = ap length (list-more _ p h refl f) ∙ ap suc (length-append (inner a) (later s p))

  pub cut-room : s.r < a.lent.limit → 10 * a.n + 10 ≤ length a.out
  cut-room h = omega (arith, longer (behind s) h refl, a.asked.1.2)

module _ (s : Off) where
  abbrev b : Call
  b = s.here.call

  off-long : length s.out ≡ length b.out
  off-long = ap length s.cut ∙ simp length-sets

  pub below-asks : (b.left - 1 < b.t) × Room b.lent.limit (inner b) (inner_piles b) b.place (b.n + 1) s.out
  below-asks =
      let l = longer s.here (behind s.here) s.more refl in
      let r = b.asked.1 in
      (less s.here, (omega (arith, piles-row s.here, r.0), omega (arith, l, r.1), omega (arith, l, off-long, r.2)))

module _ (s : Under) where
  abbrev h : Here
  h = s.off.here

  abbrev d : Call
  d = h.call

  -- where the rest is in the pile, as the routine counts it
  abbrev p : ℕ
  p = s.p + h.own

  placed : p ≡ behind h
  placed = omega (arith, s.lower.1.1)

  pub rest-asks : (d.left - 1 < d.t) × Room d.lent.limit (later h p) (later_piles h) p s.m s.out
  rest-asks =
      let l = longer h p s.off.more placed in
      let r = d.asked.1 in
      let w : length s.out ≡ length s.off.out = ap length s.lower.0 ∙ simp length-sets in (
        less h,
        (
          omega (arith, piles-row h, placed, r.0),
          omega (arith, l, r.1, s.lower.1.0),
          omega (arith, l, w, off-long s.off, r.2, s.lower.1.0),
        ),
      )

  pub rest-done : {after : List ℕ} {q j : ℕ} → Done (later h p) (later_piles h) p s.m s.out after q j
      → Done (all d) (piles d) d.place d.n d.out after q j
  rest-done rest =
      rw (list-more h s.off.k p s.off.more s.off.kinds placed)
      (all_done (one d s.off.k) (inner d) (later h p) d.place p (inner_piles d) (later_piles h) (piles d) d.n d.out s.off.cut s.lower rest
      (omega (arith, piles-row h, placed)))
