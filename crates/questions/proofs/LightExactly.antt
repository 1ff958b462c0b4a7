-- Request 1, of a sound layout and a part in the domain: the light says yes "exactly when some free piece has an offer for the part in an allowed
-- rotation", it names "the first such piece of the free list", and the offers on that mark say the same. Rests on the rule (specs/Light.antt), on the
-- laws of a search (lists) and on what a mark names (layout).
use mathlib.Core.Path.{◌≡◌, refl, sym, ap, ◌∙◌}
use mathlib.Core.Bool.{true, false}
use mathlib.Core.Logic.{◌↔◌, ⊎_elim}
use Prim.Native.Nat.{ℕ, ◌<◌, ◌≤◌}
use native.Mathlib.Omega.{arith}
use native.Mathlib.Decide.{dec_lt}
use lib.Dec.{ltb}
use lib.ListN.{get_or, length}
use borrow.Author.Tests.{ltb-true, lt-ltb, le-ltb}
use Rattle.std.specs.Prelude.{Result, Ok, Err, Some, None}
use Rattle.piece.specs.declared.node.Datum.{Datum}
use Rattle.piece.specs.declared.node.Kind.TheVariants.{Free}
use Rattle.piece.specs.declared.parttype.PartType.{PartType}
use Rattle.piece.specs.Kinds.{is_free}
use Rattle.piece.specs.Offers.{as_offer_list, offers_of}
use Rattle.lists.proofs.Scan.{Least, clash, test, first-before, found-least, least-found}
use Rattle.marks.specs.declared.Mark.{Mark}
use Rattle.layout.specs.declared.layout.Layout.{Layout}
use Rattle.marks.specs.declared.Refusal.{Refusal}
use Rattle.layout.specs.Check.{tree}
use Rattle.layout.specs.Asked.{part_b, free_piece_of}
use Rattle.layout.specs.SoundLayout.{SoundLayout, Sized}
use Rattle.layout.proofs.Admitted.{is_free-kind}
use Rattle.layout.proofs.Exactly.{sound-shown}
use Rattle.layout.proofs.Listed.{piece_is}
use Rattle.layout.proofs.Marks.{Names, headed, names-sought, sought-names}
use Rattle.questions.specs.Answers.{free_mark_of, mark_of, offered_for, offers_call, offers_count}
use Rattle.questions.specs.Light.{first_offering, light_at, light_of, offering_at}
use Rattle.questions.proofs.Entries.{free-entry}
use Rattle.questions.proofs.ListMarks.{mark-names, names-free-mark}

-- the mark is that of a free piece which "has an offer for the part in an allowed rotation"
pub record Offering (l : Layout) (p : PartType) (m : Mark) : Type 0 where
  pub piece : Datum
  pub names : Names l m piece
  pub free : piece.kind ≡ Free
  pub offer : 0 < length (offers_of piece p l.settings)

-- "the first such piece of the free list": it stands at a position, and no piece before it is such a one
pub record First (l : Layout) (p : PartType) (m : Mark) : Type 0 where
  pub position : ℕ
  pub listed : free_mark_of l position ≡ Ok m
  pub offering : Offering l p m
  pub before : (j : ℕ) (n : Mark) → j < position → free_mark_of l j ≡ Ok n → Offering l p n → ⊥

module _ (l : Layout) (sized : Sized l) (s : SoundLayout l) where
  -- ---- positions of the free list, and marks

  mark-there : (k : ℕ) → k < l.frees → free_mark_of l k ≡ Ok (mark_of l (get_or l.free k 0))
  unfolding free_mark_of
  mark-there k b = rw (sound-shown l sized s, lt-ltb k l.frees b) refl

  there-mark : (k : ℕ) (m : Mark) → free_mark_of l k ≡ Ok m → (k < l.frees) × (m ≡ mark_of l (get_or l.free k 0))
  unfolding free_mark_of
  there-mark k m e = ⊎_elim in_list past (test (ltb k l.frees))
    where
      in_list : ltb k l.frees ≡ true → (k < l.frees) × (m ≡ mark_of l (get_or l.free k 0))
      in_list t = let g = rw (sound-shown l sized s, t) at e in (ltb-true _ _ t, cc)

      past : ltb k l.frees ≡ false → (k < l.frees) × (m ≡ mark_of l (get_or l.free k 0))
      past t = let g = rw (sound-shown l sized s, t) at e in absurd (clash (cc))

  module _ (p : PartType) where
    position-offering : (k : ℕ) → k < l.frees → offering_at l p k ≡ true → Offering l p (mark_of l (get_or l.free k 0))
    position-offering k b t =
        let e = free-entry l sized s k b in
        let q = get_or l.free k 0 in
        let is = piece_is l.nodes (tree l) s.holds q e.0 e.1 in
        record { piece = e.0; names = mark-names l s q e.0 e.1; free = e.2; offer = ltb-true _ _ (rw is at t) }

    offering-position : (k : ℕ) → Offering l p (mark_of l (get_or l.free k 0)) → offering_at l p k ≡ true
    offering-position k o =
        let is = piece_is l.nodes (tree l) s.holds (get_or l.free k 0) o.piece o.names.there in
        rw is (lt-ltb _ _ o.offer)

    -- a free piece with an offer has a position
    listed_at : (m : Mark) → Offering l p m → (k : ℕ) × (k < l.frees) × (m ≡ mark_of l (get_or l.free k 0))
    listed_at m o =
        let g = names-free-mark l s sized m o.piece o.names o.free in
        (g.0, g.1, (there-mark g.0 m g.2).1)

    -- a position that is the least, and the mark of the first piece
    least_first : (k : ℕ) → Least (offering_at l p) l.frees k → First l p (mark_of l (get_or l.free k 0))
    least_first k h =
        record {
          position = k;
          listed = mark-there k h.below;
          offering = position-offering k h.below h.holds;
          before = earlier;
        }
      where
        earlier : (j : ℕ) (n : Mark) → j < k → free_mark_of l j ≡ Ok n → Offering l p n → ⊥
        earlier j n b e o =
            let t = there-mark j n e in
            clash (sym (h.before j b) ∙ offering-position j (rw t.1 at o))

    first-least : (m : Mark) (h : First l p m) → Least (offering_at l p) l.frees h.position
    first-least m h =
        let t = there-mark h.position m h.listed in
        record { below = t.0; holds = offering-position h.position (rw t.1 at h.offering); before = earlier t.0 }
      where
        earlier : h.position < l.frees → (j : ℕ) → j < h.position → offering_at l p j ≡ false
        earlier low j b =
            ⊎_elim
            (λ t. absurd (h.before j _ b (mark-there j (omega arith)) (position-offering j (omega arith) t)))
            (λ t. t) (test (offering_at l p j))

    -- ---- the light

    module _ (ok : part_b p ≡ true) where
      answer : light_of l p ≡ light_at l (first_offering l p)
      unfolding light_of
      answer = rw (sound-shown l sized s, ok) refl

      says-room : first_offering l p < l.frees → light_of l p ≡ Ok (Some (mark_of l (get_or l.free (first_offering l p) 0)))
      says-room b = answer ∙ rw (lt-ltb _ _ b) refl

      says_none : l.frees ≤ first_offering l p → light_of l p ≡ Ok None
      says_none b = answer ∙ rw (le-ltb _ _ b) refl

      room-below : (m : Mark) → light_of l p ≡ Ok (Some m) → first_offering l p < l.frees
      room-below m e = go (dec_lt (first_offering l p) l.frees)
        where
          go : Dec (first_offering l p < l.frees) → first_offering l p < l.frees
          go (yes b) = b
          go (no b) = let none = says_none (omega arith) in absurd (clash (cc))

      -- the light "also names the first such piece of the free list": that piece and no other
      pub named-exactly : (m : Mark) → (light_of l p ≡ Ok (Some m)) ↔ First l p m
      unfolding first_offering
      named-exactly m = (named, naming)
        where
          named : light_of l p ≡ Ok (Some m) → First l p m
          named e =
              let b = room-below m e in
              let said = says-room b in
              let is : mark_of l (get_or l.free (first_offering l p) 0) ≡ m = cc in
              rw is at (least_first (first_offering l p) (found-least (offering_at l p) l.frees b))

          naming : First l p m → light_of l p ≡ Ok (Some m)
          naming h =
              let k = first-least m h in
              let at-k : first_offering l p ≡ h.position = least-found (offering_at l p) l.frees h.position k in
              let t = there-mark h.position m h.listed in
              says-room (rw at-k t.0) ∙ ap (λ (n : Mark). Ok (Some n)) (rw at-k (sym t.1))

      -- "yes exactly when some free piece has an offer for the part in an allowed rotation"
      pub yes-exactly : ((m : Mark) × (light_of l p ≡ Ok (Some m))) ↔ ((m : Mark) × Offering l p m)
      unfolding first_offering
      yes-exactly = ((λ y. (y.0, ((named-exactly y.0).0 y.1).offering)), lit)
        where
          lit : ((m : Mark) × Offering l p m) → (m : Mark) × (light_of l p ≡ Ok (Some m))
          lit (m, o) =
              let g = listed_at m o in
              let holds = offering-position g.0 (rw g.2 at o) in
              (_, says-room (go g.0 g.1 holds (dec_lt g.0 (first_offering l p))))
            where
              go : (k : ℕ) → k < l.frees → offering_at l p k ≡ true → Dec (k < first_offering l p) → first_offering l p < l.frees
              go k b t (yes c) = absurd (clash (sym (first-before (offering_at l p) l.frees 0 k (omega arith) c) ∙ t))
              go k b t (no c) = omega arith

      -- and no exactly when none has
      pub no-exactly : (light_of l p ≡ Ok None) ↔ ((m : Mark) → Offering l p m → ⊥)
      no-exactly = ((λ e m o. let y = yes-exactly.1 (m, o) in clash (dark e y.0 y.1)), none)
        where
          dark : light_of l p ≡ Ok None → (m : Mark) → light_of l p ≡ Ok (Some m) → false ≡ true
          dark e m f = cc

          none : ((m : Mark) → Offering l p m → ⊥) → light_of l p ≡ Ok None
          none h = go (dec_lt (first_offering l p) l.frees)
            where
              go : Dec (first_offering l p < l.frees) → light_of l p ≡ Ok None
              go (yes b) = let y = yes-exactly.0 (_, says-room b) in absurd (h y.0 y.1)
              go (no b) = says_none (omega arith)

      -- ---- the offers say the same: a mark is that of such a piece exactly where the offers on it are some
      pub offering-exactly : (m : Mark) → Offering l p m ↔ (0 < offers_count (offers_call l m p))
      unfolding offers_call free_piece_of as_offer_list
      offering-exactly m = (some, shown (free_piece_of l m p) refl)
        where
          some : Offering l p m → 0 < offers_count (offers_call l m p)
          some o =
              let kind : is_free o.piece.kind ≡ true = rw o.free refl in
              rw (sound-shown l sized s, ok, names-sought l s m o.piece o.names, kind) o.offer

          shown : (q : Result Datum Refusal) → free_piece_of l m p ≡ q → 0 < offers_count (offered_for l p q) → Offering l p m
          shown (Err r) e h = absurd (omega arith)
          shown (Ok d) e h =
              let g = headed l m p d e in
              record { piece = d; names = sought-names l s m d g.named; free = is_free-kind d.kind g.free; offer = h }
