-- What the append of a leaf and the unlinking of a leaf do to each place of the table.
use mathlib.Core.Path.{◌≡◌, sym, ap, ◌∙◌}
use mathlib.Core.List.{List}
use mathlib.Core.Bool.{Bool, true, false, cond}
use Prim.Native.Nat.{ℕ, ◌<◌}
use native.Mathlib.Omega.{arith}
use lib.Dec.{leb}
use lib.ListN.{length, set, length-set}
use lib.Seq.{get_or-set_same, get_or-set_other}
use borrow.Author.Tests.{lt-leb}
use Rattle.piece.specs.declared.node.Datum.{Datum}
use Rattle.table.specs.declared.Node.{Node}
use Rattle.table.specs.Table.{mk, zero_node, with_first, with_last, with_next, with_prev, at, enter, tie, append, join_before, join_after, unlink}

at_set : (limit : ℕ) (t : List Node) (i : ℕ) (n : Node) → length t ≡ limit → i < limit → at (set t i n) i ≡ n
at_set limit t i n len h = get_or-set_same t i n zero_node (omega arith)

at_off : (t : List Node) (i j : ℕ) (n : Node) → (j ≡ i → ⊥) → at (set t i n) j ≡ at t j
at_off t i j n h = get_or-set_other t i j n zero_node h

-- The link that leads to a piece is the next link of the piece before it, pv, or its parent's first link: it is set to nx. Before an append it is
-- `tie`, and before an unlinking `join_before`, the same function.
module _ (limit : ℕ) (t : List Node) (q pv nx : ℕ) where
  abbrev led : Bool → List Node
  led b = cond b (set t q (with_first (at t q) nx)) (set t pv (with_next (at t pv) nx))

  led-len : (b : Bool) → length (led b) ≡ length t
  led-len true = length-set t q _
  led-len false = length-set t pv _

  led-other : (b : Bool) (i : ℕ) → (i ≡ q → ⊥) → (i ≡ pv → ⊥) → at (led b) i ≡ at t i
  led-other true i n m = at_off t q i _ n
  led-other false i n m = at_off t pv i _ m

  led-parent : (b : Bool) → length t ≡ limit → q < limit → (pv ≡ q → ⊥)
      → at (led b) q ≡ mk (at t q).datum (at t q).parent (at t q).prev (cond b nx (at t q).first) (at t q).last (at t q).next
  led-parent true len h n = at_set limit t q _ len h
  led-parent false len h n = at_off t pv q _ (λ e. n (sym e))

  led-before : length t ≡ limit → pv < limit → at (led (leb limit pv)) pv ≡ with_next (at t pv) nx
  led-before len h = rw (lt-leb limit pv h) (at_set limit t pv _ len h)

  -- and the link that leads to it from behind: the previous link of the piece after it, or its parent's last link
  abbrev trailed : Bool → List Node
  trailed b = cond b (set t q (with_last (at t q) pv)) (set t nx (with_prev (at t nx) pv))

  trailed-len : (b : Bool) → length (trailed b) ≡ length t
  trailed-len true = length-set t q _
  trailed-len false = length-set t nx _

  trailed-other : (b : Bool) (i : ℕ) → (i ≡ q → ⊥) → (i ≡ nx → ⊥) → at (trailed b) i ≡ at t i
  trailed-other true i n m = at_off t q i _ n
  trailed-other false i n m = at_off t nx i _ m

  trailed-parent : (b : Bool) → length t ≡ limit → q < limit → (nx ≡ q → ⊥)
      → at (trailed b) q ≡ mk (at t q).datum (at t q).parent (at t q).prev (at t q).first (cond b pv (at t q).last) (at t q).next
  trailed-parent true len h n = at_set limit t q _ len h
  trailed-parent false len h n = at_off t nx q _ (λ e. n (sym e))

  trailed-after : length t ≡ limit → nx < limit → at (trailed (leb limit nx)) nx ≡ with_prev (at t nx) pv
  trailed-after len h = rw (lt-leb limit nx h) (at_set limit t nx _ len h)

-- The table u is t with the new leaf a at the end of the children of q, after l.
pub record Grown (limit : ℕ) (t u : List Node) (q l a : ℕ) (d : Datum) : Type 0 where
  pub len : length u ≡ limit
  pub new : at u a ≡ mk d q l limit limit limit
  pub other : (i : ℕ) → (i ≡ a → ⊥) → (i ≡ q → ⊥) → (i ≡ l → ⊥) → at u i ≡ at t i
  pub parent : at u q ≡ mk (at t q).datum (at t q).parent (at t q).prev (cond (leb limit l) a (at t q).first) a (at t q).next
  pub before : l < limit → at u l ≡ with_next (at t l) a

module _ (limit : ℕ) (t : List Node) (q a : ℕ) (d : Datum) (len : length t ≡ limit) (ha : a < limit) (hq : q < limit)
    (aq : a ≡ q → ⊥) (la : (at t q).last ≡ a → ⊥) (lq : (at t q).last ≡ q → ⊥) where
  pub grown : Grown limit t (append limit t q a d) q (at t q).last a d
  unfolding append
  grown =
      record {
        len = length-set v q _ ∙ len-v;
        new = at_off v q a _ aq ∙ led-other limit e q l a b a aq (λ z. la (sym z)) ∙ at_set limit t a _ len ha;
        other = λ i na nq nl. at_off v q i _ nq ∙ led-other limit e q l a b i nq nl ∙ old i na;
        parent = at_set limit v q _ len-v hq ∙ ap (λ (n : Node). with_last n a) (led-parent limit e q l a b len-e hq lq)
            ∙ ap (λ (n : Node). mk n.datum n.parent n.prev (cond b a n.first) a n.next) (old q (λ z. aq (sym z)));
        before = λ h. at_off v q l _ lq ∙ led-before limit e q l a len-e h ∙ ap (λ (n : Node). with_next n a) (old l la);
      }
    where
      l : ℕ
      l = (at t q).last

      b : Bool
      b = leb limit l

      e : List Node
      e = enter limit t q a d

      v : List Node
      v = tie limit e q l a

      len-e : length e ≡ limit
      len-e = length-set t a _ ∙ len

      len-v : length v ≡ limit
      len-v = led-len limit e q l a b ∙ len-e

      old : (i : ℕ) → (i ≡ a → ⊥) → at e i ≡ at t i
      old i n = at_off t a i _ n

-- The table u is t without x, whose parent is q, between pv and nx.
pub record Cut (limit : ℕ) (t u : List Node) (x q pv nx : ℕ) : Type 0 where
  pub len : length u ≡ limit
  pub gone : at u x ≡ zero_node
  pub other : (i : ℕ) → (i ≡ x → ⊥) → (i ≡ q → ⊥) → (i ≡ pv → ⊥) → (i ≡ nx → ⊥) → at u i ≡ at t i
  pub before : pv < limit → at u pv ≡ with_next (at t pv) nx
  pub behind : nx < limit → at u nx ≡ with_prev (at t nx) pv
  pub parent : at u q
      ≡ mk (at t q).datum (at t q).parent (at t q).prev (cond (leb limit pv) nx (at t q).first) (cond (leb limit nx) pv (at t q).last)
      (at t q).next

module _ (limit : ℕ) (t : List Node) (x q pv nx : ℕ) (len : length t ≡ limit) (hx : x < limit) (hq : q < limit)
    (qx : q ≡ x → ⊥) (px : pv ≡ x → ⊥) (nxx : nx ≡ x → ⊥) (pq : pv ≡ q → ⊥) (nq : nx ≡ q → ⊥) (pn : pv < limit → pv ≡ nx → ⊥) where
  cut_at : Cut limit t (set (join_after limit (join_before limit t q pv nx) q pv nx) x zero_node) x q pv nx
  cut_at =
      record {
        len = length-set v x _ ∙ len-v;
        gone = at_set limit v x _ len-v hx;
        other = λ i mx mq mp mn. at_off v x i _ mx ∙ trailed-other limit u q pv nx bn i mq mn ∙ led-other limit t q pv nx bp i mq mp;
        before = λ h. at_off v x pv _ px ∙ trailed-other limit u q pv nx bn pv pq (pn h) ∙ led-before limit t q pv nx len h;
        behind = λ h. at_off v x nx _ nxx ∙ trailed-after limit u q pv nx len-u h
            ∙ ap (λ (n : Node). with_prev n pv) (led-other limit t q pv nx bp nx nq (λ e. pn (rw e at h) (sym e)));
        parent = at_off v x q _ qx ∙ trailed-parent limit u q pv nx bn len-u hq nq
            ∙ ap (λ (n : Node). mk n.datum n.parent n.prev n.first (cond bn pv n.last) n.next)
            (led-parent limit t q pv nx bp len hq pq);
      }
    where
      bp : Bool
      bp = leb limit pv

      bn : Bool
      bn = leb limit nx

      u : List Node
      u = join_before limit t q pv nx

      len-u : length u ≡ limit
      len-u = led-len limit t q pv nx bp ∙ len

      v : List Node
      v = join_after limit u q pv nx

      len-v : length v ≡ limit
      len-v = trailed-len limit u q pv nx bn ∙ len-u

pub cut : (limit : ℕ) (t : List Node) (x q pv nx : ℕ) → (at t x).parent ≡ q → (at t x).prev ≡ pv → (at t x).next ≡ nx → length t ≡ limit
    → x < limit → q < limit → (q ≡ x → ⊥) → (pv ≡ x → ⊥) → (nx ≡ x → ⊥) → (pv ≡ q → ⊥) → (nx ≡ q → ⊥) → (pv < limit → pv ≡ nx → ⊥)
    → Cut limit t (unlink limit t x) x q pv nx
unfolding unlink
cut limit t x q pv nx eq ep en len hx hq qx px nxx pq nq pn =
    rw (eq, ep, en) (cut_at limit t x q pv nx len hx hq qx px nxx pq nq pn)

-- Neither changes how many places there are.
module _ (limit : ℕ) (t : List Node) where
  pub append-length : (q a : ℕ) (d : Datum) → length (append limit t q a d) ≡ length t
  unfolding append
  append-length q a d =
      let l = (at t q).last in
      let e = enter limit t q a d in
      length-set (tie limit e q l a) q _ ∙ led-len limit e q l a (leb limit l) ∙ length-set t a _

  pub unlink-length : (x : ℕ) → length (unlink limit t x) ≡ length t
  unfolding unlink
  unlink-length x =
      let n = at t x in
      let u = join_before limit t n.parent n.prev n.next in
      length-set (join_after limit u n.parent n.prev n.next) x _
      ∙ trailed-len limit u n.parent n.prev n.next (leb limit n.next)
      ∙ led-len limit t n.parent n.prev n.next (leb limit n.prev)
