-- A table that holds a sound tree passes the tests of the soundness check: the other half of Means.
use mathlib.Core.Path.{◌≡◌, refl, sym, ap, ◌∙◌, subst}
use mathlib.Core.List.{List}
use mathlib.Core.Logic.{inl, inr, ⊎_elim}
use Prim.Native.Nat.{ℕ, zero, suc, ◌+◌, ◌<◌}
use native.Mathlib.Omega.{arith}
use Rattle.piece.specs.declared.node.Datum.{Datum}
use Rattle.piece.specs.declared.node.Kind.{Kind}
use Rattle.piece.specs.declared.node.Kind.TheVariants.{Free, Part, Structure}
use Rattle.piece.specs.declared.settings.Settings.{Settings}
use Rattle.piece.specs.Sides.{other}
use Rattle.piece.specs.Row.{nil, grow}
use Rattle.tree.specs.Tree.{Tree, In, At, count}
use Rattle.tree.specs.Sound.{extent, StructurePiece, Kinded, Children, Topped}
use Rattle.tree.proofs.Rows.{in?}
use Rattle.tree.proofs.Spots.{children-deep}
use Rattle.table.specs.declared.Node.{Node}
use Rattle.table.specs.Table.{mk, zero_node, at, Held, head, last, Rep, Holds}
use Rattle.table.proofs.Linkage.{Linkage}
use Rattle.table.proofs.Rep.{no-child}
use Rattle.table.proofs.Build.{in_held}
use Rattle.table.proofs.Unique.{holds-room, tree_is}
use Rattle.table.proofs.Links.{holds-linkage}
use Rattle.sound.specs.Rows.{step, room}
use Rattle.sound.proofs.PlacesSay.{KindNode, Place, places-says, TopNode, top-says}
use Rattle.sound.proofs.RowsSay.{ChildNode, Siblings, step_is, RowOf, rows-says}
use Rattle.sound.proofs.Means.{Passes}

-- the top of a sound tree is at place 0, and alone
top-shape : (settings : Settings) (w : Tree) → Topped settings w → (d : Datum) × (k : Tree) × (w ≡ grow 0 d k nil)
top-shape settings nil h = absurd h
top-shape settings (grow p d k r) h = (d, k, λ i. grow (h.0.place i) d k (h.0.alone i))

module _ (limit : ℕ) (settings : Settings) (t : List Node) where
  first-low : (q pv : ℕ) (k : Tree) → Rep limit t q pv k → (k ≡ nil → ⊥) → head limit k < limit
  first-low q pv nil rep n = absurd (n refl)
  first-low q pv (grow p d k r) rep n = rep.0

  kind-shown : (κ : Kind) (d : Datum) (p q pv : ℕ) (k r : Tree) → Rep limit t p limit k → Kinded κ d k r
      → KindNode limit κ (mk d q pv (head limit k) (last limit k) (head limit r))
  kind-shown Free d p q pv k r rep h =
      rw (h.childless, h.last) (record { leaf = record { first = refl; last = refl }; unnumbered = h.unnumbered; next = refl })
  kind-shown Part d p q pv k r rep h =
      rw h.childless (record { leaf = record { first = refl; last = refl }; numbered = h.numbered; sided = h.sided })
  kind-shown Structure d p q pv k r rep h =
      record { first = first-low p limit k rep h.parent; unnumbered = h.unnumbered; sided = h.sided }

  -- the children of q from there on are walked with enough fuel
  row_walked : (q m pv sum : ℕ) (r : Tree) → Rep limit t q pv r → Children settings (at t q).datum r → (at t q).last ≡ last pv r
      → sum + extent (other (at t q).datum.cut) r ≡ room (at t q) → ((i : ℕ) → In i r → Held t i) → count r < m
      → Siblings limit settings t q m pv (head limit r) sum
  row_walked q zero pv sum r rep ch e f held c = let no_fuel : ⊥ = omega arith in absurd no_fuel
  row_walked q (suc m) pv sum nil rep ch e f held c =
      ((λ l. record { none = refl; last = e; full = omega arith }), λ l. let no_place : ⊥ = omega arith in absurd no_place)
  row_walked q (suc m) pv sum (grow p d k r) rep ch e f held c =
      let taken = step_is settings (at t p) (at t q).datum d (ap (λ (x : Node). x.datum) rep.1) ch.child in
      let rest = row_walked q m p (sum + step (at t p)) r rep.3 ch.beside e (omega arith) (λ i y. held i (inr (inr y))) (omega arith) in (
        (λ l. let b : p < limit = rep.0 in let no_end : ⊥ = omega arith in absurd no_end),
        λ l. (here, rw (ap (λ (x : Node). x.next) rep.1) rest),
      )
    where
      here : ChildNode limit settings (at t q) q pv (at t p)
      here =
          record {
            held = held p (inl refl);
            parent = ap (λ (x : Node). x.parent) rep.1;
            prev = ap (λ (x : Node). x.prev) rep.1;
            piece = rw rep.1 ch.child;
            last = rw rep.1 (λ z. ch.ends (no-child limit t q p r rep.3 z));
          }

  -- a piece shows what it is, and so does its row
  abbrev Shown : ℕ → Type 0
  Shown i = Place limit (at t i) × RowOf limit settings t i

  piece-shown : (q pv p : ℕ) (d : Datum) (k r : Tree) → Rep limit t q pv (grow p d k r) → Held t p → Kinded d.kind d k r
      → Children settings d k → ((i : ℕ) → In i k → Held t i) → count k < limit → Shown p
  piece-shown q pv p d k r rep h kinded below held c = (place, row)
    where
      place : Place limit (at t p)
      place =
          record {
            empty = λ e. let no-serial : ⊥ = omega arith in absurd no-serial;
            piece = λ l. rw rep.1 (kind-shown d.kind d p q pv k r rep.2 kinded);
          }

      row : RowOf limit settings t p
      row l e =
          let s : StructurePiece d k = subst (λ (κ : Kind). Kinded κ d k r) (sym (ap (λ (x : Node). x.datum.kind) rep.1) ∙ e) kinded in
          let full : 0 + extent (other (at t p).datum.cut) k ≡ room (at t p) = rw rep.1 (omega (arith, s.filled)) in
          rw (ap (λ (x : Node). x.first) rep.1)
          (row_walked p limit limit 0 k rep.2 (rw rep.1 below) (ap (λ (x : Node). x.last) rep.1) full held c)

  row-shown : (q pv : ℕ) (r : Tree) → Rep limit t q pv r → Children settings (at t q).datum r → ((i : ℕ) → In i r → Held t i) → count r < limit
      → (i : ℕ) → In i r → Shown i
  row-shown q pv nil rep ch held c i y = absurd y
  row-shown q pv (grow p d k r) rep ch held c i (inl e) =
      rw e (piece-shown q pv p d k r rep (held p (inl refl)) ch.kinded ch.below (λ j z. held j (inr (inl z))) (omega arith))
  row-shown q pv (grow p d k r) rep ch held c i (inr (inl y)) =
      row-shown p limit k rep.2 (rw rep.1 ch.below) (λ j z. held j (inr (inl z))) (omega arith) i y
  row-shown q pv (grow p d k r) rep ch held c i (inr (inr y)) =
      row-shown q p r rep.3 ch.beside (λ j z. held j (inr (inr z))) (omega arith) i y

  zero-shown : (i : ℕ) → at t i ≡ zero_node → Shown i
  zero-shown i e =
      rw e (
        record { empty = λ z. refl; piece = λ l. let no-serial : ⊥ = omega arith in absurd no-serial },
        λ l z. let no-serial : ⊥ = omega arith in absurd no-serial,
      )

module _ (limit : ℕ) (settings : Settings) (t : List Node) where
  passes-grow : (d : Datum) (k : Tree) → Holds limit t (grow 0 d k nil) → Topped settings (grow 0 d k nil)
      → ((i : ℕ) (e : Datum) → At i e (grow 0 d k nil) → 0 < e.serial) → Passes limit settings t
  passes-grow d k h s serials =
      record {
        places = (places-says limit t).passes (λ i b. (shown i b).0);
        top = (top-says limit settings (at t 0)).passes topmost;
        rows = (rows-says limit settings t).passes (λ i b. (shown i b).1);
        hung = λ i b n y. let u = (link.each i b y).hangs n in ((at t i).parent, u.0, u.2);
      }
    where
      link : Linkage limit t
      link = holds-linkage limit t (grow 0 d k nil) (refl, refl) h (s.0.level, rw s.0.level at (children-deep settings d k s.1), tt) serials

      held : (i : ℕ) → In i (grow 0 d k nil) → Held t i
      held i y = in_held limit t link i (rw (tree_is limit t (grow 0 d k nil) (refl, refl) h) y)

      topmost : TopNode limit settings (at t 0)
      topmost =
          rw h.rep.1
          (record {
            held = serials 0 d (inl (refl, refl));
            level = s.0.level;
            eaten = s.0.eaten;
            kind = s.0.kind;
            size = s.0.size;
            parent = refl;
            prev = refl;
            next = refl;
          })

      few : count k < limit
      few = let c = holds-room limit t (grow 0 d k nil) h in omega arith

      kinded : Kinded d.kind d k nil
      kinded = subst (λ (κ : Kind). Kinded κ d k nil) (sym s.0.kind) s.0.piece

      below : (i : ℕ) → In i k → Held t i
      below i y = held i (inr (inl y))

      in-shown : (i : ℕ) → In i (grow 0 d k nil) → Shown limit settings t i
      in-shown i (inl e) = rw e (piece-shown limit settings t limit limit 0 d k nil h.rep (held 0 (inl refl)) kinded s.1 below few)
      in-shown i (inr (inl y)) = row-shown limit settings t 0 limit k h.rep.2 (rw h.rep.1 s.1) below few i y
      in-shown i (inr (inr y)) = absurd y

      shown : (i : ℕ) → i < limit → Shown limit settings t i
      shown i b = ⊎_elim (in-shown i) (λ n. zero-shown limit settings t i (h.rest i b n)) (in? i (grow 0 d k nil))

  pub sound-passes : (w : Tree) → Holds limit t w → Topped settings w → ((i : ℕ) (e : Datum) → At i e w → 0 < e.serial)
      → Passes limit settings t
  sound-passes w h s serials =
      let g = top-shape settings w s in
      passes-grow g.0 g.1 (rw g.2 at h) (rw g.2 at s) (rw g.2 at serials)
