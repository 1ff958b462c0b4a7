-- Opening makes a sound layout, and its tree is the opened one: the top and a free piece of its size. Document 01, "Open" and "Sound layout".
use mathlib.Core.Path.{◌≡◌, refl, sym, ap, ◌∙◌}
use mathlib.Core.List.{[], ◌∷◌}
use mathlib.Core.Bool.{true, false}
use mathlib.Core.Logic.{◌⊎◌, inl, inr, ⊎_elim}
use Prim.Native.Nat.{ℕ, zero, suc, ◌+◌, ◌≤◌, ◌<◌}
use native.Mathlib.Omega.{arith}
use lib.ListN.{get_or}
use Rattle.piece.specs.declared.settings.Opening.{Opening}
use Rattle.piece.specs.declared.node.Datum.{Datum}
use Rattle.piece.specs.declared.node.Kind.TheVariants.{Free, Structure}
use Rattle.tree.specs.Tree.{At}
use Rattle.piece.specs.Kinds.{is_free}
use Rattle.tree.specs.Open.{top_datum, first_free, opened}
use Rattle.tree.proofs.Laws.OpenSound.{open-sound}
use Rattle.table.specs.Table.{Holds}
use Rattle.table.proofs.Open.{opened-holds}
use Rattle.table.proofs.Unique.{tree_is}
use Rattle.lists.specs.Lists.{padded}
use Rattle.lists.proofs.Padded.{length-padded, take-padded, drop-padded}
use Rattle.sound.proofs.FrameSays.{domain-says}
use Rattle.layout.specs.Check.{limit, tree, domain_b}
use Rattle.layout.specs.SoundLayout.{pieces_of, Holding, FreeList, RemovableList, Serials, Counted, SoundLayout, Sized}
use Rattle.layout.specs.Open.{fresh_nodes, fresh_layout}

module _ (o : Opening) where
  -- ---- the opened tree

  -- it has two pieces
  pieces : (i : ℕ) (d : Datum) → At i d (opened o)
      → ((i ≡ 0) × (d ≡ top_datum o)) ⊎ ((i ≡ 1) × (d ≡ first_free o))
  pieces i d (inl h) = inl h
  pieces i d (inr (inl (inl h))) = inr h
  pieces i d (inr (inl (inr (inl h)))) = absurd h
  pieces i d (inr (inl (inr (inr x)))) = elim x [ ]
  pieces i d (inr (inr x)) = elim x [ ]

  -- the serial of each is one more than its place
  opened-at : (i : ℕ) (d : Datum) → At i d (opened o) → (d.serial ≡ i + 1) × (i ≤ 1)
  opened-at i d g = ⊎_elim (λ h. rw (h.0, h.1) (refl, omega arith)) (λ h. rw (h.0, h.1) (refl, omega arith)) (pieces i d g)

  opened-serials : Serials (opened o) 2
  opened-serials =
      record {
        differ = λ i j d e g h q. let a = opened-at i d g in let b = opened-at j e h in omega arith;
        least = λ i d g. let a = opened-at i d g in omega arith;
        most = λ i d g. let a = opened-at i d g in omega arith;
        spent = omega arith;
      }

  -- a list of one place, of the only piece that belongs there
  one : (P : Datum → Type 0) (p : ℕ) (d : Datum) → At p d (opened o) → P d
      → ((q : ℕ) (e : Datum) → At q e (opened o) → P e → q ≡ p) → Holding P (pieces_of (opened o)) (p ∷ [])
  one P p d g h only =
      record { each = each; all = λ q e y z. (0, omega arith, sym (only q e y z)); once = λ j k a b e. omega arith }
    where
      each : (k : ℕ) → k < 1 → (d : Datum) × At (get_or (p ∷ []) k 0) d (opened o) × P d
      each zero b = (d, g, h)
      each (suc k) b = let none : ⊥ = omega arith in absurd none

  opened-free : FreeList (opened o) (1 ∷ [])
  opened-free =
      record {
        holding = one (λ (d : Datum). d.kind ≡ Free) 1 (first_free o) (inr (inl (inl (refl, refl)))) refl only;
        order = λ j k a b. let none : ⊥ = omega arith in absurd none;
      }
    where
      only : (q : ℕ) (e : Datum) → At q e (opened o) → e.kind ≡ Free → q ≡ 1
      only q e g f = ⊎_elim (λ h. let z : Structure ≡ Free = sym (ap (λ (d : Datum). d.kind) h.1) ∙ f in cc) (λ h. h.0) (pieces q e g)

  opened-removable : RemovableList (opened o) (0 ∷ [])
  opened-removable = one (λ (d : Datum). is_free d.kind ≡ false) 0 (top_datum o) (inl (refl, refl)) refl only
    where
      only : (q : ℕ) (e : Datum) → At q e (opened o) → is_free e.kind ≡ false → q ≡ 0
      only q e g f =
          ⊎_elim (λ h. h.0) (λ h. let z : true ≡ false = sym (ap (λ (d : Datum). is_free d.kind) h.1) ∙ f in cc) (pieces q e g)

  -- ---- the layout

  fresh_holds : Holds limit (fresh_nodes o) (opened o)
  unfolding fresh_nodes
  fresh_holds = opened-holds limit o (omega arith)

  counted : (p : ℕ) → Counted (padded limit (p ∷ [])) 1
  counted p = record { room = omega arith; tail = drop-padded limit (p ∷ []) }

  pub fresh-tree : tree (fresh_layout o) ≡ opened o
  unfolding fresh_layout
  fresh-tree = tree_is limit (fresh_nodes o) (opened o) (refl, refl) fresh_holds

  pub fresh-sized : Sized (fresh_layout o)
  unfolding fresh_layout
  fresh-sized =
      record {
        nodes = fresh_holds.len;
        free = length-padded limit (1 ∷ []) (omega arith);
        removable = length-padded limit (0 ∷ []) (omega arith);
      }

  pub fresh-sound : domain_b o.settings ≡ true → SoundLayout (fresh_layout o)
  unfolding fresh_layout
  fresh-sound h =
      record {
        sound = rw fresh-tree (open-sound limit o (omega arith) ((domain-says o.settings).says h));
        holds = rw fresh-tree fresh_holds;
        held = rw fresh-tree refl;
        used = rw fresh-tree refl;
        free = rw (fresh-tree, take-padded limit (1 ∷ [])) opened-free;
        removable = rw (fresh-tree, take-padded limit (0 ∷ [])) opened-removable;
        free_tail = counted 1;
        removable_tail = counted 0;
        serials = rw fresh-tree opened-serials;
      }
