-- The tidy tree in closed form: it is the same, but for the marks, after a structure with no part inside went, whichever it was. Assumes nothing.
use mathlib.Core.Path.{◌≡◌, refl, sym, ◌∙◌}
use mathlib.Core.Bool.{Bool, true, false}
use mathlib.Core.Logic.{◌⊎◌, inl, inr}
use Prim.Native.Nat.{ℕ}
use borrow.Author.Tests.{eq-eqb, ne_eqb}
use Rattle.piece.specs.declared.node.Datum.{Datum}
use Rattle.piece.specs.declared.node.Kind.{Kind}
use Rattle.piece.specs.declared.settings.Settings.{Settings}
use Rattle.piece.specs.Row.{nil, grow}
use Rattle.piece.specs.Kinds.{is_free, is_structure}
use Rattle.tree.specs.Tree.{Tree}
use Rattle.tree.specs.Sound.{Child, Children, Topped}
use Rattle.tree.specs.Snapshot.{shape}
use Rattle.tree.specs.Removal.{settled, remove}
use Rattle.tree.specs.Tidy.{is_empty, tidy_row, tidied}
use Rattle.tree.proofs.Rows.{same?}
use Rattle.tree.proofs.Kept.{Where}
use Rattle.tree.proofs.Settles.{Keeps, TakesOut, settles, settled-shape}
use Rattle.tree.proofs.Tidying.{Hollow, free-is, remove-partless}

pub not-structure : (a : Kind) → is_free a ≡ true → is_structure a ≡ false
not-structure a e = rw (free-is a e) refl

hollow-empty : (d : Datum) (k r : Tree) → Hollow d k r → is_empty d k ≡ true
hollow-empty d k r h = rw (h.0, h.1) refl

-- A row in which the piece d settled is made tidy, or d settles in the tidy row.
settled-tidy : (settings : Settings) (n s n' s' : ℕ) (q d : Datum) → Child settings q d → (r : Tree) → Children settings q r
    → shape (tidy_row (settled n s d r)) ≡ shape (settled n' s' d (tidy_row r))
settled-tidy settings n s n' s' q d a r w =
    settles settings n s n' s' q d a tidy_row (λ z. Unit {0}) (λ p e k v o. tt) refl (λ z. refl)
    (λ p e f o. rw (not-structure e.kind f) refl) (λ p e k v f o. go e k (is_empty e k) refl) r w tt
  where
    go : {p : ℕ} (e : Datum) (k : Tree) (b : Bool) → is_empty e k ≡ b → Keeps tidy_row p e k ⊎ TakesOut tidy_row p e k
    go e k true f = inr (0, 0, λ v. rw f refl)
    go e k false f = inl (tidy_row k, λ v. rw f refl)

-- A structure with no part inside goes, whichever it is: the tidy row is the same.
module _ (settings : Settings) (x n s : ℕ) where
  abbrev Stays : Tree → Type 0
  Stays r = shape (tidy_row (remove x n s r)) ≡ shape (tidy_row r)

  row_stays : (q : Datum) (r : Tree) → Children settings q r → Where x Hollow r → Stays r
  row_stays q nil w h = refl
  row_stays q (grow p d k r) w h = go (same? p x) (is_empty d k) refl (row_stays d k w.below h.1) (row_stays q r w.beside h.2)
    where
      go : (p ≡ x) ⊎ (p ≡ x → ⊥) → (b : Bool) → is_empty d k ≡ b → Stays k → Stays r → Stays (grow p d k r)
      go (inl e) b f ik ir = rw (eq-eqb p x e, settled-tidy settings n s 0 0 q d w.child r w.beside, hollow-empty d k r (h.0 e)) refl
      go (inr m) true f ik ir =
          rw (ne_eqb p x m, remove-partless settings n s x d k w.below h.1, f)
          (settled-shape 0 0 d (tidy_row (remove x n s r)) (tidy_row r) ir)
      go (inr m) false f ik ir = rw (ne_eqb p x m, remove-partless settings n s x d k w.below h.1, f, ik, ir) refl

  -- the top stays: x is below it
  pub tree-stays : (t : Tree) → Topped settings t → (x ≡ 0 → ⊥) → Where x Hollow t → shape (tidied (remove x n s t)) ≡ shape (tidied t)
  tree-stays nil h m w = refl
  tree-stays (grow p d k r) h m w = rw (ne_eqb p x (λ e. m (sym e ∙ h.0.place)), row_stays d k h.1 w.1, h.0.alone) refl
