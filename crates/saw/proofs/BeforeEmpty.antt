-- Document 02, No. 4: "a cut is also listed before an offcut of area 0 where something was eaten", and only there. Where nothing was eaten in all the tree
-- every such piece is left out, as No. 3 has it, and each cut makes one piece more.
use mathlib.Core.Path.{◌≡◌, refl, sym, ap, ◌∙◌}
use mathlib.Core.Bool.{Bool, true, cond, and-true}
use mathlib.Core.Logic.{◌↔◌, ⊎_elim, inl, inr}
use mathlib.Core.List.{[], ◌∷◌}
use Prim.Native.Nat.{ℕ, ◌+◌}
use native.Mathlib.Decide.{ℕ_discrete}
use native.Mathlib.Omega.{arith}
use lib.Dec.{eqb}
use lib.ListN.{length}
use borrow.Author.Tests.{eq-eqb, ne_eqb}
use Rattle.piece.specs.declared.orientation.Orientation.{Orientation}
use Rattle.piece.specs.declared.node.Datum.{Datum}
use Rattle.piece.specs.declared.node.Kind.{Kind}
use Rattle.piece.specs.declared.node.Kind.TheVariants.{Free, Part, Structure}
use Rattle.piece.specs.declared.settings.Settings.{Settings}
use Rattle.piece.specs.Sides.{area}
use Rattle.piece.specs.Row.{nil, grow}
use Rattle.piece.specs.Kinds.{is_free}
use Rattle.piece.specs.Numbers.{kind_no}
use Rattle.tree.specs.Tree.{Tree, At}
use Rattle.tree.specs.Sound.{Sound}
use Rattle.lists.proofs.Scan.{test, clash, and_left}
use Rattle.saw.specs.declared.cut.Cut.{Cut}
use Rattle.saw.specs.Saw.{side}
use Rattle.saw.specs.Cuts.{is_empty, kept_after, without_empty, cut_off, cuts, boards}
use Rattle.saw.proofs.Sawn.{empties, cuts-count}

-- ---- before one offcut

is_free-kind : (κ : Kind) → is_free κ ≡ true → kind_no κ ≡ kind_no Free
is_free-kind Free e = refl
is_free-kind Part e = absurd (clash e)
is_free-kind Structure e = absurd (clash e)

-- behind the piece d of a row comes the offcut e of area 0
module _ (way : Orientation) (i : ℕ) (d : Datum) (q : ℕ) (e : Datum) (l : Tree) (empty : is_empty e ≡ true) where
  -- the cut that takes d off
  abbrev pub cut_behind : Cut
  cut_behind =
      record { place = i; way = way; distance = side way d.size; piece = kind_no d.kind; remainder = kind_no Free; eaten = d.eaten }

  not-before : d.eaten ≡ 0 → cut_off way i d (kept_after d.eaten (grow q e l nil)) ≡ []
  not-before z = rw (empty, eq-eqb d.eaten 0 z) refl

  pub cut-before : (d.eaten ≡ 0 → ⊥) → cut_off way i d (kept_after d.eaten (grow q e l nil)) ≡ cut_behind ∷ []
  cut-before z = rw (empty, ne_eqb d.eaten 0 z, is_free-kind e.kind (and_left (is_free e.kind) (eqb (area e.size) 0) empty)) refl

  some-eaten : Dec (d.eaten ≡ 0) → cut_off way i d (kept_after d.eaten (grow q e l nil)) ≡ [] → d.eaten ≡ 0
  some-eaten (yes z) h = z
  some-eaten (no z) h = let none : ◌≡◌ {A = ℕ} 1 0 = sym (ap length (cut-before z)) ∙ ap length h in omega arith

  pub no-cut-before : (cut_off way i d (kept_after d.eaten (grow q e l nil)) ≡ []) ↔ (d.eaten ≡ 0)
  no-cut-before = (some-eaten (ℕ_discrete d.eaten 0), not-before)

-- ---- where nothing was eaten

-- a row and what is below it without its free pieces of area 0
abbrev pub left_out : Tree → Tree
left_out nil = nil
left_out (grow p d k r) = cond (is_empty d) (left_out r) (grow p d (left_out k) (left_out r))

abbrev pub NothingEaten : Tree → Type 0
NothingEaten t = (i : ℕ) (d : Datum) → At i d t → d.eaten ≡ 0

pub all-left-out : (t : Tree) → NothingEaten t → without_empty t ≡ left_out t
all-left-out nil f = refl
all-left-out (grow p d k r) f =
    let below = all-left-out k (λ j c y. f j c (inr (inl y))) in
    let rest = all-left-out r (λ j c y. f j c (inr (inr y))) in
    let behind = ap (λ (n : ℕ). kept_after n r) (f p d (inl (refl, refl))) ∙ rest in
    rw (below, rest, behind) (ap (λ (b : Bool). cond b (left_out r) (grow p d (left_out k) (left_out r))) (and-true (is_empty d)))

none_stays : (t : Tree) → empties (left_out t) ≡ 0
none_stays nil = refl
none_stays (grow p d k r) =
    ⊎_elim
    (λ e. rw e (none_stays r))
    (λ e. rw e (rw e (omega (arith, none_stays k, none_stays r))))
    (test (is_empty d))

pub one_more : {limit : ℕ} {settings : Settings} (t : Tree) → Sound limit settings t → NothingEaten t → length (boards t) ≡ 1 + length (cuts t)
one_more t s f = omega (arith, cuts-count t s, ap empties (all-left-out t f), none_stays t)
