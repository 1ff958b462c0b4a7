-- Document 02, No. 5: "While some structure other than the top has one child and that is free, it is taken out by the old removal". Each step is one that the
-- old removal takes, brings no part out and leaves one structure less with no part inside; where there is such a structure, there is one to take.
-- "The tree is the same whichever structure is taken first": over every order, and it is the tree that `tidied` says.
use mathlib.Core.Path.{◌≡◌, refl, sym, ◌∙◌}
use mathlib.Core.List.{[]}
use Prim.Native.Nat.{ℕ, zero, suc, ◌+◌, ◌≤◌}
use native.Mathlib.Omega.{arith}
use Rattle.piece.specs.declared.settings.Settings.{Settings}
use Rattle.tree.specs.Tree.{Tree, In, Distinct}
use Rattle.tree.specs.Sound.{Sound}
use Rattle.tree.specs.Snapshot.{Same, shape}
use Rattle.tree.specs.Removal.{remove, left, cleared, removed_numbers}
use Rattle.tree.specs.Apart.{Removable}
use Rattle.tree.specs.Tidy.{Untidy, Tidy, Takings, none, taken, empties, tidied}
use Rattle.tree.proofs.Rows.{at_in}
use Rattle.tree.proofs.Places.{gone}
use Rattle.tree.proofs.RemoveKept.{in_left}
use Rattle.tree.proofs.Shapes.{same-of-shape}
use Rattle.tree.proofs.Tidying.{untidy-bare, subtree-numbers}
use Rattle.tree.proofs.Takings.{removable, one_less, one-untidy, none-empty, done, counted, one-tidied, reached}
use Rattle.tree.proofs.Laws.RemovalSound.{removal-sound}

pub untidy-removable : (x : ℕ) (t : Tree) → Untidy x t → Removable x t
untidy-removable = removable

pub untidy-numbers : (x : ℕ) (t : Tree) → Distinct t → Untidy x t → removed_numbers x t ≡ []
untidy-numbers x t u a = subtree-numbers x t (untidy-bare x t u a)

pub taking-count : {limit : ℕ} {settings : Settings} (x n s : ℕ) (t : Tree) → Sound limit settings t → Untidy x t
    → 1 + empties (remove x n s t) ≡ empties t
taking-count {settings = settings} x n s t h a = one_less settings x n s t h.topped h.distinct a

pub untidy-some : {limit : ℕ} {settings : Settings} (x : ℕ) (t : Tree) → Sound limit settings t → Untidy x t → 1 ≤ empties t
untidy-some x t h a = omega (arith, taking-count x 0 0 t h a)

pub some-untidy : {limit : ℕ} {settings : Settings} (t : Tree) → Sound limit settings t → 1 ≤ empties t → (x : ℕ) × Untidy x t
some-untidy {settings = settings} t h l = one-untidy settings t h.topped h.distinct l

pub tidy-none : {limit : ℕ} {settings : Settings} (t : Tree) → Sound limit settings t → Tidy t → empties t ≡ 0
tidy-none {settings = settings} t h n = none-empty settings t h.topped h.distinct n

pub takings-sound : {limit : ℕ} {settings : Settings} {t u : Tree} {k : ℕ} → Sound limit settings t → Takings limit t k u → Sound limit settings u
takings-sound h none = h
takings-sound {limit} {settings} {t} h (taken x n s a l m g) =
    takings-sound (removal-sound limit settings t x n s h (removable x t a) l m) g

-- so tidying ends
pub takings-count : {limit : ℕ} {settings : Settings} {t u : Tree} {k : ℕ} → Sound limit settings t → Takings limit t k u → k + empties u ≡ empties t
takings-count {settings = settings} h g = counted settings h.topped h.distinct g

pub tidy-is : {limit : ℕ} {settings : Settings} (t : Tree) → Sound limit settings t → Tidy t → tidied t ≡ t
tidy-is {settings = settings} t h n = done settings t h.topped h.distinct n

-- a step leaves the tidy tree what it was
pub takings-tidied : {limit : ℕ} {settings : Settings} {t u : Tree} {k : ℕ} → Sound limit settings t → Takings limit t k u
    → shape (tidied u) ≡ shape (tidied t)
takings-tidied {settings = settings} h g = one-tidied settings h.topped h.distinct g

-- so that is what every order comes to, in as many steps as there were structures with no part inside
pub tidied-form : {limit : ℕ} {settings : Settings} {t u : Tree} {k : ℕ} → Sound limit settings t → Takings limit t k u → Tidy u
    → Same u (tidied t) × (k ≡ empties t)
tidied-form {settings = settings} {t = t} {u = u} h g n =
    let e = tidy-none u (takings-sound h g) n in
    (same-of-shape u (tidied t) (reached settings h.topped h.distinct g n), omega (arith, takings-count h g))

pub whichever-first : {limit : ℕ} {settings : Settings} {t u v : Tree} {j k : ℕ} → Sound limit settings t → Takings limit t j u → Tidy u
    → Takings limit t k v → Tidy v → Same u v × (j ≡ k)
whichever-first {settings = settings} {u = u} {v = v} h g m f n =
    let a = reached settings h.topped h.distinct g m in
    let b = reached settings h.topped h.distinct f n in
    (same-of-shape u v (a ∙ sym b), (tidied-form h g m).1 ∙ sym (tidied-form h f n).1)

-- and something is reached from every sound tree: each new piece can have the place of the structure that went
pub takings-end : {limit : ℕ} {settings : Settings} (t : Tree) → Sound limit settings t → (u : Tree) × Takings limit t (empties t) u × Tidy u
takings-end {limit} {settings} t h = go (empties t) t h refl
  where
    go : (k : ℕ) (t : Tree) → Sound limit settings t → empties t ≡ k → (u : Tree) × Takings limit t k u × Tidy u
    go zero t h e = (t, none, λ x a. absurd (omega (arith, untidy-some x t h a)))
    go (suc k) t h e =
        let a = some-untidy t h (omega arith) in
        let x = a.0 in
        let l = h.placed x (at_in x a.1.piece t a.1.there) in
        let m : In x (cleared x t) → ⊥ = gone x left (λ i d r. in_left i r) t h.distinct in
        let v = go k (remove x x 0 t) (removal-sound limit settings t x x 0 h (removable x t a.1) l m) (omega (arith, taking-count x x 0 t h a.1)) in
        let z : suc k ≡ 1 + k = omega arith in
        (v.0, rw z (taken {u = v.0} x x 0 a.1 l m v.1), v.2)
