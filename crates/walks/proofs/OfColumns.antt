-- The bytes of a node whose values are lent one by one, as they are written. Assumes nothing.
use mathlib.Core.Path.{◌≡◌, refl}
use mathlib.Core.List.{List, []}
use Prim.Native.Nat.{ℕ, suc, ◌+◌}
use native.Mathlib.Numerals.{add-one}
use native.Mathlib.Omega.{arith}
use lib.ListN.{set}
use lib.Seq.{sets}
use Rattle.tree.specs.Snapshot.{two_then, four_then}
use Rattle.walks.specs.Snapshot.{bytes_of_node}

-- level, kind and cut, then its three numbers, and what was eaten behind it
pub node-stored : (l : List ℕ) (x level kind cut number width height eaten : ℕ) (l₁ l₂ l₃ : List ℕ)
    → l₁ ≡ sets (set (set (set l x level) (x + 1) kind) (x + 2) cut) (x + 3) (two_then number [])
    → l₂ ≡ sets l₁ (x + 5) (four_then width [])
    → l₃ ≡ sets l₂ (x + 9) (four_then height [])
    → set l₃ (x + 13) eaten ≡ sets l x (bytes_of_node level kind cut number width height eaten)
node-stored l x level kind cut number width height eaten l₁ l₂ l₃ e f g =
    let e₂ : x + 2 ≡ suc (suc x) = omega arith in
    let e₃ : x + 3 ≡ suc (suc (suc x)) = omega arith in
    let e₅ : x + 5 ≡ suc (suc (suc (suc (suc x)))) = omega arith in
    let e₉ : x + 9 ≡ suc (suc (suc (suc (suc (suc (suc (suc (suc x)))))))) = omega arith in
    let e₁₃ : x + 13 ≡ suc (suc (suc (suc (suc (suc (suc (suc (suc (suc (suc (suc (suc x)))))))))))) = omega arith in
    rw (g, f, e, add-one x, e₂, e₃, e₅, e₉, e₁₃) refl
