-- Demand 3, "Part area plus free area is the sheet, throughout": every state of a life has the number, the sheet and the settings that its opening was asked
-- for, also after a restore, which gives an earlier state; so the two areas add up to that sheet in each. It rests on what a call has done
-- (Outcomes). Assumes nothing.
use mathlib.Core.Path.{◌≡◌, refl, ap, ◌∙◌}
use mathlib.Core.List.{List, ◌∷◌}
use mathlib.Core.Logic.{inl, inr, ⊎_elim}
use Prim.Native.Nat.{ℕ}
use Rattle.piece.specs.declared.settings.Opening.{Opening}
use Rattle.tree.specs.Tree.{Tree}
use Rattle.layout.specs.declared.layout.Layout.{Layout}
use Rattle.layout.specs.SoundLayout.{Sized}
use Rattle.layout.specs.Next.{Next}
use Rattle.layout.specs.Open.{fresh_layout}
use Rattle.layout.proofs.Tidying.{TidiesMeans}
use Rattle.demands.specs.Life.{OneOf, Life, opened, inserted, removed, tidied, restored, Stock, opened_on, stock}
use Rattle.demands.specs.Calls.{AreasCover}
use Rattle.demands.proofs.Lives.{states-sound}
use Rattle.demands.proofs.Outcomes.{opened-so, inserted-so, removed-so, tidied-so, restored-so}
use Rattle.demands.proofs.Areas.{sound-covers}

fresh-stock : (o : Opening) → stock (fresh_layout o) ≡ record { number = o.number; settings = o.settings }
unfolding fresh_layout
fresh-stock o = refl

-- an accepted call leaves the two as they were
next-stock : {l n : Layout} {w : Tree} {ys : List ℕ} {last : ℕ} → Next l w ys last n → stock n ≡ stock l
next-stock h i = record { number = h.number i; settings = h.settings i }

tidy-stock : {l n : Layout} {k : ℕ} → TidiesMeans l k n → stock n ≡ stock l
tidy-stock h i = record { number = h.number i; settings = h.settings i }

-- the newest state's arrays are as long as their type says
newest-sized : {l : Layout} {ls : List Layout} → Life (l ∷ ls) → Sized l
newest-sized {l} life = (states-sound life l (inl refl)).1

pub stock-stays : {ls : List Layout} (life : Life ls) (l : Layout) → OneOf l ls → stock l ≡ opened_on life
stock-stays (opened o m h) l (inl e) =
    ap stock (e ∙ (opened-so o m h).1) ∙ fresh-stock o
stock-stays (opened o m h) l (inr z) = absurd z
stock-stays (inserted k ks life m p r s a says) l (inl e) =
    ap stock e
    ∙ ⊎_elim (ap stock) (λ z. next-stock z.1.next) (inserted-so k m p r s a (newest-sized life) says)
    ∙ stock-stays life k (inl refl)
stock-stays (inserted k ks life m p r s a says) l (inr o) = stock-stays life l o
stock-stays (removed k ks life m room a says) l (inl e) =
    ap stock e
    ∙ ⊎_elim (ap stock) (λ z. next-stock z.1.next) (removed-so k m room a (newest-sized life) says)
    ∙ stock-stays life k (inl refl)
stock-stays (removed k ks life m room a says) l (inr o) = stock-stays life l o
stock-stays (tidied k ks life a says) l (inl e) =
    ap stock e ∙ ⊎_elim (ap stock) (λ z. tidy-stock z.means) (tidied-so k a (newest-sized life) says) ∙ stock-stays life k (inl refl)
stock-stays (tidied k ks life a says) l (inr o) = stock-stays life l o
stock-stays (restored k ks life s o) l (inl e) =
    ap stock e
    ∙ ⊎_elim (λ z. ap stock z.1 ∙ stock-stays life k (inl refl)) (λ z. ap stock z.is ∙ stock-stays life s o) (restored-so k s)
stock-stays (restored k ks life s o) l (inr q) = stock-stays life l q

pub throughout : {ls : List Layout} (life : Life ls) (l : Layout) → OneOf l ls
    → (stock l ≡ opened_on life) × AreasCover l (opened_on life).settings.sheet
throughout life l o =
    let h = states-sound life l o in
    let same = stock-stays life l o in
    (same, sound-covers l (opened_on life).settings.sheet h.1 h.0 (ap (λ (x : Stock). x.settings.sheet) same))
