-- What a write that may have failed did to the bytes that a writer holds: it counts as one that took nothing where it failed. Assumes nothing.
use Rattle.std.proofs.Common.{◌≡◌, ℕ, ◌+◌, ◌-◌, ◌≤◌, List, [], None, Some, Result, Ok, Err, sym, ◌∙◌, length, take, drop, append-nil, arith, Option, take-add, length-drop}
use Rattle.std.proofs.KnownBytes.{Appends-trans}
use Rattle.std.proofs.lemmas.List.{take_all}
use Rattle.std.specs.Result.{result_unwrap_or}
use Rattle.std.specs.Io.{WritesAtMost}
use Rattle.std.specs.Io.KnownBytes.{Appends, Keeps, WriteAppends}

kept : (old new : Option (List ℕ)) → Keeps old new → Appends old new []
kept None new k = tt
kept (Some xs) None k = absurd k
kept (Some xs) (Some ys) k = k ∙ sym (append-nil xs)

taken : {E : Type 0} (old new : Option (List ℕ)) (r : Result ℕ E) (rest : List ℕ) → WriteAppends old new r rest → Appends old new (take (result_unwrap_or r 0) rest)
taken old new (Ok n) rest w = w
taken old new (Err e) rest w = kept old new w

bounded : {E : Type 0} (r : Result ℕ E) (rest : List ℕ) → WritesAtMost r rest → result_unwrap_or r 0 ≤ length rest
bounded (Ok n) rest w = w
bounded (Err e) rest w = omega arith

-- the rest of a text, as it is lent
rest_of : (done : ℕ) (all : List ℕ) → take (length all - done) (drop done all) ≡ drop done all
rest_of done all =
    let size = length-drop done all in
    take_all (length all - done) (drop done all) (omega (arith, size))

-- after a write of the rest what is written is longer by what that took
pub grown : {E : Type 0} (first old new : Option (List ℕ)) (r : Result ℕ E) (done n : ℕ) (all : List ℕ)
    → (done ≤ length all) × Appends first old (take done all)
    → n ≡ result_unwrap_or r 0
    → WritesAtMost r (take (length all - done) (drop done all))
    → WriteAppends old new r (take (length all - done) (drop done all))
    → (done + n ≤ length all) × Appends first new (take (done + n) all)
grown first old new r done n all inv is bound bytes =
    let size = length-drop done all in
    let same = rest_of done all in
    let more = rw (same, sym is) at (taken old new r _ bytes) in
    let within = rw (same, sym is) at (bounded r _ bound) in
    (omega (arith, inv.0, within, size), rw (take-add done n all) (Appends-trans first old new _ _ inv.1 more))
