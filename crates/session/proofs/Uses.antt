-- For callers of the listener: an answer fits the line that it stands in, and each turn goes forward. Rests on specs/Listener and on the laws of `lines`.
use mathlib.Core.Path.{◌≡◌, ap, ◌∙◌}
use mathlib.Core.List.{List}
use Prim.Native.Nat.{ℕ, ◌≤◌, ◌<◌}
use native.Mathlib.Omega.{arith}
use lib.ListN.{length, replicate, length-take, length-replicate}
use lib.Seq.{length-sets}
use Rattle.lines.specs.Stream.{Fed}
use Rattle.lines.proofs.Uses.{take-forward}
use Rattle.session.specs.declared.listener.Listener.{Listener}
use Rattle.session.specs.declared.listener.Turn.{Turn}
use Rattle.session.specs.Session.{longest}
use Rattle.session.specs.Listener.{text_of, Turned, Takes}

module _ {d : Listener} {f : Fed} {r : Turn} (t : Turned d f r) where
  pub line-room : length r.line ≡ longest
  line-room =
      ap length t.padded ∙ length-sets (replicate longest 0) 0 (text_of t.answers) ∙ length-replicate {A = ℕ} longest 0

  pub count_fits : r.count ≤ longest
  count_fits = omega (arith, ap length t.written, length-take r.count r.line, t.count, line-room)

module _ {d : Listener} {chunk : List ℕ} {at : ℕ} {r : Turn} (t : Takes d chunk at r) where
  pub turn-forward : at < length chunk → at < r.next
  turn-forward h = omega (arith, t.next, take-forward d.pending chunk at h)
