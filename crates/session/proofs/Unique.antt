-- The contract of each public call of the session and the listener determines its answer, and with it the next state and the line that is said: two answers
-- that meet it are the same. Rests on Decided, which says so of what is answered, and of the calls of replies.rt
-- (`replies-once`, `keeps-once`, `restores-once`). Assumes nothing.
use mathlib.Core.Path.{◌≡◌, sym, ap, ◌∙◌}
use mathlib.Core.List.{List}
use Prim.Native.Nat.{ℕ}
use lib.ListN.{length, replicate}
use lib.Seq.{sets}
use Rattle.layout.proofs.Determined.{only}
use Rattle.lines.specs.Stream.{Fed}
use Rattle.frames.specs.declared.Request.{Request}
use Rattle.frames.specs.declared.Request.TheVariants.{Malformed}
use Rattle.frames.specs.Requests.{request_of}
use Rattle.session.specs.declared.Session.{Session}
use Rattle.session.specs.declared.Stepped.{Stepped}
use Rattle.session.specs.declared.listener.Listener.{Listener}
use Rattle.session.specs.declared.listener.Turn.{Turn}
use Rattle.session.specs.Session.{Reply, Says, Steps, longest, started}
use Rattle.session.specs.Listener.{Ends, Takes, Turned, start_listener, text_of}
use Rattle.session.proofs.Decided.{answers-once, runs-once, same-said}

-- ---- Session

pub session-start-is-one : (r p : Session) → r ≡ started → p ≡ started → r ≡ p
session-start-is-one = only

-- what a step says, as a line
said : {s : Session} {q : Request} {r : Stepped} (x : Steps s q r) → Says x.answer (record { line = r.line; count = r.count })
said x = record { count = x.count; written = x.written; padded = x.padded }

pub asked-is-one : (s : Session) (q : Request) (r p : Stepped) → Steps s q r → Steps s q p → r ≡ p
asked-is-one s q r p x y =
    let e = answers-once s q x.answers y.answers in
    let same = same-said (ap (λ (w : Reply). w.answer) e) (said x) (said y) in
    λ i. record { session = (e i).session; line = (same i).line; count = (same i).count }

pub step-is-one : (s : Session) (line : List ℕ) (r p : Stepped) → Steps s (request_of line) r → Steps s (request_of line) p → r ≡ p
step-is-one s line = asked-is-one s (request_of line)

pub malformed-is-one : (s : Session) (r p : Stepped) → Steps s Malformed r → Steps s Malformed p → r ≡ p
malformed-is-one s = asked-is-one s Malformed

-- ---- Listener

pub listener-start-is-one : (r p : Listener) → r ≡ start_listener → p ≡ start_listener → r ≡ p
listener-start-is-one = only

-- the same lines were answered, and the chunk goes on at the same position
turned-is-one : (d : Listener) (f : Fed) (r p : Turn) → r.next ≡ p.next → Turned d f r → Turned d f p → r ≡ p
turned-is-one d f r p next x y =
    let e = runs-once x.runs y.runs in
    let text = ap text_of e.0 in
    let pending = only r.listener.pending p.listener.pending x.pending y.pending in
    let line = x.padded ∙ ap (λ (t : List ℕ). sets (replicate longest 0) 0 t) text ∙ sym y.padded in
    let count = x.count ∙ ap length text ∙ sym y.count in
    λ i. record { listener = record { session = e.1 i; pending = pending i }; next = next i; line = line i; count = count i }

pub turn-is-one : (d : Listener) (chunk : List ℕ) (at : ℕ) (r p : Turn) → Takes d chunk at r → Takes d chunk at p → r ≡ p
turn-is-one d chunk at r p x y = turned-is-one d _ r p (only r.next p.next x.next y.next) x.turned y.turned

pub end-is-one : (d : Listener) (r p : Turn) → Ends d r → Ends d p → r ≡ p
end-is-one d r p x y = turned-is-one d _ r p (only r.next p.next x.next y.next) x.turned y.turned
