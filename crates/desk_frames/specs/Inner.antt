-- Nobody has to believe this file: it only says what an inner function is handed or gives back, and both ends of that are proved.
use Rattle.std.specs.Prelude.{ℕ, cond, Result, Ok, Err}
use Rattle.marks.specs.declared.Refusal.{Refusal}
use Rattle.marks.specs.declared.Refusal.TheVariants.{NotSound}
use Rattle.layout.specs.declared.layout.Layout.{Layout}
use Rattle.layout.specs.Check.{sound_b}
use Rattle.lines.specs.Stream.{empty}
use Rattle.session.specs.declared.Stepped.{Stepped}
use Rattle.session.specs.declared.listener.Listener.{Listener}
use Rattle.desk_frames.specs.declared.DeskStepped.{DeskStepped}
use Rattle.desk_frames.specs.declared.listener.DeskTurn.{DeskTurn}
use Rattle.desk_frames.specs.declared.write.FigureList.{FigureList}
use Rattle.desk_frames.specs.Answers.{figures_of}

-- an answer of the counter's, once its line stands in the one that was lent
abbrev pub copied_from : Stepped → DeskStepped
copied_from r = record { session = r.session; count = r.count }

-- a turn with an answer, after which nothing is pending; and one without
abbrev pub desk_spoken : DeskStepped → ℕ → DeskTurn
desk_spoken r n = record { listener = record { session = r.session; pending = empty }; next = n; count = r.count }

abbrev pub desk_silent : Listener → ℕ → DeskTurn
desk_silent d n = record { listener = d; next = n; count = 0 }

-- the six figures of a sound layout; or refusal 1
unfoldable pub figures_call : Layout → Result FigureList Refusal
figures_call l = cond (sound_b l) (Ok (figures_of l)) (Err NotSound)
