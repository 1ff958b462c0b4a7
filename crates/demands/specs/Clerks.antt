-- Document 02, No. 10, at the counter: "Two clerks work on one sheet and call their steps in turn." They send lines. Here are the steps that lines ask for, and
-- what is said of lines and their answers before the law of every order holds of them.
use Rattle.std.specs.Prelude.{◌≡◌, false, List, [], ◌∷◌, ◌++◌}
use Rattle.layout.specs.Check.{limit}
use Rattle.lines.specs.Text.{Line}
use Rattle.frames.specs.declared.Ask.TheVariants.{Open, Offers, Insert, Remove, Report}
use Rattle.frames.specs.declared.Request.{Request}
use Rattle.frames.specs.declared.Request.TheVariants.{OfLayout, Keep, Restore, Malformed}
use Rattle.frames.specs.Answers.{Answer}
use Rattle.session.specs.Listener.{asked_in}
use Rattle.session.specs.Replies.{refusal}
use Rattle.demands.specs.Orders.{Step, booking, removal}

-- the step that a request asks for, if it asks for one; the counter's own buffer has room for as many part numbers as there are places
abbrev pub steps_of : Request → List Step
steps_of (OfLayout (Open o)) = []
steps_of (OfLayout (Offers m p)) = []
steps_of (OfLayout (Insert m p r s)) = booking m p r s ∷ []
steps_of (OfLayout (Remove m)) = removal m limit ∷ []
steps_of (OfLayout Report) = []
steps_of Keep = []
steps_of Restore = []
steps_of Malformed = []

abbrev pub steps_in : List Line → List Step
steps_in [] = []
steps_in (line ∷ lines) = steps_of (asked_in line) ++ steps_in lines

-- nothing is opened and nothing put back, and a booking or a removal is not refused; what else is asked, and what it is answered, doesn't count
abbrev pub Works : Request → Answer → Type 0
Works (OfLayout (Open o)) a = ⊥
Works (OfLayout (Offers m p)) a = Unit {0}
Works (OfLayout (Insert m p r s)) a = refusal a ≡ false
Works (OfLayout (Remove m)) a = refusal a ≡ false
Works (OfLayout Report) a = Unit {0}
Works Keep a = Unit {0}
Works Restore a = ⊥
Works Malformed a = Unit {0}

-- so of each line with its answer
abbrev pub AllWork : List Line → List Answer → Type 0
AllWork [] [] = Unit {0}
AllWork [] (a ∷ xs) = ⊥
AllWork (line ∷ lines) [] = ⊥
AllWork (line ∷ lines) (a ∷ xs) = Works (asked_in line) a × AllWork lines xs
