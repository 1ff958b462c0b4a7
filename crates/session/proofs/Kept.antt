-- What is kept after a request, whatever its answer. Rests on specs/Session.
use mathlib.Core.Path.{◌≡◌, refl, ap, ◌∙◌}
use mathlib.Core.Bool.{Bool, true, false, cond}
use Rattle.std.specs.Prelude.{Result, Ok, Err}
use Rattle.layout.specs.declared.layout.Layout.{Layout}
use Rattle.marks.specs.declared.Refusal.{Refusal}
use Rattle.marks.specs.declared.Mark.{Mark}
use Rattle.layout.specs.Check.{sound_b}
use Rattle.layout.specs.Open.{open_of}
use Rattle.frames.specs.declared.Ask.TheVariants.{Open, Offers, Insert, Remove, Report}
use Rattle.frames.specs.declared.Request.{Request}
use Rattle.frames.specs.declared.Request.TheVariants.{OfLayout, Keep, Restore, Malformed}
use Rattle.frames.specs.Answers.{Answer}
use Rattle.session.specs.declared.Session.{Session}
use Rattle.session.specs.Session.{Reply, opened_by, kept_by, after_open, after_offers, after_insert, after_remove, after_keep, after_restore, after_report, Answers}
use Rattle.session.specs.Replies.{kept_in}

abbrev kept_of : Reply → Layout
kept_of r = r.session.kept

pub kept-after : (s : Session) (q : Request) (t : Session) (a : Answer) → Answers s q t a → t.kept ≡ kept_in s q
unfolding Answers after_open after_offers after_insert after_remove after_keep after_restore after_report
kept-after s (OfLayout (Open o)) t a h = let d = open_of o in ap kept_of h ∙ opening d.layout d.outcome
  where
    opening : (l : Layout) (v : Result Mark Refusal) → kept_of (opened_by s l v) ≡ s.kept
    opening l (Ok m) = refl
    opening l (Err e) = refl
kept-after s (OfLayout (Offers mark part)) t a h = ap kept_of h
kept-after s (OfLayout (Insert m p r f)) t a h = ap kept_of h.2
kept-after s (OfLayout (Remove m)) t a h = ap kept_of h.2
kept-after s (OfLayout Report) t a h = ap kept_of h
kept-after s Keep t a h = ap kept_of h ∙ keeping (sound_b s.layout)
  where
    keeping : (b : Bool) → kept_of (kept_by s b) ≡ cond b s.layout s.kept
    keeping true = refl
    keeping false = refl
kept-after s Restore t a h = ap kept_of h
kept-after s Malformed t a h = ap kept_of h
