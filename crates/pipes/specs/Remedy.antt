-- What is to be done about each of C's errors, by its number.
use Rattle.std.specs.Prelude.{cond, eqb, ℤ, pos, negsuc}
use Rattle.pipes.specs.declared.Remedy.{Remedy}
use Rattle.pipes.specs.declared.Remedy.TheVariants.{Again, Wait, Quit, Tell}

-- 4 is EINTR, 11 is EAGAIN and 32 is EPIPE
unfoldable pub remedy_of : ℤ → Remedy
remedy_of (pos n) = cond (eqb n 4) Again (cond (eqb n 11) Wait (cond (eqb n 32) Quit Tell))
remedy_of (negsuc n) = Tell
