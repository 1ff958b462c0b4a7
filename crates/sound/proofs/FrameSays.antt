-- The test of the domain says yes exactly when the settings are in the domain of document 01 and of document 02, No. 4.
use Prim.Native.Nat.{ℕ, ◌≤◌}
use Rattle.piece.specs.declared.settings.Settings.{Settings}
use Rattle.tree.specs.Sound.{max_side, max_stages, max_blade, Domain}
use Rattle.sound.specs.Frame.{side_b, domain_b}
use Rattle.sound.proofs.Says.{Says, worded, le-says, and-says}

side-says : (s : ℕ) → Says (side_b s) ((1 ≤ s) × (s ≤ max_side))
side-says s = and-says (le-says 1 s) (le-says s max_side)

-- "sheet sides, stages and numbers are in the domain", and the blade width
pub domain-says : (settings : Settings) → Says (domain_b settings) (Domain settings)
domain-says settings =
    worded
    (and-says (side-says settings.sheet.width) (and-says (side-says settings.sheet.height)
    (and-says (le-says 1 settings.stages) (and-says (le-says settings.stages max_stages) (le-says settings.blade max_blade)))))
    (λ g.
    record {
      wide = g.0.0;
      tall = g.1.0.0;
      width = g.0.1;
      height = g.1.0.1;
      least = g.1.1.0;
      most = g.1.1.1.0;
      blade = g.1.1.1.1;
    })
    (λ d. ((d.wide, d.width), ((d.tall, d.height), (d.least, (d.most, d.blade)))))
