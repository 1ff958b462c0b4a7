-- The domain of a layout's settings, as a test. Document 01, "Domain": "sheet and part sides 1..67,108,863", "stages 1..254". Document 02, No. 4: "a blade
-- width 0..100".
use Rattle.std.specs.Prelude.{Bool, ◌&&◌, ℕ, leb}
use Rattle.piece.specs.declared.settings.Settings.{Settings}
use Rattle.tree.specs.Sound.{max_side, max_stages, max_blade}

abbrev pub side_b : ℕ → Bool
side_b s = leb 1 s && leb s max_side

abbrev pub domain_b : Settings → Bool
domain_b settings =
    side_b settings.sheet.width && (side_b settings.sheet.height
    && (leb 1 settings.stages && (leb settings.stages max_stages && leb settings.blade max_blade)))
