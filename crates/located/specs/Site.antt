-- Where a pair goes.
-- Assumes nothing.
use Rattle.std.specs.Prelude.{ℕ, ◌+◌, Bool, true, leb}
use Rattle.std.proofs.Math.Option.{Option, none, some}
use Rattle.format.specs.Lists.{pick}
use Rattle.format.specs.Tables.{last_index}
use Rattle.homes.specs.declared.Home.{Home}
use Rattle.sites.specs.declared.Line.{Line}
use Rattle.sites.specs.declared.Filled.{Filled}
use Rattle.sites.specs.declared.Site.{Site}
use Rattle.located.specs.declared.Found.{Found}
use Rattle.located.specs.declared.Found.TheVariants.{Unkept, Misfit, At}

-- an image of a size that starts at a place ends within the bound
unfoldable pub image_fits : (start size : ℕ) → Bool
image_fits start size = leb (start + size) 65536

-- the site of a pair whose area has an id
abbrev pub site_at : Line → Filled → (id start size : ℕ) → Site
site_at l n id start size = record { line = l; filled = n; id = id; start = start; size = size; made = 0 }

-- where a pair goes, by the id of its area's home
abbrev pub found_by : (start size : ℕ) → Line → Filled → Option ℕ → Found
found_by start size l n none = Unkept
found_by start size l n (some id) = pick (image_fits start size) (At (site_at l n id start size)) Misfit

unfoldable pub found : Home → Line → Filled → Found
found h l n = found_by h.start h.size l n (last_index h.id)

-- a kept area's image ends within the bound
abbrev pub kept_fits : (start size : ℕ) → Option ℕ → Bool
kept_fits start size none = true
kept_fits start size (some id) = image_fits start size
