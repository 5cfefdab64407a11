-- The keys of a job's document, and of a list of steps.
use Rattle.std.specs.Prelude.{ℕ, codes, bytes_eq, Bool, if◌then◌else◌, List, [], ◌∷◌, Option, Some, None}
use Rattle.std.specs.List.{list_any}
use Rattle.toml.specs.Data.{Members, no_members, member}
use Rattle.mill_job.specs.declared.key.Key.{Key}
use Rattle.mill_job.specs.declared.key.Key.TheVariants as key

-- a key's text
abbrev pub name_of : Key → List ℕ
name_of key.Unit = codes "unit"
name_of key.Cutter = codes "cutter"
name_of key.Radius = codes "radius"
name_of key.Rise = codes "rise"
name_of key.Run = codes "run"
name_of key.Floor = codes "floor"
name_of key.Top = codes "top"
name_of key.Clear = codes "clear"
name_of key.Area = codes "area"
name_of key.Home = codes "home"
name_of key.Pitch = codes "pitch"
name_of key.Sample = codes "sample"
name_of key.Allowance = codes "allowance"
name_of key.Band = codes "band"
name_of key.Lift = codes "lift"
name_of key.Raster = codes "raster"
name_of key.RoughRaster = codes "rough_raster"
name_of key.Layer = codes "layer"
name_of key.RoughStock = codes "rough_stock"
name_of key.Levels = codes "levels"
name_of key.Snap = codes "snap"
name_of key.MaxCut = codes "max_cut"
name_of key.HolderRadius = codes "holder_radius"
name_of key.Stickout = codes "stickout"
name_of key.PathTol = codes "path_tol"
name_of key.Slack = codes "slack"
name_of key.Overcut = codes "overcut"
name_of key.Graze = codes "graze"
name_of key.KeepOut = codes "keep_out"
name_of key.Rapids = codes "rapids"
name_of key.Start = codes "start"
name_of key.Spindle = codes "spindle"
name_of key.Words = codes "words"
name_of key.PeckClearance = codes "peck_clearance"
name_of key.Lengths = codes "lengths"
name_of key.ArcTol = codes "arc_tol"
name_of key.Steps = codes "steps"
name_of key.Program = codes "program"
name_of key.Feed = codes "feed"

-- every key of a job but that of the unit, in the format's order
abbrev pub other_keys : List Key
other_keys = key.Cutter ∷ key.Radius ∷ key.Rise ∷ key.Run ∷ key.Floor ∷ key.Top ∷ key.Clear ∷ key.Area ∷ key.Home ∷ key.Pitch ∷ key.Sample ∷ key.Allowance ∷ key.Band ∷ key.Lift ∷ key.Raster ∷ key.RoughRaster ∷ key.Layer ∷ key.RoughStock ∷ key.Levels ∷ key.Snap ∷ key.MaxCut ∷ key.HolderRadius ∷ key.Stickout ∷ key.PathTol ∷ key.Slack ∷ key.Overcut ∷ key.Graze ∷ key.KeepOut ∷ key.Rapids ∷ key.Start ∷ key.Spindle ∷ key.Words ∷ key.PeckClearance ∷ key.Lengths ∷ key.ArcTol ∷ []

-- every key of a job, in the format's order
abbrev pub every_key : List Key
every_key = key.Unit ∷ other_keys

-- the text is one of these
abbrev pub is_one_of : List (List ℕ) → List ℕ → Bool
is_one_of texts text = list_any (bytes_eq text) texts

-- the text is that of one of these keys
unfoldable pub is_name_of : List Key → List ℕ → Bool
is_name_of keys text = list_any (λ key. bytes_eq text (name_of key)) keys

-- the first member whose key is none of these; the members stand in the order of their keys' bytes
abbrev pub unknown_but : List Key → Members → Option (List ℕ)
unknown_but keys no_members = None
unknown_but keys (member text value ms) = if is_name_of keys text then unknown_but keys ms else Some text
