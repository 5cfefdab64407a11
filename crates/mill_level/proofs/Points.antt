-- The points of chains, from the edges of trails.
use Rattle.std.proofs.Common.{◌≡◌, ℕ, ◌+◌, ◌<◌, ℤ, w32, to_z, of_z, SFits, Bool, List, [], ◌∷◌, ◌++◌, map, length, get_or, take, refl, sym, ap, ap₂, ◌∙◌, arith}
use Rattle.std.proofs.lemmas.Int.{to_z-of_z}
use Rattle.std.proofs.lemmas.List.{map_push, take_more}
use Rattle.mill_base.specs.Points.{point_at}
use Rattle.mill_base.specs.declared.points.Pt3.{Pt3}
use Rattle.mill_level.specs.declared.edge.Edge.{Edge}
use Rattle.mill_level.specs.declared.grid.LevelMap.{LevelMap}
use Rattle.mill_level.specs.Crossings.{Crossing}
use Rattle.mill_level.specs.Waterlines.{Outline, outline}
use Rattle.mill_level.specs.inner.Maps.{crossing_at}
use Rattle.mill_level.specs.inner.Trails.{chain_from}

-- a crossing's point at height z, and that of an edge's crossing
abbrev pub point_of : ℤ → Crossing → Pt3
point_of z c = point_at c.x c.y z

abbrev pub edge_point : LevelMap → ℤ → Edge → Pt3
edge_point level z e = point_of z (crossing_at level e)

edge_points : (level : LevelMap) (z : ℤ) (es : List Edge) → map (point_of z) (map (crossing_at level) es) ≡ map (edge_point level z) es
edge_points level z [] = refl
edge_points level z (e ∷ es) = ap (λ ps. edge_point level z e ∷ ps) (edge_points level z es)

-- one element more of a list that grows as another is read
pub map_next : {X Y : Type 0} (f : X → Y) (xs : List X) (i : ℕ) (d : X) (done : List Y) (y : Y) → i < length xs → done ≡ map f (take i xs) → y ≡ f (get_or xs i d) → done ++ y ∷ [] ≡ map f (take (i + 1) xs)
map_next f xs i d done y less h e = ap₂ (λ ys v. ys ++ v ∷ []) h e ∙ sym (ap (map f) (take_more xs i d less) ∙ map_push f (take i xs) (get_or xs i d))

-- what the machine stores of a crossing's place
pub stored_point : (x y z : ℤ) (c : Crossing) → SFits w32 x → SFits w32 y → x ≡ c.x → y ≡ c.y → point_at (to_z w32 (of_z w32 x)) (to_z w32 (of_z w32 y)) z ≡ point_of z c
stored_point x y z c fits_x fits_y same_x same_y = ap₂ (λ u v. point_at u v z) (to_z-of_z w32 x fits_x ∙ same_x) (to_z-of_z w32 y fits_y ∙ same_y)

-- the outline of a trail that has a crossing
pub outline_of_trail : (level : LevelMap) (z : ℤ) (closed : Bool) (es : List Edge) (points : List Pt3) → 0 < length es → points ≡ map (edge_point level z) es
    → ◌≡◌ {A = Outline} (record { closed = closed; points = points }) (outline z (chain_from level closed es))
outline_of_trail level z closed [] points some is = absurd (omega arith)
outline_of_trail level z closed (e ∷ es) points some is = ap (λ ps. record { closed = closed; points = ps }) (is ∙ sym (ap (λ ps. edge_point level z e ∷ ps) (edge_points level z es)))
