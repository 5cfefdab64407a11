-- What the comparisons of stored numbers say of the numbers.
use Rattle.std.proofs.Common.{◌≡◌, ◌↔◌}
use lib.IntN.{ℤ, ◌+ℤ◌, ◌*ℤ◌}
use lib.Signed.{◌<ℤ◌}
use Rattle.mill_geom.specs.declared.offset.Offset.{Offset}
use Rattle.mill_geom.specs.Forms.{form_of, mixed_form_of, level_form_of, cross_of, volume_of, slope_x_of, slope_y_of, IsLineNear, AllUp, AllDown}

-- the comparison of the computed numbers is that of the triangle's
pub near_as : {T : Type 0} (r v x y : ℤ) (a b c : Offset) → v ≡ volume_of a b c → x ≡ slope_x_of a b c → y ≡ slope_y_of a b c
    → (T ↔ ((v *ℤ v) <ℤ ((r *ℤ r) *ℤ (x *ℤ x +ℤ y *ℤ y)))) → T ↔ IsLineNear r a b c
near_as r v x y a b c ev ex ey t = rw (ev, ex, ey) at t

pub level_as : (r m pp pq ps qs : ℤ) (p q s : Offset) → m ≡ mixed_form_of pp pq ps qs p.z q.z s.z → pp ≡ form_of r p p → pq ≡ form_of r p q → ps ≡ form_of r p s → qs ≡ form_of r q s → m ≡ level_form_of r p q s
level_as r m pp pq ps qs p q s em ea eb ec ed = rw (ea, eb, ec, ed) at em

pub up_as : (i j k v : ℤ) (a b c : Offset) → i ≡ cross_of b c → j ≡ cross_of c a → k ≡ cross_of a b → v ≡ volume_of a b c → AllUp i j k v → AllUp (cross_of b c) (cross_of c a) (cross_of a b) (volume_of a b c)
up_as i j k v a b c ei ej ek ev t = rw (ei, ej, ek, ev) at t

pub up_back : (i j k v : ℤ) (a b c : Offset) → i ≡ cross_of b c → j ≡ cross_of c a → k ≡ cross_of a b → v ≡ volume_of a b c → AllUp (cross_of b c) (cross_of c a) (cross_of a b) (volume_of a b c) → AllUp i j k v
up_back i j k v a b c ei ej ek ev t = rw (ei, ej, ek, ev) t

pub down_as : (i j k v : ℤ) (a b c : Offset) → i ≡ cross_of b c → j ≡ cross_of c a → k ≡ cross_of a b → v ≡ volume_of a b c → AllDown i j k v → AllDown (cross_of b c) (cross_of c a) (cross_of a b) (volume_of a b c)
down_as i j k v a b c ei ej ek ev t = rw (ei, ej, ek, ev) at t

pub down_back : (i j k v : ℤ) (a b c : Offset) → i ≡ cross_of b c → j ≡ cross_of c a → k ≡ cross_of a b → v ≡ volume_of a b c → AllDown (cross_of b c) (cross_of c a) (cross_of a b) (volume_of a b c) → AllDown i j k v
down_back i j k v a b c ei ej ek ev t = rw (ei, ej, ek, ev) t

-- the same of a crossing
pub low_as : (y r n height length : ℤ) → y ≡ height → n ≡ length → y <ℤ (r *ℤ n) → height <ℤ (r *ℤ length)
low_as y r n height length ey en h = rw (ey, en) at h

pub low_back : (y r n height length : ℤ) → y ≡ height → n ≡ length → height <ℤ (r *ℤ length) → y <ℤ (r *ℤ n)
low_back y r n height length ey en h = rw (ey, en) h
