-- What a triangle has over a height: its extent along an axis is that of what its edges have there.
use Rattle.std.proofs.Common.{◌≡◌, ℕ, ◌+◌, ◌*◌, ◌<◌, ◌≤◌, refl, ap, sym, ◌∙◌, subst, subst₂, arith}
use Rattle.std.specs.Prelude.{nat_abs}
use Rattle.std.specs.Int.{div_ceil, int_max, int_min}
use Rattle.std.proofs.lemmas.Grind.{div_ceil_times}
use Rattle.std.proofs.lemmas.Int.{ints, by_lt_z}
use lib.IntN.{ℤ, pos, ◌+ℤ◌, ◌-ℤ◌, ◌*ℤ◌}
use lib.Signed.{◌<ℤ◌, ◌≤ℤ◌}
use Rattle.mill_base.specs.Numbers.{Within}
use Rattle.mill_base.specs.Points.{plus, times}
use Rattle.mill_base.specs.declared.limits.TheConstants.{MAX_COORDINATE}
use Rattle.mill_base.specs.declared.points.Pt3.{Pt3}
use Rattle.mill_base.specs.declared.points.Tri.{Tri}
use Rattle.mill_geom.specs.declared.touch.Axis.{Axis}
use Rattle.mill_geom.specs.declared.touch.Axis.TheVariants.{X, Y}
use Rattle.mill_geom.specs.declared.extent.Corner.{Corner}
use Rattle.mill_geom.specs.declared.extent.Extent.{Extent}
use Rattle.mill_geom.specs.Extents.{IsExtentInRange, IsExtentOver, IsPlaceIn, place_along}
use Rattle.mill_geom.specs.inner.Edges.{IsAt, IsCornerInRange, IsIn, IsPartOver, IsUpperPart, corner_of, crossing}
use Rattle.mill_geom.proofs.ExtentCerts.{all_within, crosses_after, crosses_before, down_after, down_before, earlier, heights_over, later, mean_after, mean_before, none_over, one_over, one_under, up_after, up_before}

-- ---- the lemma: a bound on an edge's places over the height, at each edge of a triangle, is one for its points over the height

-- f and p are how far two corners are past a bound, g and h their heights: no place over the height on the edge between them is past the bound
record IsEdgeWithin (f g p h : ℤ) : Type 0 where
  first : (pos 0) <ℤ g → f ≤ℤ pos 0
  second : (pos 0) <ℤ h → p ≤ℤ pos 0
  falls : (pos 0) <ℤ g → h ≤ℤ pos 0 → (p *ℤ g) ≤ℤ (f *ℤ h)
  rises : g ≤ℤ pos 0 → (pos 0) <ℤ h → (f *ℤ h) ≤ℤ (p *ℤ g)

-- sums whose parts go round
round : (a b c : ℤ) → (pos 0) <ℤ ((a +ℤ b) +ℤ c) → (pos 0) <ℤ ((b +ℤ c) +ℤ a)
round a b c h = omega (arith, ints)

back : (a b c : ℤ) → ((b +ℤ c) +ℤ a) ≤ℤ pos 0 → ((a +ℤ b) +ℤ c) ≤ℤ pos 0
back a b c h = omega (arith, ints)

against : (z : ℤ) → (pos 0) <ℤ z → z ≤ℤ pos 0 → ⊥
against z a b = omega (arith, ints)

-- the first corner alone is under the height
under_within : (u v w f g p h q k : ℤ) → (pos 0) ≤ℤ u → (pos 0) ≤ℤ v → (pos 0) ≤ℤ w → g ≤ℤ pos 0 → p ≤ℤ pos 0 → q ≤ℤ pos 0 → (f *ℤ h) ≤ℤ (p *ℤ g) → (f *ℤ k) ≤ℤ (q *ℤ g)
    → (pos 0) <ℤ ((u *ℤ g +ℤ v *ℤ h) +ℤ w *ℤ k) → ((u *ℤ f +ℤ v *ℤ p) +ℤ w *ℤ q) ≤ℤ pos 0
under_within u v w f g p h q k hu hv hw under hp hq second third some =
    by_lt_z (pos 0) f (λ past. one_under u v w f g p h q k hv hw under past second third some) (λ within. all_within u v w f p q hu hv hw within hp hq)

-- the first corner is on another side of the height than the two others, which are both on one
odd_within : (u v w f g p h q k : ℤ) → (pos 0) ≤ℤ u → (pos 0) ≤ℤ v → (pos 0) ≤ℤ w → IsEdgeWithin f g p h → IsEdgeWithin q k f g
    → ((pos 0) <ℤ g → (h ≤ℤ pos 0) × (k ≤ℤ pos 0)) → (g ≤ℤ pos 0 → ((pos 0) <ℤ h) × ((pos 0) <ℤ k))
    → (pos 0) <ℤ ((u *ℤ g +ℤ v *ℤ h) +ℤ w *ℤ k) → ((u *ℤ f +ℤ v *ℤ p) +ℤ w *ℤ q) ≤ℤ pos 0
odd_within u v w f g p h q k hu hv hw ab ca others_under others_over some =
    by_lt_z (pos 0) g
    (λ over. let o = others_under over in one_over u v w f g p h q k hv hw over (ab.first over) (ab.falls over o.0) (ca.rises o.1 over) some)
    (λ under. let o = others_over under in under_within u v w f g p h q k hu hv hw under (ab.second o.0) (ca.first o.1) (ab.rises under o.0) (ca.falls o.1 under) some)

-- any corners
triangle_within : (u v w f g p h q k : ℤ) → (pos 0) ≤ℤ u → (pos 0) ≤ℤ v → (pos 0) ≤ℤ w → IsEdgeWithin f g p h → IsEdgeWithin p h q k → IsEdgeWithin q k f g
    → (pos 0) <ℤ ((u *ℤ g +ℤ v *ℤ h) +ℤ w *ℤ k) → ((u *ℤ f +ℤ v *ℤ p) +ℤ w *ℤ q) ≤ℤ pos 0
triangle_within u v w f g p h q k hu hv hw ab bc ca some =
    by_lt_z (pos 0) g
    (λ a. by_lt_z (pos 0) h
    (λ b. by_lt_z (pos 0) k
    (λ c. all_within u v w f p q hu hv hw (ab.first a) (bc.first b) (ca.first c))
    (λ c. third (λ over. absurd (against k over c)) (λ under. (a, b))))
    (λ b. by_lt_z (pos 0) k
    (λ c. second (λ over. absurd (against h over b)) (λ under. (c, a)))
    (λ c. first (λ over. (b, c)) (λ under. absurd (against g a under)))))
    (λ a. by_lt_z (pos 0) h
    (λ b. by_lt_z (pos 0) k
    (λ c. first (λ over. absurd (against g over a)) (λ under. (b, c)))
    (λ c. second (λ over. (c, a)) (λ under. absurd (against h b under))))
    (λ b. by_lt_z (pos 0) k
    (λ c. third (λ over. (a, b)) (λ under. absurd (against k c under)))
    (λ c. absurd (none_over u v w g h k hu hv hw a b c some))))
  where
    first : ((pos 0) <ℤ g → (h ≤ℤ pos 0) × (k ≤ℤ pos 0)) → (g ≤ℤ pos 0 → ((pos 0) <ℤ h) × ((pos 0) <ℤ k)) → ((u *ℤ f +ℤ v *ℤ p) +ℤ w *ℤ q) ≤ℤ pos 0
    first under over = odd_within u v w f g p h q k hu hv hw ab ca under over some

    second : ((pos 0) <ℤ h → (k ≤ℤ pos 0) × (g ≤ℤ pos 0)) → (h ≤ℤ pos 0 → ((pos 0) <ℤ k) × ((pos 0) <ℤ g)) → ((u *ℤ f +ℤ v *ℤ p) +ℤ w *ℤ q) ≤ℤ pos 0
    second under over = back (u *ℤ f) (v *ℤ p) (w *ℤ q) (odd_within v w u p h q k f g hv hw hu bc ab under over (round (u *ℤ g) (v *ℤ h) (w *ℤ k) some))

    third : ((pos 0) <ℤ k → (g ≤ℤ pos 0) × (h ≤ℤ pos 0)) → (k ≤ℤ pos 0 → ((pos 0) <ℤ g) × ((pos 0) <ℤ h)) → ((u *ℤ f +ℤ v *ℤ p) +ℤ w *ℤ q) ≤ℤ pos 0
    third under over =
        back (u *ℤ f) (v *ℤ p) (w *ℤ q) (back (v *ℤ p) (w *ℤ q) (u *ℤ f)
        (odd_within w u v q k f g p h hw hu hv ca bc under over (round (v *ℤ h) (w *ℤ k) (u *ℤ g) (round (u *ℤ g) (v *ℤ h) (w *ℤ k) some))))

-- ---- from an extent to its two bounds, and back

not_past : (a b : ℤ) → a ≤ℤ b → (a -ℤ b) ≤ℤ pos 0
not_past a b h = omega (arith, ints)

after_edge : (a b : Corner) (extent : Extent) → IsPartOver a b extent → IsEdgeWithin (extent.first -ℤ a.place) a.height (extent.first -ℤ b.place) b.height
after_edge a b extent part = record {
  first = λ over. not_past extent.first a.place (part.first over).first;
  second = λ over. not_past extent.first b.place (part.second over).first;
  falls = λ over under. crosses_after a.place a.height b.place b.height extent.first (part.falls over under).after;
  rises = λ under over. crosses_after b.place b.height a.place a.height extent.first (part.rises under over).after;
}

before_edge : (a b : Corner) (extent : Extent) → IsPartOver a b extent → IsEdgeWithin (a.place -ℤ extent.last) a.height (b.place -ℤ extent.last) b.height
before_edge a b extent part = record {
  first = λ over. not_past a.place extent.last (part.first over).last;
  second = λ over. not_past b.place extent.last (part.second over).last;
  falls = λ over under. crosses_before a.place a.height b.place b.height extent.last (part.falls over under).before;
  rises = λ under over. crosses_before b.place b.height a.place a.height extent.last (part.rises under over).before;
}

-- an extent that holds what the three edges have over the height holds what the triangle has there
module _ (a b c : Corner) (extent : Extent) (ab : IsPartOver a b extent) (bc : IsPartOver b c extent) (ca : IsPartOver c a extent) where
  mean_in : (u v w : ℤ) → (pos 0) ≤ℤ u → (pos 0) ≤ℤ v → (pos 0) ≤ℤ w → (pos 0) <ℤ ((u *ℤ a.height +ℤ v *ℤ b.height) +ℤ w *ℤ c.height)
      → IsPlaceIn extent ((u +ℤ v) +ℤ w) ((u *ℤ a.place +ℤ v *ℤ b.place) +ℤ w *ℤ c.place)
  mean_in u v w hu hv hw some = record {
    after = mean_after u v w a.place b.place c.place extent.first
        (triangle_within u v w _ a.height _ b.height _ c.height hu hv hw (after_edge a b extent ab) (after_edge b c extent bc) (after_edge c a extent ca) some);
    before = mean_before u v w a.place b.place c.place extent.last
        (triangle_within u v w _ a.height _ b.height _ c.height hu hv hw (before_edge a b extent ab) (before_edge b c extent bc) (before_edge c a extent ca) some);
  }

-- a mean's coordinate is the mean of the corners' coordinates
place_of_mean : (axis : Axis) (tri : Tri) (u v w : ℤ) → place_along axis (plus (plus (times u tri.a) (times v tri.b)) (times w tri.c))
    ≡ (u *ℤ place_along axis tri.a +ℤ v *ℤ place_along axis tri.b) +ℤ w *ℤ place_along axis tri.c
place_of_mean X tri u v w = refl
place_of_mean Y tri u v w = refl

pub extent_by_edges : (axis : Axis) (z : ℤ) (tri : Tri) (extent : Extent) → IsPartOver (corner_of axis z tri.a) (corner_of axis z tri.b) extent → IsPartOver (corner_of axis z tri.b) (corner_of axis z tri.c) extent
    → IsPartOver (corner_of axis z tri.c) (corner_of axis z tri.a) extent → IsExtentOver axis z tri extent
extent_by_edges axis z tri extent ab bc ca n p k over =
    let high = subst₂ (λ m t. (m *ℤ z) <ℤ t) k.weights (ap (λ (q : Pt3). q.z) k.place) over in
    let some = heights_over k.u k.v k.w tri.a.z tri.b.z tri.c.z z high in
    let mean = mean_in (corner_of axis z tri.a) (corner_of axis z tri.b) (corner_of axis z tri.c) extent ab bc ca k.u k.v k.w k.u_ok k.v_ok k.w_ok some in
    subst₂ (IsPlaceIn extent) (sym k.weights) (sym (ap (place_along axis) k.place ∙ place_of_mean axis tri k.u k.v k.w)) mean

-- ---- wider extents

through : (a b c : ℤ) → a ≤ℤ b → b ≤ℤ c → a ≤ℤ c
through a b c h k = omega (arith, ints)

in_wider : (extent wider : Extent) (v : ℤ) → IsIn extent wider → IsAt extent v → IsAt wider v
in_wider extent wider v i at = record { first = through wider.first extent.first v i.after at.first; last = through v extent.last wider.last at.last i.before }

crossing_in_wider : (over under : Corner) (extent wider : Extent) → IsIn extent wider → (pos 0) <ℤ over.height → under.height ≤ℤ pos 0 → IsPlaceIn extent (over.height -ℤ under.height) (crossing over under)
    → IsPlaceIn wider (over.height -ℤ under.height) (crossing over under)
crossing_in_wider over under extent wider i up down at = record {
  after = earlier wider.first extent.first over.height under.height (crossing over under) i.after up down at.after;
  before = later wider.last extent.last over.height under.height (crossing over under) i.before up down at.before;
}

part_in_wider : (a b : Corner) (extent wider : Extent) → IsIn extent wider → IsPartOver a b extent → IsPartOver a b wider
part_in_wider a b extent wider i part = record {
  first = λ over. in_wider extent wider a.place i (part.first over);
  second = λ over. in_wider extent wider b.place i (part.second over);
  falls = λ over under. crossing_in_wider a b extent wider i over under (part.falls over under);
  rises = λ under over. crossing_in_wider b a extent wider i over under (part.rises under over);
}

in_in : (a b c : Extent) → IsIn a b → IsIn b c → IsIn a c
in_in a b c h k = record { after = through c.first b.first a.first k.after h.after; before = through a.last b.last c.last h.before k.before }

-- ---- what an edge has over the height

-- both corners
pub whole_part : (a b : Corner) → (pos 0) <ℤ a.height → (pos 0) <ℤ b.height → IsPartOver a b (record { first = int_min a.place b.place; last = int_max a.place b.place })
whole_part a b up too = record {
  first = λ _. record { first = grind (arith, ints); last = grind (arith, ints) };
  second = λ _. record { first = grind (arith, ints); last = grind (arith, ints) };
  falls = λ _ under. absurd (against b.height too under);
  rises = λ under _. absurd (against a.height up under);
}

-- the first corner, and the second one
pub first_part : (a b : Corner) (extent : Extent) → (pos 0) <ℤ a.height → b.height ≤ℤ pos 0 → IsUpperPart a b extent → IsPartOver a b extent
first_part a b extent up down part = record {
  first = λ _. part.end;
  second = λ over. absurd (against b.height over down);
  falls = λ _ _. part.cross;
  rises = λ under _. absurd (against a.height up under);
}

pub second_part : (a b : Corner) (extent : Extent) → a.height ≤ℤ pos 0 → (pos 0) <ℤ b.height → IsUpperPart b a extent → IsPartOver a b extent
second_part a b extent down up part = record {
  first = λ over. absurd (against a.height over down);
  second = λ _. part.end;
  falls = λ over _. absurd (against a.height over down);
  rises = λ _ _. part.cross;
}

-- the triangle, from its three edges, of which two are joined first
pub extent_joined : (axis : Axis) (z : ℤ) (tri : Tri) (ab bc ca joined extent : Extent) → IsPartOver (corner_of axis z tri.a) (corner_of axis z tri.b) ab → IsPartOver (corner_of axis z tri.b) (corner_of axis z tri.c) bc
    → IsPartOver (corner_of axis z tri.c) (corner_of axis z tri.a) ca → IsIn bc joined → IsIn ca joined → IsIn ab extent → IsIn joined extent → IsExtentOver axis z tri extent
extent_joined axis z tri ab bc ca joined extent first second third second_in third_in first_in rest_in =
    extent_by_edges axis z tri extent (part_in_wider _ _ ab extent first_in first) (part_in_wider _ _ bc extent (in_in bc joined extent second_in rest_in) second) (part_in_wider _ _ ca extent (in_in ca joined extent third_in rest_in) third)

-- ---- the part of an edge up to where it crosses the height, by its length

-- towards lesser places, and towards greater ones: its end is between the two corners, and so in range
pub part_down : (over under : Corner) (s : ℤ) → IsCornerInRange over → IsCornerInRange under → under.place <ℤ over.place → (pos 0) <ℤ over.height → (pos 0) ≤ℤ s → s ≤ℤ pos (nat_abs (under.place -ℤ over.place))
    → (pos (nat_abs (under.place -ℤ over.place)) *ℤ over.height) ≤ℤ (s *ℤ (over.height -ℤ under.height)) → IsUpperPart over under (record { first = over.place -ℤ s; last = over.place })
part_down over under s over_ok under_ok less up least most covers =
    let x = over_ok.place_ok.within in let y = under_ok.place_ok.within in
    let length : pos (nat_abs (under.place -ℤ over.place)) ≡ over.place -ℤ under.place = omega (arith, ints) in
    record {
      end = record { first = omega (arith, ints); last = omega (arith, ints) };
      cross = record {
        after = down_after over.place over.height under.place under.height s (rw length at covers);
        before = down_before over.place over.height under.place under.height (omega (arith, ints)) up;
      };
      in_range = record { first_ok = record { within = omega (arith, ints) }; last_ok = over_ok.place_ok };
    }

pub part_up : (over under : Corner) (s : ℤ) → IsCornerInRange over → IsCornerInRange under → over.place ≤ℤ under.place → (pos 0) <ℤ over.height → (pos 0) ≤ℤ s → s ≤ℤ pos (nat_abs (under.place -ℤ over.place))
    → (pos (nat_abs (under.place -ℤ over.place)) *ℤ over.height) ≤ℤ (s *ℤ (over.height -ℤ under.height)) → IsUpperPart over under (record { first = over.place; last = over.place +ℤ s })
part_up over under s over_ok under_ok less up least most covers =
    let x = over_ok.place_ok.within in let y = under_ok.place_ok.within in
    let length : pos (nat_abs (under.place -ℤ over.place)) ≡ under.place -ℤ over.place = omega (arith, ints) in
    record {
      end = record { first = omega (arith, ints); last = omega (arith, ints) };
      cross = record {
        after = up_after over.place over.height under.place under.height less up;
        before = up_before over.place over.height under.place under.height s (rw length at covers);
      };
      in_range = record { first_ok = over_ok.place_ok; last_ok = record { within = omega (arith, ints) } };
    }

-- ---- what is computed is in range

least_in_range : (x y : ℤ) → Within MAX_COORDINATE x → Within MAX_COORDINATE y → Within MAX_COORDINATE (int_min x y)
least_in_range x y h k = record { within = by h.within k.within }
  where
    by : nat_abs x ≤ 524287 → nat_abs y ≤ 524287 → nat_abs (int_min x y) ≤ 524287
    by h k = grind (arith, ints)

most_in_range : (x y : ℤ) → Within MAX_COORDINATE x → Within MAX_COORDINATE y → Within MAX_COORDINATE (int_max x y)
most_in_range x y h k = record { within = by h.within k.within }
  where
    by : nat_abs x ≤ 524287 → nat_abs y ≤ 524287 → nat_abs (int_max x y) ≤ 524287
    by h k = grind (arith, ints)

pub around_in_range : (a b : Extent) → IsExtentInRange a → IsExtentInRange b → IsExtentInRange (record { first = int_min a.first b.first; last = int_max a.last b.last })
around_in_range a b h k = record { first_ok = least_in_range a.first b.first h.first_ok k.first_ok; last_ok = most_in_range a.last b.last h.last_ok k.last_ok }

-- a share that is rounded up covers what it is of
pub share_covers : (length rise drop share : ℕ) → 0 < rise → share ≡ div_ceil (length * rise) (rise + drop) → length * rise ≤ share * (rise + drop)
share_covers length rise drop share some e = subst (λ t. length * rise ≤ t * (rise + drop)) (sym e) (div_ceil_times (length * rise) (rise + drop) (omega arith)).0
