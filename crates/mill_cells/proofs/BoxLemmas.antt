-- The boxes of triangles lie within their bounds.
use Rattle.std.proofs.Common.{◌≡◌, ℕ, zero, suc, ◌<◌, ◌≤◌, Bool, true, false, List, [], ◌∷◌, length, refl, sym, subst, ap, ◌∙◌, FitsSigned, arith}
use Rattle.std.specs.Int.{int_min, int_max}
use Rattle.std.specs.List.{fold, Contains}
use mir.Syntax.{w32}
use Rattle.std.proofs.lemmas.Int.{ints, clamps, to_z-of_z}
use Rattle.mill_base.proofs.Machine.{stored}
use Rattle.std.proofs.lemmas.List.{length-map, get_or-map}
use lib.IntN.{ℤ, pos, nat_abs}
use lib.Signed.{◌<ℤ◌, ◌≤ℤ◌, lt_z}
use Rattle.mill_cells.specs.Walks.{do_overlap}
use Rattle.mill_base.specs.Numbers.{Within, lesser, greater}
use Rattle.mill_base.specs.declared.limits.TheConstants.{MAX_COORDINATE}
use Rattle.mill_base.specs.Ranges.{TriInRange, TrisInRange}
use Rattle.mill_base.specs.declared.points.Pt3.{Pt3}
use Rattle.mill_base.specs.declared.points.Tri.{Tri}
use Rattle.mill_base.specs.declared.points.Box2.{Box2}
use Rattle.mill_cells.specs.Boxes.{box_of, boxes_of, box_at, origin_box, widened, bounds_of, IsBounds, IsInside, AllInside, IsCommon}
use Rattle.mill_cells.proofs.Meeting.{ends_in_order}

-- the least and the greatest of two numbers, as they are stored
pub least_is : (a b : ℤ) → int_min a b ≡ lesser a b
least_is a b = refl

pub most_is : (a b : ℤ) → int_max a b ≡ greater a b
most_is a b = grind (arith, ints)

pub least : (m a b : ℤ) → FitsSigned w32 m → FitsSigned w32 a → FitsSigned w32 b → m ≡ int_min (stored w32 a) (stored w32 b) → stored w32 m ≡ lesser a b
least m a b fm fa fb e = to_z-of_z w32 m fm ∙ (rw (to_z-of_z w32 a fa, to_z-of_z w32 b fb) at e)

pub most : (m a b : ℤ) → FitsSigned w32 m → FitsSigned w32 a → FitsSigned w32 b → m ≡ int_max (stored w32 a) (stored w32 b) → stored w32 m ≡ greater a b
most m a b fm fa fb e = to_z-of_z w32 m fm ∙ ((rw (to_z-of_z w32 a fa, to_z-of_z w32 b fb) at e) ∙ most_is a b)

pub least3 : (m n a b c : ℤ) → FitsSigned w32 m → FitsSigned w32 n → FitsSigned w32 a → FitsSigned w32 b → FitsSigned w32 c
    → m ≡ int_min (stored w32 a) (stored w32 n) → n ≡ int_min (stored w32 b) (stored w32 c) → stored w32 m ≡ lesser a (lesser b c)
least3 m n a b c fm fn fa fb fc e k =
    let inner = least n b c fn fb fc k in
    least m a n fm fa fn e ∙ ap (lesser a) (sym (to_z-of_z w32 n fn) ∙ inner)

pub most3 : (m n a b c : ℤ) → FitsSigned w32 m → FitsSigned w32 n → FitsSigned w32 a → FitsSigned w32 b → FitsSigned w32 c
    → m ≡ int_max (stored w32 a) (stored w32 n) → n ≡ int_max (stored w32 b) (stored w32 c) → stored w32 m ≡ greater a (greater b c)
most3 m n a b c fm fn fa fb fc e k =
    let inner = most n b c fn fb fc k in
    most m a n fm fa fn e ∙ ap (greater a) (sym (to_z-of_z w32 n fn) ∙ inner)

pub same_box : (a b c d p q r s : ℤ) → a ≡ p → b ≡ q → c ≡ r → d ≡ s → ◌≡◌ {A = Box2} (record { x0 = a; y0 = b; x1 = c; y1 = d }) (record { x0 = p; y0 = q; x1 = r; y1 = s })
same_box a b c d p q r s e f g h = cc

-- the ends of three numbers
low_end : (a b c : ℤ) → Within MAX_COORDINATE a → Within MAX_COORDINATE b → Within MAX_COORDINATE c → Within MAX_COORDINATE (lesser a (lesser b c))
low_end a b c ha hb hc = record { within = low a b c ha.within hb.within hc.within }
  where
    low : (a b c : ℤ) → nat_abs a ≤ 524287 → nat_abs b ≤ 524287 → nat_abs c ≤ 524287 → nat_abs (lesser a (lesser b c)) ≤ 524287
    low a b c ha hb hc = grind (arith, ints)

high_end : (a b c : ℤ) → Within MAX_COORDINATE a → Within MAX_COORDINATE b → Within MAX_COORDINATE c → Within MAX_COORDINATE (greater a (greater b c))
high_end a b c ha hb hc = record { within = high a b c ha.within hb.within hc.within }
  where
    high : (a b c : ℤ) → nat_abs a ≤ 524287 → nat_abs b ≤ 524287 → nat_abs c ≤ 524287 → nat_abs (greater a (greater b c)) ≤ 524287
    high a b c ha hb hc = grind (arith, ints)

pub box_bounds : (t : Tri) → TriInRange t → IsBounds (box_of t)
box_bounds t h = record {
  x0_ok = low_end t.a.x t.b.x t.c.x h.a_ok.x_ok h.b_ok.x_ok h.c_ok.x_ok;
  y0_ok = low_end t.a.y t.b.y t.c.y h.a_ok.y_ok h.b_ok.y_ok h.c_ok.y_ok;
  x1_ok = high_end t.a.x t.b.x t.c.x h.a_ok.x_ok h.b_ok.x_ok h.c_ok.x_ok;
  y1_ok = high_end t.a.y t.b.y t.c.y h.a_ok.y_ok h.b_ok.y_ok h.c_ok.y_ok;
  x_order = ends_in_order t.a.x t.b.x t.c.x;
  y_order = ends_in_order t.a.y t.b.y t.c.y;
}

-- the lesser and the greater of two numbers
lesser_ok : (a b : ℤ) → Within MAX_COORDINATE a → Within MAX_COORDINATE b → Within MAX_COORDINATE (lesser a b)
lesser_ok a b ha hb = record { within = ok a b ha.within hb.within }
  where
    ok : (a b : ℤ) → nat_abs a ≤ 524287 → nat_abs b ≤ 524287 → nat_abs (lesser a b) ≤ 524287
    ok a b ha hb = grind (arith, ints)

greater_ok : (a b : ℤ) → Within MAX_COORDINATE a → Within MAX_COORDINATE b → Within MAX_COORDINATE (greater a b)
greater_ok a b ha hb = record { within = ok a b ha.within hb.within }
  where
    ok : (a b : ℤ) → nat_abs a ≤ 524287 → nat_abs b ≤ 524287 → nat_abs (greater a b) ≤ 524287
    ok a b ha hb = grind (arith, ints)

lesser_le : (a b : ℤ) → (lesser a b ≤ℤ a) × (lesser a b ≤ℤ b)
lesser_le a b = (grind (arith, ints), grind (arith, ints))

greater_le : (a b : ℤ) → (a ≤ℤ greater a b) × (b ≤ℤ greater a b)
greater_le a b = (grind (arith, ints), grind (arith, ints))

pub le_trans_ℤ : (a b c : ℤ) → a ≤ℤ b → b ≤ℤ c → a ≤ℤ c
le_trans_ℤ a b c h k = omega (arith, ints)

-- what holds both boxes
pub widened_bounds : (a b : Box2) → IsBounds a → IsBounds b → IsBounds (widened a b)
widened_bounds a b ha hb = record {
  x0_ok = lesser_ok a.x0 b.x0 ha.x0_ok hb.x0_ok;
  y0_ok = lesser_ok a.y0 b.y0 ha.y0_ok hb.y0_ok;
  x1_ok = greater_ok a.x1 b.x1 ha.x1_ok hb.x1_ok;
  y1_ok = greater_ok a.y1 b.y1 ha.y1_ok hb.y1_ok;
  x_order = le_trans_ℤ _ _ _ (lesser_le a.x0 b.x0).0 (le_trans_ℤ _ _ _ ha.x_order (greater_le a.x1 b.x1).0);
  y_order = le_trans_ℤ _ _ _ (lesser_le a.y0 b.y0).0 (le_trans_ℤ _ _ _ ha.y_order (greater_le a.y1 b.y1).0);
}

pub widened_first : (a b : Box2) → IsBounds a → IsInside (widened a b) a
widened_first a b h = record {
  west = (lesser_le a.x0 b.x0).0;
  x_order = h.x_order;
  east = (greater_le a.x1 b.x1).0;
  south = (lesser_le a.y0 b.y0).0;
  y_order = h.y_order;
  north = (greater_le a.y1 b.y1).0;
}

pub widened_second : (a b : Box2) → IsBounds b → IsInside (widened a b) b
widened_second a b h = record {
  west = (lesser_le a.x0 b.x0).1;
  x_order = h.x_order;
  east = (greater_le a.x1 b.x1).1;
  south = (lesser_le a.y0 b.y0).1;
  y_order = h.y_order;
  north = (greater_le a.y1 b.y1).1;
}

inside_itself : (a : Box2) → IsBounds a → IsInside a a
inside_itself a h = record {
  west = omega (arith, ints);
  x_order = h.x_order;
  east = omega (arith, ints);
  south = omega (arith, ints);
  y_order = h.y_order;
  north = omega (arith, ints);
}

inside_further : (a b c : Box2) → IsInside a b → IsInside b c → IsInside a c
inside_further a b c h k = record {
  west = le_trans_ℤ _ _ _ h.west k.west;
  x_order = k.x_order;
  east = le_trans_ℤ _ _ _ k.east h.east;
  south = le_trans_ℤ _ _ _ h.south k.south;
  y_order = k.y_order;
  north = le_trans_ℤ _ _ _ k.north h.north;
}

-- what a box becomes when it is widened by each triangle
abbrev pub hull_of : Box2 → List Tri → Box2
hull_of b tris = fold (λ b u. widened b (box_of u)) b tris

first_in : (t : Tri) (tris : List Tri) → TrisInRange (t ∷ tris) → TriInRange t
first_in t tris all = all t (0, omega arith, refl)

others_in : (t : Tri) (tris : List Tri) → TrisInRange (t ∷ tris) → TrisInRange tris
others_in t tris all u m = all u (suc m.0, omega (arith, m.1), m.2)

hull_bounds : (b : Box2) (tris : List Tri) → IsBounds b → TrisInRange tris → IsBounds (hull_of b tris)
hull_bounds b [] h all = h
hull_bounds b (t ∷ tris) h all = hull_bounds (widened b (box_of t)) tris (widened_bounds b (box_of t) h (box_bounds t (first_in t tris all))) (others_in t tris all)

hull_holds_first : (b : Box2) (tris : List Tri) → IsBounds b → TrisInRange tris → IsInside (hull_of b tris) b
hull_holds_first b [] h all = inside_itself b h
hull_holds_first b (t ∷ tris) h all =
    inside_further _ (widened b (box_of t)) b
    (hull_holds_first (widened b (box_of t)) tris (widened_bounds b (box_of t) h (box_bounds t (first_in t tris all))) (others_in t tris all))
    (widened_first b (box_of t) h)

hull_holds : (b : Box2) (tris : List Tri) (i : ℕ) → IsBounds b → TrisInRange tris → i < length tris → IsInside (hull_of b tris) (box_at (boxes_of tris) i)
hull_holds b [] i h all within = absurd (omega arith)
hull_holds b (t ∷ tris) zero h all within =
    let bt = box_bounds t (first_in t tris all) in
    inside_further _ (widened b (box_of t)) (box_of t)
    (hull_holds_first (widened b (box_of t)) tris (widened_bounds b (box_of t) h bt) (others_in t tris all))
    (widened_second b (box_of t) bt)
hull_holds b (t ∷ tris) (suc i) h all within =
    hull_holds (widened b (box_of t)) tris i (widened_bounds b (box_of t) h (box_bounds t (first_in t tris all))) (others_in t tris all) (omega arith)

pub bounds_ok : (tris : List Tri) → TrisInRange tris → IsBounds (bounds_of tris)
bounds_ok [] all = record {
  x0_ok = record { within = omega arith };
  y0_ok = record { within = omega arith };
  x1_ok = record { within = omega arith };
  y1_ok = record { within = omega arith };
  x_order = omega (arith, ints);
  y_order = omega (arith, ints);
}
bounds_ok (t ∷ tris) all = hull_bounds (box_of t) tris (box_bounds t (first_in t tris all)) (others_in t tris all)

pub bounds_hold : (tris : List Tri) → TrisInRange tris → AllInside (bounds_of tris) (boxes_of tris)
bounds_hold [] all i within = absurd (omega arith)
bounds_hold (t ∷ tris) all zero within = hull_holds_first (box_of t) tris (box_bounds t (first_in t tris all)) (others_in t tris all)
bounds_hold (t ∷ tris) all (suc i) within = hull_holds (box_of t) tris i (box_bounds t (first_in t tris all)) (others_in t tris all) (omega (arith, length-map tris box_of))

-- the common part of two stretches, as it is stored
pub record IsShared (a0 a1 b0 b1 m n : ℤ) : Type 0 where
  pub low_first : a0 ≤ℤ m
  pub low_second : b0 ≤ℤ m
  pub high_first : n ≤ℤ a1
  pub high_second : n ≤ℤ b1
  pub all : (x : ℤ) → a0 ≤ℤ x → b0 ≤ℤ x → x ≤ℤ a1 → x ≤ℤ b1 → (m ≤ℤ x) × (x ≤ℤ n)

shared_is : (a0 a1 b0 b1 : ℤ) → IsShared a0 a1 b0 b1 (int_max a0 b0) (int_min a1 b1)
shared_is a0 a1 b0 b1 = record {
  low_first = omega (arith, ints, clamps);
  low_second = omega (arith, ints, clamps);
  high_first = omega (arith, ints, clamps);
  high_second = omega (arith, ints, clamps);
  all = λ x p q r s. (omega (arith, ints, clamps), omega (arith, ints, clamps));
}

pub shared : (a0 a1 b0 b1 m n : ℤ) → FitsSigned w32 a0 → FitsSigned w32 a1 → FitsSigned w32 b0 → FitsSigned w32 b1 → FitsSigned w32 m → FitsSigned w32 n
    → m ≡ int_max (stored w32 a0) (stored w32 b0) → n ≡ int_min (stored w32 a1) (stored w32 b1) → IsShared a0 a1 b0 b1 (stored w32 m) (stored w32 n)
shared a0 a1 b0 b1 m n f0 f1 g0 g1 fm fn e k =
    let em : stored w32 m ≡ int_max a0 b0 = to_z-of_z w32 m fm ∙ (rw (to_z-of_z w32 a0 f0, to_z-of_z w32 b0 g0) at e) in
    let en : stored w32 n ≡ int_min a1 b1 = to_z-of_z w32 n fn ∙ (rw (to_z-of_z w32 a1 f1, to_z-of_z w32 b1 g1) at k) in
    rw (em, en) (shared_is a0 a1 b0 b1)

pub none_shared : (a0 a1 b0 b1 m n x : ℤ) → IsShared a0 a1 b0 b1 m n → n <ℤ m → a0 ≤ℤ x → b0 ≤ℤ x → x ≤ℤ a1 → x ≤ℤ b1 → ⊥
none_shared a0 a1 b0 b1 m n x h less p q r s = let k = h.all x p q r s in omega (arith, ints, k.0, k.1)

-- a box is made of two shared stretches
pub common_inside : (a b : Box2) (x0 y0 x1 y1 : ℤ) → IsShared a.x0 a.x1 b.x0 b.x1 x0 x1 → IsShared a.y0 a.y1 b.y0 b.y1 y0 y1 → x0 ≤ℤ x1 → y0 ≤ℤ y1
    → IsInside b (record { x0 = x0; y0 = y0; x1 = x1; y1 = y1 }) × IsInside a (record { x0 = x0; y0 = y0; x1 = x1; y1 = y1 })
common_inside a b x0 y0 x1 y1 x y p q = (
  record { west = x.low_second; x_order = p; east = x.high_second; south = y.low_second; y_order = q; north = y.high_second },
  record { west = x.low_first; x_order = p; east = x.high_first; south = y.low_first; y_order = q; north = y.high_first },
)

pub common_all : (a b : Box2) (x0 y0 x1 y1 : ℤ) → IsShared a.x0 a.x1 b.x0 b.x1 x0 x1 → IsShared a.y0 a.y1 b.y0 b.y1 y0 y1
    → IsCommon a b (record { x0 = x0; y0 = y0; x1 = x1; y1 = y1 })
common_all a b x0 y0 x1 y1 hx hy x y p q =
    let k = hx.all x p.right q.right p.left q.left in
    let l = hy.all y p.over q.over p.under q.under in
    record { right = k.0; left = k.1; over = l.0; under = l.1 }

-- a test of stored numbers
pub overlap_stored : (r : Bool) (a0 a1 b0 b1 : ℤ) → FitsSigned w32 a0 → FitsSigned w32 a1 → FitsSigned w32 b0 → FitsSigned w32 b1
    → r ≡ do_overlap (stored w32 a0) (stored w32 a1) (stored w32 b0) (stored w32 b1) → r ≡ do_overlap a0 a1 b0 b1
overlap_stored r a0 a1 b0 b1 f0 f1 g0 g1 e = rw (to_z-of_z w32 a0 f0, to_z-of_z w32 a1 f1, to_z-of_z w32 b0 g0, to_z-of_z w32 b1 g1) at e

pub not_less : (a b : ℤ) → lt_z b a ≡ false → a ≤ℤ b
not_less a b e = grind (arith, ints)

pub is_less : (a b : ℤ) → lt_z a b ≡ true → a <ℤ b
is_less a b e = grind (arith, ints)

abbrev pub no_point : Pt3
no_point = record { x = pos 0; y = pos 0; z = pos 0 }

abbrev pub no_tri : Tri
no_tri = record { a = no_point; b = no_point; c = no_point }

pub folded : (tris : List Tri) (t : Tri) (others : List Tri) → tris ≡ t ∷ others → (b r : Box2) → b ≡ box_of t → r ≡ hull_of b others → r ≡ bounds_of tris
folded tris t others e b r p q = rw e (rw p at q)

-- the same of a member
pub bounds_hold_one : (tris : List Tri) (t : Tri) → TrisInRange tris → Contains tris t → IsInside (bounds_of tris) (box_of t)
bounds_hold_one tris t all m =
    let at : box_at (boxes_of tris) m.0 ≡ box_of t = get_or-map box_of tris m.0 t origin_box m.1 ∙ ap box_of m.2 in
    subst (IsInside (bounds_of tris)) at (bounds_hold tris all m.0 (omega (arith, m.1, length-map tris box_of)))
