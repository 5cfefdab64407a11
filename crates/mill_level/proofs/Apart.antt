-- No two joins go from one crossing, and no two come to one.
use Rattle.std.proofs.Common.{◌≡◌, ℕ, ◌+◌, ◌<◌, ◌⊎◌, inl, inr, Bool, true, false, not, if◌then◌else◌, List, [], ◌∷◌, ◌++◌, refl, sym, ap, ◌∙◌, arith}
use Rattle.std.specs.Prelude.{Contains}
use Rattle.std.proofs.lemmas.Bool.{and_from, lt-ltb, true≢false, false≢true}
use Rattle.std.proofs.lemmas.List.Elements.{Contains-append_cases, Contains-append_left, Contains-append_right, Contains-push_cases}
use Rattle.mill_level.specs.declared.edge.Edge.{Edge}
use Rattle.mill_level.specs.declared.square.Side.{Side}
use Rattle.mill_level.specs.declared.square.Side.TheVariants.{Bottom, Right, Top, Left}
use Rattle.mill_level.specs.declared.square.Square.{Square}
use Rattle.mill_level.specs.Grids.{Grid, differ, has_edge, is_crossing, is_lower_blocked, is_upper_blocked}
use Rattle.mill_level.specs.Joins.{Join, join, join_at, IsJoin, JoinsAreApart}
use Rattle.mill_level.specs.inner.Squares.{square_at, joins_of, side_of, is_begin_blocked, is_end_blocked, is_upward, first_of_three, next_of, prior_of, IsSide}

none : (x : Join) → Contains [] x → ⊥
none x h = omega (arith, h.1)

only : (x y : Join) → Contains (x ∷ []) y → x ≡ y
only x y h = elim (Contains-push_cases [] x y h) [
  | inl less ↦ absurd (none y less)
  | inr same ↦ same
]

-- one end of a join is at a side between a free corner and a blocked one, and the other end is at the side that is told
pub record Meets (mine other side : Edge) (free blocked : Bool) (far : Edge) : Type 0 where
  pub is_free : free ≡ false
  pub is_blocked : blocked ≡ true
  pub at : mine ≡ side
  pub to : other ≡ far

comes : (a b side other : Edge) → Contains (join other side ∷ []) (join a b) → Meets b a side false true other
comes a b side other h =
    let e = only (join other side) (join a b) h in
    record { is_free = refl; is_blocked = refl; at = sym (ap (λ (j : Join). j.to) e); to = sym (ap (λ (j : Join). j.from) e) }

module _ (a b before side next last : Edge) where
  abbrev MeetsBefore : Bool → Bool → Bool → Bool → Type 0
  MeetsBefore first second third fourth = Meets b a before fourth first (first_of_three second third side next last)

  comes_at : (first second third fourth : Bool) → Contains (join_at before first side second next third last fourth) (join a b) → MeetsBefore first second third fourth
  comes_at false second third fourth h = absurd (none _ h)
  comes_at true second third true h = absurd (none _ h)
  comes_at true false third false h = comes a b before side h
  comes_at true true false false h = comes a b before next h
  comes_at true true true false h = comes a b before last h

  the_only : (x y : Edge) → b ≡ y → a ≡ x → Contains (join x y ∷ []) (join a b)
  the_only x y p q = (0, omega arith, cc)

  joined_at : (first second third fourth : Bool) → MeetsBefore first second third fourth → Contains (join_at before first side second next third last fourth) (join a b)
  joined_at false second third fourth h = absurd (false≢true h.is_blocked)
  joined_at true second third true h = absurd (true≢false h.is_free)
  joined_at true false third false h = the_only side before h.at h.to
  joined_at true true false false h = the_only next before h.at h.to
  joined_at true true true false h = the_only last before h.at h.to

  -- seen from its other end
  other_end : (first second third fourth : Bool) → MeetsBefore first second third fourth
      → Meets a b side second first (first_of_three fourth third before last next)
      ⊎ (Meets a b next third second (first_of_three first fourth side before last) ⊎ Meets a b last fourth third (first_of_three second first next side before))
  other_end false second third fourth h = absurd (false≢true h.is_blocked)
  other_end true second third true h = absurd (true≢false h.is_free)
  other_end true false third false h = inl (record { is_free = refl; is_blocked = refl; at = h.to; to = h.at })
  other_end true true false false h = inr (inl (record { is_free = refl; is_blocked = refl; at = h.to; to = h.at }))
  other_end true true true false h = inr (inr (record { is_free = refl; is_blocked = refl; at = h.to; to = h.at }))

-- the joins of a square that come to a side
abbrev joins_to : Square → Side → List Join
joins_to q Left = join_at q.left q.low_left q.bottom q.low_right q.right q.high_right q.top q.high_left
joins_to q Bottom = join_at q.bottom q.low_right q.right q.high_right q.top q.high_left q.left q.low_left
joins_to q Right = join_at q.right q.high_right q.top q.high_left q.left q.low_left q.bottom q.low_right
joins_to q Top = join_at q.top q.high_left q.left q.low_left q.bottom q.low_right q.right q.high_right

of_four : (ws xs ys zs : List Join) (x : Join) → Contains (ws ++ xs ++ ys ++ zs) x → Contains ws x ⊎ (Contains xs x ⊎ (Contains ys x ⊎ Contains zs x))
of_four ws xs ys zs x h = elim (Contains-append_cases (ws ++ xs ++ ys) zs x h) [
  | inr z ↦ inr (inr (inr z))
  | inl h ↦ elim (Contains-append_cases (ws ++ xs) ys x h) [
    | inr y ↦ inr (inr (inl y))
    | inl h ↦ elim (Contains-append_cases ws xs x h) [ inl w ↦ inl w | inr m ↦ inr (inl m) ]
  ]
]

to_four : (ws xs ys zs : List Join) (x : Join) → Contains ws x ⊎ (Contains xs x ⊎ (Contains ys x ⊎ Contains zs x)) → Contains (ws ++ xs ++ ys ++ zs) x
to_four ws xs ys zs x (inl w) = Contains-append_left (ws ++ xs ++ ys) zs x (Contains-append_left (ws ++ xs) ys x (Contains-append_left ws xs x w))
to_four ws xs ys zs x (inr (inl w)) = Contains-append_left (ws ++ xs ++ ys) zs x (Contains-append_left (ws ++ xs) ys x (Contains-append_right ws xs x w))
to_four ws xs ys zs x (inr (inr (inl w))) = Contains-append_left (ws ++ xs ++ ys) zs x (Contains-append_right (ws ++ xs) ys x w)
to_four ws xs ys zs x (inr (inr (inr w))) = Contains-append_right (ws ++ xs ++ ys) zs x w

-- where the join goes to from a side, if forward, or else where it comes from
abbrev pub far_of : Square → Bool → Side → Edge
far_of q forward side = if forward then next_of q side else prior_of q side

-- one end of a join of the square, where it goes from, if forward, or else where it comes to, is at this side
abbrev MeetsAt : Square → Bool → Edge → Edge → Side → Type 0
MeetsAt q forward mine other s =
    Meets mine other (side_of q s) (if forward then is_end_blocked q s else is_begin_blocked q s) (if forward then is_begin_blocked q s else is_end_blocked q s) (far_of q forward s)

abbrev MeetsSide : Square → Bool → Edge → Edge → Type 0
MeetsSide q forward mine other = (s : Side) × MeetsAt q forward mine other s

pick : (P : Side → Type 0) (s t u : Side) → P s ⊎ (P t ⊎ P u) → (v : Side) × P v
pick P s t u (inl h) = (s, h)
pick P s t u (inr (inl h)) = (t, h)
pick P s t u (inr (inr h)) = (u, h)

module _ (q : Square) (a b : Edge) where
  comes_to : Contains (joins_of q) (join a b) → MeetsSide q false b a
  comes_to h = elim (of_four (joins_to q Left) (joins_to q Bottom) (joins_to q Right) (joins_to q Top) (join a b) h) [
    | inl l ↦ (Left, comes_at a b q.left q.bottom q.right q.top q.low_left q.low_right q.high_right q.high_left l)
    | inr (inl m) ↦ (Bottom, comes_at a b q.bottom q.right q.top q.left q.low_right q.high_right q.high_left q.low_left m)
    | inr (inr (inl r)) ↦ (Right, comes_at a b q.right q.top q.left q.bottom q.high_right q.high_left q.low_left q.low_right r)
    | inr (inr (inr t)) ↦ (Top, comes_at a b q.top q.left q.bottom q.right q.high_left q.low_left q.low_right q.high_right t)
  ]

  -- and the other way round
  joined : MeetsSide q false b a → Contains (joins_of q) (join a b)
  joined h = to_four (joins_to q Left) (joins_to q Bottom) (joins_to q Right) (joins_to q Top) (join a b) (by h.0 h.1)
    where
      by : (s : Side) → MeetsAt q false b a s
          → Contains (joins_to q Left) (join a b) ⊎ (Contains (joins_to q Bottom) (join a b) ⊎ (Contains (joins_to q Right) (join a b) ⊎ Contains (joins_to q Top) (join a b)))
      by Left m = inl (joined_at a b q.left q.bottom q.right q.top q.low_left q.low_right q.high_right q.high_left m)
      by Bottom m = inr (inl (joined_at a b q.bottom q.right q.top q.left q.low_right q.high_right q.high_left q.low_left m))
      by Right m = inr (inr (inl (joined_at a b q.right q.top q.left q.bottom q.high_right q.high_left q.low_left q.low_right m)))
      by Top m = inr (inr (inr (joined_at a b q.top q.left q.bottom q.right q.high_left q.low_left q.low_right q.high_right m)))

  -- the other end: round the square one way and the other
  far_end : (s : Side) → MeetsAt q false b a s → MeetsSide q true a b
  far_end Left m = pick (MeetsAt q true a b) Bottom Right Top (other_end a b q.left q.bottom q.right q.top q.low_left q.low_right q.high_right q.high_left m)
  far_end Bottom m = pick (MeetsAt q true a b) Right Top Left (other_end a b q.bottom q.right q.top q.left q.low_right q.high_right q.high_left q.low_left m)
  far_end Right m = pick (MeetsAt q true a b) Top Left Bottom (other_end a b q.right q.top q.left q.bottom q.high_right q.high_left q.low_left q.low_right m)
  far_end Top m = pick (MeetsAt q true a b) Left Bottom Right (other_end a b q.top q.left q.bottom q.right q.high_left q.low_left q.low_right q.high_right m)

  near_end : (s : Side) → MeetsAt q true b a s → MeetsSide q false a b
  near_end Left m = pick (MeetsAt q false a b) Top Right Bottom (other_end a b q.left q.top q.right q.bottom q.high_left q.high_right q.low_right q.low_left m)
  near_end Bottom m = pick (MeetsAt q false a b) Left Top Right (other_end a b q.bottom q.left q.top q.right q.low_left q.high_left q.high_right q.low_right m)
  near_end Right m = pick (MeetsAt q false a b) Bottom Left Top (other_end a b q.right q.bottom q.left q.top q.low_right q.low_left q.high_left q.high_right m)
  near_end Top m = pick (MeetsAt q false a b) Right Bottom Left (other_end a b q.top q.right q.bottom q.left q.high_right q.low_right q.low_left q.high_left m)

-- two sides that are one edge, both upward or both not, are one side of one square
pub same_side : (grid : Grid) (i j k l : ℕ) (s t : Side) → side_of (square_at grid i j) s ≡ side_of (square_at grid k l) t → is_upward s ≡ is_upward t → (i ≡ k) × (j ≡ l) × (s ≡ t)
same_side grid i j k l Bottom Bottom e u = (ap (λ (x : Edge). x.column) e, ap (λ (x : Edge). x.row) e, refl)
same_side grid i j k l Right Right e u = let c = ap (λ (x : Edge). x.column) e in (omega arith, ap (λ (x : Edge). x.row) e, refl)
same_side grid i j k l Top Top e u = let r = ap (λ (x : Edge). x.row) e in (ap (λ (x : Edge). x.column) e, omega arith, refl)
same_side grid i j k l Left Left e u = (ap (λ (x : Edge). x.column) e, ap (λ (x : Edge). x.row) e, refl)
same_side grid i j k l Bottom Right e u = let a = ap (λ (x : Edge). x.axis) e in cc
same_side grid i j k l Right Bottom e u = let a = ap (λ (x : Edge). x.axis) e in cc
same_side grid i j k l Top Left e u = let a = ap (λ (x : Edge). x.axis) e in cc
same_side grid i j k l Left Top e u = let a = ap (λ (x : Edge). x.axis) e in cc
same_side grid i j k l Bottom Top e u = cc
same_side grid i j k l Bottom Left e u = cc
same_side grid i j k l Right Top e u = cc
same_side grid i j k l Right Left e u = cc
same_side grid i j k l Top Bottom e u = cc
same_side grid i j k l Top Right e u = cc
same_side grid i j k l Left Bottom e u = cc
same_side grid i j k l Left Right e u = cc

-- the lower node of a side is where it begins, if it is upward
pub lower_is : (grid : Grid) (i j : ℕ) (s : Side) → is_lower_blocked grid (side_of (square_at grid i j) s) ≡ (if is_upward s then is_begin_blocked (square_at grid i j) s else is_end_blocked (square_at grid i j) s)
lower_is grid i j Bottom = refl
lower_is grid i j Right = refl
lower_is grid i j Top = refl
lower_is grid i j Left = refl

pub upper_is : (grid : Grid) (i j : ℕ) (s : Side) → is_upper_blocked grid (side_of (square_at grid i j) s) ≡ (if is_upward s then is_end_blocked (square_at grid i j) s else is_begin_blocked (square_at grid i j) s)
upper_is grid i j Bottom = refl
upper_is grid i j Right = refl
upper_is grid i j Top = refl
upper_is grid i j Left = refl

pub side_has_edge : (grid : Grid) (i j : ℕ) (s : Side) → i + 1 < grid.columns → j + 1 < grid.rows → has_edge grid (side_of (square_at grid i j) s) ≡ true
side_has_edge grid i j Bottom p q = and_from _ _ (lt-ltb _ _ p) (lt-ltb j grid.rows (omega arith))
side_has_edge grid i j Right p q = and_from _ _ (lt-ltb _ _ p) (lt-ltb _ _ q)
side_has_edge grid i j Top p q = and_from _ _ (lt-ltb _ _ p) (lt-ltb _ _ q)
side_has_edge grid i j Left p q = and_from _ _ (lt-ltb i grid.columns (omega arith)) (lt-ltb _ _ q)

-- a side that begins and ends at corners of which one is blocked and one free crosses
choice : (u b : Bool) → differ (if u then b else not b) (if u then not b else b) ≡ true
choice true true = refl
choice true false = refl
choice false true = refl
choice false false = refl

pub side_crosses : (grid : Grid) (i j : ℕ) (s : Side) (b : Bool) → i + 1 < grid.columns → j + 1 < grid.rows
    → is_begin_blocked (square_at grid i j) s ≡ b → is_end_blocked (square_at grid i j) s ≡ not b → is_crossing grid (side_of (square_at grid i j) s) ≡ true
side_crosses grid i j s b p q h k = and_from _ _ (side_has_edge grid i j s p q) (rw (lower_is grid i j s, upper_is grid i j s, h, k) (choice (is_upward s) b))

pub lower_at : (grid : Grid) (i j : ℕ) (s : Side) (b : Bool) → is_begin_blocked (square_at grid i j) s ≡ b → is_end_blocked (square_at grid i j) s ≡ not b
    → is_lower_blocked grid (side_of (square_at grid i j) s) ≡ (if is_upward s then b else not b)
lower_at grid i j s b h k = lower_is grid i j s ∙ rw (h, k) refl

same_direction : (u v b : Bool) → (if u then b else not b) ≡ (if v then b else not b) → u ≡ v
same_direction true true b e = refl
same_direction false false b e = refl
same_direction true false true e = e
same_direction true false false e = sym e
same_direction false true true e = e
same_direction false true false e = sym e

-- an edge is one side of one square with this corner at its beginning and the other at its end
pub one_side : (grid : Grid) (i j k l : ℕ) (s t : Side) (b : Bool) → side_of (square_at grid i j) s ≡ side_of (square_at grid k l) t
    → is_begin_blocked (square_at grid i j) s ≡ b → is_end_blocked (square_at grid i j) s ≡ not b
    → is_begin_blocked (square_at grid k l) t ≡ b → is_end_blocked (square_at grid k l) t ≡ not b → (i ≡ k) × (j ≡ l) × (s ≡ t)
one_side grid i j k l s t b e p q v w = same_side grid i j k l s t e (same_direction (is_upward s) (is_upward t) b
    (sym (lower_at grid i j s b p q) ∙ (ap (is_lower_blocked grid) e ∙ lower_at grid k l t b v w)))

-- a join goes from the first edge to the second, if forward, or else the other way
abbrev pub Joined : Grid → Bool → Edge → Edge → Type 0
Joined grid true a b = IsJoin grid a b
Joined grid false a b = IsJoin grid b a

-- a join of the grid, seen from one of its sides
pub record Seen (grid : Grid) (forward : Bool) (a b : Edge) : Type 0 where
  pub column : ℕ
  pub row : ℕ
  pub side : Side
  pub at : IsSide grid a column row side
  pub begins : is_begin_blocked (square_at grid column row) side ≡ forward
  pub ends : is_end_blocked (square_at grid column row) side ≡ not forward
  pub to : b ≡ far_of (square_at grid column row) forward side

module _ (grid : Grid) (a b : Edge) where
  seen_at : (forward : Bool) (i j : ℕ) → i + 1 < grid.columns → j + 1 < grid.rows → MeetsSide (square_at grid i j) forward a b → Seen grid forward a b
  seen_at forward i j p q h = record {
    column = i;
    row = j;
    side = h.0;
    at = record { column_ok = p; row_ok = q; same = h.1.at };
    begins = begins forward _ _ h.1.is_free h.1.is_blocked;
    ends = ends forward _ _ h.1.is_free h.1.is_blocked;
    to = h.1.to;
  }
    where
      begins : (f x y : Bool) → (if f then y else x) ≡ false → (if f then x else y) ≡ true → x ≡ f
      begins true x y p q = q
      begins false x y p q = p

      ends : (f x y : Bool) → (if f then y else x) ≡ false → (if f then x else y) ≡ true → y ≡ not f
      ends true x y p q = p
      ends false x y p q = q

  meets : (forward : Bool) (h : Seen grid forward a b) → MeetsAt (square_at grid h.column h.row) forward a b h.side
  meets true h = record { is_free = h.ends; is_blocked = h.begins; at = h.at.same; to = h.to }
  meets false h = record { is_free = h.begins; is_blocked = h.ends; at = h.at.same; to = h.to }

  pub seen : (forward : Bool) → Joined grid forward a b → Seen grid forward a b
  seen true h =
      let m = comes_to (square_at grid h.column h.row) a b h.joined in
      seen_at true h.column h.row h.column_ok h.row_ok (far_end (square_at grid h.column h.row) a b m.0 m.1)
  seen false h = seen_at false h.column h.row h.column_ok h.row_ok (comes_to (square_at grid h.column h.row) b a h.joined)

  is_join : (c d : Edge) (i j : ℕ) → i + 1 < grid.columns → j + 1 < grid.rows → MeetsSide (square_at grid i j) false d c → IsJoin grid c d
  is_join c d i j p q m = record { column = i; row = j; column_ok = p; row_ok = q; joined = joined (square_at grid i j) c d m }

  pub from_seen : (forward : Bool) → Seen grid forward a b → Joined grid forward a b
  from_seen true h = is_join a b h.column h.row h.at.column_ok h.at.row_ok (near_end (square_at grid h.column h.row) b a h.side (meets true h))
  from_seen false h = is_join b a h.column h.row h.at.column_ok h.at.row_ok (h.side, meets false h)

  pub crosses : (forward : Bool) → Joined grid forward a b → is_crossing grid a ≡ true
  crosses forward h =
      let s = seen forward h in
      ap (is_crossing grid) s.at.same ∙ side_crosses grid s.column s.row s.side forward s.at.column_ok s.at.row_ok s.begins s.ends

same_place : (grid : Grid) (f : Square → Side → Edge) (i j k l : ℕ) (s t : Side) → i ≡ k → j ≡ l → s ≡ t → f (square_at grid i j) s ≡ f (square_at grid k l) t
same_place grid f i j k l s t p q r = cc

apart : (grid : Grid) (forward : Bool) (a b c : Edge) → Joined grid forward a b → Joined grid forward a c → b ≡ c
apart grid forward a b c h k =
    let g = seen grid a b forward h in
    let m = seen grid a c forward k in
    let o = one_side grid g.column g.row m.column m.row g.side m.side forward (sym g.at.same ∙ m.at.same) g.begins g.ends m.begins m.ends in
    g.to ∙ (same_place grid (λ (q : Square). far_of q forward) _ _ _ _ _ _ o.0 o.1 o.2 ∙ sym m.to)

pub joins_are_apart : JoinsAreApart
joins_are_apart = record { from = λ grid. apart grid true; to = λ grid. apart grid false }
