-- Which joins a crossing has in the squares beside it.
use Rattle.std.proofs.Common.{◌≡◌, ℕ, Bool, true, false, not, if◌then◌else◌, refl, sym, ap, ◌∙◌}
use Rattle.std.proofs.lemmas.Bool.{and_parts}
use Rattle.mill_level.specs.declared.edge.Edge.{Edge}
use Rattle.mill_level.specs.declared.square.Side.{Side}
use Rattle.mill_level.specs.declared.square.Square.{Square}
use Rattle.mill_level.specs.Grids.{Grid, differ, has_edge, is_crossing, is_lower_blocked, is_upper_blocked}
use Rattle.mill_level.specs.inner.Squares.{square_at, side_of, is_begin_blocked, is_end_blocked, is_upward, IsSide, IsAtBorder, IsBeside}
use Rattle.mill_level.proofs.Apart.{far_of, from_seen, Joined, lower_at, lower_is, seen, upper_is}

ends_differ : (up begin end : Bool) → differ (if up then begin else end) (if up then end else begin) ≡ true → end ≡ not begin
ends_differ true true false e = refl
ends_differ true false true e = refl
ends_differ false true false e = refl
ends_differ false false true e = refl
ends_differ true true true e = sym e
ends_differ true false false e = e
ends_differ false true true e = sym e
ends_differ false false false e = e

-- a side that is upward just where its lower node is blocked begins at a blocked corner
begins_as : (forward up begin end : Bool) → end ≡ not begin → up ≡ (if forward then (if up then begin else end) else not (if up then begin else end)) → begin ≡ forward
begins_as true true begin end e u = sym u
begins_as true false true end e u = refl
begins_as true false false end e u = u ∙ e
begins_as false true true end e u = u
begins_as false true false end e u = refl
begins_as false false true end e u = ap not (sym e) ∙ sym u
begins_as false false false end e u = refl

nodes_differ : (grid : Grid) (e : Edge) → is_crossing grid e ≡ true → differ (is_lower_blocked grid e) (is_upper_blocked grid e) ≡ true
nodes_differ grid e h = (and_parts (has_edge grid e) (differ (is_lower_blocked grid e) (is_upper_blocked grid e)) h).1

-- a side that crosses has a free corner and a blocked one
one_blocked : (grid : Grid) (e : Edge) (i j : ℕ) (s : Side) → is_crossing grid e ≡ true → IsSide grid e i j s
    → is_end_blocked (square_at grid i j) s ≡ not (is_begin_blocked (square_at grid i j) s)
one_blocked grid e i j s h k =
    let d = nodes_differ grid (side_of (square_at grid i j) s) (sym (ap (is_crossing grid) k.same) ∙ h) in
    ends_differ (is_upward s) _ _ (rw (lower_is grid i j s, upper_is grid i j s) at d)

-- the join by such a side
pub far_is : (grid : Grid) (forward : Bool) (e r : Edge) (blocked : Bool) (square : Square) (side : Side) → is_crossing grid e ≡ true → blocked ≡ is_lower_blocked grid e
    → IsBeside grid e (if forward then blocked else not blocked) square side → r ≡ far_of square forward side → Joined grid forward e r
far_is grid forward e r blocked square side h same k to =
    let ends = one_blocked grid e k.column k.row side h k.is in
    let lower = same ∙ ap (is_lower_blocked grid) k.is.same ∙ lower_is grid k.column k.row side in
    let b = begins_as forward (is_upward side) _ _ ends (k.direction ∙ ap (λ (l : Bool). if forward then l else not l) lower) in
    from_seen grid e r forward (record {
      column = k.column;
      row = k.row;
      side = side;
      at = k.is;
      begins = b;
      ends = ends ∙ ap not b;
      to = to ∙ ap (λ (q : Square). far_of q forward side) k.square_is;
    })

-- at the border there is none
itself : (forward up : Bool) → (if forward then (if up then forward else not forward) else not (if up then forward else not forward)) ≡ up
itself true true = refl
itself true false = refl
itself false true = refl
itself false false = refl

pub none_far : (grid : Grid) (forward : Bool) (e : Edge) (blocked : Bool) → blocked ≡ is_lower_blocked grid e
    → IsAtBorder grid e (if forward then blocked else not blocked) → (f : Edge) → Joined grid forward e f → ⊥
none_far grid forward e blocked same h f k =
    let g = seen grid e f forward k in
    let lower = same ∙ ap (is_lower_blocked grid) g.at.same ∙ lower_at grid g.column g.row g.side forward g.begins g.ends in
    h g.column g.row g.side g.at (sym (ap (λ (l : Bool). if forward then l else not l) lower ∙ itself forward (is_upward g.side)))
