-- The crossings of one chain: a track that was closed, or goes from a first crossing to a last one.
use Rattle.std.proofs.Common.{◌≡◌, ℕ, ◌+◌, ◌-◌, ◌<◌, Bool, true, false, List, inl, inr, length, get_or, take, drop, reverse, refl, sym, ap, subst, ◌∙◌, arith}
use Rattle.std.specs.Prelude.{All, IsPermutation, MatchBool}
use Rattle.std.proofs.lemmas.Bool.{cases_lt}
use Rattle.std.proofs.lemmas.List.{get_or_default, get_or-reverse, length-reverse}
use Rattle.std.proofs.lemmas.List.Elements.{All-get_or}
use Rattle.std.proofs.lemmas.List.Sorted.{All-permutation, IsPermutation-append_comm, IsPermutation-reverse, sum_by-IsPermutation}
use Rattle.std.proofs.lemmas.List.{take-append-drop}
use Rattle.mill_level.specs.declared.edge.Edge.{Edge}
use Rattle.mill_level.specs.declared.grid.LevelMap.{LevelMap}
use Rattle.mill_level.specs.Grids.{Grid, is_crossing, same_edge}
use Rattle.mill_level.specs.Joins.{IsJoin}
use Rattle.mill_level.specs.Chains.{comes_before}
use Rattle.mill_level.specs.inner.Maps.{crossing_at, grid_of}
use Rattle.mill_level.specs.inner.Trails.{AreMarks, is_passed, mark}
use Rattle.mill_level.specs.inner.Ways.{GoesBack, GoesOn, IsFirst, IsLast, IsLeast, IsTrack, MayGoOn, WentBack, WentOn, times_among}
use Rattle.mill_level.proofs.Apart.{joins_are_apart}
use Rattle.mill_level.proofs.Marking.{is_one, not_both}
use Rattle.mill_level.proofs.Steps.{Stands, one_when, stands_at, step_at, steps_back, steps_turned, turned, turned_high, turned_length, turned_low}
use Rattle.mill_level.proofs.Tracks.{back_marked, goes_on, keeps_on, last_stands, marked_cases, on_marked, stands_marked}

-- how it ends: a join goes from the last to the first, which is the least, or it can't be longer
pub record EndsClosed (level : LevelMap) (edges : List Edge) (last : Edge) : Type 0 where
  pub closes : IsJoin (grid_of level) last (get_or edges 0 last)
  pub least : IsLeast level edges 0

pub record EndsOpen (level : LevelMap) (edges : List Edge) (last : Edge) : Type 0 where
  pub comes_first : IsFirst (grid_of level) (get_or edges 0 last)
  pub comes_last : IsLast (grid_of level) last

pub record IsTraced (level : LevelMap) (old new : List Bool) (start : Edge) (closed : Bool) (edges : List Edge) : Type 0 where
  pub last : Edge
  pub track : IsTrack level old new (GoesOn (grid_of level)) edges last
  pub start_marked : is_passed level new start ≡ true
  pub ends : MatchBool closed (EndsClosed level edges last) (EndsOpen level edges last)

pub same_times : (e : Edge) (edges others : List Edge) → IsPermutation edges others → times_among e others ≡ times_among e edges
same_times e edges others h = sum_by-IsPermutation (λ (d : Edge). one_when (same_edge d e)) edges others h

pub same_crosses : (level : LevelMap) (edges others : List Edge) → IsPermutation edges others
    → All (λ e. is_crossing (grid_of level) e ≡ true) edges → All (λ e. is_crossing (grid_of level) e ≡ true) others
same_crosses level edges others h crosses = All-permutation (λ e. is_crossing (grid_of level) e ≡ true) edges others h crosses

not_before : (level : LevelMap) (a b c d : Edge) → a ≡ c → b ≡ d → comes_before (crossing_at level c) (crossing_at level d) ≡ false
    → comes_before (crossing_at level a) (crossing_at level b) ≡ false
not_before level a b c d e f h =
    subst (λ (x : Edge). comes_before (crossing_at level x) (crossing_at level b) ≡ false) (sym e)
    (subst (λ (x : Edge). comes_before (crossing_at level c) (crossing_at level x) ≡ false) (sym f) h)

-- the way back, the other way round
module _ (level : LevelMap) (old new : List Bool) (start : Edge) (closed : Bool) (edges : List Edge) (went : WentBack level old new start closed edges) where
  pub reversed : IsTrack level old new (GoesOn (grid_of level)) (reverse edges) start
  reversed =
      let track = went.track in
      let some = track.some in
      let long = length-reverse edges in
      let at : length edges - 1 - (length (reverse edges) - 1) ≡ 0 = omega arith in record {
        some = omega arith;
        size = track.size;
        crosses = same_crosses level edges (reverse edges) (IsPermutation-reverse edges) track.crosses;
        steps = steps_back (GoesBack (grid_of level)) edges track.steps;
        ends = λ d. get_or-reverse edges (length (reverse edges) - 1) d (omega arith) ∙ ap (λ n. get_or edges n d) at ∙ went.starts d;
        marks = λ e. omega (arith, track.marks e, same_times e edges (reverse edges) (IsPermutation-reverse edges));
      }

  pub reversed_first : (d : Edge) → get_or (reverse edges) 0 d ≡ went.last
  reversed_first d =
      let some = went.track.some in
      let at : length edges - 1 - 0 ≡ length edges - 1 = omega arith in
      get_or-reverse edges 0 d some ∙ ap (λ n. get_or edges n d) at ∙ went.track.ends d

turned_permutation : (m : ℕ) (edges : List Edge) → IsPermutation edges (turned m edges)
turned_permutation m edges =
    subst (λ (es : List Edge). IsPermutation es (turned m edges)) (take-append-drop m edges) (IsPermutation-append_comm (take m edges) (drop m edges))

-- a closed track begun at another place
module _ (level : LevelMap) (old new : List Bool) (edges : List Edge) (last : Edge) (track : IsTrack level old new (GoesOn (grid_of level)) edges last)
    (closes : (d : Edge) → IsJoin (grid_of level) last (get_or edges 0 d)) (m : ℕ) (within : m < length edges) where
  abbrev Next : Edge → Edge → Type 0
  Next = GoesOn (grid_of level)

  long : length (turned m edges) ≡ length edges
  long = turned_length edges m within

  last_closes : (d : Edge) → Next (get_or edges (length edges - 1) d) (get_or edges 0 d)
  last_closes d = subst (λ (e : Edge). Next e (get_or edges 0 d)) (sym (track.ends d)) (closes d)

  pub turned_track : IsTrack level old new (GoesOn (grid_of level)) (turned m edges) (get_or (turned m edges) (length edges - 1) last)
  turned_track =
      let same = long in
      let some = track.some in record {
        some = omega arith;
        size = track.size;
        crosses = same_crosses level edges (turned m edges) (turned_permutation m edges) track.crosses;
        steps = steps_turned Next edges m within track.steps last_closes;
        ends = λ d. ap (λ n. get_or (turned m edges) (n - 1) d) long ∙ get_or_default (turned m edges) (length edges - 1) d last (omega arith);
        marks = λ e. omega (arith, track.marks e, same_times e edges (turned m edges) (turned_permutation m edges));
      }

  turned_first : (d : Edge) → get_or (turned m edges) 0 d ≡ get_or edges m d
  turned_first d = turned_low edges m within 0 m d (omega arith) within

  pub turned_closes : (d : Edge) → IsJoin (grid_of level) (get_or (turned m edges) (length edges - 1) d) (get_or (turned m edges) 0 d)
  turned_closes d =
      let some = track.some in
      elim (cases_lt 0 m) [
        | inl l ↦
            let on : m - 1 + 1 ≡ m = omega arith in
            step_at Next _ _ _ _ (turned_high edges m within (length edges - 1) (m - 1) d (omega arith) (omega arith))
            (turned_first d ∙ ap (λ n. get_or edges n d) (sym on)) (track.steps (m - 1) d (omega arith))
        | inr g ↦
            let none : m ≡ 0 = omega arith in
            step_at Next _ _ _ _ (turned_low edges m within (length edges - 1) (length edges - 1) d (omega arith) (omega arith))
            (turned_first d ∙ ap (λ n. get_or edges n d) none) (last_closes d)
      ]

  pub turned_least : IsLeast level edges m → IsLeast level (turned m edges) 0
  turned_least h =
      let some = track.some in
      let same = long in record {
        within = omega arith;
        least = λ k d lt. elim (cases_lt (m + k) (length edges)) [
          | inl l ↦ not_before level _ _ _ _ (turned_low edges m within k (m + k) d refl l) (turned_first d) (h.least (m + k) d l)
          | inr g ↦
              let j = m + k - length edges in
              not_before level _ _ _ _ (turned_high edges m within k j d (omega arith) (omega arith)) (turned_first d) (h.least j d (omega arith))
        ];
      }

-- what is handed on to go on
pub went_back_open : (level : LevelMap) (old new : List Bool) (start : Edge) (closed : Bool) (edges : List Edge) → closed ≡ false → AreMarks level old
    → WentBack level old new start closed edges → MayGoOn level new start (reverse edges)
went_back_open level old new start true edges e marks went = absurd (not_both true refl e)
went_back_open level old new start false edges e marks went = record {
  old = old;
  old_ok = marks;
  track = reversed level old new start false edges went;
  starts = λ d. subst (λ (x : Edge). IsFirst (grid_of level) x) (sym (reversed_first level old new start false edges went d)) went.ends;
}

start_stands : (level : LevelMap) (old new : List Bool) (start : Edge) (closed : Bool) (edges : List Edge)
    → WentBack level old new start closed edges → is_passed level new start ≡ true
start_stands level old new start closed edges went =
    let t = reversed level old new start closed edges went in
    let Next = GoesOn (grid_of level) in
    stands_marked level old new Next (reverse edges) start t start (last_stands level old new Next (reverse edges) start t)

pub traced_closed : (level : LevelMap) (old new : List Bool) (start : Edge) (closed : Bool) (edges : List Edge) (m : ℕ) → closed ≡ true
    → WentBack level old new start closed edges → IsLeast level (reverse edges) m → IsTraced level old new start closed (turned m (reverse edges))
traced_closed level old new start false edges m e went least = absurd (not_both false e refl)
traced_closed level old new start true edges m e went least =
    let t = reversed level old new start true edges went in
    let joins : (d : Edge) → IsJoin (grid_of level) start (get_or (reverse edges) 0 d) =
    λ d. subst (λ (x : Edge). IsJoin (grid_of level) start x) (sym (reversed_first level old new start true edges went d)) went.ends in
    let last = get_or (turned m (reverse edges)) (length (reverse edges) - 1) start in
    let track = turned_track level old new (reverse edges) start t joins m least.within in record {
      last = last;
      track = track;
      start_marked = start_stands level old new start true edges went;
      ends = record {
        closes = subst (λ (x : Edge). IsJoin (grid_of level) last x) (get_or_default (turned m (reverse edges)) 0 start last track.some)
            (turned_closes level old new (reverse edges) start t joins m least.within start);
        least = turned_least level old new (reverse edges) start t joins m least.within least;
      };
    }

pub traced_open : (level : LevelMap) (old mid new : List Bool) (start : Edge) (closed : Bool) (edges all : List Edge) → closed ≡ false
    → WentBack level old mid start closed edges → WentOn level mid new (reverse edges) all → IsTraced level old new start closed all
traced_open level old mid new start true edges all e went on = absurd (not_both true refl e)
traced_open level old mid new start false edges all e went on =
    let t = reversed level old mid start false edges went in
    let now : mark level mid start ≡ 1 = ap one_when (start_stands level old mid start false edges went) in
    record {
      last = on.last;
      track = record {
        some = on.may.track.some;
        size = on.may.track.size;
        crosses = on.may.track.crosses;
        steps = on.may.track.steps;
        ends = on.may.track.ends;
        marks = λ f. omega (arith, t.marks f, on.grew.marks f);
      };
      start_marked = is_one (is_passed level new start) (omega (arith, on.grew.marks start, on.grew.more start));
      ends = record { comes_first = on.may.starts on.last; comes_last = on.ends };
    }

-- the marks are those of whole chains
module _ (level : LevelMap) (old new : List Bool) (start : Edge) (closed : Bool) (edges : List Edge)
    (marks : AreMarks level old) (traced : IsTraced level old new start closed edges) where
  abbrev grid : Grid
  grid = grid_of level

  first_stands : Stands edges (get_or edges 0 traced.last)
  first_stands = stands_at edges 0 traced.last traced.track.some

  ends_in : (b : Edge) → IsJoin grid traced.last b → Stands edges b
  ends_in b h = by closed traced.ends
    where
      by : (c : Bool) → MatchBool c (EndsClosed level edges traced.last) (EndsOpen level edges traced.last) → Stands edges b
      by true e = subst (Stands edges) (joins_are_apart.from grid traced.last (get_or edges 0 traced.last) b e.closes h) first_stands
      by false e = absurd (e.comes_last b h)

  starts_in : (b : Edge) → IsJoin grid b (get_or edges 0 traced.last) → Stands edges b
  starts_in b h = by closed traced.ends
    where
      by : (c : Bool) → MatchBool c (EndsClosed level edges traced.last) (EndsOpen level edges traced.last) → Stands edges b
      by true e = subst (Stands edges) (joins_are_apart.to grid (get_or edges 0 traced.last) traced.last b e.closes h)
          (last_stands level old new (GoesOn grid) edges traced.last traced.track)
      by false e = absurd (e.comes_first b h)

  pub traced_marks : AreMarks level new
  traced_marks = record {
    size = traced.track.size;
    crosses = λ e h. elim (marked_cases level old new (GoesOn grid) edges traced.last traced.track e h) [
      | inl was ↦ marks.crosses e was
      | inr s ↦ subst (λ (x : Edge). is_crossing grid x ≡ true) (s.2 e) (All-get_or (λ x. is_crossing grid x ≡ true) edges s.0 e s.1 traced.track.crosses)
    ];
    after = on_marked level old new (GoesOn grid) edges traced.last traced.track (goes_on grid) (keeps_on level old marks) ends_in;
    before = back_marked level old new (GoesOn grid) edges traced.last traced.track (goes_on grid) (keeps_on level old marks) starts_in;
  }
