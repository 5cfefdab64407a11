-- Tracks: each step leads to a crossing that had no mark, and marks it.
use Rattle.std.proofs.Common.{◌≡◌, ℕ, zero, suc, ◌+◌, ◌-◌, ◌*◌, ◌<◌, ◌≤◌, Bool, true, false, List, [], ◌∷◌, ◌++◌, ◌⊎◌, inl, inr, length, get_or, set, refl, sym, ap, subst, ◌∙◌, arith}
use Rattle.std.proofs.lemmas.Bool.{cases_lt}
use Rattle.std.proofs.lemmas.List.{get_or_push, get_or_append_left, get_or_default, length_push, length-set}
use Rattle.std.proofs.lemmas.List.Elements.{All-nil, All-cons, All-push, All-get_or}
use Rattle.std.proofs.lemmas.List.Sums.{sum_by_push}
use Rattle.mill_level.specs.declared.edge.Edge.{Edge}
use Rattle.mill_level.specs.declared.grid.LevelMap.{LevelMap}
use Rattle.mill_level.specs.Grids.{Grid, is_crossing, same_edge}
use Rattle.mill_level.specs.Joins.{IsJoin}
use Rattle.mill_level.specs.inner.Maps.{edge_number, grid_of}
use Rattle.mill_level.specs.inner.Trails.{AreMarks, is_passed, mark}
use Rattle.mill_level.specs.inner.Ways.{GoesBack, GoesOn, GrewAlike, IsTrack, MayGoOn}
use Rattle.mill_level.proofs.Apart.{crosses, joins_are_apart}
use Rattle.mill_level.proofs.Edges.{crossing_has_edge}
use Rattle.mill_level.proofs.Marking.{at_most_one, is_none, is_one, mark_set, not_both}
use Rattle.mill_level.proofs.Steps.{Stands, counts_stands, no_steps, one_when, stands_counts, steps_push, twice}

-- steps that lead from one crossing to one other, and to one from one other
pub record IsOneWay (grid : Grid) (Step : Edge → Edge → Type 0) : Type 0 where
  pub from : (a b c : Edge) → Step a b → Step a c → b ≡ c
  pub to : (a b c : Edge) → Step b a → Step c a → b ≡ c
  pub crosses : (a b : Edge) → Step a b → is_crossing grid b ≡ true

-- of those between which a step leads, both or none are marked
pub record KeepsMarks (level : LevelMap) (passed : List Bool) (Step : Edge → Edge → Type 0) : Type 0 where
  pub on : (a b : Edge) → Step a b → is_passed level passed a ≡ true → is_passed level passed b ≡ true
  pub back : (a b : Edge) → Step a b → is_passed level passed b ≡ true → is_passed level passed a ≡ true

pub goes_on : (grid : Grid) → IsOneWay grid (GoesOn grid)
goes_on grid = record { from = joins_are_apart.from grid; to = joins_are_apart.to grid; crosses = λ a b. crosses grid b a false }

pub goes_back : (grid : Grid) → IsOneWay grid (GoesBack grid)
goes_back grid = record { from = joins_are_apart.to grid; to = joins_are_apart.from grid; crosses = λ a b. crosses grid b a true }

pub keeps_on : (level : LevelMap) (passed : List Bool) → AreMarks level passed → KeepsMarks level passed (GoesOn (grid_of level))
keeps_on level passed h = record { on = h.after; back = h.before }

pub keeps_back : (level : LevelMap) (passed : List Bool) → AreMarks level passed → KeepsMarks level passed (GoesBack (grid_of level))
keeps_back level passed h = record { on = λ a b. h.before b a; back = λ a b. h.after b a }

-- a track of one crossing
pub track_one : (level : LevelMap) (old : List Bool) (Step : Edge → Edge → Type 0) (x : Edge) → length old ≡ 2 * (level.columns * level.rows)
    → is_crossing (grid_of level) x ≡ true → is_passed level old x ≡ false → IsTrack level old (set old (edge_number (grid_of level) x) true) Step (x ∷ []) x
track_one level old Step x size crossing off = record {
  some = omega arith;
  size = length-set old (edge_number (grid_of level) x) true ∙ size;
  crosses = All-cons (λ e. is_crossing (grid_of level) e ≡ true) x [] crossing (All-nil (λ e. is_crossing (grid_of level) e ≡ true));
  steps = no_steps Step x;
  ends = λ d. refl;
  marks = λ e. omega (arith, mark_set level old size x e (crossing_has_edge (grid_of level) x crossing) off, sum_by_push (λ (d : Edge). one_when (same_edge d e)) [] x);
}

module _ (level : LevelMap) (old new : List Bool) (Step : Edge → Edge → Type 0) (edges : List Edge) (last : Edge) (track : IsTrack level old new Step edges last) where
  one_mark : (e : Edge) → mark level new e ≤ 1
  one_mark e = at_most_one (is_passed level new e)

  -- those of the track are marked now, and were not before
  pub stands_marked : (e : Edge) → Stands edges e → is_passed level new e ≡ true
  stands_marked e s = is_one (is_passed level new e) (omega (arith, track.marks e, stands_counts edges e s))

  pub stands_new : (e : Edge) → Stands edges e → is_passed level old e ≡ false
  stands_new e s = is_none (is_passed level old e) (omega (arith, track.marks e, stands_counts edges e s, one_mark e))

  pub old_marked : (e : Edge) → is_passed level old e ≡ true → is_passed level new e ≡ true
  old_marked e h = let was : mark level old e ≡ 1 = ap one_when h in is_one (is_passed level new e) (omega (arith, track.marks e))

  pub marked_cases : (e : Edge) → is_passed level new e ≡ true → (is_passed level old e ≡ true) ⊎ Stands edges e
  marked_cases e h = by (is_passed level old e) refl
    where
      by : (b : Bool) → is_passed level old e ≡ b → (is_passed level old e ≡ true) ⊎ Stands edges e
      by true was = inl was
      by false was =
          let none : mark level old e ≡ 0 = ap one_when was in
          let now : mark level new e ≡ 1 = ap one_when h in
          inr (counts_stands edges e (omega (arith, track.marks e)))

  pub last_stands : Stands edges last
  last_stands = let some = track.some in (length edges - 1, omega arith, track.ends)

  pub last_crosses : is_crossing (grid_of level) last ≡ true
  last_crosses =
      let some = track.some in
      subst (λ (e : Edge). is_crossing (grid_of level) e ≡ true) (track.ends last)
      (All-get_or (λ e. is_crossing (grid_of level) e ≡ true) edges (length edges - 1) last (omega arith) track.crosses)

  -- an edge stands at one place alone
  pub one_place : (e : Edge) (j k : ℕ) → j < k → k < length edges → get_or edges j e ≡ e → get_or edges k e ≡ e → ⊥
  one_place e j k less lt at_j at_k = omega (arith, twice edges e j k less lt at_j at_k, track.marks e, one_mark e)

  module _ (one : IsOneWay (grid_of level) Step) (kept : KeepsMarks level old Step) where
    -- where the track leads on, and not back to its first edge, there is no mark yet
    not_old : (x : Edge) → Step last x → is_passed level old x ≡ true → ⊥
    not_old x next was = not_both _ (kept.back last x next was) (stands_new last last_stands)

    not_here : (x : Edge) (k : ℕ) → k < length edges → Step last x → ((d : Edge) → get_or edges 0 d ≡ x → ⊥) → ((d : Edge) → get_or edges k d ≡ x) → ⊥
    not_here x zero lt next first at = first x (at x)
    not_here x (suc j) lt next first at =
        let on : j + 1 ≡ suc j = omega arith in
        let step : Step (get_or edges j last) x =
        subst (λ (e : Edge). Step (get_or edges j last) e) (ap (λ n. get_or edges n last) on ∙ at last) (track.steps j last (omega arith)) in
        one_place last j (length edges - 1) (omega arith) (omega arith) (one.to x (get_or edges j last) last step next) (track.ends last)

    pub leads_to_new : (x : Edge) → Step last x → ((d : Edge) → get_or edges 0 d ≡ x → ⊥) → is_passed level new x ≡ false
    leads_to_new x next first = by (is_passed level new x) refl
      where
        by : (b : Bool) → is_passed level new x ≡ b → b ≡ false
        by true h = elim (marked_cases x h) [ inl was ↦ absurd (not_old x next was) | inr s ↦ absurd (not_here x s.0 s.1 next first s.2) ]
        by false h = refl

    -- a step on goes to one of the track, or to one that was marked; so does a step back
    pub on_marked : ((b : Edge) → Step last b → Stands edges b) → (a b : Edge) → Step a b → is_passed level new a ≡ true → is_passed level new b ≡ true
    on_marked end a b next h = elim (marked_cases a h) [ inl was ↦ old_marked b (kept.on a b next was) | inr s ↦ stands_marked b (by s) ]
      where
        by : Stands edges a → Stands edges b
        by s = elim (cases_lt (s.0 + 1) (length edges)) [
          | inl l ↦
              let step : Step a (get_or edges (s.0 + 1) a) = subst (λ (e : Edge). Step e (get_or edges (s.0 + 1) a)) (s.2 a) (track.steps s.0 a l) in
              (s.0 + 1, l, λ d. get_or_default edges (s.0 + 1) d a l ∙ one.from a (get_or edges (s.0 + 1) a) b step next)
          | inr g ↦
              let lt = s.1 in
              let at : s.0 ≡ length edges - 1 = omega arith in
              end b (subst (λ (e : Edge). Step e b) (sym (s.2 a) ∙ ap (λ n. get_or edges n a) at ∙ track.ends a) next)
        ]

    pub back_marked : ((b : Edge) → Step b (get_or edges 0 last) → Stands edges b) → (a b : Edge) → Step a b
        → is_passed level new b ≡ true → is_passed level new a ≡ true
    back_marked start a b next h = elim (marked_cases b h) [ inl was ↦ old_marked a (kept.back a b next was) | inr s ↦ stands_marked a (by s.0 s.1 s.2) ]
      where
        by : (k : ℕ) → k < length edges → ((d : Edge) → get_or edges k d ≡ b) → Stands edges a
        by zero lt at = start a (subst (λ (e : Edge). Step a e) (sym (at last)) next)
        by (suc j) lt at =
            let on : j + 1 ≡ suc j = omega arith in
            let step : Step (get_or edges j b) b = subst (λ (e : Edge). Step (get_or edges j b) e) (ap (λ n. get_or edges n b) on ∙ at b) (track.steps j b (omega arith)) in
            (j, omega arith, λ d. get_or_default edges j d b (omega arith) ∙ one.to b (get_or edges j b) a step next)

  -- a track goes on by a step to a crossing without a mark
  pub track_push : (x : Edge) → Step last x → is_crossing (grid_of level) x ≡ true → is_passed level new x ≡ false
      → IsTrack level old (set new (edge_number (grid_of level) x) true) Step (edges ++ x ∷ []) x
  track_push x next crossing off =
      let long = length_push edges x in
      let at : length (edges ++ x ∷ []) - 1 ≡ length edges = omega arith in record {
        some = omega arith;
        size = length-set new (edge_number (grid_of level) x) true ∙ track.size;
        crosses = All-push (λ e. is_crossing (grid_of level) e ≡ true) edges x track.crosses crossing;
        steps = steps_push Step edges last x track.some track.steps track.ends next;
        ends = λ d. ap (λ n. get_or (edges ++ x ∷ []) n d) at ∙ get_or_push edges x d (length edges) refl;
        marks = λ e. omega (
          arith,
          mark_set level new track.size x e (crossing_has_edge (grid_of level) x crossing) off,
          track.marks e,
          sum_by_push (λ (d : Edge). one_when (same_edge d e)) edges x,
        );
      }

  pub first_kept : (x : Edge) (start : Edge) → ((d : Edge) → get_or edges 0 d ≡ start) → (d : Edge) → get_or (edges ++ x ∷ []) 0 d ≡ start
  first_kept x start h d = get_or_append_left edges (x ∷ []) d 0 track.some ∙ h d

-- a way that may go on goes to a crossing without a mark, and may go on from there
module _ (level : LevelMap) (new : List Bool) (last : Edge) (edges : List Edge) (way : MayGoOn level new last edges) (x : Edge) (next : IsJoin (grid_of level) last x) where
  pub new_after : is_passed level new x ≡ false
  new_after = leads_to_new _ _ _ _ _ _ way.track (goes_on (grid_of level)) (keeps_on level way.old way.old_ok) x next
      (λ d at. way.starts d last (subst (λ (e : Edge). IsJoin (grid_of level) last e) (sym at) next))

  pub way_push : MayGoOn level (set new (edge_number (grid_of level) x) true) x (edges ++ x ∷ [])
  way_push = record {
    old = way.old;
    old_ok = way.old_ok;
    track = track_push _ _ _ _ _ _ way.track x next ((goes_on (grid_of level)).crosses last x next) new_after;
    starts = λ d. subst (λ (e : Edge). (a : Edge) → ¬ IsJoin (grid_of level) a e) (sym (get_or_append_left edges (x ∷ []) d 0 way.track.some)) (way.starts d);
  }

-- a mark more for an edge more
pub grown : (level : LevelMap) (old new : List Bool) (edges more : List Edge) (x : Edge) → length new ≡ 2 * (level.columns * level.rows)
    → is_crossing (grid_of level) x ≡ true → is_passed level new x ≡ false → GrewAlike level old new edges more
    → GrewAlike level old (set new (edge_number (grid_of level) x) true) edges (more ++ x ∷ [])
grown level old new edges more x size crossing off grew =
    let long = λ (e : Edge). sum_by_push (λ (d : Edge). one_when (same_edge d e)) more x in
    let set_one = λ (e : Edge). mark_set level new size x e (crossing_has_edge (grid_of level) x crossing) off in record {
      more = λ e. omega (arith, long e, grew.more e);
      marks = λ e. omega (arith, set_one e, long e, grew.marks e);
    }
