-- How many moves a plan has at least.
use Rattle.std.specs.Prelude.{◌≡◌, ℕ, zero, suc, ◌+◌, ◌<◌, ◌≤◌, Bool, true, false, ◌&&◌, if◌then◌else◌, ℤ, pos, ◌+ℤ◌, int_lt, int_le, List, [], ◌∷◌, ◌++◌, length, map, take, get_or, All, Option, None, Some, MatchOption}
use Rattle.std.specs.Ordering.{int_eq}
use Rattle.std.specs.List.{flat_map}
use Rattle.std.proofs.Common.{inl, inr, refl, sym, ap, ◌∙◌, subst, arith}
use Rattle.std.proofs.lemmas.Bool.{and_from}
use Rattle.std.proofs.lemmas.Bool.Decides.{Decides-int_eq}
use Rattle.std.proofs.lemmas.List.{append_assoc, append-nil, length-append}
use Rattle.std.proofs.lemmas.List.Elements.{All-nil, All-cons, All-head, All-tail}
use Rattle.mill_base.specs.declared.lattice.Lattice.{Lattice}
use Rattle.mill_base.specs.declared.motion.Move.{Move}
use Rattle.mill_base.specs.declared.points.Pt3.{Pt3}
use Rattle.mill_base.specs.declared.points.Tri.{Tri}
use Rattle.mill_drop.proofs.Uniqueness.{one_map}
use Rattle.mill_job.specs.Columns.{home}
use Rattle.mill_job.specs.Jobs.{tool_of}
use Rattle.mill_job.specs.declared.fields.JobFields.{JobFields}
use Rattle.mill_level.specs.Waterlines.{Outline}
use Rattle.mill_links.specs.Links.{is_same_point, IsLink, climb, cross, descend, head, over_stock, pecks, plunge, way_home}
use Rattle.mill_links.specs.Tours.{AreLinks, GoesThrough, IsTour, last_place}
use Rattle.mill_links.specs.declared.visit.Visit.{Visit}
use Rattle.mill_paths.specs.Lattices.{finish_lattice, rough_lattice, zigzag_of}
use Rattle.mill_paths.specs.Limits.{change_count, changes_after, is_same_visit, most_changes}
use Rattle.mill_paths.specs.Plans.{IsPlan}
use Rattle.mill_paths.specs.Unique.{ManyFinishVisitsMakeMoves, ManyLevelVisitsMakeMoves, ManyRoughVisitsMakeMoves, PlanIsLonger}
use Rattle.mill_paths.specs.Visits.{AreNodeVisits, AreRowVisits, HaveManyNodeVisits, HaveManyRowVisits, finish_visit, finish_visits_of, height_at, level_visits_of, outline_visits, layer_heights, rough_visit, rough_visits_of, rough_visits_on, row_visits_from, visit_at, visit_if}
use Rattle.mill_paths.proofs.Uniqueness.{first_changes, one_level, one_link, one_rough, one_visits}
use Rattle.mill_paths.proofs.Elsewhere.{Apart, Elsewhere, all_elsewhere}
use Rattle.mill_paths.proofs.OutlineLemmas.{all_given}
use Rattle.mill_paths.proofs.VisitLemmas.{All-flat_map}

-- the moves of links, one after the other
abbrev joined : List (List Move) → List Move
joined links = flat_map (λ link. link) links

least : (n : ℕ) → 0 ≤ n
least n = omega arith

-- a list that others are added to
longer : (a b : List Move) → length a ≤ length (a ++ b)
longer a b = omega (length-append a b, arith)

sum : (m n : ℕ) (a b : List Move) → m ≤ length a → n ≤ length b → m + n ≤ length (a ++ b)
sum m n a b h g = omega (h, g, length-append a b, arith)

after : (n : ℕ) (a b : List Move) → n ≤ length b → n ≤ length (a ++ b)
after n a b h = omega (h, length-append a b, arith)

both : (a b c d : List Move) → a ≡ b → length c ≤ length d → length (a ++ c) ≤ length (b ++ d)
both a b c d e h = subst (λ (ms : List Move). length (a ++ c) ≤ length (ms ++ d)) e (omega (h, length-append a c, length-append a d, arith))

module _ (job : JobFields) (part : List Tri) where
  -- links to the first visits are the first of the links to all
  links_begin : (done : List Move) (from : Pt3) (first rest : List Visit) (ls ks : List (List Move)) → AreLinks job part done from first ls → AreLinks job part done from (first ++ rest) ks
      → length (joined ls) ≤ length (joined ks)
  links_begin done from [] rest [] ks h g = least (length (joined ks))
  links_begin done from [] rest (l ∷ ls) ks h g = absurd h
  links_begin done from (v ∷ vs) rest [] ks h g = absurd h
  links_begin done from (v ∷ vs) rest (l ∷ ls) [] h g = absurd g
  links_begin done from (v ∷ vs) rest (l ∷ ls) (k ∷ ks) h g =
      let same : l ≡ k = one_link job part done from v l k h.0 g.0 in
      both l k (joined ls) (joined ks) same
      (links_begin (done ++ l) v.at vs rest ls ks h.1 (subst (λ (ms : List Move). AreLinks job part (done ++ ms) v.at (vs ++ rest) ks) (sym same) g.1))

  tour_begins : (done : List Move) (from : Pt3) (first rest : List Visit) (a b : List Move) → IsTour job part done from first a
      → IsTour job part done from (first ++ rest) b → length a ≤ length b
  tour_begins done from first rest a b h g =
      subst (λ (ms : List Move). length ms ≤ length b) (sym h.joined)
      (subst (λ (ms : List Move). length (joined h.links) ≤ length ms) (sym g.joined) (links_begin done from first rest h.links g.links h.are g.are))

  -- with what a program begins with, too
  way_begins : (first rest : List Visit) (a b : List Move) → GoesThrough job part first a → GoesThrough job part (first ++ rest) b → length a ≤ length b
  way_begins first rest a b h g =
      subst (λ (ms : List Move). length ms ≤ length b) (sym h.joined)
      (subst (λ (ms : List Move). length (head job ++ h.toured) ≤ length ms) (sym g.joined)
      (both (head job) (head job) h.toured g.toured refl (tour_begins (head job) (home job) first rest h.toured g.toured h.tour g.tour)))

  -- a plan has the moves through its visits
  tour_within : (moves : List Move) (plan : IsPlan job part moves) → length plan.toured ≤ length moves
  tour_within moves plan =
      subst (λ (ms : List Move). length plan.toured ≤ length ms) (sym plan.joined)
      (longer plan.toured (way_home job (last_place (home job) plan.visits)))

pub plan_is_longer : PlanIsLonger
plan_is_longer job part visits begun moves are begins plan =
    let same : plan.visits ≡ begins.first ++ begins.rest = one_visits job part plan.visits visits plan.are are ∙ begins.all in
    let tour : GoesThrough job part (begins.first ++ begins.rest) plan.toured = subst (λ (vs : List Visit). GoesThrough job part vs plan.toured) same plan.tour in
    through (length begun) (length plan.toured) (length moves)
    (way_begins job part begins.first begins.rest begun plan.toured begins.tour tour) (tour_within job part moves plan)
  where
    through : (a b c : ℕ) → a ≤ b → b ≤ c → a ≤ c
    through a b c h g = omega (h, g, arith)

-- two visits at one place and with one step are the same
number_itself : (x : ℤ) → int_eq x x ≡ true
number_itself x = (Decides-int_eq x x).1 refl

point_itself : (p : Pt3) → is_same_point p p ≡ true
point_itself p =
    and_from (int_eq p.x p.x) (int_eq p.y p.y && int_eq p.z p.z) (number_itself p.x)
    (and_from (int_eq p.y p.y) (int_eq p.z p.z) (number_itself p.y) (number_itself p.z))

same_visit : (v w : Visit) → w.at ≡ v.at → w.step ≡ v.step → is_same_visit v w ≡ true
same_visit v w there step =
    and_from (is_same_point v.at w.at) (int_eq v.step w.step)
    (subst (λ (p : Pt3). is_same_point v.at p ≡ true) (sym there) (point_itself v.at))
    (subst (λ (s : ℤ). int_eq v.step s ≡ true) (sym step) (number_itself v.step))

at_most_one : (t : Bool) (n : ℕ) → 0 < n → (if t then 0 else 1) ≤ n
at_most_one true n some = omega arith
at_most_one false n some = omega arith

-- every visit of a path has its step
abbrev HaveStep : ℤ → List Visit → Type 0
HaveStep step visits = All (λ (v : Visit). v.step ≡ step) visits

step_if : (holds : Bool) (lattice : Lattice) (number : ℕ) (z : ℤ) → HaveStep lattice.step (visit_if holds lattice number z)
step_if true lattice number z = All-cons (λ (v : Visit). v.step ≡ lattice.step) (visit_at lattice number z) [] refl (All-nil (λ (v : Visit). v.step ≡ lattice.step))
step_if false lattice number z = All-nil (λ (v : Visit). v.step ≡ lattice.step)

rough_step : (job : JobFields) (heights : List ℤ) (z : ℤ) (number : ℕ) → HaveStep job.rough_raster (rough_visit job heights z number)
rough_step job heights z number = step_if (int_le (height_at heights number +ℤ job.rough_stock) z) (rough_lattice job) number z

rough_steps : (job : JobFields) (heights : List ℤ) → HaveStep job.rough_raster (rough_visits_of job heights)
rough_steps job heights =
    All-flat_map (λ (v : Visit). v.step ≡ job.rough_raster) (rough_visits_on job heights) (layer_heights job) (pos 0) (λ k inside.
    All-flat_map (λ (v : Visit). v.step ≡ job.rough_raster) (rough_visit job heights (get_or (layer_heights job) k (pos 0))) (zigzag_of (rough_lattice job)) 0 (λ place within.
    rough_step job heights (get_or (layer_heights job) k (pos 0)) (get_or (zigzag_of (rough_lattice job)) place 0)))

finish_step : (job : JobFields) (heights : List ℤ) (number : ℕ) → HaveStep job.raster (finish_visit job heights number)
finish_step job heights number = step_if (int_lt (height_at heights number +ℤ job.lift) job.top) (finish_lattice job) number (height_at heights number +ℤ job.lift)

finish_steps : (job : JobFields) (heights : List ℤ) → HaveStep job.raster (finish_visits_of job heights)
finish_steps job heights =
    All-flat_map (λ (v : Visit). v.step ≡ job.raster) (finish_visit job heights) (zigzag_of (finish_lattice job)) 0 (λ place within.
    finish_step job heights (get_or (zigzag_of (finish_lattice job)) place 0))

outline_step : (step : ℤ) (outline : Outline) → HaveStep step (outline_visits step outline)
outline_step step outline = at_each (outline.points ++ (if outline.closed then take 1 outline.points else []))
  where
    at_each : (points : List Pt3) → HaveStep step (map (λ (p : Pt3). record { at = p; step = step }) points)
    at_each [] = All-nil (λ (v : Visit). v.step ≡ step)
    at_each (p ∷ ps) =
        All-cons (λ (v : Visit). v.step ≡ step) (record { at = p; step = step }) (map (λ (q : Pt3). record { at = q; step = step }) ps) refl (at_each ps)

level_steps : (job : JobFields) (waterlines : List (List Outline)) → HaveStep job.raster (level_visits_of job waterlines)
level_steps job waterlines =
    all_given (λ (v : Visit). v.step ≡ job.raster) (flat_map (outline_visits job.raster)) waterlines (λ k d inside.
    all_given (λ (v : Visit). v.step ≡ job.raster) (outline_visits job.raster) (get_or waterlines k d) (λ i e within.
    outline_step job.raster (get_or (get_or waterlines k d) i e)))

-- these visits, which come after v, are each at another place than the one before it, or else have its step
AreMovesAfter : Visit → List Visit → Type 0
AreMovesAfter v [] = Unit {0}
AreMovesAfter v (w ∷ ws) = (w.at ≡ v.at → w.step ≡ v.step) × AreMovesAfter w ws

AreMoves : List Visit → Type 0
AreMoves [] = Unit {0}
AreMoves (v ∷ vs) = AreMovesAfter v vs

-- so are visits that all have one step
moves_of_step : (step : ℤ) (v : Visit) (vs : List Visit) → v.step ≡ step → HaveStep step vs → AreMovesAfter v vs
unfolding AreMovesAfter
moves_of_step step v [] is steps = tt
moves_of_step step v (w ∷ ws) is steps =
    let next : w.step ≡ step = All-head (λ (u : Visit). u.step ≡ step) w ws steps in
    (λ there. next ∙ sym is, moves_of_step step w ws next (All-tail (λ (u : Visit). u.step ≡ step) w ws steps))

steps_move : (step : ℤ) (visits : List Visit) → HaveStep step visits → AreMoves visits
unfolding AreMoves
steps_move step [] steps = tt
steps_move step (v ∷ vs) steps = moves_of_step step v vs (All-head (λ (u : Visit). u.step ≡ step) v vs steps) (All-tail (λ (u : Visit). u.step ≡ step) v vs steps)

-- and visits that are all at different places
moves_elsewhere : (v : Visit) (vs : List Visit) → All (Elsewhere v) vs → Apart Elsewhere vs → AreMovesAfter v vs
unfolding AreMovesAfter
moves_elsewhere v [] away apart = tt
moves_elsewhere v (w ∷ ws) away apart = (λ there. absurd (All-head (Elsewhere v) w ws away there), moves_elsewhere w ws apart.0 apart.1)

apart_move : (visits : List Visit) → Apart Elsewhere visits → AreMoves visits
unfolding AreMoves
apart_move [] apart = tt
apart_move (v ∷ vs) apart = moves_elsewhere v vs apart.0 apart.1

module _ (job : JobFields) (part : List Tri) where
  -- the link from such a visit to the next has a move, where they differ
  link_counts : (done : List Move) (v w : Visit) (link : List Move) → (w.at ≡ v.at → w.step ≡ v.step) → IsLink job part done v.at w link
      → (if is_same_visit v w then 0 else 1) ≤ length link
  link_counts done v w link step (inl stay) =
      subst (λ (t : Bool). (if t then 0 else 1) ≤ length link) (sym (same_visit v w stay.there (step stay.there))) (least (length link))
  link_counts done v w link step (inr (inl straight)) =
      at_most_one (is_same_visit v w) (length link) (subst (λ (ms : List Move). 0 < length ms) (sym straight.feed) (omega arith))
  link_counts done v w link step (inr (inr round)) =
      at_most_one (is_same_visit v w) (length link)
      (subst (λ (ms : List Move). 0 < length ms) (sym round.round) (some (climb job v.at ++ cross job v.at w.at ++ descend job w.at) (plunge job w.at) (pecks_some _ job.max_cut w.at (over_stock job) job.top)))
    where
      some : (ms ns : List Move) → 0 < length ns → 0 < length (ms ++ ns)
      some ms ns h = omega (h, length-append ms ns, arith)

      pecks_some : (n : ℕ) (depth : ℤ) (at : Pt3) (start z : ℤ) → 0 < length (pecks n depth at start z)
      pecks_some zero depth at start z = omega arith
      pecks_some (suc n) depth at start z = omega arith

  -- so a tour through such visits has a move for each that differs from the one before it
  counted_after : (done : List Move) (v : Visit) (vs more : List Visit) (links : List (List Move)) → AreMovesAfter v vs → AreLinks job part done v.at (vs ++ more) links
      → changes_after v vs ≤ length (joined links)
  unfolding AreMovesAfter
  counted_after done v [] more links apart are = least (length (joined links))
  counted_after done v (w ∷ ws) more [] apart are = absurd are
  counted_after done v (w ∷ ws) more (l ∷ ls) apart are =
      sum (if is_same_visit v w then 0 else 1) (changes_after w ws) l (joined ls) (link_counts done v w l apart.0 are.0) (counted_after (done ++ l) w ws more ls apart.1 are.1)

  -- also where it comes through others before and after them
  counted : (done : List Move) (from : Pt3) (before visits more : List Visit) (links : List (List Move)) → AreMoves visits
      → AreLinks job part done from (before ++ (visits ++ more)) links → change_count visits ≤ length (joined links)
  unfolding AreMoves
  counted done from [] [] more links apart are = least (length (joined links))
  counted done from [] (v ∷ vs) more [] apart are = absurd are
  counted done from [] (v ∷ vs) more (l ∷ ls) apart are = after (changes_after v vs) l (joined ls) (counted_after (done ++ l) v vs more ls apart are.1)
  counted done from (b ∷ bs) visits more [] apart are = absurd are
  counted done from (b ∷ bs) visits more (l ∷ ls) apart are = after (change_count visits) l (joined ls) (counted (done ++ l) b.at bs visits more ls apart are.1)

  tour_counts : (done : List Move) (from : Pt3) (before visits more : List Visit) (moves : List Move) → AreMoves visits
      → IsTour job part done from (before ++ (visits ++ more)) moves → change_count visits ≤ length moves
  tour_counts done from before visits more moves apart tour =
      subst (λ (ms : List Move). change_count visits ≤ length ms) (sym tour.joined) (counted done from before visits more tour.links apart tour.are)

-- and so has a program that begins with more
way_counts : (job : JobFields) (part : List Tri) (before visits more : List Visit) (moves : List Move) → AreMoves visits → GoesThrough job part (before ++ (visits ++ more)) moves
    → change_count visits ≤ length moves
way_counts job part before visits more moves apart way =
    subst (λ (ms : List Move). change_count visits ≤ length ms) (sym way.joined)
    (after (change_count visits) (head job) way.toured (tour_counts job part (head job) (home job) before visits more way.toured apart way.tour))

over : (a b c d : ℕ) → a < b → b ≤ c → c ≤ d → a < d
over a b c d h g k = omega (h, g, k, arith)

-- a plan comes through the visits of each of its parts, so that it has a move for each that differs from the one before it
plan_counts : (job : JobFields) (part : List Tri) (before visits more : List Visit) (moves : List Move) (plan : IsPlan job part moves) → AreMoves visits
    → plan.visits ≡ before ++ (visits ++ more) → most_changes < change_count visits → most_changes < length moves
plan_counts job part before visits more moves plan apart all many =
    let way : GoesThrough job part (before ++ (visits ++ more)) plan.toured = subst (λ (vs : List Visit). GoesThrough job part vs plan.toured) all plan.tour in
    over most_changes (change_count visits) (length plan.toured) (length moves) many
    (way_counts job part before visits more plan.toured apart way) (tour_within job part moves plan)

pub many_rough : ManyRoughVisitsMakeMoves
many_rough job part moves layer many plan =
    let are = plan.are in
    let same : are.rough ≡ rough_visits_of job many.heights =
    one_rough job part are.rough (rough_visits_of job many.heights) are.are_rough (record { heights = many.heights; are = λ some. many.are; visits = refl }) in
    let count : most_changes < change_count are.rough = subst (λ (vs : List Visit). most_changes < change_count vs) (sym same) many.many in
    let steps : HaveStep job.rough_raster are.rough = subst (λ (vs : List Visit). HaveStep job.rough_raster vs) (sym same) (rough_steps job many.heights) in
    plan_counts job part [] are.rough (are.level ++ are.finish) moves plan (steps_move job.rough_raster are.rough steps) (are.all ∙ append_assoc are.rough are.level are.finish) count

pub many_level : ManyLevelVisitsMakeMoves
many_level job part moves many plan =
    let are = plan.are in
    let same : are.level ≡ level_visits_of job many.waterlines =
    one_level job part are.level (level_visits_of job many.waterlines) are.are_level (record { waterlines = many.waterlines; are = many.are; visits = refl }) in
    let count : most_changes < change_count are.level = subst (λ (vs : List Visit). most_changes < change_count vs) (sym same) many.many in
    let steps : HaveStep job.raster are.level = subst (λ (vs : List Visit). HaveStep job.raster vs) (sym same) (level_steps job many.waterlines) in
    plan_counts job part are.rough are.level are.finish moves plan (steps_move job.raster are.level steps) (are.all ∙ append_assoc are.rough are.level are.finish) count

-- many finishing visits, at the nodes or along the first rows' paths, are so of all
record AreMany (visits : List Visit) : Type 0 where
  apart : AreMoves visits
  count : most_changes < change_count visits

many_at_nodes : (job : JobFields) (part : List Tri) (list : List Visit) → HaveManyNodeVisits job part → AreNodeVisits job part list → AreMany list
many_at_nodes job part list many are =
    let same : list ≡ finish_visits_of job many.heights =
    are.visits ∙ ap (λ (heights : List ℤ). finish_visits_of job heights) (one_map (tool_of job) part job.floor (finish_lattice job) are.heights many.heights are.are many.are) in
    record {
      apart = subst (λ (vs : List Visit). AreMoves vs) (sym same) (steps_move job.raster (finish_visits_of job many.heights) (finish_steps job many.heights));
      count = subst (λ (vs : List Visit). most_changes < change_count vs) (sym same) many.many;
    }

many_along_rows : (job : JobFields) (part : List Tri) (tol : ℤ) (list : List Visit) → HaveManyRowVisits job part tol → AreRowVisits job part tol list → AreMany list
many_along_rows job part tol list many are = record {
  apart = subst (λ (vs : List Visit). AreMoves vs) (sym are.visits) (apart_move (row_visits_from job 0 are.paths) (all_elsewhere job part tol are.paths are.are));
  count = subst (λ (vs : List Visit). most_changes < change_count vs) (sym are.visits)
      (past most_changes (change_count (row_visits_from job 0 many.paths)) (change_count (row_visits_from job 0 are.paths)) many.many
      (first_changes job part tol many.rows many.paths are.paths many.are are.are));
}
  where
    past : (a b c : ℕ) → a < b → b ≤ c → a < c
    past a b c h g = omega (h, g, arith)

pub many_finish : ManyFinishVisitsMakeMoves
many_finish job part moves many plan =
    let are = plan.are in
    let all : AreMany are.finish = by are.finish job.path_tol many are.are_finish in
    plan_counts job part (are.rough ++ are.level) are.finish [] moves plan all.apart
    (are.all ∙ ap (λ (vs : List Visit). are.rough ++ are.level ++ vs) (sym (append-nil are.finish))) all.count
  where
    by : (list : List Visit) (t : Option ℤ) → MatchOption t (HaveManyNodeVisits job part) (λ tol. HaveManyRowVisits job part tol)
        → MatchOption t (AreNodeVisits job part list) (λ tol. AreRowVisits job part tol list) → AreMany list
    by list None h g = many_at_nodes job part list h g
    by list (Some tol) h g = many_along_rows job part tol list h g
