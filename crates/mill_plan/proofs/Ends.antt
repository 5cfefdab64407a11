-- Some move of a plan ends at each of its finishing visits.
use Rattle.std.specs.Prelude.{◌≡◌, ◌⊎◌, ℕ, zero, suc, ℤ, ◌-ℤ◌, ◌<ℤ◌, ◌≤ℤ◌, List, [], ◌∷◌, ◌++◌, slice_index_or, All}
use Rattle.std.specs.List.{flat_map}
use Rattle.std.proofs.Common.{inl, inr, refl, sym, ap, ◌∙◌, subst, arith}
use Rattle.std.proofs.lemmas.Int.{ints}
use Rattle.std.proofs.lemmas.List.Elements.{All-nil, All-cons, All-tail, All-weaker, Contains-append_left, Contains-append_right}
use Rattle.mill_base.specs.declared.motion.Move.{Move}
use Rattle.mill_base.specs.declared.points.Pt3.{Pt3}
use Rattle.mill_base.specs.declared.points.Tri.{Tri}
use Rattle.mill_job.specs.Columns.{home}
use Rattle.mill_job.specs.Jobs.{IsJob}
use Rattle.mill_job.specs.declared.fields.JobFields.{JobFields}
use Rattle.mill_links.specs.Links.{IsLink, at_height, climb, cross, descend, feed_to, head, over_stock, peck_count, pecks, plunge, way_home}
use Rattle.mill_links.specs.Safety.{IsEndOf}
use Rattle.mill_links.specs.Tours.{AreLinks, last_place}
use Rattle.mill_links.specs.declared.visit.Visit.{Visit}
use Rattle.mill_paths.specs.Plans.{IsPlan}
use Rattle.mill_paths.specs.Visits.{IsVisit}
use Rattle.mill_paths.proofs.VisitLemmas.{finish_visits_are_free}

-- a move of a list ends there, also where others stand before or after the list
ends_left : (xs ys : List Move) (p : Pt3) → IsEndOf xs p → IsEndOf (xs ++ ys) p
ends_left xs ys p end = record { move = end.move; member = Contains-append_left xs ys end.move end.member; here = end.here }

ends_right : (xs ys : List Move) (p : Pt3) → IsEndOf ys p → IsEndOf (xs ++ ys) p
ends_right xs ys p end = record { move = end.move; member = Contains-append_right xs ys end.move end.member; here = end.here }

ends_once : (m : Move) → IsEndOf (m ∷ []) m.to
ends_once m = record { move = m; member = (0, omega arith, refl); here = refl }

-- the last of the pecks down to a place ends there
pecks_end : (n : ℕ) (depth : ℤ) (at : Pt3) (start z : ℤ) → IsEndOf (pecks n depth at start z) at
pecks_end zero depth at start z = ends_once (feed_to (at_height at start) at)
pecks_end (suc n) depth at start z =
    ends_right (feed_to (at_height at start) (at_height at (z -ℤ depth)) ∷ []) (pecks n depth at (z -ℤ depth) (z -ℤ depth)) at (pecks_end n depth at (z -ℤ depth) (z -ℤ depth))

-- the place is where the moves start, or where one of them ends
abbrev IsOnTheWay : Pt3 → List Move → Pt3 → Type 0
IsOnTheWay from moves p = (p ≡ from) ⊎ IsEndOf moves p

module _ (job : JobFields) (part : List Tri) where
  link_ends : (done : List Move) (from : Pt3) (visit : Visit) (moves : List Move) → IsLink job part done from visit moves → IsOnTheWay from moves visit.at
  link_ends done from visit moves (inl stay) = inl stay.there
  link_ends done from visit moves (inr (inl straight)) =
      inr (subst (λ (ms : List Move). IsEndOf ms visit.at) (sym straight.feed) (ends_once (feed_to from visit.at)))
  link_ends done from visit moves (inr (inr round)) =
      inr (subst (λ (ms : List Move). IsEndOf ms visit.at) (sym round.round)
      (ends_right (climb job from ++ cross job from visit.at ++ descend job visit.at) (plunge job visit.at) visit.at
      (pecks_end (peck_count job.max_cut (job.top -ℤ visit.at.z)) job.max_cut visit.at (over_stock job) job.top)))

  -- what is on the way from the first visit is so from the start
  on_the_way : (from mid : Pt3) (first rest : List Move) (p : Pt3) → IsOnTheWay from first mid → IsOnTheWay mid rest p → IsOnTheWay from (first ++ rest) p
  on_the_way from mid first rest p (inl start) (inl here) = inl (here ∙ start)
  on_the_way from mid first rest p (inr end) (inl here) = inr (ends_left first rest p (subst (λ (q : Pt3). IsEndOf first q) (sym here) end))
  on_the_way from mid first rest p before (inr end) = inr (ends_right first rest p end)

  started : (from : Pt3) (first rest : List Move) (p : Pt3) → IsOnTheWay from first p → IsOnTheWay from (first ++ rest) p
  started from first rest p (inl start) = inl start
  started from first rest p (inr end) = inr (ends_left first rest p end)

  links_end : (done : List Move) (from : Pt3) (visits : List Visit) (links : List (List Move)) → AreLinks job part done from visits links
      → All (λ (v : Visit). IsOnTheWay from (flat_map (λ (link : List Move). link) links) v.at) visits
  links_end done from [] [] are = All-nil (λ (v : Visit). IsOnTheWay from [] v.at)
  links_end done from [] (link ∷ links) are = absurd are
  links_end done from (v ∷ vs) [] are = absurd are
  links_end done from (v ∷ vs) (link ∷ links) are =
      let rest : List Move = flat_map (λ (l : List Move). l) links in
      let here : IsOnTheWay from link v.at = link_ends done from v link are.0 in
      All-cons (λ (w : Visit). IsOnTheWay from (link ++ rest) w.at) v vs (started from link rest v.at here)
      (All-weaker (λ (w : Visit). IsOnTheWay v.at rest w.at) (λ (w : Visit). IsOnTheWay from (link ++ rest) w.at)
      (λ w later. on_the_way from v.at link rest w.at here later) vs (links_end (done ++ link) v.at vs links are.1))

-- what holds of all of two lists holds of all of the second
behind : (P : Visit → Type 0) (xs ys : List Visit) → All P (xs ++ ys) → All P ys
behind P [] ys all = all
behind P (x ∷ xs) ys all = behind P xs ys (All-tail P x (xs ++ ys) all)

-- none of them is home, which isn't under the top
not_home : (job : JobFields) (part : List Tri) (visit : Visit) → IsJob job → IsVisit job part visit → visit.at ≡ home job → ⊥
not_home job part visit ok is there = clash visit.at.z job.top job.clear is.under_top ok.over_stock (ap (λ (p : Pt3). p.z) there)
  where
    clash : (z top clear : ℤ) → z <ℤ top → top ≤ℤ clear → z ≡ clear → ⊥
    clash z top clear under over e = omega (under, over, e, arith, ints)

pub finish_ends : (job : JobFields) (part : List Tri) (moves : List Move) (plan : IsPlan job part moves) → IsJob job → All (λ (v : Visit). IsEndOf moves v.at) plan.are.finish
finish_ends job part moves plan ok =
    let are = plan.are in
    let links : List Move = flat_map (λ (link : List Move). link) plan.tour.tour.links in
    let all : All (λ (v : Visit). IsOnTheWay (home job) links v.at) (are.rough ++ are.level ++ are.finish) =
    subst (λ (vs : List Visit). All (λ (v : Visit). IsOnTheWay (home job) links v.at) vs) are.all (links_end job part (head job) (home job) plan.visits plan.tour.tour.links plan.tour.tour.are) in
    let way : All (λ (v : Visit). IsOnTheWay (home job) links v.at) are.finish =
    behind (λ (v : Visit). IsOnTheWay (home job) links v.at) (are.rough ++ are.level) are.finish all in
    let each : All (IsVisit job part) are.finish = finish_visits_are_free job part are.finish ok are.are_finish in
    λ k d inside. ends (slice_index_or are.finish k d) (each k d inside) (way k d inside)
  where
    ends : (v : Visit) → IsVisit job part v → IsOnTheWay (home job) (flat_map (λ (link : List Move). link) plan.tour.tour.links) v.at → IsEndOf moves v.at
    ends v is (inl there) = absurd (not_home job part v ok is there)
    ends v is (inr end) =
        subst (λ (ms : List Move). IsEndOf ms v.at) (sym plan.joined)
        (ends_left plan.toured (way_home job (last_place (home job) plan.visits)) v.at
        (subst (λ (ms : List Move). IsEndOf ms v.at) (sym plan.tour.joined)
        (ends_right (head job) plan.tour.toured v.at (subst (λ (ms : List Move). IsEndOf ms v.at) (sym plan.tour.tour.joined) end))))
