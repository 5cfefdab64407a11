-- Tours that go on: by one visit, or by another tour.
use Rattle.std.specs.Prelude.{◌≡◌, List, [], ◌∷◌, ◌++◌}
use Rattle.std.specs.List.{flat_map}
use Rattle.std.proofs.Common.{refl, sym, ap, ◌∙◌, subst}
use Rattle.std.proofs.lemmas.Grind.{flat_map-append}
use Rattle.std.proofs.lemmas.List.{append_assoc, append-nil}
use Rattle.mill_base.specs.declared.points.Pt3.{Pt3}
use Rattle.mill_base.specs.declared.points.Tri.{Tri}
use Rattle.mill_base.specs.declared.motion.Move.{Move}
use Rattle.mill_job.specs.Columns.{home}
use Rattle.mill_job.specs.declared.fields.JobFields.{JobFields}
use Rattle.mill_links.specs.Links.{IsLink, head}
use Rattle.mill_links.specs.Tours.{AreLinks, GoesThrough, IsTour, last_place}
use Rattle.mill_links.specs.declared.visit.Visit.{Visit}

-- where the cutter is after visits and others, and after visits and one more
pub last_join : (from : Pt3) (vs ws : List Visit) → last_place from (vs ++ ws) ≡ last_place (last_place from vs) ws
last_join from [] ws = refl
last_join from (v ∷ vs) ws = last_join v.at vs ws

pub last_snoc : (from : Pt3) (visits : List Visit) (v : Visit) → last_place from (visits ++ v ∷ []) ≡ v.at
last_snoc from visits v = last_join from visits (v ∷ [])

abbrev joined : List (List Move) → List Move
joined links = flat_map (λ link. link) links

-- links to visits and to others after them
links_join : (job : JobFields) (part : List Tri) (done : List Move) (from : Pt3) (vs ws : List Visit) (ls ks : List (List Move)) → AreLinks job part done from vs ls
    → AreLinks job part (done ++ joined ls) (last_place from vs) ws ks → AreLinks job part done from (vs ++ ws) (ls ++ ks)
links_join job part done from [] ws [] ks first rest = subst (λ ms. AreLinks job part ms from ws ks) (append-nil done) rest
links_join job part done from [] ws (l ∷ ls) ks first rest = absurd first
links_join job part done from (v ∷ vs) ws [] ks first rest = absurd first
links_join job part done from (v ∷ vs) ws (l ∷ ls) ks first rest = (
  first.0,
  links_join job part (done ++ l) v.at vs ws ls ks first.1 (subst (λ ms. AreLinks job part ms (last_place v.at vs) ws ks) (sym (append_assoc done l (joined ls))) rest),
)

-- a tour of no visit, and of one
pub tour_nil : (job : JobFields) (part : List Tri) (done : List Move) (from : Pt3) → IsTour job part done from [] []
tour_nil job part done from = record { links = []; are = tt; joined = refl }

tour_once : (job : JobFields) (part : List Tri) (done : List Move) (from : Pt3) (v : Visit) (link : List Move) → IsLink job part done from v link
    → IsTour job part done from (v ∷ []) link
tour_once job part done from v link is = record { links = link ∷ []; are = (is, tt); joined = sym (append-nil link) }

-- a tour and another from where it ends are one
pub tour_join : (job : JobFields) (part : List Tri) (done : List Move) (from : Pt3) (vs ws : List Visit) (a b : List Move) → IsTour job part done from vs a
    → IsTour job part (done ++ a) (last_place from vs) ws b → IsTour job part done from (vs ++ ws) (a ++ b)
tour_join job part done from vs ws a b first rest = record {
  links = first.links ++ rest.links;
  are = links_join job part done from vs ws first.links rest.links first.are
      (subst (λ (ms : List Move). AreLinks job part (done ++ ms) (last_place from vs) ws rest.links) first.joined rest.are);
  joined =
      ap (λ (ms : List Move). ms ++ b) first.joined
      ∙ ap (λ (ms : List Move). joined first.links ++ ms) rest.joined
      ∙ sym (flat_map-append (λ (link : List Move). link) first.links rest.links);
}

-- so are a tour and the link to one more visit
pub tour_snoc : (job : JobFields) (part : List Tri) (done : List Move) (from : Pt3) (visits : List Visit) (v : Visit) (moves link : List Move)
    → IsTour job part done from visits moves → IsLink job part (done ++ moves) (last_place from visits) v link
    → IsTour job part done from (visits ++ v ∷ []) (moves ++ link)
tour_snoc job part done from visits v moves link so_far next =
    tour_join job part done from visits (v ∷ []) moves link so_far (tour_once job part (done ++ moves) (last_place from visits) v link next)

-- a program that comes to no visit yet, and one that comes to one more
pub through_none : (job : JobFields) (part : List Tri) → GoesThrough job part [] (head job)
through_none job part = record { toured = []; tour = tour_nil job part (head job) (home job); joined = sym (append-nil (head job)) }

pub through_snoc : (job : JobFields) (part : List Tri) (visits : List Visit) (v : Visit) (moves link : List Move) → GoesThrough job part visits moves
    → IsLink job part moves (last_place (home job) visits) v link → GoesThrough job part (visits ++ v ∷ []) (moves ++ link)
through_snoc job part visits v moves link so_far next = record {
  toured = so_far.toured ++ link;
  tour = tour_snoc job part (head job) (home job) visits v so_far.toured link so_far.tour
      (subst (λ (ms : List Move). IsLink job part ms (last_place (home job) visits) v link) so_far.joined next);
  joined = ap (λ (ms : List Move). ms ++ link) so_far.joined ∙ append_assoc (head job) so_far.toured link;
}
