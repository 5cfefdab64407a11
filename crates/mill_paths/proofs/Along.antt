-- The visits along a chain: at its points, and at the first again where it is closed.
use Rattle.std.proofs.Common.{◌≡◌, Bool, true, false, List, [], ◌∷◌, ◌++◌, map, take, sym, ap, ◌∙◌, subst, append_assoc, append-nil}
use Rattle.std.specs.Prelude.{if◌then◌else◌, ℤ, slice_get, Some, Result, Ok, Err, IfErr}
use Rattle.std.proofs.lemmas.List.{map-append}
use Rattle.mill_base.specs.declared.points.Pt3.{Pt3}
use Rattle.mill_links.specs.declared.visit.Visit.{Visit}
use Rattle.mill_paths.specs.Limits.{IsListFault}
use Rattle.mill_paths.specs.Visits.{outline_visits}
use Rattle.mill_paths.specs.declared.fault.PathFault.{PathFault}
use Rattle.mill_paths.specs.inner.Levels.{point_visit}
use Rattle.mill_paths.proofs.Changes.{fault_stays}

taken : (points : List Pt3) (first : Pt3) → slice_get points 0 ≡ Some first → take 1 points ≡ first ∷ []
taken [] first is = absurd (cc)
taken (p ∷ ps) first is = let same : p ≡ first = cc in ap (λ (q : Pt3). q ∷ []) same

module _ (step : ℤ) (points : List Pt3) (closed : Bool) where
  abbrev pub chain_visits : List Visit
  chain_visits = outline_visits step (record { closed = closed; points = points })

  parts : chain_visits ≡ map (point_visit step) points ++ map (point_visit step) (if closed then take 1 points else [])
  parts = map-append (point_visit step) points (if closed then take 1 points else [])

  -- an open chain has the visits at its points
  pub open_chain : (old new : List Visit) → closed ≡ false → new ≡ old ++ map (point_visit step) points → new ≡ old ++ chain_visits
  open_chain old new opened is =
      is ∙ ap (λ vs. old ++ vs) (sym (append-nil (map (point_visit step) points)) ∙ ap (λ (b : Bool). map (point_visit step) points ++ map (point_visit step) (if b then take 1 points else [])) (sym opened) ∙ sym parts)

  -- a closed one has one more at the first
  closed_parts : (old : List Visit) (first : Pt3) → closed ≡ true → slice_get points 0 ≡ Some first
      → (old ++ map (point_visit step) points) ++ point_visit step first ∷ [] ≡ old ++ chain_visits
  closed_parts old first close is =
      append_assoc old (map (point_visit step) points) (point_visit step first ∷ [])
      ∙ ap (λ vs. old ++ vs)
      (ap (λ ps. map (point_visit step) points ++ map (point_visit step) ps) (sym (taken points first is) ∙ ap (λ (b : Bool). if b then take 1 points else []) (sym close)) ∙ sym parts)

  pub closed_chain : (old mid new : List Visit) (first : Pt3) → closed ≡ true → slice_get points 0 ≡ Some first → mid ≡ old ++ map (point_visit step) points
      → new ≡ mid ++ point_visit step first ∷ [] → new ≡ old ++ chain_visits
  closed_chain old mid new first close is at_points at_first =
      at_first ∙ ap (λ vs. vs ++ point_visit step first ∷ []) at_points ∙ closed_parts old first close is

  -- too many at its points, or with the first again, are too many along it
  pub points_fault : (old : List Visit) (fault : PathFault) → IsListFault (old ++ map (point_visit step) points) fault → IsListFault (old ++ chain_visits) fault
  points_fault old fault h =
      subst (λ vs. IsListFault vs fault) (append_assoc old (map (point_visit step) points) (map (point_visit step) (if closed then take 1 points else [])) ∙ ap (λ vs. old ++ vs) (sym parts))
      (fault_stays (old ++ map (point_visit step) points) (map (point_visit step) (if closed then take 1 points else [])) fault h)

  pub first_fault : (old mid : List Visit) (first : Pt3) (fault : PathFault) → closed ≡ true → slice_get points 0 ≡ Some first → mid ≡ old ++ map (point_visit step) points
      → IsListFault (mid ++ point_visit step first ∷ []) fault → IsListFault (old ++ chain_visits) fault
  first_fault old mid first fault close is at_points h =
      subst (λ vs. IsListFault vs fault) (ap (λ vs. vs ++ point_visit step first ∷ []) at_points ∙ closed_parts old first close is) h

-- what a fault tells, told of another list
pub fault_gives : {T E : Type 0} {P Q : E → Type 0} (r : Result T E) → ((e : E) → P e → Q e) → IfErr r P → IfErr r Q
fault_gives (Ok v) f h = tt
fault_gives (Err e) f h = f e h
