-- What holds of each obstacle holds of the part and of each fixture's upper face, and the other way round.
use Rattle.std.specs.Prelude.{List, [], ◌∷◌, ◌++◌, All, Contains}
use Rattle.std.specs.List.{flat_map}
use Rattle.std.proofs.Common.{ap, ◌∙◌}
use Rattle.std.proofs.lemmas.List.{append-nil}
use Rattle.std.proofs.lemmas.List.Elements.{All-append, All-cons, All-contains, All-contains_itself, All-head, All-nil, All-tail, All-weaker, Contains-append_left, Contains-append_right}
use Rattle.mill_base.specs.declared.points.Tri.{Tri}
use Rattle.mill_job.specs.declared.fields.JobFields.{JobFields}
use Rattle.mill_job.specs.declared.fixtures.Fixture.{Fixture}
use Rattle.mill_obstacles.specs.Faces.{faces_of, first_half, obstacles_of, second_half}
use Rattle.mill_obstacles.specs.Laws.{NoFixturesNoMore}

-- without fixtures they are the part
pub no_fixtures_no_more : NoFixturesNoMore
unfolding obstacles_of
no_fixtures_no_more job part none = ap (λ fixtures. part ++ flat_map faces_of fixtures) none ∙ append-nil part

module _ (P : Tri → Type 0) where
  -- it holds of both triangles of the fixture's upper face
  pub record OfFaces (f : Fixture) : Type 0 where
    pub first : P (first_half f)
    pub second : P (second_half f)

  -- what holds of each element of two lists holds of each of the one, and of each of the other
  of_first : (xs ys : List Tri) → All P (xs ++ ys) → All P xs
  of_first xs ys h = All-weaker (Contains xs) P (λ t c. All-contains P (xs ++ ys) t h (Contains-append_left xs ys t c)) xs (All-contains_itself xs)

  of_second : (xs ys : List Tri) → All P (xs ++ ys) → All P ys
  of_second xs ys h = All-weaker (Contains ys) P (λ t c. All-contains P (xs ++ ys) t h (Contains-append_right xs ys t c)) ys (All-contains_itself ys)

  faces_hold : (fs : List Fixture) → All P (flat_map faces_of fs) → All OfFaces fs
  faces_hold [] h = All-nil OfFaces
  faces_hold (f ∷ fs) h = let tail = All-tail P (first_half f) (second_half f ∷ flat_map faces_of fs) h in
      All-cons OfFaces f fs (record {
        first = All-head P (first_half f) (second_half f ∷ flat_map faces_of fs) h;
        second = All-head P (second_half f) (flat_map faces_of fs) tail;
      }) (faces_hold fs (All-tail P (second_half f) (flat_map faces_of fs) tail))

  hold_faces : (fs : List Fixture) → All OfFaces fs → All P (flat_map faces_of fs)
  hold_faces [] h = All-nil P
  hold_faces (f ∷ fs) h = let both = All-head OfFaces f fs h in
      All-cons P (first_half f) (second_half f ∷ flat_map faces_of fs) both.first
      (All-cons P (second_half f) (flat_map faces_of fs) both.second (hold_faces fs (All-tail OfFaces f fs h)))

  -- what holds of each obstacle holds of each triangle of the part
  pub of_part : (job : JobFields) (part : List Tri) → All P (obstacles_of job part) → All P part
  unfolding obstacles_of
  of_part job part h = of_first part (flat_map faces_of job.keep_out) h

  -- and of both triangles of each fixture's upper face
  pub of_fixtures : (job : JobFields) (part : List Tri) → All P (obstacles_of job part) → All OfFaces job.keep_out
  unfolding obstacles_of
  of_fixtures job part h = faces_hold job.keep_out (of_second part (flat_map faces_of job.keep_out) h)

  -- what holds of all of these holds of each obstacle
  pub of_obstacles : (job : JobFields) (part : List Tri) → All P part → All OfFaces job.keep_out → All P (obstacles_of job part)
  unfolding obstacles_of
  of_obstacles job part own others = All-append P part (flat_map faces_of job.keep_out) own (hold_faces job.keep_out others)
