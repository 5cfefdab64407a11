-- The answers for the visits, one by one and in a list, and where the cutter is before each.
use Rattle.std.specs.Prelude.{◌≡◌, ℕ, zero, suc, ◌+◌, ◌<◌, Bool, List, [], ◌∷◌, ◌++◌, length, slice_index_or}
use Rattle.std.specs.List.{AllZip, range_with_len}
use Rattle.std.proofs.Common.{refl, sym, ap, ◌∙◌, subst, subst₂, arith}
use Rattle.std.proofs.lemmas.List.{get_or_default}
use Rattle.std.proofs.lemmas.Slice.Zip.{all_zipped_more}
use Rattle.mill_base.specs.declared.points.Pt3.{Pt3}
use Rattle.mill_base.specs.declared.points.Tri.{Tri}
use Rattle.mill_job.specs.declared.fields.JobFields.{JobFields}
use Rattle.mill_links.specs.Links.{SaysClear}
use Rattle.mill_links.specs.declared.visit.Visit.{Visit}
use Rattle.mill_paths.proofs.Gathered.{numbers_more}
use Rattle.mill_plan.specs.inner.Feeds.{SayClear, SaysClearTo, no_visit, place_before}

-- what holds of the numbers from one on and the items of a list holds of each number and item
numbered : {Y : Type 0} (R : ℕ → Y → Type 0) (from count : ℕ) (ys : List Y) (k m : ℕ) (e : Y) → from + k ≡ m → AllZip R (range_with_len from count) ys → k < count
    → R m (slice_index_or ys k e)
numbered R from zero ys k m e sum all inside = absurd (omega arith)
numbered R from (suc n) [] k m e sum all inside = absurd all
numbered R from (suc n) (y ∷ ys) zero m e sum all inside = let same : from ≡ m = omega arith in subst (λ j. R j y) same all.0
numbered R from (suc n) (y ∷ ys) (suc k) m e sum all inside = numbered R (from + 1) n ys k m e (omega arith) all.1 (omega arith)

-- there are as many answers as numbers
pub as_many : {Y : Type 0} (R : ℕ → Y → Type 0) (from count : ℕ) (ys : List Y) → AllZip R (range_with_len from count) ys → length ys ≡ count
as_many R from zero [] all = refl
as_many R from zero (y ∷ ys) all = absurd all
as_many R from (suc n) [] all = absurd all
as_many R from (suc n) (y ∷ ys) all = ap suc (as_many R (from + 1) n ys all.1)

-- one more answer after those of the numbers before it
pub told_more : {Y : Type 0} (R : ℕ → Y → Type 0) (k : ℕ) (ys zs : List Y) (y : Y) → AllZip R (range_with_len 0 k) ys → R k y → zs ≡ ys ++ y ∷ [] → AllZip R (range_with_len 0 (k + 1)) zs
told_more R k ys zs y before here more =
    subst₂ (λ ks us. AllZip R ks us) (sym numbers) (sym more) (all_zipped_more R (range_with_len 0 k) ys k y before here)
  where
    next : k + 1 ≡ suc k
    next = omega arith

    plain : 0 + k ≡ k
    plain = omega arith

    numbers : range_with_len 0 (k + 1) ≡ range_with_len 0 k ++ k ∷ []
    numbers = ap (range_with_len 0) next ∙ numbers_more 0 k ∙ ap (λ (m : ℕ). range_with_len 0 k ++ m ∷ []) plain

-- what the answers say of the visit of number k, with the place where the cutter is then
pub says_at : (job : JobFields) (part : List Tri) (visits : List Visit) (answers : List Bool) (k : ℕ) (d : Visit) (e : Bool) (place : Pt3) → SayClear job part visits answers
    → k < length visits → place ≡ place_before job visits k → SaysClear job part place (slice_index_or visits k d) (slice_index_or answers k e)
says_at job part visits answers k d e place say inside there =
    subst (λ (p : Pt3). SaysClear job part p (slice_index_or visits k d) (slice_index_or answers k e)) (sym there)
    (subst (λ (v : Visit). SaysClear job part (place_before job visits k) v (slice_index_or answers k e)) (get_or_default visits k no_visit d inside)
    (numbered (λ n answer. SaysClear job part (place_before job visits n) (slice_index_or visits n no_visit) answer) 0 (length visits) answers k k e (plain k) say inside))
  where
    plain : (n : ℕ) → 0 + n ≡ n
    plain n = omega arith

-- what an answer says of the visit of a number, whatever stands past the list's end
pub says_to : (job : JobFields) (part : List Tri) (visits : List Visit) (number : ℕ) (d : Visit) (place : Pt3) (answer : Bool) → number < length visits
    → place ≡ place_before job visits number → SaysClear job part place (slice_index_or visits number d) answer → SaysClearTo job part visits number answer
says_to job part visits number d place answer inside there says =
    subst (λ (p : Pt3). SaysClear job part p (slice_index_or visits number no_visit) answer) there
    (subst (λ (v : Visit). SaysClear job part place v answer) (get_or_default visits number d no_visit inside) says)
