-- The chains of a waterline, one after another.
use Rattle.std.proofs.Common.{◌≡◌, ap, ◌∙◌, sym}
use Rattle.std.proofs.lemmas.List.{flat_map_more, map-append}
use Rattle.std.specs.List.{flat_map}
use Rattle.std.specs.Prelude.{List, [], ◌∷◌, ◌++◌, map}
use Rattle.mill_base.specs.declared.points.Pt3.{Pt3}
use Rattle.mill_level.specs.Waterlines.{Outline}
use Rattle.mill_ffi_data.specs.Raw.{corner_of}
use Rattle.mill_ffi_data.specs.declared.raw.RawChain.{RawChain}
use Rattle.mill_ffi_data.specs.declared.raw.RawPoint.{RawPoint}
use Rattle.mill_ffi.specs.Levels.{AreOutlines, head_of}

-- one chain more
pub outlines_more : (outlines before : List Outline) (outline : Outline) (chains more : List RawChain) (points all : List RawPoint) → outlines ≡ before ++ outline ∷ [] → more ≡ chains ++ head_of outline ∷ [] → map corner_of all ≡ map corner_of points ++ outline.points → AreOutlines before chains points → AreOutlines outlines more all
outlines_more outlines before outline chains more points all one_more headed added so_far = record {
  heads = headed ∙ (ap (λ (some : List RawChain). some ++ head_of outline ∷ []) so_far.heads ∙ sym (ap (λ (some : List Outline). map head_of some) one_more ∙ map-append head_of before (outline ∷ [])));
  all = added ∙ (ap (λ (some : List Pt3). some ++ outline.points) so_far.all ∙ (flat_map_more (λ (one : Outline). one.points) [] before outline ∙ sym (ap (λ (some : List Outline). flat_map (λ (one : Outline). one.points) some) one_more)));
}
