-- The drop height, triangle by triangle.
use Rattle.std.proofs.Common.{◌≡◌, ◌⊎◌, ℕ, ◌+◌, ◌<◌, ◌≤◌, List, length, take, get_or, take_all, subst}
use Rattle.std.specs.List.{All}
use Rattle.std.proofs.lemmas.List.Elements.{All-nil, All-more, All-weaker, All-contains}
use lib.IntN.{ℤ, pos, ◌-ℤ◌}
use lib.Signed.{◌≤ℤ◌}
use Rattle.mill_base.specs.Solids.{at_tip}
use Rattle.mill_base.specs.declared.points.Tri.{Tri}
use Rattle.mill_base.specs.declared.cutter.Cutter.{Cutter}
use Rattle.mill_drop.specs.inner.Solids.{TouchesAt, IsRaised, IsSolidDrop}
use Rattle.mill_drop.proofs.Dropping.{drop_where_free, raised_none, raised_on}
use Rattle.mill_drop.proofs.Heights.{lowered}

-- the height was raised from the floor, and at it no triangle of the first k is held
pub record DropsBefore (cutter : Cutter) (part : List Tri) (x y floor : ℤ) (k : ℕ) (height : ℤ) : Type 0 where
  pub raised : IsRaised cutter part x y floor height
  pub free : All (λ t. ¬ TouchesAt cutter t x y height) (take k part)

pub drops_at_first : (cutter : Cutter) (part : List Tri) (x y floor : ℤ) → DropsBefore cutter part x y floor 0 floor
drops_at_first cutter part x y floor = record { raised = raised_none cutter part x y floor; free = All-nil (λ t. ¬ TouchesAt cutter t x y floor) }

pub one_more : (cutter : Cutter) (part : List Tri) (x y floor : ℤ) (k : ℕ) (d : Tri) (height new : ℤ) → k < length part → DropsBefore cutter part x y floor k height
    → height ≤ℤ new → (¬ TouchesAt cutter (get_or part k d) x y new) → (new ≡ height) ⊎ TouchesAt cutter (get_or part k d) x y (new -ℤ pos 1)
    → DropsBefore cutter part x y floor (k + 1) new
one_more cutter part x y floor k d height new here before more free least = record {
  raised = raised_on cutter part x y floor height new k d here before.raised more least;
  free = All-more (λ t. ¬ TouchesAt cutter t x y new) part k d here
      (All-weaker (λ t. ¬ TouchesAt cutter t x y height) (λ t. ¬ TouchesAt cutter t x y new) (λ t f touch. f (lowered cutter t x y new height more touch)) (take k part) before.free)
      free;
}

-- after the last triangle it is the drop height
pub drop_after : (cutter : Cutter) (part : List Tri) (x y floor : ℤ) (k : ℕ) (height : ℤ) → length part ≤ k → DropsBefore cutter part x y floor k height
    → IsSolidDrop (at_tip cutter) part x y floor height
drop_after cutter part x y floor k height end before =
    drop_where_free cutter part x y floor height before.raised (λ tri m. All-contains (λ t. ¬ TouchesAt cutter t x y height) part tri all m)
  where
    all : All (λ t. ¬ TouchesAt cutter t x y height) part
    all = subst (All (λ t. ¬ TouchesAt cutter t x y height)) (take_all k part end) before.free
