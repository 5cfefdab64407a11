-- What a fault tells, and what none tells.
use Rattle.std.proofs.Common.{◌≡◌, ℕ, zero, suc, ◌<◌, ◌≤◌, List, refl, sym, ap, ◌∙◌, subst, w32, arith}
use Rattle.std.specs.Prelude.{ℤ, pos, negsuc, ◌<ℤ◌, ◌≤ℤ◌, Result, Ok, Err}
use Rattle.std.proofs.lemmas.Int.{ints}
use mir.Val.{of_z, to_z}
use Rattle.mill_base.specs.Lattices.{node_count, IsMapLattice}
use Rattle.mill_base.specs.Numbers.{Within}
use Rattle.mill_base.specs.Units.{greatest_of}
use Rattle.mill_base.specs.declared.limits.TheConstants.{MAX_NODES}
use Rattle.mill_base.specs.declared.lattice.Lattice.{Lattice}
use Rattle.mill_base.specs.declared.unit.Unit.{Unit}
use Rattle.mill_links.proofs.Kept.{unit_coordinate}
use Rattle.mill_links.specs.declared.visit.Visit.{Visit}
use Rattle.mill_paths.specs.Limits.{change_count, most_changes, HasManyNodes, IsHeightsFault, IsListFault}
use Rattle.mill_paths.specs.inner.Rows.{IsFinishFault}
use Rattle.mill_paths.specs.declared.fault.PathFault.{PathFault}
use Rattle.mill_paths.specs.declared.fault.PathFault.TheVariants.{TooManyNodes, TooManyVisits, WantOfMemory}

same_fault : {T : Type 0} (r : Result T PathFault) (a b : PathFault) → r ≡ Err a → r ≡ Err b → a ≡ b
same_fault r a b is e = cc

same_nodes : (n m : ℕ) → TooManyNodes n ≡ TooManyNodes m → n ≡ m
same_nodes n m e = cc

visits_apart : (n : ℕ) → TooManyVisits ≡ TooManyNodes n → ⊥
visits_apart n e = cc

memory_apart : (n : ℕ) → WantOfMemory ≡ TooManyNodes n → ⊥
memory_apart n e = cc

memory_apart_visits : WantOfMemory ≡ TooManyVisits → ⊥
memory_apart_visits e = cc

nodes_apart_visits : (n : ℕ) → TooManyNodes n ≡ TooManyVisits → ⊥
nodes_apart_visits n e = cc

ok_apart : {T : Type 0} (v : T) (fault : PathFault) → Ok v ≡ Err fault → ⊥
ok_apart v fault e = cc

-- a lattice with few nodes hasn't too many
few_nodes : (lattice : Lattice) (n : ℕ) → node_count lattice ≤ MAX_NODES → HasManyNodes lattice n → ⊥
few_nodes lattice n few many = let all = many.all in let over = many.many in absurd (over_few n (node_count lattice) all over few)
  where
    over_few : (n m : ℕ) → n ≡ m → MAX_NODES < n → m ≤ MAX_NODES → ⊥
    over_few n m e h l = omega arith

-- where the drop heights meet a fault, it is that of too many nodes exactly where there are
pub heights_fault : {T : Type 0} (r : Result T PathFault) (lattice : Lattice) (fault : PathFault) → r ≡ Err fault → IsHeightsFault lattice fault → (n : ℕ)
    → (r ≡ Err (TooManyNodes n) → HasManyNodes lattice n) × (HasManyNodes lattice n → r ≡ Err (TooManyNodes n))
heights_fault r lattice (TooManyNodes m) is h n = (
  λ e. subst (λ (k : ℕ). HasManyNodes lattice k) (same_nodes m n (same_fault r (TooManyNodes m) (TooManyNodes n) is e)) h,
  λ many. is ∙ ap (λ (k : ℕ). Err (TooManyNodes k)) (h.all ∙ sym many.all),
)
heights_fault r lattice TooManyVisits is h n = absurd h
heights_fault r lattice WantOfMemory is h n =
    (λ e. absurd (memory_apart n (same_fault r WantOfMemory (TooManyNodes n) is e)), λ many. absurd (few_nodes lattice n h many))

-- it isn't that of too many visits
pub heights_fault_visits : {T : Type 0} (r : Result T PathFault) (lattice : Lattice) (fault : PathFault) → r ≡ Err fault → IsHeightsFault lattice fault → r ≡ Err TooManyVisits → ⊥
heights_fault_visits r lattice (TooManyNodes m) is h e = nodes_apart_visits m (same_fault r (TooManyNodes m) TooManyVisits is e)
heights_fault_visits r lattice TooManyVisits is h e = h
heights_fault_visits r lattice WantOfMemory is h e = memory_apart_visits (same_fault r WantOfMemory TooManyVisits is e)

-- where a list meets a fault over a lattice with few nodes, it isn't that of too many nodes
pub list_fault : {T : Type 0} (r : Result T PathFault) (lattice : Lattice) (visits : List Visit) (fault : PathFault) → r ≡ Err fault → IsListFault visits fault → IsMapLattice lattice → (n : ℕ)
    → (r ≡ Err (TooManyNodes n) → HasManyNodes lattice n) × (HasManyNodes lattice n → r ≡ Err (TooManyNodes n))
list_fault r lattice visits (TooManyNodes m) is h ok n = absurd h
list_fault r lattice visits TooManyVisits is h ok n =
    (λ e. absurd (visits_apart n (same_fault r TooManyVisits (TooManyNodes n) is e)), λ many. absurd (few_nodes lattice n ok.few many))
list_fault r lattice visits WantOfMemory is h ok n =
    (λ e. absurd (memory_apart n (same_fault r WantOfMemory (TooManyNodes n) is e)), λ many. absurd (few_nodes lattice n ok.few many))

-- where it is that of too many visits, there are
pub list_fault_visits : {T : Type 0} (r : Result T PathFault) (visits : List Visit) (fault : PathFault) → r ≡ Err fault → IsListFault visits fault → r ≡ Err TooManyVisits
    → most_changes < change_count visits
list_fault_visits r visits (TooManyNodes m) is h e = absurd h
list_fault_visits r visits TooManyVisits is h e = h
list_fault_visits r visits WantOfMemory is h e = absurd (memory_apart_visits (same_fault r WantOfMemory TooManyVisits is e))

-- where there is a list, the lattice has few nodes
pub list_there : {T : Type 0} (v : T) (lattice : Lattice) → IsMapLattice lattice → (n : ℕ)
    → (Ok v ≡ Err (TooManyNodes n) → HasManyNodes lattice n) × (HasManyNodes lattice n → Ok v ≡ Err (TooManyNodes n))
list_there v lattice ok n = (λ e. absurd (ok_apart v (TooManyNodes n) e), λ many. absurd (few_nodes lattice n ok.few many))

-- what a fault of the drop heights tells of the finishing visits, and one of a list of them over a lattice of few nodes
pub from_heights : (lattice : Lattice) (many : Type 0) (fault : PathFault) → IsHeightsFault lattice fault → IsFinishFault lattice many fault
from_heights lattice many (TooManyNodes n) h = h
from_heights lattice many TooManyVisits h = absurd h
from_heights lattice many WantOfMemory h = h

pub from_list : (lattice : Lattice) (many : Type 0) (visits : List Visit) (fault : PathFault) → node_count lattice ≤ MAX_NODES → (most_changes < change_count visits → many)
    → IsListFault visits fault → IsFinishFault lattice many fault
from_list lattice many visits (TooManyNodes n) few gives h = absurd h
from_list lattice many visits TooManyVisits few gives h = (few, gives h)
from_list lattice many visits WantOfMemory few gives h = few

pub no_layer : (layer : ℤ) → layer ≡ pos 0 → (pos 0) <ℤ layer → ⊥
no_layer layer none some = absurd (omega (arith, ints))

-- where there is no layer, no lattice is gone over
pub list_without_layer : {T : Type 0} (v : T) (lattice : Lattice) (layer : ℤ) → layer ≡ pos 0 → (n : ℕ)
    → (Ok v ≡ Err (TooManyNodes n) → ((pos 0) <ℤ layer) × HasManyNodes lattice n) × ((((pos 0) <ℤ layer) × HasManyNodes lattice n) → Ok v ≡ Err (TooManyNodes n))
list_without_layer v lattice layer none n = (λ e. absurd (ok_apart v (TooManyNodes n) e), λ many. absurd (no_layer layer none many.0))

-- a layer whose stored form is 0 is 0, and another is over 0
pub layer_none : (unit : Unit) (layer : ℤ) → Within (greatest_of unit) layer → of_z w32 layer ≡ 0 → layer ≡ pos 0
layer_none unit layer within e = sym (unit_coordinate unit layer within) ∙ ap (λ (n : ℕ). to_z w32 n) e

pub layer_some : (layer : ℤ) → (pos 0) ≤ℤ layer → (of_z w32 layer ≡ 0 → ⊥) → (pos 0) <ℤ layer
layer_some (pos zero) least apart = absurd (apart refl)
layer_some (pos (suc n)) least apart = omega (arith, ints)
layer_some (negsuc n) least apart = absurd (omega (arith, ints))

-- both ends of a premise and a fact that hold together
pub with_layer : {A B : Type 0} (layer : ℤ) → (pos 0) <ℤ layer → (A → B) × (B → A) → (A → ((pos 0) <ℤ layer) × B) × ((((pos 0) <ℤ layer) × B) → A)
with_layer layer some q = (λ a. (some, q.0 a), λ b. q.1 b.1)
