-- The first fault of a list.
use Rattle.std.proofs.Common.{◌≡◌, List, [], ◌∷◌, ◌++◌, Option, Some, None, Err, refl, IfOk, IfErr}
use Rattle.mill_job.specs.Tables.{first, checked}
use Rattle.mill_job.specs.declared.fault.JobFault.{JobFault}

-- behind faults that aren't there, the first is that of the rest
pub first-append : (before after : List (Option JobFault)) → first before ≡ None → first (before ++ after) ≡ first after
first-append [] after e = refl
first-append (None ∷ before) after e = first-append before after e
first-append (Some fault ∷ before) after e = cc

-- a fault that is the first of a list is the first with more behind it
pub first-found : (before after : List (Option JobFault)) (fault : JobFault) → first before ≡ Some fault → first (before ++ after) ≡ Some fault
first-found [] after fault e = cc
first-found (None ∷ before) after fault e = first-found before after fault e
first-found (Some other ∷ before) after fault e = e

-- the fault that is told is the one that there is
pub if_err : {V : Type 0} (fault : Option JobFault) (v : V) → IfErr (checked fault v) (λ told. fault ≡ Some told)
if_err None v = tt
if_err (Some fault) v = refl

-- what holds of the value where there is no fault
pub if_ok : {V : Type 0} (fault : Option JobFault) (v : V) (P : V → Type 0) → (fault ≡ None → P v) → IfOk (checked fault v) P
if_ok None v P h = h refl
if_ok (Some fault) v P h = tt

-- the first fault of a list is what is told
pub told : {V : Type 0} (faults : List (Option JobFault)) (fault : JobFault) (v : V) → first faults ≡ Some fault → Err fault ≡ checked (first faults) v
told faults fault v found = rw found refl
