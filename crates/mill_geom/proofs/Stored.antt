-- The lesser and the greater of two coordinates as the machine stores them.
use Rattle.std.proofs.Common.{◌≡◌, w32, to_z, of_z, FitsSigned, ◌∙◌}
use Rattle.std.specs.Int.{int_min, int_max}
use Rattle.std.proofs.lemmas.Int.{to_z-of_z}
use lib.IntN.{ℤ}

pub least_stored : (m a b : ℤ) → FitsSigned w32 m → FitsSigned w32 a → FitsSigned w32 b → m ≡ int_min (to_z w32 (of_z w32 a)) (to_z w32 (of_z w32 b)) → to_z w32 (of_z w32 m) ≡ int_min a b
least_stored m a b fm fa fb e = to_z-of_z w32 m fm ∙ (rw (to_z-of_z w32 a fa, to_z-of_z w32 b fb) at e)

pub most_stored : (m a b : ℤ) → FitsSigned w32 m → FitsSigned w32 a → FitsSigned w32 b → m ≡ int_max (to_z w32 (of_z w32 a)) (to_z w32 (of_z w32 b)) → to_z w32 (of_z w32 m) ≡ int_max a b
most_stored m a b fm fa fb e = to_z-of_z w32 m fm ∙ (rw (to_z-of_z w32 a fa, to_z-of_z w32 b fb) at e)
