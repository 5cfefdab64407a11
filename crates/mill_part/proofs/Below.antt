-- Covered heights go down.
use Rattle.std.proofs.Common.{inl, inr, arith}
use Rattle.std.proofs.lemmas.Int.{ints}
use Rattle.mill_base.specs.Covers.{CoveredBelow}
use Rattle.mill_part.proofs.ColumnCerts.{lower_too}

-- the same point is over the lower height
pub covered_below : CoveredBelow
covered_below part floor band x y h lower le (inl low) = inl (omega (arith, ints))
covered_below part floor band x y h lower le (inr over) = inr (record {
  tri = over.tri;
  member = over.member;
  n = over.n;
  p = over.p;
  point = over.point;
  high = lower_too over.n h lower over.p.z over.point.some le over.high;
  beside = over.beside;
})
