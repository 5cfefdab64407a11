-- An edge that is seen as a line from above.
use Rattle.std.proofs.Common.{◌≡◌, ◌⊎◌, inl, inr, ◌∙◌, arith}
use Rattle.std.specs.Prelude.{Option}
use Rattle.std.specs.Int.{int_max}
use Rattle.std.proofs.lemmas.Int.{ints, clamps}
use Rattle.mill_part.specs.inner.Columns.{IsFloor, IsGreatest}
use Rattle.mill_part.specs.inner.Lines.{EdgeOver}
use Rattle.mill_part.specs.declared.line.LineCorner.{LineCorner}
use Rattle.mill_part.proofs.LineCerts as cert
use Rattle.mill_part.proofs.FaceLemmas.{both_ways}
use Rattle.mill_part.proofs.Greatest.{greatest_same}
use lib.IntN.{ℤ, pos, neg_ℤ, ◌+ℤ◌, ◌-ℤ◌, ◌*ℤ◌}
use lib.Signed.{◌<ℤ◌, ◌≤ℤ◌}

pub turned : (p q : LineCorner) (h : ℤ) → EdgeOver p q h → EdgeOver q p h
turned p q h e = record {
  u = e.v;
  v = e.u;
  u_ok = e.v_ok;
  v_ok = e.u_ok;
  some = let s = e.some in omega (arith, ints);
  on = both_ways _ _ (cert.turned_on p.at q.at e.u e.v e.on) (cert.turned_on_least p.at q.at e.u e.v e.on);
  high = cert.turned_high p.z q.z e.u e.v h e.high;
}

pub turned_greatest : (p q : LineCorner) (o : Option ℤ) → IsGreatest (EdgeOver q p) o → IsGreatest (EdgeOver p q) o
turned_greatest p q o g = greatest_same (EdgeOver q p) (EdgeOver p q) o g (turned q p) (turned p q)

-- an end on the column reaches its height, and the ends to its two sides reach their mean
pub first_over : (p q : LineCorner) (h : ℤ) → p.at ≡ pos 0 → h ≤ℤ p.z → EdgeOver p q h
first_over p q h level le = record {
  u = pos 1;
  v = pos 0;
  u_ok = omega (arith, ints);
  v_ok = omega (arith, ints);
  some = omega (arith, ints);
  on = cert.first_on p.at q.at ∙ level;
  high = cert.first_high p.z q.z h le;
}

pub second_over : (p q : LineCorner) (h : ℤ) → q.at ≡ pos 0 → h ≤ℤ q.z → EdgeOver p q h
second_over p q h level le = turned q p h (first_over q p h level le)

pub across_over : (p q : LineCorner) (h : ℤ) → p.at ≤ℤ pos 0 → (pos 0) ≤ℤ q.at → p.at <ℤ q.at → ((q.at -ℤ p.at) *ℤ h) ≤ℤ (q.at *ℤ p.z -ℤ p.at *ℤ q.z) → EdgeOver p q h
across_over p q h lo hi apart le = record {
  u = q.at;
  v = neg_ℤ p.at;
  u_ok = hi;
  v_ok = not_negative p.at lo;
  some = sum_positive p.at q.at apart;
  on = cert.between_on p.at q.at;
  high = cert.between_high p.at q.at p.z q.z h le;
}
  where
    not_negative : (a : ℤ) → a ≤ℤ pos 0 → (pos 0) ≤ℤ neg_ℤ a
    not_negative a lo = omega (arith, ints)

    sum_positive : (a b : ℤ) → a <ℤ b → (pos 0) <ℤ (b +ℤ neg_ℤ a)
    sum_positive a b apart = omega (arith, ints)

pub before_none : (p q : LineCorner) (h : ℤ) → (pos 0) <ℤ p.at → p.at ≤ℤ q.at → EdgeOver p q h → ⊥
before_none p q h over rising e = cert.both_over p.at q.at e.u e.v e.u_ok e.v_ok e.some over rising e.on

pub after_none : (p q : LineCorner) (h : ℤ) → q.at <ℤ pos 0 → p.at ≤ℤ q.at → EdgeOver p q h → ⊥
after_none p q h under rising e = cert.both_under p.at q.at e.u e.v e.u_ok e.v_ok e.some under rising e.on

-- where both ends are on the column, the higher one counts
pub level_greatest : (p q : LineCorner) (m : ℤ) → p.at ≡ pos 0 → q.at ≡ pos 0 → m ≡ int_max p.z q.z → EdgeOver p q m × ((h : ℤ) → EdgeOver p q h → h ≤ℤ m)
level_greatest p q m pl ql e =
    let bounds = max_bounds p.z q.z m e in (
      elim (max_reached p.z q.z m e) [ inl l ↦ first_over p q m pl l | inr r ↦ second_over p q m ql r ],
      λ h k. cert.edge_under k.u k.v p.z q.z m h k.u_ok k.v_ok k.some bounds.0 bounds.1 k.high,
    )
  where
    max_bounds : (x y m : ℤ) → m ≡ int_max x y → (x ≤ℤ m) × (y ≤ℤ m)
    max_bounds x y m e = (omega (arith, ints, clamps), omega (arith, ints, clamps))

    max_reached : (x y m : ℤ) → m ≡ int_max x y → (m ≤ℤ x) ⊎ (m ≤ℤ y)
    max_reached x y m e = grind (arith, ints)

-- where the column lies between the ends, their rounded mean counts
pub between_greatest : (p q : LineCorner) (f : ℤ) → p.at ≤ℤ pos 0 → (pos 0) ≤ℤ q.at → p.at <ℤ q.at → IsFloor (q.at *ℤ p.z -ℤ p.at *ℤ q.z) (q.at -ℤ p.at) f
    → EdgeOver p q f × ((h : ℤ) → EdgeOver p q h → h ≤ℤ f)
between_greatest p q f lo hi apart floor = (
  across_over p q f lo hi apart floor.below,
  λ h e. cert.edge_greatest p.at q.at p.z q.z e.u e.v h f e.some apart e.on floor.next e.high,
)
