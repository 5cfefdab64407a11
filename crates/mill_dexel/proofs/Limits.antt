-- A feed straight down from a move's end, by at most the greatest depth of cut, passes every column as low as it may cut.
use Rattle.std.specs.Prelude.{◌≡◌, ℤ, pos, ◌+ℤ◌, ◌-ℤ◌, ◌*ℤ◌, ◌≤ℤ◌}
use Rattle.std.proofs.Common.{subst, sym, arith}
use Rattle.std.proofs.lemmas.Int.{ints}
use Rattle.mill_job.proofs.SolidFacts.{stock_lift, stock_solid_ok}
use Rattle.mill_base.proofs.SolidLemmas.{higher_once}
use Rattle.mill_job.specs.Solids.{stock_solid_of}
use Rattle.mill_base.specs.Solids.{higher, lifted, solid_tip}
use Rattle.mill_base.specs.Points.{point_at}
use Rattle.mill_base.specs.declared.points.Pt3.{Pt3}
use Rattle.mill_base.specs.declared.motion.Move.{Move}
use Rattle.mill_base.specs.declared.cutter.Cutter.{Cutter}
use Rattle.mill_sweep.specs.Solids.{SolidPassesPoint}
use Rattle.mill_sweep.specs.Vertical.{StaysOver}
use Rattle.mill_sweep.proofs.Vertical.{vertical_passes_point}
use Rattle.mill_dexel.specs.Tops.{top_after}
use Rattle.mill_dexel.specs.Laws.{PassesLimitAfterCut}
use Rattle.mill_dexel.proofs.Cleared.{IsFreeAt, free_under_tip, greater_is, solid_stays_over, stock_solid_free}

-- a cutter that is free of a column at a height is free of it where both lie this much lower
free_below : (cutter : Cutter) (t : Pt3) (x y h drop : ℤ) → IsFreeAt cutter t x y h → IsFreeAt cutter (point_at t.x t.y (t.z -ℤ drop)) x y (h -ℤ drop)
free_below cutter t x y h drop free held =
    free (rw (same h t.z drop) at held)
  where
    same : (a b d : ℤ) → (pos 1 *ℤ (a -ℤ d)) -ℤ (pos 1 *ℤ (b -ℤ d)) ≡ (pos 1 *ℤ a) -ℤ (pos 1 *ℤ b)
    same a b d = omega (arith, ints)

-- a move that stays over a place and over the floor stays over the floor under that place
over_floor : (p : Pt3) (m : Move) (floor : ℤ) → floor ≤ℤ m.from.z → floor ≤ℤ m.to.z → StaysOver p m → StaysOver (point_at p.x p.y floor) m
over_floor p m floor from to over = record {
  from = record { x_same = over.from.x_same; y_same = over.from.y_same; z_least = from };
  to = record { x_same = over.to.x_same; y_same = over.to.y_same; z_least = to };
}

pub passes_limit_after_cut : PassesLimitAfterCut
passes_limit_after_cut job moves m next x y ok member low from to straight over =
    let top = top_after job x y moves in
    let solid = stock_solid_of job in
    let lower = point_at m.to.x m.to.y (m.to.z -ℤ job.max_cut) in
    let ground = point_at m.to.x m.to.y job.floor in
    greater_is (λ h. SolidPassesPoint solid next (point_at x y h)) job.floor (top -ℤ job.max_cut)
    (vertical_passes_point solid.cutter (lifted solid next) (point_at x y job.floor) (solid_tip solid (pos 1) ground) straight (solid_stays_over solid ground next (over_floor lower next job.floor from to over))
    (free_under_tip solid.cutter (solid_tip solid (pos 1) ground) x y job.floor (stock_solid_ok job ok).cutter_ok (above job.floor)))
    (vertical_passes_point solid.cutter (lifted solid next) (point_at x y (top -ℤ job.max_cut)) (solid_tip solid (pos 1) lower) straight (solid_stays_over solid lower next over)
    (subst (λ (z : ℤ). IsFreeAt solid.cutter (point_at m.to.x m.to.y z) x y (top -ℤ job.max_cut)) (sym (as_low m.to.z job.max_cut))
    (free_below solid.cutter (solid_tip solid (pos 1) m.to) x y top job.max_cut (stock_solid_free job moves m x y ok member low))))
  where
    above : (a : ℤ) → a ≤ℤ higher (pos 1) a (stock_solid_of job).lift
    above a = rw (higher_once a (stock_solid_of job).lift) (up a (stock_solid_of job).lift (stock_lift job ok))
      where
        up : (a l : ℤ) → (pos 0) ≤ℤ l → a ≤ℤ (a +ℤ l)
        up a l h = omega (h, arith, ints)

    as_low : (z c : ℤ) → higher (pos 1) (z -ℤ c) (stock_solid_of job).lift ≡ higher (pos 1) z (stock_solid_of job).lift -ℤ c
    as_low z c = rw (higher_once (z -ℤ c) (stock_solid_of job).lift, higher_once z (stock_solid_of job).lift) (swapped z c (stock_solid_of job).lift)
      where
        swapped : (z c l : ℤ) → ((z -ℤ c) +ℤ l) ≡ ((z +ℤ l) -ℤ c)
        swapped z c l = omega (arith, ints)
