-- The search for an end of a triangle's stretch: what touches near its aim leave, and what halving finds in that.
use Rattle.std.proofs.Common.{ℕ, ◌+◌, ◌*◌, ◌<◌, ◌≤◌, subst, inl, inr, arith}
use Rattle.std.specs.Prelude.{◌^◌, nat_abs}
use Rattle.std.proofs.lemmas.Int.{ints}
use lib.IntN.{ℤ, pos, ◌+ℤ◌, ◌-ℤ◌, ◌*ℤ◌}
use lib.Signed.{◌<ℤ◌, ◌≤ℤ◌}
use Rattle.mill_base.specs.Numbers.{Within}
use Rattle.mill_base.specs.declared.limits.TheConstants.{MAX_COORDINATE}
use Rattle.mill_base.specs.declared.points.Tri.{Tri}
use Rattle.mill_base.specs.declared.cutter.Cutter.{Cutter}
use Rattle.mill_push.specs.declared.fiber.Fiber.{Fiber}
use Rattle.mill_push.specs.declared.probe.Way.{Way}
use Rattle.mill_push.specs.declared.probe.Way.TheVariants.{Back, On}
use Rattle.mill_push.specs.declared.probe.Search.{Search}
use Rattle.mill_push.specs.declared.probe.Left.{Left}
use Rattle.mill_push.specs.Fibers.{IsTouched}
use Rattle.mill_push.specs.inner.Probes.{IsCut, IsFirstEnd, IsLastEnd, IsLeft, IsSearch, left_of, place_from, place_in}
use Rattle.mill_push.proofs.Means.{touched_between}

abbrev pub search_of : Way → ℤ → ℤ → Search
search_of way found limit = record { way = way; found = found; limit = limit }

pub back_ok : (low found : ℤ) → Within MAX_COORDINATE low → Within MAX_COORDINATE found → low ≤ℤ found → IsSearch (search_of Back found (found -ℤ low))
back_ok low found h k order = record {
  found_ok = k;
  some = omega (arith, ints);
  most = let a = h.within in let b = k.within in omega (arith, ints);
  end_ok = subst (λ v. Within MAX_COORDINATE v) (omega (arith, ints)) h;
}

pub on_ok : (found high : ℤ) → Within MAX_COORDINATE found → Within MAX_COORDINATE high → found ≤ℤ high → IsSearch (search_of On found (high -ℤ found))
on_ok found high h k order = record {
  found_ok = h;
  some = omega (arith, ints);
  most = let a = h.within in let b = k.within in omega (arith, ints);
  end_ok = subst (λ v. Within MAX_COORDINATE v) (omega (arith, ints)) k;
}

module _ (cutter : Cutter) (tri : Tri) (fiber : Fiber) where
  abbrev T : ℤ → Type 0
  T v = IsTouched cutter tri fiber v

  -- the count 0 is that of the position where the search begins
  at_none : (way : Way) (found : ℤ) → T found → T (place_from way found (pos 0))
  at_none Back found t = subst T (omega (arith, ints)) t
  at_none On found t = subst T (omega (arith, ints)) t

  -- between two counts at which the triangle is touched it is touched everywhere
  counts_between : (way : Way) (found a k b : ℤ) → a ≤ℤ k → k ≤ℤ b → T (place_from way found a) → T (place_from way found b) → T (place_from way found k)
  counts_between Back found a k b h l s t = touched_between cutter tri fiber (found -ℤ b) (found -ℤ k) (found -ℤ a) (omega (arith, ints)) (omega (arith, ints)) t s
  counts_between On found a k b h l s t = touched_between cutter tri fiber (found +ℤ a) (found +ℤ k) (found +ℤ b) (omega (arith, ints)) (omega (arith, ints)) s t

  -- before the first touch
  pub left_starts : (search : Search) → IsSearch search → T search.found → IsLeft cutter tri fiber search (left_of (pos 0) search.limit)
  left_starts search h t = record {
    from = omega (arith, ints);
    order = h.some;
    to = omega (arith, ints);
    touched = at_none search.way search.found t;
    clear = λ k a b. absurd (omega (a, b, arith, ints));
  }

  -- a touch at a count that is left finds the triangle
  pub left_inside : (search : Search) (left : Left) (at : ℤ) → left.held <ℤ at → at ≤ℤ left.free → T (place_in search at) → IsLeft cutter tri fiber search left → IsLeft cutter tri fiber search (left_of at left.free)
  left_inside search left at a b t h = record {
    from = let f = h.from in omega (arith, ints);
    order = b;
    to = h.to;
    touched = t;
    clear = h.clear;
  }

  -- it doesn't: then none does from there on, and `next` is the count before
  pub left_apart : (search : Search) (left : Left) (at : ℤ) → left.held <ℤ at → at ≤ℤ left.free → ¬ T (place_in search at) → IsLeft cutter tri fiber search left → IsLeft cutter tri fiber search (left_of left.held (at -ℤ pos 1))
  left_apart search left at a b none h = record {
    from = h.from;
    order = omega (arith, ints);
    to = let t = h.to in omega (arith, ints);
    touched = h.touched;
    clear = λ k c d t. none (counts_between search.way search.found left.held at k (omega (arith, ints)) (omega (arith, ints)) h.touched t);
  }

  -- nothing is left
  pub left_ends : (search : Search) (left : Left) → left.free ≤ℤ left.held → IsLeft cutter tri fiber search left → IsLeft cutter tri fiber search (left_of left.held left.held)
  left_ends search left done h =
      let a = h.order in let b = h.to in
      record { from = h.from; order = omega (arith, ints); to = omega (arith, ints); touched = h.touched; clear = λ k u v. h.clear k (omega (arith, ints)) v }

  -- the end's count is that of the first position, where it is counted back, and of the last one, where it is counted on
  pub first_end : (low found k : ℤ) → T found → IsLeft cutter tri fiber (search_of Back found (found -ℤ low)) (left_of k k) → IsFirstEnd cutter tri fiber low found (found -ℤ k)
  first_end low found k t h = let a = h.from in let b = h.to in record {
    after = omega (arith, ints);
    before = omega (arith, ints);
    held = λ v u w. touched_between cutter tri fiber (found -ℤ k) v found u w h.touched t;
    clear = λ v u w s. h.clear (found -ℤ v) (omega (arith, ints)) (omega (arith, ints)) (subst T (omega (arith, ints)) s);
  }

  pub last_end : (found high k : ℤ) → T found → IsLeft cutter tri fiber (search_of On found (high -ℤ found)) (left_of k k) → IsLastEnd cutter tri fiber found high (found +ℤ k)
  last_end found high k t h = let a = h.from in let b = h.to in record {
    after = omega (arith, ints);
    before = omega (arith, ints);
    held = λ v u w. touched_between cutter tri fiber found v (found +ℤ k) u w t h.touched;
    clear = λ v u w s. h.clear (v -ℤ found) (omega (arith, ints)) (omega (arith, ints)) (subst T (omega (arith, ints)) s);
  }

  -- the touches near the aim, and those by halves
  pub near_cost : (search : Search) (left : Left) (old now new probes : ℕ) → IsLeft cutter tri fiber search left → now ≤ old + probes
      → ((n : ℕ) → nat_abs (left.free -ℤ left.held) < 2 ^ n → new ≤ now + n) → (n : ℕ) → nat_abs search.limit < 2 ^ n → new ≤ old + (n + probes)
  near_cost search left old now new probes h near halves n under =
      let a = h.from in let b = h.order in let c = h.to in
      let fewer : nat_abs (left.free -ℤ left.held) ≤ nat_abs search.limit = omega (arith, ints) in
      let k = halves n (omega arith) in
      omega arith

-- a touch in the middle leaves at most half of what was left
pub cut_half : (left result : Left) (at : ℤ) → (left.held +ℤ pos 1) ≤ℤ at → at ≤ℤ left.free → (pos 2 *ℤ (at -ℤ (left.held +ℤ pos 1))) ≤ℤ (left.free -ℤ (left.held +ℤ pos 1))
    → (pos 2 *ℤ (left.free -ℤ at)) ≤ℤ ((left.free -ℤ (left.held +ℤ pos 1)) +ℤ pos 1) → IsCut left at result
    → (0 < nat_abs (left.free -ℤ left.held)) × (2 * nat_abs (result.free -ℤ result.held) ≤ nat_abs (left.free -ℤ left.held))
cut_half left result at a b before beyond (inl e) = rw e (omega (arith, ints), omega (arith, ints))
cut_half left result at a b before beyond (inr e) = rw e (omega (arith, ints), omega (arith, ints))
