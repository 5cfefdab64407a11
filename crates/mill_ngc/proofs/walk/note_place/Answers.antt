use Rattle.std.proofs.Common.{◌≡◌, ◌+◌, ◌∷◌, ◌++◌, [], length, ap, ◌∙◌, arith}
use Rattle.std.proofs.lemmas.List.{length_push}
use Rattle.mill_ngc.proofs.WalkLemmas.{noted_more}
use Rattle.mill_ngc.proofs.walk.note_place.Goals as goal

pub loop-place-preserved : goal.loop-place-preserved
loop-place-preserved c =
    let old = c.args.places.now.items in
    let here = c.loop-place.places.items in
    let pushed : c.push.new.self.items ≡ here ++ c.args.place ∷ [] = c.in_ok-push.ensures.items in
    let long : length c.push.new.self.items ≡ length here + 1 = ap length pushed ∙ length_push here c.args.place in
    record {
      few = omega (arith, long);
      more = omega (arith, long, c.loop-place.invariant.more);
      are = noted_more old here c.push.new.self.items c.args.place c.loop-place.invariant.are pushed c.loop-place.invariant.more;
    }
