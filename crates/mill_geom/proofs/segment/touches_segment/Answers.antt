use Rattle.std.proofs.Common.{◌≡◌, ◌↔◌, arith}
use lib.IntN.{ℤ, pos}
use lib.Signed.{◌<ℤ◌, ◌≤ℤ◌}
use Rattle.std.proofs.lemmas.Int.{ints}
use Rattle.std.proofs.lemmas.Bool.{false≢true}
use Rattle.mill_geom.specs.declared.offset.Offset.{Offset}
use Rattle.mill_geom.specs.Forms.{PairHits, form_of}
use Rattle.mill_geom.specs.Contacts.{TouchesSegment}
use Rattle.mill_geom.proofs.Segments.{up_hits, down_misses, turned}
use Rattle.mill_geom.proofs.Kept.{radius_kept, place_kept, form_kept}
use Rattle.mill_geom.proofs.segment.touches_segment.Goals as goal

through : {T : Type 0} (r : ℤ) (p q : Offset) (a h b : ℤ) → (pos 0) <ℤ p.z → (pos 0) ≤ℤ q.z → a ≡ form_of r p p → h ≡ form_of r p q → b ≡ form_of r q q → (T ↔ PairHits a h b) → T ↔ TouchesSegment r p q
through r p q a h b up level ea eh eb t =
    let k = up_hits r p q up level in
    let s = rw (ea, eh, eb) at t in
    (λ x. k.0 (s.0 x), λ x. s.1 (k.1 x))

swapped : {T : Type 0} (r : ℤ) (p q : Offset) → (T ↔ TouchesSegment r q p) → T ↔ TouchesSegment r p q
swapped r p q t = (λ x. turned r q p (t.0 x), λ x. t.1 (turned r p q x))

pub returns-then-q-lt0 : goal.returns-then-q-lt0
returns-then-q-lt0 c = let kr = radius_kept c.args.radius c.requires.r_ok in rw kr at c.touches_across.ensures

pub returns-then-p-gt0 : goal.returns-then-p-gt0
returns-then-p-gt0 c =
    let kr = radius_kept c.args.radius c.requires.r_ok in
    let kz = place_kept c.args.p.z c.requires.p_ok.z_ok in
    let kw = place_kept c.args.q.z c.requires.q_ok.z_ok in
    let ka = form_kept c.form.result c.form.ensures.bound in
    let kh = form_kept c.form-then-p-gt0.result c.form-then-p-gt0.ensures.bound in
    let kb = form_kept c.form-then-p-gt0-2.result c.form-then-p-gt0-2.ensures.bound in
    let f = rw kz at c.if-p-gt0.true in
    let g = rw kw at c.if-q-lt0.false in
    through c.args.radius c.args.p c.args.q c.form.result c.form-then-p-gt0.result c.form-then-p-gt0-2.result (omega (arith, ints)) (omega (arith, ints)) (rw kr at c.form.ensures.value) (rw kr at c.form-then-p-gt0.ensures.value) (rw kr at c.form-then-p-gt0-2.ensures.value) (rw (ka, kh, kb) at c.pair_hits.ensures)

pub returns-then-q-le0 : goal.returns-then-q-le0
returns-then-q-le0 c =
    let kz = place_kept c.args.p.z c.requires.p_ok.z_ok in
    let kw = place_kept c.args.q.z c.requires.q_ok.z_ok in
    let f = rw kz at c.if-p-gt0.false in
    let g = rw kw at c.if-q-le0.true in
    (λ x. absurd (false≢true x), λ x. absurd (down_misses c.args.radius c.args.p c.args.q (omega (arith, ints)) (omega (arith, ints)) x))

pub returns-then-p-lt0 : goal.returns-then-p-lt0
returns-then-p-lt0 c = let kr = radius_kept c.args.radius c.requires.r_ok in swapped c.args.radius c.args.p c.args.q (rw kr at c.touches_across-then-p-lt0.ensures)

pub returns : goal.returns
returns c =
    let kr = radius_kept c.args.radius c.requires.r_ok in
    let kz = place_kept c.args.p.z c.requires.p_ok.z_ok in
    let kw = place_kept c.args.q.z c.requires.q_ok.z_ok in
    let ka = form_kept c.form-2.result c.form-2.ensures.bound in
    let kh = form_kept c.form-3.result c.form-3.ensures.bound in
    let kb = form_kept c.form-4.result c.form-4.ensures.bound in
    let f = rw kz at c.if-p-lt0.false in
    let g = rw kw at c.if-q-le0.false in
    swapped c.args.radius c.args.p c.args.q (through c.args.radius c.args.q c.args.p c.form-2.result c.form-3.result c.form-4.result (omega (arith, ints)) (omega (arith, ints)) (rw kr at c.form-2.ensures.value) (rw kr at c.form-3.ensures.value) (rw kr at c.form-4.ensures.value) (rw (ka, kh, kb) at c.pair_hits-2.ensures))
