use Rattle.std.proofs.Common.{◌≡◌, Bool, true, false, [], List, ◌∷◌, ◌++◌, refl, sym, ap, subst, ◌∙◌}
use Rattle.std.specs.Prelude.{◌&&◌, ◌==◌}
use Rattle.std.proofs.lemmas.Bool.{and_from, eq-eqb}
use Rattle.mill_geom.specs.declared.touch.Axis.{Axis}
use Rattle.mill_geom.specs.declared.touch.Axis.TheVariants.{X, Y}
use Rattle.mill_geom.specs.contracts.touch.Axis.{the_type}
use denote.Enum.Bare.{sameb}
use Rattle.mill_level.specs.declared.edge.Edge.{Edge}
use Rattle.mill_level.specs.inner.Maps.{grid_of}
use Rattle.mill_level.specs.inner.Trails.{is_passed}
use Rattle.mill_level.specs.inner.Ways.{GoesBack}
use Rattle.mill_level.proofs.Edges.{crossing_has_edge}
use Rattle.mill_level.proofs.Marking.{fewer_left, not_both}
use Rattle.mill_level.proofs.Tracks.{first_kept, goes_back, keeps_back, last_crosses, leads_to_new, track_one, track_push}
use Rattle.mill_level.proofs.trace.go_back.Goals as goal

same_axis : (x : Axis) → sameb the_type x x ≡ true
same_axis X = refl
same_axis Y = refl

-- the test found them different
differ : (a b : Edge) (r : Bool) → r ≡ ((a.column == b.column) && ((a.row == b.row) && sameb the_type a.axis b.axis)) → r ≡ false → a ≡ b → ⊥
differ a b r e off same =
    let self : ((a.column == a.column) && ((a.row == a.row) && sameb the_type a.axis a.axis)) ≡ true =
    and_from _ _ (eq-eqb a.column a.column refl) (and_from _ _ (eq-eqb a.row a.row refl) (same_axis a.axis)) in
    not_both r (e ∙ subst (λ (x : Edge). ((a.column == x.column) && ((a.row == x.row) && sameb the_type a.axis x.axis)) ≡ true) same self) off

pub loop-before-init : goal.loop-before-init
loop-before-init c =
    let edges : c.pass.new.edges.items ≡ c.args.start ∷ [] = c.in_ok-pass.ensures.edges ∙ ap (λ (es : List Edge). es ++ c.args.start ∷ []) c.requires.empty in
    let one = track_one c.args.map.now c.args.passed.now.items (GoesBack (grid_of c.args.map.now)) c.args.start
    c.requires.start_ok.marks.size c.requires.start_ok.crosses c.requires.start_ok.unmarked in
    rw (edges, c.in_ok-pass.ensures.marks) (record { track = one; starts = λ d. refl })

pub before-requires-clause-edge_ok : goal.before-requires-clause-edge_ok
before-requires-clause-edge_ok c = last_crosses _ _ _ _ _ _ c.loop-before.invariant.track

-- the crossing before the last one, which is not the first, has no mark yet
unmarked : (c : goal.In_ok-pass-2) → is_passed c.args.map.now c.loop-before.passed.items c.in-Some.before ≡ false
unmarked c =
    let grid = grid_of c.args.map.now in
    leads_to_new _ _ _ _ _ _ c.loop-before.invariant.track (goes_back grid) (keeps_back c.args.map.now c.args.passed.now.items c.requires.start_ok.marks)
    c.in-Some.before c.in-Some.ensures
    (λ d at. differ c.in-Some.before c.args.start c.eq.result c.eq.ensures c.if-eq.false (sym at ∙ c.loop-before.invariant.starts d))

pub loop-before-smaller : goal.loop-before-smaller
loop-before-smaller c =
    let crossing = (goes_back (grid_of c.args.map.now)).crosses c.loop-before.edge c.in-Some.before c.in-Some.ensures in
    rw c.in_ok-pass-2.ensures.marks (fewer_left c.args.map.now c.loop-before.passed.items c.loop-before.invariant.track.size c.in-Some.before
    (crossing_has_edge (grid_of c.args.map.now) c.in-Some.before crossing) (unmarked c))

pub loop-before-preserved : goal.loop-before-preserved
loop-before-preserved c =
    let crossing = (goes_back (grid_of c.args.map.now)).crosses c.loop-before.edge c.in-Some.before c.in-Some.ensures in
    rw (c.in_ok-pass-2.ensures.edges, c.in_ok-pass-2.ensures.marks) (record {
      track = track_push _ _ _ _ _ _ c.loop-before.invariant.track c.in-Some.before c.in-Some.ensures crossing (unmarked c);
      starts = first_kept _ _ _ _ _ _ c.loop-before.invariant.track c.in-Some.before c.args.start c.loop-before.invariant.starts;
    })
