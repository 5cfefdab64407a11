use Rattle.std.proofs.Common.{inl, inr}
use Rattle.mill_geom.proofs.Signs.{up_as, up_back, down_as, down_back}
use Rattle.mill_geom.proofs.Kept.{area_kept, volume_kept}
use Rattle.mill_geom.proofs.triangle.is_pierced.Goals as goal

pub returns-then-all_up-clause-yes : goal.returns-then-all_up-clause-yes
returns-then-all_up-clause-yes c = λ h.
    let i_kept = area_kept c.cross-i.result c.cross-i.ensures.bound in
    let j_kept = area_kept c.cross-j.result c.cross-j.ensures.bound in
    let k_kept = area_kept c.cross-k.result c.cross-k.ensures.bound in
    let v_kept = volume_kept c.volume-volume.result c.volume-volume.ensures.bound in
    inl (up_as _ _ _ _ c.args.a c.args.b c.args.c c.cross-i.ensures.value c.cross-j.ensures.value c.cross-k.ensures.value c.volume-volume.ensures.value
    (rw (i_kept, j_kept, k_kept, v_kept) at (c.all_up.ensures.yes c.if-all_up.true)))

pub returns-clause-yes : goal.returns-clause-yes
returns-clause-yes c = λ h.
    let i_kept = area_kept c.cross-i.result c.cross-i.ensures.bound in
    let j_kept = area_kept c.cross-j.result c.cross-j.ensures.bound in
    let k_kept = area_kept c.cross-k.result c.cross-k.ensures.bound in
    let v_kept = volume_kept c.volume-volume.result c.volume-volume.ensures.bound in
    inr (down_as _ _ _ _ c.args.a c.args.b c.args.c c.cross-i.ensures.value c.cross-j.ensures.value c.cross-k.ensures.value c.volume-volume.ensures.value
    (rw (i_kept, j_kept, k_kept, v_kept) at (c.all_down.ensures.yes h)))

pub returns-clause-no : goal.returns-clause-no
returns-clause-no c = λ h t.
    let i_kept = area_kept c.cross-i.result c.cross-i.ensures.bound in
    let j_kept = area_kept c.cross-j.result c.cross-j.ensures.bound in
    let k_kept = area_kept c.cross-k.result c.cross-k.ensures.bound in
    let v_kept = volume_kept c.volume-volume.result c.volume-volume.ensures.bound in
    let not_up = rw (i_kept, j_kept, k_kept, v_kept) at (c.all_up.ensures.no c.if-all_up.false) in
    let not_down = rw (i_kept, j_kept, k_kept, v_kept) at (c.all_down.ensures.no h) in
    elim t [
      | inl up ↦ not_up (up_back _ _ _ _ c.args.a c.args.b c.args.c c.cross-i.ensures.value c.cross-j.ensures.value c.cross-k.ensures.value c.volume-volume.ensures.value up)
      | inr down ↦ not_down (down_back _ _ _ _ c.args.a c.args.b c.args.c c.cross-i.ensures.value c.cross-j.ensures.value c.cross-k.ensures.value c.volume-volume.ensures.value down)
    ]
