use Rattle.std.proofs.Common.{subst₂}
use Rattle.mill_geom.specs.declared.extent.Corner.{Corner}
use Rattle.mill_geom.specs.inner.Edges.{IsPartOver}
use Rattle.mill_geom.proofs.Extents.{extent_joined}
use Rattle.mill_base.proofs.Ranges.{coordinate}
use Rattle.mill_geom.proofs.extent.extent_over.Goals as goal

pub returns-clause-extent : goal.returns-clause-extent
returns-clause-extent c =
    let z = coordinate c.args.z c.requires.z_ok in
    let a = rw z at c.corner_at-a.ensures.value in
    let b = rw z at c.corner_at-b.ensures.value in
    let c' = rw z at c.corner_at-c.ensures.value in
    let ab = subst₂ (λ (p q : Corner). IsPartOver p q c.edge_over.result) a b c.edge_over.ensures.part in
    let bc = subst₂ (λ (p q : Corner). IsPartOver p q c.edge_over-2.result) b c' c.edge_over-2.ensures.part in
    let ca = subst₂ (λ (p q : Corner). IsPartOver p q c.edge_over-3.result) c' a c.edge_over-3.ensures.part in
    extent_joined c.args.axis c.args.z c.args.tri.now c.edge_over.result c.edge_over-2.result c.edge_over-3.result c.around.result c.around-2.result ab bc ca
    c.around.ensures.first c.around.ensures.second c.around-2.ensures.first c.around-2.ensures.second
