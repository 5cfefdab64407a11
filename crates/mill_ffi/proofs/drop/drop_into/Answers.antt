use Rattle.std.proofs.Common.{sym, subst, rules, ◌≡◌}
use Rattle.std.specs.Prelude.{Option, Some, IsSomeAnd}
use Rattle.mill_base.specs.declared.tool.Tool.{Tool}
use Rattle.mill_ffi_data.specs.Raw.{tool_of, tris_of}
use Rattle.mill_ffi.specs.Asked.{AreHeightsAt}
use Rattle.mill_ffi.proofs.drop.drop_into.Goals as goal

pub returns-clause-done : goal.returns-clause-done
returns-clause-done c =
    let same : tool_of c.args.tool.now ≡ Some c.in-Ok.cutting = c.in-Ok.ensures.tool in
    let heights : AreHeightsAt c.in-Ok.cutting (tris_of c.args.triangles.now) c.args.floor c.args.places.now c.drop_all.new.heights = search rules in
    subst (λ (o : Option Tool). IsSomeAnd o (λ t. AreHeightsAt t (tris_of c.args.triangles.now) c.args.floor c.args.places.now c.drop_all.new.heights)) (sym same) heights
