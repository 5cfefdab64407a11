use Rattle.std.proofs.Common.{◌-◌, length, slice_index_or, pos, arith}
use Rattle.mill_push.specs.declared.fiber.Fiber.{Fiber}
use Rattle.mill_push.proofs.Holds.{runs_hold_blocked}
use Rattle.mill_push.proofs.Sorting.{IfOk-more}
use Rattle.mill_push.proofs.Stored.{stored}
use Rattle.mill_level.specs.inner.Cuts.{BlockedOn}
use Rattle.mill_level.proofs.Blocking.{last_one, rises}
use Rattle.mill_level.proofs.Runs.{ascends}
use Rattle.mill_level.proofs.fiber.fiber_runs.Goals as goal

pub counted_runs-requires-clause-fiber_ok : goal.counted_runs-requires-clause-fiber_ok
counted_runs-requires-clause-fiber_ok c =
    rw (stored c.args.at c.requires.at_ok, stored c.args.cut.now.z c.requires.z_ok) (record { at_ok = c.requires.at_ok; z_ok = c.requires.z_ok })

pub counted_runs-requires-clause-order : goal.counted_runs-requires-clause-order
counted_runs-requires-clause-order c =
    let positions = c.args.positions.now in
    let ok = c.requires.positions_ok in
    let end = last_one (length positions) ok.some in
    rw (stored (slice_index_or positions 0 (pos 0)) (ok.within 0 (pos 0) ok.some), stored (slice_index_or positions (length positions - 1) (pos 0)) (ok.within (length positions - 1) (pos 0) end))
    (rises positions ok 0 (length positions - 1) (pos 0) (omega arith) end)

pub returns : goal.returns
returns c =
    let positions = c.args.positions.now in
    let ok = c.requires.positions_ok in
    let from = ok.within 0 (pos 0) ok.some in
    let to = ok.within (length positions - 1) (pos 0) (last_one (length positions) ok.some) in
    let first = slice_index_or positions 0 (pos 0) in
    let last = slice_index_or positions (length positions - 1) (pos 0) in
    let cut = c.args.cut.now in
    let fiber : Fiber = record { axis = c.args.axis; at = c.args.at; z = cut.z } in
    let found = rw (stored c.args.at c.requires.at_ok, stored cut.z c.requires.z_ok, stored first from, stored last to) at c.counted_runs.ensures.runs in
    record {
      ascending = IfOk-more c.counted_runs.result _ _ (λ runs h. ascends (BlockedOn cut c.args.axis c.args.at) last first runs.items h from to) found;
      blocked = IfOk-more c.counted_runs.result _ _ (λ runs h v. runs_hold_blocked cut.tool cut.part.now fiber first last v runs.items h) found;
    }
