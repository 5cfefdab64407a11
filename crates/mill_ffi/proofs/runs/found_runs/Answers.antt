use Rattle.std.proofs.Common.{rules, ◌≡◌, ◌+◌, ◌∙◌, ap}
use Rattle.std.specs.Prelude.{pos, [], ◌∷◌, ◌++◌, length, map, take, slice_index_or}
use Rattle.std.proofs.lemmas.List.{take_all, take_more}
use Rattle.mill_ffi_data.specs.declared.raw.RawFiber.{RawFiber}
use Rattle.mill_ffi.specs.Fibers.{IsRunsOf, run_of}
use Rattle.mill_ffi.proofs.Fibers.{length-counts, runs_more}
use Rattle.mill_ffi.proofs.runs.found_runs.Goals as goal

pub loop-raw-preserved : goal.loop-raw-preserved
loop-raw-preserved c =
    let none : RawFiber = record { axis = pos 0; at = pos 0; z = pos 0; first = pos 0; last = pos 0 } in
    let before = take c.loop-raw.raw-index c.args.fibers.now in
    let fiber : RawFiber = slice_index_or c.args.fibers.now c.loop-raw.raw-index none in
    let counted : c.push.new.self.items ≡ c.loop-raw.counts.items ++ length c.in_ok-found.found.items ∷ [] = search rules in
    let added : map run_of c.add_runs.new.runs.items ≡ map run_of c.loop-raw.runs.items ++ c.in_ok-found.found.items = search rules in
    let here : IsRunsOf c.args.tool.now c.args.part fiber c.in_ok-found.found.items = search rules in
    runs_more c.args.tool.now c.args.part (take (c.loop-raw.raw-index + 1) c.args.fibers.now) before fiber c.loop-raw.counts.items c.push.new.self.items c.loop-raw.runs.items c.add_runs.new.runs.items c.in_ok-found.found.items (take_more c.args.fibers.now c.loop-raw.raw-index none c.loop-raw-test.true) counted added c.loop-raw.invariant here

pub returns-clause-count : goal.returns-clause-count
returns-clause-count c =
    length-counts c.args.tool.now c.args.part (take c.loop-raw.raw-index c.args.fibers.now) c.loop-raw.counts.items c.loop-raw.runs.items c.loop-raw.invariant ∙ ap length (take_all c.loop-raw.raw-index c.args.fibers.now c.loop-raw-test.false)
