use Rattle.std.proofs.Common.{◌≡◌, ◌≤◌, false, ap, sym, length, ◌∙◌, arith, rules}
use Rattle.std.proofs.lemmas.List.{take_all}
use Rattle.std.proofs.lemmas.List.Folds.{list_all-map, list_all_at}
use Rattle.std.specs.List.{list_all}
use Rattle.mill_arc.specs.declared.chords.Chord.{Chord}
use Rattle.mill_base.specs.declared.points.Pt3.{Pt3}
use Rattle.mill_block.specs.MachineArcs.{chord_end}
use Rattle.mill_block.specs.MachineLines.{is_in_range}
use Rattle.mill_block.proofs.progress.Progress.are_in_range.Goals as goal

pub returns-then-not-is_in_range : goal.returns-then-not-is_in_range
returns-then-not-is_in_range c =
    let p = c.args.self.now in
    let end : Chord → Pt3 = chord_end p.machine.plane c.args.sweep in
    let not_in : c.is_in_range.result ≡ false = search rules in
    let off = sym (ap (λ q. is_in_range p.unit q) c.chord_end.ensures) ∙ sym c.is_in_range.ensures ∙ not_in in
    sym (list_all-map (is_in_range p.unit) end c.args.chords.now
    ∙ list_all_at (λ chord. is_in_range p.unit (end chord)) c.args.chords.now c.loop-chord.chord-index _ (search (rules, arith)) off)

pub returns : goal.returns
returns c =
    let p = c.args.self.now in
    let end : Chord → Pt3 = chord_end p.machine.plane c.args.sweep in
    let over : length c.args.chords.now ≤ c.loop-chord.chord-index = search (rules, arith) in
    sym (list_all-map (is_in_range p.unit) end c.args.chords.now
    ∙ ap (λ cs. list_all (λ chord. is_in_range p.unit (end chord)) cs) (sym (take_all c.loop-chord.chord-index c.args.chords.now over))
    ∙ c.loop-chord.invariant)
