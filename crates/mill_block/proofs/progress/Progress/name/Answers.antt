use Rattle.std.proofs.Common.{◌≡◌, ◌||◌, true, false, rules, refl}
use Rattle.std.specs.Prelude.{not}
use Rattle.mill_control.specs.Offsets.{may_name, named}
use Rattle.mill_control.specs.Places.{allows, behind}
use Rattle.mill_block.specs.MachineLines.{is_before_tool, names_height, naming_of, parks, place_of}
use Rattle.mill_block.specs.MachineSettings.{has_lengths}
use Rattle.mill_block.proofs.KeptLemmas.{named_so}
use Rattle.mill_block.proofs.progress.Progress.name.Goals as goal

pub returns-clause-ok : goal.returns-clause-ok
returns-clause-ok c =
    let p = c.args.self.now in
    let s = c.args.said.now in
    let mid = c.act_in_mode.new.self in
    let late : p.machine.late ≡ false = search rules in
    let may : allows (place_of p) (naming_of p s) ≡ true = search rules in
    let names : may_name p.machine.named p.machine.offsets (names_height p.machine.cycle s) (parks s) ≡ true = search rules in
    let lengths : has_lengths p ≡ true = search rules in
    let absolute : p.absolute ≡ true = search rules in
    let place : c.behind-self.result ≡ behind (place_of p) (naming_of p s) = search rules in
    let under : c.behind-self-2.result ≡ named mid.machine.named mid.machine.offsets (names_height p.machine.cycle s) (parks s) = search rules in
    let counts : c.if-self-2.self ≡ (mid.machine.has_named || not (is_before_tool p (naming_of p s))) = search rules in
    named_so c.args.control p mid _ s c.finer_behind-finer.result c.args.out.now.items c.act_in_mode.new.out.items c.in_ok-act_in_mode.ensures.ok
    (c.finer_behind-finer.ensures.exact c.args.control) late may names lengths absolute (rw (place, under, counts) refl)
