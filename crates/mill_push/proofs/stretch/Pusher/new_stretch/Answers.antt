use Rattle.std.proofs.Common.{[], ◌∷◌, rules, w32, arith}
use Rattle.std.proofs.lemmas.Int.{ints, to_z-of_z}
use Rattle.mill_push.proofs.Cutting.{all_known, in_one_of, new_answer, new_answer_beside, cost_of_rest, cost_with_room, spans_in_range}
use Rattle.mill_push.proofs.Stored.{stored, through}
use Rattle.mill_push.proofs.stretch.Pusher.new_stretch.Goals as goal

pub cut-rest-requires : goal.cut-rest-requires
cut-rest-requires g c = λ run member. spans_in_range c.args.from c.args.to c.args.known.now.runs.items c.requires.from_ok c.requires.to_ok c.requires.known run member

pub returns-then-rest-clause-stretch : goal.returns-then-rest-clause-stretch
returns-then-rest-clause-stretch g c =
    let window = rw (stored c.args.from c.requires.from_ok, stored c.args.to c.requires.to_ok) at c.window-window.ensures.window in
    let rest = c.cut-rest.result in
    let test = rw (to_z-of_z w32 rest.first (search rules), to_z-of_z w32 rest.last (search rules)) at c.if-rest.true in
    all_known c.args.self.cutter c.args.tri.now c.args.self.fiber c.args.from c.args.to c.args.known.now.runs.items c.window-window.result rest window c.cut-rest.ensures (omega (test, arith, ints))

pub returns-in_default-clause-stretch : goal.returns-in_default-clause-stretch
returns-in_default-clause-stretch g c =
    let window = rw (stored c.args.from c.requires.from_ok, stored c.args.to c.requires.to_ok) at c.window-window.ensures.window in
    let rest = c.cut-rest.result in
    let found = rw (to_z-of_z w32 rest.first (search rules), to_z-of_z w32 rest.last (search rules)) at c.stretch.ensures.stretch in
    new_answer c.args.self.cutter c.args.tri.now c.args.self.fiber c.args.from c.args.to c.args.known.now.runs.items c.window-window.result rest window c.cut-rest.ensures c.stretch.result found

pub returns-in_default-clause-cost : goal.returns-in_default-clause-cost
returns-in_default-clause-cost g c =
    let window = rw (stored c.args.from c.requires.from_ok, stored c.args.to c.requires.to_ok) at c.window-window.ensures.window in
    let rest = c.cut-rest.result in
    let first = to_z-of_z w32 rest.first (search rules) in
    let last = to_z-of_z w32 rest.last (search rules) in
    let cost = rw (first, last) at c.stretch.ensures.cost in
    let test = rw (first, last) at c.if-rest.false in
    let after = through c.args.from c.window-window.result.first rest.first window.after c.cut-rest.ensures.after in
    let within = through rest.last c.window-window.result.last c.args.to c.cut-rest.ensures.within window.within in
    cost_of_rest c.args.from c.args.to rest.first rest.last c.args.steps.now c.stretch.new.steps c.none.result.probes after (omega (test, arith, ints)) within c.none.ensures cost

pub returns-in-Some-run_inside-clause-stretch : goal.returns-in-Some-run_inside-clause-stretch
returns-in-Some-run_inside-clause-stretch g c =
    let window = rw (stored c.args.from c.requires.from_ok, stored c.args.to c.requires.to_ok) at c.window-window.ensures.window in
    let rest = c.cut-rest.result in
    let run = c.in-Some-run_inside.run' in
    let known = c.args.known.now.runs.items in
    new_answer_beside c.args.self.cutter c.args.tri.now c.args.self.fiber c.args.from c.args.to known c.window-window.result rest window c.cut-rest.ensures (run ∷ []) (in_one_of known run c.in-Some-run_inside.ensures.known) c.stretch_around.result c.stretch_around.ensures.stretch

pub returns-in-Some-run_inside-clause-cost : goal.returns-in-Some-run_inside-clause-cost
returns-in-Some-run_inside-clause-cost g c =
    let rest = c.cut-rest.result in
    let room = rw (stored c.args.from c.requires.from_ok, stored c.args.to c.requires.to_ok) at c.in-Some.ensures in
    cost_with_room c.args.from c.args.to rest c.args.steps.now c.stretch_around.new.steps c.at_most-aims.result.probes c.in-Some.spare c.at_most-aims.ensures room c.stretch_around.ensures.cost

pub returns-clause-stretch : goal.returns-clause-stretch
returns-clause-stretch g c =
    let window = rw (stored c.args.from c.requires.from_ok, stored c.args.to c.requires.to_ok) at c.window-window.ensures.window in
    let rest = c.cut-rest.result in
    let found = rw (to_z-of_z w32 rest.first (search rules), to_z-of_z w32 rest.last (search rules)) at c.stretch_from.ensures.stretch in
    new_answer c.args.self.cutter c.args.tri.now c.args.self.fiber c.args.from c.args.to c.args.known.now.runs.items c.window-window.result rest window c.cut-rest.ensures c.stretch_from.result found

pub returns-clause-cost : goal.returns-clause-cost
returns-clause-cost g c =
    let rest = c.cut-rest.result in
    let room = rw (stored c.args.from c.requires.from_ok, stored c.args.to c.requires.to_ok) at c.in-Some.ensures in
    let cost = rw (to_z-of_z w32 rest.first (search rules), to_z-of_z w32 rest.last (search rules)) at c.stretch_from.ensures.cost in
    cost_with_room c.args.from c.args.to rest c.args.steps.now c.stretch_from.new.steps c.at_most-aims.result.probes c.in-Some.spare c.at_most-aims.ensures room (λ n p. let h = cost n p in omega arith)
