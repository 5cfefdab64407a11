use Rattle.std.proofs.Common.{◌∙◌, ap, arith, sym, subst}
use Rattle.mill_board.specs.declared.work.Terms.{Terms}
use Rattle.mill_board.specs.Works.{FailsAt}
use Rattle.mill_board.specs.Seats.{SeatShown, BoardShown}
use Rattle.mill_board.proofs.Lowering.{lowers}
use Rattle.mill_board.proofs.board.Board.lower.Goals as goal

pub fetch_min-requires : goal.fetch_min-requires
fetch_min-requires g c =
    let W : Type 0 = g.row.W.Denot in
    let V : Type 0 = SeatShown W in
    let table = ap (λ (s : V). s.table) c.seat.view_is ∙ c.requires.seat.table ∙ sym (ap (λ (b : BoardShown W). b.table) c.self.view_is) in
    let words = c.self.invariant.words in
    let held = c.requires.held in
    let terms = ap (λ (s : V). s.view.terms) c.seat.view_is ∙ c.requires.seat.terms in
    let out = ap (λ (s : V). s.view.out) c.seat.view_is ∙ c.requires.out in
    let failure = subst (λ (t : Terms W). FailsAt g.W.Work.means t.work c.args.held.now.number c.args.held.now.next) (sym terms) (held.failed c.requires.failed).0 in
    (table, omega (arith, words), lowers g.W.Work.means c.self.inside.table.shared.key _ _ c.args.held.now.number c.args.held.now.next c.seat.inside.pass.me out failure)
