use Rattle.std.proofs.Common.{◌∙◌, ap, arith, sym}
use Rattle.mill_board.specs.Seats.{SeatShown, BoardShown}
use Rattle.mill_board.proofs.Lowering.{looks}
use Rattle.mill_board.proofs.board.Board.least.Goals as goal

pub load-requires : goal.load-requires
load-requires g c =
    let W : Type 0 = g.row.W.Denot in
    let V : Type 0 = SeatShown W in
    let table = ap (λ (s : V). s.table) c.seat.view_is ∙ c.requires.table ∙ sym (ap (λ (b : BoardShown W). b.table) c.self.view_is) in
    let words = c.self.invariant.words in
    (table, omega (arith, words), looks g.W.Work.means c.self.inside.table.shared.key _ _ c.seat.inside.pass.me)
