use Rattle.std.proofs.Common.{◌∙◌, ap, arith, sym}
use Rattle.mill_board.specs.Seats.{SeatShown, BoardShown}
use Rattle.mill_board.proofs.Splitting.{splits}
use Rattle.mill_board.proofs.board.Board.split.Goals as goal

pub split_seat-pass-requires : goal.split_seat-pass-requires
split_seat-pass-requires g c =
    let W : Type 0 = g.row.W.Denot in
    let V : Type 0 = SeatShown W in
    let table = ap (λ (s : V). s.table) c.seat.view_is ∙ c.requires.seat.table ∙ sym (ap (λ (b : BoardShown W). b.table) c.self.view_is) in
    let words = c.self.invariant.words in
    let spare = c.requires.spare in let same = ap (λ (s : V). s.view.spare) c.seat.view_is in
    (table, omega (arith, words), splits g.W.Work.means c.self.inside.table.shared.key c.seat.inside.pass.id c.seat.inside.pass.me.0 (omega (arith, spare, same)))
