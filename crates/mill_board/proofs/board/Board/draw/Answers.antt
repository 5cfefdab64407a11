use Rattle.std.proofs.Common.{◌∙◌, ap, arith, sym}
use Rattle.mill_board.specs.Seats.{SeatShown, BoardShown}
use Rattle.mill_board.proofs.Drawing.{draws}
use Rattle.mill_board.proofs.Drew.{drew_piece, drew_slot, none_of}
use Rattle.mill_board.proofs.board.Board.draw.Goals as goal

pub fetch_add-found-requires : goal.fetch_add-found-requires
fetch_add-found-requires g c =
    let V : Type 0 = SeatShown g.row.W.Denot in
    let table = ap (λ (s : V). s.table) c.seat.view_is ∙ c.requires.owner.table ∙ sym (ap (λ (b : BoardShown g.row.W.Denot). b.table) c.self.view_is) in
    let free = ap (λ (s : V). s.view.out) c.seat.view_is ∙ c.requires.free in
    let words = c.self.invariant.words in
    (table, omega (arith, words), draws g.W.Work.means c.self.inside.table.shared.key _ _ c.seat.inside.pass.me (none_of c.seat.inside.pass.me.0.ended (c.seat.invariant.ended_is ∙ c.if-seat.false)) free)

pub exchange-requires : goal.exchange-requires
exchange-requires g c =
    let M = g.W.Work.means in
    let V : Type 0 = SeatShown g.row.W.Denot in
    let table = ap (λ (s : V). s.table) c.seat.view_is ∙ c.requires.owner.table ∙ sym (ap (λ (b : BoardShown g.row.W.Denot). b.table) c.self.view_is) in
    let e = c.fetch_add-found.ensures in let slots = c.self.invariant.slots in let under = c.if-found-self.false in
    let drew = drew_piece M c.self.inside.table.shared.table_id.slots c.fetch_add-found.result c.seat.inside.pass.me c.fetch_add-found.new.seat.me e.2 (omega (arith, slots, under)) in
    (e.0 ∙ table, drew_slot M c.seat.inside.pass.me c.fetch_add-found.result c.fetch_add-found.new.seat.me drew)
