use Rattle.std.proofs.Common.{◌≡◌, ◌∙◌, ap, arith, sym, subst, List, [], ◌∷◌, ℕ, Option, Some}
use Rattle.atomic_table.specs.Table.{rest}
use Rattle.mill_board.specs.declared.work.Held.{Held}
use Rattle.mill_board.specs.declared.work.Terms.{Terms}
use Rattle.mill_board.specs.Works.{IsTrueHeld}
use Rattle.mill_board.specs.Seats.{SeatShown, BoardShown}
use Rattle.mill_board.specs.inner.Plays.{Mine}
use Rattle.mill_board.specs.Seats.{carried_of}
use Rattle.mill_board.proofs.Putting.{puts}
use Rattle.mill_board.proofs.board.Board.put.Goals as goal

pub fetch_add-requires : goal.fetch_add-requires
fetch_add-requires g c =
    let W : Type 0 = g.row.W.Denot in
    let P : Type 0 = g.row.W-Piece.Denot in
    let V : Type 0 = SeatShown W in
    let held : Held P = c.args.held in
    let n : ℕ = held.number in
    let table = ap (λ (s : V). s.table) c.seat.view_is ∙ c.requires.seat.table ∙ sym (ap (λ (b : BoardShown W). b.table) c.self.view_is) in
    let was = ap (λ (s : V). s.view.out) c.seat.view_is ∙ c.requires.out in
    let alone : rest c.seat.inside.pass.me.1 ≡ [] = ap rest (c.seat.invariant.carries ∙ ap (λ (o : Option ℕ). let l : List (ℕ × Option (Held P)) = carried_of o in l) was) in
    let x = c.exchange.ensures in
    let carried : c.exchange.new.seat.me.1 ≡ (n, Some held) ∷ [] = ap (λ (m : Mine W P). m.1) x.3 ∙ ap (λ (l : List (ℕ × Option (Held P))). let y : List (ℕ × Option (Held P)) = (n, Some held) ∷ l in y) alone in
    let out : c.exchange.new.seat.me.0.out ≡ Some n = ap (λ (m : Mine W P). m.0.out) x.3 ∙ was in
    let told = c.self.invariant.told ∙ ap (λ (b : BoardShown W). b.terms) c.self.view_is in
    let is_true = subst (λ (t : Terms W). IsTrueHeld g.W.Work.means t.work held) (sym told) c.requires.held in
    let words = c.self.invariant.words in
    (x.0 ∙ table, omega (arith, words), puts g.W.Work.means c.self.inside.table.shared.key _ _ c.exchange.new.seat.me held carried out is_true)
