use Rattle.std.proofs.Common.{◌≡◌, ◌∙◌, sym, subst, List, Option}
use Rattle.std.specs.Slots.{slots_items}
use Rattle.mill_board.specs.declared.work.Held.{Held}
use Rattle.mill_board.specs.declared.work.Terms.{Terms}
use Rattle.mill_board.specs.Works.{HasSpans, IsFailure}
use Rattle.mill_board.specs.inner.Closings.{HasTrueFrom, IsSound}
use Rattle.mill_board.proofs.Closing.{left}
use Rattle.mill_board.proofs.board.Board.close.Goals as goal

pub settle-requires-clause-spans : goal.settle-requires-clause-spans
settle-requires-clause-spans g c κs within =
    let M = g.W.Work.means in
    let f = c.close_with-closed.ensures in
    let l = left M c.self.inside.table.shared.key _ _ _ _ _ _ _ f.values.2 c.word-claim.ensures c.word-least.ensures c.word-back.ensures in
    subst (λ (t : Terms g.row.W.Denot). HasSpans M t.work t.turns) c.self.invariant.told l.spans

pub settle-requires-clause-least : goal.settle-requires-clause-least
settle-requires-clause-least g c κs within =
    let M = g.W.Work.means in
    let f = c.close_with-closed.ensures in
    let l = left M c.self.inside.table.shared.key _ _ _ _ _ _ _ f.values.2 c.word-claim.ensures c.word-least.ensures c.word-back.ensures in
    subst (λ (t : Terms g.row.W.Denot). IsFailure M t c.word-least.result) c.self.invariant.told l.failure

pub settle-requires-clause-slots : goal.settle-requires-clause-slots
settle-requires-clause-slots g c κs within =
    let M = g.W.Work.means in
    let P : Type 0 = g.row.W-Piece.Denot in
    let told = c.self.invariant.told in
    let key = c.self.inside.table.shared.key in
    let f = c.close_with-closed.ensures in
    let l = left M key _ _ _ _ _ _ _ f.values.2 c.word-claim.ensures c.word-least.ensures c.word-back.ensures in
    let count = l.count in let sized = c.self.invariant.slots in let len = f.counts in
    let pieces : c.self.inside.pieces ≡ M.pieces key.work = sym sized ∙ sym len.1 ∙ c.close_with-closed.result.slots.ok.0 ∙ count in
    let is = subst (λ k. IsSound c.word-claim.result c.word-back.result k c.first_sound.result) pieces c.first_sound.ensures in
    let all = l.sound c.first_sound.result is in
    subst (λ (xs : List (Option (Held P))). HasTrueFrom M c.self.inside.terms.work c.first_sound.result xs) (sym c.take_slots-slots.ensures)
    (subst (λ (t : Terms g.row.W.Denot). HasTrueFrom M t.work c.first_sound.result (slots_items c.close_with-closed.result.slots)) told all)
