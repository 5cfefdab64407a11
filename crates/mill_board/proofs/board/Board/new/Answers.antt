use Rattle.std.proofs.Common.{◌∙◌, ap, length, List, Option}
use Rattle.mill_board.specs.declared.work.Held.{Held}
use Rattle.mill_board.proofs.Opening.{opens, starts_len}
use Rattle.mill_board.proofs.board.Board.new.Goals as goal

pub new-requires : goal.new-requires
new-requires g c = opens g.W.Work.means c.args.work c.args.turns c.args.pieces c.in_ok-slots.slots.items c.requires.count c.requires.few c.requires.spans c.in_ok-slots.ensures.slots c.in_ok-slots.ensures.are_true

pub invariant_of-board : goal.invariant_of-board
invariant_of-board g c =
    let e = c.in-Ok.ensures.ok in let H : Type 0 = Held g.row.W-Piece.Denot in
    record {
      words = e.0;
      slots = e.1 ∙ ap (λ (l : List (Option H)). length l) c.in_ok-slots.ensures.slots ∙ starts_len g.W.Work.means c.args.work 0 c.args.pieces;
      told = e.5;
    }

pub fresh_slots-requires-clause-spans : goal.fresh_slots-requires-clause-spans
fresh_slots-requires-clause-spans g c κs within n under = (c.requires.spans n under).0
