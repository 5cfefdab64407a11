use Rattle.std.specs.Prelude.{MatchOption}
use Rattle.std.proofs.Common.{ℕ, ◌+◌, ◌∙◌, ap, subst}
use Rattle.mill_base.specs.declared.motion.Move.{Move}
use Rattle.mill_dexel.specs.Rows.{RowState}
use Rattle.mill_dexel.specs.Tops.{tops_after_move}
use Rattle.mill_dexel.specs.Turns.{ClearsRow, StopsRow, move_at}
use Rattle.mill_dexel.proofs.RunLaws.{left_cuts, move_read}
use Rattle.mill_dexel.proofs.row.Row.turn_through.Goals as goal

pub cut_after-requires-clause-last : goal.cut_after-requires-clause-last
cut_after-requires-clause-last c =
    left_cuts c.args.job.now.fields c.args.moves.now c.args.self.now c.args.t c.end_before.result c.requires.there c.requires.left c.end_before.ensures.first c.end_before.ensures.later

pub returns-clause-told : goal.returns-clause-told
returns-clause-told c =
    subst (λ (m : Move). MatchOption c.stop-fail.result (ClearsRow c.args.job.now.fields c.args.self.now m) (StopsRow c.args.job.now.fields c.args.self.now m))
    (move_read c.args.moves.now c.args.t _ c.requires.there) c.stop-fail.ensures

pub returns-clause-cut : goal.returns-clause-cut
returns-clause-cut c =
    let old = c.args.self.now in
    ap (λ (r : RowState). record r { done = c.args.t + 1 }) (c.self.view_is ∙ c.cut_after.ensures.tops)
    ∙ ap (λ (m : Move). record old { tops = tops_after_move c.args.job.now.fields old.row 0 m old.tops; done = c.args.t + 1 }) (move_read c.args.moves.now c.args.t _ c.requires.there)
    ∙ ap (λ (n : ℕ). record old { tops = tops_after_move c.args.job.now.fields old.row 0 (move_at c.args.moves.now c.args.t) old.tops; done = n + 1 }) c.requires.next
