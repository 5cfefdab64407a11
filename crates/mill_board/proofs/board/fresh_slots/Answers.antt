use Rattle.std.proofs.Common.{◌≡◌, ◌++◌, ◌+◌, ◌-◌, List, arith, ap, sym, subst, ◌∙◌, Option, Some}
use mathlib.Core.Logic.{dite}
use native.Mathlib.Decide.{ℕ_discrete}
use Rattle.mill_board.specs.declared.work.Held.{Held}
use Rattle.mill_board.specs.Works.{IsTrueHeld, started}
use Rattle.mill_board.specs.inner.Starts.{starts}
use Rattle.mill_board.proofs.Opening.{starts_more, starts_end}
use Rattle.mill_board.proofs.board.fresh_slots.Goals as goal

pub loop-number-preserved : goal.loop-number-preserved
loop-number-preserved g c =
    let M = g.W.Work.means in
    let H : Type 0 = Held g.row.W-Piece.Denot in
    let work = c.args.work.now in let number = c.loop-number.number in
    let n = c.loop-number.invariant in
    let h = c.in_ok-held.ensures in
    record {
      slots = ap (λ (l : List (Option H)). l ++ starts M work (number + 1) (c.args.pieces - (number + 1))) c.in_ok-push.ensures.items
          ∙ starts_more M work c.loop-number.slots.items (Some c.in_ok-held.held) number c.args.pieces (starts M work 0 c.args.pieces) (omega arith) (ap Some h.held) n.slots;
      are_true = λ k under. dite (ℕ_discrete k number)
          (λ (e : k ≡ number). subst (λ j. IsTrueHeld M work (started M work j)) (sym e) (subst (λ (x : H). IsTrueHeld M work x) h.held h.is_true))
          (λ ne. n.are_true k (omega arith));
    }

pub returns-clause-slots : goal.returns-clause-slots
returns-clause-slots g c = starts_end g.W.Work.means c.args.work.now c.loop-number.slots.items c.loop-number.number c.args.pieces (starts g.W.Work.means c.args.work.now 0 c.args.pieces) c.loop-number-test.false c.loop-number.invariant.slots

pub returns-clause-are_true : goal.returns-clause-are_true
returns-clause-are_true g c k under = let end = c.loop-number-test.false in c.loop-number.invariant.are_true k (omega arith)
