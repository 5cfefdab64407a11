use Rattle.std.proofs.Common.{◌≡◌, ℕ, ◌+◌, ◌<◌, List, [], ◌∷◌, zero, suc, length, get_or, None, Option, sym, subst, ◌∙◌, arith, length-set, get_or-set_other}
use Rattle.mill_board.specs.declared.work.Held.{Held}
use Rattle.mill_board.specs.inner.Closings.{HasTrue, IsSettled}
use Rattle.mill_board.proofs.Closing.{all_settled, settles}
use Rattle.mill_board.proofs.close.settle.Goals as goal

read : {A : Type 0} → (xs : List A) (i : ℕ) (x d : A) → i < length xs → x ≡ get_or xs i x → get_or xs i d ≡ x
read [] i x d lt e = absurd (omega arith)
read (y ∷ ys) zero x d lt e = sym e
read (y ∷ ys) (suc i) x d lt e = read ys i x d (omega arith) e

pub finish-requires-clause-slot : goal.finish-requires-clause-slot
finish-requires-clause-slot g c κs within le =
    let n = c.loop-n.invariant in
    let len = c.len-n-end.ensures in let same = n.len in
    let v = c.index_mut.ensures.value in
    let test = c.loop-n-test.true in let ok = c.loop-n.slots.ok in let ok2 = c.args.slots.ok in
    let lt : c.loop-n.n < length c.loop-n.slots.items = omega (arith, test, len, same, ok, ok2) in
    let e : c.take-slot.result ≡ get_or c.args.slots.items c.loop-n.n None = c.take-slot.ensures.value ∙ sym (read c.loop-n.slots.items c.loop-n.n c.index_mut.result.now None lt v) ∙ n.rest c.loop-n.n (omega arith) in
    subst (λ (o : Option (Held g.row.W-Piece.Denot)). HasTrue g.W.Work.means c.args.terms.now.work c.loop-n.n o) (sym e) (c.requires.slots c.loop-n.n le)

pub loop-n-preserved : goal.loop-n-preserved
loop-n-preserved g c =
    let M = g.W.Work.means in
    let n = c.loop-n.invariant in
    let low = c.least_with-least.result in
    record {
      settled = subst (λ (hs : List (Held g.row.W-Piece.Denot)). IsSettled M c.args.terms.now (c.loop-n.n + 1) low hs) (sym c.in_ok-push.ensures.items)
          (settles M c.args.terms.now c.loop-n.n c.loop-n.least low c.loop-n.pieces.items c.in_ok-held.held n.settled c.in_ok-held.ensures c.least_with-least.ensures);
      rest = λ j le. get_or-set_other c.loop-n.slots.items c.loop-n.n j c.take-slot.new.self None (λ e. absurd (omega arith)) ∙ n.rest j (omega arith);
      len = length-set c.loop-n.slots.items c.loop-n.n c.take-slot.new.self ∙ n.len;
    }

pub returns : goal.returns
returns g c =
    let n = c.loop-n.invariant in
    let a = c.loop-n-test.false in let b = c.requires.count in let d = c.loop-n.auto.n-end in let e = c.len-n-end.ensures in let ok = c.args.slots.ok in
    all_settled g.W.Work.means c.args.terms.now c.loop-n.n c.loop-n.least c.loop-n.pieces.items (omega (arith, a, b, d, e, ok)) n.settled
