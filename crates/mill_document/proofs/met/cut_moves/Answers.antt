use Rattle.std.specs.Prelude.{◌<◌, List, length, take}
use Rattle.std.proofs.Common.{sym, subst, arith}
use Rattle.std.proofs.lemmas.List.{take_more}
use Rattle.mill_base.specs.declared.motion.Move.{Move}
use Rattle.mill_dexel.specs.Stocks.{IsStock}
use Rattle.mill_document.proofs.met.cut_moves.Goals as goal

pub loop-number-preserved : goal.loop-number-preserved
loop-number-preserved c =
    let moves = c.args.moves.now in
    let number = c.loop-number.number in
    let there : number < length moves = omega (arith, c.loop-number-test.true, c.requires.inside) in
    record {
      stock = subst (λ (ms : List Move). IsStock c.args.job.now.fields ms c.cut_rows.new.rows) (sym (take_more moves number _ there)) (c.cut_rows.ensures.stock (take number moves) c.loop-number.invariant.stock);
      rows_ok = c.cut_rows.ensures.rows_ok;
    }
