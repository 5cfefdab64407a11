use Rattle.std.proofs.lemmas.Result.{err_from_is_err_and}
use Rattle.mill_surface.specs.declared.fault.SurfaceFault.TheVariants.{TooManyTriangles}
use Rattle.mill_run.proofs.Stocks.{handed_on}
use Rattle.mill_run.proofs.stock.draw.Goals as goal

pub returns-in_err-tris-clause-many : goal.returns-in_err-tris-clause-many
returns-in_err-tris-clause-many c = λ count is.
    let answer = err_from_is_err_and c.from_residual-in_err-tris.result c.from_residual-in_err-tris.ensures.1 in
    (c.in_err-tris.ensures.many count).0 (handed_on c.from_residual-in_err-tris.result answer.0 c.in_err-tris.field-0.0 (TooManyTriangles count) answer.1 answer.2 is)
