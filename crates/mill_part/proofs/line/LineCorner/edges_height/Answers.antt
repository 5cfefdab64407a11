use Rattle.mill_part.proofs.LineLemmas.{line_greatest}
use Rattle.mill_part.proofs.line.LineCorner.edges_height.Goals as goal

pub returns : goal.returns
returns c = rw (c.max-2.ensures, c.max.ensures) (line_greatest c.args.a c.args.b c.args.c c.edge_height-ab.result c.edge_height-bc.result c.edge_height-ca.result
    c.edge_height-ab.ensures c.edge_height-bc.ensures c.edge_height-ca.ensures)
