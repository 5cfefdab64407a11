use Rattle.mill_stl.proofs.WrittenTexts.{facet_added}
use Rattle.mill_stl.proofs.writing.add_facet.Goals as goal

pub returns : goal.returns
returns c =
    rw (c.in_ok-add_text-2.ensures, c.in_ok-add_vertex-3.ensures, c.in_ok-add_vertex-2.ensures, c.in_ok-add_vertex.ensures, c.in_ok-add_text.ensures)
    (facet_added c.args.unit c.args.tri c.args.text.now.items)
