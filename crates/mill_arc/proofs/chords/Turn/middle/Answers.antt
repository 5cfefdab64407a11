use Rattle.std.proofs.Common.{sym, subst, ◌≡◌, w64, to_z, of_z, ap₂, ◌∙◌, arith}
use Rattle.std.specs.Prelude.{ℤ}
use Rattle.std.proofs.lemmas.Int.{ints}
use Rattle.mill_arc.proofs.Middles.{IsLong, first_part, near_of, node_plain, second_part, way_long}
use Rattle.mill_arc.specs.Chords.{lengthened, middle, toward_middle}
use Rattle.mill_arc.specs.declared.chords.Node.{Node}
use Rattle.mill_arc.specs.declared.chords.Turn.{Turn}
use Rattle.mill_arc.specs.declared.vectors.Vector.{Vector}
use Rattle.mill_arc.specs.inner.Nodes.{IsPart, IsRing}
use Rattle.mill_arc.proofs.chords.Turn.middle.Goals as goal

long : (turn : Turn) (u v : Node) (w : Vector) → IsPart turn u v → w ≡ toward_middle turn.counterclockwise u.at v.at → (m : ℤ) × IsLong m w
long turn u v w part e = (part.m, subst (λ (t : Vector). IsLong part.m t) (sym e) (way_long part.m part.x turn.radius turn.counterclockwise u v part.ring part.from part.to))

pub toward_middle-requires-clause-from_ok : goal.toward_middle-requires-clause-from_ok
toward_middle-requires-clause-from_ok c = (node_plain c.requires.m c.requires.x c.args.self.now.radius c.args.from c.requires.ring c.requires.from).near

pub toward_middle-requires-clause-to_ok : goal.toward_middle-requires-clause-to_ok
toward_middle-requires-clause-to_ok c = (node_plain c.requires.m c.requires.x c.args.self.now.radius c.args.to c.requires.ring c.requires.to).near

pub lengthened-requires-clause-near : goal.lengthened-requires-clause-near
lengthened-requires-clause-near c = near_of c.toward_middle.result (long c.args.self.now c.args.from c.args.to c.toward_middle.result c.requires c.toward_middle.ensures).1.short

pub lengthened-requires-clause-some : goal.lengthened-requires-clause-some
lengthened-requires-clause-some c = (long c.args.self.now c.args.from c.args.to c.toward_middle.result c.requires c.toward_middle.ensures).1.some

pub lengthened-requires-clause-short : goal.lengthened-requires-clause-short
lengthened-requires-clause-short c = (long c.args.self.now c.args.from c.args.to c.toward_middle.result c.requires c.toward_middle.ensures).1.short

stored : (turn : Turn) (m x : ℤ) → IsRing m x turn.radius → to_z w64 (of_z w64 turn.radius) ≡ turn.radius
stored turn m x ring = let a = ring.some in let b = ring.least in let c = ring.most in let d = ring.bound in omega (arith, ints)

made : (turn : Turn) (u v : Node) (w a : Vector) (r : ℤ) → r ≡ turn.radius → w ≡ toward_middle turn.counterclockwise u.at v.at → a ≡ lengthened r w → (record { at = a; radius = r }) ≡ middle turn u v
made turn u v w a r same way is =
    ap₂ (λ (p : Vector) (q : ℤ). record { at = p; radius = q }) (is ∙ ap₂ (λ (p : ℤ) (q : Vector). lengthened p q) same way) same

pub returns : goal.returns
returns c =
    let turn = c.args.self.now in
    let u = c.args.from in
    let v = c.args.to in
    let e = made turn u v c.toward_middle.result c.lengthened.result (to_z w64 (of_z w64 turn.radius)) (stored turn c.requires.m c.requires.x c.requires.ring) c.toward_middle.ensures c.lengthened.ensures in
    record {
      value = e;
      first = subst (λ (n : Node). IsPart turn u n) (sym e) (first_part turn u v c.requires);
      second = subst (λ (n : Node). IsPart turn n v) (sym e) (second_part turn u v c.requires);
    }
