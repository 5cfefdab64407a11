-- What a waterline of a part says of a lattice is settled: which nodes are blocked, and where the crossing on an edge is.
use Rattle.std.proofs.Common.{◌≡◌, ℕ, ◌+◌, ◌*◌, ◌/◌, ◌%◌, ◌<◌, Bool, true, false, List, length, get_or, ℤ, pos, MatchBool, refl, sym, ◌∙◌, ap, subst, arith}
use Rattle.std.proofs.Math.Nat.{div-lt_iff_lt-mul}
use Rattle.std.proofs.lemmas.List.{ext_get_or}
use Rattle.std.proofs.lemmas.Nat.{div-add-mod'}
use Rattle.mill_base.specs.Points.{point_at}
use Rattle.mill_base.specs.Tools.{ToolGouges}
use Rattle.mill_base.specs.declared.points.Pt3.{Pt3}
use Rattle.mill_base.specs.declared.points.Tri.{Tri}
use Rattle.mill_base.specs.declared.tool.Tool.{Tool}
use Rattle.mill_base.specs.declared.lattice.Lattice.{Lattice}
use Rattle.mill_level.specs.declared.edge.Edge.{Edge}
use Rattle.mill_level.specs.Grids.{Grid, is_blocked}
use Rattle.mill_level.specs.Crossings.{Crossing, HasLastFree, TellsBlocked, node_tip, on_the_way}

same_answer : (P : Type 0) (a b : Bool) → MatchBool a P (¬ P) → MatchBool b P (¬ P) → a ≡ b
same_answer P true true h g = refl
same_answer P true false h g = absurd (g h)
same_answer P false true h g = absurd (h g)
same_answer P false false h g = refl

some_columns : (k columns rows : ℕ) → k < columns * rows → 0 < columns
some_columns k columns rows less = grind arith

grids_made : (columns rows others more : ℕ) (bs cs : List Bool) → columns ≡ others → rows ≡ more → bs ≡ cs
    → ◌≡◌ {A = Grid} (record { columns = columns; rows = rows; blocked = bs }) (record { columns = others; rows = more; blocked = cs })
grids_made columns rows others more bs cs p q r = cc

module _ (tool : Tool) (part : List Tri) (z : ℤ) (lattice : Lattice) where
  module _ (g h : Grid) (t : TellsBlocked tool part z lattice g) (u : TellsBlocked tool part z lattice h) where
    same_columns : g.columns ≡ h.columns
    same_columns = t.columns ∙ sym u.columns

    same_rows : g.rows ≡ h.rows
    same_rows = t.rows ∙ sym u.rows

    same_node : (i j : ℕ) → i < g.columns → j < g.rows → is_blocked g i j ≡ is_blocked h i j
    same_node i j left low =
        let e = same_columns in
        let f = same_rows in
        same_answer (ToolGouges tool (pos 1) (node_tip lattice z i j) part) (is_blocked g i j) (is_blocked h i j) (t.tells i j left low) (u.tells i j (omega arith) (omega arith))

    -- the node with number k stands in this column of this row
    same_place : (k : ℕ) → k < length g.blocked → get_or g.blocked k false ≡ get_or h.blocked k false
    same_place k less =
        let size = t.size in
        let within : k < g.columns * g.rows = omega arith in
        let some : 0 < g.columns = some_columns k g.columns g.rows within in
        let turned : k < g.rows * g.columns = omega arith in
        let here : k / g.columns * g.columns + k % g.columns ≡ k = div-add-mod' k g.columns in
        let there : k / g.columns * h.columns + k % g.columns ≡ k = ap (λ (n : ℕ). k / g.columns * n + k % g.columns) (sym same_columns) ∙ here in
        ap (λ (n : ℕ). get_or g.blocked n false) (sym here) ∙ same_node (k % g.columns) (k / g.columns) (omega arith) ((div-lt_iff_lt-mul some).1 turned)
        ∙ ap (λ (n : ℕ). get_or h.blocked n false) there

    pub same_grid : g ≡ h
    same_grid =
        let sizes : length g.blocked ≡ length h.blocked = t.size ∙ ap (λ (n : ℕ). n * g.rows) same_columns ∙ ap (λ (n : ℕ). h.columns * n) same_rows ∙ sym u.size in
        grids_made g.columns g.rows h.columns h.rows g.blocked h.blocked same_columns same_rows (ext_get_or false g.blocked h.blocked sizes same_place)

  module _ (grid : Grid) where
    not_sooner : (c d : Crossing) (h : HasLastFree tool part z lattice grid c) (g : HasLastFree tool part z lattice grid d) → c.edge ≡ d.edge → ¬ (h.k < g.k)
    not_sooner c d h g e less = g.free (h.k + 1) (omega (less, arith)) (subst (λ (f : Edge). ToolGouges tool (pos 1) (on_the_way lattice z grid f (h.k + 1)) part) e h.blocked)

    same_number : (a b : ℕ) → ¬ (a < b) → ¬ (b < a) → a ≡ b
    same_number a b h k = omega (h, k, arith)

    -- two crossings of one edge, each at its last free position, are equal
    pub same_crossing : (c d : Crossing) → HasLastFree tool part z lattice grid c → HasLastFree tool part z lattice grid d → c.edge ≡ d.edge → c ≡ d
    same_crossing c d h g e =
        let k : h.k ≡ g.k = same_number h.k g.k (not_sooner c d h g e) (not_sooner d c g h (sym e)) in
        let p : point_at c.x c.y z ≡ point_at d.x d.y z =
        h.place ∙ ap (λ (f : Edge). on_the_way lattice z grid f h.k) e ∙ ap (λ (n : ℕ). on_the_way lattice z grid d.edge n) k ∙ sym g.place in
        ap (λ (f : Edge). record { edge = f; x = c.x; y = c.y }) e ∙ ap (λ (q : Pt3). record { edge = d.edge; x = q.x; y = q.y }) p
