use Rattle.std.proofs.Common.{◌^◌, refl, sym, ap, ◌∙◌, of_z}
use mir.Syntax.{w64}
use lib.IntN.{pos, ◌-ℤ◌}
use Rattle.mill_base.proofs.Machine.{stored}
use Rattle.mill_base.proofs.Ranges.{coordinate}
use Rattle.mill_part.proofs.Stored.{sum3_fits, turn_kept, minus_is, minus_within, positive_total, negative_total, zero_total, zero_turn, third_is_0}
use Rattle.mill_part.proofs.FaceLemmas.{face_greatest, face_of, opposite_face_of, turns_are_0}
use Rattle.mill_part.proofs.column.near_height.Goals as goal

pub overflow_add-total-2 : goal.overflow_add-total-2
overflow_add-total-2 c = sum3_fits (2 ^ 41) c.turn-u.result c.turn-v.result c.turn-w.result c.turn-u.ensures.bound c.turn-v.ensures.bound c.turn-w.ensures.bound refl

pub face_height-requires-clause-some : goal.face_height-requires-clause-some
face_height-requires-clause-some c =
    positive_total c.turn-u.result c.turn-v.result c.turn-w.result c.turn-u.ensures.bound c.turn-v.ensures.bound c.turn-w.ensures.bound c.if-total-gt0.true

pub returns-then-total-gt0 : goal.returns-then-total-gt0
returns-then-total-gt0 c =
    let x = coordinate c.args.x c.requires.x_ok in
    let y = coordinate c.args.y c.requires.y_ok in
    let u = stored w64 c.turn-u.result in
    let v = stored w64 c.turn-v.result in
    let w = stored w64 c.turn-w.result in
    let some = positive_total c.turn-u.result c.turn-v.result c.turn-w.result c.turn-u.ensures.bound c.turn-v.ensures.bound c.turn-w.ensures.bound c.if-total-gt0.true in
    let face = face_of c.args.tri.now c.args.x c.args.y c.turn-u.result c.turn-v.result c.turn-w.result u v w
    (turn_kept c.turn-u.result c.turn-u.ensures.bound) (turn_kept c.turn-v.result c.turn-v.ensures.bound) (turn_kept c.turn-w.result c.turn-w.ensures.bound)
    (rw (x, y) at c.turn-u.ensures.value) (rw (x, y) at c.turn-v.ensures.value) (rw (x, y) at c.turn-w.ensures.value) in
    face_greatest c.args.tri.now c.args.x c.args.y u v w c.face_height.result face some c.face_height.ensures

pub face_height-requires-then-total-lt0-clause-u_ok : goal.face_height-requires-then-total-lt0-clause-u_ok
face_height-requires-then-total-lt0-clause-u_ok c = minus_within c.turn-u.result c.turn-u.ensures.bound

pub face_height-requires-then-total-lt0-clause-v_ok : goal.face_height-requires-then-total-lt0-clause-v_ok
face_height-requires-then-total-lt0-clause-v_ok c = minus_within c.turn-v.result c.turn-v.ensures.bound

pub face_height-requires-then-total-lt0-clause-w_ok : goal.face_height-requires-then-total-lt0-clause-w_ok
face_height-requires-then-total-lt0-clause-w_ok c = minus_within c.turn-w.result c.turn-w.ensures.bound

pub face_height-requires-then-total-lt0-clause-some : goal.face_height-requires-then-total-lt0-clause-some
face_height-requires-then-total-lt0-clause-some c =
    negative_total c.turn-u.result c.turn-v.result c.turn-w.result c.turn-u.ensures.bound c.turn-v.ensures.bound c.turn-w.ensures.bound c.if-total-lt0.true

pub returns-then-total-lt0 : goal.returns-then-total-lt0
returns-then-total-lt0 c =
    let x = coordinate c.args.x c.requires.x_ok in
    let y = coordinate c.args.y c.requires.y_ok in
    let u = stored w64 (pos 0 -ℤ stored w64 c.turn-u.result) in
    let v = stored w64 (pos 0 -ℤ stored w64 c.turn-v.result) in
    let w = stored w64 (pos 0 -ℤ stored w64 c.turn-w.result) in
    let some = negative_total c.turn-u.result c.turn-v.result c.turn-w.result c.turn-u.ensures.bound c.turn-v.ensures.bound c.turn-w.ensures.bound c.if-total-lt0.true in
    let face = opposite_face_of c.args.tri.now c.args.x c.args.y c.turn-u.result c.turn-v.result c.turn-w.result u v w
    (minus_is c.turn-u.result c.turn-u.ensures.bound) (minus_is c.turn-v.result c.turn-v.ensures.bound) (minus_is c.turn-w.result c.turn-w.ensures.bound)
    (rw (x, y) at c.turn-u.ensures.value) (rw (x, y) at c.turn-v.ensures.value) (rw (x, y) at c.turn-w.ensures.value) in
    face_greatest c.args.tri.now c.args.x c.args.y u v w c.face_height-then-total-lt0.result face some c.face_height-then-total-lt0.ensures

pub returns-then-u-ne0 : goal.returns-then-u-ne0
returns-then-u-ne0 c =
    let x = coordinate c.args.x c.requires.x_ok in
    let y = coordinate c.args.y c.requires.y_ok in
    let total = zero_total c.turn-u.result c.turn-v.result c.turn-w.result c.turn-u.ensures.bound c.turn-v.ensures.bound c.turn-w.ensures.bound c.if-total-gt0.false c.if-total-lt0.false in
    let face = face_of c.args.tri.now c.args.x c.args.y c.turn-u.result c.turn-v.result c.turn-w.result c.turn-u.result c.turn-v.result c.turn-w.result refl refl refl
    (rw (x, y) at c.turn-u.ensures.value) (rw (x, y) at c.turn-v.ensures.value) (rw (x, y) at c.turn-w.ensures.value) in
    λ h over. c.if-u-ne0.true (ap (of_z w64) (turns_are_0 c.args.tri.now c.args.x c.args.y c.turn-u.result c.turn-v.result c.turn-w.result h face total over).0)

pub returns-then-v-ne0 : goal.returns-then-v-ne0
returns-then-v-ne0 c =
    let x = coordinate c.args.x c.requires.x_ok in
    let y = coordinate c.args.y c.requires.y_ok in
    let total = zero_total c.turn-u.result c.turn-v.result c.turn-w.result c.turn-u.ensures.bound c.turn-v.ensures.bound c.turn-w.ensures.bound c.if-total-gt0.false c.if-total-lt0.false in
    let face = face_of c.args.tri.now c.args.x c.args.y c.turn-u.result c.turn-v.result c.turn-w.result c.turn-u.result c.turn-v.result c.turn-w.result refl refl refl
    (rw (x, y) at c.turn-u.ensures.value) (rw (x, y) at c.turn-v.ensures.value) (rw (x, y) at c.turn-w.ensures.value) in
    λ h over. c.if-v-ne0.true (ap (of_z w64) (turns_are_0 c.args.tri.now c.args.x c.args.y c.turn-u.result c.turn-v.result c.turn-w.result h face total over).1)

pub line_height-requires-clause-ab : goal.line_height-requires-clause-ab
line_height-requires-clause-ab c =
    let total = zero_total c.turn-u.result c.turn-v.result c.turn-w.result c.turn-u.ensures.bound c.turn-v.ensures.bound c.turn-w.ensures.bound c.if-total-gt0.false c.if-total-lt0.false in
    sym c.turn-w.ensures.value
    ∙ third_is_0 c.turn-u.result c.turn-v.result c.turn-w.result total (zero_turn c.turn-u.result c.turn-u.ensures.bound c.if-u-ne0.false) (zero_turn c.turn-v.result c.turn-v.ensures.bound c.if-v-ne0.false)
