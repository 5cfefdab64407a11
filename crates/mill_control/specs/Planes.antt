-- Which of X, Y and Z the first, the second and the third axis of an arc's plane is, and back.
use Rattle.mill_control.specs.declared.turn.Plane.{Plane}
use Rattle.mill_control.specs.declared.turn.Plane.TheVariants.{Xy, Zx, Yz}

-- ---- of what X, Y and Z have

abbrev pub first_of : {A : Type 0} → Plane → A → A → A → A
first_of Xy x y z = x
first_of Zx x y z = z
first_of Yz x y z = y

abbrev pub second_of : {A : Type 0} → Plane → A → A → A → A
second_of Xy x y z = y
second_of Zx x y z = x
second_of Yz x y z = z

abbrev pub third_of : {A : Type 0} → Plane → A → A → A → A
third_of Xy x y z = z
third_of Zx x y z = y
third_of Yz x y z = x

-- ---- of what the axes have

abbrev pub x_of : {A : Type 0} → Plane → A → A → A → A
x_of Xy first second third = first
x_of Zx first second third = second
x_of Yz first second third = third

abbrev pub y_of : {A : Type 0} → Plane → A → A → A → A
y_of Xy first second third = second
y_of Zx first second third = third
y_of Yz first second third = first

abbrev pub z_of : {A : Type 0} → Plane → A → A → A → A
z_of Xy first second third = third
z_of Zx first second third = first
z_of Yz first second third = second
