-- Worked rows: shapes that stand as they have to, and shapes that do not.
use Rattle.std.proofs.Common.{ℕ, ◌<◌, ◌≤◌, lit≤, lit<, arith}
use Rattle.sdl_drawing.specs.declared.shapes.Rect.{Rect}
use Rattle.sdl_drawing.specs.Tidy.{IsInside, IsOnBorder, IsOnSheet, IsPointInside}

abbrev rectangle : ℕ → ℕ → ℕ → ℕ → Rect
rectangle left top right bottom = record { left = left; top = top; right = right; bottom = bottom }

-- a frame in another, and one that stands out at the right
a_frame_inside : IsInside (rectangle 2 2 8 8) (rectangle 0 0 10 10)
a_frame_inside = (lit≤ tt, lit≤ tt, lit≤ tt, lit≤ tt)

a_frame_that_stands_out : IsInside (rectangle 2 2 12 8) (rectangle 0 0 10 10) → ⊥
a_frame_that_stands_out h = omega (arith, h.2)

-- a box on a left border, and one that only stands beside it
a_box_on_a_border : IsOnBorder (rectangle 95 20 105 30) (rectangle 100 0 200 50)
a_box_on_a_border = (lit≤ tt, lit≤ tt, lit≤ tt, lit≤ tt)

a_box_beside_a_border : IsOnBorder (rectangle 105 20 115 30) (rectangle 100 0 200 50) → ⊥
a_box_beside_a_border h = omega (arith, h.0)

-- a frame without an area, and one beyond the sheet
a_frame_without_an_area : IsOnSheet 100 100 (rectangle 5 5 5 9) → ⊥
a_frame_without_an_area h = omega (arith, h.0)

a_frame_beyond_the_sheet : IsOnSheet 100 100 (rectangle 5 5 101 9) → ⊥
a_frame_beyond_the_sheet h = omega (arith, h.2)
