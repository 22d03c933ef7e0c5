-- How many points are taken at a time, and how many coefficients a polynomial of the search has room for.
use Rattle.std.specs.Prelude.{ℕ, suc, ◌-◌, ◌*◌}

abbrev pub points_most : ℕ
points_most = 16

-- the place of the last coefficient: the weights stay below twice the number of points
abbrev pub top : ℕ
top = 2 * points_most - 1

abbrev pub width : ℕ
width = suc top
