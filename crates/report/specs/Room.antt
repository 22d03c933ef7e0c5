-- How many bytes there are for a text while it is put together.
use Rattle.std.specs.Prelude.{ℕ}

abbrev pub room : ℕ
room = 288
