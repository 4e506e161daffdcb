-- The limits of every quantiser, over the values of an f32, and of its levels. Assumes nothing.
use Rattle.std.specs.Prelude.{ℕ, from_bits, Float}
use Rattle.std.specs.Float.{binary32}

abbrev pub plus_zero : Float
plus_zero = from_bits binary32 0

-- 1/1,024
abbrev pub least_step : Float
least_step = from_bits binary32 0x3a80_0000

-- 1,024
abbrev pub most_step : Float
most_step = from_bits binary32 0x4480_0000

-- 16,384
abbrev pub most_boundary : Float
most_boundary = from_bits binary32 0x4680_0000

-- how many boundaries a uniform quantiser has
abbrev pub uniform_boundaries : ℕ
uniform_boundaries = 15

-- the largest magnitude of a level
abbrev pub most_level : ℕ
most_level = 31
