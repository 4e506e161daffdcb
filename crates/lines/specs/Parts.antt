-- The bytes of a part of an input. Assumes nothing.
use Rattle.std.specs.Prelude.{ℕ, List}
use Rattle.lines.specs.declared.part.Part.{Part}

abbrev pub bytes_of : Part → List ℕ
bytes_of p = p.bytes.now
