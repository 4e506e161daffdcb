use Rattle.std.proofs.Common.{◌≡◌, take, string_bytes}
use Rattle.receiving.specs.Text.{hex_text}
use Rattle.receiving.proofs.line.hex_text.Given as goal

abbrev pub invariant-loop-byte : goal.invariant-loop-byte
invariant-loop-byte l = string_bytes l.text ≡ hex_text (take l.byte-index l.bytes)
