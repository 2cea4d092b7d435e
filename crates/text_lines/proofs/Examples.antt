-- The lines of document 01, and one of each other kind, computed from the definitions: the digits of a number are those that the library prints, which compute.
use native.Mathlib.Omega.{arith}
use Rattle.std.specs.Fmt.{digits}
use Rattle.text_fields.specs.Fields.{viscosity}
use Rattle.text_fields.proofs.Digits.{as_printed}
use Rattle.text_lines.specs.Lines.{printed_line, first_line, refused_line}
use Rattle.text_lines.specs.Examples.{ExampleLines}

pub example_lines : ExampleLines
unfolding printed_line first_line refused_line viscosity digits
example_lines = record {
  first = rw (as_printed 3 (omega arith));
  by_a = rw (as_printed 73 (omega arith), as_printed 8 (omega arith), as_printed 92 (omega arith));
  by_b = rw (as_printed 22 (omega arith), as_printed 5 (omega arith), as_printed 156 (omega arith));
  refused = rw (as_printed 20 (omega arith), as_printed 1 (omega arith));
  below_zero = rw (as_printed 1000000 (omega arith), as_printed 2 (omega arith), as_printed 62499500 (omega arith));
  near = rw (as_printed 144 (omega arith), as_printed 16 (omega arith), as_printed 125 (omega arith));
  widest = rw (as_printed 4294967 (omega arith), as_printed 2 (omega arith));
  narrowest = rw (as_printed 0 (omega arith), as_printed 1 (omega arith));
  sheet = rw (as_printed 12 (omega arith));
}
