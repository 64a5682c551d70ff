-- Names between quotes.
use Rattle.std.specs.Prelude.{ℕ, ◌==◌, nat_le, Bool, not, ◌&&◌, List, [], ◌∷◌, ◌++◌, if◌then◌else◌, codes}
use Rattle.std.specs.List.{flat_map}
use Rattle.plan_lines.specs.Expressions.{hexadecimal}

-- a printed character of ASCII or a space, but for the quote and the backslash
abbrev pub is_plain : ℕ → Bool
is_plain byte = nat_le 0x20 byte && nat_le byte 0x7E && not (byte == 0x22) && not (byte == 0x5C)

-- a plain byte is printed as it is; any other is a backslash and two digits of base 16
abbrev pub quoted_byte : ℕ → List ℕ
quoted_byte byte = if is_plain byte then byte ∷ [] else 0x5C ∷ hexadecimal 2 byte

abbrev pub quoted_bytes : List ℕ → List ℕ
quoted_bytes bytes = flat_map quoted_byte bytes

abbrev pub quoted_text : List ℕ → List ℕ
quoted_text bytes = codes "\"" ++ quoted_bytes bytes ++ codes "\""
