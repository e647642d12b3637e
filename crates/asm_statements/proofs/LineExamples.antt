-- Worked lines: what they are, and which do not parse.
use Rattle.std.proofs.Common.{◌≡◌, [], ◌∷◌, ◌++◌, Some, None, refl, false, Ok, Err}
use Rattle.std.specs.Prelude.{codes}
use Rattle.asm_statements.specs.Tokens.{tokens}
use Rattle.asm_statements.specs.Tokens.Token.{Word, Str, Mark}
use Rattle.asm_statements.specs.Operands.{number_of}
use Rattle.asm_statements.specs.SourceLines.{line_of, read_source, at_line}
use Rattle.asm_statements.specs.declared.statement.Part.TheVariants as part
use Rattle.asm_statements.specs.declared.statement.Width.TheVariants.{Long}
use Rattle.asm_statements.specs.declared.statement.Name.TheVariants.{Here, Named}
use Rattle.asm_statements.specs.declared.statement.What.TheVariants as what

-- ---- tokens

-- `a: .long b#x`
words : tokens (codes "a: .long b#x") ≡ Some (Word (codes "a") ∷ Mark 58 ∷ Word (codes ".long") ∷ Word (codes "b") ∷ [])
words = refl

-- `"a\"\0412"`: an octal escape takes three digits at most
strings : tokens (34 ∷ 97 ∷ 92 ∷ 34 ∷ 92 ∷ 48 ∷ 52 ∷ 49 ∷ 50 ∷ 34 ∷ []) ≡ Some (Str (97 ∷ 34 ∷ 33 ∷ 50 ∷ []) ∷ [])
strings = refl

-- `"a`
open_string : tokens (34 ∷ 97 ∷ []) ≡ None
open_string = refl

-- `"\400"`
over_escape : tokens (34 ∷ 92 ∷ 52 ∷ 48 ∷ 48 ∷ 34 ∷ []) ≡ None
over_escape = refl

-- ---- numbers

decimal_number : number_of (codes "4294967295") ≡ Some 4294967295
decimal_number = refl

hex_number : number_of (codes "0xFf") ≡ Some 255
hex_number = refl

octal_number : number_of (codes "0101") ≡ Some 65
octal_number = refl

large_number : number_of (codes "0x123456789") ≡ Some 4294967296
large_number = refl

no_octal_digit : number_of (codes "08") ≡ None
no_octal_digit = refl

no_hex_digit : number_of (codes "0x") ≡ None
no_hex_digit = refl

-- ---- lines

empty_line : line_of [] ≡ Some []
empty_line = refl

-- `.ascii "a\101\n"`
ascii : line_of (codes ".ascii " ++ 34 ∷ 97 ∷ 92 ∷ 49 ∷ 48 ∷ 49 ∷ 92 ∷ 110 ∷ 34 ∷ []) ≡ Some (what.Bytes (97 ∷ 65 ∷ 10 ∷ []) ∷ [])
ascii = refl

-- `.asciz "a"`
asciz : line_of (codes ".asciz " ++ 34 ∷ 97 ∷ 34 ∷ []) ≡ Some (what.Bytes (97 ∷ 0 ∷ []) ∷ [])
asciz = refl

stabd : line_of (codes ".stabd 68,0,-5") ≡ Some (what.Stab (record {
  name = [];
  kind = record { more = 68; less = 0 };
  other = record { more = 0; less = 0 };
  desc = record { more = 0; less = 5 };
  value = record { added = Here ∷ []; taken = []; more = 0; less = 0; over = false };
}) ∷ [])
stabd = refl

-- `.` of the second field is four bytes before that field
labels_and_fields : line_of (codes "L1: L2: .long .-L1,4+. # c") ≡ Some (what.Label (codes "L1") ∷ what.Label (codes "L2")
    ∷ what.Field Long (record { added = Here ∷ []; taken = Named (codes "L1") ∷ []; more = 0; less = 0; over = false })
    ∷ what.Field Long (record { added = Here ∷ []; taken = []; more = 4; less = 4; over = false }) ∷ [])
labels_and_fields = refl

p2align : line_of (codes ".p2align 2") ≡ Some (what.Align 2 ∷ [])
p2align = refl

rel : line_of (codes ".rel data,8,0,0x10") ≡ Some (what.Rel (record { part = part.Data; address = 8; symbol = 0; flags = 16 }) ∷ [])
rel = refl

no_directive : line_of (codes ".bite 1") ≡ None
no_directive = refl

negative_size : line_of (codes ".space -1") ≡ None
negative_size = refl

empty_operand : line_of (codes ".byte 1,") ≡ None
empty_operand = refl

no_operand : line_of (codes ".byte") ≡ None
no_operand = refl

label_of_no_name : line_of (codes ".text:") ≡ None
label_of_no_name = refl

two_directives : line_of (codes ".text .data") ≡ None
two_directives = refl

-- ---- sources

-- a line feed at the end begins one more line, which is empty
statements : read_source (codes ".text" ++ 10 ∷ (codes "a:" ++ 10 ∷ [])) ≡ Ok (at_line 1 (what.Switch part.Text) ∷ at_line 2 (what.Label (codes "a")) ∷ [])
statements = refl

first_bad : read_source (codes ".text" ++ 10 ∷ (codes ".bite 1" ++ 10 ∷ codes "x y")) ≡ Err 2
first_bad = refl
