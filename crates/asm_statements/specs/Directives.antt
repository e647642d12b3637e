-- The directives of the language, each with the statements that its operands give.
use Rattle.std.specs.Prelude.{ℕ, ◌+◌, false, if◌then◌else◌, List, [], ◌∷◌, ◌++◌, codes, Option, Some, None}
use Rattle.std.specs.Str.{bytes_eq}
use Rattle.asm_statements.specs.Tokens.{Token}
use Rattle.asm_statements.specs.Tokens.Token.{Word, Str, Mark}
use Rattle.asm_statements.specs.Operands.{◌>>=◌, sum_of, plain_of, size_of, name_of, string_of, nothing, with_name}
use Rattle.asm_statements.specs.declared.directive.Directive.{Directive}
use Rattle.asm_statements.specs.declared.directive.Directive.TheVariants as directive
use Rattle.asm_statements.specs.declared.statement.Part.{Part}
use Rattle.asm_statements.specs.declared.statement.Part.TheVariants as part
use Rattle.asm_statements.specs.declared.statement.Width.{Width}
use Rattle.asm_statements.specs.declared.statement.Width.TheVariants.{Byte, Short, Long}
use Rattle.asm_statements.specs.declared.statement.Name.{Name}
use Rattle.asm_statements.specs.declared.statement.Name.TheVariants.{Here, Named}
use Rattle.asm_statements.specs.declared.statement.Sum.{Sum}
use Rattle.asm_statements.specs.declared.statement.Stab.{Stab}
use Rattle.asm_statements.specs.declared.statement.Rel.{Rel}
use Rattle.asm_statements.specs.declared.statement.What.{What}
use Rattle.asm_statements.specs.declared.statement.What.TheVariants as what

-- how many bytes a field of this width has
abbrev pub size_of_width : Width → ℕ
size_of_width Byte = 1
size_of_width Short = 2
size_of_width Long = 4

-- in the k-th field of a directive `.` is so many bytes before the field
abbrev pub shift : ℕ → List Name → ℕ
shift back [] = 0
shift back (Here ∷ names) = back
shift back (Named w ∷ names) = 0

abbrev pub shifted : ℕ → Sum → Sum
shifted back s = record s { less = s.less + shift back s.added; more = s.more + shift back s.taken }

-- the fields after those of `back` bytes
abbrev pub fields : Width → ℕ → List (List Token) → Option (List What)
fields width back [] = Some []
fields width back (p ∷ ps) =
    sum_of p >>= λ s. fields width (back + size_of_width width) ps >>= λ ws. Some (what.Field width (shifted back s) ∷ ws)

-- `text` or `data`
abbrev pub part_in : Token → Option Part
part_in (Word w) = if bytes_eq w (codes "text") then Some part.Text else (if bytes_eq w (codes "data") then Some part.Data else None)
part_in (Str s) = None
part_in (Mark m) = None

abbrev pub part_of : List Token → Option Part
part_of [] = None
part_of (t ∷ []) = part_in t
part_of (t ∷ u ∷ ts) = None

abbrev pub rel_from : List Token → List Token → List Token → List Token → Option Rel
rel_from q a s f =
    part_of q >>= λ place. size_of a >>= λ address. size_of s >>= λ symbol. size_of f >>= λ flags.
    Some (record { part = place; address = address; symbol = symbol; flags = flags })

-- one, two, three or four operands
abbrev pub one_of : List (List Token) → Option (List Token)
one_of [] = None
one_of (p ∷ []) = Some p
one_of (p ∷ q ∷ ps) = None

abbrev pub two_of : List (List Token) → Option (List Token × List Token)
two_of [] = None
two_of (p ∷ ps) = one_of ps >>= λ q. Some (p, q)

abbrev pub three_of : List (List Token) → Option (List Token × List Token × List Token)
three_of [] = None
three_of (p ∷ ps) = two_of ps >>= λ r. Some (p, r.0, r.1)

abbrev pub four_of : List (List Token) → Option (List Token × List Token × List Token × List Token)
four_of [] = None
four_of (p ∷ []) = None
four_of (p ∷ q ∷ ps) = two_of ps >>= λ r. Some (p, q, r.0, r.1)

abbrev pub no_operand : List Token → Option (Unit {0})
no_operand [] = Some tt
no_operand (t ∷ ts) = None

abbrev pub switch_of : Part → List (List Token) → Option (List What)
switch_of q ps = one_of ps >>= λ p. no_operand p >>= λ u. Some (what.Switch q ∷ [])

abbrev pub the_size : List (List Token) → Option ℕ
the_size ps = one_of ps >>= size_of

abbrev pub one_size : (ℕ → What) → List (List Token) → Option (List What)
one_size make ps = the_size ps >>= λ n. Some (make n ∷ [])

abbrev pub one_name : List (List Token) → Option (List What)
one_name ps = one_of ps >>= λ p. name_of p >>= λ w. Some (what.Globl w ∷ [])

abbrev pub the_name_and_size : List (List Token) → Option (List ℕ × ℕ)
the_name_and_size ps = two_of ps >>= λ p. name_of p.0 >>= λ w. size_of p.1 >>= λ n. Some (w, n)

abbrev pub name_and_size : (List ℕ → ℕ → What) → List (List Token) → Option (List What)
name_and_size make ps = the_name_and_size ps >>= λ p. Some (make p.0 p.1 ∷ [])

-- the operands of a stab directive
abbrev pub stab_from : List ℕ → List Token → List Token → List Token → List Token → Option Stab
stab_from name k o d v =
    plain_of k >>= λ kind. plain_of o >>= λ other. plain_of d >>= λ desc. sum_of v >>= λ value.
    Some (record { name = name; kind = kind; other = other; desc = desc; value = value })

abbrev pub stab_with : List ℕ → List (List Token) → Option (List What)
stab_with name ps = four_of ps >>= λ p. stab_from name p.0 p.1 p.2 p.3 >>= λ s. Some (what.Stab s ∷ [])

abbrev pub stab_of : List (List Token) → Option (List What)
stab_of [] = None
stab_of (p ∷ ps) = string_of p >>= λ name. stab_with name ps

-- the value of `.stabd` is `.`
abbrev pub stabd_from : List Token → List Token → List Token → Option Stab
stabd_from k o d =
    plain_of k >>= λ kind. plain_of o >>= λ other. plain_of d >>= λ desc.
    Some (record { name = []; kind = kind; other = other; desc = desc; value = with_name false Here nothing })

abbrev pub stabd_of : List (List Token) → Option (List What)
stabd_of ps = three_of ps >>= λ p. stabd_from p.0 p.1 p.2 >>= λ s. Some (what.Stab s ∷ [])

abbrev pub the_string : List (List Token) → Option (List ℕ)
the_string ps = one_of ps >>= string_of

-- the bytes of a string
abbrev pub ascii_of : List (List Token) → Option (List What)
ascii_of ps = the_string ps >>= λ s. Some (what.Bytes s ∷ [])

-- with a zero byte after them
abbrev pub asciz_of : List (List Token) → Option (List What)
asciz_of ps = the_string ps >>= λ s. Some (what.Bytes (s ++ 0 ∷ []) ∷ [])

abbrev pub rel_of : List (List Token) → Option (List What)
rel_of ps = four_of ps >>= λ p. rel_from p.0 p.1 p.2 p.3 >>= λ r. Some (what.Rel r ∷ [])

-- the words of the directives
abbrev pub directive_of : List ℕ → Option Directive
directive_of w =
    if bytes_eq w (codes ".text") then Some directive.Text
    else (if bytes_eq w (codes ".data") then Some directive.Data
    else (if bytes_eq w (codes ".byte") then Some directive.Byte
    else (if bytes_eq w (codes ".short") then Some directive.Short
    else (if bytes_eq w (codes ".long") then Some directive.Long
    else (if bytes_eq w (codes ".ascii") then Some directive.Ascii
    else (if bytes_eq w (codes ".asciz") then Some directive.Asciz
    else (if bytes_eq w (codes ".space") then Some directive.Space
    else (if bytes_eq w (codes ".p2align") then Some directive.Align
    else (if bytes_eq w (codes ".globl") then Some directive.Globl
    else (if bytes_eq w (codes ".comm") then Some directive.Comm
    else (if bytes_eq w (codes ".lcomm") then Some directive.Lcomm
    else (if bytes_eq w (codes ".stabs") then Some directive.Stabs
    else (if bytes_eq w (codes ".stabn") then Some directive.Stabn
    else (if bytes_eq w (codes ".stabd") then Some directive.Stabd
    else (if bytes_eq w (codes ".entry") then Some directive.Entry
    else (if bytes_eq w (codes ".machine") then Some directive.Machine
    else (if bytes_eq w (codes ".bsize") then Some directive.Bsize
    else (if bytes_eq w (codes ".rel") then Some directive.Rel else None))))))))))))))))))

-- what a directive is, by its operands
abbrev pub operands : Directive → List (List Token) → Option (List What)
operands directive.Text ps = switch_of part.Text ps
operands directive.Data ps = switch_of part.Data ps
operands directive.Byte ps = fields Byte 0 ps
operands directive.Short ps = fields Short 0 ps
operands directive.Long ps = fields Long 0 ps
operands directive.Ascii ps = ascii_of ps
operands directive.Asciz ps = asciz_of ps
operands directive.Space ps = one_size what.Space ps
operands directive.Align ps = one_size what.Align ps
operands directive.Globl ps = one_name ps
operands directive.Comm ps = name_and_size what.Comm ps
operands directive.Lcomm ps = name_and_size what.Lcomm ps
operands directive.Stabs ps = stab_of ps
operands directive.Stabn ps = stab_with [] ps
operands directive.Stabd ps = stabd_of ps
operands directive.Entry ps = one_size what.Entry ps
operands directive.Machine ps = one_size what.Machine ps
operands directive.Bsize ps = one_size what.Bsize ps
operands directive.Rel ps = rel_of ps
