-- What statements mean, by look-ups in the table of their source: values, faults, bytes, relocations and entries.
use Rattle.std.specs.Prelude.{ℕ, ◌+◌, ◌-◌, ◌/◌, ◌%◌, ◌==◌, ◌&&◌, ◌||◌, not, nat_le, nat_lt, Bool, true, false, if◌then◌else◌, List, [], ◌∷◌, position, Option, None, Some, is_none, unwrap_or, replicate, flat_map}
use Rattle.std.specs.List.{list_any}
use Rattle.std.specs.Map.{lookup}
use Rattle.std.specs.Str.{bytes_eq}
use Rattle.st_base.specs.declared.fault.Fault.{Fault}
use Rattle.st_base.specs.Number.{bytes_of}
use Rattle.reloc.specs.declared.reloc.Reloc.{Reloc}
use Rattle.nlist_codec.specs.declared.named.Named.{Named as Named'}
use Rattle.st_base.specs.declared.sizes.TheConstants.{GREATEST_ADDRESS}
use Rattle.aout_layout.specs.declared.header.TheConstants.{TWO_ORDERS}
use Rattle.nlist_codec.specs.declared.kinds.TheConstants.{ABSOLUTE_SEGMENT, TEXT_SEGMENT, DATA_SEGMENT, BSS_SEGMENT, UNDEFINED_EXTERNAL}
use Rattle.asm_objects.specs.declared.limits.TheConstants.{GREATEST_POWER, SPACE_LIMIT, SYMBOL_LIMIT}
use Rattle.st_base.specs.declared.fault.TheConstants.{LINE_RANGE, LINE_UNDEFINED, LINE_TWICE, LINE_MIXED}
use Rattle.st_base.specs.FirstUses.{first_uses}
use Rattle.st_base.specs.Multiples.{aligned}
use Rattle.asm_objects.specs.Layout.{home_of, offset_in, is_local, after, start, padding, table_of}
use Rattle.asm_statements.specs.declared.statement.Part.{Part}
use Rattle.asm_statements.specs.declared.statement.Part.TheVariants as part
use Rattle.asm_statements.specs.declared.statement.Width.{Width}
use Rattle.asm_statements.specs.declared.statement.Width.TheVariants.{Byte, Short, Long}
use Rattle.asm_statements.specs.declared.statement.Name.{Name}
use Rattle.asm_statements.specs.declared.statement.Name.TheVariants.{Here, Named}
use Rattle.asm_statements.specs.declared.statement.Sum.{Sum}
use Rattle.asm_statements.specs.declared.statement.Plain.{Plain}
use Rattle.asm_statements.specs.declared.statement.Stab.{Stab}
use Rattle.asm_statements.specs.declared.statement.Rel.{Rel}
use Rattle.asm_statements.specs.declared.statement.What.{What}
use Rattle.asm_statements.specs.declared.statement.What.TheVariants as what
use Rattle.asm_statements.specs.declared.statement.Statement.{Statement}
use Rattle.asm_objects.specs.declared.table.Home.{Home}
use Rattle.asm_objects.specs.declared.table.Home.TheVariants as home
use Rattle.asm_objects.specs.declared.table.Places.{Places}
use Rattle.asm_objects.specs.declared.table.Definition.{Definition}
use Rattle.asm_objects.specs.declared.table.Table.{Table}
use Rattle.asm_objects.specs.declared.check.Use.{Use}
use Rattle.asm_objects.specs.declared.check.Use.TheVariants as use'

-- ---- names

-- the kind of an entry that is defined there
abbrev pub kind_of : Home → ℕ
kind_of home.Text = TEXT_SEGMENT
kind_of home.Data = DATA_SEGMENT
kind_of home.Bss = BSS_SEGMENT
kind_of home.Common = UNDEFINED_EXTERNAL

-- the address where the segment of a definition begins
abbrev pub base : Table → Home → ℕ
base t home.Text = t.entry
base t home.Data = t.entry + t.end.text
base t home.Bss = t.entry + t.end.text + t.end.datum
base t home.Common = 0

-- the address of a definition
abbrev pub address : Table → Definition → ℕ
address t d = base t d.home + d.offset

-- the definition that `.` stands for
abbrev pub here : Places → Definition
here p = record { home = home_of p.part; offset = offset_in p; number = p.number }

-- a definition that has an address here
abbrev pub unless_common : Home → Definition → Option Definition
unless_common home.Text d = Some d
unless_common home.Data d = Some d
unless_common home.Bss d = Some d
unless_common home.Common d = None

abbrev pub with_address : Option Definition → Option Definition
with_address None = None
with_address (Some d) = unless_common d.home d

-- where a name of an expression is defined here
abbrev pub found : Table → Places → Name → Option Definition
found t p Here = Some (here p)
found t p (Named name) = with_address (lookup (bytes_eq name) t.names)

abbrev pub address_or_0 : Table → Option Definition → ℕ
address_or_0 t None = 0
address_or_0 t (Some d) = address t d

-- the address of the one name, 0 where there is none or it has none here
abbrev pub address_of : Table → Places → List Name → ℕ
address_of t p [] = 0
address_of t p (x ∷ xs) = address_or_0 t (found t p x)

-- ---- expressions: the value is `plus` less `minus`

abbrev pub plus : Table → Places → Sum → ℕ
plus t p sum = address_of t p sum.added + sum.more

abbrev pub minus : Table → Places → Sum → ℕ
minus t p sum = address_of t p sum.taken + sum.less

-- the value is from -low to high
abbrev pub in_range : ℕ → ℕ → ℕ → ℕ → Bool
in_range low high more less = nat_le less (more + low) && nat_le more (less + high)

-- the value modulo 2^32
abbrev pub word : ℕ → ℕ → ℕ
word more less = (more + 4294967296 - less) % 4294967296

-- ---- faults of expressions

abbrev pub lacks : Table → Places → List Name → Bool
lacks t p names = list_any (λ x. is_none (found t p x)) names

-- a name that begins with `L` and is not defined
abbrev pub lost : Table → Name → Bool
lost t Here = false
lost t (Named name) = is_local name && is_none (lookup (bytes_eq name) t.names)

-- names that have to be defined here
abbrev pub missing : Table → Places → Use → List Name → List Name → Bool
missing t p use'.Value added taken = lacks t p added || lacks t p taken
missing t p use'.Field added [] = list_any (lost t) added
missing t p use'.Field added (y ∷ ys) = lacks t p added || lacks t p (y ∷ ys)

abbrev pub apart : Option Definition → Option Definition → Bool
apart None e = true
apart (Some d) None = true
apart (Some d) (Some e) = not (kind_of d.home == kind_of e.home)

-- more than one name added or subtracted, a subtracted one alone, or two of two segments
abbrev pub mixed : Table → Places → List Name → List Name → Bool
mixed t p [] [] = false
mixed t p [] (y ∷ ys) = true
mixed t p (x ∷ []) [] = false
mixed t p (x ∷ []) (y ∷ []) = apart (found t p x) (found t p y)
mixed t p (x ∷ []) (y ∷ z ∷ ys) = true
mixed t p (x ∷ z ∷ xs) ys = true

-- the fault of an expression whose value is to be from -low to high
abbrev pub sum_fault : Table → Places → Use → ℕ → ℕ → Sum → Option ℕ
sum_fault t p used low high sum =
    if sum.over then Some LINE_RANGE
    else (if missing t p used sum.added sum.taken then Some LINE_UNDEFINED
    else (if mixed t p sum.added sum.taken then Some LINE_MIXED
    else (if in_range low high (plus t p sum) (minus t p sum) then None else Some LINE_RANGE)))

-- ---- faults of statements

abbrev pub low_of : Width → ℕ
low_of Byte = 128
low_of Short = 32768
low_of Long = 2147483648

abbrev pub high_of : Width → ℕ
high_of Byte = 255
high_of Short = 65535
high_of Long = 4294967295

abbrev pub first_here : Places → Option Definition → Bool
first_here p None = true
first_here p (Some d) = d.number == p.number

-- another statement before it defines the name
abbrev pub twice : Table → Places → List ℕ → Option ℕ
twice t p name = if first_here p (lookup (bytes_eq name) t.names) then None else Some LINE_TWICE

abbrev pub in_byte : Plain → Bool
in_byte n = in_range 0 255 n.more n.less

-- 71 where the operand is not in its range, else what follows
abbrev pub ranged : Bool → Option ℕ → Option ℕ
ranged true fault = fault
ranged false fault = Some LINE_RANGE

abbrev pub is_accepted : Plain → Bool
is_accepted n = in_byte n && (nat_le 32 (n.more - n.less) || nat_le (n.more - n.less) 9)

abbrev pub has_no_zero : List ℕ → Bool
has_no_zero bytes = not (list_any (λ b. b == 0) bytes)

abbrev pub stab_fits : Stab → Bool
stab_fits s = is_accepted s.kind && in_byte s.other && in_range 32768 65535 s.desc.more s.desc.less && has_no_zero s.name

-- the flags 1 pcrel, 2 or 4 or 0 length, 8 extern
abbrev pub rel_fits : Rel → Bool
rel_fits r =
    nat_le r.address GREATEST_ADDRESS && nat_lt r.symbol SYMBOL_LIMIT && nat_lt r.flags 16 && nat_lt (r.flags / 2 % 4) 3
    && (nat_le 8 r.flags || r.symbol == ABSOLUTE_SEGMENT || r.symbol == TEXT_SEGMENT || r.symbol == DATA_SEGMENT || r.symbol == BSS_SEGMENT)

abbrev pub fault_of : Table → Places → What → Option ℕ
fault_of t p (what.Label name) = twice t p name
fault_of t p (what.Field width sum) = sum_fault t p use'.Field (low_of width) (high_of width) sum
fault_of t p (what.Space n) = ranged (nat_le n SPACE_LIMIT) None
fault_of t p (what.Comm name n) = ranged (nat_le 1 n && nat_le n GREATEST_ADDRESS) (twice t p name)
fault_of t p (what.Lcomm name n) = ranged (nat_le 1 n && nat_le n GREATEST_ADDRESS) (twice t p name)
fault_of t p (what.Stab s) = ranged (stab_fits s) (sum_fault t p use'.Value 2147483648 4294967295 s.value)
fault_of t p (what.Align n) = ranged (nat_le n GREATEST_POWER) None
fault_of t p (what.Entry n) = ranged (nat_le n GREATEST_ADDRESS) None
fault_of t p (what.Machine n) = ranged (nat_le n 65535 && not (n == TWO_ORDERS)) None
fault_of t p (what.Bsize n) = ranged (nat_le n GREATEST_ADDRESS) None
fault_of t p (what.Rel r) = ranged (rel_fits r) None
fault_of t p _ = None

abbrev pub at_line : ℕ → Option ℕ → Option Fault
at_line line None = None
at_line line (Some number) = Some (record { number = number; place = line; within = 0 })

-- the fault at the smaller line, and at one line that with the smaller number
abbrev pub is_later : Fault → Fault → Bool
is_later f g = nat_lt g.place f.place || (g.place == f.place && nat_lt g.number f.number)

abbrev pub earlier : Option Fault → Option Fault → Option Fault
earlier None g = g
earlier (Some f) None = Some f
earlier (Some f) (Some g) = if is_later f g then Some g else Some f

-- the first fault by line and number
abbrev pub faults : Table → Places → List Statement → Option Fault
faults t p [] = None
faults t p (s ∷ ss) = earlier (at_line s.line (fault_of t p s.what)) (faults t (after p s) ss)

abbrev pub first_fault_of : List Statement → Option Fault
first_fault_of ss = faults (table_of ss) start ss

-- ---- undefined names

abbrev pub if_undefined : Option Definition → List ℕ → List (List ℕ)
if_undefined None name = name ∷ []
if_undefined (Some d) name = []

abbrev pub outer_of : Table → List Name → List Name → List (List ℕ)
outer_of t (Named name ∷ []) [] = if_undefined (lookup (bytes_eq name) t.names) name
outer_of t (Here ∷ []) [] = []
outer_of t [] ys = []
outer_of t (x ∷ []) (y ∷ ys) = []
outer_of t (x ∷ z ∷ xs) ys = []

-- the undefined name that a statement uses in a data field
abbrev pub outer : Table → What → List (List ℕ)
outer t (what.Field width sum) = outer_of t sum.added sum.taken
outer t _ = []

-- the undefined names in order of first use
abbrev pub undefined_of : Table → List Statement → List (List ℕ)
undefined_of t ss = first_uses bytes_eq (flat_map (λ s. outer t s.what) ss)

-- ---- bytes

abbrev pub field_bytes : Bool → Width → ℕ → List ℕ
field_bytes big Byte n = bytes_of big 1 (n % 256)
field_bytes big Short n = bytes_of big 2 (n % 65536)
field_bytes big Long n = bytes_of big 4 n

-- the bytes of a statement
abbrev pub bytes_in : Bool → Table → Places → What → List ℕ
bytes_in big t p (what.Field width sum) = field_bytes big width (word (plus t p sum) (minus t p sum))
bytes_in big t p (what.Space n) = replicate n 0
bytes_in big t p (what.Bytes bytes) = bytes
bytes_in big t p (what.Align n) = replicate (padding n (offset_in p)) 0
bytes_in big t p _ = []

-- a list where the statement is in this segment
abbrev pub if_in : {X : Type 0} → Part → Part → List X → List X
if_in part.Text part.Text xs = xs
if_in part.Text part.Data xs = []
if_in part.Data part.Text xs = []
if_in part.Data part.Data xs = xs

-- ---- relocations

abbrev pub length_of : Width → ℕ
length_of Byte = 0
length_of Short = 1
length_of Long = 2

-- how many names stand before this one
abbrev pub place_in : List (List ℕ) → List ℕ → ℕ
place_in names name = unwrap_or (position (bytes_eq name) names) 0

abbrev pub reloc_at : Places → Width → ℕ → Bool → Reloc
reloc_at p width symbol external =
    record { address = offset_in p; symbol = symbol; pcrel = false; length = length_of width; external = external }

-- to the segment of a definition, to the entry of a common
abbrev pub reloc_to : Places → Width → Home → ℕ → Reloc
reloc_to p width home.Text offset = reloc_at p width TEXT_SEGMENT false
reloc_to p width home.Data offset = reloc_at p width DATA_SEGMENT false
reloc_to p width home.Bss offset = reloc_at p width BSS_SEGMENT false
reloc_to p width home.Common offset = reloc_at p width offset true

-- to a definition, or to the entry of an undefined name
abbrev pub reloc_by : Table → List (List ℕ) → Places → Width → List ℕ → Option Definition → Reloc
reloc_by t undefined p width name (Some d) = reloc_to p width d.home d.offset
reloc_by t undefined p width name None = reloc_at p width (t.end.entries + place_in undefined name) true

abbrev pub reloc_of : Table → List (List ℕ) → Places → Width → Name → Reloc
reloc_of t undefined p width Here = reloc_by t undefined p width [] (Some (here p))
reloc_of t undefined p width (Named name) = reloc_by t undefined p width name (lookup (bytes_eq name) t.names)

-- an expression with an added name alone is relocated
abbrev pub relocs_of : Table → List (List ℕ) → Places → Width → List Name → List Name → List Reloc
relocs_of t undefined p width [] taken = []
relocs_of t undefined p width (x ∷ []) [] = reloc_of t undefined p width x ∷ []
relocs_of t undefined p width (x ∷ []) (y ∷ ys) = []
relocs_of t undefined p width (x ∷ z ∷ xs) taken = []

-- a relocation that is written
abbrev pub written : Rel → Reloc
written r = record { address = r.address; symbol = r.symbol; pcrel = r.flags % 2 == 1; length = r.flags / 2 % 4; external = nat_le 8 r.flags }

-- the segment of a statement's relocation
abbrev pub reloc_part : Places → What → Part
reloc_part p (what.Rel r) = r.part
reloc_part p _ = p.part

abbrev pub relocs_in : Table → List (List ℕ) → Places → What → List Reloc
relocs_in t undefined p (what.Field width sum) = relocs_of t undefined p width sum.added sum.taken
relocs_in t undefined p (what.Rel r) = written r ∷ []
relocs_in t undefined p _ = []

-- ---- entries

abbrev pub entry_with : ℕ → ℕ → List ℕ → Named'
entry_with kind value name = record { kind = kind; other = 0; desc = 0; value = value; name = name }

-- the bit N_EXT of a name
abbrev pub ext : Table → List ℕ → ℕ
ext t name = if list_any (bytes_eq name) t.globals then 1 else 0

abbrev pub unless_local : Bool → Named' → List Named'
unless_local true entry = []
unless_local false entry = entry ∷ []

abbrev pub byte_of : Plain → ℕ
byte_of n = word n.more n.less % 256

abbrev pub half_of : Plain → ℕ
half_of n = word n.more n.less % 65536

-- the entry of a stab directive
abbrev pub stab_entry : Table → Places → Stab → Named'
stab_entry t p s = record { kind = byte_of s.kind; other = byte_of s.other; desc = half_of s.desc; value = word (plus t p s.value) (minus t p s.value); name = s.name }

-- where `.lcomm` puts its name
abbrev pub bss_at : Places → Definition
bss_at p = record { home = home.Bss; offset = aligned p.bss; number = p.number }

abbrev pub entries_in : Table → Places → What → List Named'
entries_in t p (what.Label name) = unless_local (is_local name) (entry_with (kind_of (home_of p.part) + ext t name) (address t (here p)) name)
entries_in t p (what.Comm name n) = entry_with UNDEFINED_EXTERNAL n name ∷ []
entries_in t p (what.Lcomm name n) =
    unless_local (is_local name) (entry_with (BSS_SEGMENT + ext t name) (address t (bss_at p)) name)
entries_in t p (what.Stab s) = stab_entry t p s ∷ []
entries_in t p _ = []

-- the entry of an undefined name
abbrev pub undefined_entry : List ℕ → Named'
undefined_entry name = entry_with UNDEFINED_EXTERNAL 0 name
