-- The symbol that a string spells, the faults of a string that should spell one, and the first of them. For faults a spelling is
-- that of a symbol of any depth; `Byte` is the first place from which the string begins none, `End` its length where it only
-- begins one, and `Deep` the place of a type that is too deep. This project's own.
use Rattle.std.specs.Prelude.{◌≡◌, ℕ, List}
use Rattle.st_base.specs.declared.fault.Fault.{Fault}
use Rattle.st_base.specs.declared.fault.TheConstants.{BYTE, END, DEEP}
use Rattle.st_base.specs.Faults.{fault_at}
use Rattle.readers.specs.declared.fault.TextFault.{TextFault}
use Rattle.readers.specs.declared.fault.TextFault.TheVariants.{Byte, End, Deep}
use Rattle.readers.specs.Spelling.{Form, Within}
use Rattle.readers.specs.TextFaults.{HasFault, IsFirstFault}
use Rattle.stab_symbols.specs.declared.limits.TheConstants.{GREATEST_DEPTH}
use Rattle.stab_symbols.specs.declared.tree.Symbol.{Symbol}
use Rattle.stab_symbols.specs.SymbolSpelling.{print_symbol}
use Rattle.stab_grammar.specs.Depth.{depths_symbol}
use Rattle.stab_symbols.specs.Shape.{ShapedSymbol}

-- ---- the symbol that a string spells

-- the text spells the symbol, whose types are at most 100 deep
pub record IsSpelling (s : Symbol) (text : List ℕ) : Type 0 where
  pub shaped : ShapedSymbol s
  pub depth : Within GREATEST_DEPTH (depths_symbol s)
  pub spelled : text ≡ print_symbol s

-- ---- the faults of a string

-- symbols: how they are spelled, where types begin, and which have a spelling
abbrev pub symbol_form : Form Symbol
symbol_form = record { print = print_symbol; depths = depths_symbol; shaped = ShapedSymbol }

-- the string has the fault
abbrev pub HasStringFault : List ℕ → TextFault → Type 0
HasStringFault = HasFault GREATEST_DEPTH symbol_form

-- it is the one with the least place
abbrev pub IsFirstStringFault : List ℕ → TextFault → Type 0
IsFirstStringFault = IsFirstFault GREATEST_DEPTH symbol_form

-- ---- the fault that is reported

-- number 40, 41 or 42, and the place in the string
abbrev pub fault_of : TextFault → Fault
fault_of (Byte place) = fault_at BYTE place
fault_of (End place) = fault_at END place
fault_of (Deep place) = fault_at DEEP place

-- the first fault of the string is reported so
pub record IsStringFault (text : List ℕ) (fault : Fault) : Type 0 where
  pub first : TextFault
  pub is_first : IsFirstStringFault text first
  pub told : fault ≡ fault_of first
