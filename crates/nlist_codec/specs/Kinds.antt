-- The kinds of the entries that are no stabs. After a.out(5), on `n_type` and `N_EXT`.
use Rattle.std.specs.Prelude.{ℕ, Bool, ◌||◌, ◌==◌}
use Rattle.nlist_codec.specs.declared.kinds.TheConstants.{ABSOLUTE_EXTERNAL, TEXT_EXTERNAL, DATA_EXTERNAL, BSS_EXTERNAL}

-- an entry of this kind defines its name for all objects: as a number, or as an address in text, data or bss
abbrev pub defines_name : ℕ → Bool
defines_name kind = kind == ABSOLUTE_EXTERNAL || kind == TEXT_EXTERNAL || kind == DATA_EXTERNAL || kind == BSS_EXTERNAL
