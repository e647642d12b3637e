-- Entries without the values of N_BINCL, which carry no debug information: a linker writes its own there, to tell equal headers by.
-- After "The stabs debug format", on include files.
use Rattle.std.specs.Prelude.{◌==◌, cond}
use Rattle.stab_codes.specs.declared.code.TheConstants.{N_BINCL}
use Rattle.nlist_codec.specs.declared.named.Named.{Named}

-- an N_BINCL without its value; every other entry as it is
abbrev pub forgotten : Named → Named
forgotten e = cond (e.kind == N_BINCL) (record e { value = 0 }) e
