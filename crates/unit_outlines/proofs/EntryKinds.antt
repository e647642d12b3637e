-- What the kind of an entry says of it as a mark of a source or of a header.
use Rattle.std.proofs.Common.{◌≡◌, ℕ, Option, Bool, true, false, cond, arith, ap, refl}
use Rattle.std.specs.Prelude.{◌==◌}
use Rattle.st_base.specs.Stabs.{is_stab}
use Rattle.stab_codes.specs.declared.code.TheConstants.{N_SO, N_BINCL, N_EINCL}
use Rattle.nlist_codec.specs.declared.named.Named.{Named}
use Rattle.unit_outlines.specs.declared.kinds.Nesting.TheVariants.{Opens, Closes, Parts, Other}
use Rattle.unit_outlines.specs.declared.kinds.SourceMark.TheVariants.{NoMark}
use Rattle.unit_outlines.specs.Nests.{nesting_of}
use Rattle.unit_outlines.specs.Marks.{is_header, mark_at}

-- the test of a kind holds of that kind
pub is_kind : (n m : ℕ) → (n == m) ≡ true → n ≡ m
is_kind n m e = grind arith

-- ---- marks that nest

opens_by : (a b d : Bool) → cond a Opens (cond b Closes (cond d Parts Other)) ≡ Opens → a ≡ true
opens_by true b d is = refl
opens_by false true d is = absurd cc
opens_by false false true is = absurd cc
opens_by false false false is = absurd cc

closes_by : (a b d : Bool) → cond a Opens (cond b Closes (cond d Parts Other)) ≡ Closes → b ≡ true
closes_by true b d is = absurd cc
closes_by false true d is = refl
closes_by false false true is = absurd cc
closes_by false false false is = absurd cc

parts_by : (a b d : Bool) → cond a Opens (cond b Closes (cond d Parts Other)) ≡ Parts → d ≡ true
parts_by true b d is = absurd cc
parts_by false true d is = absurd cc
parts_by false false true is = refl
parts_by false false false is = absurd cc

-- what opens a range is an N_BINCL
pub opens_kind : (k : ℕ) → nesting_of N_BINCL N_EINCL k ≡ Opens → k ≡ N_BINCL
opens_kind k is = is_kind k N_BINCL (opens_by (k == N_BINCL) (k == N_EINCL) (k == N_SO) is)

-- and so the mark of a header
pub opens_header : (k : ℕ) → nesting_of N_BINCL N_EINCL k ≡ Opens → is_header k ≡ true
opens_header k is = ap is_header (opens_kind k is)

-- what closes one is a stab
pub closes_stab : (k : ℕ) → nesting_of N_BINCL N_EINCL k ≡ Closes → is_stab k ≡ true
closes_stab k is = ap is_stab (is_kind k N_EINCL (closes_by (k == N_BINCL) (k == N_EINCL) (k == N_SO) is))

-- what parts units is an N_SO
pub parts_source : (k : ℕ) → nesting_of N_BINCL N_EINCL k ≡ Parts → (k == N_SO) ≡ true
parts_source k is = parts_by (k == N_BINCL) (k == N_EINCL) (k == N_SO) is

pub source_parts : (k : ℕ) → (k == N_SO) ≡ true → nesting_of N_BINCL N_EINCL k ≡ Parts
source_parts k is = ap (nesting_of N_BINCL N_EINCL) (is_kind k N_SO is)

pub source_header : (k : ℕ) → (k == N_SO) ≡ true → is_header k ≡ false
source_header k is = ap is_header (is_kind k N_SO is)

-- what is no N_SO is no mark of a source
pub no_source_mark : (e : Named) (o : Option Named) → (e.kind == N_SO) ≡ false → mark_at e o ≡ NoMark
no_source_mark e o other = rw other refl
