-- What the kind of an entry says of it where it marks a header, and where it carries a symbol: to all else the entry is nothing.
use Rattle.std.proofs.Common.{◌≡◌, ℕ, ◌⊎◌, inl, inr, Bool, true, false, cond, Option, refl, sym, ap, ◌∙◌, subst, List, [], ◌∷◌}
use Rattle.std.specs.Prelude.{◌==◌, ◌&&◌, ◌||◌}
use Rattle.st_base.specs.Stabs.{is_stab}
use Rattle.stab_codes.specs.declared.code.TheConstants.{N_SO, N_BINCL, N_EINCL, N_EXCL, N_LBRAC, N_RBRAC}
use Rattle.stab_codes.specs.Table.{carries_symbol}
use Rattle.nlist_codec.specs.declared.named.Named.{Named}
use Rattle.unit_outlines.specs.declared.kinds.Nesting.TheVariants.{Opens, Other}
use Rattle.unit_outlines.specs.declared.kinds.Link.TheVariants.{Ends, Goes, Broken}
use Rattle.unit_outlines.specs.EntryWords.{ends_in}
use Rattle.unit_outlines.specs.Nests.{nesting_of}
use Rattle.unit_outlines.specs.Runs.{is_open, link_at, goes, piece_of, continued}
use Rattle.unit_outlines.specs.Marks.{is_header, is_plain}
use Rattle.unit_outlines.proofs.EntryKinds.{is_kind}
use Rattle.stab_units.proofs.AlikeLemmas.{no_carries, both_true}

-- ---- marks of headers

-- an entry of this kind marks a header, and is nothing else
pub record IsMark (k : ℕ) : Type 0 where
  pub stab : is_stab k ≡ true
  pub header : is_header k ≡ true
  pub source : (k == N_SO) ≡ false
  pub plain : is_plain k ≡ false
  pub carries : carries_symbol k ≡ false
  pub blocks : nesting_of N_LBRAC N_RBRAC k ≡ Other
  pub headers : (nesting_of N_BINCL N_EINCL k ≡ Opens) ⊎ (nesting_of N_BINCL N_EINCL k ≡ Other)

begin_mark : IsMark N_BINCL
unfolding carries_symbol
begin_mark = record { stab = refl; header = refl; source = refl; plain = refl; carries = refl; blocks = refl; headers = inl refl }

excluded_mark : IsMark N_EXCL
unfolding carries_symbol
excluded_mark = record { stab = refl; header = refl; source = refl; plain = refl; carries = refl; blocks = refl; headers = inr refl }

header_by : (k : ℕ) (a b : Bool) → (k == N_BINCL) ≡ a → (k == N_EXCL) ≡ b → (a || b) ≡ true → (k ≡ N_BINCL) ⊎ (k ≡ N_EXCL)
header_by k true b first second is = inl (is_kind k N_BINCL first)
header_by k false true first second is = inr (is_kind k N_EXCL second)
header_by k false false first second is = absurd cc

-- there are two kinds of header marks
pub header_kind : (k : ℕ) → is_header k ≡ true → (k ≡ N_BINCL) ⊎ (k ≡ N_EXCL)
header_kind k is = header_by k (k == N_BINCL) (k == N_EXCL) refl refl is

pub header_mark : (k : ℕ) → is_header k ≡ true → IsMark k
header_mark k is = elim (header_kind k is) [ inl one ↦ subst IsMark (sym one) begin_mark | inr one ↦ subst IsMark (sym one) excluded_mark ]

pub either_mark : (begins : Bool) → IsMark (cond begins N_BINCL N_EXCL)
either_mark true = begin_mark
either_mark false = excluded_mark

-- ---- stabs that carry a symbol

-- an entry of this kind is a stab, and is no mark that nests
pub record IsCarrier (k : ℕ) : Type 0 where
  pub stab : is_stab k ≡ true
  pub header : is_header k ≡ false
  pub headers : nesting_of N_BINCL N_EINCL k ≡ Other
  pub blocks : nesting_of N_LBRAC N_RBRAC k ≡ Other

not_kind_by : (k n : ℕ) (b : Bool) → (k == n) ≡ b → carries_symbol k ≡ true → carries_symbol n ≡ false → (k == n) ≡ false
not_kind_by k n true same carries none = let is : carries_symbol k ≡ carries_symbol n = ap carries_symbol (is_kind k n same) in absurd cc
not_kind_by k n false same carries none = same

not_kind : (k n : ℕ) → carries_symbol k ≡ true → carries_symbol n ≡ false → (k == n) ≡ false
not_kind k n carries none = not_kind_by k n (k == n) refl carries none

-- none of these carries a symbol
record Carry : Type 0 where
  source : carries_symbol N_SO ≡ false
  begins : carries_symbol N_BINCL ≡ false
  ends : carries_symbol N_EINCL ≡ false
  excluded : carries_symbol N_EXCL ≡ false
  left : carries_symbol N_LBRAC ≡ false
  right : carries_symbol N_RBRAC ≡ false

none_carry : Carry
unfolding carries_symbol
none_carry = record { source = refl; begins = refl; ends = refl; excluded = refl; left = refl; right = refl }

stab_by : (k : ℕ) (b : Bool) → is_stab k ≡ b → carries_symbol k ≡ true → b ≡ true
stab_by k true is carries = refl
stab_by k false is carries = let none : carries_symbol k ≡ false = no_carries k is in absurd cc

pub carrier : (k : ℕ) → carries_symbol k ≡ true → IsCarrier k
carrier k carries = record {
  stab = stab_by k (is_stab k) refl carries;
  header = rw (not_kind k N_BINCL carries none_carry.begins, not_kind k N_EXCL carries none_carry.excluded) refl;
  headers = rw (not_kind k N_BINCL carries none_carry.begins, not_kind k N_EINCL carries none_carry.ends, not_kind k N_SO carries none_carry.source) refl;
  blocks = rw (not_kind k N_LBRAC carries none_carry.left, not_kind k N_RBRAC carries none_carry.right, not_kind k N_SO carries none_carry.source) refl;
}

-- ---- strings that go on

-- an entry whose string goes on carries a symbol
pub open_carries : (e : Named) → is_open e ≡ true → carries_symbol e.kind ≡ true
open_carries e is = (both_true (carries_symbol e.kind) (ends_in 92 e.name) is).0

-- one that carries none does not go on
pub no_carries_open : (e : Named) → carries_symbol e.kind ≡ false → is_open e ≡ false
no_carries_open e none = ap (λ b. b && ends_in 92 e.name) none

-- and adds nothing
pub no_carries_piece : (e : Named) → carries_symbol e.kind ≡ false → piece_of e ≡ []
no_carries_piece e none = rw none refl

-- a string that does not go on ends, whatever is next
pub closed_ends : (e : Named) (o : Option Named) → is_open e ≡ false → link_at e o ≡ Ends
closed_ends e o closed = rw closed refl

goes_by : (b same : Bool) → goes (cond b (cond same Goes Broken) Ends) ≡ true → (b ≡ true) × (same ≡ true)
goes_by true true is = (refl, refl)
goes_by true false is = absurd cc
goes_by false same is = absurd cc

-- an entry that goes on with a string carries a symbol
pub continued_carries : (back : List Named) (e : Named) → continued back e ≡ true → carries_symbol e.kind ≡ true
continued_carries [] e is = absurd cc
continued_carries (d ∷ back) e is =
    let both = goes_by (is_open d) (e.kind == d.kind) is in
    ap carries_symbol (is_kind e.kind d.kind both.1) ∙ open_carries d both.0
