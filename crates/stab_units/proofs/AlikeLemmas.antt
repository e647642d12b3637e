-- Of entries that are alike, each definition says the same: of a stab it asks for the kind and the name, and an entry that is no
-- stab is to none of them anything. So lists that are alike both have units or both have none.
use Rattle.std.proofs.Common.{◌≡◌, ℕ, inl, inr, Option, Some, None, Bool, true, false, cond, refl, sym, ap, ◌∙◌, List, [], ◌∷◌}
use Rattle.std.specs.Prelude.{◌==◌, ◌&&◌, map, find}
use Rattle.std.specs.Option.{option_map_or}
use Rattle.st_base.specs.declared.fault.Fault.{Fault}
use Rattle.st_base.specs.declared.fault.TheConstants.{OPEN_HEADER, CLOSED_HEADER, BRACKETS}
use Rattle.st_base.specs.Stabs.{is_stab}
use Rattle.stab_codes.specs.declared.code.TheConstants.{N_SO, N_BINCL, N_EINCL, N_EXCL, N_LBRAC, N_RBRAC}
use Rattle.stab_codes.specs.Table.{Row, table, carries_symbol}
use Rattle.nlist_codec.specs.declared.named.Named.{Named}
use Rattle.unit_outlines.specs.declared.kinds.Nesting.TheVariants.{Other}
use Rattle.unit_outlines.specs.declared.kinds.Link.TheVariants.{Ends}
use Rattle.unit_outlines.specs.declared.outline_types.Marks.{Marks}
use Rattle.unit_outlines.specs.declared.outline_types.Marks.TheVariants.{Object}
use Rattle.stab_units.specs.declared.unit.Unit.{Unit}
use Rattle.unit_outlines.specs.EntryWords.{next, ends_in}
use Rattle.unit_outlines.specs.Firsts.{first_told}
use Rattle.unit_outlines.specs.Nests.{nesting_of, in_headers, in_blocks}
use Rattle.unit_outlines.specs.Runs.{is_open, same_kind, link_at, piece_of}
use Rattle.unit_outlines.specs.Marks.{in_unit, is_header, headers_in, is_plain}
use Rattle.unit_outlines.specs.Outlines.{unit_tell, outline_tell, OutlineFault}
use Rattle.stab_units.specs.Units.{string_of}
use Rattle.stab_units.specs.ObjectUnits.{AreUnits}
use Rattle.stab_units.specs.Joining.{AreAlikeStabs, IsAlike, AreAlike}
use Rattle.unit_outlines.proofs.FirstLemmas.{first_of_all}
use Rattle.unit_outlines.proofs.Together.{outline_first, one_fault}
use Rattle.stab_units.proofs.ForgetLemmas.{nest_tell-map, goes_on-map, text_of-map, run_tells-map, first_told-map, same_smallest, same_string}
use Rattle.unit_outlines.proofs.UntoldLemmas.{fault-untold}
use Rattle.unit_outlines.proofs.EntryKinds.{is_kind}
use Rattle.stab_units.proofs.ReadableLemmas.{begins, SpellsAt, Readable, same_spells, units-readable, readable-units}

-- ---- kinds that are no stabs

other_by : (k n : ℕ) (b : Bool) → (k == n) ≡ b → is_stab k ≡ false → is_stab n ≡ true → (k == n) ≡ false
other_by k n true same none stab = let is : is_stab k ≡ is_stab n = ap is_stab (is_kind k n same) in absurd cc
other_by k n false same none stab = same

-- a kind that is no stab is not that of a stab
pub other_kind : (k n : ℕ) → is_stab k ≡ false → is_stab n ≡ true → (k == n) ≡ false
other_kind k n none stab = other_by k n (k == n) refl none stab

-- nor the other way round
other_code_by : (k n : ℕ) (b : Bool) → (n == k) ≡ b → is_stab k ≡ false → is_stab n ≡ true → (n == k) ≡ false
other_code_by k n true same none stab = let is : is_stab n ≡ is_stab k = ap is_stab (is_kind n k same) in absurd cc
other_code_by k n false same none stab = same

-- each row has the code of a stab
all_stabs : List Row → Bool
all_stabs [] = true
all_stabs (row ∷ rows) = is_stab row.code && all_stabs rows

pub both_true : (a b : Bool) → (a && b) ≡ true → (a ≡ true) × (b ≡ true)
both_true true true is = (refl, refl)
both_true true false is = absurd cc
both_true false b is = absurd cc

-- it is in no row of stabs
no_row : (k : ℕ) (rows : List Row) → all_stabs rows ≡ true → is_stab k ≡ false → find (λ row. row.code == k) rows ≡ None
unfolding all_stabs
no_row k [] stabs none = refl
no_row k (row ∷ rows) stabs none =
    let both = both_true (is_stab row.code) (all_stabs rows) stabs in
    rw (other_code_by k row.code (row.code == k) refl none both.0) (no_row k rows both.1 none)

table_stabs : all_stabs table ≡ true
unfolding all_stabs
table_stabs = refl

-- and carries no symbol
pub no_carries : (k : ℕ) → is_stab k ≡ false → carries_symbol k ≡ false
unfolding carries_symbol
no_carries k none = ap (λ row. option_map_or (λ row. row.carries) row false) (no_row k table table_stabs none)

-- it is no mark that nests
no_nesting : (begin end k : ℕ) → is_stab begin ≡ true → is_stab end ≡ true → is_stab k ≡ false → nesting_of begin end k ≡ Other
no_nesting begin end k begins_stab ends_stab none = rw (other_kind k begin none begins_stab, other_kind k end none ends_stab, other_kind k N_SO none refl) refl

-- marks no header
pub no_header : (k : ℕ) → is_stab k ≡ false → is_header k ≡ false
no_header k none = rw (other_kind k N_BINCL none refl, other_kind k N_EXCL none refl) refl

-- and its string does not go on
no_open : (e : Named) → is_stab e.kind ≡ false → is_open e ≡ false
no_open e none = ap (λ b. b && ends_in 92 e.name) (no_carries e.kind none)

-- nor begins
no_piece : (e : Named) → is_stab e.kind ≡ false → piece_of e ≡ []
no_piece e none = rw (no_carries e.kind none) refl

-- ---- two entries

module _ (e f : Named) (like : IsAlike e f) where
  -- both have the kind of some stab, or neither has
  kind_test-like : (n : ℕ) → is_stab n ≡ true → (f.kind == n) ≡ (e.kind == n)
  kind_test-like n stab = elim like [
    | inl one ↦ ap (λ k. k == n) (sym one.kind)
    | inr none ↦ other_kind f.kind n none.second stab ∙ sym (other_kind e.kind n none.first stab)
  ]

  -- to marks that nest they are the same
  nesting-like : (begin end : ℕ) → is_stab begin ≡ true → is_stab end ≡ true → nesting_of begin end f.kind ≡ nesting_of begin end e.kind
  nesting-like begin end begins_stab ends_stab = elim like [
    | inl one ↦ ap (nesting_of begin end) (sym one.kind)
    | inr none ↦ no_nesting begin end f.kind begins_stab ends_stab none.second ∙ sym (no_nesting begin end e.kind begins_stab ends_stab none.first)
  ]

  -- both carry a symbol, or neither does
  carries-like : carries_symbol f.kind ≡ carries_symbol e.kind
  carries-like = elim like [
    | inl one ↦ ap carries_symbol (sym one.kind)
    | inr none ↦ no_carries f.kind none.second ∙ sym (no_carries e.kind none.first)
  ]

  -- they add the same to a string
  piece-like : piece_of f ≡ piece_of e
  piece-like = elim like [
    | inl one ↦ rw (sym one.kind, sym one.name) refl
    | inr none ↦ no_piece f none.second ∙ sym (no_piece e none.first)
  ]

  -- both are stabs that mark no header, or neither is
  plain-like : is_plain f.kind ≡ is_plain e.kind
  plain-like = elim like [
    | inl one ↦ ap is_plain (sym one.kind)
    | inr none ↦ rw (none.first, none.second) refl
  ]

-- ---- lists

no_link : (a b : Bool) (e f : Named) (o p : Option Named) → a ≡ false → b ≡ false → cond a (same_kind f p) Ends ≡ cond b (same_kind e o) Ends
no_link a b e f o p first second = rw (first, second) refl

never_plain : (plain going : Bool) → plain ≡ false → (plain && going) ≡ true → ⊥
never_plain true going other is = absurd cc
never_plain false going other is = absurd cc

-- an entry that is no stab begins none
pub no_plain : (k : ℕ) → is_stab k ≡ false → is_plain k ≡ false
no_plain k none = rw none refl

module _ (h : Named → Named) (like : (e : Named) → IsAlike e (h e)) where
  -- an entry is the same to the ranges of headers
  pub in_headers-like : (e : Named) → in_headers (h e) ≡ in_headers e
  in_headers-like e = nesting-like e (h e) (like e) N_BINCL N_EINCL refl refl

  -- and to blocks
  in_blocks-like : (e : Named) → in_blocks (h e) ≡ in_blocks e
  in_blocks-like e = nesting-like e (h e) (like e) N_LBRAC N_RBRAC refl refl

  -- it adds the same to its string
  piece_of-like : (e : Named) → piece_of (h e) ≡ piece_of e
  piece_of-like e = piece-like e (h e) (like e)

  -- which goes on or not
  link_at-like : (e : Named) (es : List Named) → link_at (h e) (next (map h es)) ≡ link_at e (next es)
  link_at-like e [] = elim (like e) [
    | inl one ↦ rw (sym one.kind, sym one.name) refl
    | inr none ↦ no_link (is_open (h e)) (is_open e) e (h e) None None (no_open (h e) none.second) (no_open e none.first)
  ]
  link_at-like e (f ∷ es) = elim (like e) [
    | inl one ↦ rw (sym one.kind, sym one.name, kind_test-like f (h f) (like f) e.kind one.stab) refl
    | inr none ↦ no_link (is_open (h e)) (is_open e) e (h e) (Some f) (Some (h f)) (no_open (h e) none.second) (no_open e none.first)
  ]

  -- the same entries are in a unit
  in_unit-like : (back : List Named) → in_unit (map h back) ≡ in_unit back
  in_unit-like [] = refl
  in_unit-like (e ∷ back) = elim (like e) [
    | inl one ↦ rw (sym one.kind, sym one.name, in_unit-like back) refl
    | inr none ↦ rw (other_kind (h e).kind N_SO none.second refl, other_kind e.kind N_SO none.first refl) (in_unit-like back)
  ]

  -- after as many headers
  pub headers_in-like : (back : List Named) → headers_in (map h back) ≡ headers_in back
  headers_in-like [] = refl
  headers_in-like (e ∷ back) = elim (like e) [
    | inl one ↦ rw (sym one.kind, headers_in-like back) refl
    | inr none ↦ rw (other_kind (h e).kind N_SO none.second refl, other_kind e.kind N_SO none.first refl, no_header (h e).kind none.second, no_header e.kind none.first) (headers_in-like back)
  ]

  -- what is reported for an entry by itself
  unit_tell-like : (marks : Marks) (back : List Named) (e : Named) (es : List Named) → unit_tell marks (map h back) (h e) (map h es) ≡ unit_tell marks back e es
  unit_tell-like marks back e es = elim (like e) [
    | inl one ↦ rw (in_unit-like back, headers_in-like back, sym one.kind, sym one.name) refl
    | inr none ↦ rw (none.first, none.second) refl
  ]

  -- every fault of an outline is reported at the same entry
  outline_tell-like : (marks : Marks) (back : List Named) (e : Named) (es : List Named) → outline_tell marks (map h back) (h e) (map h es) ≡ outline_tell marks back e es
  outline_tell-like marks back e es = same_smallest _ _ _ _ _ _ _ _
      (unit_tell-like marks back e es)
      (nest_tell-map h in_headers in_headers-like OPEN_HEADER CLOSED_HEADER back e es)
      (nest_tell-map h in_blocks in_blocks-like BRACKETS BRACKETS back e es)
      (run_tells-map h link_at piece_of link_at-like piece_of-like back e es)

  -- the same entries begin a stab
  pub begins-like : (back : List Named) (e : Named) → begins (map h back) (h e) ≡ begins back e
  begins-like back e = rw (plain-like e (h e) (like e), goes_on-map h link_at piece_of link_at-like piece_of-like back e) refl

  -- with the same string
  pub string_of-like : (e : Named) (es : List Named) → AreAlikeStabs e (h e) → string_of (h e) (map h es) ≡ string_of e es
  string_of-like e es one = same_string _ _ _ _ _ _ (sym one.kind) (text_of-map h link_at piece_of link_at-like piece_of-like (e ∷ es)) (sym one.name)

  -- the string spells a symbol where it is to
  spells-like : (back : List Named) (e : Named) (es : List Named) → SpellsAt back e es → SpellsAt (map h back) (h e) (map h es)
  spells-like back e es spell = elim (like e) [
    | inl one ↦ same_spells _ _ _ _ _ _ (sym (begins-like back e)) (sym (carries-like e (h e) (like e))) (sym (string_of-like e es one)) spell
    | inr none ↦ λ begins_here to_spell. absurd (never_plain (is_plain (h e).kind) _ (no_plain (h e).kind none.second) begins_here)
  ]

  like-spells : (back : List Named) (e : Named) (es : List Named) → SpellsAt (map h back) (h e) (map h es) → SpellsAt back e es
  like-spells back e es spell = elim (like e) [
    | inl one ↦ same_spells _ _ _ _ _ _ (begins-like back e) (carries-like e (h e) (like e)) (string_of-like e es one) spell
    | inr none ↦ λ begins_here to_spell. absurd (never_plain (is_plain e.kind) _ (no_plain e.kind none.first) begins_here)
  ]

  -- the same lists can be read
  readable-like : (back es : List Named) → Readable back es → Readable (map h back) (map h es)
  readable-like back [] readable = tt
  readable-like back (e ∷ es) readable = (spells-like back e es readable.0, readable-like (e ∷ []) es readable.1)

  like-readable : (back es : List Named) → Readable (map h back) (map h es) → Readable back es
  like-readable back [] readable = tt
  like-readable back (e ∷ es) readable = (like-spells back e es readable.0, like-readable (e ∷ []) es readable.1)

-- ---- what entries that are alike share

-- the kind and the name of a stab, and nothing of another entry
abbrev shared_by : Bool → Named → Named
shared_by true e = record { kind = e.kind; other = 0; desc = 0; value = 0; name = e.name }
shared_by false e = record { kind = 0; other = 0; desc = 0; value = 0; name = [] }

pub shared : Named → Named
shared e = shared_by (is_stab e.kind) e

like_by : (b : Bool) (e : Named) → is_stab e.kind ≡ b → IsAlike e (shared_by b e)
like_by true e is = inl (record { stab = is; kind = refl; name = refl })
like_by false e is = inr (record { first = is; second = refl })

-- an entry and what it shares are alike
pub shared-like : (e : Named) → IsAlike e (shared e)
unfolding shared
shared-like e = like_by (is_stab e.kind) e refl

-- entries that are alike share it
same_shared : (e f : Named) → IsAlike e f → shared e ≡ shared f
unfolding shared
same_shared e f like = elim like [
  | inl one ↦
      let stab : is_stab f.kind ≡ true = ap is_stab (sym one.kind) ∙ one.stab in
      ap (λ b. shared_by b e) one.stab ∙ rw (one.kind, one.name) refl ∙ ap (λ b. shared_by b f) (sym stab)
  | inr none ↦ ap (λ b. shared_by b e) none.first ∙ ap (λ b. shared_by b f) (sym none.second)
]

-- place by place
pub all_shared : (es fs : List Named) → AreAlike es fs → map shared es ≡ map shared fs
all_shared [] [] alike = refl
all_shared [] (f ∷ fs) alike = absurd alike
all_shared (e ∷ es) [] alike = absurd alike
all_shared (e ∷ es) (f ∷ fs) alike = rw (same_shared e f alike.0, all_shared es fs alike.1) refl

-- ---- lists that are alike

-- where one has no fault of an outline the other has none
alike_outline : (marks : Marks) (es fs : List Named) (f : Option Fault) → map shared es ≡ map shared fs → OutlineFault marks es f → OutlineFault marks fs f
alike_outline marks es fs f same told =
    let first = first_told-map shared (outline_tell marks) (outline_tell-like shared shared-like marks) [] 0 in
    outline_first marks fs f (one_fault marks es f (first_told (outline_tell marks) [] 0 es) told (first_of_all (outline_tell marks) es)
    ∙ sym (first es) ∙ ap (first_told (outline_tell marks) [] 0) same ∙ first fs)

-- where one can be read the other can
alike_readable : (es fs : List Named) → map shared es ≡ map shared fs → Readable [] es → Readable [] fs
alike_readable es fs same readable = like-readable shared shared-like [] fs (rw same at (readable-like shared shared-like [] es readable))

-- where one has units the other has
pub alike_units : (end text_end : ℕ) (es fs : List Named) (us : List Unit) → AreUnits end es us → AreAlike es fs → (units : List Unit) × AreUnits text_end fs units
alike_units end text_end es fs us are alike =
    let same = all_shared es fs alike in
    readable-units text_end fs (fault-untold Object fs (alike_outline Object es fs None same are.no_fault)) (alike_readable es fs same (units-readable end es us are))
